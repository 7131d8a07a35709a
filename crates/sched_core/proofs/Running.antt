-- The machine's steps as steps of a run.
use Rattle.std.proofs.Common.{◌≡◌, ◌+◌, ℕ, List, ◌∷◌, Option, Some, None, Result, Ok, Err, IsOk, IsErr, sym, ap, arith}
use Rattle.plan_events.specs.declared.outcome.Reply.{Reply}
use Rattle.resource_locks.specs.Plans.{PlanParts}
use Rattle.scheduling.specs.declared.step.Step.{Step}
use Rattle.scheduling.specs.State.{State}
use Rattle.sched_core.specs.declared.machine.Machine.{Machine}
use Rattle.sched_core.specs.Steps.{after_step}
use Rattle.sched_core.specs.Inside.Fields.{state_of, IsAnswered}
use Rattle.sched_core.specs.Runs.{run, passed_over, missed, state_or}

-- an answer is not both
apart : {T E : Type 0} (r : Result T E) → IsOk r → IsErr r → ⊥
apart (Ok x) o e = cc
apart (Err x) o e = cc

-- one step more of a run
pub run_step : {T E : Type 0} (p : PlanParts) (answers : List (ℕ × Reply)) (old new : Machine) (a : Step) (rest : List Step) (result : Result T E) → IsAnswered old (after_step p answers (state_of old) a) result new
    → run p answers (state_of old) (a ∷ rest) ≡ run p answers (state_of new) rest
run_step p answers old new a rest result is = go (after_step p answers (state_of old) a) is
  where
    go : (next : Option State) → IsAnswered old next result new → run p answers (state_or (state_of old) next) rest ≡ run p answers (state_of new) rest
    go None q = ap (λ (m : Machine). run p answers (state_of m) rest) (sym q.1)
    go (Some t) q = ap (λ (s : State). run p answers s rest) (sym q.1)

pub passed_ok : {T E : Type 0} (p : PlanParts) (answers : List (ℕ × Reply)) (old new : Machine) (a : Step) (rest : List Step) (result : Result T E) → IsAnswered old (after_step p answers (state_of old) a) result new → IsOk result
    → passed_over p answers (state_of old) (a ∷ rest) ≡ passed_over p answers (state_of new) rest
passed_ok p answers old new a rest result is ok = go (after_step p answers (state_of old) a) is
  where
    go : (next : Option State) → IsAnswered old next result new → missed next + passed_over p answers (state_or (state_of old) next) rest ≡ passed_over p answers (state_of new) rest
    go None q = absurd (apart result ok q.0)
    go (Some t) q = (let same = ap (λ (s : State). passed_over p answers s rest) (sym q.1) in omega (arith, same))

pub passed_err : {T E : Type 0} (p : PlanParts) (answers : List (ℕ × Reply)) (old new : Machine) (a : Step) (rest : List Step) (result : Result T E) → IsAnswered old (after_step p answers (state_of old) a) result new → IsErr result
    → passed_over p answers (state_of old) (a ∷ rest) ≡ 1 + passed_over p answers (state_of new) rest
passed_err p answers old new a rest result is err = go (after_step p answers (state_of old) a) is
  where
    go : (next : Option State) → IsAnswered old next result new → missed next + passed_over p answers (state_or (state_of old) next) rest ≡ 1 + passed_over p answers (state_of new) rest
    go None q = ap (λ (m : Machine). 1 + passed_over p answers (state_of m) rest) (sym q.1)
    go (Some t) q = absurd (apart result q.0 err)
