-- A run that is not over goes on, and comes to its end where its steps are bounded.
use Rattle.std.proofs.Common.{◌≡◌, ℕ, List, [], ◌∷◌, Option, Some, None, ◌⊎◌, inl, inr, refl, ap, ◌∙◌, subst}
use Rattle.plan_events.specs.declared.outcome.Reply.{Reply}
use Rattle.resource_locks.specs.Plans.{PlanParts, IsPlan}
use Rattle.resource_locks.specs.Spares.{HasFreeSpares}
use Rattle.scheduling.specs.State.{State}
use Rattle.scheduling.specs.Rows.{Step, after}
use Rattle.scheduling.specs.Runs.{opening, or_stays, next, run}
use Rattle.scheduling.specs.Inside.Invariant.{IsCorePlan, IsKept}
use Rattle.scheduling.proofs.FirstState.{opening_is}
use Rattle.scheduling.proofs.Headline.{core_plan, run_keeps}
use Rattle.never_stuck.specs.Reaching.{AllGiven, IsEnded, CanEnd, only}
use Rattle.never_stuck.proofs.Reach.{run_append, replied_all}
use Rattle.never_stuck.proofs.Theorem.{never_stuck}
use Rattle.termination.specs.Conflicts.{IsFreeOfConflict}
use Rattle.termination.specs.Endings.{GoesOn, RestsAtItsEnd, EveryRunEnds}
use Rattle.termination.proofs.Differs.{step_differs}
use Rattle.termination.proofs.Short.{short}

module _ (p : PlanParts) (core : IsCorePlan p) (reply : ℕ → Reply) where
  -- what is sought at a state from which these steps lead to the end
  abbrev Sought : State → List Step → Type 0
  Sought s more = IsKept p (only reply) s → AllGiven p reply s more → IsEnded p (run p s more) → IsEnded p s ⊎ GoesOn p reply s

  -- a step that makes the same state is passed over
  passed : (s : State) (a : Step) (more : List Step) → ((t : State) → Sought t more) → next p s a ≡ s → Sought s (a ∷ more)
  passed s a more rest e kept given ended = rest s kept (subst (λ (x : State). AllGiven p reply x more) e given.1) (subst (λ (x : State). IsEnded p (run p x more)) e ended)

  by_step : (s : State) (a : Step) (more : List Step) → ((t : State) → Sought t more) → (found : Option State) → after p s a ≡ found → Sought s (a ∷ more)
  by_step s a more rest None q kept given ended = passed s a more rest (ap (or_stays s) q) kept given ended
  by_step s a more rest (Some t) q kept given ended =
      elim (step_differs p core (only reply) s t a kept (replied_all p reply (only reply) (λ job. refl) s (a ∷ []) (given.0, tt)).0 q) [
        | inl same ↦ passed s a more rest (ap (or_stays s) q ∙ same) kept given ended
        | inr other ↦ inr (record { step = a; given = given.0; taken = record { made = t; is = q; other = other } })
      ]

  -- of steps that lead to the end the first that changes the state is taken
  pub over_or_on : (s : State) (more : List Step) → Sought s more
  over_or_on s [] kept given ended = inl ended
  over_or_on s (a ∷ more) kept given ended = by_step s a more (λ t. over_or_on t more) (after p s a) refl kept given ended

pub rests : (p : PlanParts) → IsPlan p → HasFreeSpares p → RestsAtItsEnd p
rests p plan spares reply workers some few list replied = (let core = core_plan p plan.tree in so core (never_stuck p plan spares reply workers some few list replied))
  where
    so : IsCorePlan p → CanEnd p reply workers list → IsEnded p (run p (opening p workers) list) ⊎ GoesOn p reply (run p (opening p workers) list)
    so core c =
        over_or_on p core reply (run p (opening p workers) list) c.more (run_keeps p core (only reply) (opening p workers) list (opening_is p core (only reply) workers few) replied) c.given
        (subst (IsEnded p) (run_append p (opening p workers) list c.more) c.ended)

pub ends : (p : PlanParts) → IsPlan p → IsFreeOfConflict p → HasFreeSpares p → EveryRunEnds p
ends p plan apart spares reply workers some few list replied taken = (short p plan apart (only reply) workers few list replied taken, rests p plan spares reply workers some few list replied)
