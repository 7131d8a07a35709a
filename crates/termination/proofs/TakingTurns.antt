-- Of two nodes that take turns one is settled, or the other has not begun.
use Rattle.std.proofs.Common.{◌≡◌, ℕ, ◌<◌, true, false, List, inl, inr, refl, sym, subst, arith}
use Rattle.std.proofs.lemmas.Bool.{both_ways, false≢true}
use Rattle.plan_events.specs.declared.outcome.Reply.{Reply}
use Rattle.resource_locks.specs.Declarations.{AtOrBelow}
use Rattle.resource_locks.specs.Plans.{PlanParts}
use Rattle.event_history.specs.Order.{goes_first}
use Rattle.event_history.specs.Plans.{IsElder}
use Rattle.scheduling.specs.declared.task.Closing.{Closing}
use Rattle.scheduling.specs.declared.task.Closing.TheVariants.{AwaitingAfter, Ending, FinishedAt, SkippedAt, Raising, Giving, Settling, Looking, Passing, CountingOff}
use Rattle.scheduling.specs.State.{State}
use Rattle.scheduling.specs.Inside.Stages.{How, Gave, Kept, Skips, Stage, Unseen, Offered, OpenedBy, InHand, Waiting, ClosedBy, Over, Shut, Runs, Past, below_of, picture, is_unseen, is_live, is_past}
use Rattle.scheduling.specs.Inside.Invariant.{IsCorePlan, Holds}
use Rattle.scheduling.proofs.GoingLocks.{above_runs}
use Rattle.termination.specs.Conflicts.{TakeTurns}

-- it is neither unseen nor has it passed its turn on
abbrev pub IsAtWork : Stage → Type 0
IsAtWork st = (is_live st ≡ true) × (is_past st ≡ false)

shut_runs : (o from : ℕ) → Shut ≡ Runs o from → ⊥
shut_runs o from q = cc

past_runs : (o from : ℕ) → Past ≡ Runs o from → ⊥
past_runs o from q = cc

below_runs : (how : How) (o from : ℕ) → below_of how ≡ Runs o from → ⊥
below_runs Gave o from q = past_runs o from q
below_runs Kept o from q = shut_runs o from q
below_runs Skips o from q = shut_runs o from q

closed_runs : (p : PlanParts) (n w c : ℕ) (d : Closing) (how : How) (o from : ℕ) → (picture p n (ClosedBy w c d how)).below ≡ Runs o from → ⊥
closed_runs p n w c AwaitingAfter how o from q = below_runs how o from q
closed_runs p n w c (Ending status) how o from q = below_runs how o from q
closed_runs p n w c (FinishedAt i status) how o from q = below_runs how o from q
closed_runs p n w c (SkippedAt i) how o from q = below_runs how o from q
closed_runs p n w c Raising how o from q = below_runs how o from q
closed_runs p n w c (Giving i) how o from q = below_runs how o from q
closed_runs p n w c Settling how o from q = below_runs how o from q
closed_runs p n w c (Looking m) how o from q = below_runs how o from q
closed_runs p n w c (Passing m v) how o from q = below_runs how o from q
closed_runs p n w c CountingOff how o from q = below_runs how o from q

-- who runs its children is at work
runs_at_work : (p : PlanParts) (n : ℕ) (st : Stage) (o from : ℕ) → (picture p n st).below ≡ Runs o from → IsAtWork st
runs_at_work p n Unseen o from q = absurd (shut_runs o from q)
runs_at_work p n (Offered to) o from q = absurd (shut_runs o from q)
runs_at_work p n (OpenedBy w d) o from q = (refl, refl)
runs_at_work p n (InHand w) o from q = (refl, refl)
runs_at_work p n (Waiting c result) o from q = (refl, refl)
runs_at_work p n (ClosedBy w c d how) o from q = absurd (closed_runs p n w c d how o from q)
runs_at_work p n (Over how) o from q = absurd (below_runs how o from q)

closed_holds : (p : PlanParts) (n w c i : ℕ) (d : Closing) (how : How) → i < (picture p n (ClosedBy w c d how)).keys → is_past (ClosedBy w c d how) ≡ false
closed_holds p n w c i CountingOff how lt = absurd (omega (arith, lt))
closed_holds p n w c i _ how lt = refl

-- and so is who holds a key
pub holds_at_work : (p : PlanParts) (n i : ℕ) (st : Stage) → i < (picture p n st).keys → IsAtWork st
holds_at_work p n i Unseen lt = absurd (omega (arith, lt))
holds_at_work p n i (Offered to) lt = absurd (omega (arith, lt))
holds_at_work p n i (OpenedBy w d) lt = (refl, refl)
holds_at_work p n i (InHand w) lt = (refl, refl)
holds_at_work p n i (Waiting c result) lt = (refl, refl)
holds_at_work p n i (ClosedBy w c d how) lt = (refl, closed_holds p n w c i d how lt)
holds_at_work p n i (Over how) lt = absurd (omega (arith, lt))

live_seen : (st : Stage) → is_live st ≡ true → is_unseen st ≡ false
live_seen Unseen q = absurd (false≢true q)
live_seen _ q = refl

module _ (p : PlanParts) (core : IsCorePlan p) (replies : ℕ → List Reply) (s : State) (g : ℕ → Stage) (h : Holds p replies s g) where
  above_at_work : (a x : ℕ) → AtOrBelow p.tree a x → IsAtWork (g x) → IsAtWork (g a)
  above_at_work a x (inl same) work = subst (λ (n : ℕ). IsAtWork (g n)) (sym same) work
  above_at_work a x (inr below) work = (let r = above_runs p core replies s g h a x below work.0 in runs_at_work p a (g a) r.0 r.1 r.2.0)

  one_turn : (elder younger m n : ℕ) → IsElder p.tree elder younger → goes_first p elder younger ≡ true → AtOrBelow p.tree elder m → AtOrBelow p.tree younger n → IsAtWork (g m) → IsAtWork (g n) → ⊥
  one_turn elder younger m n siblings first at_elder at_younger m_work n_work =
      let early = above_at_work elder m at_elder m_work in
      let late = above_at_work younger n at_younger n_work in
      both_ways (is_past (g elder)) early.1 (h.elders elder younger siblings first (live_seen (g younger) late.0))

  -- Two nodes that take turns are not at work both.
  pub not_both : (m n : ℕ) → TakeTurns p m n → IsAtWork (g m) → IsAtWork (g n) → ⊥
  not_both m n turns m_work n_work =
      elim turns.at [
        | inl z ↦ one_turn turns.elder turns.younger m n turns.siblings turns.first z.0 z.1 m_work n_work
        | inr z ↦ one_turn turns.elder turns.younger n m turns.siblings turns.first z.0 z.1 n_work m_work
      ]
