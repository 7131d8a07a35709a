-- The plan's finish and a complete history go together.
use Rattle.std.proofs.Common.{◌≡◌, ℕ, ◌<◌, ◌+◌, true, false, List, length, Option, Some, None, inl, inr, sym, ap, ◌∙◌, subst, arith}
use Rattle.std.proofs.lemmas.Option.{same_Some}
use Rattle.std.proofs.lemmas.Bool.{cases_eq, false≢true}
use Rattle.plan_events.specs.declared.event.EventKind.{EventKind}
use Rattle.plan_events.specs.declared.event.EventKind.TheVariants.{Started, Finished, Skipped, Registered}
use Rattle.plan_events.specs.declared.status.Status.{Status}
use Rattle.plan_events.specs.declared.status.Status.TheVariants.{Successful, Aborted, Failed}
use Rattle.plan_events.specs.declared.event.Event.{Event}
use Rattle.plan_events.specs.declared.outcome.Reply.{Reply}
use Rattle.plan_events.specs.Statuses.{is_successful}
use Rattle.plan_events.specs.Words.{plan_may}
use Rattle.resource_locks.specs.Plans.{PlanParts}
use Rattle.event_history.specs.Plans.{IsPlanTree}
use Rattle.event_history.specs.Places.{StandsAt}
use Rattle.event_history.specs.History.{IsStopped, IsLegal, IsComplete}
use Rattle.event_history.proofs.Places.{stands_within, settled_more}
use Rattle.event_history.proofs.Branches.{below_root}
use Rattle.event_history.proofs.Histories.{finished_below}
use Rattle.event_history.proofs.Roots.{plan_finished, nothing_after}
use Rattle.event_history.proofs.Lawful.{plan_event}

-- the plan's finish stands last
pub record EndsInPlan (h : List Event) : Type 0 where
  pub place : ℕ
  pub stands : StandsAt h place Finished 0
  pub last : place + 1 ≡ length h

module _ (p : PlanParts) (tree : IsPlanTree p.tree) (replies : ℕ → List Reply) (workers : ℕ) (h : List Event) (legal : IsLegal p replies workers h) where
  -- node 0 ends with success, so it is not stopped
  plan_unstopped : IsStopped p h 0 → ⊥
  plan_unstopped s = go s.finish.event.kind s.finish.event.status s.status s.finish.kind s.ends s.unsuccessful (plan_event s.finish.event (legal.lawful s.place s.finish.event s.finish.here) s.finish.node)
    where
      good : (x y : Status) → Some x ≡ Some y → is_successful y ≡ false → is_successful x ≡ false
      good x y q r = ap is_successful (same_Some x y q) ∙ r

      go : (k : EventKind) (o : Option Status) (s : Status) → k ≡ Finished → o ≡ Some s → is_successful s ≡ false → plan_may k o ≡ true → ⊥
      go Finished (Some Successful) s q r u m = false≢true (sym (good Successful s r u))
      go Finished (Some Aborted) s q r u m = false≢true m
      go Finished (Some Failed) s q r u m = false≢true m
      go Finished None s q r u m = false≢true m
      go Started o s q r u m = cc
      go Skipped o s q r u m = cc
      go Registered o s q r u m = cc

  -- Where the plan's finish stands, the history is complete.
  pub complete_at_finish : (i : ℕ) → StandsAt h i Finished 0 → IsComplete p h
  complete_at_finish i root n inside =
      let within : i < length h = stands_within root in
      elim (cases_eq n 0) [
        | inl z ↦ inl (inl (record { place = i; before = within; stands = subst (λ (m : ℕ). StandsAt h i Finished m) (sym z) root }))
        | inr ne ↦ elim (finished_below p replies workers h legal tree 0 n i (below_root p tree n (omega (arith, ne)) inside) root plan_unstopped) [
          | inl s ↦ inl (settled_more i (length h) n (omega (arith, within)) s)
          | inr r ↦ inr r
        ]
      ]

  -- And a complete history ends in it.
  pub ends_in_plan : IsComplete p h → EndsInPlan h
  ends_in_plan complete = (let r = plan_finished p tree replies workers h legal complete in record { place = r.0; stands = r.1; last = nothing_after p tree replies workers h legal r.0 r.1 })
