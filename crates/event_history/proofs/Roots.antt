-- What a complete legal history has of node 0.
use Rattle.std.proofs.Common.{◌≡◌, ℕ, ◌+◌, ◌<◌, true, List, length, Option, Some, slice_get, inl, inr, refl, arith}
use Rattle.std.proofs.lemmas.Bool.{cases_eq, cases_lt, false≢true}
use Rattle.plan_events.specs.declared.event.EventKind.{EventKind}
use Rattle.plan_events.specs.declared.event.EventKind.TheVariants.{Started, Finished, Skipped, Registered}
use Rattle.plan_events.specs.declared.status.Status.{Status}
use Rattle.plan_events.specs.declared.event.Event.{Event}
use Rattle.plan_events.specs.declared.outcome.Reply.{Reply}
use Rattle.plan_events.specs.Words.{plan_may}
use Rattle.resource_locks.proofs.Lines.{last_step}
use Rattle.resource_locks.specs.Plans.{PlanParts}
use Rattle.event_history.specs.Plans.{IsPlanTree}
use Rattle.event_history.specs.Places.{StandsAt, StandsBefore}
use Rattle.event_history.specs.History.{IsLegal, IsComplete}
use Rattle.event_history.proofs.Places.{event_at, stands_within}
use Rattle.event_history.proofs.Branches.{below_root}
use Rattle.event_history.proofs.Lawful.{plan_event}

module _ (p : PlanParts) (tree : IsPlanTree p.tree) (replies : ℕ → List Reply) (workers : ℕ) (h : List Event) (legal : IsLegal p replies workers h) where
  pub plan_unskipped : (i : ℕ) → StandsAt h i Skipped 0 → ⊥
  plan_unskipped i s = go s.event.kind s.event.status s.kind (plan_event s.event (legal.lawful i s.event s.here) s.node)
    where
      go : (k : EventKind) (o : Option Status) → k ≡ Skipped → plan_may k o ≡ true → ⊥
      go Skipped o q r = false≢true r
      go Started o q r = cc
      go Finished o q r = cc
      go Registered o q r = cc

  pub plan_unregistered : (i : ℕ) → StandsAt h i Registered 0 → ⊥
  plan_unregistered i s = go s.event.kind s.event.status s.kind (plan_event s.event (legal.lawful i s.event s.here) s.node)
    where
      go : (k : EventKind) (o : Option Status) → k ≡ Registered → plan_may k o ≡ true → ⊥
      go Registered o q r = false≢true r
      go Started o q r = cc
      go Finished o q r = cc
      go Skipped o q r = cc

  -- node 0 has finished
  pub plan_finished : IsComplete p h → (i : ℕ) × StandsAt h i Finished 0
  plan_finished complete =
      elim (complete 0 tree.rooted.root) [
        | inl s ↦ elim s [ inl d ↦ (d.place, d.stands) | inr d ↦ absurd (plan_unskipped d.place d.stands) ]
        | inr r ↦ elim r [
          | inl bar ↦ (let pos = (last_step p.tree bar.0 0 bar.1.1).0.above_zero in absurd (omega (arith, pos)))
          | inr u ↦ absurd (false≢true u.spare)
        ]
      ]

  -- no event stands after the plan's finish
  pub none_after : (i j : ℕ) (e : Event) → StandsAt h i Finished 0 → slice_get h j ≡ Some e → i < j → ⊥
  none_after i j e root q lt =
      elim (cases_eq e.node 0) [
        | inr ne ↦ legal.open_above j 0 e q (below_root p tree e.node (omega (arith, ne)) (legal.nodes j e q)) (record { place = i; before = lt; stands = root })
        | inl z ↦ at_root z e.kind refl
      ]
    where
      start : StandsBefore h i Started 0
      start = legal.after_start i 0 root

      at_root : e.node ≡ 0 → (k : EventKind) → e.kind ≡ k → ⊥
      at_root z Started k =
          let same : start.place ≡ j = legal.once start.place j 0 Started start.stands (record { event = e; here = q; kind = k; node = z }) in
          let before : start.place < i = start.before in
          omega (arith, same, before, lt)
      at_root z Finished k = (let same : i ≡ j = legal.once i j 0 Finished root (record { event = e; here = q; kind = k; node = z }) in omega (arith, same, lt))
      at_root z Skipped k = plan_unskipped j (record { event = e; here = q; kind = k; node = z })
      at_root z Registered k = plan_unregistered j (record { event = e; here = q; kind = k; node = z })

  -- The plan's finish stands last.
  pub nothing_after : (i : ℕ) → StandsAt h i Finished 0 → i + 1 ≡ length h
  nothing_after i root =
      let within : i < length h = stands_within root in
      elim (cases_lt (i + 1) (length h)) [
        | inr le ↦ omega (arith, within, le)
        | inl lt ↦ (let next = event_at h (i + 1) lt in absurd (none_after i (i + 1) next.0 root next.1 (omega arith)))
      ]
