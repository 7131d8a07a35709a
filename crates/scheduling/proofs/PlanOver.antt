-- What a settled plan leaves: no node lives, every worker is free, all that was drawn is shown, and the plan has finished.
use Rattle.std.proofs.Common.{◌≡◌, ℕ, ◌<◌, Bool, true, false, List, [], ◌∷◌, ◌++◌, length, Some, None, slice_get, slice_index_or, inl, inr, refl, sym, ap, ◌∙◌, subst, arith, append-nil}
use Rattle.std.proofs.lemmas.Option.{none-some, slice_get_within, slice_get-get_or}
use Rattle.std.proofs.lemmas.Bool.{cases_eq, false≢true}
use Rattle.descriptor.specs.Nodes.{size, is_spare_at}
use Rattle.plan_events.specs.declared.event.Event.{Event}
use Rattle.plan_events.specs.declared.event.EventKind.TheVariants.{Finished, Skipped}
use Rattle.plan_events.specs.declared.outcome.Reply.{Reply}
use Rattle.resource_locks.specs.Plans.{PlanParts}
use Rattle.event_history.specs.Places.{StandsAt, StandsBefore}
use Rattle.event_history.proofs.Branches.{below_root}
use Rattle.event_history.proofs.Places.{get_next, has_before}
use Rattle.event_history.proofs.Roots.{plan_unskipped}
use Rattle.event_history.proofs.Whole.{complete_at_finish}
use Rattle.scheduling.specs.declared.status.NodeStatus.TheVariants.{Claimed, Settled}
use Rattle.scheduling.specs.declared.task.Opening.{Opening}
use Rattle.scheduling.specs.declared.task.Opening.TheVariants.{Registering, RegisteredAt, Offering, Noticing, Locking, Weighed, Backing, Beginning, StartedAt, Awaiting, Admitting, Guarding}
use Rattle.scheduling.specs.declared.task.Closing.{Closing}
use Rattle.scheduling.specs.declared.task.Closing.TheVariants.{AwaitingAfter, Ending, FinishedAt, SkippedAt, Raising, Giving, Settling, Looking, Passing, CountingOff}
use Rattle.scheduling.specs.declared.task.Task.{Task}
use Rattle.scheduling.specs.declared.task.Task.TheVariants.{Free, Opens, Closes}
use Rattle.scheduling.specs.declared.seat.Seat.{Seat}
use Rattle.scheduling.specs.State.{State, status_at}
use Rattle.scheduling.specs.Rows.{read_event, read_row}
use Rattle.scheduling.specs.Shown.{named, IsPlaced}
use Rattle.scheduling.specs.Inside.Stages.{How, Gave, Kept, Skips, Stage, Unseen, Offered, OpenedBy, InHand, Waiting, ClosedBy, Over, picture, has_mark, is_live}
use Rattle.scheduling.specs.Inside.Invariant.{IsCorePlan, ShapeOk, TaskOk, Holds}
use Rattle.scheduling.proofs.GoingBasics.{hidden_settled, ready_settled, settled_claimed}
use Rattle.scheduling.proofs.GoingLocks.{above_runs}
use Rattle.event_history.specs.History.{IsComplete}

module _ (p : PlanParts) (core : IsCorePlan p) (replies : ℕ → List Reply) (s : State) (g : ℕ → Stage) (h : Holds p replies s g) (placed : IsPlaced s) (settled : status_at s 0 ≡ Settled) where
  -- a plan that is settled is over
  root_over : (how : How) × (g 0 ≡ Over how)
  root_over = go (g 0) refl (sym (h.words 0 core.plan.rooted.root) ∙ settled)
    where
      claimed_not : (w : ℕ) → Claimed w ≡ Settled → ⊥
      claimed_not w q = settled_claimed w (sym q)

      closes : (w c : ℕ) (d : Closing) (how : How) → g 0 ≡ ClosedBy w c d how → (picture p 0 (ClosedBy w c d how)).word ≡ Settled → ShapeOk p replies s.published 0 (ClosedBy w c d how) → ⊥
      closes w c AwaitingAfter how at q ok = claimed_not c q
      closes w c (Ending st) how at q ok = claimed_not c q
      closes w c (FinishedAt j st) how at q ok = claimed_not c q
      closes w c (SkippedAt j) how at q ok = claimed_not c q
      closes w c Raising how at q ok = claimed_not c q
      closes w c (Giving j) how at q ok = claimed_not c q
      closes w c Settling how at q ok = claimed_not c q
      closes w c (Looking m) how at q ok = (let pos = ok.elder.elder.above_zero in omega (arith, pos))
      closes w c (Passing m o) how at q ok = (let pos = ok.elder.elder.above_zero in omega (arith, pos))
      closes w c CountingOff how at q ok = omega (arith, ok)

      opens : (w : ℕ) (d : Opening) → (picture p 0 (OpenedBy w d)).word ≡ Settled → ⊥
      opens w Registering q = hidden_settled (sym q)
      opens w (RegisteredAt j) q = hidden_settled (sym q)
      opens w Offering q = hidden_settled (sym q)
      opens w (Beginning true) q = claimed_not w q
      opens w (Beginning false) q = claimed_not w q
      opens w Noticing q = claimed_not w q
      opens w (Locking k) q = claimed_not w q
      opens w (Weighed k v) q = claimed_not w q
      opens w (Backing k) q = claimed_not w q
      opens w (StartedAt k) q = claimed_not w q
      opens w Awaiting q = claimed_not w q
      opens w (Admitting c) q = claimed_not w q
      opens w Guarding q = claimed_not w q

      go : (st : Stage) → g 0 ≡ st → (picture p 0 st).word ≡ Settled → (how : How) × (g 0 ≡ Over how)
      go Unseen at q = absurd (hidden_settled (sym q))
      go (Offered o) at q = absurd (ready_settled o q)
      go (OpenedBy w d) at q = absurd (opens w d q)
      go (InHand w) at q = absurd (claimed_not w q)
      go (Waiting c r) at q = absurd (claimed_not c q)
      go (ClosedBy w c d how) at q = absurd (closes w c d how at q (subst (ShapeOk p replies s.published 0) at (h.shapes 0 core.plan.rooted.root)))
      go (Over how) at q = (how, at)

  -- then no node is live
  none_live : (x : ℕ) → x < size p.tree → is_live (g x) ≡ true → ⊥
  none_live x lt live =
      elim (cases_eq x 0) [
        | inl e ↦ false≢true (sym (ap is_live root_over.1) ∙ ap (λ k. is_live (g k)) (sym e) ∙ live)
        | inr ne ↦ (let up = above_runs p core replies s g h 0 x (below_root p core.plan x (omega (arith, ne)) lt) live in settled_claimed up.0 (sym settled ∙ up.2.1))
      ]

  -- so every worker is free, and all that was drawn is shown
  all_free : (w : ℕ) (seat : Seat) → slice_get s.seats w ≡ Some seat → seat.task ≡ Free
  all_free w seat is = go seat.task (h.seats w seat is).task
    where
      go : (t : Task) → TaskOk p g w t → t ≡ Free
      go Free ok = refl
      go (Opens x d) ok = absurd (none_live x ok.0 (ap is_live ok.1))
      go (Closes x d) ok = absurd (none_live x ok.0 (ap is_live ok.1.2))

  all_shown : (k : ℕ) → slice_get s.shown k ≡ Some false → ⊥
  all_shown k hidden =
      let n = placed.unshown k hidden in
      none-some (k, n.event) (sym (ap (named n.worker) (all_free n.worker n.seat n.is)) ∙ n.names)

  -- and the plan has finished
  plan_finish : StandsBefore s.published (length s.published) Finished 0
  plan_finish = go root_over.0 root_over.1
    where
      go : (how : How) → g 0 ≡ Over how → StandsBefore s.published (length s.published) Finished 0
      go Gave at = has_before Finished 0 s.published (h.flags Finished 0 core.plan.rooted.root ∙ ap (λ st. has_mark (is_spare_at p.tree 0) Finished (picture p 0 st).mark) at)
      go Kept at = has_before Finished 0 s.published (h.flags Finished 0 core.plan.rooted.root ∙ ap (λ st. has_mark (is_spare_at p.tree 0) Finished (picture p 0 st).mark) at)
      go Skips at =
          let b = has_before Skipped 0 s.published (h.flags Skipped 0 core.plan.rooted.root ∙ ap (λ st. has_mark (is_spare_at p.tree 0) Skipped (picture p 0 st).mark) at) in
          absurd (plan_unskipped p core.plan replies (length s.seats) s.published h.published.legal b.place b.stands)

  -- Where nothing is left to be read, all is given, the history is complete, and the plan has finished.
  pub plan_over : read_row s ≡ None → (s.given ≡ s.published) × (IsComplete p s.published × ((k : ℕ) × StandsAt s.published k Finished 0))
  plan_over ended =
      let finish = plan_finish in
      (all_given h.given.rest h.given.front, (complete_at_finish p core.plan replies (length s.seats) s.published h.published.legal finish.place finish.stands, (finish.place, finish.stands)))
    where
      no_event : (e : Event) → slice_get s.published (length s.given) ≡ Some e → ⊥
      no_event e at =
          let within = slice_get_within s.published (length s.given) e at in
          let len = h.shown_len in
          by_shown (slice_index_or s.shown (length s.given) false) refl (slice_get-get_or s.shown (length s.given) false (omega (arith, within, len)))
        where
          by_shown : (b : Bool) → slice_index_or s.shown (length s.given) false ≡ b → slice_get s.shown (length s.given) ≡ Some (slice_index_or s.shown (length s.given) false) → ⊥
          by_shown true is get = none-some (record s { given = s.given ++ e ∷ [] }) (sym ended ∙ ap (λ b. read_event s b (slice_get s.published (length s.given))) is ∙ ap (read_event s true) at)
          by_shown false is get = all_shown (length s.given) (get ∙ ap Some is)

      all_given : (rest : List Event) → s.given ++ rest ≡ s.published → s.given ≡ s.published
      all_given [] front = sym (append-nil s.given) ∙ front
      all_given (e ∷ more) front = absurd (no_event e (ap (λ l. slice_get l (length s.given)) (sym front) ∙ get_next s.given e more))
