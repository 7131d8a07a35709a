-- Once the plan's finish is drawn no worker has a factory in hand: so what is read then is the history of a run of the core by what the jobs told.
use Rattle.std.proofs.Common.{◌≡◌, ℕ, Bool, true, false, List, Some, slice_get, refl, sym, ap, ◌∙◌, subst, inl, inr, arith}
use Rattle.std.proofs.lemmas.Bool.{cases_eq, false≢true}
use Rattle.atomic_table.specs.Table.{State as TableState}
use Rattle.descriptor.specs.Nodes.{is_spare_at}
use Rattle.plan_events.specs.declared.event.EventKind.TheVariants.{Finished}
use Rattle.plan_events.specs.declared.outcome.Reply.{Reply}
use Rattle.resource_locks.specs.Plans.{PlanParts}
use Rattle.event_history.specs.Places.{StandsAt}
use Rattle.event_history.proofs.Places.{stands_has}
use Rattle.event_history.proofs.Branches.{below_root}
use Rattle.scheduling.specs.declared.task.Opening.{Opening}
use Rattle.scheduling.specs.declared.task.Opening.TheVariants.{Beginning}
use Rattle.scheduling.specs.declared.task.Closing.{Closing}
use Rattle.scheduling.specs.declared.task.Closing.TheVariants.{AwaitingAfter}
use Rattle.scheduling.specs.declared.seat.Hand.{Hand}
use Rattle.scheduling.specs.declared.seat.Seat.{Seat}
use Rattle.scheduling.specs.State.{State}
use Rattle.scheduling.specs.Inside.Stages.{How, Gave, Kept, Skips, Stage, Unseen, Offered, OpenedBy, InHand, Waiting, ClosedBy, Over, Runs, below_of, has_mark, is_live, picture}
use Rattle.scheduling.specs.Inside.Invariant.{IsCorePlan, IsInHand, HandOk, IsKept}
use Rattle.scheduling.proofs.GoingLocks.{above_runs}
use Rattle.scheduling.proofs.Headline.{core_plan}
use Rattle.table_rule.specs.declared.view.About.{About}
use Rattle.table_rule.specs.declared.view.View.{View}
use Rattle.table_rule.specs.declared.view.Slot.{Slot}
use Rattle.table_rule.specs.Picture.{Dealt, IsPictureOf}
use Rattle.table_rule.specs.Reached.{IsReached, IsRunOfCore}

-- what runs its children has not finished
over_runs : (how : How) (o from : ℕ) → below_of how ≡ Runs o from → ⊥
over_runs Gave o from q = cc
over_runs Kept o from q = cc
over_runs Skips o from q = cc

opening_unfinished : (p : PlanParts) (n w : ℕ) (d : Opening) (spare : Bool) → has_mark spare Finished (picture p n (OpenedBy w d)).mark ≡ false
opening_unfinished p n w (Beginning true) spare = refl
opening_unfinished p n w (Beginning false) spare = refl
opening_unfinished p n w _ spare = refl

closing_below : (p : PlanParts) (n w c : ℕ) (d : Closing) (how : How) → (picture p n (ClosedBy w c d how)).below ≡ below_of how
closing_below p n w c AwaitingAfter how = refl
closing_below p n w c _ how = refl

runs_unfinished : (p : PlanParts) (n : ℕ) (st : Stage) (spare : Bool) (o from : ℕ) → (picture p n st).below ≡ Runs o from → has_mark spare Finished (picture p n st).mark ≡ false
runs_unfinished p n Unseen spare o from q = refl
runs_unfinished p n (Offered to) spare o from q = refl
runs_unfinished p n (OpenedBy w d) spare o from q = opening_unfinished p n w d spare
runs_unfinished p n (InHand w) spare o from q = refl
runs_unfinished p n (Waiting c result) spare o from q = refl
runs_unfinished p n (ClosedBy w c d how) spare o from q = absurd (over_runs how o from (sym (closing_below p n w c d how) ∙ q))
runs_unfinished p n (Over how) spare o from q = absurd (over_runs how o from q)

module _ (p : PlanParts) (core : IsCorePlan p) (told : ℕ → List Reply) (s : State) (kept : IsKept p told s) (i : ℕ) (finish : StandsAt s.published i Finished 0) where
  abbrev g : ℕ → Stage
  g = kept.0

  finished : has_mark (is_spare_at p.tree 0) Finished (picture p 0 (g 0)).mark ≡ true
  finished = sym (kept.1.flags Finished 0 core.plan.rooted.root) ∙ stands_has Finished 0 s.published i finish.event finish.here finish.kind finish.node

  pub no_hands : (w : ℕ) (seat : Seat) (hand : Hand) → slice_get s.seats w ≡ Some seat → seat.hand ≡ Some hand → ⊥
  no_hands w seat hand at is =
      let ok : IsInHand p g s.published w hand = subst (HandOk p g s.published w) is (kept.1.seats w seat at).hand in
      elim (cases_eq hand.factory 0) [
        | inl e ↦ false≢true (sym (ap (λ (st : Stage). has_mark (is_spare_at p.tree 0) Finished (picture p 0 st).mark) (ap g (sym e) ∙ ok.at)) ∙ finished)
        | inr ne ↦ (let inside = ok.inside in
            let up = above_runs p core told s g kept.1 0 hand.factory (below_root p core.plan hand.factory (omega (arith, ne)) inside) (ap is_live ok.at) in
            false≢true (sym (runs_unfinished p 0 (g 0) (is_spare_at p.tree 0) up.0 up.1 up.2.0) ∙ finished))
      ]

pub whole_run : {B : Type 0} (told : ℕ → List Reply) (key : About B) (c : State) (dealt : Dealt) (s : TableState (Slot B) (View B)) → IsPictureOf told key c dealt s → IsReached key.plan key.workers told c
    → (i : ℕ) → StandsAt c.published i Finished 0 → c.given ≡ c.published → IsRunOfCore key.plan key.workers told c.given
whole_run told key c dealt s r reached i finish whole reply agrees =
    let x = reached.from reply (record { told_is = agrees; asked = λ w seat hand job at is body. absurd (no_hands key.plan (core_plan key.plan r.plan.tree) told c r.kept i finish w seat hand at is) }) in
    record { steps = x.steps; replied = x.given; drawn = ap (λ (u : State). u.published) x.is ∙ sym whole; given = ap (λ (u : State). u.given) x.is }
