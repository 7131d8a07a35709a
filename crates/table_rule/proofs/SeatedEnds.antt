-- Workers that have no seat are idle, so the steps to the end need not be theirs: the state with the seats of the others alone has
-- steps to its end, and those of the others do the same from the state itself.
use Rattle.std.proofs.Common.{◌≡◌, ℕ, zero, suc, ◌+◌, ◌-◌, ◌<◌, ◌≤◌, ◌==◌, cond, Bool, true, false, List, [], ◌∷◌, Some, slice_get, inl, inr, sym, ap, ◌∙◌, subst, eq-eqb, arith}
use Rattle.std.proofs.lemmas.Bool.{cases_lt, cond-true}
use Rattle.std.proofs.lemmas.Option.{none-some, same_Some, slice_get_within}
use Rattle.atomic_table.specs.Table.{State as TableState}
use Rattle.plan_events.specs.declared.event.Event.{Event}
use Rattle.plan_events.specs.declared.outcome.Reply.{Reply}
use Rattle.resource_locks.specs.Plans.{PlanParts, IsPlan}
use Rattle.resource_locks.specs.Spares.{HasFreeSpares}
use Rattle.event_history.specs.Parts.{part_of}
use Rattle.scheduling.specs.Rows.{Step, Works, Dispatches}
use Rattle.scheduling.specs.Runs.{next, run}
use Rattle.scheduling.specs.State.{State}
use Rattle.scheduling.proofs.Headline.{core_plan}
use Rattle.never_stuck.specs.Inside.Live.{IsLive}
use Rattle.never_stuck.specs.Reaching.{AllGiven, AreIdleFrom, IsEnded, only}
use Rattle.never_stuck.proofs.FirstLive.{first_live}
use Rattle.never_stuck.proofs.FirstSeats.{first_seats, take_get, works_same, reads_same, others_rest}
use Rattle.table_rule.specs.declared.view.About.{About}
use Rattle.table_rule.specs.declared.view.Slot.{Slot}
use Rattle.table_rule.specs.declared.view.View.{View}
use Rattle.table_rule.specs.Endings.{AllHaveRoom, CanEndWithin}
use Rattle.table_rule.specs.Picture.{Dealt, IsIdle, IsPictureOf, free_seat}
use Rattle.table_rule.proofs.RingEnds.{ends_within}

not_empty : (x : Event) (l : List Event) → x ∷ l ≡ [] → ⊥
not_empty x l q = cc

-- an event of a worker is in its part
part_some : (k : ℕ) (h : List Event) (i : ℕ) (e : Event) → slice_get h i ≡ Some e → e.worker ≡ k → part_of k h ≡ [] → ⊥
part_some k [] i e at is none = none-some e at
part_some k (x ∷ h) zero e at is none =
    let here : (x.worker == k) ≡ true = eq-eqb x.worker k (ap (λ (y : Event). y.worker) (same_Some x e at) ∙ is) in
    not_empty x (part_of k h) (sym (cond-true (x.worker == k) (x ∷ part_of k h) (part_of k h) here) ∙ none)
part_some k (x ∷ h) (suc i) e at is none = by (part_some k h i e at is) (x.worker == k) none
  where
    by : (part_of k h ≡ [] → ⊥) → (b : Bool) → cond b (x ∷ part_of k h) (part_of k h) ≡ [] → ⊥
    by later true q = not_empty x (part_of k h) q
    by later false q = later q

module _ (p : PlanParts) (ring many : ℕ) (reply : ℕ → Reply) where
  -- The steps that are the first workers' or the dispatcher's, from the state itself.
  carried : (steps : List Step) (s : State) → AllGiven p reply (first_seats many s) steps → AllHaveRoom p ring (first_seats many s) steps → IsEnded p (run p (first_seats many s) steps) → CanEndWithin p ring many reply s
  carried [] s given room ended = record {
    steps = [];
    first = tt;
    given = tt;
    room = tt;
    ended = record { settled = ended.settled; given = ended.given; complete = ended.complete; place = ended.place; finish = ended.finish };
  }
  carried (Dispatches ∷ steps) s given room ended =
      let same = reads_same many p s in
      let t : State = next p s Dispatches in
      let more = carried steps t (subst (λ (u : State). AllGiven p reply u steps) same given.1) (subst (λ (u : State). AllHaveRoom p ring u steps) same room.1) (subst (λ (u : State). IsEnded p (run p u steps)) same ended) in
      record { steps = Dispatches ∷ more.steps; first = (tt, more.first); given = (tt, more.given); room = (tt, more.room); ended = more.ended }
  carried (Works w a r ∷ steps) s given room ended =
      elim (cases_lt w many) [
        | inl low ↦ (let same = works_same many p s w a r low in
            let t : State = next p s (Works w a r) in
            let more = carried steps t (subst (λ (u : State). AllGiven p reply u steps) same given.1) (subst (λ (u : State). AllHaveRoom p ring u steps) same room.1) (subst (λ (u : State). IsEnded p (run p u steps)) same ended) in
            record {
              steps = Works w a r ∷ more.steps;
              first = (low, more.first);
              given = ((λ seat at. given.0 seat (take_get many s.seats w low ∙ at)), more.given);
              room = ((λ seat i e at names. room.0 seat i e (take_get many s.seats w low ∙ at) names), more.room);
              ended = more.ended;
            })
        | inr far ↦ (let same = others_rest many p s w a r far in
            carried steps s (subst (λ (u : State). AllGiven p reply u steps) same given.1) (subst (λ (u : State). AllHaveRoom p ring u steps) same room.1) (subst (λ (u : State). IsEnded p (run p u steps)) same ended))
      ]

  -- From every state that has what reached states have, where all other workers are idle.
  pub ends_seated : IsPlan p → 0 < ring → 0 < many → HasFreeSpares p → (s : State) → IsLive p (only reply) reply s → AreIdleFrom many s → CanEndWithin p ring many reply s
  ends_seated plan place some spares s live idle =
      let e = ends_within p ring reply plan place spares (first_seats many s) (first_live p (core_plan p plan.tree) (only reply) reply many some s live idle) in
      carried e.steps s e.given e.room e.ended

-- From the number of those that have a seat on, and from each higher one, all workers are idle.
pub idle_from : {B : Type 0} (told : ℕ → List Reply) (key : About B) (c : State) (dealt : Dealt) (s : TableState (Slot B) (View B)) → IsPictureOf told key c dealt s → (many : ℕ) → dealt.many ≤ many → AreIdleFrom many c
idle_from told key c dealt s r many most = record {
  free = λ w seat far at. (let low = slice_get_within c.seats w seat at in
      let size = r.workers in
      same_Some seat free_seat (sym at ∙ (r.idle w (omega (arith, far, most)) (omega (arith, low, size))).seat));
  drawn = λ i e at. elim (cases_lt many e.worker) [
    | inl more ↦ absurd (let all = r.kept.1.published.legal.by_workers i e at in
        let size = r.workers in
        let was : IsIdle c (e.worker - 1) = r.idle (e.worker - 1) (omega (arith, more, most)) (omega (arith, more, all, size)) in
        part_some ((e.worker - 1) + 1) c.published i e at (omega (arith, more)) was.nothing)
    | inr few ↦ few
  ];
}
