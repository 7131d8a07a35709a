-- What listeners have heard and a observer has seen, one event after the other: the texts of what they have heard stay.
use Rattle.std.proofs.Common.{◌≡◌, ◌≢◌, ◌⊎◌, inl, inr, ℕ, suc, ◌≤◌, List, [], ◌∷◌, ◌++◌, length, Option, Some, slice_get, refl, sym, ap, ◌∙◌, subst, arith, append-nil, append_assoc}
use Rattle.std.proofs.lemmas.List.{map-append}
use Rattle.std.proofs.lemmas.Option.{slice_get_within}
use Rattle.plan_events.specs.declared.event.EventKind.{EventKind}
use Rattle.plan_events.specs.declared.event.EventKind.TheVariants.{Started, Finished, Skipped, Registered}
use Rattle.plan_events.specs.declared.event.Event.{Event}
use Rattle.plan_events.specs.declared.outcome.Reply.{Reply}
use Rattle.plan_events.specs.Texts.{TextParts, text_at}
use Rattle.resource_locks.specs.Plans.{PlanParts, most_events}
use Rattle.table_rule.specs.declared.view.View.{View}
use Rattle.table_rule.specs.Plays.{dispatcher}
use Rattle.thread_pool.specs.Telling.{IsNoted}
use Rattle.event_history.specs.Places.{StandsAt}
use Rattle.event_history.specs.History.{IsLegal}
use Rattle.event_history.proofs.Places.{stands_later}
use Rattle.listeners.specs.Listeners.{Telling, text_by, text_told, telling, tellings_of, HasHeardMore}
use Rattle.listeners.specs.Observing.{HasSeenMore, KeepsSight}
use Rattle.thread_pool.specs.Seeing.{HasSeenSince}
use Rattle.thread_pool.proofs.Carried.{last_stands}

-- where each of these events has one text in both, the tellings are the same
same_tellings : (old new : TextParts) (es : List Event) → ((i : ℕ) (f : Event) → slice_get es i ≡ Some f → text_told new f ≡ text_told old f) → tellings_of new es ≡ tellings_of old es
same_tellings old new [] same = refl
same_tellings old new (f ∷ es) same =
    ap (λ (t : Option (List ℕ)). record { event = f; text = t } ∷ tellings_of new es) (same 0 f refl)
    ∙ ap (λ (ts : List Telling). telling old f ∷ ts) (same_tellings old new es (λ i g q. same (suc i) g q))

-- the event that is read last changes the text of its node alone, if it skips or finishes that
module _ (p : PlanParts) (replies : ℕ → List Reply) (workers : ℕ) (h : List Event) (e : Event) (legal : IsLegal p replies workers (h ++ e ∷ [])) where
  abbrev now : List Event
  now = h ++ e ∷ []

  last : (k : EventKind) → e.kind ≡ k → StandsAt now (length h) k e.node
  last k kind = record { event = e; here = last_stands h e; kind = kind; node = refl }

  earlier : (i : ℕ) (f : Event) (k : EventKind) → slice_get h i ≡ Some f → f.kind ≡ k → f.node ≡ e.node → StandsAt now i k e.node
  earlier i f k here kind node = stands_later (e ∷ []) (record { event = f; here = here; kind = kind; node = node })

  twice : (i : ℕ) (f : Event) (k : EventKind) → slice_get h i ≡ Some f → f.kind ≡ k → f.node ≡ e.node → e.kind ≡ k → ⊥
  twice i f k here kind node is =
      let low = slice_get_within h i f here in
      let same = legal.once i (length h) e.node k (earlier i f k here kind node) (last k is) in
      omega (arith, low, same)

  both : (i j : ℕ) → StandsAt now i Skipped e.node → StandsAt now j Finished e.node → ⊥
  both i j s f = (let start = legal.after_start j e.node f in legal.apart start.place i e.node start.stands s)

  -- so none of those before was of its node
  fresh : (i : ℕ) (f : Event) (k : EventKind) → slice_get h i ≡ Some f → f.node ≡ e.node → (f.kind ≡ Finished) ⊎ (f.kind ≡ Skipped) → (e.kind ≡ Finished) ⊎ (e.kind ≡ Skipped) → ⊥
  fresh i f k here node was is = elim was [
    | inl a ↦ elim is [
      | inl b ↦ twice i f Finished here a node b
      | inr b ↦ both (length h) i (last Skipped b) (earlier i f Finished here a node)
    ]
    | inr a ↦ elim is [
      | inl b ↦ both i (length h) (earlier i f Skipped here a node) (last Finished b)
      | inr b ↦ twice i f Skipped here a node b
    ]
  ]

  module _ (old new : TextParts) (others : (n : ℕ) → n ≢ e.node → text_at new n ≡ text_at old n) (silent : e.kind ≢ Finished → e.kind ≢ Skipped → new ≡ old) where
    quiet : (k : EventKind) → e.kind ≡ k → (Finished ≡ k → ⊥) → (Skipped ≡ k → ⊥) → tellings_of new h ≡ tellings_of old h
    quiet k is no_finish no_skip = ap (λ (t : TextParts). tellings_of t h) (silent (λ q. no_finish (sym q ∙ is)) (λ q. no_skip (sym q ∙ is)))

    one : (e.kind ≡ Finished) ⊎ (e.kind ≡ Skipped) → (i : ℕ) (f : Event) → slice_get h i ≡ Some f → text_told new f ≡ text_told old f
    one ends i f here = by f.kind refl
      where
        by : (k : EventKind) → f.kind ≡ k → text_by k (text_at new f.node) ≡ text_by k (text_at old f.node)
        by Started is = refl
        by Registered is = refl
        by Finished is = others f.node (λ node. fresh i f Finished here node (inl is) ends)
        by Skipped is = others f.node (λ node. fresh i f Skipped here node (inr is) ends)

    pub tellings_stay : tellings_of new h ≡ tellings_of old h
    tellings_stay = by e.kind refl
      where
        by : (k : EventKind) → e.kind ≡ k → tellings_of new h ≡ tellings_of old h
        by Started is = quiet Started is (λ x. cc) (λ x. cc)
        by Registered is = quiet Registered is (λ x. cc) (λ x. cc)
        by Finished is = same_tellings old new h (one (inl is))
        by Skipped is = same_tellings old new h (one (inr is))

abbrev rest : {X : Type 0} → List X → List X
rest [] = []
rest (x ∷ xs) = xs

-- where the tellings of all are the same, so are those of the last
last_tellings : (old new : TextParts) (was more : List Event) → tellings_of new (was ++ more) ≡ tellings_of old (was ++ more) → tellings_of new more ≡ tellings_of old more
last_tellings old new [] more same = same
last_tellings old new (e ∷ was) more same = last_tellings old new was more (ap rest same)

-- what was read since, one event later; its texts stay with those of all; and from a start it is all
module _ (was read more : List Event) (so : read ≡ was ++ more) where
  since_is : (later : List Event) (e : Event) → later ≡ read ++ e ∷ [] → later ≡ was ++ (more ++ e ∷ [])
  since_is later e is = is ∙ ap (λ (l : List Event). l ++ e ∷ []) so ∙ append_assoc was more (e ∷ [])

  since_stay : (old new : TextParts) → tellings_of new read ≡ tellings_of old read → tellings_of new more ≡ tellings_of old more
  since_stay old new stay = last_tellings old new was more (subst (λ (l : List Event). tellings_of new l ≡ tellings_of old l) so stay)

  since_all : (events : List Event) → was ≡ [] → events ≡ read → events ≡ more
  since_all events none same = same ∙ so ∙ ap (λ (l : List Event). l ++ more) none

-- one who hears: who is as it was has heard nothing more, and one event more is after what it had heard
module _ {X : Type 0} (heard : X → List Telling → Type 0) where
  more_none : (x : X) → HasHeardMore heard [] x x
  more_none x before h = subst (heard x) (sym (append-nil before)) h

  more_one : (old new : TextParts) (more : List Event) (e : Event) (a b c : X) → tellings_of new more ≡ tellings_of old more
      → HasHeardMore heard (telling new e ∷ []) b c → HasHeardMore heard (tellings_of old more) a b → HasHeardMore heard (tellings_of new (more ++ e ∷ [])) a c
  more_one old new more e a b c front one so before h = subst (heard c)
      (append_assoc before (tellings_of old more) (telling new e ∷ [])
      ∙ ap (λ (ts : List Telling). before ++ (ts ++ telling new e ∷ [])) (sym front)
      ∙ ap (λ (ts : List Telling). before ++ ts) (sym (map-append (telling new) more (e ∷ []))))
      (one (before ++ tellings_of old more) (so before h))

-- who observes a plan
module _ {L : Type 0} (saw : PlanParts → L → L → List Telling → Type 0) (p : PlanParts) where
  pub seen_none : (texts : TextParts) (was : List Event) (v : L) → HasSeenSince saw p texts was was v v
  seen_none texts was v = record { more = []; is = sym (append-nil was); seen = λ first. more_none (saw p first) v }

  -- one event more, of a plan that is this one
  pub seen_more : (old new : TextParts) (was read now : List Event) (e : Event) (a b c : L) (q : PlanParts) → now ≡ read ++ e ∷ [] → tellings_of new read ≡ tellings_of old read
      → p ≡ q → HasSeenMore saw q (telling new e ∷ []) b c → HasSeenSince saw p old was read a b → HasSeenSince saw p new was now a c
  seen_more old new was read now e a b c q is stay plan shown so =
      let front = since_stay was read so.more so.is old new stay in
      let one : HasSeenMore saw p (telling new e ∷ []) b c = subst (λ (r : PlanParts). HasSeenMore saw r (telling new e ∷ []) b c) (sym plan) shown in
      record {
        more = so.more ++ e ∷ [];
        is = since_is was read so.more so.is now e is;
        seen = λ first. more_one (saw p first) old new so.more e a b c front (one first) (so.seen first);
      }

  -- a moment later, in which there was nothing to see
  pub seen_kept : (texts : TextParts) (was read : List Event) (a b c : L) → KeepsSight saw b c → HasSeenSince saw p texts was read a b → HasSeenSince saw p texts was read a c
  seen_kept texts was read a b c keeps so = record {
    more = so.more;
    is = so.is;
    seen = λ first before seen. keeps p first (before ++ tellings_of texts so.more) (so.seen first before seen);
  }

  -- of a run from its start
  pub seen_whole : (texts : TextParts) (was read events : List Event) (a b : L) → was ≡ [] → events ≡ read → HasSeenSince saw p texts was read a b → HasSeenMore saw p (tellings_of texts events) a b
  seen_whole texts was read events a b none same so = subst (λ (es : List Event). HasSeenMore saw p (tellings_of texts es) a b) (sym (since_all was read so.more so.is events none same)) so.seen

-- one event more is noted, where there is room as before
pub noted_more : {B : Type 0} (old new : View B) (noted later : List Event) (e : Event) (room wide : ℕ) → new.about ≡ old.about → (dispatcher new).read ≡ (dispatcher old).read ++ e ∷ [] → later ≡ noted ++ e ∷ [] → wide ≡ room → IsNoted old noted room → IsNoted new later wide
noted_more old new noted later e room wide about read more same is = record {
  read = more ∙ ap (λ (l : List Event). l ++ e ∷ []) is.read ∙ sym read;
  enough = subst (λ (n : ℕ). most_events new.about.plan ≤ n) (sym same) (subst (λ a. most_events a.plan ≤ room) (sym about) is.enough);
}
