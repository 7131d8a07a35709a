-- Facts about the places of a list, and the tests on it.
use Rattle.std.proofs.Common.{◌≡◌, ℕ, zero, suc, ◌<◌, ◌≤◌, Bool, true, ◌==◌, List, [], ◌∷◌, ◌++◌, length, Some, slice_get, ◌⊎◌, inl, inr, refl, sym, ap, ◌∙◌, subst, arith}
use Rattle.std.proofs.lemmas.Option.{slice_get_within, slice_get_cases, same_Some, none-some}
use Rattle.std.proofs.lemmas.Bool.{and_parts, or_cases, or_left, or_right, and_from, eqb-true, eq-eqb, false≢true}
use Rattle.plan_events.specs.declared.event.EventKind.{EventKind}
use Rattle.plan_events.specs.declared.event.EventKind.TheVariants.{Started, Finished, Skipped, Registered}
use Rattle.plan_events.specs.declared.event.Event.{Event}
use Rattle.event_history.specs.Places.{same_kind, StandsAt, StandsBefore, IsSettledAt, is_of, has_event, has}

-- an element of a list that has one more
pub get_added : {X : Type 0} (h : List X) (e f : X) (i : ℕ) → slice_get (h ++ e ∷ []) i ≡ Some f → (slice_get h i ≡ Some f) ⊎ ((i ≡ length h) × (f ≡ e))
get_added [] e f zero q = inr (refl, sym (same_Some e f q))
get_added [] e f (suc i) q = absurd (none-some f q)
get_added (x ∷ h) e f zero q = inl q
get_added (x ∷ h) e f (suc i) q = elim (get_added h e f i q) [ inl a ↦ inl a | inr b ↦ inr (ap suc b.0, b.1) ]

pub get_front : {X : Type 0} (h g : List X) (f : X) (i : ℕ) → slice_get h i ≡ Some f → slice_get (h ++ g) i ≡ Some f
get_front [] g f i q = absurd (none-some f q)
get_front (x ∷ h) g f zero q = q
get_front (x ∷ h) g f (suc i) q = get_front h g f i q

-- an element of a list, at a place of its first part, stands in that part
pub get_back : {X : Type 0} (h g : List X) (f : X) (i : ℕ) → i < length h → slice_get (h ++ g) i ≡ Some f → slice_get h i ≡ Some f
get_back [] g f i lt q = absurd (omega (arith, lt))
get_back (x ∷ h) g f zero lt q = q
get_back (x ∷ h) g f (suc i) lt q = get_back h g f i (omega (arith, lt)) q

-- the first element behind a list
pub get_next : {X : Type 0} (g : List X) (e : X) (r : List X) → slice_get (g ++ e ∷ r) (length g) ≡ Some e
get_next [] e r = refl
get_next (x ∷ g) e r = get_next g e r

pub same_kind-true : (k l : EventKind) → same_kind k l ≡ true → k ≡ l
same_kind-true Started Started q = refl
same_kind-true Finished Finished q = refl
same_kind-true Skipped Skipped q = refl
same_kind-true Registered Registered q = refl
same_kind-true _ _ q = absurd (false≢true q)

pub same_kind-refl : (k : EventKind) → same_kind k k ≡ true
same_kind-refl Started = refl
same_kind-refl Finished = refl
same_kind-refl Skipped = refl
same_kind-refl Registered = refl

-- the test `has_event`, and the places
pub finds : (q : Event → Bool) (h : List Event) → has_event q h ≡ true → (i : ℕ) × ((e : Event) × (slice_get h i ≡ Some e) × (q e ≡ true))
finds q [] t = absurd (false≢true t)
finds q (e ∷ h) t =
    elim (or_cases (q e) (has_event q h) t) [
      | inl a ↦ (0, (e, refl, a))
      | inr b ↦ (let r = finds q h b in (suc r.0, (r.1.0, r.1.1, r.1.2)))
    ]

pub found : (q : Event → Bool) (h : List Event) (i : ℕ) (e : Event) → slice_get h i ≡ Some e → q e ≡ true → has_event q h ≡ true
found q [] i e s t = absurd (none-some e s)
found q (x ∷ h) zero e s t = or_left (q x) (has_event q h) (subst (λ (y : Event). q y ≡ true) (sym (same_Some x e s)) t)
found q (x ∷ h) (suc i) e s t = or_right (q x) (has_event q h) (found q h i e s t)

pub is_of-true : (k : EventKind) (n : ℕ) (e : Event) → is_of k n e ≡ true → (e.kind ≡ k) × (e.node ≡ n)
is_of-true k n e q = (let r = and_parts (same_kind e.kind k) (e.node == n) q in (same_kind-true e.kind k r.0, eqb-true e.node n r.1))

pub is_of-from : (k : EventKind) (n : ℕ) (e : Event) → e.kind ≡ k → e.node ≡ n → is_of k n e ≡ true
is_of-from k n e a b = and_from (same_kind e.kind k) (e.node == n) (subst (λ (l : EventKind). same_kind e.kind l ≡ true) a (same_kind-refl e.kind)) (eq-eqb e.node n b)

pub has_stands : (k : EventKind) (n : ℕ) (h : List Event) → has k n h ≡ true → (i : ℕ) × StandsAt h i k n
has_stands k n h q = (let r = finds (is_of k n) h q in let s = is_of-true k n r.1.0 r.1.2 in (r.0, record { event = r.1.0; here = r.1.1; kind = s.0; node = s.1 }))

pub stands_has : (k : EventKind) (n : ℕ) (h : List Event) (i : ℕ) (e : Event) → slice_get h i ≡ Some e → e.kind ≡ k → e.node ≡ n → has k n h ≡ true
stands_has k n h i e q a b = found (is_of k n) h i e q (is_of-from k n e a b)

pub has_at : {h : List Event} {i : ℕ} {k : EventKind} {n : ℕ} → StandsAt h i k n → has k n h ≡ true
has_at {h} {i} {k} {n} s = stands_has k n h i s.event s.here s.kind s.node

pub stands_within : {h : List Event} {i : ℕ} {k : EventKind} {n : ℕ} → StandsAt h i k n → i < length h
stands_within {h} {i} s = slice_get_within h i s.event s.here

pub has_before : (k : EventKind) (n : ℕ) (h : List Event) → has k n h ≡ true → StandsBefore h (length h) k n
has_before k n h q = let s = has_stands k n h q in record { place = s.0; before = stands_within s.1; stands = s.1 }

-- what stands in a list stands in a longer one
pub stands_later : {h : List Event} {i : ℕ} {k : EventKind} {n : ℕ} (g : List Event) → StandsAt h i k n → StandsAt (h ++ g) i k n
stands_later {h} {i} g s = record { event = s.event; here = get_front h g s.event i s.here; kind = s.kind; node = s.node }

pub before_later : {h : List Event} {i : ℕ} {k : EventKind} {n : ℕ} (g : List Event) → StandsBefore h i k n → StandsBefore (h ++ g) i k n
before_later g s = record { place = s.place; before = s.before; stands = stands_later g s.stands }

pub settled_later : {h : List Event} {i n : ℕ} (g : List Event) → IsSettledAt h i n → IsSettledAt (h ++ g) i n
settled_later {h} {i} {n} g s = elim s [ inl a ↦ inl (before_later g a) | inr b ↦ inr (before_later g b) ]

-- what stands in a longer list, at a place of the list, stands in the list
pub stands_front : (h g : List Event) (i : ℕ) (k : EventKind) (n : ℕ) → i < length h → StandsAt (h ++ g) i k n → StandsAt h i k n
stands_front h g i k n lt s = record { event = s.event; here = get_back h g s.event i lt s.here; kind = s.kind; node = s.node }

-- at a place of the list, or at its end, what stands before in a longer list stands before in the list
pub before_front : (h g : List Event) (i : ℕ) (k : EventKind) (n : ℕ) → i ≤ length h → StandsBefore (h ++ g) i k n → StandsBefore h i k n
before_front h g i k n le s =
    let lt : s.place < i = s.before in
    record { place = s.place; before = lt; stands = stands_front h g s.place k n (omega (arith, lt, le)) s.stands }

-- what stands before a place stands before a later place
pub before_more : {h : List Event} {i j : ℕ} {k : EventKind} {n : ℕ} → i ≤ j → StandsBefore h i k n → StandsBefore h j k n
before_more {i = i} {j = j} le s = let lt : s.place < i = s.before in record { place = s.place; before = omega (arith, lt, le); stands = s.stands }

pub settled_more : {h : List Event} (i j n : ℕ) → i ≤ j → IsSettledAt h i n → IsSettledAt h j n
settled_more i j n le s = elim s [ inl a ↦ inl (before_more le a) | inr b ↦ inr (before_more le b) ]

-- what stands in a list with one more event stood there, or is that event
pub stands_added : (h : List Event) (e : Event) (i : ℕ) (k : EventKind) (n : ℕ) → StandsAt (h ++ e ∷ []) i k n → StandsAt h i k n ⊎ ((i ≡ length h) × (e.kind ≡ k) × (e.node ≡ n))
stands_added h e i k n s =
    elim (get_added h e s.event i s.here) [
      | inl a ↦ inl (record { event = s.event; here = a; kind = s.kind; node = s.node })
      | inr b ↦ inr (b.0, ap (λ (x : Event). x.kind) (sym b.1) ∙ s.kind, ap (λ (x : Event). x.node) (sym b.1) ∙ s.node)
    ]

pub event_at : (h : List Event) (i : ℕ) → i < length h → (e : Event) × (slice_get h i ≡ Some e)
event_at h i lt = elim (slice_get_cases h i).1 [ inl a ↦ (a.0, a.2) | inr b ↦ absurd (omega (arith, lt, b.0)) ]
