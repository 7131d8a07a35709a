-- What the dispatcher reads, by the place that comes next.
use Rattle.std.proofs.Common.{◌≡◌, ◌∙◌, ◌≤◌, ◌<◌, ◌+◌, ◌++◌, ◌∷◌, [], ℕ, Bool, true, false, List, length, take, Option, Some, None, Ok, slice_get, slice_index_or, inl, inr, refl, sym, ap, subst, arith}
use Rattle.std.specs.Prelude.{vec_capacity}
use Rattle.std.proofs.Math.Nat.{le_refl}
use Rattle.std.proofs.lemmas.Bool.{cases_eq, false≢true}
use Rattle.std.proofs.lemmas.List.{take_more, length-take-le}
use Rattle.std.proofs.lemmas.Option.{get_or_from_slice_get, slice_get_within, slice_get_past, slice_get_cases, same_Some}
use Rattle.plan_events.specs.declared.event.Event.{Event}
use Rattle.scheduling.specs.State.{State}
use Rattle.scheduling.specs.Rows.{read_event, read_row}
use Rattle.scheduling.specs.Shown.{IsPlaced, IsShown}
use Rattle.scheduling.proofs.Steps.{shown_at}
use Rattle.sched_core.specs.declared.machine.Machine.{Machine}
use Rattle.sched_core.specs.Inside.Fields.{state_of, IsAnswered}

-- what is given is as long as the number says
pub given_length : (m : Machine) → m.given ≤ length m.published.items → length (take m.given m.published.items) ≡ m.given
given_length m le = length-take-le m.given m.published.items le

-- where nothing is left, or the next event is not shown, nothing is read
pub read_past : (m : Machine) → m.given ≡ length m.published.items → read_row (state_of m) ≡ None
read_past m past =
    let n : length (take m.given m.published.items) ≡ m.given = given_length m (omega (arith, past)) in
    ap (λ (i : ℕ). read_event (state_of m) (slice_index_or m.shown.items i false) (slice_get m.published.items i)) n
    ∙ ap (read_event (state_of m) (slice_index_or m.shown.items m.given false)) (slice_get_past m.published.items m.given (omega (arith, past)))
    ∙ none (slice_index_or m.shown.items m.given false)
  where
    none : (b : Bool) → read_event (state_of m) b None ≡ None
    none true = refl
    none false = refl

pub read_hidden : (m : Machine) → m.given ≤ length m.published.items → slice_index_or m.shown.items m.given false ≡ false → read_row (state_of m) ≡ None
read_hidden m le hidden =
    let n : length (take m.given m.published.items) ≡ m.given = given_length m le in
    ap (λ (i : ℕ). read_event (state_of m) (slice_index_or m.shown.items i false) (slice_get m.published.items i)) n
    ∙ ap (λ (b : Bool). read_event (state_of m) b (slice_get m.published.items m.given)) hidden

read_is : (m : Machine) (e : Event) → m.given ≤ length m.published.items → slice_index_or m.shown.items m.given false ≡ true → slice_get m.published.items m.given ≡ Some e
    → read_row (state_of m) ≡ Some (record (state_of m) { given = take (m.given + 1) m.published.items })
read_is m e le shown here =
    let n : length (take m.given m.published.items) ≡ m.given = given_length m le in
    ap (λ (i : ℕ). read_event (state_of m) (slice_index_or m.shown.items i false) (slice_get m.published.items i)) n
    ∙ ap (λ (b : Bool). read_event (state_of m) b (slice_get m.published.items m.given)) shown
    ∙ ap (read_event (state_of m) true) here
    ∙ ap (λ (l : List Event). Some (record (state_of m) { given = l })) (one_more m.published.items m.given e here)
  where
    one_more : (l : List Event) (i : ℕ) (e : Event) → slice_get l i ≡ Some e → take i l ++ e ∷ [] ≡ take (i + 1) l
    one_more l i e at = ap (λ (x : Event). take i l ++ x ∷ []) (sym (get_or_from_slice_get l i e e at)) ∙ sym (take_more l i e (slice_get_within l i e at))

-- and else the next event is
pub read_next : (m : Machine) → m.given < length m.published.items → slice_index_or m.shown.items m.given false ≡ true
    → read_row (state_of m) ≡ Some (record (state_of m) { given = take (m.given + 1) m.published.items })
read_next m lt shown =
    elim (slice_get_cases m.published.items m.given).1 [
      | inl (e, inside, here, at) ↦ read_is m e (omega (arith, lt)) shown here
      | inr (past, here) ↦ absurd (omega (arith, lt, past))
    ]

-- that is the answer of the machine
pub read_answer : {T : Type 0} (E : Type 0) (m : Machine) (x : T) → m.given < length m.published.items → slice_index_or m.shown.items m.given false ≡ true → IsAnswered {T = T} {E = E} m (read_row (state_of m)) (Ok x) (record m { given = m.given + 1 })
read_answer {T} E m x lt shown =
    subst (λ (o : Option State). IsAnswered {T = T} {E = E} m o (Ok x) (record m { given = m.given + 1 })) (sym (read_next m lt shown))
    (refl, refl, record { workers = refl; published = le_refl (vec_capacity m.published); shown = le_refl (vec_capacity m.shown); given = λ le. omega (arith, lt) })

-- and it was shown, as all before it
pub read_shown : (m : Machine) → IsPlaced (state_of m) → m.given < length m.published.items → slice_index_or m.shown.items m.given false ≡ true → IsShown (state_of m) (state_of m).given → IsShown (state_of (record m { given = m.given + 1 })) (take (m.given + 1) m.published.items)
read_shown m placed lt shown before = record {
  marked = λ i less. elim (cases_eq i m.given) [
    | inl same ↦ ap (slice_get m.shown.items) same ∙ here
    | inr other ↦ before.marked i (omega (arith, less, other, many, more))
  ];
  behind = λ w seat i e is names. elim (cases_eq i m.given) [
    | inl same ↦ absurd (false≢true (same_Some false true (sym (placed.stands w seat i e is names).1 ∙ ap (slice_get m.shown.items) same ∙ here)))
    | inr other ↦ (let past = before.behind w seat i e is names in omega (arith, past, other, many, more))
  ];
}
  where
    here : slice_get m.shown.items m.given ≡ Some true
    here = shown_at m.shown.items m.given shown

    many : length (take m.given m.published.items) ≡ m.given
    many = given_length m (omega (arith, lt))

    more : length (take (m.given + 1) m.published.items) ≡ m.given + 1
    more = length-take-le (m.given + 1) m.published.items (omega (arith, lt))
