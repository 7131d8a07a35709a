-- Every step keeps what was drawn at the place that its worker's task names.
use Rattle.std.proofs.Common.{◌≡◌, ◌≢◌, ℕ, ◌+◌, true, false, List, [], ◌∷◌, ◌++◌, length, Some, None, slice_get, inl, inr, ◌⊎◌, sym, ap, ◌∙◌, set, length-set, length-append, arith}
use Rattle.std.proofs.lemmas.Bool.{cases_eq, cases_lt, false≢true}
use Rattle.std.proofs.lemmas.Option.{none-some, same_Some}
use Rattle.plan_events.specs.declared.event.Event.{Event}
use Rattle.event_history.proofs.Places.{get_next, get_front, get_added}
use Rattle.scheduling.specs.declared.task.Opening.TheVariants.{RegisteredAt, StartedAt}
use Rattle.scheduling.specs.declared.task.Closing.TheVariants.{FinishedAt, SkippedAt}
use Rattle.scheduling.specs.declared.task.Task.{Task}
use Rattle.scheduling.specs.declared.task.Task.TheVariants.{Opens, Closes}
use Rattle.scheduling.specs.declared.seat.Seat.{Seat}
use Rattle.scheduling.specs.State.{State}
use Rattle.scheduling.specs.Inside.Invariant.{IsGiven}
use Rattle.scheduling.specs.Shown.{named, IsNamed, IsShown, IsPlaced}
use Rattle.scheduling.proofs.Basics.{get_set, get_set_same, get_set_other}

-- how a step changes the history: not at all; by one more event; by one that is shown
pub data Effect : Type 0 where
  Quiet : Effect
  Draws : Event → Effect
  Shows : ℕ → Event → Effect

-- the step of worker w from state s to t, whose task was the one and is the other
abbrev pub Does : State → State → ℕ → Task → Task → Effect → Type 0
Does s t w old new Quiet = (t.published ≡ s.published) × (t.shown ≡ s.shown) × (named w old ≡ None) × (named w new ≡ None)
Does s t w old new (Draws e) = (t.published ≡ s.published ++ e ∷ []) × (t.shown ≡ s.shown ++ false ∷ []) × (named w old ≡ None) × (named w new ≡ Some (length s.published, e))
Does s t w old new (Shows i e) = (t.published ≡ s.published) × (t.shown ≡ set s.shown i true) × (named w old ≡ Some (i, e)) × (named w new ≡ None)

pub record Changes (s : State) (w : ℕ) (old : Task) (t : State) : Type 0 where
  pub new : Seat
  pub seats : t.seats ≡ set s.seats w new
  pub effect : Effect
  pub does : Does s t w old new.task effect

-- the event that a task names is its worker's
pub named_worker : (w : ℕ) (t : Task) (i : ℕ) (e : Event) → named w t ≡ Some (i, e) → e.worker ≡ w + 1
named_worker w (Opens n (RegisteredAt j)) i e q = sym (ap (λ (z : ℕ × Event). z.1.worker) (same_Some _ _ q))
named_worker w (Opens n (StartedAt j)) i e q = sym (ap (λ (z : ℕ × Event). z.1.worker) (same_Some _ _ q))
named_worker w (Closes n (SkippedAt j)) i e q = sym (ap (λ (z : ℕ × Event). z.1.worker) (same_Some _ _ q))
named_worker w (Closes n (FinishedAt j status)) i e q = sym (ap (λ (z : ℕ × Event). z.1.worker) (same_Some _ _ q))
named_worker w _ i e q = absurd (none-some (i, e) q)

module _ (s t : State) (w : ℕ) (seat : Seat) (placed : IsPlaced s) (is : slice_get s.seats w ≡ Some seat) (new : Seat) (seats : t.seats ≡ set s.seats w new) where
  whose : (v : ℕ) (x : Seat) → slice_get t.seats v ≡ Some x → ((v ≡ w) × (x ≡ new)) ⊎ ((v ≢ w) × (slice_get s.seats v ≡ Some x))
  whose v x q = get_set s.seats w new v x (ap (λ (l : List Seat). slice_get l v) (sym seats) ∙ q)

  new_is : slice_get t.seats w ≡ Some new
  new_is = ap (λ (l : List Seat). slice_get l w) seats ∙ get_set_same s.seats w new seat is

  -- what the worker's new task names
  names_new : (v : ℕ) (x : Seat) → v ≡ w → x ≡ new → named v x.task ≡ named w new.task
  names_new v x a b = ap (λ (k : ℕ). named k x.task) a ∙ ap (λ (y : Seat). named w y.task) b

  -- a place that another worker names it names still
  carry : (i : ℕ) → (n : IsNamed s.seats i) → (named w seat.task ≡ Some (i, n.event) → ⊥) → IsNamed t.seats i
  carry i n other =
      elim (cases_eq n.worker w) [
        | inl same ↦ absurd (other (
            let mine : n.seat ≡ seat = same_Some n.seat seat (sym n.is ∙ ap (slice_get s.seats) same ∙ is) in
            ap (λ (y : Seat). named w y.task) (sym mine) ∙ ap (λ (k : ℕ). named k n.seat.task) (sym same) ∙ n.names))
        | inr ne ↦ record { worker = n.worker; seat = n.seat; is = ap (λ (l : List Seat). slice_get l n.worker) seats ∙ get_set_other s.seats w new n.worker ne ∙ n.is; event = n.event; names = n.names }
      ]

  -- The history stays.
  quiet_keeps : t.published ≡ s.published → t.shown ≡ s.shown → named w seat.task ≡ None → named w new.task ≡ None → IsPlaced t
  quiet_keeps published shown old none = record {
    stands = λ v x i e q d. elim (whose v x q) [
      | inl a ↦ absurd (none-some (i, e) (sym none ∙ sym (names_new v x a.0 a.1) ∙ d))
      | inr a ↦ (let before = placed.stands v x i e a.1 d in
          (ap (λ (l : List Event). slice_get l i) published ∙ before.0, ap (λ l. slice_get l i) shown ∙ before.1))
    ];
    unshown = λ i q. carry i (placed.unshown i (ap (λ l. slice_get l i) (sym shown) ∙ q)) (λ d. none-some _ (sym old ∙ d));
    as_many = ap length shown ∙ placed.as_many ∙ ap length (sym published);
  }

  -- One more event is drawn.
  draw_keeps : (e : Event) → t.published ≡ s.published ++ e ∷ [] → t.shown ≡ s.shown ++ false ∷ [] → named w seat.task ≡ None → named w new.task ≡ Some (length s.published, e) → IsPlaced t
  draw_keeps e published shown old names = record {
    stands = λ v x i f q d. elim (whose v x q) [
      | inl a ↦ (let both : (length s.published, e) ≡ (i, f) = same_Some (length s.published, e) (i, f) (sym names ∙ sym (names_new v x a.0 a.1) ∙ d) in
          let at : length s.published ≡ i = ap (λ (z : ℕ × Event). z.0) both in (
            ap (λ (l : List Event). slice_get l i) published ∙ ap (slice_get (s.published ++ e ∷ [])) (sym at) ∙ get_next s.published e [] ∙ ap (λ (z : ℕ × Event). Some z.1) both,
            ap (λ l. slice_get l i) shown ∙ ap (slice_get (s.shown ++ false ∷ [])) (sym at ∙ sym placed.as_many) ∙ get_next s.shown false [],
          ))
      | inr a ↦ (let before = placed.stands v x i f a.1 d in
          (ap (λ (l : List Event). slice_get l i) published ∙ get_front s.published (e ∷ []) f i before.0, ap (λ l. slice_get l i) shown ∙ get_front s.shown (false ∷ []) false i before.1))
    ];
    unshown = λ i q. elim (get_added s.shown false false i (ap (λ l. slice_get l i) (sym shown) ∙ q)) [
      | inl before ↦ carry i (placed.unshown i before) (λ d. none-some _ (sym old ∙ d))
      | inr last ↦ record { worker = w; seat = new; is = new_is; event = e; names = names ∙ ap (λ (k : ℕ). Some (k, e)) (sym placed.as_many ∙ sym last.0) }
    ];
    as_many = (let a = ap length shown in let b = ap length published in let same = placed.as_many in omega (arith, a, b, same, length-append s.shown (false ∷ []), length-append s.published (e ∷ [])));
  }

  -- The event that the worker's task names is shown.
  show_keeps : (j : ℕ) (e : Event) → t.published ≡ s.published → t.shown ≡ set s.shown j true → named w seat.task ≡ Some (j, e) → named w new.task ≡ None → IsPlaced t
  show_keeps j e published shown old none = record {
    stands = λ v x i f q d. elim (whose v x q) [
      | inl a ↦ absurd (none-some (i, f) (sym none ∙ sym (names_new v x a.0 a.1) ∙ d))
      | inr a ↦ (let before = placed.stands v x i f a.1 d in
          let apart : i ≢ j = λ same. a.0 (
          let one : f ≡ e = same_Some f e (sym before.0 ∙ ap (slice_get s.published) same ∙ (placed.stands w seat j e is old).0) in
          let hers = named_worker v x.task i f d in
          let mine = named_worker w seat.task j e old in
          let worker : f.worker ≡ e.worker = ap (λ (z : Event). z.worker) one in
          omega (arith, hers, mine, worker)) in
          (ap (λ (l : List Event). slice_get l i) published ∙ before.0, ap (λ l. slice_get l i) shown ∙ get_set_other s.shown j true i apart ∙ before.1))
    ];
    unshown = λ i q. elim (get_set s.shown j true i false (ap (λ l. slice_get l i) (sym shown) ∙ q)) [
      | inl a ↦ absurd (false≢true a.1)
      | inr a ↦ carry i (placed.unshown i a.1) (λ d. a.0 (ap (λ (z : ℕ × Event). z.0) (same_Some _ _ (sym d ∙ old))))
    ];
    as_many = ap length shown ∙ length-set s.shown j true ∙ placed.as_many ∙ ap length (sym published);
  }

-- So each step keeps it.
pub changes_keep : (s t : State) (w : ℕ) (seat : Seat) → IsPlaced s → slice_get s.seats w ≡ Some seat → Changes s w seat.task t → IsPlaced t
changes_keep s t w seat placed is c = go c.effect c.does
  where
    go : (effect : Effect) → Does s t w seat.task c.new.task effect → IsPlaced t
    go Quiet d = quiet_keeps s t w seat placed is c.new c.seats d.0 d.1 d.2 d.3
    go (Draws e) d = draw_keeps s t w seat placed is c.new c.seats e d.0 d.1 d.2 d.3
    go (Shows i e) d = show_keeps s t w seat placed is c.new c.seats i e d.0 d.1 d.2 d.3

-- a seat with another task that names the same
pub reseat_keeps : (s : State) (w : ℕ) (seat other : Seat) → IsPlaced s → slice_get s.seats w ≡ Some seat → named w other.task ≡ named w seat.task → IsPlaced (record s { seats = set s.seats w other })
reseat_keeps s w seat other placed is same = record {
  stands = λ v x i e q d. elim (get_set s.seats w other v x q) [
    | inl a ↦ placed.stands w seat i e is (sym same ∙ sym (ap (λ (k : ℕ). named k x.task) a.0 ∙ ap (λ (y : Seat). named w y.task) a.1) ∙ d)
    | inr a ↦ placed.stands v x i e a.1 d
  ];
  unshown = λ i q. (let n = placed.unshown i q in
      elim (cases_eq n.worker w) [
        | inl mine ↦ record {
          worker = w;
          seat = other;
          is = get_set_same s.seats w other seat is;
          event = n.event;
          names = (
              let one : n.seat ≡ seat = same_Some n.seat seat (sym n.is ∙ ap (slice_get s.seats) mine ∙ is) in
              same ∙ ap (λ (y : Seat). named w y.task) (sym one) ∙ ap (λ (k : ℕ). named k n.seat.task) (sym mine) ∙ n.names);
        }
        | inr ne ↦ record { worker = n.worker; seat = n.seat; is = get_set_other s.seats w other n.worker ne ∙ n.is; event = n.event; names = n.names }
      ]);
  as_many = placed.as_many;
}

-- What is marked as shown no task names, so all that was given was shown.
pub given_shown : (s : State) → IsGiven s → IsPlaced s → IsShown s s.given
given_shown s given placed = record {
  marked = given.shown;
  behind = λ w seat i e is names. elim (cases_lt i (length s.given)) [
    | inl less ↦ absurd (false≢true (same_Some false true (sym (placed.stands w seat i e is names).1 ∙ given.shown i less)))
    | inr past ↦ past
  ];
}
