-- No more nodes hold a key than its limit says, still, where a start leaves it so; and a limit of 1 excludes as READ_WRITE does.
use Rattle.std.proofs.Common.{◌≡◌, ◌≢◌, ℕ, zero, suc, ◌<◌, ◌≤◌, Bool, true, false, ◌&&◌, ◌||◌, ◌==◌, not, List, [], ◌∷◌, ◌++◌, length, take, Some, slice_get, ◌⊎◌, inl, inr, refl, sym, ap, ◌∙◌, subst, arith, length-append}
use Rattle.std.specs.List.{list_any}
use Rattle.std.specs.Str.{bytes_eq}
use Rattle.std.proofs.lemmas.Bool.{cases_eq, cases_lt, both_ways, and_parts, and_from, or_cases, or_left, or_right, eq-eqb, false_from_ne_true, false≢true}
use Rattle.std.proofs.lemmas.Option.{same_Some, none-some}
use Rattle.std.proofs.lemmas.List.{take-append-le, take_all}
use Rattle.descriptor.specs.declared.lock.Lock.{Lock}
use Rattle.descriptor.specs.declared.lock_mode.LockMode.{LockMode}
use Rattle.descriptor.specs.Nodes.{bit, size, count_below}
use Rattle.plan_events.specs.declared.event.EventKind.{EventKind}
use Rattle.plan_events.specs.declared.event.EventKind.TheVariants.{Started, Finished, Skipped, Registered}
use Rattle.plan_events.specs.declared.event.Event.{Event}
use Rattle.plan_events.specs.declared.outcome.Reply.{Reply}
use Rattle.resource_locks.specs.Plans.{PlanParts, held_of, limit_for}
use Rattle.resource_locks.specs.Wants.{HasLock}
use Rattle.resource_locks.proofs.Wants.{same_key, key_same}
use Rattle.event_history.specs.Exclusion.{Overlaps}
use Rattle.event_history.specs.History.{IsLegal}
use Rattle.event_history.specs.Places.{StandsAt, StandsBefore, has}
use Rattle.event_history.specs.Inside.Following.{holders_with, MayJoin}
use Rattle.event_history.specs.Limits.{holds_key, is_running, holders_after, IsWithinLimits}
use Rattle.event_history.proofs.Counting.{count_le, has_front, front_has}
use Rattle.event_history.proofs.Places.{has_stands, has_at, stands_added, stands_later}

-- a node that passes the test has the key in some mode, and one that has the key passes it
pub key_held : (key : List ℕ) (s : List Lock) → list_any (λ l. bytes_eq key l.key) s ≡ true → (mode : LockMode) × HasLock s key mode
key_held key [] q = absurd (false≢true q)
key_held key (l ∷ s) q =
    elim (or_cases (bytes_eq key l.key) (list_any (λ l. bytes_eq key l.key) s) q) [
      | inl e ↦ (l.mode, (0, ap (λ (k : List ℕ). Some (record { key = k; mode = l.mode })) (sym (same_key key l.key e))))
      | inr e ↦ (let r = key_held key s e in (r.0, (suc r.1.0, r.1.1)))
    ]

pub held_key : (key : List ℕ) (mode : LockMode) (s : List Lock) (i : ℕ) → slice_get s i ≡ Some (record { key = key; mode = mode }) → list_any (λ l. bytes_eq key l.key) s ≡ true
held_key key mode [] i q = absurd (none-some (record { key = key; mode = mode }) q)
held_key key mode (l ∷ s) zero q = or_left (bytes_eq key l.key) (list_any (λ l. bytes_eq key l.key) s) (key_same key l.key (ap (λ (x : Lock). x.key) (sym (same_Some l (record { key = key; mode = mode }) q))))
held_key key mode (l ∷ s) (suc i) q = or_right (bytes_eq key l.key) (list_any (λ l. bytes_eq key l.key) s) (held_key key mode s i q)

pub not_false : (b : Bool) → not b ≡ true → b ≡ false
not_false false q = refl
not_false true q = absurd (false≢true q)

-- the node has not finished before what comes later
unfinished : (h : List Event) (e : Event) (n : ℕ) → has Finished n (h ++ e ∷ []) ≡ false → has Finished n h ≡ false
unfinished h e n f = false_from_ne_true (has Finished n h) (λ t. (let s = has_stands Finished n h t in both_ways (has Finished n (h ++ e ∷ [])) f (has_at (stands_later (e ∷ []) s.1))))

-- whoever runs after one more event ran before it, or is started by it
runs_added : (h : List Event) (e : Event) (n : ℕ) → is_running (h ++ e ∷ []) n ≡ true → (e.kind ≡ Started → ⊥) → is_running h n ≡ true
runs_added h e n q other =
    let t = and_parts (has Started n (h ++ e ∷ [])) (not (has Finished n (h ++ e ∷ []))) q in
    let s = has_stands Started n (h ++ e ∷ []) t.0 in
    elim (stands_added h e s.0 Started n s.1) [
      | inr b ↦ absurd (other b.1)
      | inl a ↦ and_from (has Started n h) (not (has Finished n h)) (has_at a) (ap not (unfinished h e n (not_false (has Finished n (h ++ e ∷ [])) t.1)))
    ]

joins_added : (h : List Event) (e : Event) (n : ℕ) → is_running (h ++ e ∷ []) n ≡ true → ((n == e.node) || is_running h n) ≡ true
joins_added h e n q =
    let t = and_parts (has Started n (h ++ e ∷ [])) (not (has Finished n (h ++ e ∷ []))) q in
    let s = has_stands Started n (h ++ e ∷ []) t.0 in
    elim (stands_added h e s.0 Started n s.1) [
      | inr b ↦ or_left (n == e.node) (is_running h n) (eq-eqb n e.node (sym b.2))
      | inl a ↦ or_right (n == e.node) (is_running h n) (and_from (has Started n h) (not (has Finished n h)) (has_at a) (ap not (unfinished h e n (not_false (has Finished n (h ++ e ∷ [])) t.1))))
    ]

module _ (p : PlanParts) (h : List Event) (e : Event) (within : IsWithinLimits p h) (may : MayJoin p h e) where
  started_or : (k : EventKind) → (k ≡ Started) ⊎ (k ≡ Started → ⊥)
  started_or Started = inl refl
  started_or Finished = inr (λ q. cc)
  started_or Skipped = inr (λ q. cc)
  started_or Registered = inr (λ q. cc)

  at_end : (key : List ℕ) → 0 < limit_for p key → holders_after p key (h ++ e ∷ []) ≤ limit_for p key
  at_end key some =
      elim (started_or e.kind) [
        | inl k ↦ (let with_it : holders_with p key h e.node ≤ limit_for p key = may k key some in
            let less : holders_after p key (h ++ e ∷ []) ≤ holders_with p key h e.node = count_le (λ n. holds_key p key n && is_running (h ++ e ∷ []) n) (λ m. holds_key p key m && ((m == e.node) || is_running h m)) (size p.tree) (λ m lt q.
            (let t = and_parts (holds_key p key m) (is_running (h ++ e ∷ []) m) q in and_from (holds_key p key m) ((m == e.node) || is_running h m) t.0 (joins_added h e m t.1))) in
            omega (arith, with_it, less))
        | inr other ↦ (let was : holders_after p key h ≤ limit_for p key = subst (λ (l : List Event). holders_after p key l ≤ limit_for p key) (take_all (length h) h (omega arith)) (within (length h) key some) in
            let less : holders_after p key (h ++ e ∷ []) ≤ holders_after p key h = count_le (λ n. holds_key p key n && is_running (h ++ e ∷ []) n) (λ n. holds_key p key n && is_running h n) (size p.tree) (λ m lt q.
            (let t = and_parts (holds_key p key m) (is_running (h ++ e ∷ []) m) q in and_from (holds_key p key m) (is_running h m) t.0 (runs_added h e m t.1 other))) in
            omega (arith, was, less))
      ]

  -- No more nodes hold a key than its limit says, still.
  pub within_added : IsWithinLimits p (h ++ e ∷ [])
  within_added i key some =
      elim (cases_lt (length h) i) [
        | inl past ↦ subst (λ (l : List Event). holders_after p key l ≤ limit_for p key) (sym (take_all i (h ++ e ∷ []) (longer past))) (at_end key some)
        | inr le ↦ subst (λ (l : List Event). holders_after p key l ≤ limit_for p key) (sym (take-append-le i h (e ∷ []) le)) (within i key some)
      ]
    where
      longer : length h < i → length (h ++ e ∷ []) ≤ i
      longer lt = (let len = length-append h (e ∷ []) in omega (arith, lt, len))

-- where no number passes, none are counted
pub none_pass : (q : ℕ → Bool) (n limit : ℕ) → ((m : ℕ) → q m ≡ true → ⊥) → count_below q n ≤ limit
none_pass q zero limit none = omega arith
none_pass q (suc n) limit none =
    let rest = none_pass q n limit none in
    let here : bit (q n) ≡ 0 = ap bit (false_from_ne_true (q n) (none n)) in
    omega (arith, rest, here)

pub within_nil : (p : PlanParts) → IsWithinLimits p []
within_nil p zero key some = none_pass (λ n. holds_key p key n && is_running [] n) (size p.tree) (limit_for p key) (λ n q. false≢true (and_parts (holds_key p key n) false q).1)
within_nil p (suc i) key some = none_pass (λ n. holds_key p key n && is_running [] n) (size p.tree) (limit_for p key) (λ n q. false≢true (and_parts (holds_key p key n) false q).1)

-- and in a beginning as in the whole
pub within_front : (p : PlanParts) (g r : List Event) → IsWithinLimits p (g ++ r) → IsWithinLimits p g
within_front p g r within i key some =
    elim (cases_lt (length g) i) [
      | inl past ↦ subst (λ (l : List Event). holders_after p key l ≤ limit_for p key)
          (take-append-le (length g) g r (omega arith) ∙ take_all (length g) g (omega arith) ∙ sym (take_all i g (omega (arith, past)))) (within (length g) key some)
      | inr le ↦ subst (λ (l : List Event). holders_after p key l ≤ limit_for p key) (take-append-le i g r le) (within i key some)
    ]

-- a number that passes is counted, and two are counted twice
count_one : (q : ℕ → Bool) (a n : ℕ) → a < n → q a ≡ true → 1 ≤ count_below q n
count_one q a zero la x = absurd (omega (arith, la))
count_one q a (suc n) la x =
    elim (cases_eq a n) [
      | inl e ↦ (let here : bit (q n) ≡ 1 = ap bit (ap q (sym e) ∙ x) in omega (arith, here))
      | inr ne ↦ (let rest = count_one q a n (omega (arith, la, ne)) x in omega (arith, rest))
    ]

count_two : (q : ℕ → Bool) (a b n : ℕ) → a < n → b < n → a ≢ b → q a ≡ true → q b ≡ true → 2 ≤ count_below q n
count_two q a b zero la lb ne x y = absurd (omega (arith, la))
count_two q a b (suc n) la lb ne x y =
    elim (cases_eq a n) [
      | inl e ↦ (let here : bit (q n) ≡ 1 = ap bit (ap q (sym e) ∙ x) in let rest = count_one q b n (omega (arith, lb, e, ne)) y in omega (arith, here, rest))
      | inr na ↦ elim (cases_eq b n) [
        | inl e ↦ (let here : bit (q n) ≡ 1 = ap bit (ap q (sym e) ∙ y) in let rest = count_one q a n (omega (arith, la, na)) x in omega (arith, here, rest))
        | inr nb ↦ (let rest = count_two q a b n (omega (arith, la, na)) (omega (arith, lb, nb)) ne x y in omega (arith, rest))
      ]
    ]

module _ (p : PlanParts) (replies : ℕ → List Reply) (workers : ℕ) (h : List Event) (legal : IsLegal p replies workers h) (within : IsWithinLimits p h) where
  -- a node that has started, and does not finish before the later start of another, runs behind that
  runs_behind : (m n i j : ℕ) → StandsAt h i Started m → StandsAt h j Started n → (StandsBefore h j Finished m → ⊥) → i ≤ j → is_running (take (suc j) h) m ≡ true
  runs_behind m n i j s t unended le =
      and_from (has Started m (take (suc j) h)) (not (has Finished m (take (suc j) h))) (front_has Started m (suc j) h (record { place = i; before = omega (arith, le); stands = s }))
      (ap not (false_from_ne_true (has Finished m (take (suc j) h)) (λ q. (let f = has_front Finished m (suc j) h q in
      let early : f.place < suc j = f.before in
      elim (cases_eq f.place j) [
        | inl e ↦ other_kind (sym f.stands.kind ∙ ap (λ (y : Event). y.kind) (same_Some f.stands.event t.event (sym f.stands.here ∙ ap (slice_get h) e ∙ t.here)) ∙ t.kind)
        | inr ne ↦ unended (record { place = f.place; before = omega (arith, early, ne); stands = f.stands })
      ]))))
    where
      other_kind : Finished ≡ Started → ⊥
      other_kind q = cc

  -- and so does a node behind its own start
  runs_itself : (n j : ℕ) → StandsAt h j Started n → is_running (take (suc j) h) n ≡ true
  runs_itself n j t = runs_behind n n j j t t (λ f. (let s = legal.after_start f.place n f.stands in
      let one : s.place ≡ j = legal.once s.place j n Started s.stands t in
      let a : s.place < f.place = s.before in let b : f.place < j = f.before in omega (arith, one, a, b))) (omega arith)

  in_order : (key : List ℕ) (m n i j : ℕ) (a b : LockMode) → limit_for p key ≡ 1 → HasLock (held_of p m) key a → HasLock (held_of p n) key b → m ≢ n → StandsAt h i Started m → StandsAt h j Started n → (StandsBefore h j Finished m → ⊥) → i ≤ j → ⊥
  in_order key m n i j a b one x y ne s t unended le =
      let two : 2 ≤ holders_after p key (take (suc j) h) = count_two (λ k. holds_key p key k && is_running (take (suc j) h) k) m n (size p.tree) (inside m i s) (inside n j t) ne
      (and_from (holds_key p key m) (is_running (take (suc j) h) m) (held_key key a (held_of p m) x.0 x.1) (runs_behind m n i j s t unended le))
      (and_from (holds_key p key n) (is_running (take (suc j) h) n) (held_key key b (held_of p n) y.0 y.1) (runs_itself n j t)) in
      let few = within (suc j) key (omega (arith, one)) in
      omega (arith, two, few, one)
    where
      inside : (m i : ℕ) → StandsAt h i Started m → m < size p.tree
      inside m i s = subst (λ (x : ℕ). x < size p.tree) s.node (legal.nodes i s.event s.here)

  -- Of a key with the limit 1 two holders never overlap, as if one wrote it.
  pub one_excludes : (key : List ℕ) (m n : ℕ) (a b : LockMode) → limit_for p key ≡ 1 → HasLock (held_of p m) key a → HasLock (held_of p n) key b → m ≢ n → Overlaps h m n → ⊥
  one_excludes key m n a b one x y ne o =
      elim (cases_lt o.other_place o.place) [
        | inl lt ↦ in_order key n m o.other_place o.place b a one y x (λ e. ne (sym e)) o.other_start o.start o.other_unended (omega (arith, lt))
        | inr le ↦ in_order key m n o.place o.other_place a b one x y ne o.start o.other_start o.unended le
      ]
