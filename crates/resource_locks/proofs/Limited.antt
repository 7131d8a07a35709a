-- A plan with limits is a plan, and hoisted and guarded as before but for the modes below limited keys.
use Rattle.std.proofs.Common.{◌≡◌, ℕ, zero, suc, ◌+◌, ◌<◌, ◌≤◌, Bool, true, false, ◌&&◌, ◌==◌, cond, ltb, List, [], ◌∷◌, map, get_or, slice_get, Some, inl, inr, refl, sym, ap, ◌∙◌, subst, arith}
use Rattle.std.specs.List.{list_any}
use Rattle.std.specs.Str.{bytes_eq}
use Rattle.std.proofs.lemmas.Bool.{cases_lt, cond-true, cond-false, and_parts, and_from, or_cases, or_left, or_right, lt-ltb, ltb-true, eq-eqb, eqb-true, false_from_ne_true, false≢true}
use Rattle.std.proofs.lemmas.List.{get_or_past}
use Rattle.std.proofs.lemmas.Option.{same_Some, none-some}
use Rattle.descriptor.specs.Nodes.{size, parent_of, Below}
use Rattle.descriptor.specs.declared.lock.Lock.{Lock}
use Rattle.descriptor.specs.declared.lock_mode.LockMode.{LockMode}
use Rattle.descriptor.specs.declared.lock_mode.LockMode.TheVariants.{ReadWrite}
use Rattle.descriptor.specs.declared.mode.Mode.{Mode}
use Rattle.descriptor.specs.declared.mode.Mode.TheVariants.{SameThread}
use Rattle.resource_locks.specs.declared.limits.KeyLimit.{KeyLimit}
use Rattle.resource_locks.specs.Wants.{HasLock}
use Rattle.resource_locks.specs.Declarations.{declared_of, global}
use Rattle.resource_locks.specs.Held.{table}
use Rattle.resource_locks.specs.Hoisted.{IsHoisted, IsHeldFor, IsGuarded}
use Rattle.resource_locks.specs.Inside.PlanFields.{IsSound}
use Rattle.resource_locks.specs.Limits.{first_limit, limit_given, numbers_at, any_limited, is_below_marked, mode_below, modes_with, limited_by, with_limits, IsLimited, ShareLimited, share_numbers}
use Rattle.resource_locks.specs.Plans.{PlanParts, IsPlan, mode_of, held_of, number_of, numbers_of, limit_for}
use Rattle.resource_locks.proofs.Lines.{at_child}
use Rattle.resource_locks.proofs.LockTrees.{lock_tree}
use Rattle.resource_locks.proofs.Numbering.{same_number}
use Rattle.resource_locks.proofs.Marked.{mark_above, mark_use}
use Rattle.resource_locks.proofs.Tops.{below_inside, below_above_zero}
use Rattle.resource_locks.proofs.Walks.{table_len, table_at, table_past}

-- the numbers of a node's keys
numbers_are : (keys : List (List ℕ)) (held : List (List Lock)) (n : ℕ) → get_or (map (numbers_of keys) held) n [] ≡ numbers_of keys (get_or held n [])
numbers_are keys [] n = refl
numbers_are keys (s ∷ held) zero = refl
numbers_are keys (s ∷ held) (suc n) = numbers_are keys held n

-- a lock of a limited key, and the test on the numbers
limited_from : (keys : List (List ℕ)) (limits : List ℕ) (s : List Lock) (key : List ℕ) (mode : LockMode) (i : ℕ) → slice_get s i ≡ Some (record { key = key; mode = mode }) → 0 < get_or limits (number_of keys key) 0 → any_limited limits (numbers_of keys s) ≡ true
limited_from keys limits [] key mode i q some = absurd (none-some (record { key = key; mode = mode }) q)
limited_from keys limits (l ∷ s) key mode zero q some =
    or_left (ltb 0 (get_or limits (number_of keys l.key) 0)) (any_limited limits (numbers_of keys s))
    (lt-ltb 0 (get_or limits (number_of keys l.key) 0) (subst (λ (x : Lock). 0 < get_or limits (number_of keys x.key) 0) (sym (same_Some l (record { key = key; mode = mode }) q)) some))
limited_from keys limits (l ∷ s) key mode (suc i) q some = or_right (ltb 0 (get_or limits (number_of keys l.key) 0)) (any_limited limits (numbers_of keys s)) (limited_from keys limits s key mode i q some)

limited_use : (keys : List (List ℕ)) (limits : List ℕ) (s : List Lock) → any_limited limits (numbers_of keys s) ≡ true → (l : Lock) × (HasLock s l.key l.mode × (0 < get_or limits (number_of keys l.key) 0))
limited_use keys limits [] q = absurd (false≢true q)
limited_use keys limits (l ∷ s) q =
    elim (or_cases (ltb 0 (get_or limits (number_of keys l.key) 0)) (any_limited limits (numbers_of keys s)) q) [
      | inl t ↦ (l, ((0, refl), ltb-true 0 (get_or limits (number_of keys l.key) 0) t))
      | inr t ↦ (let r = limited_use keys limits s t in (r.0, ((suc r.1.0.0, r.1.0.1), r.1.1)))
    ]

-- the number of a key that is the first, or is not
number_first : (g key : List ℕ) (keys : List (List ℕ)) → bytes_eq g key ≡ true → number_of (key ∷ keys) g ≡ 0
number_first g key keys e = rw e refl

number_later : (g key : List ℕ) (keys : List (List ℕ)) → bytes_eq g key ≡ false → number_of (key ∷ keys) g ≡ suc (number_of keys g)
number_later g key keys e = (let next : number_of (key ∷ keys) g ≡ 1 + number_of keys g = rw e refl in omega (arith, next))

-- the global key has no limit
pub unlimited_global : (given : List KeyLimit) (keys : List (List ℕ)) → get_or (map (limit_given given) keys) (number_of keys global) 0 ≡ 0
unlimited_global given [] = refl
unlimited_global given (key ∷ keys) = by (bytes_eq global key) refl (unlimited_global given keys)
  where
    by : (b : Bool) → bytes_eq global key ≡ b → get_or (map (limit_given given) keys) (number_of keys global) 0 ≡ 0 → get_or (map (limit_given given) (key ∷ keys)) (number_of (key ∷ keys) global) 0 ≡ 0
    by true e rest = ap (λ (n : ℕ). get_or (map (limit_given given) (key ∷ keys)) n 0) (number_first global key keys e) ∙ cond-true (bytes_eq global key) 0 (first_limit given key) e
    by false e rest = ap (λ (n : ℕ). get_or (map (limit_given given) (key ∷ keys)) n 0) (number_later global key keys e) ∙ rest

same_either : (b : Bool) (m : Mode) → m ≡ SameThread → cond b SameThread m ≡ SameThread
same_either true m e = refl
same_either false m e = e

-- a node that was given the thread of its parent keeps it
pub same_thread_stays : (p : PlanParts) (limits : List ℕ) (given : ℕ → Mode) (n : ℕ) → given n ≡ SameThread → modes_with p limits given n ≡ SameThread
same_thread_stays p limits given n e = same_either (is_below_marked p.tree (λ k. any_limited limits (numbers_at p k)) n) (given n) e

module _ (p : PlanParts) (plan : IsPlan p) (limits : List ℕ) where
  abbrev limited : ℕ → Bool
  limited n = any_limited limits (numbers_at p n)

  mode_is : (n : ℕ) → n < size p.tree → mode_of (limited_by p limits) n ≡ modes_with p limits (mode_of p) n
  mode_is n inside = table_at (modes_with p limits (mode_of p)) SameThread (size p.tree) n inside

  holder_inside : (a : ℕ) (key : List ℕ) (mode : LockMode) → HasLock (held_of p a) key mode → a < size p.tree
  holder_inside a key mode lock =
      elim (cases_lt a (size p.tree)) [
        | inl lt ↦ lt
        | inr le ↦ (let len = plan.held_len in absurd (none-some (record { key = key; mode = mode }) (ap (λ (s : List Lock). slice_get s lock.0) (sym (get_or_past p.held a [] (omega (arith, len, le)))) ∙ lock.1)))
      ]

  forced : (a n : ℕ) (key : List ℕ) (mode : LockMode) → HasLock (held_of p a) key mode → 0 < get_or limits (number_of p.keys key) 0 → Below p.tree a n → mode_of (limited_by p limits) n ≡ SameThread
  forced a n key mode lock some b =
      let holds : limited a ≡ true = ap (any_limited limits) (numbers_are p.keys p.held a) ∙ limited_from p.keys limits (held_of p a) key mode lock.0 lock.1 some in
      mode_is n (below_inside p.tree a n b)
      ∙ cond-true (is_below_marked p.tree limited n) SameThread (mode_of p n)
      (and_from (ltb 0 n) _ (lt-ltb 0 n (below_above_zero p.tree a n b)) (mark_above p.tree (lock_tree p.tree plan.tree).rooted limited a n (holder_inside a key mode lock) holds b))

  unmarked : (n : ℕ) → n < size p.tree → ((a : ℕ) (key : List ℕ) (mode : LockMode) → HasLock (held_of p a) key mode → 0 < get_or limits (number_of p.keys key) 0 → Below p.tree a n → ⊥) → is_below_marked p.tree limited n ≡ false
  unmarked n inside none =
      false_from_ne_true (is_below_marked p.tree limited n) (λ e. (
      let rooted = (lock_tree p.tree plan.tree).rooted in
      let b = and_parts (ltb 0 n) _ e in
      let pos = ltb-true 0 n b.0 in
      let up = rooted.up n pos inside in
      let r = mark_use p.tree rooted limited (parent_of p.tree n) (omega (arith, up, inside)) b.1 in
      let u = limited_use p.keys limits (held_of p r.0) (sym (ap (any_limited limits) (numbers_are p.keys p.held r.0)) ∙ r.1.2) in
      none r.0 u.0.key u.0.mode u.1.0 u.1.1 (at_child p.tree r.0 (parent_of p.tree n) n r.1.1 (record { above_zero = pos; inside = inside; parent = refl }))
      ))

  -- past all nodes every plan has one mode
  past_mode : (n : ℕ) → size p.tree ≤ n → mode_of p n ≡ SameThread
  past_mode n le = (let len = plan.modes_len in get_or_past p.modes n SameThread (omega (arith, len, le)))

  pub is_limited : IsLimited p (limited_by p limits)
  is_limited = record {
    forced = forced;
    free = λ n none. elim (cases_lt n (size p.tree)) [
      | inl inside ↦ mode_is n inside ∙ cond-false (is_below_marked p.tree limited n) SameThread (mode_of p n) (unmarked n inside none)
      | inr le ↦ table_past (modes_with p limits (mode_of p)) SameThread (size p.tree) n le ∙ sym (past_mode n le)
    ];
  }

  still_forced : (a n : ℕ) (key : List ℕ) → (HasLock (held_of p a) key ReadWrite → Below p.tree a n → mode_of p n ≡ SameThread) → HasLock (held_of p a) key ReadWrite → Below p.tree a n → mode_of (limited_by p limits) n ≡ SameThread
  still_forced a n key old lock b = mode_is n (below_inside p.tree a n b) ∙ same_either (is_below_marked p.tree limited n) (mode_of p n) (old lock b)

  pub hoisted_limited : (given : ℕ → Mode) → IsHoisted (declared_of p.tree) given p → IsHoisted (declared_of p.tree) (modes_with p limits given) (limited_by p limits)
  hoisted_limited given h = record {
    writes = h.writes;
    reads = h.reads;
    only = h.only;
    one_mode = h.one_mode;
    forced = λ a n key lock b. still_forced a n key (h.forced a n key) lock b;
    free = λ n none. elim (cases_lt n (size p.tree)) [
      | inl inside ↦ mode_is n inside ∙ ap (cond (is_below_marked p.tree limited n) SameThread) (h.free n none)
      | inr le ↦ table_past (modes_with p limits (mode_of p)) SameThread (size p.tree) n le ∙ sym (same_either (is_below_marked p.tree limited n) (given n) (sym (h.free n none) ∙ past_mode n le))
    ];
  }

  held_still : (n : ℕ) (key : List ℕ) (mode : LockMode) → IsHeldFor (declared_of p.tree) p n key mode → IsHeldFor (declared_of p.tree) (limited_by p limits) n key mode
  held_still n key mode h = record { node = h.node; above = h.above; held_mode = h.held_mode; holds = h.holds; writes = h.writes }

  pub guarded_limited : IsGuarded (declared_of p.tree) p → IsGuarded (declared_of p.tree) (limited_by p limits)
  guarded_limited h = record { holder = λ n key mode declared. held_still n key mode (h.holder n key mode declared); forced = λ a n key lock b. still_forced a n key (h.forced a n key) lock b }

  pub limited_sound : (lists : List (List ℕ)) → limit_for (limited_by p limits) global ≡ 0 → lists ≡ map (numbers_of p.keys) p.held → IsSound (limited_by p limits) lists
  limited_sound lists none is = record {
    plan = record {
      tree = plan.tree;
      modes_len = table_len (modes_with p limits (mode_of p)) (size p.tree);
      held_len = plan.held_len;
      sets = plan.sets;
      lines = plan.lines;
      layers = plan.layers;
      few = plan.few;
      numbered = plan.numbered;
      unlimited = none;
    };
    numbers = is;
  }

-- what limits and modes are made of a plan's fields
pub limits_are : {V : Type 0} (items : V → List ℕ) (p : PlanParts) (vs ws : List V) (given : List KeyLimit) (keys : List (List ℕ)) (limits again : List ℕ) (modes before : List Mode) → IsSound p (map items vs) → keys ≡ p.keys → limits ≡ map (limit_given given) keys
    → again ≡ limits → ws ≡ vs → before ≡ p.modes → modes ≡ table (mode_below p.tree (λ n. any_limited again (get_or (map items ws) n [])) (λ n. get_or before n SameThread)) (size p.tree) → record p { limits = limits; modes = modes } ≡ with_limits p given
limits_are items p vs ws given keys limits again modes before sound k l a w b m =
    let limited : limits ≡ map (limit_given given) p.keys = l ∙ ap (map (limit_given given)) k in
    let numbers : map items ws ≡ map (numbers_of p.keys) p.held = ap (map items) w ∙ sound.numbers in
    let read : again ≡ map (limit_given given) p.keys = a ∙ limited in
    let made : modes ≡ table (modes_with p (map (limit_given given) p.keys) (mode_of p)) (size p.tree) = m ∙ (λ i. table (mode_below p.tree (λ n. any_limited (read i) (get_or (numbers i) n [])) (λ n. get_or (b i) n SameThread)) (size p.tree)) in
    λ i. record p { limits = limited i; modes = made i }

-- a lock of a key, and the test for its number
number_from : (keys : List (List ℕ)) (s : List Lock) (key : List ℕ) (mode : LockMode) (i : ℕ) → slice_get s i ≡ Some (record { key = key; mode = mode }) → list_any (λ (k : ℕ). k == number_of keys key) (numbers_of keys s) ≡ true
number_from keys [] key mode i q = absurd (none-some (record { key = key; mode = mode }) q)
number_from keys (l ∷ s) key mode zero q =
    or_left (number_of keys l.key == number_of keys key) (list_any (λ (k : ℕ). k == number_of keys key) (numbers_of keys s))
    (eq-eqb (number_of keys l.key) (number_of keys key) (ap (λ (x : Lock). number_of keys x.key) (same_Some l (record { key = key; mode = mode }) q)))
number_from keys (l ∷ s) key mode (suc i) q = or_right (number_of keys l.key == number_of keys key) (list_any (λ (k : ℕ). k == number_of keys key) (numbers_of keys s)) (number_from keys s key mode i q)

number_use : (keys : List (List ℕ)) (s : List Lock) (number : ℕ) → list_any (λ (k : ℕ). k == number) (numbers_of keys s) ≡ true → (l : Lock) × (HasLock s l.key l.mode × (number_of keys l.key ≡ number))
number_use keys [] number q = absurd (false≢true q)
number_use keys (l ∷ s) number q =
    elim (or_cases (number_of keys l.key == number) (list_any (λ (k : ℕ). k == number) (numbers_of keys s)) q) [
      | inl t ↦ (l, ((0, refl), eqb-true (number_of keys l.key) number t))
      | inr t ↦ (let r = number_use keys s number t in (r.0, ((suc r.1.0.0, r.1.0.1), r.1.1)))
    ]

-- two lists of locks that share a limited key share its number
share_from : (keys : List (List ℕ)) (limits : List ℕ) (s r : List Lock) (key : List ℕ) (mode other : LockMode) (i : ℕ) → slice_get s i ≡ Some (record { key = key; mode = mode }) → HasLock r key other → 0 < get_or limits (number_of keys key) 0
    → share_numbers limits (numbers_of keys s) (numbers_of keys r) ≡ true
share_from keys limits [] r key mode other i q there some = absurd (none-some (record { key = key; mode = mode }) q)
share_from keys limits (l ∷ s) r key mode other zero q there some =
    let is : key ≡ l.key = ap (λ (x : Lock). x.key) (sym (same_Some l (record { key = key; mode = mode }) q)) in
    or_left (ltb 0 (get_or limits (number_of keys l.key) 0) && list_any (λ (k : ℕ). k == number_of keys l.key) (numbers_of keys r)) (share_numbers limits (numbers_of keys s) (numbers_of keys r))
    (subst (λ (x : List ℕ). (ltb 0 (get_or limits (number_of keys x) 0) && list_any (λ (k : ℕ). k == number_of keys x) (numbers_of keys r)) ≡ true) is
    (and_from (ltb 0 (get_or limits (number_of keys key) 0)) (list_any (λ (k : ℕ). k == number_of keys key) (numbers_of keys r)) (lt-ltb 0 (get_or limits (number_of keys key) 0) some) (number_from keys r key other there.0 there.1)))
share_from keys limits (l ∷ s) r key mode other (suc i) q there some =
    or_right (ltb 0 (get_or limits (number_of keys l.key) 0) && list_any (λ (k : ℕ). k == number_of keys l.key) (numbers_of keys r)) (share_numbers limits (numbers_of keys s) (numbers_of keys r)) (share_from keys limits s r key mode other i q there some)

share_use : (keys : List (List ℕ)) (limits : List ℕ) (s r : List Lock) → share_numbers limits (numbers_of keys s) (numbers_of keys r) ≡ true
    → (l : Lock) × (HasLock s l.key l.mode × (0 < get_or limits (number_of keys l.key) 0) × (list_any (λ (k : ℕ). k == number_of keys l.key) (numbers_of keys r) ≡ true))
share_use keys limits [] r q = absurd (false≢true q)
share_use keys limits (l ∷ s) r q =
    elim (or_cases (ltb 0 (get_or limits (number_of keys l.key) 0) && list_any (λ (k : ℕ). k == number_of keys l.key) (numbers_of keys r)) (share_numbers limits (numbers_of keys s) (numbers_of keys r)) q) [
      | inl t ↦ (let b = and_parts (ltb 0 (get_or limits (number_of keys l.key) 0)) (list_any (λ (k : ℕ). k == number_of keys l.key) (numbers_of keys r)) t in (l, ((0, refl), ltb-true 0 (get_or limits (number_of keys l.key) 0) b.0, b.1)))
      | inr t ↦ (let u = share_use keys limits s r t in (u.0, ((suc u.1.0.0, u.1.0.1), u.1.1, u.1.2)))
    ]

module _ (p : PlanParts) (plan : IsPlan p) (m n : ℕ) where
  -- Two nodes hold a limited key if their numbers say so.
  pub share_is : share_numbers p.limits (numbers_of p.keys (held_of p m)) (numbers_of p.keys (held_of p n)) ≡ true → ShareLimited p m n
  share_is q =
      let u = share_use p.keys p.limits (held_of p m) (held_of p n) q in
      let v = number_use p.keys (held_of p n) (number_of p.keys u.0.key) u.1.2 in
      let same : v.0.key ≡ u.0.key = same_number p.keys v.0.key u.0.key (plan.numbered n v.0.key v.0.mode v.1.0) (plan.numbered m u.0.key u.0.mode u.1.0) v.1.1 in
      record { key = u.0.key; limited = u.1.1; mode = u.0.mode; here = u.1.0; other_mode = v.0.mode; there = subst (λ (k : List ℕ). HasLock (held_of p n) k v.0.mode) same v.1.0 }

  pub is_shared : ShareLimited p m n → share_numbers p.limits (numbers_of p.keys (held_of p m)) (numbers_of p.keys (held_of p n)) ≡ true
  is_shared s = share_from p.keys p.limits (held_of p m) (held_of p n) s.key s.mode s.other_mode s.here.0 s.here.1 s.there s.limited
