-- A test that passes exactly if no more nodes hold a key than its limit says.
use Rattle.std.proofs.Common.{◌≡◌, ℕ, suc, ◌<◌, ◌≤◌, Bool, true, ◌&&◌, nat_lt, nat_le, List, [], ◌∷◌, length, take, ◌+◌, inl, inr, refl, sym, ap, ◌∙◌, subst, arith}
use Rattle.std.specs.List.{list_all}
use Rattle.std.specs.Str.{bytes_eq}
use Rattle.std.proofs.lemmas.Bool.{cases_lt, cases_Bool, and_parts, and_from, lt-ltb, ltb-true, le-leb, leb-true}
use Rattle.std.proofs.lemmas.List.{take_all}
use Rattle.descriptor.specs.declared.lock_mode.LockMode.{LockMode}
use Rattle.descriptor.specs.Nodes.{size}
use Rattle.plan_events.specs.declared.event.Event.{Event}
use Rattle.resource_locks.specs.Plans.{PlanParts, held_of, number_of, limit_for}
use Rattle.resource_locks.specs.Wants.{HasLock}
use Rattle.resource_locks.proofs.Wants.{same_key}
use Rattle.event_history.specs.Limits.{holds_key, is_running, holders_after, IsWithinLimits}
use Rattle.event_history.proofs.Deciding.{implies, implies_use, implies_from, all_below, all_use, all_from}
use Rattle.event_history.proofs.Limits.{key_held, none_pass}

-- no more nodes hold the key after the first i events than its limit says, if it has one
abbrev within_at : PlanParts → List Event → List ℕ → ℕ → Bool
within_at p h key i = implies (nat_lt 0 (limit_for p key)) (nat_le (holders_after p key (take i h)) (limit_for p key))

abbrev pub is_within : PlanParts → List Event → Bool
is_within p h = list_all (λ key. all_below (within_at p h key) (suc (length h))) p.keys

each_use : (q : List ℕ → Bool) (key : List ℕ) (keys : List (List ℕ)) → number_of keys key < length keys → list_all q keys ≡ true → q key ≡ true
each_use q key [] lt t = absurd (omega (arith, lt))
each_use q key (k ∷ keys) lt t =
    let b = and_parts (q k) (list_all q keys) t in
    elim (cases_Bool (bytes_eq key k)) [
      | inl e ↦ ap q (same_key key k e) ∙ b.0
      | inr f ↦ (let next : number_of (k ∷ keys) key ≡ 1 + number_of keys key = rw f refl in each_use q key keys (omega (arith, lt, next)) b.1)
    ]

each_from : (q : List ℕ → Bool) (keys : List (List ℕ)) → ((key : List ℕ) → q key ≡ true) → list_all q keys ≡ true
each_from q [] each = refl
each_from q (k ∷ keys) each = and_from (q k) (list_all q keys) (each k) (each_from q keys each)

module _ (p : PlanParts) (h : List Event) where
  -- The test passes if it is so,
  pub within_test : IsWithinLimits p h → is_within p h ≡ true
  within_test within =
      each_from (λ key. all_below (within_at p h key) (suc (length h))) p.keys (λ key. all_from (within_at p h key) (suc (length h)) (λ i lt. implies_from (nat_lt 0 (limit_for p key)) (nat_le (holders_after p key (take i h)) (limit_for p key))
      (λ some. le-leb (holders_after p key (take i h)) (limit_for p key) (within i key (ltb-true 0 (limit_for p key) some)))))

  -- and only then, if each key that is held is one of the plan's.
  pub test_within : ((n : ℕ) (key : List ℕ) (mode : LockMode) → HasLock (held_of p n) key mode → number_of p.keys key < length p.keys) → is_within p h ≡ true → IsWithinLimits p h
  test_within numbered t i key some =
      elim (cases_lt (number_of p.keys key) (length p.keys)) [
        | inr past ↦ none_pass (λ n. holds_key p key n && is_running (take i h) n) (size p.tree) (limit_for p key) (λ n q. (let lock = key_held key (held_of p n) (and_parts (holds_key p key n) (is_running (take i h) n) q).0 in
            let low = numbered n key lock.0 lock.1 in omega (arith, low, past)))
        | inl low ↦ elim (cases_lt (length h) i) [
          | inr le ↦ at low i (omega (arith, le))
          | inl more ↦ subst (λ (l : List Event). holders_after p key l ≤ limit_for p key) (take_all (length h) h (omega arith) ∙ sym (take_all i h (omega (arith, more)))) (at low (length h) (omega arith))
        ]
      ]
    where
      at : number_of p.keys key < length p.keys → (j : ℕ) → j < suc (length h) → holders_after p key (take j h) ≤ limit_for p key
      at low j lt =
          let each = each_use (λ key. all_below (within_at p h key) (suc (length h))) key p.keys low t in
          leb-true (holders_after p key (take j h)) (limit_for p key)
          (implies_use (nat_lt 0 (limit_for p key)) (nat_le (holders_after p key (take j h)) (limit_for p key)) (all_use (within_at p h key) (suc (length h)) j each lt) (lt-ltb 0 (limit_for p key) some))
