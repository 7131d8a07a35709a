-- The locks that a tree names: those that its nodes declare, and the global one.
use Rattle.std.proofs.Common.{◌≡◌, ℕ, zero, suc, ◌<◌, Bool, true, false, ◌||◌, List, [], ◌∷◌, ◌++◌, Some, slice_get, ◌⊎◌, inl, inr, refl, sym, ap, subst, ◌∙◌, arith}
use Rattle.std.specs.Prelude.{cond}
use Rattle.std.specs.List.{list_any}
use Rattle.std.specs.Str.{bytes_eq}
use Rattle.std.proofs.lemmas.Bool.{cases_eq, or_cases, or_left, or_right, false≢true}
use Rattle.std.proofs.lemmas.List.Folds.{list_any-append}
use Rattle.std.proofs.lemmas.Option.{none-some, same_Some}
use Rattle.std.proofs.lemmas.Slice.Eq.{bytes_eq-Decides}
use Rattle.descriptor.specs.declared.lock.Lock.{Lock}
use Rattle.descriptor.specs.declared.lock_mode.LockMode.{LockMode}
use Rattle.resource_locks.specs.Declarations.{Declared, global}
use Rattle.resource_locks.specs.Keys.{with_key, with_keys, keys_upto}
use Rattle.resource_locks.specs.Wants.{HasLock}

-- a list of keys has a key
abbrev pub Has : List (List ℕ) → List ℕ → Type 0
Has keys key = list_any (bytes_eq key) keys ≡ true

-- keys with one more have those that they had, and that one
one_key : (keys : List (List ℕ)) (more key : List ℕ) → list_any (bytes_eq key) (with_key keys more) ≡ (list_any (bytes_eq key) keys || bytes_eq key more)
one_key keys more key = by (list_any (bytes_eq more) keys) refl
  where
    there : (a b : Bool) → (b ≡ true → a ≡ true) → a ≡ (a || b)
    there true b h = refl
    there false true h = h refl
    there false false h = refl

    right_false : (b : Bool) → (b || false) ≡ b
    right_false true = refl
    right_false false = refl

    by : (b : Bool) → list_any (bytes_eq more) keys ≡ b → list_any (bytes_eq key) (cond b keys (keys ++ more ∷ [])) ≡ (list_any (bytes_eq key) keys || bytes_eq key more)
    by true e = there (list_any (bytes_eq key) keys) (bytes_eq key more) (λ t. subst (Has keys) (sym ((bytes_eq-Decides key more).0 t)) e)
    by false e = list_any-append (bytes_eq key) keys (more ∷ []) ∙ ap (λ (b : Bool). list_any (bytes_eq key) keys || b) (right_false (bytes_eq key more))

-- keys with those of locks
from_keys : (keys : List (List ℕ)) (locks : List Lock) (key : List ℕ) → Has (with_keys keys locks) key → Has keys key ⊎ ((mode : LockMode) × HasLock locks key mode)
from_keys keys [] key h = inl h
from_keys keys (l ∷ more) key h = elim (from_keys (with_key keys l.key) more key h) [ inl one ↦ by (or_cases (list_any (bytes_eq key) keys) (bytes_eq key l.key) (sym (one_key keys l.key key) ∙ one)) | inr later ↦ inr (later.0, (suc later.1.0, later.1.1)) ]
  where
    by : Has keys key ⊎ (bytes_eq key l.key ≡ true) → Has keys key ⊎ ((mode : LockMode) × HasLock (l ∷ more) key mode)
    by (inl has) = inl has
    by (inr same) = inr (l.mode, (zero, ap (λ (k : List ℕ). Some (record { key = k; mode = l.mode })) (sym ((bytes_eq-Decides key l.key).0 same))))

keys_stay : (keys : List (List ℕ)) (locks : List Lock) (key : List ℕ) → Has keys key → Has (with_keys keys locks) key
keys_stay keys [] key h = h
keys_stay keys (l ∷ more) key h = keys_stay (with_key keys l.key) more key (one_key keys l.key key ∙ or_left (list_any (bytes_eq key) keys) (bytes_eq key l.key) h)

keys_added : (keys : List (List ℕ)) (locks : List Lock) (key : List ℕ) (mode : LockMode) (i : ℕ) → slice_get locks i ≡ Some (record { key = key; mode = mode }) → Has (with_keys keys locks) key
keys_added keys [] key mode i e = absurd (none-some (record { key = key; mode = mode }) e)
keys_added keys (l ∷ more) key mode zero e =
    keys_stay (with_key keys l.key) more key (one_key keys l.key key
    ∙ or_right (list_any (bytes_eq key) keys) (bytes_eq key l.key) ((bytes_eq-Decides key l.key).1 (sym (ap (λ (x : Lock). x.key) (same_Some l (record { key = key; mode = mode }) e)))))
keys_added keys (l ∷ more) key mode (suc i) e = keys_added (with_key keys l.key) more key mode i e

module _ (d : Declared) where
  -- the global lock is named
  pub global_has : (n : ℕ) → Has (keys_upto d n) global
  global_has zero = or_left (bytes_eq global global) false ((bytes_eq-Decides global global).1 refl)
  global_has (suc n) = keys_stay (keys_upto d n) (d.locks n) global (global_has n)

  -- a lock that is named is the global one, or a node declares it
  pub named_by : (n : ℕ) (key : List ℕ) → Has (keys_upto d n) key → (key ≡ global) ⊎ ((m : ℕ) × ((m < n) × ((mode : LockMode) × HasLock (d.locks m) key mode)))
  named_by zero key h = elim (or_cases (bytes_eq key global) false h) [ inl same ↦ inl ((bytes_eq-Decides key global).0 same) | inr never ↦ absurd (false≢true never) ]
  named_by (suc n) key h =
      elim (from_keys (keys_upto d n) (d.locks n) key h) [
        | inl before ↦ (elim (named_by n key before) [ inl same ↦ inl same | inr found ↦ inr (found.0, ((let lt = found.1.0 in omega (arith, lt)), found.1.1)) ])
        | inr here ↦ inr (n, (omega arith, here))
      ]

  -- and one that a node declares is named
  pub declared_has : (n m : ℕ) (key : List ℕ) (mode : LockMode) → m < n → HasLock (d.locks m) key mode → Has (keys_upto d n) key
  declared_has zero m key mode lt h = absurd (omega (arith, lt))
  declared_has (suc n) m key mode lt h =
      elim (cases_eq m n) [
        | inl e ↦ (let l = subst (λ (x : ℕ). HasLock (d.locks x) key mode) e h in keys_added (keys_upto d n) (d.locks n) key mode l.0 l.1)
        | inr ne ↦ keys_stay (keys_upto d n) (d.locks n) key (declared_has n m key mode (omega (arith, lt, ne)) h)
      ]
