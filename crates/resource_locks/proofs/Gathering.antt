-- What a node gathers.
use Rattle.std.proofs.Common.{◌≡◌, ℕ, zero, suc, ◌<◌, Bool, true, false, ◌&&◌, eqb, ltb, cond, List, [], ◌∷◌, Some, inl, inr, ◌⊎◌, refl, sym, ap, ◌∙◌, subst, arith}
use Rattle.std.proofs.lemmas.Bool.{cases_eq, cond_both, cond-true, eqb-true, eq-eqb, ltb-true, lt-ltb, and_parts, and_from}
use Rattle.std.proofs.lemmas.Option.{none-some}
use Rattle.descriptor.specs.declared.lock.Lock.{Lock}
use Rattle.descriptor.specs.declared.lock_mode.LockMode.{LockMode}
use Rattle.descriptor.specs.declared.lock_mode.LockMode.TheVariants.{Read, ReadWrite}
use Rattle.resource_locks.specs.Wants.{mode_for, HasLock}
use Rattle.resource_locks.specs.LockSets.{join, IsLockSet}
use Rattle.resource_locks.specs.Declarations.{Declared, global}
use Rattle.resource_locks.specs.Held.{holder_of, is_top, is_whole, own, gathered}
use Rattle.resource_locks.proofs.Wants.{AtLeast, at_least_left, at_least_right, mode_join, either_one, wants_all, has_wanted}
use Rattle.resource_locks.proofs.SetLaws.{join_set}

module _ (told : Declared) (n : ℕ) where
  own_set : IsLockSet (own told n)
  own_set = cond_both (is_top told.tree n) (record { key = global; mode = cond (is_whole told n) ReadWrite Read } ∷ []) [] IsLockSet (λ e. (λ i l q. absurd (none-some l q), tt)) (λ e. tt)

  pub gathered_set : (k : ℕ) → IsLockSet (gathered told n k)
  gathered_set zero = own_set
  gathered_set (suc m) =
      cond_both (ltb 0 n && eqb (holder_of told m) n) (join (gathered told n m) (told.locks m)) (gathered told n m) IsLockSet (λ e. join_set (gathered told n m) (told.locks m) (gathered_set m)) (λ e. gathered_set m)

  module _ (key : List ℕ) (mode : LockMode) where
    -- what is gathered stays
    more : (m : ℕ) → AtLeast mode (mode_for key (gathered told n m)) → AtLeast mode (mode_for key (gathered told n (suc m)))
    more m h =
        cond_both (ltb 0 n && eqb (holder_of told m) n) (join (gathered told n m) (told.locks m)) (gathered told n m) (λ s. AtLeast mode (mode_for key s)) (
        λ e. subst (AtLeast mode) (sym (mode_join key (gathered told n m) (told.locks m))) (at_least_left mode (mode_for key (gathered told n m)) (mode_for key (told.locks m)) h)
        ) (λ e. h)

    pub gathers_own : (k : ℕ) → AtLeast mode (mode_for key (own told n)) → AtLeast mode (mode_for key (gathered told n k))
    gathers_own zero h = h
    gathers_own (suc m) h = more m (gathers_own m h)

    pub gathers : (k m : ℕ) → m < k → 0 < n → holder_of told m ≡ n → HasLock (told.locks m) key mode → AtLeast mode (mode_for key (gathered told n k))
    gathers zero m lt pos e l = absurd (omega (arith, lt))
    gathers (suc k) m lt pos e l =
        elim (cases_eq m k) [
          | inl here ↦ (let test : (ltb 0 n && eqb (holder_of told k) n) ≡ true = and_from (ltb 0 n) (eqb (holder_of told k) n) (lt-ltb 0 n pos) (eq-eqb (holder_of told k) n (ap (holder_of told) (sym here) ∙ e)) in
              let wanted : AtLeast mode (mode_for key (told.locks k)) = subst (λ (x : ℕ). AtLeast mode (mode_for key (told.locks x))) here (wants_all (told.locks m) key mode l) in
              subst (λ (s : List Lock). AtLeast mode (mode_for key s)) (sym (cond-true (ltb 0 n && eqb (holder_of told k) n) (join (gathered told n k) (told.locks k)) (gathered told n k) test)) (
              subst (AtLeast mode) (sym (mode_join key (gathered told n k) (told.locks k))) (at_least_right mode (mode_for key (gathered told n k)) (mode_for key (told.locks k)) wanted)
              ))
          | inr ne ↦ more k (gathers k m (omega (arith, lt, ne)) pos e l)
        ]

    -- what is gathered is the node's own, or declared by one that it holds for
    pub gathered_from : (k : ℕ) → mode_for key (gathered told n k) ≡ Some mode
        → (mode_for key (own told n) ≡ Some mode) ⊎ ((m : ℕ) × ((m < k) × (0 < n) × (holder_of told m ≡ n) × HasLock (told.locks m) key mode))
    gathered_from zero e = inl e
    gathered_from (suc k) e = step (ltb 0 n && eqb (holder_of told k) n) refl e (λ h. gathered_from k h)
      where
        later : (mode_for key (own told n) ≡ Some mode) ⊎ ((m : ℕ) × ((m < k) × (0 < n) × (holder_of told m ≡ n) × HasLock (told.locks m) key mode))
            → (mode_for key (own told n) ≡ Some mode) ⊎ ((m : ℕ) × ((m < suc k) × (0 < n) × (holder_of told m ≡ n) × HasLock (told.locks m) key mode))
        later (inl h) = inl h
        later (inr r) = let lt = r.1.0 in inr (r.0, (omega (arith, lt), r.1.1, r.1.2, r.1.3))

        step : (b : Bool) → b ≡ (ltb 0 n && eqb (holder_of told k) n) → mode_for key (cond b (join (gathered told n k) (told.locks k)) (gathered told n k)) ≡ Some mode
            → (mode_for key (gathered told n k) ≡ Some mode → (mode_for key (own told n) ≡ Some mode) ⊎ ((m : ℕ) × ((m < k) × (0 < n) × (holder_of told m ≡ n) × HasLock (told.locks m) key mode)))
            → (mode_for key (own told n) ≡ Some mode) ⊎ ((m : ℕ) × ((m < suc k) × (0 < n) × (holder_of told m ≡ n) × HasLock (told.locks m) key mode))
        step false q h before = later (before h)
        step true q h before =
            elim (either_one (mode_for key (gathered told n k)) (mode_for key (told.locks k)) mode (sym (mode_join key (gathered told n k) (told.locks k)) ∙ h)) [
              | inl a ↦ later (before a)
              | inr b ↦ (let both = and_parts (ltb 0 n) (eqb (holder_of told k) n) (sym q) in
                  inr (k, (omega arith, ltb-true 0 n both.0, eqb-true (holder_of told k) n both.1, has_wanted (told.locks k) key mode b)))
            ]
