-- Where no spare declares a lock, and no engine is a factory, hoisting gives no spare a key.
use Rattle.std.proofs.Common.{◌≡◌, ℕ, zero, ◌+◌, ◌<◌, ◌&&◌, ◌==◌, not, Bool, true, false, List, [], ◌∷◌, length, inl, inr, refl, sym, ap, ◌∙◌, arith}
use Rattle.std.proofs.lemmas.Bool.{cases_eq, eqb-true, false≢true}
use Rattle.descriptor.specs.declared.lock.Lock.{Lock}
use Rattle.descriptor.specs.declared.lock_mode.LockMode.{LockMode}
use Rattle.descriptor.specs.declared.mode.Mode.{Mode}
use Rattle.descriptor.specs.Nodes.{IsTree, is_spare_at}
use Rattle.resource_locks.specs.Declarations.{declared_of, IsTop, IsToHold, isolated_all, global_read, first}
use Rattle.resource_locks.specs.Hoisted.{IsHoisted}
use Rattle.resource_locks.specs.Plans.{PlanParts, held_of}
use Rattle.resource_locks.specs.Spares.{HasFreeSpares, HasBareSpares}
use Rattle.resource_locks.specs.Wants.{HasLock}

-- a list that has no lock is empty
none_held : (locks : List Lock) → ((key : List ℕ) (mode : LockMode) → HasLock locks key mode → ⊥) → locks ≡ []
none_held [] none = refl
none_held (lock ∷ more) none = absurd (none lock.key lock.mode (zero, refl))

pub free_spares : (p : PlanParts) (given : ℕ → Mode) → IsTree p.tree → IsHoisted (declared_of p.tree) given p → HasBareSpares p.tree → HasFreeSpares p
free_spares p given tree hoisted bare n spare = none_held (held_of p n) (λ key mode holds. never key mode (hoisted.only n key mode holds))
  where
    no_top : IsTop p.tree n → ⊥
    no_top top = false≢true (sym (bare.engines top.engine top.of_plan) ∙ sym (tree.spares top.engine n top.child) ∙ spare)

    never : (key : List ℕ) (mode : LockMode) → IsToHold (declared_of p.tree) n key mode → ⊥
    never key mode (isolated_all top whole x) = no_top top
    never key mode (global_read top light k q) = no_top top
    never key mode (first c top light at f within) = f.declares (bare.locks n spare)

none_there : (b : Bool) → not b ≡ false → b ≡ true
none_there true e = refl
none_there false e = absurd (false≢true (sym e))

no_locks : (locks : List Lock) → length locks ≡ 0 → locks ≡ []
no_locks [] e = refl
no_locks (lock ∷ more) e = absurd (omega (arith, e))

spare_free : (spare : Bool) (locks : List Lock) → (spare && not (length locks == 0)) ≡ false → spare ≡ true → locks ≡ []
spare_free true locks free e = no_locks locks (eqb-true (length locks) 0 (none_there (length locks == 0) free))
spare_free false locks free e = absurd (false≢true e)

-- one more node, which is no spare that holds a key
pub next_free : (p : PlanParts) (m : ℕ) → ((n : ℕ) → n < m → is_spare_at p.tree n ≡ true → held_of p n ≡ []) → (is_spare_at p.tree m && not (length (held_of p m) == 0)) ≡ false
    → (n : ℕ) → n < m + 1 → is_spare_at p.tree n ≡ true → held_of p n ≡ []
next_free p m before free n lt spare = elim (cases_eq n m) [
  | inl e ↦ spare_free (is_spare_at p.tree n) (held_of p n) (ap (λ (k : ℕ). is_spare_at p.tree k && not (length (held_of p k) == 0)) e ∙ free) spare
  | inr ne ↦ before n (omega (arith, lt, ne)) spare
]
