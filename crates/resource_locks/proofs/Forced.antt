-- The turns of the loop that forces modes, and the test on a list of locks.
use Rattle.std.proofs.Common.{◌≡◌, ℕ, ◌+◌, ◌<◌, ◌≤◌, Bool, true, false, ◌&&◌, ◌||◌, cond, Option, Some, None, List, [], ◌∷◌, length, get_or, inl, inr, refl, sym, ap, ◌∙◌, arith}
use Rattle.std.proofs.Math.ListN.{set}
use Rattle.std.specs.List.{list_any}
use Rattle.std.specs.Str.{bytes_eq}
use Rattle.std.proofs.lemmas.Bool.{cases_eq, cond-true, cond-false}
use Rattle.std.proofs.lemmas.List.{get_or-set_same, get_or-set_other}
use Rattle.descriptor.specs.declared.lock.Lock.{Lock}
use Rattle.descriptor.specs.declared.lock_mode.LockMode.{LockMode}
use Rattle.descriptor.specs.declared.lock_mode.LockMode.TheVariants.{Read, ReadWrite}
use Rattle.descriptor.specs.declared.mode.Mode.{Mode}
use Rattle.descriptor.specs.declared.mode.Mode.TheVariants.{SameThread}
use Rattle.resource_locks.specs.Wants.{is_write, mode_for, either}
use Rattle.resource_locks.specs.Declarations.{Declared}
use Rattle.resource_locks.specs.Held.{wants_write, is_forced, hoisted_mode}

-- a key is wanted in READ_WRITE where a lock with the key is
pub wants_any : (key : List ℕ) (s : List Lock) → list_any (λ l. bytes_eq key l.key && is_write l.mode) s ≡ wants_write (mode_for key s)
wants_any key [] = refl
wants_any key (l ∷ s) = ap (λ (b : Bool). (bytes_eq key l.key && is_write l.mode) || b) (wants_any key s) ∙ by (bytes_eq key l.key) l.mode (mode_for key s)
  where
    by : (b : Bool) (m : LockMode) (o : Option LockMode) → ((b && is_write m) || wants_write o) ≡ wants_write (either (cond b (Some m) None) o)
    by false m None = refl
    by false m (Some x) = refl
    by true Read None = refl
    by true Read (Some x) = refl
    by true ReadWrite None = refl
    by true ReadWrite (Some x) = refl

-- a node more has the mode that hoisting gives, and those behind it the ones that they were given
module _ (d : Declared) (given v w : List Mode) (n : ℕ) (passed : (k : ℕ) → k < n → get_or v k SameThread ≡ hoisted_mode d given k) (rest : (k : ℕ) → n ≤ k → get_or v k SameThread ≡ get_or given k SameThread) (b : Bool) (is : is_forced d n ≡ b) (inside : n < length v) (made : w ≡ cond b (set v n SameThread) v) where
  other : (k : ℕ) (b : Bool) → (k ≡ n → ⊥) → get_or (cond b (set v n SameThread) v) k SameThread ≡ get_or v k SameThread
  other k true ne = get_or-set_other v n k SameThread SameThread ne
  other k false ne = refl

  here : (b : Bool) → is_forced d n ≡ b → get_or (cond b (set v n SameThread) v) n SameThread ≡ hoisted_mode d given n
  here true e = get_or-set_same v n SameThread SameThread inside ∙ sym (cond-true (is_forced d n) SameThread (get_or given n SameThread) e)
  here false e = rest n (omega arith) ∙ sym (cond-false (is_forced d n) SameThread (get_or given n SameThread) e)

  pub passed_next : (k : ℕ) → k < n + 1 → get_or w k SameThread ≡ hoisted_mode d given k
  passed_next k lt =
      ap (λ (l : List Mode). get_or l k SameThread) made
      ∙ elim (cases_eq k n) [
        | inl e ↦ ap (λ (x : ℕ). get_or (cond b (set v n SameThread) v) x SameThread) e ∙ here b is ∙ ap (hoisted_mode d given) (sym e)
        | inr ne ↦ other k b ne ∙ passed k (omega (arith, lt, ne))
      ]

  pub rest_next : (k : ℕ) → n + 1 ≤ k → get_or w k SameThread ≡ get_or given k SameThread
  rest_next k le = ap (λ (l : List Mode). get_or l k SameThread) made ∙ other k b (λ e. omega (arith, e, le)) ∙ rest k (omega (arith, le))
