-- Nodes that are noted one after the other.
use Rattle.std.proofs.Common.{◌≡◌, ◌∙◌, ◌<◌, ◌+◌, ◌⊎◌, ℕ, length, true, arith, ap, subst, sym, inl, inr}
use Rattle.std.proofs.Math.Nat.{eq-or-lt_of_le}
use Rattle.job_times.specs.Timings.{IsNotedWith, Took, is_noted, is_told}

-- so many nodes have a place, and the first of them are noted
abbrev pub AreNoted : Took → (size : ℕ) → (n : ℕ) → Type 0
AreNoted took size n = (length took ≡ size) × ((m : ℕ) → m < n → is_noted took m ≡ true)

-- with one node more the first are one more
pub noted_next : (old new : Took) (size n : ℕ) → n < size → IsNotedWith n old new → AreNoted old size n → AreNoted new size (n + 1)
noted_next old new size n inside is so_far = (is.many ∙ so_far.0, λ m low. noted m (eq-or-lt_of_le (omega (arith, low))))
  where
    noted : (m : ℕ) → (m ≡ n) ⊎ (m < n) → is_noted new m ≡ true
    noted m (inl same) = subst (λ (k : ℕ). is_noted new k ≡ true) (sym same) (is.here (omega (arith, inside, so_far.0)))
    noted m (inr low) = let was = so_far.1 m low in ap is_told (is.stays m was) ∙ was
