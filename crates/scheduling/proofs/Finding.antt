-- The least number that passes: how it is found step by step, and by a test that agrees.
use Rattle.std.proofs.Common.{◌≡◌, ℕ, zero, suc, ◌+◌, ◌-◌, ◌<◌, ◌≤◌, Bool, false, cond, Option, Some, None, refl, sym, ap, ◌∙◌, arith, inl, inr}
use Rattle.std.proofs.lemmas.Bool.{false≢true, cases_lt}
use Rattle.scheduling.specs.Choices.{find, first_from}
use Rattle.scheduling.proofs.Basics.{IsFirst, first_some, first_none}

find_agree : (q r : ℕ → Bool) (from many : ℕ) → ((x : ℕ) → from ≤ x → x < from + many → q x ≡ r x) → find q from many ≡ find r from many
find_agree q r from zero same = refl
find_agree q r from (suc many) same =
    ap (λ b. cond b (Some from) (find q (suc from) many)) (same from (omega arith) (omega arith))
    ∙ ap (λ o. cond (r from) (Some from) o) (find_agree q r (suc from) many (λ x low high. same x (omega (arith, low)) (omega (arith, high))))

-- two tests that agree find one number
pub first_agree : (q r : ℕ → Bool) (from size : ℕ) → ((x : ℕ) → from ≤ x → x < size → q x ≡ r x) → first_from q from size ≡ first_from r from size
first_agree q r from size same = find_agree q r from (size - from) (λ x low high. same x low (omega (arith, low, high)))

-- one step down
pub first_next : (q : ℕ → Bool) (k size : ℕ) → k < size → first_from q k size ≡ cond (q k) (Some k) (first_from q (suc k) size)
first_next q k size less = let one : size - k ≡ suc (size - suc k) = omega (arith, less) in ap (find q k) one

-- one that passes, with none before it, is found
pub first_is : (q : ℕ → Bool) (from size c : ℕ) → IsFirst q from size c → first_from q from size ≡ Some c
first_is q from size c first = go (first_from q from size) refl
  where
    go : (found : Option ℕ) → first_from q from size ≡ found → found ≡ Some c
    go None e = absurd (false≢true (sym (first_none q from size e c first.low first.high) ∙ first.passes))
    go (Some d) e =
        let other = first_some q from size d e in
        elim (cases_lt d c) [
          | inl before ↦ absurd (false≢true (sym (first.none_before d other.low before) ∙ other.passes))
          | inr behind ↦ elim (cases_lt c d) [
            | inl after ↦ absurd (false≢true (sym (other.none_before c first.low after) ∙ first.passes))
            | inr still ↦ (let same : d ≡ c = omega (arith, behind, still) in ap Some same)
          ]
        ]

-- and where none passes, none
pub none_is : (q : ℕ → Bool) (from size : ℕ) → ((x : ℕ) → from ≤ x → x < size → q x ≡ false) → first_from q from size ≡ None
none_is q from size fails = go (first_from q from size) refl
  where
    go : (found : Option ℕ) → first_from q from size ≡ found → found ≡ None
    go None e = refl
    go (Some d) e = (let other = first_some q from size d e in absurd (false≢true (sym (fails d other.low other.high) ∙ other.passes)))
