-- What the bits of words say of each mark, however many words there are.
use Rattle.std.proofs.Common.{◌≡◌, ◌≢◌, ℕ, ◌*◌, ◌^◌, ◌<◌, ◌≤◌, ◌/◌, ◌%◌, ◌==◌, true, false, List, length, get_or, set, replicate, bit_or, w64, sym, ap, subst, ◌∙◌, arith}
use Rattle.std.proofs.lemmas.List.{ext_get_or, get_or-set_same, get_or-set_other, get_or-replicate, length-set, length-replicate}
use Rattle.std.proofs.lemmas.List.FromFn.{get_or-map-range_with_len, length-map-range_with_len}
use Rattle.std.proofs.lemmas.Nat.Bits.{bit_at-zero, bit_at_set_same, bit_at_set_other}
use Rattle.std.specs.Int.{bit_at}
use mathlib.Core.Logic.{dite}
use native.Mathlib.Decide.{ℕ_discrete}
use Rattle.descriptor.specs.Inside.Marks.{is_marked, marks_in}

module _ (many : ℕ) (words : List ℕ) where
  pub mark_at : (k : ℕ) → k < many → get_or (marks_in many words) k false ≡ is_marked words k
  unfolding marks_in
  mark_at k low = get_or-map-range_with_len (is_marked words) 0 many k k false low (omega arith)

  pub marks_long : length (marks_in many words) ≡ many
  unfolding marks_in
  marks_long = length-map-range_with_len (is_marked words) 0 many

-- words without a bit
module _ (many count : ℕ) (fit : many ≤ count * 64) where
  none_at : (k : ℕ) → k < many → get_or (marks_in many (replicate count 0)) k false ≡ get_or (replicate many false) k false
  none_at k low = mark_at many (replicate count 0) k low
      ∙ (ap (λ (n : ℕ). bit_at n (k % 64) == 1) (get_or-replicate count (k / 64) 0 0 (omega (arith, low, fit))) ∙ (ap (λ (n : ℕ). n == 1) (bit_at-zero (k % 64)) ∙ sym (get_or-replicate many k false false low)))

  pub no_marks : marks_in many (replicate count 0) ≡ replicate many false
  no_marks = ext_get_or false _ _ (marks_long many (replicate count 0) ∙ sym (length-replicate many false)) (λ k inside. none_at k (omega (arith, inside, marks_long many (replicate count 0))))

-- one more bit in its word
module _ (many : ℕ) (words : List ℕ) (k : ℕ) (fit : many ≤ length words * 64) (low : k < many) where
  abbrev marked : List ℕ
  marked = set words (k / 64) (bit_or (get_or words (k / 64) 0) (1 * 2 ^ (k % 64) % 18446744073709551616))

  within : k % 64 < 64
  within = omega arith

  inside : k / 64 < length words
  inside = omega (arith, low, fit)

  here : get_or (marks_in many marked) k false ≡ get_or (set (marks_in many words) k true) k false
  here = mark_at many marked k low
      ∙ (ap (λ (n : ℕ). bit_at n (k % 64) == 1) (get_or-set_same words (k / 64) _ 0 inside)
      ∙ (ap (λ (n : ℕ). n == 1) (bit_at_set_same w64 (get_or words (k / 64) 0) (k % 64) within) ∙ sym (get_or-set_same (marks_in many words) k true false (omega (arith, low, marks_long many words)))))

  in_word : (j : ℕ) → j ≢ k → j / 64 ≡ k / 64 → bit_at (get_or marked (j / 64) 0) (j % 64) ≡ bit_at (get_or words (j / 64) 0) (j % 64)
  in_word j apart row = ap (λ (i : ℕ). bit_at (get_or marked i 0) (j % 64)) row
      ∙ (ap (λ (n : ℕ). bit_at n (j % 64)) (get_or-set_same words (k / 64) _ 0 inside)
      ∙ (bit_at_set_other w64 (get_or words (k / 64) 0) (k % 64) within (j % 64) (λ e. apart (omega (arith, e, row))) ∙ ap (λ (i : ℕ). bit_at (get_or words i 0) (j % 64)) (sym row)))

  elsewhere : (j : ℕ) → j ≢ k → is_marked marked j ≡ is_marked words j
  elsewhere j apart = ap (λ (n : ℕ). n == 1) (dite (ℕ_discrete (j / 64) (k / 64)) (λ row. in_word j apart row) (λ other. ap (λ (n : ℕ). bit_at n (j % 64)) (get_or-set_other words (k / 64) (j / 64) _ 0 other)))

  at : (j : ℕ) → j < many → get_or (marks_in many marked) j false ≡ get_or (set (marks_in many words) k true) j false
  at j low_too = dite (ℕ_discrete j k)
      (λ same. subst (λ (i : ℕ). get_or (marks_in many marked) i false ≡ get_or (set (marks_in many words) k true) i false) (sym same) here)
      (λ apart. mark_at many marked j low_too ∙ (elsewhere j apart ∙ (sym (mark_at many words j low_too) ∙ sym (get_or-set_other (marks_in many words) k j true false apart))))

  pub one_more : marks_in many marked ≡ set (marks_in many words) k true
  one_more = ext_get_or false _ _ (marks_long many marked ∙ (sym (marks_long many words) ∙ sym (length-set (marks_in many words) k true))) (λ j inside_too. at j (omega (arith, inside_too, marks_long many marked)))
