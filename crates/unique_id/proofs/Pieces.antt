-- The texts between slashes: the first, and what is left.
use Rattle.std.proofs.Common.{◌≡◌, ℕ, suc, ◌+◌, ◌<◌, ◌==◌, not, Bool, true, false, List, [], ◌∷◌, length, take, drop, refl, ap, sym, subst, ◌∙◌, arith}
use Rattle.std.proofs.lemmas.Bool.{eqb-true}
use Rattle.std.proofs.lemmas.List.Splits.{slice_split-cons_no, length-slice_split}
use Rattle.std.specs.List.{slice_split, onto_first, prefix_len}
use Rattle.unique_id.specs.Reading.{after}
use Rattle.unique_id.specs.Reads.{pieces_of, left_len}

pub some_piece : (text : List ℕ) → 0 < length (slice_split (λ b. b == 47) text)
some_piece text = omega (arith, length-slice_split (λ b. b == 47) text)

-- how many bytes stand before the first slash
abbrev pub slash : List ℕ → ℕ
slash text = prefix_len (λ b. not (b == 47)) text

pub slash_step : (b : ℕ) (text : List ℕ) → (b == 47) ≡ false → slash (b ∷ text) ≡ suc (slash text)
slash_step b text e = rw e (omega arith)

-- the first of the texts between slashes, and the others
abbrev cut : ℕ → List ℕ → List (List ℕ)
cut n text = take n text ∷ pieces_of (after 47 (drop n text))

split_step : (b : ℕ) (text : List ℕ) (t : Bool) → (b == 47) ≡ t → slice_split (λ b. b == 47) text ≡ cut (slash text) text → slice_split (λ b. b == 47) (b ∷ text) ≡ cut (slash (b ∷ text)) (b ∷ text)
split_step b text true e h = subst (λ (n : ℕ). slice_split (λ b. b == 47) (n ∷ text) ≡ cut (slash (n ∷ text)) (n ∷ text)) {x = 47} (sym (eqb-true b 47 e)) refl
split_step b text false e h =
    slice_split-cons_no (λ b. b == 47) b text e ∙ ap (onto_first b) h ∙ ap (λ n. cut n (b ∷ text)) (sym (slash_step b text e))

pub first_split : (text : List ℕ) → slice_split (λ b. b == 47) text ≡ cut (slash text) text
first_split [] = refl
first_split (b ∷ text) = split_step b text (b == 47) refl (first_split text)

abbrev cut_len : ℕ → List ℕ → ℕ
cut_len n text = length (take n text) + left_len (after 47 (drop n text))

len_step : (b : ℕ) (text : List ℕ) (t : Bool) → (b == 47) ≡ t → cut_len (slash text) text ≡ length text → cut_len (slash (b ∷ text)) (b ∷ text) ≡ length (b ∷ text)
len_step b text true e h = subst (λ (n : ℕ). cut_len (slash (n ∷ text)) (n ∷ text) ≡ length (n ∷ text)) {x = 47} (sym (eqb-true b 47 e)) (omega arith)
len_step b text false e h = ap (λ n. cut_len n (b ∷ text)) (slash_step b text e) ∙ omega (arith, h)

pub first_len : (text : List ℕ) → cut_len (slash text) text ≡ length text
first_len [] = refl
first_len (b ∷ text) = len_step b text (b == 47) refl (first_len text)
