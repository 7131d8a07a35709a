-- How counts are printed.
use Rattle.std.proofs.Common.{◌≡◌, ℕ, zero, suc, ◌+◌, ◌-◌, ◌<◌, ◌^◌, List, [], ◌∷◌, ◌++◌, length, take, get_or, replicate, false, refl, sym, ap, ◌∙◌, arith}
use Rattle.std.specs.List.{repeat}
use Rattle.std.specs.Fmt.{decimal, format_spec, padded_integral, char_count}
use Rattle.std.proofs.lemmas.List.{append-nil, append_assoc, length-take-le, take_more}
use Rattle.run_results.specs.SummaryTexts.{right_in, left_in, bracketed, count_line, count_lines}

repeat_one : (n b : ℕ) → repeat n (b ∷ []) ≡ replicate n b
repeat_one zero b = refl
repeat_one (suc n) b = ap (λ (xs : List ℕ). b ∷ xs) (repeat_one n b)

laid : (p q r : ℕ) (ds : List ℕ) → p ≡ r → q ≡ 0 → ((((repeat p (32 ∷ []) ++ []) ++ []) ++ []) ++ (ds ++ repeat q (32 ∷ []))) ≡ replicate r 32 ++ ds
laid p q r ds same none =
    ap (λ (n : ℕ). (((repeat p (32 ∷ []) ++ []) ++ []) ++ []) ++ (ds ++ repeat n (32 ∷ []))) none
    ∙ ap (λ (xs : List ℕ). xs ++ (ds ++ [])) (append-nil ((repeat p (32 ∷ []) ++ []) ++ []) ∙ append-nil (repeat p (32 ∷ []) ++ []) ∙ append-nil (repeat p (32 ∷ [])) ∙ repeat_one p 32 ∙ ap (λ (n : ℕ). replicate n 32) same)
    ∙ ap (λ (xs : List ℕ). replicate r 32 ++ xs) (append-nil ds)

-- a number at the right end of ten places
pub right_decimal : (n : ℕ) → padded_integral (format_spec 32 3 0 10 (2 ^ 64 - 1)) false [] (decimal n) ≡ right_in 10 (decimal n)
unfolding padded_integral char_count lib.Utf8.encode
right_decimal n = laid (10 - length (decimal n) - 0 - 0) (10 - length (decimal n) - 0 - 0 - (10 - length (decimal n) - 0 - 0)) (10 - length (decimal n)) (decimal n) (omega arith) (omega arith)

count_lines_append : (xs ys : List ℕ) (ps qs : List (List ℕ)) → length xs ≡ length ps → count_lines (xs ++ ys) (ps ++ qs) ≡ count_lines xs ps ++ count_lines ys qs
count_lines_append [] ys [] qs same = refl
count_lines_append [] ys (p ∷ ps) qs same = absurd (omega (arith, same))
count_lines_append (x ∷ xs) ys [] qs same = absurd (omega (arith, same))
count_lines_append (x ∷ xs) ys (p ∷ ps) qs same =
    ap (λ (text : List ℕ). count_line x p ++ text) (count_lines_append xs ys ps qs (omega (arith, same))) ∙ sym (append_assoc (count_line x p) (count_lines xs ps) (count_lines ys qs))

-- one line more behind the first i
pub line_more : (counts : List ℕ) (ps : List (List ℕ)) (i : ℕ) (old text grown phrase : List ℕ) → i < length counts → i < length ps → phrase ≡ left_in 21 (get_or ps i [])
    → text ≡ old ++ count_lines (take i counts) (take i ps) → grown ≡ text ++ bracketed (get_or counts i 0) phrase → grown ≡ old ++ count_lines (take (i + 1) counts) (take (i + 1) ps)
line_more counts ps i old text grown phrase inside within called before line =
    let count = get_or counts i 0 in
    let same : length (take i counts) ≡ length (take i ps) = length-take-le i counts (omega (arith, inside)) ∙ sym (length-take-le i ps (omega (arith, within))) in
    let one : bracketed count phrase ≡ count_line count (get_or ps i []) ++ [] = ap (bracketed count) called ∙ sym (append-nil (count_line count (get_or ps i []))) in
    line ∙ ap (λ (t : List ℕ). t ++ bracketed count phrase) before ∙ ap (λ (l : List ℕ). (old ++ count_lines (take i counts) (take i ps)) ++ l) one
    ∙ append_assoc old (count_lines (take i counts) (take i ps)) (count_line count (get_or ps i []) ++ [])
    ∙ ap (λ (l : List ℕ). old ++ l) (sym (count_lines_append (take i counts) (count ∷ []) (take i ps) (get_or ps i [] ∷ []) same))
    ∙ ap (λ (xs : List ℕ). old ++ count_lines xs (take i ps ++ get_or ps i [] ∷ [])) (sym (take_more counts i 0 inside))
    ∙ ap (λ (xs : List (List ℕ)). old ++ count_lines (take (i + 1) counts) xs) (sym (take_more ps i [] within))
