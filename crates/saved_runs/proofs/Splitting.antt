-- A text that is made of lines has these lines, and each beginning of it has the first of them.
use Rattle.std.proofs.Common.{◌≡◌, ℕ, zero, suc, ◌+◌, ◌-◌, ◌<◌, ◌≤◌, true, false, List, [], ◌∷◌, ◌++◌, length, take, map, inl, inr, refl, ap, ◌∙◌, arith, append_assoc}
use Rattle.std.specs.List.{AllByRecursion, flat_map}
use Rattle.std.proofs.lemmas.Bool.{cases_lt}
use Rattle.std.proofs.lemmas.List.{take-append-le}
use Rattle.std.proofs.lemmas.List.Elements.{All-from_recursion}
use Rattle.std.proofs.lemmas.List.Splits.{slice_split_at, slice_split_none, length-slice_split}
use Rattle.saved_runs.specs.Lines.{is_line_feed, pieces_of, whole_lines}
use Rattle.saved_runs.proofs.Lacking.{lacks, lacks_first, each_other}

-- no line feed stands in a line
abbrev pub IsFlat : List ℕ → Type 0
IsFlat line = lacks 10 line ≡ true

-- lines, each with its line feed
abbrev pub text_of : {X : Type 0} → (X → List ℕ) → List X → List ℕ
text_of line xs = flat_map (λ x. line x ++ 10 ∷ []) xs

one_more : (line : List ℕ) (ps : List (List ℕ)) → 0 < length ps → take (length (line ∷ ps) - 1) (line ∷ ps) ≡ line ∷ take (length ps - 1) ps
one_more line [] h = absurd (omega (arith, h))
one_more line (p ∷ ps) h =
    let e : length (line ∷ p ∷ ps) - 1 ≡ suc (length (p ∷ ps) - 1) = omega arith in
    ap (λ n. take n (line ∷ p ∷ ps)) e

-- the first line
pub first_line : (line rest : List ℕ) → IsFlat line → whole_lines (line ++ 10 ∷ rest) ≡ line ∷ whole_lines rest
first_line line rest h =
    let flat = All-from_recursion (λ b. is_line_feed b ≡ false) line (each_other 10 line h) in
    ap (λ ps. take (length ps - 1) ps) (slice_split_at is_line_feed line 10 rest flat refl)
    ∙ one_more line (pieces_of rest) (omega (arith, length-slice_split is_line_feed rest))

-- a text without a line feed
pub no_line : (text : List ℕ) → IsFlat text → whole_lines text ≡ []
no_line text h =
    let flat = All-from_recursion (λ b. is_line_feed b ≡ false) text (each_other 10 text h) in
    ap (λ ps. take (length ps - 1) ps) (slice_split_none is_line_feed text flat)

pub all_lines : {X : Type 0} (line : X → List ℕ) (xs : List X) → AllByRecursion (λ x. IsFlat (line x)) xs → whole_lines (text_of line xs) ≡ map line xs
all_lines line [] h = refl
all_lines line (x ∷ xs) h =
    ap whole_lines (append_assoc (line x) (10 ∷ []) (text_of line xs)) ∙ first_line (line x) (text_of line xs) h.0 ∙ ap (λ ls. line x ∷ ls) (all_lines line xs h.1)

take_none : (k : ℕ) → take {A = ℕ} k [] ≡ []
take_none zero = refl
take_none (suc k) = refl

take_past : (xs : List ℕ) (y : ℕ) (ys : List ℕ) (j : ℕ) → take (length xs + suc j) (xs ++ y ∷ ys) ≡ xs ++ y ∷ take j ys
take_past [] y ys j = let e : length {A = ℕ} [] + suc j ≡ suc j = omega arith in ap (λ n. take n (y ∷ ys)) e
take_past (x ∷ xs) y ys j =
    let e : length (x ∷ xs) + suc j ≡ suc (length xs + suc j) = omega arith in
    ap (λ n. take n (x ∷ (xs ++ y ∷ ys))) e ∙ ap (λ l. x ∷ l) (take_past xs y ys j)

-- so many of the lines stand whole in a beginning of the text
pub record HasFirst {X : Type 0} (line : X → List ℕ) (xs : List X) (front : List ℕ) : Type 0 where
  pub count : ℕ
  pub within : count ≤ length xs
  pub first : whole_lines front ≡ map line (take count xs)

pub first_lines : {X : Type 0} (line : X → List ℕ) (xs : List X) → AllByRecursion (λ x. IsFlat (line x)) xs → (k : ℕ) → HasFirst line xs (take k (text_of line xs))
first_lines line [] h k = record { count = 0; within = omega arith; first = ap whole_lines (take_none k) }
first_lines line (x ∷ xs) h k =
    let rest = text_of line xs in
    let whole : text_of line (x ∷ xs) ≡ line x ++ 10 ∷ rest = append_assoc (line x) (10 ∷ []) rest in
    elim (cases_lt (length (line x)) k) [
      | inl past ↦
          let j : ℕ = k - length (line x) - 1 in
          let e : k ≡ length (line x) + suc j = omega (arith, past) in
          let more = first_lines line xs h.1 j in
          record {
            count = suc more.count;
            within = omega (arith, more.within);
            first = ap whole_lines (ap (take k) whole ∙ ap (λ n. take n (line x ++ 10 ∷ rest)) e ∙ take_past (line x) 10 rest j)
                ∙ first_line (line x) (take j rest) h.0 ∙ ap (λ ls. line x ∷ ls) more.first;
          }
      | inr inside ↦
          record {
            count = 0;
            within = omega arith;
            first = ap whole_lines (ap (take k) whole ∙ take-append-le k (line x) (10 ∷ rest) inside) ∙ no_line (take k (line x)) (lacks_first 10 k (line x) h.0);
          }
    ]
