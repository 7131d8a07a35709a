-- Where the first token of a text ends.
use Rattle.std.proofs.Common.{◌≡◌, ℕ, ◌+◌, ◌==◌, not, true, false, cond, List, [], ◌∷◌, ◌++◌, length, take, drop, refl, sym, ap, ◌∙◌, arith}
use Rattle.std.specs.List.{AllByRecursion, position_or_len}
use Rattle.std.proofs.lemmas.List.{take_at, drop_at, drop-drop}
use Rattle.suite_words.specs.Words.{is_space}
use Rattle.saved_runs.specs.FeedLines.{first_word, after_word}
use Rattle.saved_runs.proofs.Lacking.{lacks, each_other}

place : (xs ys : List ℕ) → AllByRecursion (λ x. (x == 32) ≡ false) xs → position_or_len is_space (xs ++ 32 ∷ ys) ≡ length xs
place [] ys h = refl
place (x ∷ xs) ys h = ap (λ t. cond (not t) (1 + position_or_len is_space (xs ++ 32 ∷ ys)) 0) h.0 ∙ omega (arith, place xs ys h.1)

pub first_is : (xs ys : List ℕ) → lacks 32 xs ≡ true → first_word (xs ++ 32 ∷ ys) ≡ xs
first_is xs ys h = ap (λ n. take n (xs ++ 32 ∷ ys)) (place xs ys (each_other 32 xs h)) ∙ take_at xs (32 ∷ ys) (length xs) refl

pub after_is : (xs ys : List ℕ) → lacks 32 xs ≡ true → after_word (xs ++ 32 ∷ ys) ≡ ys
after_is xs ys h =
    ap (λ n. drop (n + 1) (xs ++ 32 ∷ ys)) (place xs ys (each_other 32 xs h)) ∙ sym (drop-drop 1 (length xs) (xs ++ 32 ∷ ys)) ∙ ap (drop 1) (drop_at xs (32 ∷ ys) (length xs) refl)
