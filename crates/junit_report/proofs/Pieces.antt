-- How a text is put together of pieces.
use Rattle.std.proofs.Common.{◌≡◌, ℕ, List, ◌++◌, ap, ◌∙◌, append_assoc}

-- a piece behind what is known whole
pub behind : (whole a : List ℕ) {old new : List ℕ} → old ≡ whole → new ≡ old ++ a → new ≡ whole ++ a
behind whole a is more = more ∙ ap (λ (l : List ℕ). l ++ a) is

-- a list that ends in two pieces, told apart
pub ends : {A : Type 0} (a g c e n : List A) → ((a ++ g) ++ c) ++ (e ++ n) ≡ (a ++ (g ++ (c ++ e))) ++ n
ends a g c e n = simp append_assoc

-- and in three
pub ends_three : {A : Type 0} (a g c s e n : List A) → ((a ++ g) ++ c) ++ (s ++ (e ++ n)) ≡ (a ++ (g ++ ((c ++ s) ++ e))) ++ n
ends_three a g c s e n = simp append_assoc
