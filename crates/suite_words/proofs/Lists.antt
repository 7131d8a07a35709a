-- What stands in a list to which one more was added.
use Rattle.std.proofs.Common.{◌≡◌, ℕ, zero, suc, ◌<◌, List, [], ◌∷◌, ◌++◌, length, refl, arith}
use Rattle.std.specs.Prelude.{slice_index_or}

pub get_before : (xs : List ℕ) (x c : ℕ) → c < length xs → slice_index_or (xs ++ x ∷ []) c 0 ≡ slice_index_or xs c 0
get_before [] x c h = absurd (omega arith)
get_before (y ∷ xs) x zero h = refl
get_before (y ∷ xs) x (suc c) h = get_before xs x c (omega arith)

pub get_last : (xs : List ℕ) (x : ℕ) → slice_index_or (xs ++ x ∷ []) (length xs) 0 ≡ x
get_last [] x = refl
get_last (y ∷ xs) x = get_last xs x
