-- How a text grows piece by piece.
use Rattle.std.specs.Prelude.{◌≡◌, ℕ, List, ◌++◌, if◌then◌else◌, Result, Ok, Err, OnOk}
use Rattle.std.proofs.Common.{ap, ◌∙◌, append_assoc}
use Rattle.std.specs.Result.{is_ok}

-- what a push gives that ends a function
pub pushed : {T E : Type 0} (r : Result T E) (new old piece : List ℕ) → new ≡ (if is_ok r then old ++ piece else old) → OnOk r (new ≡ old ++ piece)
pushed (Ok x) new old piece is = is
pushed (Err e) new old piece is = tt

-- two pieces, one behind the other
pub two_pieces : (old a b : List ℕ) {mid new : List ℕ} → mid ≡ old ++ a → new ≡ mid ++ b → new ≡ old ++ (a ++ b)
two_pieces old a b first second = second ∙ ap (λ (l : List ℕ). l ++ b) first ∙ append_assoc old a b
