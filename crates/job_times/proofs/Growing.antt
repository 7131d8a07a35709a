-- How a text grows piece by piece.
use Rattle.std.proofs.Common.{◌≡◌, List, ◌++◌, ap, ◌∙◌, append_assoc}

-- two pieces, one behind the other
pub then : {A : Type 0} (old a b : List A) {mid new : List A} → mid ≡ old ++ a → new ≡ mid ++ b → new ≡ old ++ (a ++ b)
then {A} old a b first second = second ∙ ap (λ (l : List A). l ++ b) first ∙ append_assoc old a b
