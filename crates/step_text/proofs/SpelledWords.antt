-- The tokens of a text, seen through references.
use Rattle.std.proofs.Common.{◌≡◌, ◌≢◌, ℕ, List, [], ◌∷◌, Bool, true, false, ◌==◌, slice_index, refl, ap}
use Rattle.std.proofs.lemmas.Bool.{eqb-true}

-- a text that has no w in front
front_byte : (b : ℕ) (bs : List ℕ) (t : Bool) → (b == 119) ≡ t → ((rest : List ℕ) → b ∷ bs ≢ 119 ∷ rest) → t ≡ false
front_byte b bs true e h = absurd (h bs (ap (λ c. c ∷ bs) (eqb-true b 119 e)))
front_byte b bs false e h = refl

pub no_front : (bs : List ℕ) → ((rest : List ℕ) → bs ≢ 119 ∷ rest) → (slice_index bs 0 == 119) ≡ false
no_front [] h = refl
no_front (b ∷ bs) h = front_byte b bs (b == 119) refl h
