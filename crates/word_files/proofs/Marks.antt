-- Whether a text begins with an @.
use Rattle.std.proofs.Common.{◌≡◌, ◌≢◌, ℕ, ◌==◌, Bool, true, false, List, [], ◌∷◌, refl, ap}
use Rattle.std.proofs.lemmas.Bool.{eqb-true}
use Rattle.word_files.specs.Roles.{begins_at}

front_byte : (b : ℕ) (bs : List ℕ) (is : Bool) → (b == 64) ≡ is → ((rest : List ℕ) → b ∷ bs ≢ 64 ∷ rest) → is ≡ false
front_byte b bs true e h = absurd (h bs (ap (λ (x : ℕ). x ∷ bs) (eqb-true b 64 e)))
front_byte b bs false e h = refl

pub no_at : (bs : List ℕ) → ((rest : List ℕ) → bs ≢ 64 ∷ rest) → begins_at bs ≡ false
no_at [] h = refl
no_at (b ∷ bs) h = front_byte b bs (b == 64) refl h
