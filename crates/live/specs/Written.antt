-- Texts that are written one behind the other.
use Rattle.std.specs.Prelude.{◌≡◌, ℕ, Bool, true, false, List, length, take, Option}
use Rattle.std.specs.List.{flat_map}
use Rattle.std.specs.Io.KnownBytes.{Appends}

-- all of a text was handed on, or the first so many bytes
abbrev pub IsSent : Bool → (old new : Option (List ℕ)) → List ℕ → Type 0
IsSent true old new text = Appends old new text
IsSent false old new text = (sent : ℕ) × Appends old new (take sent text)

module _ {X : Type 0} (text_of : X → List ℕ) where
  -- Behind what was held stand the texts of these, one behind the other; where nothing more is written perhaps the first so many bytes of them
  -- alone.
  pub record AreWritten (xs : List X) (old new : Option (List ℕ)) (is_done : Bool) : Type 0 where
    pub sent : ℕ
    pub whole : is_done ≡ false → sent ≡ length (flat_map text_of xs)
    pub written : Appends old new (take sent (flat_map text_of xs))
