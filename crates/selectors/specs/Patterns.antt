-- Patterns of names, in which a star (42) stands for any text.
use Rattle.std.specs.Prelude.{◌≡◌, ℕ, ◌==◌, ◌&&◌, ◌||◌, List, [], ◌∷◌, ◌++◌, reverse, length, Bool, false, if◌then◌else◌}

-- pieces of which the first has one byte more in front
abbrev pub with_byte : ℕ → List (List ℕ) → List (List ℕ)
with_byte byte [] = []
with_byte byte (piece ∷ more) = (byte ∷ piece) ∷ more

-- the pieces of a pattern: what stands before its first star, between two stars, and behind its last
abbrev pub pieces : List ℕ → List (List ℕ)
pieces [] = [] ∷ []
pieces (byte ∷ pattern) = if byte == 42 then [] ∷ pieces pattern else with_byte byte (pieces pattern)

-- pieces stand in a text in their order, any text before each of them, and the last at its end
abbrev pub Follow : List (List ℕ) → List ℕ → Type 0
Follow [] text = text ≡ []
Follow (piece ∷ more) text = (gap rest : List ℕ) × (text ≡ gap ++ (piece ++ rest)) × Follow more rest

-- and the first at its beginning
abbrev pub Stand : List (List ℕ) → List ℕ → Type 0
Stand [] text = ⊥
Stand (piece ∷ more) text = (rest : List ℕ) × (text ≡ piece ++ rest) × Follow more rest

-- a pattern matches a text: its pieces stand in it in their order, the first at its beginning, the last at its end
abbrev pub Matches : List ℕ → List ℕ → Type 0
Matches pattern text = Stand (pieces pattern) text

-- whether what a text ends in passes, the whole text and nothing included
abbrev pub some_end : (List ℕ → Bool) → List ℕ → Bool
some_end q [] = q []
some_end q (byte ∷ text) = q (byte ∷ text) || some_end q text

-- whether a text begins with this byte, and what follows it passes
abbrev pub goes_on : ℕ → (List ℕ → Bool) → List ℕ → Bool
goes_on byte q [] = false
goes_on byte q (other ∷ text) = (other == byte) && q text

-- whether a text is this pattern with some text in place of each star
abbrev pub fits : List ℕ → List ℕ → Bool
fits [] text = length text == 0
fits (byte ∷ pattern) text = if byte == 42 then some_end (fits pattern) text else goes_on byte (fits pattern) text

-- whether a text matches a pattern, where both are read from their ends, as names are; `Matches` says what it comes to
abbrev pub is_match : List ℕ → List ℕ → Bool
is_match pattern text = fits (reverse pattern) (reverse text)
