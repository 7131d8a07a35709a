-- How texts are printed.
use Rattle.std.specs.Prelude.{ℕ, ◌==◌, ◌||◌, nat_lt, cond, List, [], ◌∷◌, map}

-- a control byte as a space, any other byte as it is
abbrev pub printed_byte : ℕ → ℕ
printed_byte b = cond (nat_lt b 32 || (b == 127)) 32 b

abbrev pub cleaned : List ℕ → List ℕ
cleaned text = map printed_byte text

-- a text behind something else: after one space, and nothing for an empty one
abbrev pub text_after : List ℕ → List ℕ
text_after [] = []
text_after (b ∷ more) = 32 ∷ cleaned (b ∷ more)
