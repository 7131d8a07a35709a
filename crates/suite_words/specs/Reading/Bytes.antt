-- The byte order mark that a text may begin with.
use Rattle.std.specs.Prelude.{ℕ, ◌==◌, List, [], ◌∷◌, drop, if◌then◌else◌}
use Rattle.std.specs.List.{starts_with}

-- a byte order mark, the character U+FEFF
abbrev pub order_mark : List ℕ
order_mark = 239 ∷ 187 ∷ 191 ∷ []

-- a text without the byte order mark that it begins with, if it does
abbrev pub without_mark : List ℕ → List ℕ
without_mark text = if starts_with (◌==◌) text order_mark then drop 3 text else text
