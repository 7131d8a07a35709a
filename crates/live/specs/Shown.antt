-- A text as a terminal is shown it.
use Rattle.std.specs.Prelude.{ℕ, cond, List, codes, encode_utf8}
use Rattle.std.specs.Char.{is_control}
use Rattle.std.specs.List.{flat_map}
use Rattle.std.specs.Str.{chars}

-- a character as it is shown: a control character as a space
abbrev pub shown_char : ℕ → List ℕ
shown_char c = cond (is_control c) (codes " ") (encode_utf8 c)

abbrev pub shown : List ℕ → List ℕ
shown text = flat_map shown_char (chars text)
