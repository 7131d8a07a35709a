-- A text with a mark below one of its places.
use Rattle.std.specs.Prelude.{ℕ, false, if◌then◌else◌, List, ◌++◌, codes, encode_utf8}
use Rattle.std.specs.Char.{is_control}
use Rattle.std.specs.List.{flat_map, repeat}
use Rattle.std.specs.Str.{chars}
use Rattle.unicode_width.specs.Width.{str_width}

-- a control character as a question mark, any other as it is
abbrev pub marked_char : ℕ → ℕ
marked_char c = if is_control c then 63 else c

abbrev pub shown_char : ℕ → List ℕ
shown_char c = encode_utf8 (marked_char c)

-- a text as it is shown
abbrev pub shown : List ℕ → List ℕ
shown text = flat_map shown_char (chars text)

-- how many columns it takes
abbrev pub columns : List ℕ → ℕ
columns text = str_width false (chars (shown text))

-- two parts of a text on a line, and below it a mark at the place between them, behind as many spaces as the first part takes columns
abbrev pub marked_of : (before behind : List ℕ) → List ℕ
marked_of before behind =
    codes "    " ++ (shown before ++ (shown behind ++ (codes "\n    " ++ (repeat (columns before) (codes " ") ++ codes "^\n"))))
