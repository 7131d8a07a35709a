-- What a tag is, and why a text is none.
use Rattle.std.specs.Prelude.{ℕ, ◌+◌, ◌-◌, ◌==◌, ◌||◌, Bool, List, [], ◌∷◌, length, if◌then◌else◌, Option, Some, None}
use Rattle.std.specs.Char.{is_whitespace, is_control, len_utf8}
use Rattle.std.specs.Option.{option_map}
use Rattle.std.specs.Str.{chars, trim_start, trim}
use Rattle.tag_expr.specs.declared.fault.TagFault.{TagFault}
use Rattle.tag_expr.specs.declared.fault.TagFault.TheVariants.{BadTag}

-- the signs of the expressions: ( (40), ) (41), ! (33), & (38) and | (124)
abbrev pub is_sign : ℕ → Bool
is_sign c = c == 40 || c == 41 || c == 33 || c == 38 || c == 124

-- a character that no tag has: white space, a control character, a comma (44) or a sign
abbrev pub is_bad : ℕ → Bool
is_bad c = is_whitespace c || is_control c || c == 44 || is_sign c

-- the place of the first bad character of these, of which the first one stands at `at`
abbrev pub first_bad : ℕ → List ℕ → Option ℕ
first_bad at [] = None
first_bad at (c ∷ cs) = if is_bad c then Some at else first_bad (at + len_utf8 c) cs

-- why a text is no tag: its first bad character between the white space at its ends, or place 0 of a blank text
abbrev pub tag_refusal : List ℕ → Option TagFault
tag_refusal text =
    if length (trim text) == 0 then Some (BadTag 0)
    else option_map BadTag (first_bad (length text - length (trim_start text)) (chars (trim text)))
