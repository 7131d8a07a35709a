-- Lines without what a terminal would take for more than text.
use Rattle.std.specs.Prelude.{◌≡◌, ◌==◌, ◌||◌, ℕ, Bool, true, not, List, encode_utf8_all}
use Rattle.std.specs.Char.{is_control}
use Rattle.std.specs.List.{list_all}

-- whether a character may stand in lines: an end of line, or no control character
abbrev pub is_of_lines : ℕ → Bool
is_of_lines c = (c == 10) || not (is_control c)

-- the text has no control character but ends of lines
pub record HasNoControl (text : List ℕ) : Type 0 where
  pub chars : List ℕ
  pub are : text ≡ encode_utf8_all chars
  pub printable : list_all is_of_lines chars ≡ true
