-- XML: characters, attributes and elements.
use Rattle.std.specs.Prelude.{ℕ, ◌==◌, ◌||◌, nat_lt, Bool, cond, List, ◌++◌, codes, encode_utf8}
use Rattle.std.specs.Fmt.{decimal}
use Rattle.std.specs.List.{flat_map}
use Rattle.std.specs.Str.{chars}

-- whether XML 1.0 has no way to carry the character, if it is not a tab or an end of a line: the control characters below 32, and the
-- two that are no characters
abbrev pub is_barred : ℕ → Bool
is_barred c = nat_lt c 32 || (c == 65534) || (c == 65535)

-- a character in a value: the five that stand for markup by their names; tab and the ends of lines, which a reader would change, by
-- their numbers; U+FFFD for a barred one; and any other as it is
abbrev pub xml_char : ℕ → List ℕ
xml_char c =
    cond (c == 38) (codes "&amp;")
    (cond (c == 60) (codes "&lt;")
    (cond (c == 62) (codes "&gt;")
    (cond (c == 34) (codes "&quot;")
    (cond (c == 39) (codes "&apos;")
    (cond (c == 9) (codes "&#9;")
    (cond (c == 10) (codes "&#10;")
    (cond (c == 13) (codes "&#13;")
    (cond (is_barred c) (encode_utf8 65533)
    (encode_utf8 c)))))))))

-- a text as a value
abbrev pub escaped : List ℕ → List ℕ
escaped text = flat_map xml_char (chars text)

-- an attribute, with its value as it stands between the marks
abbrev pub attribute_of : List ℕ → List ℕ → List ℕ
attribute_of name value = codes " " ++ (name ++ (codes "=\"" ++ (value ++ codes "\"")))

-- an attribute whose value is a text
abbrev pub attribute : List ℕ → List ℕ → List ℕ
attribute name value = attribute_of name (escaped value)

-- an attribute whose value is a number
abbrev pub number_attribute : List ℕ → ℕ → List ℕ
number_attribute name n = attribute_of name (decimal n)

-- an element with something in it
abbrev pub element : List ℕ → List ℕ → List ℕ → List ℕ
element name attributes content =
    codes "<" ++ (name ++ (attributes ++ (codes ">" ++ (content ++ (codes "</" ++ (name ++ codes ">"))))))

-- an element without anything in it
abbrev pub empty_element : List ℕ → List ℕ → List ℕ
empty_element name attributes = codes "<" ++ (name ++ (attributes ++ codes "/>"))

-- the line that a document begins with
abbrev pub declaration : List ℕ
declaration = codes "<?xml version=\"1.0\" encoding=\"UTF-8\"?>\n"

-- a comment on a line of its own; it may stand before the document's element and behind it, and no two hyphens may stand in it
abbrev pub comment_line : List ℕ → List ℕ
comment_line text = codes "<!-- " ++ (text ++ codes " -->\n")
