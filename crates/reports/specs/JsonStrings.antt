-- The characters of JSON's strings as they are written, for the clauses of private functions.
use Rattle.std.specs.Prelude.{ℕ, Bool, false, not, ◌==◌, ◌/◌, ◌%◌, nat_lt, cond, List, ◌++◌, codes, encode_utf8}
use Rattle.std.specs.Char.{digit_char}

-- whether a byte stands in a string as it is: not the quotation mark, not the backslash, and no control character
abbrev pub is_plain : ℕ → Bool
is_plain x = cond (x == 34) false (cond (x == 92) false (not (nat_lt x 32)))

-- a control character by its number: `\u00` and two hexadecimal digits
abbrev pub code_escape : ℕ → List ℕ
code_escape c = codes "\\u00" ++ (encode_utf8 (digit_char (c / 16)) ++ encode_utf8 (digit_char (c % 16)))

-- a character in a string: the quotation mark and the backslash behind a backslash, the control characters below 32 by their letters, or
-- by their numbers where they have none, and any other as it is
abbrev pub json_char : ℕ → List ℕ
json_char c =
    cond (c == 34) (codes "\\\"")
    (cond (c == 92) (codes "\\\\")
    (cond (c == 8) (codes "\\b")
    (cond (c == 9) (codes "\\t")
    (cond (c == 10) (codes "\\n")
    (cond (c == 12) (codes "\\f")
    (cond (c == 13) (codes "\\r")
    (cond (nat_lt c 32) (code_escape c)
    (encode_utf8 c))))))))
