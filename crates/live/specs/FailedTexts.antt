-- What is said once more of the nodes that failed.
use Rattle.std.specs.Prelude.{ℕ, ◌+◌, ◌/◌, ◌%◌, ◌==◌, ◌&&◌, ◌||◌, nat_lt, Bool, true, false, cond, List, [], ◌∷◌, ◌++◌, codes, encode_utf8, length, string_bytes}
use Rattle.std.specs.Char.{is_control}
use Rattle.std.specs.Fmt.{decimal, digit_glyph}
use Rattle.std.specs.List.{flat_map, list_any}
use Rattle.std.specs.Str.{chars}
use Rattle.live.specs.Shown.{shown}
use Rattle.live.specs.declared.failure.Failure.{Failure}
use Rattle.live.specs.declared.failure.Naming.{Naming}
use Rattle.live.specs.declared.failure.Naming.TheVariants.{Named, Above, LeftOut}
use Rattle.live.specs.declared.failures.Failures.{Failures}

-- a byte as a percent escape, which an id may have in place of it
abbrev pub escape_of : ℕ → List ℕ
escape_of b = codes "%" ++ (digit_glyph true (b / 16 % 16) ∷ digit_glyph true (b % 16) ∷ [])

-- the escapes of a control character's bytes: from 128 on it has two, of which the first is 194 (C2) and the second its own number
abbrev pub escapes_of : ℕ → List ℕ
escapes_of c = cond (nat_lt c 128) (escape_of c) (codes "%C2" ++ escape_of c)

-- a character of an id in a shell's argument, between single quotes: a quote ends them, stands behind a backslash, and opens others
abbrev pub shell_char : ℕ → List ℕ
shell_char c = cond (c == 39) (codes "'\\''") (cond (is_control c) (escapes_of c) (encode_utf8 c))

-- the option and an id as a shell's arguments, behind a space
abbrev pub word_of : List ℕ → List ℕ → List ℕ
word_of option id = codes " --" ++ (option ++ (codes " '" ++ (flat_map shell_char (chars id) ++ codes "'")))

-- the line of a reason, and none where it is empty
abbrev pub reason_line : List ℕ → List ℕ
reason_line text = cond (length text == 0) [] (codes "    => " ++ (shown text ++ codes "\n"))

-- the lines of a node that failed: its name, its unique id, and the reason
abbrev pub failure_lines : Failure → List ℕ
failure_lines f =
    codes "  " ++ (shown (string_bytes f.name) ++ (codes "\n    " ++ (shown (string_bytes f.id) ++ (codes "\n" ++ reason_line (string_bytes f.text)))))

-- the line that says how many others failed, if some did
abbrev pub more_line : ℕ → List ℕ
more_line more = cond (more == 0) [] (codes "  and " ++ (decimal more ++ codes " more\n"))

-- whether the arguments select it: not if a node below it failed too, which is selected in its place, nor if they have no room for it
abbrev pub is_named : Naming → Bool
is_named Named = true
is_named Above = false
is_named LeftOut = false

-- whether they had no room for it
abbrev pub is_left_out : Naming → Bool
is_left_out Named = false
is_left_out Above = false
is_left_out LeftOut = true

-- the arguments that select it, if they do
abbrev pub failure_word : List ℕ → Failure → List ℕ
failure_word option f = cond (is_named f.naming) (word_of option (string_bytes f.id)) []

-- whether more is selected with it, since it may hold other nodes
abbrev pub selects_below : Failure → Bool
selects_below f = is_named f.naming && f.holds

-- whether the arguments select not all that failed
abbrev pub are_some : Failures → Bool
are_some fs = nat_lt 0 fs.more || list_any (λ f. is_left_out f.naming) fs.kept.items

-- what the arguments select: all that failed or the first, and these alone or with what is below them
abbrev pub heading : Bool → Bool → List ℕ
heading false false = codes "To select just these, a dynamic test with its factory:\n "
heading false true = codes "To select these and what is below them, a dynamic test with its factory:\n "
heading true false = codes "To select just the first of these, a dynamic test with its factory:\n "
heading true true = codes "To select the first of these and what is below them, a dynamic test with its factory:\n "

-- the arguments, and what they select
abbrev pub selecting : List ℕ → Failures → List ℕ
selecting option fs =
    heading (are_some fs) (list_any selects_below fs.kept.items) ++ (flat_map (failure_word option) fs.kept.items ++ codes "\n")

-- the arguments, if there are some
abbrev pub hint_of : List ℕ → Failures → List ℕ
hint_of option fs = cond (length fs.kept.items == 0) [] (selecting option fs)

-- how many nodes failed
abbrev pub title_of : Failures → List ℕ
title_of fs = codes "Failures (" ++ (decimal (length fs.kept.items + fs.more) ++ codes "):\n")

-- that, the lines of those that are kept, how many others there are, and arguments that select them
abbrev pub failed_of : List ℕ → Failures → List ℕ
failed_of option fs = title_of fs ++ (flat_map failure_lines fs.kept.items ++ (more_line fs.more ++ hint_of option fs))
