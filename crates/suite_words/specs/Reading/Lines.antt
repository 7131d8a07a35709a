-- The lines of a suite text, and the indentation, the tokens and the end of one.
use Rattle.std.specs.Prelude.{ℕ, ◌-◌, ◌/◌, ◌%◌, ◌==◌, ◌||◌, nat_lt, List, [], ◌∷◌, length, take, drop, not, Bool, false, if◌then◌else◌, Result, Ok, Err}
use Rattle.std.specs.List.{prefix_len, suffix_len, before_first, after_first}
use Rattle.suite_words.specs.Words.{is_space}
use Rattle.suite_words.specs.declared.suite.fault.SuiteFault.{SuiteFault}
use Rattle.suite_words.specs.declared.suite.fault.SuiteFault.TheVariants.{BadIndent}

-- a text without the spaces in front
abbrev pub without_front : List ℕ → List ℕ
without_front text = drop (prefix_len is_space text) text

-- a text without the spaces at its end
abbrev pub without_end : List ℕ → List ℕ
without_end text = take (length text - suffix_len is_space text) text

-- the first token of a text, up to the next space; empty where there is none
abbrev pub first_word : List ℕ → List ℕ
first_word text = before_first is_space (without_front text)

-- what follows the first token of a text
abbrev pub after_word : List ℕ → List ℕ
after_word text = after_first is_space (without_front text)

-- what follows it, without the spaces at its ends
abbrev pub text_after_word : List ℕ → List ℕ
text_after_word text = without_end (without_front (after_word text))

-- the number of spaces that a line begins with
abbrev pub indentation_of : List ℕ → ℕ
indentation_of line = prefix_len is_space line

abbrev pub is_number_sign : ℕ → Bool
is_number_sign byte = byte == 35

-- whether the first character is a number sign
abbrev pub begins_with_sign : List ℕ → Bool
begins_with_sign [] = false
begins_with_sign (byte ∷ bytes) = is_number_sign byte

-- whether a line is passed over: a comment, or spaces only
abbrev pub says_nothing : List ℕ → Bool
says_nothing line = begins_with_sign line || (length (without_front line) == 0)

-- the level of a line with so many spaces in front, two for each; a deeper one than this may not stand there
abbrev pub level_by : ℕ → ℕ → ℕ → Result ℕ SuiteFault
level_by number deepest spaces = if not (spaces % 2 == 0) || nat_lt deepest (spaces / 2) then Err (BadIndent number) else Ok (spaces / 2)

-- the level of a line
abbrev pub level_of : ℕ → ℕ → List ℕ → Result ℕ SuiteFault
level_of number deepest line = level_by number deepest (indentation_of line)
