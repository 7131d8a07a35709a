-- What an argument of the command line stands for.
use Rattle.std.specs.Prelude.{ℕ, ◌==◌, nat_lt, List, [], length, drop, slice_index, codes, if◌then◌else◌, Bool}
use Rattle.std.specs.List.{position_or_len, before_first, after_first}
use Rattle.std.specs.Str.{bytes_eq}
use Rattle.word_files.specs.Reading.{Text}
use Rattle.word_files.specs.declared.role.Before.{Before}
use Rattle.word_files.specs.declared.role.Before.TheVariants.{Nothing, Replay, Other}
use Rattle.word_files.specs.declared.role.Role.{Role}
use Rattle.word_files.specs.declared.role.Role.TheVariants as roles

-- what an argument stands for: itself; the arguments of a file; or one argument: a text, and behind it the arguments of a file
pub data Meaning : Type 0 where
  Itself : Text → Meaning
  WordsOf : (file : Text) → Meaning
  Joined : (front file : Text) → Meaning

-- what an argument stands for, without where its texts lie in memory
abbrev pub meaning_of : Role → Meaning
meaning_of (roles.Itself word) = Itself word.now
meaning_of (roles.WordsOf file) = WordsOf file.now
meaning_of (roles.Joined front file) = Joined front.now file.now

-- how many files are named
abbrev pub files_of : Meaning → ℕ
files_of (Itself word) = 0
files_of (WordsOf file) = 1
files_of (Joined front file) = 1

-- what stands before the next argument
abbrev pub before_of : Text → Before
before_of word = if bytes_eq word (codes "--replay") then Replay else Other

-- whether a text begins with @ (64)
abbrev pub begins_at : Text → Bool
begins_at text = slice_index text 0 == 64

-- behind an @: a second one is the argument's first character, and all else is the name of a file
abbrev pub named : Text → Meaning
named rest = if begins_at rest then Itself rest else WordsOf rest

abbrev pub unescaped : Text → Meaning
unescaped word = if begins_at word then named (drop 1 word) else Itself word

-- a value of `--replay`: behind an @ stands the name of a file, whatever it is
abbrev pub replayed : (front value word : Text) → Meaning
replayed front value word = if begins_at value then Joined front (drop 1 value) else Itself word

abbrev pub is_equals : ℕ → Bool
is_equals byte = byte == 61

-- whether an equals sign stands in the text
abbrev pub has_equals : Text → Bool
has_equals text = nat_lt (position_or_len is_equals text) (length text)

-- an argument behind another than `--replay`: with its value in one argument, `--replay` is its name
abbrev pub role_alone : Text → Meaning
role_alone word =
    if has_equals word
    then (if bytes_eq (before_first is_equals word) (codes "--replay") then replayed (codes "--replay=") (after_first is_equals word) word else unescaped word)
    else unescaped word

-- what an argument stands for, with this before it; the program's name is itself
abbrev pub role_of : Before → Text → Meaning
role_of Nothing word = Itself word
role_of Replay word = replayed [] word word
role_of Other word = role_alone word
