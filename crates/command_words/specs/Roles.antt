-- What an argument of the command line stands for where saved runs are named.
use Rattle.std.specs.Prelude.{codes, if◌then◌else◌}
use Rattle.std.specs.List.{before_first, after_first}
use Rattle.std.specs.Str.{bytes_eq}
use Rattle.word_files.specs.Reading.{Text}
use Rattle.word_files.specs.Roles.{has_equals, is_equals}
use Rattle.command_words.specs.declared.rerun_role.Before.{Before}
use Rattle.command_words.specs.declared.rerun_role.Before.TheVariants.{Nothing, RerunFailed, Other}
use Rattle.command_words.specs.declared.rerun_role.Role.{Role}
use Rattle.command_words.specs.declared.rerun_role.Role.TheVariants as roles

-- what an argument stands for: itself; no argument, since the next one names a saved run; or the arguments that the saved run of a file
-- stands for
pub data Meaning : Type 0 where
  Itself : Text → Meaning
  Naming : Meaning
  Saved : (file : Text) → Meaning

-- what an argument stands for, without where its text lies in memory
abbrev pub meaning_of : Role → Meaning
meaning_of (roles.Itself word) = Itself word.now
meaning_of roles.Naming = Naming
meaning_of (roles.Saved file) = Saved file.now

-- what stands before the next argument, where it is this one
abbrev pub before_of : Before → Text → Before
before_of Nothing word = Other
before_of RerunFailed word = Other
before_of Other word = if bytes_eq word (codes "--rerun-failed") then RerunFailed else Other

-- an argument of this name and this value
abbrev pub named : (name value word : Text) → Meaning
named name value word = if bytes_eq name (codes "--rerun-failed") then Saved value else Itself word

-- an argument behind another than the option: with its value in one argument, the option is its name
abbrev pub role_alone : Text → Meaning
role_alone word =
    if bytes_eq word (codes "--rerun-failed") then Naming
    else (if has_equals word then named (before_first is_equals word) (after_first is_equals word) word else Itself word)

-- what an argument stands for, with this before it; the program's name is itself
abbrev pub role_of : Before → Text → Meaning
role_of Nothing word = Itself word
role_of RerunFailed word = Saved word
role_of Other word = role_alone word
