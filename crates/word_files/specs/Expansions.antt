-- The arguments that the arguments of a command line stand for, by the texts of the files that they name.
use Rattle.std.specs.Prelude.{◌≡◌, ◌≢◌, ℕ, ◌+◌, ◌++◌, List, [], ◌∷◌, codes, Option, Some, None, option_map, Result, Ok, Err}
use Rattle.std.specs.List.{join_by}
use Rattle.launch_options.specs.declared.fault.LaunchFault.{LaunchFault}
use Rattle.launch_options.specs.declared.fault.LaunchFault.TheVariants.{NoMemory, UnreadWords}
use Rattle.word_files.specs.Reading.{Text, words_in}
use Rattle.word_files.specs.Roles.{Meaning, Itself, WordsOf, Joined, before_of, files_of, role_of}
use Rattle.word_files.specs.Told.{with_told}
use Rattle.word_files.specs.declared.facts.Facts.{Facts}
use Rattle.word_files.specs.declared.role.Before.{Before}
use Rattle.word_files.specs.declared.role.Before.TheVariants.{Nothing}

-- the arguments of a file that has this text, or that cannot be read
abbrev pub words_of : Option Text → Option (List Text)
words_of None = None
words_of (Some text) = words_in text

-- one argument: this text, and behind it these arguments, with a blank between each two
abbrev pub joined_behind : Text → List Text → List Text
joined_behind front words = (front ++ join_by (λ (word : Text). word) (codes " ") words) ∷ []

-- the arguments that an argument stands for where the file that it names has this text, or cannot be read
abbrev pub pieces : Meaning → Option Text → Option (List Text)
pieces (Itself word) text = Some (word ∷ [])
pieces (WordsOf file) text = words_of text
pieces (Joined front file) text = option_map (joined_behind front) (words_of text)

-- The arguments stand for all of these: of each argument, in their order, those that it stands for by some text of its file. What stands
-- before the next argument is kept besides, and how many files were named.
pub data StandFor : (words : List Text) → Before → (all : List Text) → (files : ℕ) → Type 0 where
  none_yet : StandFor [] Nothing [] 0
  one_more : {words : List Text} {before : Before} {all : List Text} {files : ℕ} → StandFor words before all files → (word : Text) (text : Option Text) (more : List Text) → pieces (role_of before word) text ≡ Some more
      → StandFor (words ++ word ∷ []) (before_of word) (all ++ more) (files + files_of (role_of before word))

-- the arguments stand for others, behind which what the system tells is said
pub record IsExpansion (facts : Facts) (words expanded : List Text) : Type 0 where
  pub last : Before
  pub files : ℕ
  pub all : List Text
  pub stand : StandFor words last all files
  pub told : expanded ≡ with_told facts all

-- a file cannot be read, or is none of arguments: the arguments before stand for others, and the refusal has the file's number
pub record IsUnread (words : List Text) (fault : LaunchFault) : Type 0 where
  pub front : List Text
  pub word : Text
  pub rest : List Text
  pub is : words ≡ front ++ word ∷ rest
  pub before : Before
  pub all : List Text
  pub files : ℕ
  pub stand : StandFor front before all files
  pub text : Option Text
  pub fails : pieces (role_of before word) text ≡ None
  pub number : fault ≡ UnreadWords (files + files_of (role_of before word))

-- what the arguments stand for, or why they stand for nothing; want of memory may stand in place of either
abbrev pub IsExpanded : Facts → List Text → Result (List Text) LaunchFault → Type 0
IsExpanded facts words (Ok expanded) = IsExpansion facts words expanded
IsExpanded facts words (Err fault) = fault ≢ NoMemory → IsUnread words fault
