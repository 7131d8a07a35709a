-- What the system tells, as arguments of options.
use Rattle.std.specs.Prelude.{ℕ, ◌+◌, ◌&&◌, ◌||◌, min, not, Bool, true, false, List, [], ◌∷◌, ◌++◌, codes, if◌then◌else◌, Option, Some, None}
use Rattle.std.specs.Fmt.{decimal}
use Rattle.std.specs.List.{list_any, before_first}
use Rattle.std.specs.Str.{bytes_eq}
use Rattle.launch_options.specs.Given.{maybe_behind}
use Rattle.suite_words.specs.Numbers.{number_up_to}
use Rattle.word_files.specs.Reading.{Text}
use Rattle.word_files.specs.Roles.{is_equals}
use Rattle.word_files.specs.declared.facts.Facts.{Facts}

-- what stands before the first equals sign of an argument, or all of it
abbrev pub name_of : Text → Text
name_of word = before_first is_equals word

-- whether an option is among the arguments, with its value in the same argument or in the next one
abbrev pub has_option : (name : Text) → List Text → Bool
has_option name words = list_any (λ word. bytes_eq (name_of word) name) words

-- whether the value of `--workers` is the next argument: behind the option, or behind its letter, which may stand behind those of flags
abbrev pub awaits_workers : Text → Bool
awaits_workers word = bytes_eq word (codes "--workers") || (bytes_eq word (codes "-j") || (bytes_eq word (codes "-xj") || (bytes_eq word (codes "-qj") || (bytes_eq word (codes "-xqj") || bytes_eq word (codes "-qxj")))))

-- whether option and value in one argument ask for a worker for each processor, by the option's letter
abbrev pub is_letter_with_auto : Text → Bool
is_letter_with_auto word =
    bytes_eq word (codes "-jauto") || (bytes_eq word (codes "-xjauto") || (bytes_eq word (codes "-qjauto") || (bytes_eq word (codes "-xqjauto") || (bytes_eq word (codes "-qxjauto")
    || (bytes_eq word (codes "-j=auto") || (bytes_eq word (codes "-xj=auto") || (bytes_eq word (codes "-qj=auto") || (bytes_eq word (codes "-xqj=auto") || bytes_eq word (codes "-qxj=auto")))))))))

-- whether an argument asks for a worker for each processor; before it may stand the option that has its value in this argument
abbrev pub asks_here : (is_value : Bool) → Text → Bool
asks_here is_value word = bytes_eq word (codes "--workers=auto") || (is_letter_with_auto word || (is_value && bytes_eq word (codes "auto")))

-- whether one of the arguments does
abbrev pub asks_for_all : (is_value : Bool) → List Text → Bool
asks_for_all is_value [] = false
asks_for_all is_value (word ∷ more) = if asks_here is_value word then true else asks_for_all (awaits_workers word) more

-- how many processors there are, where that is asked for and not said
abbrev pub processors_told : Option ℕ → List Text → List Text
processors_told None words = []
processors_told (Some number) words =
    if asks_for_all false words then (if has_option (codes "--processors") words then [] else codes "--processors" ∷ decimal (min number 1024) ∷ []) else []

-- the number of the shard of this index, from 1; a text that is no index is no number here either
abbrev pub number_text : Option ℕ → Text → Text
number_text None index = codes "TEST_SHARD_INDEX=" ++ index
number_text (Some number) index = decimal (number + 1)

abbrev pub index_text : Text → Text
index_text index = number_text (number_up_to 4094 index) index

-- the shard of this index among so many
abbrev pub shard_text : (index total : Text) → Text
shard_text index total = index_text index ++ codes "/" ++ total

-- which shard is run, where both are said, and the arguments do not say it
abbrev pub shard_told : (index total : Option Text) → List Text → List Text
shard_told None total words = []
shard_told (Some index) None words = []
shard_told (Some index) (Some total) words = if has_option (codes "--shard") words then [] else codes "--shard" ∷ shard_text index total ∷ []

-- these arguments, and how many processors there are behind them
abbrev pub with_processors : Option ℕ → List Text → List Text
with_processors processors words = words ++ processors_told processors words

-- these arguments, and which shard is run behind them
abbrev pub with_shard : (index total : Option Text) → List Text → List Text
with_shard index total words = words ++ shard_told index total words

-- an argument, or what stands for it where it asks for any seed; before it may stand the option that has its value in this argument
abbrev pub seeded_word : (seed : ℕ) → (is_value : Bool) → Text → Text
seeded_word seed is_value word =
    if bytes_eq word (codes "--seed=random") then codes "--seed=" ++ decimal seed
    else (if is_value && bytes_eq word (codes "random") then decimal seed else word)

-- these arguments, with this seed for each that asks for any
abbrev pub seeded_words : (seed : ℕ) → (is_value : Bool) → List Text → List Text
seeded_words seed is_value [] = []
seeded_words seed is_value (word ∷ more) = seeded_word seed is_value word ∷ seeded_words seed (bytes_eq word (codes "--seed")) more

-- these arguments, with this seed for each that asks for any; as they stand where there is no seed
abbrev pub with_seed : Option ℕ → List Text → List Text
with_seed None words = words
with_seed (Some seed) words = seeded_words seed false words

-- these arguments, and behind them what the system tells, where they ask for it; and a seed where they ask for any
abbrev pub with_told : Facts → List Text → List Text
with_told facts words = with_seed facts.seed (with_shard (maybe_behind facts.shard_index) (maybe_behind facts.total_shards) (with_processors facts.processors words))
