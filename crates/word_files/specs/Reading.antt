-- The arguments of a text, as its characters are read one after the other. Grammar says the same by how arguments are written.
use Rattle.std.specs.Prelude.{ℕ, List, [], ◌∷◌, ◌++◌, fold, map, string_bytes, String, encode_utf8, if◌then◌else◌, Option, Some, None, option_map}
use Rattle.std.specs.Global.{Global, Vec}
use Rattle.std.specs.Str.{chars}
use Rattle.word_files.specs.Places.{next_place, keeps, ends_word}
use Rattle.word_files.specs.declared.place.Place.{Place}
use Rattle.word_files.specs.declared.place.Place.TheVariants.{Between, Comment, Word, Escape, SingleQuotes, DoubleQuotes, DoubleEscape}

abbrev pub Text : Type 0
Text = List ℕ

-- what was read so far: where the next character stands, the argument that it may be of, and the arguments before
pub record Read : Type 0 where
  pub place : Place
  pub word : Text
  pub words : List Text

-- the argument behind a character
abbrev pub word_after : Place → ℕ → Text → Text
word_after place c word = if ends_word place c then [] else (if keeps place c then word ++ encode_utf8 c else word)

-- the arguments behind a character
abbrev pub words_after : Place → ℕ → (word : Text) → (words : List Text) → List Text
words_after place c word words = if ends_word place c then words ++ word ∷ [] else words

-- one character more
abbrev pub read_char : Read → ℕ → Read
read_char read c = record { place = next_place read.place c; word = word_after read.place c read.word; words = words_after read.place c read.word read.words }

-- nothing read
abbrev pub at_start : Read
at_start = record { place = Between; word = []; words = [] }

-- the arguments where the text ends at this place: none where a quote is not closed, or nothing stands behind a backslash
abbrev pub words_at : Place → (word : Text) → (words : List Text) → Option (List Text)
words_at Between word words = Some words
words_at Comment word words = Some words
words_at Word word words = Some (words ++ word ∷ [])
words_at Escape word words = None
words_at SingleQuotes word words = None
words_at DoubleQuotes word words = None
words_at DoubleEscape word words = None

abbrev pub words_read : Read → Option (List Text)
words_read read = words_at read.place read.word read.words

-- the arguments of a text, if it is one of arguments
unfoldable pub words_in : Text → Option (List Text)
words_in text = words_read (fold read_char at_start (chars text))

-- the texts of arguments, if there are arguments
abbrev pub texts_in : Option (Vec (String Global)) → Option (List Text)
texts_in words = option_map (λ words. map string_bytes words.items) words
