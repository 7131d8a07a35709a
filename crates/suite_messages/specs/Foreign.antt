-- What is meant by a word that other programs have.
use Rattle.std.specs.Prelude.{ℕ, Bool, List, Option, option_map}
use Rattle.std.specs.List.{find, list_any}
use Rattle.std.specs.Str.{str_eq_ignore_ascii_case}
use Rattle.suite_messages.specs.declared.foreign.ForeignWords.{ForeignWords}

-- whether these words are one of an entry's, without regard to the case of ASCII letters
abbrev pub has_word : ForeignWords → List ℕ → Bool
has_word entry word = list_any (λ known. str_eq_ignore_ascii_case known.now word) entry.words.now

-- what the first entry of a table that has the word says; nothing where none has it
abbrev pub meant_in : List ForeignWords → List ℕ → Option (List ℕ)
meant_in table word = option_map (λ entry. entry.meant.now) (find (λ entry. has_word entry word) table)
