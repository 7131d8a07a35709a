-- Where a character of a text of arguments stands, and what it does there.
use Rattle.std.specs.Prelude.{ℕ, ◌==◌, ◌||◌, ◌&&◌, not, Bool, true, false, if◌then◌else◌}
use Rattle.word_files.specs.declared.place.Place.{Place}
use Rattle.word_files.specs.declared.place.Place.TheVariants.{Between, Comment, Word, Escape, SingleQuotes, DoubleQuotes, DoubleEscape}

-- white space between arguments: a space (32), a tab (9), a line feed (10), a carriage return (13)
abbrev pub is_white : ℕ → Bool
is_white c = c == 32 || c == 9 || c == 10 || c == 13

-- a character of an argument that stands for itself outside quotes: no white space, no ' (39), no " (34), no backslash (92)
abbrev pub is_plain : ℕ → Bool
is_plain c = not (is_white c || c == 39 || c == 34 || c == 92)

-- the place behind a character of an argument that stands outside quotes
abbrev pub within_word : ℕ → Place
within_word c = if c == 39 then SingleQuotes else (if c == 34 then DoubleQuotes else (if c == 92 then Escape else Word))

-- the place behind a character: a comment begins with # (35) between arguments, and goes on to the end of its line
abbrev pub next_place : Place → ℕ → Place
next_place Between c = if is_white c then Between else (if c == 35 then Comment else within_word c)
next_place Comment c = if c == 10 then Between else Comment
next_place Word c = if is_white c then Between else within_word c
next_place Escape c = Word
next_place SingleQuotes c = if c == 39 then Word else SingleQuotes
next_place DoubleQuotes c = if c == 34 then Word else (if c == 92 then DoubleEscape else DoubleQuotes)
next_place DoubleEscape c = DoubleQuotes

-- whether a character is one of the argument's
abbrev pub keeps : Place → ℕ → Bool
keeps Between c = is_plain c && not (c == 35)
keeps Comment c = false
keeps Word c = is_plain c
keeps Escape c = true
keeps SingleQuotes c = not (c == 39)
keeps DoubleQuotes c = not (c == 34 || c == 92)
keeps DoubleEscape c = true

-- whether a character ends an argument
abbrev pub ends_word : Place → ℕ → Bool
ends_word Word c = is_white c
ends_word place c = false
