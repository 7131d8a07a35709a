-- What is left, after the attributes so far, gives what the whole text gives, and its first token was cut off.
use Rattle.std.proofs.Common.{◌≡◌, length}
use denote.Shadow.{shadow}
use denote.Text.{Utf8}
use Rattle.suite_words.specs.Reading.Attributes.{attributes_from}
use Rattle.suite_words.specs.Reading.Lines.{first_word, after_word}
use Rattle.suite_words.specs.Words.{words_in}
use Rattle.suite_words.proofs.suite.attributes.Attributes.read.Given as goal

abbrev pub invariant-loop-attribute : goal.invariant-loop-attribute
invariant-loop-attribute l =
    (attributes_from l.number l.word l.self (words_in l.rest) l.rest ≡ attributes_from l.number l.word l.fn.self (words_in l.text) l.text)
    × (l.first ≡ first_word l.rest) × (l.after ≡ after_word l.rest)
    × shadow (Utf8 l.rest) × shadow (Utf8 l.first) × shadow (Utf8 l.after)

abbrev pub decreases-loop-attribute : goal.decreases-loop-attribute
decreases-loop-attribute l = length l.rest
