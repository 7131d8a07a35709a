-- One more attribute at the front of a text, or none.
use Rattle.std.proofs.Common.{◌≡◌, ℕ, List, [], Option, Some, None, Result, Ok, refl, ap, sym, ◌∙◌}
use Rattle.std.specs.Option.{option_map_or}
use Rattle.suite_words.specs.declared.suite.words.Word.{Word}
use Rattle.suite_words.specs.declared.suite.words.Word.TheVariants.{Engine, Class, Test, Factory, Dyn}
use Rattle.suite_words.specs.declared.suite.attributes.Attribute.{Attribute}
use Rattle.suite_words.specs.declared.suite.attributes.Attributes.{Attributes}
use Rattle.suite_words.specs.declared.suite.fault.SuiteFault.{SuiteFault}
use Rattle.suite_words.specs.Reading.Attributes.{attribute_of, with_attribute, attributes_from}
use Rattle.suite_words.specs.Reading.Faults.{Fails}
use Rattle.unique_id.specs.Answers.{◌>>=◌}
use Rattle.suite_words.specs.Reading.Lines.{first_word, after_word}
use Rattle.suite_words.specs.Words.{words_in}
use Rattle.suite_words.proofs.FirstWords.{Front, blank, begins, front}
use Rattle.suite_words.proofs.Reading.Steps.{fails_then, fails_as}

-- no token is no attribute
pub of_nothing : (kind : Word) → attribute_of kind [] ≡ None
of_nothing Engine = refl
of_nothing Class = refl
of_nothing Test = refl
of_nothing Factory = refl
of_nothing Dyn = refl

module _ (number : ℕ) (kind : Word) (said : Attributes) (text : List ℕ) where
  abbrev all : Result (Attributes × List ℕ) SuiteFault
  all = attributes_from number kind said (words_in text) text

  abbrev rest_after : Attributes → Result (Attributes × List ℕ) SuiteFault
  rest_after next = attributes_from number kind next (words_in (after_word text)) (after_word text)

  -- what the attribute that the first token is, if it is one, makes of them
  abbrev on_found : Option Attribute → Result (Attributes × List ℕ) SuiteFault
  on_found found = option_map_or (λ a. with_attribute number said (first_word text) a >>= rest_after) found (Ok (said, text))

  first_of : Front text → all ≡ on_found (attribute_of kind (first_word text))
  first_of (blank empty no_words) = ap (λ words. attributes_from number kind said words text) no_words ∙ sym (ap on_found (ap (attribute_of kind) empty ∙ of_nothing kind))
  first_of (begins words) = ap (λ ws. attributes_from number kind said ws text) words

  -- where the first token is no attribute, all were read
  pub at_end : attribute_of kind (first_word text) ≡ None → all ≡ Ok (said, text)
  at_end none = first_of (front text) ∙ ap on_found none

  module _ (attribute : Attribute) (is : attribute_of kind (first_word text) ≡ Some attribute) where
    pub step : all ≡ (with_attribute number said (first_word text) attribute >>= rest_after)
    step = first_of (front text) ∙ ap on_found is

    pub next_read : (next : Attributes) → with_attribute number said (first_word text) attribute ≡ Ok next → rest_after next ≡ all
    next_read next added = sym (step ∙ ap (λ r. r >>= rest_after) added)

    pub breaks_off : (fault : SuiteFault) → Fails fault (with_attribute number said (first_word text) attribute) → Fails fault all
    breaks_off fault fails = fails_as fault _ all (sym step) (fails_then fault (with_attribute number said (first_word text) attribute) rest_after fails)
