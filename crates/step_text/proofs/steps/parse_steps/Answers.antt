-- The tokens of a text that is read are the spellings of its steps, and those of a refused one of none.
use Rattle.std.proofs.Common.{◌≡◌, None, Some, map, arith, ap, sym, ◌∙◌}
use Rattle.std.proofs.lemmas.Grind.{common_steps}
use Rattle.std.specs.List.{position, filter_map}
use Rattle.step_text.specs.StepTexts.{step_of, is_bad_word}
use Rattle.suite_words.specs.Words.{words_in}
use Rattle.step_text.specs.StepSpelling.{spelled_step}
use Rattle.step_text.proofs.ReadBack.{not_spelled}
use Rattle.step_text.proofs.Spelled.{text_spelled}
use Rattle.step_text.proofs.steps.parse_steps.Goals as goal

pub returns-clause-spelled : goal.returns-clause-spelled
returns-clause-spelled c =
    let none : position is_bad_word (words_in c.args.text.now) ≡ None = sym c.bad_word.ensures.first ∙ c.in_default.is in
    let items : c.in_ok-named_steps.field-0.items ≡ filter_map step_of (words_in c.args.text.now) = grind (arith, common_steps) in
    ap (map spelled_step) items ∙ text_spelled (words_in c.args.text.now) none

pub returns-in-Some-clause-refused : goal.returns-in-Some-clause-refused
returns-in-Some-clause-refused c =
    let found : position is_bad_word (words_in c.args.text.now) ≡ Some c.in-Some.place = sym c.bad_word.ensures.first ∙ c.in-Some.is in
    λ fault steps namable spells. not_spelled (words_in c.args.text.now) c.in-Some.place steps found namable spells
