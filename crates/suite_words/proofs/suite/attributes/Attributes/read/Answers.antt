-- Each turn of the loop takes one attribute off the front.
use Rattle.std.proofs.Common.{◌≡◌, List, ℕ, Some, None, Ok, rules, sym, ap, subst, ◌∙◌}
use Rattle.std.proofs.lemmas.Result.{err_from_is_err_and}
use Rattle.suite_words.specs.Reading.Attributes.{attribute_of, with_attribute, attributes_from}
use Rattle.suite_words.specs.Reading.Faults.{Fails}
use Rattle.suite_words.specs.Reading.Lines.{first_word}
use Rattle.suite_words.specs.Words.{words_in}
use Rattle.suite_words.proofs.Reading.Attributes.{at_end, next_read, breaks_off}
use Rattle.suite_words.proofs.Reading.Steps.{fails_as}
use Rattle.suite_words.proofs.suite.attributes.Attributes.read.Goals as goal

pub loop-attribute-preserved : goal.loop-attribute-preserved
loop-attribute-preserved c =
    let said = c.loop-attribute.self in
    let rest = c.loop-attribute.rest.now in
    let inv = c.loop-attribute.invariant in
    let is : attribute_of c.args.word (first_word rest) ≡ Some c.in-Some.attribute = ap (attribute_of c.args.word) (sym inv.1) ∙ sym c.of.ensures ∙ c.in-Some.is in
    let added : with_attribute c.args.number said (first_word rest) c.in-Some.attribute ≡ Ok c.add.new.self =
    ap (λ (x : List ℕ). with_attribute c.args.number said x c.in-Some.attribute) (sym inv.1) ∙ c.in_ok-add.ensures.added in (
      ap (λ (x : List ℕ). attributes_from c.args.number c.args.word c.add.new.self (words_in x) x) inv.2
          ∙ next_read c.args.number c.args.word said rest c.in-Some.attribute is c.add.new.self added
          ∙ inv.0,
      c.next_word-in-Some.ensures.word,
      c.next_word-in-Some.ensures.rest,
      search rules,
      search rules,
      search rules,
    )

pub returns-in_err-add : goal.returns-in_err-add
returns-in_err-add c =
    let said = c.loop-attribute.self in
    let rest = c.loop-attribute.rest.now in
    let inv = c.loop-attribute.invariant in
    let fault = c.in_err-add.field-0.0 in
    let is : attribute_of c.args.word (first_word rest) ≡ Some c.in-Some.attribute = ap (attribute_of c.args.word) (sym inv.1) ∙ sym c.of.ensures ∙ c.in-Some.is in
    let fails : Fails fault (with_attribute c.args.number said (first_word rest) c.in-Some.attribute) =
    subst (λ (x : List ℕ). Fails fault (with_attribute c.args.number said x c.in-Some.attribute)) inv.1 c.in_err-add.ensures.refused in
    let p = err_from_is_err_and c.from_residual.result c.from_residual.ensures.1 in
    let all = fails_as fault _ _ inv.0 (breaks_off c.args.number c.args.word said rest c.in-Some.attribute is fault fails) in
    rw (p.1, p.2) (record { exact = all; first = search rules; after = search rules })

pub returns : goal.returns
returns c =
    let inv = c.loop-attribute.invariant in
    let none : attribute_of c.args.word (first_word c.loop-attribute.rest.now) ≡ None = ap (attribute_of c.args.word) (sym inv.1) ∙ sym c.of.ensures ∙ c.in_default.is in
    record {
      exact = sym inv.0 ∙ at_end c.args.number c.args.word c.loop-attribute.self c.loop-attribute.rest.now none;
      first = inv.1;
      after = inv.2;
    }
