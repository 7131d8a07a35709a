-- A line that declares a node fails as the node does.
use Rattle.std.proofs.Common.{◌≡◌, Ok, ap, sym, ◌∙◌}
use Rattle.suite_text.specs.Reading.Nodes.{word_on}
use Rattle.suite_words.specs.Reading.Words.{declaration_of, declared_as}
use Rattle.suite_text.proofs.Reading.Judged.{node_judged, if_err}
use Rattle.suite_text.proofs.Reading.Steps.{node_fails}
use Rattle.suite_text.proofs.suite.builder.SuiteBuilder.read_node.Goals as goal

pub returns-clause-no_memory : goal.returns-clause-no_memory
returns-clause-no_memory c =
    let read = c.args.self.now in
    let judged = node_judged c.args.number (word_on read c.args.level) c.args.first.now c.args.rest.now (declaration_of c.in_ok-declared.declared)
    (sym (ap (λ w. declared_as c.args.number w c.args.first.now c.args.rest.now) c.word_on.ensures) ∙ c.in_ok-declared.ensures.exact) in
    if_err c.declare.result judged

pub returns-clause-refused : goal.returns-clause-refused
returns-clause-refused c =
    let read = c.args.self.now in
    let says : declared_as c.args.number (word_on read c.args.level) c.args.first.now c.args.rest.now ≡ Ok (declaration_of c.in_ok-declared.declared) =
    sym (ap (λ w. declared_as c.args.number w c.args.first.now c.args.rest.now) c.word_on.ensures) ∙ c.in_ok-declared.ensures.exact in
    node_fails c.args.number c.args.level read c.args.first.now c.args.rest.now (declaration_of c.in_ok-declared.declared) c.declare.result says c.declare.ensures.refused
