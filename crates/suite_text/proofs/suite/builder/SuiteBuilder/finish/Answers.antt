-- Each body and after-body has one script.
use Rattle.std.proofs.Common.{◌≡◌, ◌+◌, ◌≤◌, ◌∙◌, List, ap, arith, subst, sym}
use Rattle.std.proofs.lemmas.Grind.{common_steps}
use Rattle.descriptor.specs.Nodes.{Nodes, IsTree, size}
use Rattle.suite_words.specs.declared.script.Script.{Script}
use Rattle.suite_text.specs.Reading.Parts.{LinesRead, AreBodiesOf, bodies_answered, parts_of}
use Rattle.suite_text.specs.Inside.Paths.{IsSound}
use Rattle.suite_text.proofs.Reading.Pulls.{all_answered}
use Rattle.suite_text.proofs.suite.builder.SuiteBuilder.finish.Goals as goal

pub returns-clause-tree : goal.returns-clause-tree
returns-clause-tree c = subst IsTree (sym c.in_ok-suite.ensures.tree) c.finish-tree.ensures.tree

pub returns-clause-few : goal.returns-clause-few
returns-clause-few c = subst (λ (t : Nodes). size t ≤ c.args.self.limit + 1) (sym (c.in_ok-suite.ensures.tree ∙ c.finish-tree.ensures.same ∙ ap (λ (r : LinesRead). r.tree) c.self.view_is)) (subst IsSound c.self.view_is c.self.invariant).few

pub returns-clause-answered : goal.returns-clause-answered
returns-clause-answered c =
    let read = c.args.self in
    let tree : c.in_ok-suite.suite.tree ≡ read.tree = grind (arith, common_steps) in
    let items : c.in_ok-suite.suite.scripts.items ≡ (parts_of read).scripts = grind (arith, common_steps) in
    subst (λ (l : List Script). AreBodiesOf c.in_ok-suite.suite.tree.nodes (bodies_answered l)) (sym items)
    (subst (λ (t : Nodes). AreBodiesOf t.nodes (bodies_answered (parts_of read).scripts)) (sym tree) (all_answered read (subst IsSound c.self.view_is c.self.invariant)))
