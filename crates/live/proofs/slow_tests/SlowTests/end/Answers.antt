-- The tests of other nodes are left; where none is noted there is none to be taken out.
use Rattle.std.proofs.Common.{◌≡◌, ◌==◌, ◌∙◌, [], ap, arith, not, rules, sym}
use Rattle.std.specs.List.{filter}
use Rattle.std.proofs.lemmas.Fn.{filter_same}
use Rattle.std.proofs.lemmas.Grind.{common_steps}
use Rattle.live.specs.declared.slow_tests.LimitedTest.{LimitedTest}
use Rattle.live.proofs.slow_tests.SlowTests.end.Goals as goal

pub returns-then-is_empty : goal.returns-then-is_empty
returns-then-is_empty c =
    let none : c.args.self.now.tests.items ≡ [] = grind (arith, common_steps) in
    none ∙ ap (filter (λ (t : LimitedTest). not (c.args.node == t.node))) (sym none)

pub returns : goal.returns
returns c = filter_same _ _ _ (λ x b f' k. search rules) _ _ c.retain.ensures.filtered
