-- The test stands behind the others, if there was memory for it.
use Rattle.std.proofs.Common.{◌≡◌, ℕ, Bool, true, false, List, [], ◌∷◌, ◌++◌, inl, inr, is_ok, if◌then◌else◌}
use Rattle.descriptor.specs.Nodes.{Nodes}
use Rattle.live.specs.SlowNaming.{IsOfNode, MayAdd}
use Rattle.live.specs.declared.slow_tests.LimitedTest.{LimitedTest}
use Rattle.live.proofs.slow_tests.SlowTests.begin.Goals as goal

added : (tree : Nodes) (n : ℕ) (t : LimitedTest) (old new : List LimitedTest) (b : Bool) → IsOfNode tree n t → new ≡ (if b then old ++ t ∷ [] else old) → MayAdd tree n old new
added tree n t old new true of is = inr (t, of, is)
added tree n t old new false of is = inl is

pub returns-in-Some : goal.returns-in-Some
returns-in-Some g c = added c.args.plan.now.tree c.args.node c.in-Some.test c.args.self.now.tests.items c.push.new.self.items (is_ok c.push.result) c.in-Some.ensures c.push.ensures.items
