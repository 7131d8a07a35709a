-- The cases of the children so far.
use Rattle.std.proofs.Common.{◌≡◌, ◌++◌, take}
use Rattle.std.specs.List.{flat_map}
use Rattle.junit_report.specs.Cases.{own_case}
use Rattle.junit_report.proofs.cases.push_children.Given as goal

abbrev pub invariant-loop-child : goal.invariant-loop-child
invariant-loop-child l = l.cases.items ≡ l.fn.cases.items ++ flat_map (own_case l.tree l.told) (take l.child-index l.children)
