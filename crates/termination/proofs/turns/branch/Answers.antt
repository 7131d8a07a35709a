-- One step up; and node 0 is at or above every other.
use Rattle.std.proofs.Common.{◌≡◌, ◌≢◌, inl, inr, arith}
use Rattle.std.proofs.lemmas.Grind.{common_steps}
use Rattle.descriptor.specs.Nodes.{Below, child}
use Rattle.resource_locks.proofs.Lines.{at_through}
use Rattle.termination.proofs.Free.{root_over}
use Rattle.termination.proofs.turns.branch.Goals as goal

pub loop-parent-preserved : goal.loop-parent-preserved
loop-parent-preserved c =
    let differ : c.in-Some.parent ≢ c.args.other = grind (arith, common_steps) in
    let not_under : Below c.args.tree.now c.in-Some.parent c.args.other → ⊥ = λ b. grind (arith, common_steps, b) in (
      grind (arith, common_steps),
      at_through c.args.tree.now c.in-Some.parent c.loop-parent.current c.args.one (inr (child c.in-Some.ensures.parent)) c.loop-parent.invariant.1,
      λ r. elim r [ inl same ↦ differ same | inr under_it ↦ not_under under_it ],
    )

pub returns : goal.returns
returns c =
    let root : c.loop-parent.current ≡ 0 = grind (arith, common_steps) in
    absurd (c.loop-parent.invariant.2 (root_over c.args.tree.now c.requires.tree c.loop-parent.current c.args.other root c.requires.other))
