-- One more node marks its parent, and node 0 is marked at the end.
use Rattle.std.proofs.Common.{◌≡◌, ℕ, suc, ◌<◌, ◌≤◌, ◌-◌, false, arith, true, ap, get_or, subst, cond, length, ◌∙◌}
use Rattle.std.proofs.Math.ListN.{set}
use Rattle.std.proofs.lemmas.Grind.{common_steps}
use Rattle.descriptor.specs.Nodes.{size, parent_of}
use Rattle.selectors.proofs.Marks.{AreMarks, passed, finished, written_back, length_marked}
use Rattle.selectors.proofs.kept.kept.Goals as goal

pub loop-number-preserved : goal.loop-number-preserved
loop-number-preserved c =
    let more : 1 < c.loop-number.number = grind (arith, common_steps) in
    let bound : c.loop-number.number ≤ size c.args.tree.now = c.loop-number.invariant.1 in
    let before : c.loop-number.number ≡ suc (c.loop-number.number - 1) = omega arith in
    let were : AreMarks c.args.tree.now (λ (m : ℕ). get_or c.args.taken.items m false) c.loop-number.marks.items (suc (c.loop-number.number - 1)) =
    subst (λ (n : ℕ). AreMarks c.args.tree.now (λ (m : ℕ). get_or c.args.taken.items m false) c.loop-number.marks.items n) before c.loop-number.invariant.2 in
    let value : c.mark_parent.new.marks ≡ cond (get_or c.loop-number.marks.items (c.loop-number.number - 1) false) (set c.loop-number.marks.items (parent_of c.args.tree.now (c.loop-number.number - 1)) true) c.loop-number.marks.items = grind (arith, common_steps) in
    let len : length c.loop-number.marks.items ≡ c.loop-number.marks.len = grind (arith, common_steps) in
    let same : length c.mark_parent.new.marks ≡ c.loop-number.marks.len =
    ap length value ∙ length_marked (get_or c.loop-number.marks.items (c.loop-number.number - 1) false) c.loop-number.marks.items (parent_of c.args.tree.now (c.loop-number.number - 1)) ∙ len in (
      omega arith,
      omega arith,
      passed c.args.tree.now c.requires.tree (λ (m : ℕ). get_or c.args.taken.items m false) c.loop-number.marks.items _ (c.loop-number.number - 1) (omega arith) (omega arith) were
          (written_back c.loop-number.marks.len c.mark_parent.new.marks c.loop-number.marks.items len same ∙ value),
    )

pub returns : goal.returns
returns c =
    let first : c.loop-number.number ≤ 1 = grind (arith, common_steps) in
    finished c.args.tree.now c.requires.tree (λ (m : ℕ). get_or c.args.taken.items m false) c.loop-number.marks.items c.loop-number.number first c.loop-number.invariant.2
