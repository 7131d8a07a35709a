-- No job is in the slots yet.
use Rattle.std.proofs.Common.{◌≡◌, length, ◌∙◌, ap, arith}
use Rattle.descriptor.specs.Nodes.{size}
use Rattle.table_rule.specs.Slots.{slot_count}
use Rattle.table_contents.proofs.Gathered.{start_filled}
use Rattle.table_contents.proofs.memory.RunMemory.reserve.Goals as goal

pub returns-clause-slots : goal.returns-clause-slots
returns-clause-slots g c =
    let nodes = c.len-count.ensures.len ∙ ap size c.tree.ensures.same in
    let slots = c.in_ok-self-3.field-0.items in
    let many = c.in_ok-self-3.ensures.many in
    start_filled c.args.plan.now slots c.in_ok-self-4.field-0.items (let e : length slots ≡ slot_count c.args.plan.now = omega (arith, nodes, many) in e)
    (λ k low. c.in_ok-self-3.ensures.empty k (omega (arith, nodes, low))) c.in_ok-self-4.ensures.items

pub returns-clause-used : goal.returns-clause-used
returns-clause-used g c = omega (arith, c.in_ok-self-5.ensures.capacity, c.len-count.ensures.len, ap size c.tree.ensures.same)

pub returns-clause-notes : goal.returns-clause-notes
returns-clause-notes g c = omega (arith, c.in_ok-self-6.ensures.capacity, c.len-count.ensures.len, ap size c.tree.ensures.same)
