-- One counter more is that of one node more.
use Rattle.std.proofs.Common.{◌≡◌, ◌+◌, suc, ◌++◌, ◌∷◌, [], ◌∙◌, ap, arith}
use Rattle.descriptor.specs.Nodes.{size}
use Rattle.resource_locks.specs.Held.{table}
use Rattle.scheduling.specs.Inside.Start.{guard_and_children}
use Rattle.scheduling.proofs.opening.counters_at_start.Goals as goal

pub loop-index-preserved : goal.loop-index-preserved
loop-index-preserved c =
    let next : suc c.loop-index.index ≡ c.loop-index.index + 1 = omega arith in
    let here = c.counter_at_start.ensures ∙ ap (guard_and_children c.args.tree.now) c.new.ensures in
    c.in_ok-push.ensures.items ∙ (λ i. c.loop-index.invariant i ++ here i ∷ []) ∙ ap (table (guard_and_children c.args.tree.now)) next

pub returns : goal.returns
returns c =
    let all : c.loop-index.index ≡ size c.args.tree.now = omega arith in
    c.loop-index.invariant ∙ ap (table (guard_and_children c.args.tree.now)) all
