-- Each turn puts the next node where it is drawn.
use Rattle.std.proofs.Common.{◌≡◌, ◌∙◌, ap, arith, length, suc, sym, ℕ, List}
use Rattle.std.specs.Prelude.{insert}
use Rattle.tree_orders.specs.Draws.{draw}
use Rattle.tree_orders.proofs.Drawing.{listed_at, order_more, order_so}
use Rattle.tree_orders.proofs.Listing.{length_to}
use Rattle.tree_orders.proofs.order.order.Goals as goal

pub drawn_slot-place-requires-clause-listed : goal.drawn_slot-place-requires-clause-listed
drawn_slot-place-requires-clause-listed c =
    listed_at c.args.tree.now (draw c.args.tree.now c.args.seed) c.loop-last.last c.new-node.result c.as_slice.result.now (c.as_slice.ensures.value ∙ c.loop-last.invariant) c.new-node.ensures

pub insert-requires : goal.insert-requires
insert-requires c =
    let len : length c.loop-last.order.items ≡ suc c.loop-last.last = ap length c.loop-last.invariant ∙ length_to c.args.tree.now (draw c.args.tree.now c.args.seed) c.loop-last.last in
    omega (arith, c.drawn_slot-place.ensures.inside, c.new-node.ensures, len, c.loop-last.order.ok.0)

pub loop-last-preserved : goal.loop-last-preserved
loop-last-preserved c =
    order_more c.args.tree.now (draw c.args.tree.now c.args.seed) c.loop-last.last c.new-node.result c.drawn_slot-place.result c.as_slice.result.now c.insert.new.self.items (c.as_slice.ensures.value ∙ c.loop-last.invariant) c.new-node.ensures c.drawn_slot-place.ensures.same
    (c.in_ok-insert.ensures.items ∙ ap (λ (xs : List ℕ). insert xs c.drawn_slot-place.result c.new-node.result) (sym c.as_slice.ensures.value))

pub returns-clause-order : goal.returns-clause-order
returns-clause-order c =
    order_so c.args.tree.now c.requires c.args.seed c.loop-last.last c.loop-last.order.items c.loop-last.invariant (omega (arith, c.loop-last-test.false, c.loop-last.auto.last-end, c.len-last-end.ensures.len))
