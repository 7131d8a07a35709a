-- One more node, and if it is a unit, one unit more.
use Rattle.std.proofs.Common.{◌≡◌, ◌+◌, ◌≤◌, ◌∙◌, ◌∷◌, ◌++◌, [], List, Bool, ap, sym, arith}
use Rattle.selectors.specs.Keeping.{is_taken}
use Rattle.selectors.specs.Shards.{is_unit_of, place_of}
use Rattle.selectors.specs.Units.{is_unit}
use Rattle.selectors.proofs.Shards.{place_more, place_same}
use Rattle.selectors.proofs.Truths.{truths_more}
use Rattle.selectors.proofs.shard_tree.taken.Goals.{then-is_unit, else-is_unit}
use Rattle.selectors.proofs.shard_tree.taken.Goals as goal

pub loop-number-preserved : goal.loop-number-preserved
loop-number-preserved c =
    let q = is_taken c.args.tree.now (is_unit_of c.args.tree.now c.args.shard.now) in
    let unit : c.is_unit.result ≡ is_unit c.args.tree.now c.loop-number.number = c.is_unit.ensures ∙ ap (is_unit c.args.tree.now) c.new-node.ensures in
    let place : c.loop-number.place ≡ place_of c.args.tree.now c.loop-number.number = c.loop-number.invariant.1 in
    let most : c.loop-number.place ≤ c.loop-number.number = c.loop-number.invariant.2 in (
      c.in_ok-push.ensures.items ∙ ap (λ (xs : List Bool). xs ++ c.is_taken-here.result ∷ []) c.loop-number.invariant.0
          ∙ truths_more q c.loop-number.number c.is_taken-here.result (c.is_taken-here.ensures ∙ ap q c.new-node.ensures),
      elim c.if-is_unit.branch [
        | then-is_unit w ↦ w.place-is ∙ ap (λ x. x + 1) place ∙ sym (place_more c.args.tree.now c.loop-number.number (sym unit ∙ w.if-is_unit.true))
        | else-is_unit w ↦ w.place-is ∙ place ∙ sym (place_same c.args.tree.now c.loop-number.number (sym unit ∙ w.if-is_unit.false))
      ],
      elim c.if-is_unit.branch [
        | then-is_unit w ↦ let more : c.if-is_unit.place ≡ c.loop-number.place + 1 = w.place-is in omega arith
        | else-is_unit w ↦ let same : c.if-is_unit.place ≡ c.loop-number.place = w.place-is in omega arith
      ],
    )
