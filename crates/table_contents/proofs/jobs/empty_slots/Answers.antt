-- What each of the slots holds.
use Rattle.std.proofs.Common.{◌∷◌, ◌++◌, [], ap, ◌∙◌, arith}
use Rattle.std.proofs.lemmas.List.{replicate-append-replicate}
use Rattle.table_rule.specs.declared.view.Slot.TheVariants.{Empty}
use Rattle.table_contents.proofs.Filled.{many_empty, each_empty}
use Rattle.table_contents.proofs.jobs.empty_slots.Goals as goal

pub push_reserved-requires : goal.push_reserved-requires
push_reserved-requires g c = (let long = many_empty _ _ c.loop-slot.invariant.0 in omega (arith, c.loop-slot.invariant.1, c.loop-slot-test.true, c.loop-slot.slots.ok.0, long))

pub loop-slot-preserved : goal.loop-slot-preserved
loop-slot-preserved g c = (c.push_reserved.ensures.items ∙ (ap (λ l. l ++ Empty ∷ []) c.loop-slot.invariant.0 ∙ replicate-append-replicate c.loop-slot._slot 1 Empty), omega (arith, c.loop-slot.invariant.1, c.push_reserved.ensures.capacity))

pub returns-clause-many : goal.returns-clause-many
returns-clause-many g c = (let long = many_empty _ _ c.loop-slot.invariant.0 in omega (arith, long, c.loop-slot-test.false, c.loop-slot.auto._slot-end))

pub returns-clause-empty : goal.returns-clause-empty
returns-clause-empty g c k low = each_empty _ _ k c.loop-slot.invariant.0 (omega (arith, low, c.loop-slot-test.false))
