-- The slot at the number's place, if nothing stands in it.
use Rattle.std.proofs.Common.{ℕ, Some, ap, sym, ◌∙◌, arith}
use Rattle.std.proofs.lemmas.Option.{same_Some}
use lib.ListN.{get_elem?}
use Rattle.table_rule.specs.declared.view.Slot.TheVariants.{Empty}
use Rattle.table_contents.proofs.Filled.{empty_at, not_empty_at, not_past}
use Rattle.table_contents.proofs.jobs.empty_slot.Goals as goal

pub returns-then-slot-slots-clause-none : goal.returns-then-slot-slots-clause-none
returns-then-slot-slots-clause-none g c k at bare = not_past c.args.slots.now k Empty (let same = same_Some k c.from-slot.result (sym at ∙ (sym c.slot_at.ensures ∙ (c.in-Some.is ∙ ap (λ (n : ℕ). Some n) (sym c.from-slot.ensures)))) in omega (arith, same, c.if-slot-slots.true)) bare

pub returns-then-not-is_empty-clause-none : goal.returns-then-not-is_empty-clause-none
returns-then-not-is_empty-clause-none g c k at bare =
    let same = same_Some k c.from-slot.result (sym at ∙ (sym c.slot_at.ensures ∙ (c.in-Some.is ∙ ap (λ (n : ℕ). Some n) (sym c.from-slot.ensures)))) in
    not_empty_at c.args.slots.now c.from-slot.result c.index-slots-slot.result c.if-slot-slots.false c.index-slots-slot.is (sym c.is_empty.ensures ∙ c.if-not-is_empty.true) (ap (get_elem? c.args.slots.now) (sym same) ∙ bare)

pub returns-clause-some : goal.returns-clause-some
returns-clause-some g c = (
  sym c.slot_at.ensures ∙ (c.in-Some.is ∙ ap (λ (n : ℕ). Some n) (sym c.from-slot.ensures)),
  c.if-slot-slots.false,
  empty_at c.args.slots.now c.from-slot.result c.index-slots-slot.result c.if-slot-slots.false c.index-slots-slot.is (sym c.is_empty.ensures ∙ c.if-not-is_empty.false),
)
