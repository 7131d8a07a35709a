-- One more slot stands at the place of its job's number.
use Rattle.std.proofs.Common.{◌≡◌, ℕ, Some, None, Option, get_or, set, length, length-set, refl, ap, ◌∙◌, sym, arith}
use Rattle.table_contents.specs.Prepared.{slot_below}
use Rattle.table_rule.specs.Slots.{slot_count}
use Rattle.table_contents.proofs.Filled.{index_empty, index_more, index_same}
use Rattle.table_contents.proofs.jobs.slots_by_number.Goals.{in-Some, in_default}
use Rattle.table_contents.proofs.jobs.slots_by_number.Goals as goal

pub loop-slot-init : goal.loop-slot-init
loop-slot-init c = index_empty _ _ c.in_ok-index.ensures

pub loop-slot-preserved : goal.loop-slot-preserved
loop-slot-preserved c =
    let p = c.args.plan.now in
    let i = c.loop-slot.slot in
    let so_far = c.loop-slot.invariant in
    let at = c.job_number.ensures in
    let low = c.loop-slot-test.true in
    let many = c.len-slot-end.ensures.len in
    let nodes = ap (λ t. length t.parents) c.tree.ensures.same in
    let end = c.loop-slot.auto.slot-end in
    elim c.match-job_number.branch [
      | in-Some w ↦ (
        ap (λ v. length v.items) w.index-is ∙ (length-set c.loop-slot.index.items w.index.result (Some i) ∙ so_far.0),
        λ number. ap (λ v. get_or v.items number None) w.index-is ∙ (ap (λ (n : ℕ). get_or (set c.loop-slot.index.items n (Some i)) number None) w.index.ensures.same ∙ index_more p c.loop-slot.index.items i so_far.1 w.in-Some.number (sym at ∙ w.in-Some.is) (let place = c.places_for-many.ensures i w.in-Some.number (omega (arith, low, many, nodes, end)) (sym at ∙ w.in-Some.is) in omega (arith, place, so_far.0)) number),
      )
      | in_default w ↦ (ap (λ v. length v.items) w.index-is ∙ so_far.0, λ number. ap (λ v. get_or v.items number None) w.index-is ∙ index_same p c.loop-slot.index.items i so_far.1 (none _ (λ x is. w.in_default.not-Some x (at ∙ is))) number)
    ]
  where
    none : (o : Option ℕ) → ((x : ℕ) → o ≡ Some x → ⊥) → o ≡ None
    none None no_job = refl
    none (Some x) no_job = absurd (no_job x refl)

pub returns : goal.returns
returns c number = c.loop-slot.invariant.1 number ∙ ap (λ (n : ℕ). slot_below c.args.plan.now number n) (let e : c.loop-slot.slot ≡ slot_count c.args.plan.now = omega (arith, c.loop-slot-test.false, c.loop-slot.auto.slot-end, c.len-slot-end.ensures.len, ap (λ t. length t.parents) c.tree.ensures.same) in e)
