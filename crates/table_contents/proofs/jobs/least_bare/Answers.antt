-- The least so far, with one more slot looked at.
use Rattle.std.proofs.Common.{◌≡◌, ◌+◌, sym, subst, ◌∙◌, arith}
use Rattle.table_rule.specs.Slots.{slot_count}
use Rattle.table_contents.specs.Filling.{IsLeastBare}
use Rattle.table_contents.proofs.Filled.{least_same, least_more, empty_at, not_empty_at}
use Rattle.table_contents.proofs.jobs.least_bare.Goals.{in-Some+then-is_empty, in-Some+else-is_empty, in_default}
use Rattle.table_contents.proofs.jobs.least_bare.Goals as goal

pub loop-slot-preserved : goal.loop-slot-preserved
loop-slot-preserved g c =
    let p = c.args.plan.now in
    let slots = c.args.slots.now in
    let i = c.loop-slot.slot in
    let so_far = c.loop-slot.invariant in
    let at = c.job_number.ensures in
    elim c.match-job_number.branch [
      | in-Some+then-is_empty w ↦ subst (IsLeastBare p slots (i + 1)) (sym w.least-is)
          (least_more p slots i w.in-Some.number w.lesser.result c.loop-slot.least so_far (sym at ∙ w.in-Some.is) (empty_at slots i w.index-slots-slot.result c.loop-slot-test.true w.index-slots-slot.is (sym w.is_empty.ensures ∙ w.if-is_empty.true)) w.lesser.ensures.some w.lesser.ensures.none)
      | in-Some+else-is_empty w ↦ subst (IsLeastBare p slots (i + 1)) (sym w.least-is)
          (least_same p slots i c.loop-slot.least so_far (λ number is bare. not_empty_at slots i w.index-slots-slot.result c.loop-slot-test.true w.index-slots-slot.is (sym w.is_empty.ensures ∙ w.if-is_empty.false) bare))
      | in_default w ↦ subst (IsLeastBare p slots (i + 1)) (sym w.least-is)
          (least_same p slots i c.loop-slot.least so_far (λ number is bare. w.in_default.not-Some number (at ∙ is)))
    ]

pub returns : goal.returns
returns g c = subst (λ n. IsLeastBare c.args.plan.now c.args.slots.now n c.loop-slot.least) (let e : c.loop-slot.slot ≡ slot_count c.args.plan.now = omega (arith, c.loop-slot-test.false, c.loop-slot.auto.slot-end, c.requires) in e) c.loop-slot.invariant
