-- One more number has its place.
use Rattle.std.proofs.Common.{◌≡◌, ◌+◌, ◌<◌, ℕ, Some, length, ap, ◌∙◌, sym, subst, arith}
use Rattle.std.proofs.lemmas.Option.{same_Some}
use Rattle.table_rule.specs.Slots.{slot_count, job_at}
use Rattle.table_contents.proofs.Filled.{place_more}
use Rattle.table_contents.proofs.jobs.places_for.Goals.{in-Some, in_default}
use Rattle.table_contents.proofs.jobs.places_for.Goals as goal

pub loop-slot-preserved : goal.loop-slot-preserved
loop-slot-preserved c =
    let p = c.args.plan.now in
    let i = c.loop-slot.slot in
    let at = c.job_number.ensures in
    let old = c.loop-slot.places in
    elim c.match-job_number.branch [
      | in-Some w ↦ subst (λ (n : ℕ). (k number : ℕ) → k < i + 1 → job_at p k ≡ Some number → number < n) (sym w.places-is)
          (place_more p i old w.with_place-places.result c.loop-slot.invariant w.with_place-places.ensures.more (λ number is. subst (λ (n : ℕ). n < w.with_place-places.result) (same_Some w.in-Some.number number (sym w.in-Some.is ∙ (at ∙ is))) w.with_place-places.ensures.place))
      | in_default w ↦ subst (λ (n : ℕ). (k number : ℕ) → k < i + 1 → job_at p k ≡ Some number → number < n) (sym w.places-is)
          (place_more p i old old c.loop-slot.invariant (omega arith) (λ number is. absurd (w.in_default.not-Some number (at ∙ is))))
    ]

pub returns : goal.returns
returns c k number low = c.loop-slot.invariant k number (let e : c.loop-slot.slot ≡ slot_count c.args.plan.now = omega (arith, c.loop-slot-test.false, c.loop-slot.auto.slot-end, c.len-slot-end.ensures.len, ap (λ t. length t.parents) c.tree.ensures.same) in omega (arith, e, low))
