-- One more slot is taken.
use mathlib.Core.Logic.{dite}
use native.Mathlib.Decide.{ℕ_discrete}
use Rattle.std.proofs.Common.{◌≡◌, ◌≢◌, ℕ, ◌+◌, ◌<◌, ◌++◌, Bool, false, List, length, set, take, get_or, get_or-set_other, get_or-set_same, sym, ap, ◌∙◌, subst, append_assoc, arith}
use Rattle.std.specs.Mem.Slots.{slots_items, slots_counts}
use lib.ListN.{get_elem?}
use mathlib.Core.Option.{some}
use Rattle.table_rule.specs.Slots.{job_at}
use Rattle.table_contents.specs.Remains.{note_at}
use Rattle.table_contents.specs.Prepared.{job_in, jobs_from}
use Rattle.table_contents.proofs.Filled.{jobs_taken}
use Rattle.table_contents.specs.Remains.{used_at}
use Rattle.table_contents.proofs.LeftNotes.{notes_taken}
use Rattle.table_contents.proofs.UsedSlots.{used_taken}
use Rattle.table_contents.proofs.remains.taken_out.Goals as goal

unset : (fs : List Bool) (i k : ℕ) → i < length fs → ((j : ℕ) → j < i → get_or fs j false ≡ false) → k < i + 1 → get_or (set fs i false) k false ≡ false
unset fs i k inside below low = dite (ℕ_discrete k i) (λ e. ap (λ (z : ℕ). get_or (set fs i false) z false) e ∙ get_or-set_same fs i false false inside) (λ ne. get_or-set_other fs i k false false ne ∙ below k (omega (arith, low, ne)))

pub loop-slot-preserved : goal.loop-slot-preserved
loop-slot-preserved g c =
    let i = c.loop-slot.invariant in
    let t = c.take-held.ensures in
    let slot = c.loop-slot.slot in
    let p = c.args.plan in
    let slots = slots_items c.args.closed.slots in
    let n = slots_counts c.loop-slot.closed.slots in (
      (λ k a b. let ne : k ≢ slot = (λ e. omega (arith, a, e)) in rw (t.others.1, get_or-set_other) (i.0 k (omega (arith, a)) (subst (λ z. k < z) t.others.2 b))),
      (λ k a. ap (λ l. get_or l k false) t.others.1 ∙ unset _ slot k (omega (arith, n.1, i.3, c.loop-slot-test.true, c.slot_count-slot-end.ensures)) i.1 a),
      t.others.0 ∙ i.2,
      t.others.2 ∙ i.3,
      c.keep_all.ensures.jobs ∙ ((λ j. i.4 j ++ job_in (c.job_number-number.ensures j) c.take-held.result) ∙ (append_assoc c.args.jobs.items (jobs_from p 0 (take slot slots)) (job_in (job_at p slot) c.take-held.result)
          ∙ ap (λ l. c.args.jobs.items ++ l) (sym (jobs_taken p slots slot c.take-held.result (subst (λ l. get_elem? l slot ≡ some c.take-held.result) i.2 t.value))))),
      omega (arith, i.5, c.keep_all.ensures.jobs_room),
      c.keep_all.ensures.jobs_capacity ∙ i.6,
      c.keep_all.ensures.used ∙ ((λ j. i.7 j ++ used_at (c.job_number-number.ensures j) c.take-held.result) ∙ sym (used_taken p slots slot c.take-held.result (subst (λ l. get_elem? l slot ≡ some c.take-held.result) i.2 t.value))),
      omega (arith, i.8, c.keep_all.ensures.used_room),
      c.keep_all.ensures.used_capacity ∙ i.9,
      c.keep_all.ensures.notes ∙ (ap (λ l. l ++ note_at slot c.take-held.result) i.10 ∙ sym (notes_taken slots slot c.take-held.result (subst (λ l. get_elem? l slot ≡ some c.take-held.result) i.2 t.value))),
      omega (arith, i.11, c.keep_all.ensures.notes_room),
      c.keep_all.ensures.notes_capacity ∙ i.12,
    )
