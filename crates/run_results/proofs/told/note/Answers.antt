-- One more event, of a node that has a place or of one that has none.
use Rattle.std.proofs.Common.{◌<◌, ◌≤◌, length, refl, arith}
use Rattle.run_results.proofs.ToldMore.{IsAfter, told_at_place, told_past}
use Rattle.run_results.proofs.told.note.Goals as goal

pub returns-then-place-len-clause-more : goal.returns-then-place-len-clause-more
returns-then-place-len-clause-more c =
    let inside : c.index-place.result < length c.args.told.now.items = omega arith in
    let after : IsAfter c.index.result.now c.after.result c.args.event = record { started = c.after.ensures.started; skipped = c.after.ensures.skipped; registered = c.after.ensures.registered; status = c.after.ensures.status } in
    λ events so. told_at_place (length c.args.told.now.items) events c.args.event c.args.told.now.items c.index-place.result c.index.result.now c.after.result c.index-place.ensures.same inside refl so c.index.ensures after

pub returns-else-place-len-clause-more : goal.returns-else-place-len-clause-more
returns-else-place-len-clause-more c =
    let outside : length c.args.told.now.items ≤ c.args.event.node = omega arith in
    λ events so. told_past (length c.args.told.now.items) events c.args.event c.args.told.now.items outside so
