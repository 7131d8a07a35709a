-- What is drawn, and what is erased, stands behind what was there, and a failure is kept.
use Rattle.std.proofs.Common.{◌∙◌, ◌&&◌, not, ◌∷◌, ◌++◌, [], ap₂}
use Rattle.listeners.specs.Listeners.{telling}
use Rattle.live.proofs.Drawing.{done_by, follows_as_much, follows_more, left}
use Rattle.live.proofs.progress.ProgressObserver.see.Goals as goal

pub returns : goal.returns
returns g c first before was =
    let contents = g.E.Write.contents in
    let p = c.args.plan.now in
    let t = telling c.args.texts.now c.args.event in
    let old = c.args.self.now in
    let counted = c.count.new.self in
    let noted = c.note.new.self in
    let at_count =
    follows_as_much contents p first old counted before was (left contents old counted c.count.ensures.terminal (done_by old.is_over old.is_drawn counted.is_over counted.is_drawn c.count.ensures.drawn c.count.ensures.over))
    c.count.ensures.failures c.count.ensures.running in
    let at_note =
    follows_more contents p first counted noted before at_count (left contents counted noted c.note.ensures.terminal (λ done. ap₂ (λ o d. o && not d) c.note.ensures.over c.note.ensures.drawn ∙ done)) t c.note.ensures.kept c.note.ensures.running in
    let at_slow = follows_as_much contents p first noted c.name_slow.new.self (before ++ t ∷ []) at_note c.name_slow.ensures.drawn c.name_slow.ensures.failures c.name_slow.ensures.running in
    let at_redraw = follows_as_much contents p first c.name_slow.new.self c.redraw.new.self (before ++ t ∷ []) at_slow c.redraw.ensures.drawn c.redraw.ensures.failures c.redraw.ensures.running in
    follows_as_much contents p first c.redraw.new.self c.close.new.self (before ++ t ∷ []) at_redraw c.close.ensures.drawn c.close.ensures.failures c.close.ensures.running
