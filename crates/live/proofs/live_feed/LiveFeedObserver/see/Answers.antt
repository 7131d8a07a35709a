-- What was told stays. A feed that is closed prints nothing more; of another one the line waits, or it is closed.
use Rattle.std.proofs.Common.{◌∙◌, ◌++◌, ◌∷◌, [], refl, sym, ap}
use Rattle.listeners.specs.Listeners.{telling}
use Rattle.live.proofs.Going.{passed_over, stops, waits_on}
use Rattle.live.proofs.Noting.{ready}
use Rattle.live.proofs.live_feed.LiveFeedObserver.see.Goals as goal

pub returns-in-Closed : goal.returns-in-Closed
returns-in-Closed g c first before is =
    let contents = g.W.Write.contents in
    let p = c.args.plan.now in
    let old = c.args.self.now in
    let noted = c.note.new.self in
    let t = telling c.args.texts.now c.args.event in
    let n = c.note.ensures in
    passed_over contents p first noted noted before t (ready contents p first old noted before t is n.writer n.head n.form n.outlet n.sent n.pending n.timed n.same_timings n.noted) c.in-Closed.is refl

pub returns-then-ends_plan : goal.returns-then-ends_plan
returns-then-ends_plan g c first before is =
    let contents = g.W.Write.contents in
    let p = c.args.plan.now in
    let old = c.args.self.now in
    let noted = c.note.new.self in
    let t = telling c.args.texts.now c.args.event in
    let n = c.note.ensures in
    stops contents p first noted _ before t (ready contents p first old noted before t is n.writer n.head n.form n.outlet n.sent n.pending n.timed n.same_timings n.noted) c.in-Waiting.is refl refl refl refl refl refl refl refl

pub returns-in-Ok : goal.returns-in-Ok
returns-in-Ok g c first before is =
    let contents = g.W.Write.contents in
    let p = c.args.plan.now in
    let old = c.args.self.now in
    let noted = c.note.new.self in
    let t = telling c.args.texts.now c.args.event in
    let n = c.note.ensures in
    let a = c.add_line.ensures in
    let waits = waits_on contents p first noted c.add_line.new.self before t (ready contents p first old noted before t is n.writer n.head n.form n.outlet n.sent n.pending n.timed n.same_timings n.noted) c.in-Waiting.is (ap (λ w. w.ghost_name) a.writer) a.head a.form a.timings a.timed
    (sym c.ends_plan.ensures.exact ∙ c.if-ends_plan.false) c.in-Ok.ensures.open a.sent (ap (λ w. w.now) a.writer) c.in-Ok.ensures.line in
    c.send_many.ensures p first (before ++ t ∷ []) waits

pub returns-in-Err : goal.returns-in-Err
returns-in-Err g c first before is =
    let contents = g.W.Write.contents in
    let p = c.args.plan.now in
    let old = c.args.self.now in
    let noted = c.note.new.self in
    let t = telling c.args.texts.now c.args.event in
    let n = c.note.ensures in
    let a = c.add_line.ensures in
    stops contents p first noted _ before t (ready contents p first old noted before t is n.writer n.head n.form n.outlet n.sent n.pending n.timed n.same_timings n.noted) c.in-Waiting.is (ap (λ w. w.ghost_name) a.writer) a.head a.form a.timings a.timed refl a.sent (ap (λ w. w.now) a.writer)
