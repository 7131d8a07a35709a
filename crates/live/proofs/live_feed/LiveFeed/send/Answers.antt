-- What waits is handed on, where something does.
use Rattle.std.proofs.Common.{rules, inr, ◌<◌, length, string_bytes}
use Rattle.live.proofs.Going.{sends}
use Rattle.live.proofs.live_feed.LiveFeed.send.Goals as goal

pub returns : goal.returns
returns g c p first seen is =
    let long : 0 < length (string_bytes c.args.self.now.pending.now) = search rules in
    let h = c.hand_on.ensures in
    sends g.W.Write.contents p first c.args.self.now c.hand_on.new.self seen is (inr c.in-Open.is) h.same h.head h.form h.timings h.timed c.in-Open.is long h.handed
