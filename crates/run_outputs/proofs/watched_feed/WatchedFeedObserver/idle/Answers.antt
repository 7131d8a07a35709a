-- In a moment in which there is nothing to see both keep what they have.
use Rattle.std.proofs.Common.{refl}
use Rattle.run_outputs.proofs.SeenBeside.{sees_as_much}
use Rattle.run_outputs.proofs.watched_feed.WatchedFeedObserver.idle.Goals as goal

pub returns : goal.returns
returns g c p first seen is = sees_as_much g.W.Write.contents g.V.Observer.saw p first c.args.self.now _ seen is refl c.idle-2.ensures c.idle.ensures
