-- The feed has printed the event, and the other has seen it.
use Rattle.std.proofs.Common.{refl}
use Rattle.listeners.specs.Listeners.{telling}
use Rattle.run_outputs.proofs.SeenBeside.{sees_more}
use Rattle.run_outputs.proofs.watched_feed.WatchedFeedObserver.see.Goals as goal

pub returns : goal.returns
returns g c first before is = sees_more g.W.Write.contents g.V.Observer.saw c.args.plan.now first c.args.self.now _ before is refl (telling c.args.texts.now c.args.event) c.show-2.ensures c.show.ensures
