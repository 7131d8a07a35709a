-- A channel that is asked for a test more.
use Rattle.std.proofs.Common.{◌∙◌, subst}
use Rattle.host_bodies.specs.Asking.{asked}
use Rattle.host_bodies.specs.Channels.{link_of}
use Rattle.host_bodies.specs.HostJobs.{IsAskedFor}
use Rattle.host_bodies.proofs.host_job.ChannelPlaceHostJob.run.Goals as goal

pub returns-clause-led : goal.returns-clause-led
returns-clause-led g c = λ first it.
    let job = c.args.job.now in
    let heard = c.serve.new.job.heard in
    let old = link_of g.W.Write.contents g.R.Read.remaining c.args.self.now in
    let new = link_of g.W.Write.contents g.R.Read.remaining c.serve.new.self in
    record {
      room = c.serve.ensures.room ∙ it.room;
      on = asked job.request job.what job.id heard it.on (subst (λ most. IsAskedFor job.request job.what job.id most old new heard) it.room c.serve.ensures.asked);
    }
