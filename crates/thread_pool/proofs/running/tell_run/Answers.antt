-- A seat that comes back changes nothing of what was read.
use Rattle.std.proofs.Common.{◌∙◌, sym, ap, subst, List}
use Rattle.plan_events.specs.declared.event.Event.{Event}
use Rattle.table_rule.specs.Plays.{dispatcher}
use Rattle.thread_pool.specs.Seeing.{HasSeenSince}
use Rattle.thread_pool.specs.Telling.{IsOver, KeepsTexts}
use Rattle.thread_pool.proofs.Carried.{carried}
use Rattle.thread_pool.proofs.running.tell_run.Goals as goal

pub returns-clause-run : goal.returns-clause-run
returns-clause-run g c =
    let old = c.args.state.now.seat.seat.me.0 in
    let texts = c.dispatch.new.state.texts in
    let q = c.dispatch.ensures in
    let back = c.take_back.ensures in
    let kept = ap (λ m. (dispatcher m.0).read) back.kept in
    record {
      same = record { table = back.same.table ∙ q.same.table; about = back.same.about ∙ q.same.about };
      noted = q.noted.read ∙ sym kept;
      seen = subst (λ (r : List Event). HasSeenSince g.O.Observer.saw old.about.plan texts (dispatcher old).read r c.args.observer.now c.dispatch.new.observer) (sym kept) q.seen;
      texts = carried back.kept (λ m. KeepsTexts g.B.Job.answers m.0 texts) q.texts;
      over = subst IsOver (sym kept) q.over;
    }
