-- What the dispatcher has read is what is reported.
use Rattle.std.proofs.Common.{◌≤◌, List, length, vec_capacity, rules, sym}
use Rattle.plan_events.specs.declared.event.Event.{Event}
use Rattle.resource_locks.specs.Plans.{most_events}
use Rattle.event_history.proofs.EventBound.{legal_few}
use Rattle.table_rule.specs.Picture.{about_of, given_by, replies_of}
use Rattle.table_rule.specs.Plays.{dispatcher}
use Rattle.run_table.specs.UsedJobs.{HasSaid}
use Rattle.thread_pool.specs.Telling.{AreTextsRead}
use Rattle.worker_pool.proofs.Balance.{at_the_end, balance_reported}
use Rattle.worker_pool.proofs.TextsReported.{given_reported, said_reported, texts_reported}
use Rattle.worker_pool.proofs.Reported.{ended_so, kept_apart, reported}
use Rattle.thread_pool.proofs.Carried.{carried}
use Rattle.worker_pool.proofs.Shares.{fits_all}
use Rattle.worker_pool.proofs.report.ended.Goals as goal

pub put_parts-requires-clause-room : goal.put_parts-requires-clause-room
put_parts-requires-clause-room g c =
    let q = c.requires in
    let key = about_of c.args.table.table.shared.key in
    let replies = replies_of g.B.Job.answers key in
    let events = c.args.after.events.items in
    let is = reported key replies (dispatcher c.args.after.seat.seat.me.0) c.close-plan.result.jobs.items events q.noted q.over c.close-plan.ensures.ends in
    let few : length events ≤ most_events key.plan = legal_few key.plan replies key.workers events is.legal in
    let these : length c.as_slice.result.now ≤ most_events key.plan = carried c.as_slice.ensures.value (λ (es : List Event). length es ≤ most_events key.plan) few in
    fits_all (λ v. vec_capacity v) (length c.as_slice.result.now) (most_events key.plan) c.args.mine.items these q.wide

pub returns-clause-report : goal.returns-clause-report
returns-clause-report g c =
    let q = c.requires in
    let after = c.args.after in
    let state = dispatcher after.seat.seat.me.0 in
    let key = about_of c.args.table.table.shared.key in
    let replies = replies_of g.B.Job.answers key in
    let jobs = c.close-plan.result.jobs.items in
    let events = after.events.items in
    let is = reported key replies state jobs events q.noted q.over c.close-plan.ensures.ends in
    let are = carried (sym q.seat.about) (λ a. AreTextsRead a.plan (replies_of g.B.Job.answers a) state.slots state.read after.texts) q.texts in
    record {
      plan = c.close-plan.ensures.plan;
      right = is;
      apart = kept_apart key replies events q.tree is;
      replied = ended_so key replies state jobs events q.noted q.over q.tree c.close-plan.ensures.ends;
      mine = search rules;
      texts = texts_reported key.plan replies key.workers state.slots state.read events after.texts q.noted is.legal
          are;
      given = given_reported (given_by g.B.Job.gives key) key replies state events after.texts q.noted is.legal are q.over c.close-plan.ensures.given;
      said = said_reported g.B.Job.says (given_by g.B.Job.gives key) key replies state events after.texts c.close-plan.result.used.items q.noted is.legal are q.over
          (at_the_end state.read q.over (HasSaid g.B.Job.says (given_by g.B.Job.gives key) replies key state c.close-plan.result.used.items) c.close-plan.ensures.said);
      left = record { state = state; read = sym q.noted; ended = c.close-plan.ensures.ends };
      balanced = balance_reported key.plan key.jobs jobs state.read events q.noted q.over c.close-plan.ensures.balanced;
    }
