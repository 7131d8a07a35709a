-- The run that was shown is handed out, and what was printed is printed of it.
use Rattle.std.proofs.Common.{◌≡◌, ◌∙◌, option_map, refl, rules, subst, sym}
use Rattle.std.specs.Borrow.{Bor}
use Rattle.launch_options.specs.Asked.{asked_by}
use Rattle.listeners.specs.Listeners.{tellings_of}
use Rattle.listeners.specs.Observing.{HasSeenMore}
use Rattle.resource_locks.specs.Plans.{PlanParts}
use Rattle.sched_core.specs.declared.answers.Answers.{Answers}
use Rattle.launcher.proofs.JobsRan.{moved_print}
use Rattle.launcher.proofs.Showing.{carried, fits, same_print, same_sent, same_times, same_watcher, same_writer, sent_so, watcher_saw}
use Rattle.launcher.proofs.launched.launch_shown.Goals as goal

pub print_rest-answer-requires : goal.print_rest-answer-requires
print_rest-answer-requires g c =
    let contents = g.W.Write.contents in
    let saw = g.V.Observer.saw in
    let asked = asked_by c.args.options.now in
    let known = option_map {T = Bor Answers} {U = Answers} (λ a. a.now) c.args.known in
    let over = c.in-Ok.ran in
    let q = c.in-Ok.ensures in
    let r = c.requires in
    record { front = λ text status is. fits contents saw known asked c.args.settings.now c.args.plan over.events.items over.texts q.ran.published.ends c.args.live.now c.launch.new.observer r.head r.form r.outlet r.timed r.none q.seen text status (moved_print q.plan refl is) }

pub returns-in-Ok-clause-same : goal.returns-in-Ok-clause-same
returns-in-Ok-clause-same g c =
    let contents = g.W.Write.contents in
    let saw = g.V.Observer.saw in
    let asked = asked_by c.args.options.now in
    let known = option_map {T = Bor Answers} {U = Answers} (λ a. a.now) c.args.known in
    let over = c.in-Ok.ran in
    let q = c.in-Ok.ensures in
    let r = c.requires in
    c.print_rest-answer.ensures.same ∙ same_writer contents saw known asked c.args.settings.now c.args.plan over.events.items over.texts q.ran.published.ends c.args.live.now c.launch.new.observer r.head r.form r.outlet r.timed r.none q.seen

pub returns-in-Ok-clause-same_timings : goal.returns-in-Ok-clause-same_timings
returns-in-Ok-clause-same_timings g c =
    let contents = g.W.Write.contents in
    let saw = g.V.Observer.saw in
    let asked = asked_by c.args.options.now in
    let known = option_map {T = Bor Answers} {U = Answers} (λ a. a.now) c.args.known in
    let over = c.in-Ok.ran in
    let q = c.in-Ok.ensures in
    let r = c.requires in
    let same = same_times contents saw known asked c.args.settings.now c.args.plan over.events.items over.texts q.ran.published.ends c.args.live.now c.launch.new.observer r.head r.form r.outlet r.timed r.none q.seen in
    carried (search rules) (λ (n : _). n ≡ c.args.live.now.feed.timings.ghost_name) same

pub returns-in-Ok-clause-same_observer : goal.returns-in-Ok-clause-same_observer
returns-in-Ok-clause-same_observer g c =
    let contents = g.W.Write.contents in
    let saw = g.V.Observer.saw in
    let asked = asked_by c.args.options.now in
    let known = option_map {T = Bor Answers} {U = Answers} (λ a. a.now) c.args.known in
    let over = c.in-Ok.ran in
    let q = c.in-Ok.ensures in
    let r = c.requires in
    let same = same_watcher contents saw known asked c.args.settings.now c.args.plan over.events.items over.texts q.ran.published.ends c.args.live.now c.launch.new.observer r.head r.form r.outlet r.timed r.none q.seen in
    carried (search rules) (λ (n : _). n ≡ c.args.live.now.observer.ghost_name) same

pub returns-in-Ok-clause-launched : goal.returns-in-Ok-clause-launched
returns-in-Ok-clause-launched g c =
    let contents = g.W.Write.contents in
    let saw = g.V.Observer.saw in
    let asked = asked_by c.args.options.now in
    let known = option_map {T = Bor Answers} {U = Answers} (λ a. a.now) c.args.known in
    let over = c.in-Ok.ran in
    let q = c.in-Ok.ensures in
    let r = c.requires in
    record {
      plan = q.plan;
      has = q.ran;
      said = q.said;
      printed = same_print known asked c.args.settings.now over.events.items over.texts (contents c.args.live.now.feed.writer.now) (contents c.print_rest-answer.new.live.feed.writer.now) c.print_rest-answer.result q.plan (search rules) (c.print_rest-answer.ensures.answer (contents c.args.live.now.feed.writer.now) (same_sent (sym q.plan) (sent_so contents saw known asked c.args.settings.now c.args.plan over.events.items over.texts q.ran.published.ends c.args.live.now c.launch.new.observer r.head r.form r.outlet r.timed r.none q.seen)));
    }

pub returns-in-Ok-clause-seen : goal.returns-in-Ok-clause-seen
returns-in-Ok-clause-seen g c =
    let contents = g.W.Write.contents in
    let saw = g.V.Observer.saw in
    let asked = asked_by c.args.options.now in
    let known = option_map {T = Bor Answers} {U = Answers} (λ a. a.now) c.args.known in
    let over = c.in-Ok.ran in
    let q = c.in-Ok.ensures in
    let r = c.requires in
    let seen = watcher_saw contents saw known asked c.args.settings.now c.args.plan over.events.items over.texts q.ran.published.ends c.args.live.now c.launch.new.observer r.head r.form r.outlet r.timed r.none q.seen in
    subst (λ (p : PlanParts). HasSeenMore saw p (tellings_of over.texts over.events.items) c.args.live.now.observer.now c.print_rest-answer.new.live.observer.now) (sym q.plan) (carried (search rules) (λ (o : _). HasSeenMore saw c.args.plan (tellings_of over.texts over.events.items) c.args.live.now.observer.now o) seen)
