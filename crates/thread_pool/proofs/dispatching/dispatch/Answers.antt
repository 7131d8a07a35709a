-- One event more is read and shown; or there is none, and a seat may be dealt.
use Rattle.std.proofs.Common.{◌∙◌, List, ap, refl, subst, sym}
use Rattle.plan_events.specs.declared.event.Event.{Event}
use Rattle.plan_events.specs.Texts.{TextParts}
use Rattle.table_rule.specs.Plays.{dispatcher}
use Rattle.listeners.specs.Observing.{KeepsSight}
use Rattle.thread_pool.specs.Seeing.{HasSeenSince}
use Rattle.thread_pool.proofs.DispatcherStates.{of_then}
use Rattle.thread_pool.proofs.Dealt.{noted_alike}
use Rattle.thread_pool.proofs.Seen.{noted_more, seen_kept, seen_more, seen_none}
use Rattle.thread_pool.proofs.TextsRead.{read_alike}
use Rattle.thread_pool.proofs.dispatching.dispatch.Goals as goal

pub loop-init : goal.loop-init
loop-init g c =
    let v = c.args.state.now.seat.seat.me.0 in
    let q = c.requires in
    record {
      seat = q.seat;
      same = record { table = refl; about = refl };
      seen = seen_none g.O.Observer.saw v.about.plan c.args.state.now.texts (dispatcher v).read c.args.observer.now;
      texts = q.texts;
      noted = q.noted;
    }

pub returns-then-ends_plan-clause-same : goal.returns-then-ends_plan-clause-same
returns-then-ends_plan-clause-same g c = of_then _ _ _ c.loop.invariant.same c.dispatch_one.ensures.same

pub returns-then-ends_plan-clause-noted : goal.returns-then-ends_plan-clause-noted
returns-then-ends_plan-clause-noted g c =
    noted_more c.loop.state.seat.seat.me.0 c.dispatch_one.new.dispatcher_seat.seat.me.0 c.loop.state.events.items c.push_reserved.new.self.items c.in-Some-dispatch_one.read _ _ c.dispatch_one.ensures.same.about c.in-Some-dispatch_one.ensures.some c.push_reserved.ensures.items c.push_reserved.ensures.capacity c.loop.invariant.noted

pub returns-then-ends_plan-clause-over : goal.returns-then-ends_plan-clause-over
returns-then-ends_plan-clause-over g c =
    let finish = c.ends_plan.ensures.finish c.if-ends_plan.true in
    record { before = (dispatcher c.loop.state.seat.seat.me.0).read; finish = c.in-Some-dispatch_one.read; last = c.in-Some-dispatch_one.ensures.some; kind = finish.0; node = finish.1 }

pub returns-then-ends_plan-clause-seen : goal.returns-then-ends_plan-clause-seen
returns-then-ends_plan-clause-seen g c =
    seen_more g.O.Observer.saw c.args.state.now.seat.seat.me.0.about.plan c.loop.state.texts c.dispatch_one.new.texts (dispatcher c.args.state.now.seat.seat.me.0).read (dispatcher c.loop.state.seat.seat.me.0).read (dispatcher c.dispatch_one.new.dispatcher_seat.seat.me.0).read
    c.in-Some-dispatch_one.read c.args.observer.now c.loop.observer c.dispatch_one.new.observer _ c.in-Some-dispatch_one.ensures.some c.dispatch_one.ensures.kept
    (sym (ap (λ a. a.plan) c.loop.invariant.same.about)) c.in-Some-dispatch_one.ensures.seen c.loop.invariant.seen

pub loop-preserved-in-Some-dispatch_one : goal.loop-preserved-in-Some-dispatch_one
loop-preserved-in-Some-dispatch_one g c =
    let q = c.dispatch_one.ensures in
    let was = c.loop.invariant in
    record {
      seat = record { same = q.same.table ∙ was.seat.same; about = q.same.about ∙ was.seat.about };
      same = record { table = q.same.table ∙ was.same.table; about = q.same.about ∙ was.same.about };
      seen = seen_more g.O.Observer.saw c.args.state.now.seat.seat.me.0.about.plan c.loop.state.texts c.dispatch_one.new.texts (dispatcher c.args.state.now.seat.seat.me.0).read (dispatcher c.loop.state.seat.seat.me.0).read (dispatcher c.dispatch_one.new.dispatcher_seat.seat.me.0).read
          c.in-Some-dispatch_one.read c.args.observer.now c.loop.observer c.dispatch_one.new.observer _ c.in-Some-dispatch_one.ensures.some c.dispatch_one.ensures.kept
          (sym (ap (λ a. a.plan) was.same.about)) c.in-Some-dispatch_one.ensures.seen was.seen;
      texts = q.texts;
      noted = noted_more c.loop.state.seat.seat.me.0 c.dispatch_one.new.dispatcher_seat.seat.me.0 c.loop.state.events.items c.push_reserved.new.self.items c.in-Some-dispatch_one.read _ _ q.same.about c.in-Some-dispatch_one.ensures.some c.push_reserved.ensures.items c.push_reserved.ensures.capacity was.noted;
    }

pub loop-preserved : goal.loop-preserved
loop-preserved g c =
    let q = c.dispatch_one.ensures in
    let was = c.loop.invariant in
    let rests = c.rest.ensures in
    let silent = c.in-None-dispatch_one.ensures.none in
    let plan = c.args.state.now.seat.seat.me.0.about.plan in
    let first = (dispatcher c.args.state.now.seat.seat.me.0).read in
    let told = c.dispatch_one.new.dispatcher_seat.seat.me.0 in
    let now = c.rest.new.dispatcher_seat.seat.me.0 in
    let later = rests.read ∙ ap (λ m. (dispatcher m.0).read) silent.0 in
    record {
      seat = record { same = rests.same.table ∙ q.same.table ∙ was.seat.same; about = rests.same.about ∙ q.same.about ∙ was.seat.about };
      same = record { table = rests.same.table ∙ q.same.table ∙ was.same.table; about = rests.same.about ∙ q.same.about ∙ was.same.about };
      seen = subst (λ (z : TextParts × List Event). HasSeenSince g.O.Observer.saw plan z.0 first z.1 c.args.observer.now c.idle.new.self) (λ k. (sym silent.2 k, sym later k))
          (seen_kept g.O.Observer.saw plan c.loop.state.texts first _ c.args.observer.now c.loop.observer c.idle.new.self
          (subst (λ o. KeepsSight g.O.Observer.saw o c.idle.new.self) silent.1 c.idle.ensures) was.seen);
      texts = read_alike g.B.Job.answers told now _ rests.same.about rests.read rests.slots q.texts;
      noted = noted_alike c.loop.state.seat.seat.me.0 now (rests.same.about ∙ q.same.about) later _ _ was.noted;
    }
