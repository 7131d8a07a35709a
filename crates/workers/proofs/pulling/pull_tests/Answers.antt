use Rattle.std.proofs.Common.{◌≡◌, ◌<◌, ◌≤◌, ◌+◌, ℕ, true, length, Some, arith, zero-le, refl, sym, ap, ◌∙◌, subst}
use Rattle.descriptor.specs.Nodes.{IsTree, body_of, is_factory_at}
use Rattle.plan_events.specs.Jobs.{left_by}
use Rattle.resource_locks.specs.Plans.{PlanParts}
use Rattle.scheduling.specs.declared.seat.Seat.{Seat}
use Rattle.table_rule.specs.Picture.{about_of, gives_in, replies_in}
use Rattle.run_table.proofs.Facts.{plan_is}
use Rattle.workers.specs.Inside.Answering.{GivesAfter, LeftAfter}
use Rattle.workers.proofs.Asked.{more_given, more_left, end_given, end_left, end_may}
use Rattle.workers.proofs.Tests.{tests_are}
use Rattle.workers.proofs.Going.{still_of, then_still}
use Rattle.workers.proofs.LettingGo.{factory_may}
use Rattle.workers.proofs.Outgoing.{none_asked, none_given, then_goes}
use Rattle.workers.proofs.pulling.pull_tests.Goals as goal

pub add_test-requires-clause-more : goal.add_test-requires-clause-more
add_test-requires-clause-more g c =
    let old = c.args.seat.now in
    let f = c.args.held.factory in
    let factory = subst (λ (p : PlanParts). is_factory_at p.tree f ≡ true) (plan_is _ _ _ old.seat c.args.table.now.fitting c.requires.table) (old.within.now.factory c.args.held (ap (λ (s : Seat). s.hand) old.at_work.seat_is ∙ c.requires.in_hand)) in
    let many = tests_are c.args.table.now.plan c.plan.result.now c.tree.result.now f c.children-tests.result.now c.children-tests.ensures c.tree.ensures.same c.plan.ensures c.tree.ensures.tree factory in
    subst (λ (k : ℕ). c.loop.asked < k) many c.if-asked-tests.true

pub tell_too_many-requires-clause-all : goal.tell_too_many-requires-clause-all
tell_too_many-requires-clause-all g c =
    let old = c.args.seat.now in
    let f = c.args.held.factory in
    let factory = subst (λ (p : PlanParts). is_factory_at p.tree f ≡ true) (plan_is _ _ _ old.seat c.args.table.now.fitting c.requires.table) (old.within.now.factory c.args.held (ap (λ (s : Seat). s.hand) old.at_work.seat_is ∙ c.requires.in_hand)) in
    let many = tests_are c.args.table.now.plan c.plan.result.now c.tree.result.now f c.children-tests.result.now c.children-tests.ensures c.tree.ensures.same c.plan.ensures c.tree.ensures.tree factory in
    subst (λ (k : ℕ). k ≤ c.loop.asked) many c.if-asked-tests.false

pub loop-init : goal.loop-init
loop-init g c =
    let old = c.args.seat.now in
    let f = c.args.held.factory in
    let took = c.take_job-job.ensures in
    let j = took.job in
    let pulls = (c.requires.steady.hand c.args.held (ap (λ (s : Seat). s.hand) old.at_work.seat_is ∙ c.requires.in_hand)).pulls in
    record {
      table = still_of _ _ _ c.requires.table took.goes_on.same;
      goes_on = took.goes_on;
      steady = took.steady;
      free = took.free;
      idle = took.idle;
      few = zero-le;
      some = factory_may g.B.Job.answers (about_of c.args.table.now.table.shared.key) old.seat.me.0.about f j.0 (g.B.Job.answers c.take_job-job.result) c.requires.jobs c.requires.table.about pulls j.1 j.2;
      left = subst (λ a. (number : ℕ) × (body_of a.plan.tree f ≡ Some number) × LeftAfter 0 (replies_in g.B.Job.answers a.jobs number) (g.B.Job.answers c.take_job-job.result) × GivesAfter 0 (gives_in g.B.Job.gives a.jobs number) (g.B.Job.gives c.take_job-job.result))
          (sym took.goes_on.same.about) (j.0, j.1, none_asked 0 _ _ refl j.2, none_given 0 (gives_in g.B.Job.gives old.seat.me.0.about.jobs j.0) (g.B.Job.gives c.take_job-job.result) refl j.3);
      led = λ first it. it;
    }

pub see_tests_through-requires-clause-table : goal.see_tests_through-requires-clause-table
see_tests_through-requires-clause-table g c = still_of _ _ _ c.loop.invariant.table c.add_test.ensures.goes_on.same

pub see_tests_through-requires-clause-steady : goal.see_tests_through-requires-clause-steady
see_tests_through-requires-clause-steady g c = (c.args.held.factory, c.loop.asked + 1, c.add_test.ensures.steady)

pub tell_too_many-requires-clause-some : goal.tell_too_many-requires-clause-some
tell_too_many-requires-clause-some g c = (let said = c.next-in-loop.ensures.pull c.loop.invariant.some in subst (λ l. 0 < length l) (sym said.left) said.allowed)

pub loop-preserved : goal.loop-preserved
loop-preserved g c =
    let said = c.next-in-loop.ensures.pull c.loop.invariant.some in
    let j = c.loop.invariant.left in
    record {
      table = then_still _ _ _ _ c.loop.invariant.table c.add_test.ensures.goes_on.same c.see_tests_through.ensures.goes_on.same;
      goes_on = then_goes _ _ _ (then_goes _ _ _ c.loop.invariant.goes_on c.add_test.ensures.goes_on) c.see_tests_through.ensures.goes_on;
      steady = c.see_tests_through.ensures.steady c.args.held.factory (c.loop.asked + 1) c.add_test.ensures.steady;
      free = c.see_tests_through.ensures.free;
      idle = c.see_tests_through.ensures.idle;
      few = omega (arith, c.if-asked-tests.true);
      some = subst (λ l. 0 < length l) (sym said.left) said.allowed;
      left = subst (λ a. (number : ℕ) × (body_of a.plan.tree c.args.held.factory ≡ Some number) × LeftAfter (c.loop.asked + 1) (replies_in g.B.Job.answers a.jobs number) (g.B.Job.answers c.next-in-loop.new.self) × GivesAfter (c.loop.asked + 1) (gives_in g.B.Job.gives a.jobs number) (g.B.Job.gives c.next-in-loop.new.self))
          (sym (c.see_tests_through.ensures.goes_on.same.about ∙ c.add_test.ensures.goes_on.same.about)) (
            j.0,
            j.1,
            more_left c.loop.asked _ (g.B.Job.answers c.loop.job) (g.B.Job.answers c.next-in-loop.new.self) j.2 (said.left ∙ ap (λ r. left_by r (g.B.Job.answers c.loop.job)) c.in-More.is),
            more_given c.loop.asked (gives_in g.B.Job.gives c.loop.seat.seat.me.0.about.jobs j.0) (g.B.Job.gives c.loop.job) (g.B.Job.gives c.next-in-loop.new.self) _ c.in-More.is j.3 c.next-in-loop.ensures.given,
          );
      led = λ first it. c.see_tests_through.ensures.led first (c.loop.invariant.led first it);
    }

pub tell_too_many-requires-clause-job : goal.tell_too_many-requires-clause-job
tell_too_many-requires-clause-job g c =
    let said = c.next-in-loop.ensures.pull c.loop.invariant.some in
    let j = c.loop.invariant.left in
    (j.0, j.1, more_left c.loop.asked _ (g.B.Job.answers c.loop.job) (g.B.Job.answers c.next-in-loop.new.self) j.2 (said.left ∙ ap (λ r. left_by r (g.B.Job.answers c.loop.job)) c.in-More-2.is))

pub run_factory-requires-clause-some : goal.run_factory-requires-clause-some
run_factory-requires-clause-some g c =
    let old = g.B.Job.answers c.loop.job in
    let said = c.next-in-loop.ensures.pull c.loop.invariant.some in
    end_may old (g.B.Job.answers c.next-in-loop.new.self) (subst (λ r. 0 < length (left_by r old)) c.in-End.is said.allowed) (said.left ∙ ap (λ r. left_by r old) c.in-End.is)

pub run_factory-requires-clause-job : goal.run_factory-requires-clause-job
run_factory-requires-clause-job g c =
    let old = g.B.Job.answers c.loop.job in
    let said = c.next-in-loop.ensures.pull c.loop.invariant.some in
    let j = c.loop.invariant.left in
    (j.0, j.1, end_left c.loop.asked _ old (g.B.Job.answers c.next-in-loop.new.self) j.2 (said.left ∙ ap (λ r. left_by r old) c.in-End.is), end_given c.loop.asked (gives_in g.B.Job.gives c.loop.seat.seat.me.0.about.jobs j.0) (g.B.Job.gives c.loop.job) (g.B.Job.gives c.next-in-loop.new.self) _ c.in-End.is j.3 c.next-in-loop.ensures.given)

pub returns-in-More-2-clause-goes_on : goal.returns-in-More-2-clause-goes_on
returns-in-More-2-clause-goes_on g c = then_goes _ _ _ c.loop.invariant.goes_on c.tell_too_many.ensures.goes_on

pub returns-in-End-clause-goes_on : goal.returns-in-End-clause-goes_on
returns-in-End-clause-goes_on g c = then_goes _ _ _ c.loop.invariant.goes_on c.run_factory.ensures.goes_on

pub add_test-requires-clause-tree : goal.add_test-requires-clause-tree
add_test-requires-clause-tree g c = subst (λ (p : PlanParts). IsTree p.tree) c.plan.ensures c.tree.ensures.tree

pub see_tests_through-requires-clause-tree : goal.see_tests_through-requires-clause-tree
see_tests_through-requires-clause-tree g c = subst (λ (p : PlanParts). IsTree p.tree) c.plan.ensures c.tree.ensures.tree

pub tell_too_many-requires-clause-tree : goal.tell_too_many-requires-clause-tree
tell_too_many-requires-clause-tree g c = subst (λ (p : PlanParts). IsTree p.tree) c.plan.ensures c.tree.ensures.tree
