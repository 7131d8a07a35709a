-- What the trace of a core tells.
use Rattle.std.proofs.Common.{IfOk, length, subst, sym}
use Rattle.descriptor.specs.Nodes.{IsTree}
use Rattle.sched_core.specs.Snapshot.{Snapshot}
use Rattle.sched_core.specs.Traces.{IsRightTrace}
use Rattle.sched_core.specs.declared.trace.Trace.{Trace}
use Rattle.sched_core.specs.Endings.{IsNotStuck}
use Rattle.sched_core.specs.Taken.{IsBoundedOn, IsShortOn}
use Rattle.sched_core.specs.Inside.Fields.{state_of}
use Rattle.sched_core.proofs.Endings.{not_stuck}
use Rattle.sched_core.proofs.Taken.{bounded_from, short_from}
use Rattle.sched_core.proofs.Tracing.{right_trace, right_apart, right_expected, if_ok}
use Rattle.sched_core.proofs.core_steps.Core.trace.Goals as goal

pub returns-clause-right : goal.returns-clause-right
returns-clause-right c =
    let core = c.self.inside in
    let sound = c.self.invariant.0 in
    subst (λ (s : Snapshot). IfOk c.trace.result (λ (t : Trace). IsRightTrace s.plan s.answers (length s.state.seats) t)) c.self.view_is
    (if_ok c.trace.result (λ t is. right_trace core.plan core.answers core.machine sound (length core.machine.seats.items) 0 (sym sound.workers) t is) c.trace.ensures)

pub returns-clause-apart : goal.returns-clause-apart
returns-clause-apart c =
    let tree = c.self.invariant.0.plan.tree in
    if_ok c.trace.result (λ t right. right_apart c.args.self.now.plan c.args.self.now.answers (subst (λ (s : Snapshot). IsTree s.plan.tree) c.self.view_is tree) (length c.args.self.now.state.seats) t right) (returns-clause-right c)

pub returns-clause-expected : goal.returns-clause-expected
returns-clause-expected c =
    let tree = c.self.invariant.0.plan.tree in
    if_ok c.trace.result (λ t right. right_expected c.args.self.now.plan c.args.self.now.answers (subst (λ (s : Snapshot). IsTree s.plan.tree) c.self.view_is tree) (length c.args.self.now.state.seats) t right) (returns-clause-right c)

pub returns-clause-never_stuck : goal.returns-clause-never_stuck
returns-clause-never_stuck c =
    let core = c.self.inside in
    let sound = c.self.invariant.0 in
    subst (λ (s : Snapshot). IsNotStuck s.plan s.answers s.state) c.self.view_is (not_stuck core.plan sound.plan core.answers (state_of core.machine) sound.live)

pub returns-clause-bounded : goal.returns-clause-bounded
returns-clause-bounded c =
    let core = c.self.inside in
    let sound = c.self.invariant.0 in
    subst (λ (s : Snapshot). IsBoundedOn s.plan s.answers s.state) c.self.view_is (bounded_from core.plan sound.plan core.answers (state_of core.machine) sound.live.kept)

pub returns-clause-short : goal.returns-clause-short
returns-clause-short c =
    let core = c.self.inside in
    let sound = c.self.invariant.0 in
    subst (λ (s : Snapshot). IsShortOn s.plan s.answers s.state) c.self.view_is (short_from core.plan sound.plan core.answers (state_of core.machine) sound.live.kept)
