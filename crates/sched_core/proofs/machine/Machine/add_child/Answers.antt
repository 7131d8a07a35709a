-- The factory in hand is one, and its counter has a place; and the row goes on as is due.
use Rattle.std.proofs.Common.{arith}
use Rattle.sched_core.proofs.Turning.{one_more_fits}
use Rattle.sched_core.proofs.machine.Machine.add_child.Goals as goal

pub due_child-requires-clause-inside : goal.due_child-requires-clause-inside
due_child-requires-clause-inside c h is = (c.requires.hand h is).inside

pub index_mut-requires : goal.index_mut-requires
index_mut-requires c =
    let is = c.requires.hand c.in-Some.held c.in-Some.ensures.some.1 in
    let inside = is.counter in
    let same = c.index.ensures.same in
    grind (arith, inside, same)

pub overflow_add-index_mut : goal.overflow_add-index_mut
overflow_add-index_mut c =
    let is = c.requires.hand c.in-Some.held c.in-Some.ensures.some.1 in
    one_more_fits c.args.self.now.counters.items c.index.result c.in-Some.held.factory c.index_mut.result.now c.index.ensures.same is.counter is.few c.index_mut.ensures.value
