-- The dispatcher's state whose seat dealt others is as ready as the one that was lent, and of the run from there on the same is known.
use Rattle.std.proofs.Common.{refl}
use Rattle.thread_pool.proofs.Dealt.{at_seat, is_dealt, none_dealt, ready_dealt, ran_dealt, untouched}
use Rattle.thread_pool.proofs.running.fn.run_scoped.scope.Goals as goal

pub tell_run-ran-requires-clause-ready : goal.tell_run-ran-requires-clause-ready
tell_run-ran-requires-clause-ready g c =
    let before = c.captures.state.now in
    let first = c.start_first in
    λ κs lives. ready_dealt _ before (at_seat before first.new.seat) (is_dealt before first.new.seat first.ensures.same first.ensures.read first.ensures.slots) c.requires.ready

pub returns : goal.returns
returns g c =
    let before = c.captures.state.now in
    let first = c.start_first in
    let told = c.tell_run-ran.ensures in
    record {
      run = ran_dealt _ before (at_seat before first.new.seat) (is_dealt before first.new.seat first.ensures.same first.ensures.read first.ensures.slots) c.tell_run-ran.result _ _ _ _ told.run;
      back = untouched c.tell_run-ran.result _ _ _ _ told.none told.back (none_dealt before first.new.seat _ first.ensures.none);
      unseen = told.unseen;
      same_state = refl;
      same_observer = refl;
    }
