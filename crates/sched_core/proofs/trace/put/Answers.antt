-- One more event: last in its worker's list, or in none.
use Rattle.std.proofs.Common.{◌≡◌, ◌<◌, ◌≤◌, arith, length, get_or}
use Rattle.std.proofs.lemmas.Grind.{common_steps}
use Rattle.sched_core.proofs.Parts.{put_in, put_out}
use Rattle.sched_core.proofs.trace.put.Goals as goal

pub returns-then-event-eq0 : goal.returns-then-event-eq0
returns-then-event-eq0 c n h are = put_out n h c.args.event c.args.lists.now.items (λ k is. omega arith) are

pub returns-in_ok-push : goal.returns-in_ok-push
returns-in_ok-push c n h are =
    let inside : c.from.result < length c.args.lists.now.items = grind (arith, common_steps) in
    let at : get_or c.args.lists.now.items c.from.result c.in-Some.list.now ≡ c.in-Some.list.now = grind (arith, common_steps) in
    put_in n c.from.result h c.args.event c.args.lists.now.items c.in-Some.list.now c.push.new.self (omega arith) inside at (grind (arith, common_steps)) are

pub returns-in_default : goal.returns-in_default
returns-in_default c n h are =
    let none : length c.args.lists.now.items ≤ c.from.result = grind (arith, common_steps) in
    put_out n h c.args.event c.args.lists.now.items (λ k is. omega (arith, none, is)) are
