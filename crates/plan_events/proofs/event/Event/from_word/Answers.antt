-- The word of a lawful event gives that event's parts, and so that event.
use Rattle.std.proofs.Common.{arith, ◌≡◌}
use Rattle.plan_events.proofs.Readings.{parts_of_word, lawful_ranges}
use Rattle.plan_events.proofs.event.Event.from_word.Goals as goal
use Rattle.plan_events.proofs.event.Event.from_word.Goals.{then-is_lawful, else-is_lawful}
use Rattle.std.proofs.lemmas.Bool.Decides.{nat_tests}

pub returns-clause-reads : goal.returns-clause-reads
returns-clause-reads c = λ e lawful same.
    let parts = parts_of_word e lawful in
    let ranges = lawful_ranges e lawful in
    let kind : c.in_ok-from_code.field-0 ≡ e.kind = grind (arith, c.from_code.ensures e.kind) in
    let status : c.in_ok-from_code-2.field-0 ≡ e.status = grind (arith, c.from_code-2.ensures e.status) in
    let worker : c.in_ok-ok.field-0 ≡ e.worker = grind arith in
    let node : c.new.result ≡ e.node = grind arith in
    elim c.if-is_lawful.branch [ then-is_lawful w ↦ grind (arith, nat_tests) | else-is_lawful w ↦ grind (arith, nat_tests) ]
