-- A failure is kept or counted, and nothing else.
use Rattle.std.proofs.Common.{◌==◌, not, subst, sym}
use Rattle.listeners.specs.Listeners.{telling}
use Rattle.plan_events.specs.Statuses.{is_failed}
use Rattle.plan_events.specs.Texts.{text_at}
use Rattle.run_results.specs.Told.{ended, status_by}
use Rattle.live.specs.Failing.{KeepsNode}
use Rattle.live.proofs.Keeping.{both_true, failed_text_is, keeps}
use Rattle.live.proofs.failures.FailuresObserver.see.Goals as goal

pub returns-then-tells_failure : goal.returns-then-tells_failure
returns-then-tells_failure c first before was =
    let e = c.args.event in
    let tells = sym c.if-tells_failure.ensures in
    let text = failed_text_is e.kind e.status (text_at c.args.texts.now e.node) (both_true (not (e.node == 0)) (ended is_failed (status_by e.kind e.status)) tells) in
    keeps c.args.plan.now first c.args.self.now c.note.new.self before (telling c.args.texts.now e) was tells (subst (λ t. KeepsNode c.args.plan.now e.node t c.args.self.now c.note.new.self) (sym text) c.note.ensures)
