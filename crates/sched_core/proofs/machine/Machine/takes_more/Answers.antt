-- Who takes keys goes on, and who has nothing to do takes none.
use Rattle.std.proofs.Common.{◌∙◌, true, false, sym, subst}
use Rattle.termination.specs.Inside.Turns.{IsBetweenTurns}
use Rattle.termination.proofs.InTurn.{turn_over}
use Rattle.sched_core.specs.declared.machine.Machine.{Machine}
use Rattle.sched_core.specs.Inside.Fields.{state_of}
use Rattle.sched_core.specs.InTurns.{TakesKeys, has_all, takes_one}
use Rattle.sched_core.proofs.Finding.{seat_at}
use Rattle.sched_core.proofs.InTurns.{takes_there, has_all_keys}
use Rattle.sched_core.proofs.Serving.{idle_between}
use Rattle.sched_core.proofs.machine.Machine.takes_more.Goals as goal

pub returns-then-not-takes_keys-clause-done : goal.returns-then-not-takes_keys-clause-done
returns-then-not-takes_keys-clause-done c q =
    let seat = c.index.result.now in
    let at = seat_at _ _ _ seat c.from.ensures c.index.ensures c.requires.place in
    has_all (takes_there (state_of c.args.self.now) c.args.place seat at false (sym c.takes_keys.ensures ∙ c.if-not-takes_keys.true))

pub returns-then-not-takes_keys-clause-over : goal.returns-then-not-takes_keys-clause-over
returns-then-not-takes_keys-clause-over c q =
    let seat = c.index.result.now in
    let at = seat_at _ _ _ seat c.from.ensures c.index.ensures c.requires.place in
    turn_over c.args.plan.now (state_of c.args.self.now) c.args.place seat at (sym c.takes_keys.ensures ∙ c.if-not-takes_keys.true) c.requires.turn

pub returns-clause-over : goal.returns-clause-over
returns-clause-over c q =
    let idle = c.works.ensures.idle q in
    subst (λ (m : Machine). IsBetweenTurns (state_of m)) (sym idle.0) (idle_between c.args.plan.now c.args.answers.now c.args.self.now c.requires.sound c.args.place c.requires.place c.requires.turn idle.1)

pub returns-clause-more : goal.returns-clause-more
returns-clause-more c q t more =
    let seat = c.index.result.now in
    let at = seat_at _ _ _ seat c.from.ensures c.index.ensures c.requires.place in
    takes_one (takes_there (state_of c.args.self.now) c.args.place seat at true (sym c.takes_keys.ensures ∙ c.if-not-takes_keys.false)) (c.works.ensures.step q) more

pub returns-clause-done : goal.returns-clause-done
returns-clause-done c q =
    let idle = c.works.ensures.idle q in
    subst (λ (m : Machine). TakesKeys c.args.plan.now c.args.answers.now c.args.place (state_of m) (state_of c.works.new.self)) idle.0
    (has_all (has_all_keys (state_of c.works.new.self) c.args.place (returns-clause-over c q)))
