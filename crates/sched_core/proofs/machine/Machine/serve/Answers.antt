-- What a read leaves, and then the turn.
use Rattle.std.proofs.Common.{◌∙◌, sym, ap, subst, arith}
use Rattle.scheduling.specs.State.{State}
use Rattle.termination.proofs.Payments.{read_pays}
use Rattle.sched_core.specs.declared.machine.Machine.{Machine}
use Rattle.sched_core.specs.Inside.Fields.{state_of}
use Rattle.sched_core.specs.InTurns.{IsIdle, IsTurn}
use Rattle.sched_core.specs.Runs.{state_or}
use Rattle.sched_core.proofs.Serving.{leads_then, leads_less, read_leads}
use Rattle.sched_core.proofs.machine.Machine.serve.Goals as goal

pub returns-then-read-clause-leads : goal.returns-then-read-clause-leads
returns-then-read-clause-leads c =
    leads_then c.args.plan.now c.args.answers.now (state_of c.args.self.now) (state_of c.reads-read.new.self) (state_of c.turn-worked.new.self) (read_leads c.args.plan.now c.args.answers.now (state_of c.args.self.now) (state_of c.reads-read.new.self) (c.reads-read.ensures.read c.if-read.true)) c.turn-worked.ensures.leads

pub returns-then-read-clause-less : goal.returns-then-read-clause-less
returns-then-read-clause-less c q =
    let first = read_pays c.args.plan.now (state_of c.args.self.now) (state_of c.reads-read.new.self) (c.reads-read.ensures.read c.if-read.true) in
    let more = leads_less c.args.plan.now c.args.answers.now (state_of c.reads-read.new.self) (state_of c.turn-worked.new.self) c.turn-worked.ensures.leads in
    omega (arith, first, more)

pub returns-else-read-clause-quiet : goal.returns-else-read-clause-quiet
returns-else-read-clause-quiet c q =
    let idle = c.reads-read.ensures.idle c.if-read.false in
    let none = c.turn-worked.ensures.idle q in (
      none.0 ∙ idle.1,
      (idle.0, subst (λ (m : Machine). IsIdle c.args.plan.now c.args.answers.now (state_of m) c.args.place) idle.1 none.1),
    )

pub returns-then-read-clause-turn : goal.returns-then-read-clause-turn
returns-then-read-clause-turn c =
    let read = ap (state_or (state_of c.args.self.now)) (c.reads-read.ensures.read c.if-read.true) in
    subst (λ (s : State). IsTurn c.args.plan.now c.args.answers.now c.args.place s (state_of c.turn-worked.new.self)) (sym read) c.turn-worked.ensures.turn

pub returns-else-read-clause-turn : goal.returns-else-read-clause-turn
returns-else-read-clause-turn c =
    let idle = c.reads-read.ensures.idle c.if-read.false in
    let same = ap state_of idle.1 ∙ sym (ap (state_or (state_of c.args.self.now)) idle.0) in
    subst (λ (s : State). IsTurn c.args.plan.now c.args.answers.now c.args.place s (state_of c.turn-worked.new.self)) same c.turn-worked.ensures.turn
