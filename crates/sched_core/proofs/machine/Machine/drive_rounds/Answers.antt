-- Round after round, until one in which nothing is done.
use Rattle.std.proofs.Common.{◌∙◌, ap, arith}
use Rattle.sched_core.specs.Inside.Fields.{state_of}
use Rattle.sched_core.proofs.InTurns.{round_goes, round_rests}
use Rattle.sched_core.proofs.Serving.{leads_then}
use Rattle.sched_core.proofs.machine.Machine.drive_rounds.Goals as goal

pub rounds-preserved : goal.rounds-preserved
rounds-preserved c = (
  c.round.ensures.sound,
  c.round.ensures.workers ∙ c.rounds.invariant.1,
  c.round.ensures.between,
  leads_then c.args.plan.now c.args.answers.now (state_of c.args.self.now) (state_of c.rounds.self) (state_of c.round.new.self) c.rounds.invariant.3 c.round.ensures.leads,
  λ t more. c.rounds.invariant.4 t (round_goes c.args.plan.now c.args.answers.now c.args.self.now.workers c.rounds.self.workers c.rounds.invariant.1 (state_of c.rounds.self) (state_of c.round.new.self) c.round.ensures.round (c.round.ensures.less c.if-not-round.false) t more),
)

pub returns-clause-leads : goal.returns-clause-leads
returns-clause-leads c = leads_then c.args.plan.now c.args.answers.now (state_of c.args.self.now) (state_of c.rounds.self) (state_of c.round.new.self) c.rounds.invariant.3 c.round.ensures.leads

pub returns-clause-quiet : goal.returns-clause-quiet
returns-clause-quiet c v lt = (let same = c.rounds.invariant.1 in c.round.ensures.quiet c.if-not-round.true v (omega (arith, lt, same)))

pub returns-clause-rounds : goal.returns-clause-rounds
returns-clause-rounds c =
    c.rounds.invariant.4 (state_of c.round.new.self)
    (round_rests c.args.plan.now c.args.answers.now c.args.self.now.workers c.rounds.self.workers c.rounds.invariant.1 (state_of c.rounds.self) (state_of c.round.new.self) c.round.ensures.round (ap state_of (c.round.ensures.same c.if-not-round.true)))
