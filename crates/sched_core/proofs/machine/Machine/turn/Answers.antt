-- A turn begins where nobody takes keys, and ends there.
use Rattle.std.proofs.Common.{◌∙◌, refl, sym, subst, arith}
use Rattle.sched_core.specs.Inside.Fields.{state_of}
use Rattle.termination.proofs.InTurn.{turn_of}
use Rattle.sched_core.specs.declared.machine.Machine.{Machine}
use Rattle.sched_core.specs.InTurns.{IsTurn, passes, takes}
use Rattle.sched_core.proofs.Serving.{leads_here, leads_then}
use Rattle.sched_core.proofs.machine.Machine.turn.Goals as goal

pub works-requires-clause-turn : goal.works-requires-clause-turn
works-requires-clause-turn c = turn_of c.args.plan.now (state_of c.args.self.now) c.args.place c.requires.between

pub returns-then-not-works-clause-turn : goal.returns-then-not-works-clause-turn
returns-then-not-works-clause-turn c =
    let idle = c.works.ensures.idle c.if-not-works.true in
    subst (λ (m : Machine). IsTurn c.args.plan.now c.args.answers.now c.args.place (state_of c.args.self.now) (state_of m)) (sym idle.0) (passes idle.1)

pub keys-init : goal.keys-init
keys-init c = (
  c.works.ensures.sound,
  refl,
  c.works.ensures.turn,
  leads_here c.args.plan.now c.args.answers.now (state_of c.works.new.self),
  (let seats = c.works.ensures.sound.workers in let same = c.works.ensures.workers in let was = c.requires.sound.workers in let lt = c.requires.place in omega (arith, seats, same, was, lt)),
  λ t more. more,
)

pub keys-preserved : goal.keys-preserved
keys-preserved c = (
  c.takes_more.ensures.sound,
  c.takes_more.ensures.workers ∙ c.keys.invariant.1,
  c.takes_more.ensures.turn,
  leads_then c.args.plan.now c.args.answers.now (state_of c.works.new.self) (state_of c.keys.self) (state_of c.takes_more.new.self) c.keys.invariant.3 c.takes_more.ensures.leads,
  (let seats = c.takes_more.ensures.sound.workers in let same = c.takes_more.ensures.workers in let was = c.keys.invariant.0.workers in let lt = c.keys.invariant.4 in omega (arith, seats, same, was, lt)),
  λ t more. c.keys.invariant.5 t (c.takes_more.ensures.more c.if-not-takes_more.false t more),
)

pub returns-clause-between : goal.returns-clause-between
returns-clause-between c = c.takes_more.ensures.over c.if-not-takes_more.true

pub returns-clause-leads : goal.returns-clause-leads
returns-clause-leads c =
    leads_then c.args.plan.now c.args.answers.now (state_of c.args.self.now) (state_of c.works.new.self) (state_of c.takes_more.new.self) c.works.ensures.leads
    (leads_then c.args.plan.now c.args.answers.now (state_of c.works.new.self) (state_of c.keys.self) (state_of c.takes_more.new.self) c.keys.invariant.3 c.takes_more.ensures.leads)

pub returns-clause-turn : goal.returns-clause-turn
returns-clause-turn c = takes (c.works.ensures.step c.if-not-works.false) (c.keys.invariant.5 (state_of c.takes_more.new.self) (c.takes_more.ensures.done c.if-not-takes_more.true))
