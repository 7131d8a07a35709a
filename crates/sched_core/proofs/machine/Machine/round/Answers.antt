-- One more turn: less is left to do, or the worker had nothing to do either.
use Rattle.std.proofs.Common.{◌≡◌, ◌∙◌, ℕ, inl, inr, refl, sym, subst, arith}
use Rattle.std.proofs.lemmas.Bool.{cases_eq, false≢true}
use Rattle.sched_core.specs.declared.machine.Machine.{Machine}
use Rattle.sched_core.specs.Inside.Fields.{state_of}
use Rattle.sched_core.specs.Inside.Rounds.{IsQuiet}
use Rattle.sched_core.specs.InTurns.{IsRound, begins}
use Rattle.sched_core.proofs.InTurns.{one_more}
use Rattle.sched_core.proofs.Serving.{leads_here, leads_then, leads_less}
use Rattle.sched_core.proofs.machine.Machine.round.Goals as goal
use Rattle.sched_core.proofs.machine.Machine.round.Goals.{then-serve, else-serve}

pub loop-place-init : goal.loop-place-init
loop-place-init c = (
  c.requires.sound,
  refl,
  c.requires.between,
  leads_here c.args.plan.now c.args.answers.now (state_of c.args.self.now),
  λ q. absurd (false≢true q),
  λ q v lt. absurd (omega (arith, lt)),
  begins,
  λ q. refl,
)

pub loop-place-preserved : goal.loop-place-preserved
loop-place-preserved c = (
  c.serve.ensures.sound,
  c.serve.ensures.workers ∙ c.loop-place.invariant.1,
  c.serve.ensures.between,
  leads_then c.args.plan.now c.args.answers.now (state_of c.args.self.now) (state_of c.loop-place.self) (state_of c.serve.new.self) c.loop-place.invariant.3 c.serve.ensures.leads,
  λ q. elim c.if-serve.branch [
    | then-serve w ↦ (let less = c.serve.ensures.less w.if-serve.true in let before = leads_less c.args.plan.now c.args.answers.now (state_of c.args.self.now) (state_of c.loop-place.self) c.loop-place.invariant.3 in omega (arith, less, before))
    | else-serve w ↦ (let less = c.loop-place.invariant.4 (sym w.went_on-is ∙ q) in let more = leads_less c.args.plan.now c.args.answers.now (state_of c.loop-place.self) (state_of c.serve.new.self) c.serve.ensures.leads in omega (arith, less, more))
  ],
  λ q v lt. elim c.if-serve.branch [
    | then-serve w ↦ absurd (false≢true (sym q ∙ w.went_on-is))
    | else-serve w ↦ (let quiet = c.serve.ensures.quiet w.if-serve.false in
        subst (λ (m : Machine). IsQuiet c.args.plan.now c.args.answers.now (state_of m) v) (sym quiet.0) (elim (cases_eq v c.loop-place.place) [
          | inl e ↦ subst (IsQuiet c.args.plan.now c.args.answers.now (state_of c.loop-place.self)) (sym e) quiet.1
          | inr ne ↦ c.loop-place.invariant.5 (sym w.went_on-is ∙ q) v (omega (arith, lt, ne))
        ]))
  ],
  one_more c.args.plan.now c.args.answers.now c.loop-place.place (state_of c.args.self.now) (state_of c.loop-place.self) (state_of c.serve.new.self) c.loop-place.invariant.6 c.serve.ensures.turn,
  λ q. elim c.if-serve.branch [
    | then-serve w ↦ absurd (false≢true (sym q ∙ w.went_on-is))
    | else-serve w ↦ (c.serve.ensures.quiet w.if-serve.false).0 ∙ c.loop-place.invariant.7 (sym w.went_on-is ∙ q)
  ],
)

pub returns-clause-quiet : goal.returns-clause-quiet
returns-clause-quiet c q v lt = (let end = c.loop-place-test.false in c.loop-place.invariant.5 q v (omega (arith, lt, end)))

pub returns-clause-round : goal.returns-clause-round
returns-clause-round c =
    let whole : c.loop-place.place ≡ c.args.self.now.workers = omega (arith, c.loop-place-test.false, c.loop-place.auto.place-end) in
    subst (λ (k : ℕ). IsRound c.args.plan.now c.args.answers.now k (state_of c.args.self.now) (state_of c.loop-place.self)) whole c.loop-place.invariant.6
