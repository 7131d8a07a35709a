use Rattle.std.proofs.Common.{◌<◌, ℕ, sym, ap, ◌∙◌, subst}
use Rattle.descriptor.specs.Nodes.{size}
use Rattle.scheduling.specs.declared.seat.Seat.{Seat}
use Rattle.table_rule.specs.Plays.{worker}
use Rattle.std.proofs.lemmas.Option.{same_Some}
use Rattle.workers.proofs.Tests.{taken_there, taken_steady, hand_slot_is, hand_waits}
use Rattle.workers.proofs.pulling.take_job.Goals as goal

pub unreachable-requires : goal.unreachable-requires
unreachable-requires g c =
    let old = c.args.seat.now in
    let w = worker old.seat.me.0 in
    let h = c.requires.in_hand in
    taken_there old.seat.me.0.about.plan w.seat w.slots old.task old.hand h.0 c.args.factory (c.requires.steady.hand h.0 (ap (λ (s : Seat). s.hand) old.at_work.seat_is ∙ h.1)) c.requires.free h.1 h.2 c.in_default.ensures.none.1

pub returns-clause-steady : goal.returns-clause-steady
returns-clause-steady g c =
    let old = c.args.seat.now in
    let p = old.seat.me.0.about.plan in
    let h = c.requires.in_hand in
    let d = c.in-Some.ensures.some in
    taken_steady old.seat c.body_out.new.self.seat c.args.factory d.0 old.task old.hand h.0 old.at_work.seat_is c.body_out.ensures.same.about c.requires.steady h.1 h.2
    (subst (λ (k : ℕ). k < size p.tree) h.2 (old.within.now.hand h.0 (ap (λ (s : Seat). s.hand) old.at_work.seat_is ∙ h.1)))
    (same_Some d.0 c.args.factory (sym d.2 ∙ hand_slot_is p old.task old.hand h.0 c.args.factory c.requires.free h.1 h.2)) d.6

pub returns-clause-idle : goal.returns-clause-idle
returns-clause-idle g c = λ x held.
    let old = c.args.seat.now in
    (c.requires.steady.hand x (ap (λ (s : Seat). s.hand) old.at_work.seat_is ∙ (sym c.body_out.ensures.hand ∙ held))).idle

pub returns-clause-job : goal.returns-clause-job
returns-clause-job g c =
    let old = c.args.seat.now in
    let h = c.requires.in_hand in
    let d = c.in-Some.ensures.some in
    (d.1, sym (hand_waits old.seat.me.0.about.plan old.task old.hand h.0 c.args.factory c.requires.free h.1 h.2) ∙ d.4, c.in-Some.ensures.replies d.1 d.4, c.in-Some.ensures.given d.1 d.4)
