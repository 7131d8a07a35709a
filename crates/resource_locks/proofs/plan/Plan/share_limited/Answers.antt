-- The numbers of the keys tell whether two nodes have one.
use Rattle.std.proofs.Common.{◌≡◌, ◌∙◌, ap, sym, subst, map, get_or, arith}
use Rattle.std.proofs.lemmas.Grind.{common_steps}
use Rattle.resource_locks.specs.Inside.PlanFields.{IsSound}
use Rattle.resource_locks.specs.Limits.{share_numbers}
use Rattle.resource_locks.specs.Plans.{PlanParts, numbers_of, held_of}
use Rattle.resource_locks.proofs.Limited.{share_is, is_shared}
use Rattle.resource_locks.proofs.Plans.{at_node}
use Rattle.resource_locks.proofs.plan.Plan.share_limited.Goals as goal

pub returns : goal.returns
returns c =
    let sound = subst (λ (p : PlanParts). IsSound p (map (λ v. v.items) c.self.inside.numbers.items)) c.self.view_is c.self.invariant in
    let first : c.index-2.result.now ≡ get_or c.self.inside.numbers.items c.args.one c.index-2.result.now = grind (arith, common_steps) in
    let second : c.index-4.result.now ≡ get_or c.self.inside.numbers.items c.args.other c.index-4.result.now = grind (arith, common_steps) in
    let one = at_node (λ v. v.items) c.args.self.now c.self.inside.numbers.items sound c.args.one c.index-2.result.now c.requires.one first in
    let other = at_node (λ v. v.items) c.args.self.now c.self.inside.numbers.items sound c.args.other c.index-4.result.now c.requires.other second in
    let limits : c.deref.result.now ≡ c.args.self.now.limits = c.deref.ensures.value ∙ ap (λ (p : PlanParts). p.limits) c.self.view_is in
    let is : c.share_limited.result ≡ share_numbers c.args.self.now.limits (numbers_of c.args.self.now.keys (held_of c.args.self.now c.args.one)) (numbers_of c.args.self.now.keys (held_of c.args.self.now c.args.other)) =
    c.share_limited.ensures ∙ (λ i. share_numbers (limits i) ((c.deref-2.ensures.value ∙ one) i) ((c.deref-3.ensures.value ∙ other) i)) in (
      λ t. share_is c.args.self.now sound.plan c.args.one c.args.other (sym is ∙ t),
      λ s. is ∙ is_shared c.args.self.now sound.plan c.args.one c.args.other s,
    )
