-- The number stands where the lock does.
use Rattle.std.proofs.Common.{◌≡◌, ◌<◌, ◌∙◌, ap, sym, subst, arith, get_or, length, map, List, ℕ}
use Rattle.std.proofs.lemmas.Grind.{common_steps}
use Rattle.resource_locks.specs.Plans.{PlanParts}
use Rattle.resource_locks.specs.Inside.PlanFields.{IsSound}
use Rattle.resource_locks.proofs.Plans.{at_node, as_many_at, number_inside}
use Rattle.resource_locks.proofs.plan.Plan.key_number.Goals as goal

pub index-requires-3 : goal.index-requires-3
index-requires-3 c =
    let sound = subst (λ (p : PlanParts). IsSound p (map (λ v. v.items) c.self.inside.numbers.items)) c.self.view_is c.self.invariant in
    let at : c.index-2.result.now ≡ get_or c.self.inside.numbers.items c.args.node c.index-2.result.now = grind (arith, common_steps) in
    let many = as_many_at (λ v. v.items) c.args.self.now c.self.inside.numbers.items sound c.args.node c.index-2.result.now c.requires.node at in
    let place = c.requires.place in
    grind (arith, common_steps)

pub returns-clause-value : goal.returns-clause-value
returns-clause-value c =
    let sound = subst (λ (p : PlanParts). IsSound p (map (λ v. v.items) c.self.inside.numbers.items)) c.self.view_is c.self.invariant in
    let at : c.index-2.result.now ≡ get_or c.self.inside.numbers.items c.args.node c.index-2.result.now = grind (arith, common_steps) in
    let is = at_node (λ v. v.items) c.args.self.now c.self.inside.numbers.items sound c.args.node c.index-2.result.now c.requires.node at in
    let many = as_many_at (λ v. v.items) c.args.self.now c.self.inside.numbers.items sound c.args.node c.index-2.result.now c.requires.node at in
    let place = c.requires.place in
    let read : c.from.result ≡ get_or c.index-2.result.now.items c.args.place 0 = grind (arith, common_steps) in
    read ∙ ap (λ (l : List ℕ). get_or l c.args.place 0) is

pub returns-clause-inside : goal.returns-clause-inside
returns-clause-inside c =
    let sound = subst (λ (p : PlanParts). IsSound p (map (λ v. v.items) c.self.inside.numbers.items)) c.self.view_is c.self.invariant in
    subst (λ (x : ℕ). x < length c.args.self.now.keys) (sym (returns-clause-value c)) (number_inside c.args.self.now sound.plan c.args.node c.args.place c.requires.place)
