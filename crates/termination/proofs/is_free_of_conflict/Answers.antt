-- Two nodes are in the way of one another, or none are; and what then holds of the plan's runs.
use Rattle.std.proofs.Common.{◌≡◌, ℕ, ◌<◌, false, refl, sym, ◌∙◌, subst, arith}
use Rattle.std.proofs.lemmas.Bool.{false≢true}
use Rattle.std.proofs.lemmas.Grind.{common_steps}
use Rattle.descriptor.specs.Nodes.{size}
use Rattle.termination.specs.Inside.Branches.{IsKeptApartFrom, AreAllKeptApart}
use Rattle.termination.proofs.Free.{free_on_one, free_is, free_all, next_all}
use Rattle.termination.proofs.Short.{short}
use Rattle.termination.proofs.Ends.{ends}
use Rattle.termination.proofs.is_free_of_conflict.Goals as goal

pub returns-then-not-is_kept_apart-clause-free : goal.returns-then-not-is_kept_apart-clause-free
returns-then-not-is_kept_apart-clause-free c =
    let inside : c.loop-node.node < size c.args.plan.now.tree = grind (arith, common_steps) in
    let here : c.new.result ≡ c.loop-node.node = grind (arith, common_steps) in
    let found : c.is_kept_apart.result ≡ false = grind (arith, common_steps) in
    let met : IsKeptApartFrom c.args.plan.now c.loop-node.node c.loop-node.node → ⊥ = λ apart. false≢true (sym found ∙ c.is_kept_apart.ensures.1 (subst (λ (k : ℕ). IsKeptApartFrom c.args.plan.now k k) (sym here) apart)) in
    (λ t. absurd (false≢true t), λ free. absurd (met (free_all c.args.plan.now c.loop-node.node inside free)))

pub returns-then-not-is_kept_apart-clause-one_thread : goal.returns-then-not-is_kept_apart-clause-one_thread
returns-then-not-is_kept_apart-clause-one_thread c same =
    let inside : c.loop-node.node < size c.args.plan.now.tree = grind (arith, common_steps) in
    let here : c.new.result ≡ c.loop-node.node = grind (arith, common_steps) in
    let found : c.is_kept_apart.result ≡ false = grind (arith, common_steps) in
    let apart = free_all c.args.plan.now c.loop-node.node inside (free_on_one c.args.plan.now c.tree.ensures.plan same) in
    sym found ∙ c.is_kept_apart.ensures.1 (subst (λ (k : ℕ). IsKeptApartFrom c.args.plan.now k k) (sym here) apart)

pub returns-clause-free : goal.returns-clause-free
returns-clause-free c =
    let all : c.loop-node.node ≡ size c.args.plan.now.tree = grind (arith, common_steps) in
    (λ t. free_is c.args.plan.now (subst (AreAllKeptApart c.args.plan.now) all c.loop-node.invariant), λ free. refl)

pub returns-clause-short : goal.returns-clause-short
returns-clause-short c t =
    let all : c.loop-node.node ≡ size c.args.plan.now.tree = grind (arith, common_steps) in
    short c.args.plan.now c.tree.ensures.plan (free_is c.args.plan.now (subst (AreAllKeptApart c.args.plan.now) all c.loop-node.invariant))

pub returns-clause-ends : goal.returns-clause-ends
returns-clause-ends c t =
    let all : c.loop-node.node ≡ size c.args.plan.now.tree = grind (arith, common_steps) in
    ends c.args.plan.now c.tree.ensures.plan (free_is c.args.plan.now (subst (AreAllKeptApart c.args.plan.now) all c.loop-node.invariant))

pub loop-node-preserved : goal.loop-node-preserved
loop-node-preserved c =
    let here : c.new.result ≡ c.loop-node.node = grind (arith, common_steps) in
    next_all c.args.plan.now c.loop-node.node c.loop-node.invariant (subst (λ (k : ℕ). IsKeptApartFrom c.args.plan.now k k) here (c.is_kept_apart.ensures.0 c.if-not-is_kept_apart.false))
