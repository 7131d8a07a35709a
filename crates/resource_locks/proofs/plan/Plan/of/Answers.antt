-- The plan that the walk down gives is hoisted, and each key that is held has a number.
use Rattle.std.proofs.Common.{◌≡◌, [], refl, sym, subst, map, get_or, arith}
use Rattle.std.proofs.lemmas.Grind.{common_steps}
use Rattle.descriptor.specs.declared.mode.Mode.TheVariants.{SameThread}
use Rattle.resource_locks.specs.Declarations.{declared_of}
use Rattle.resource_locks.specs.Hoisted.{IsHoisted, IsGuarded}
use Rattle.resource_locks.specs.Held.{plan_of}
use Rattle.resource_locks.specs.Plans.{PlanParts}
use Rattle.resource_locks.specs.Inside.PlanFields.{IsSound}
use Rattle.resource_locks.proofs.Engines.{engines_keep}
use Rattle.resource_locks.specs.Spares.{HasFreeSpares}
use Rattle.resource_locks.proofs.Hoists.{plan_is, plan_hoisted, plan_guarded, plan_sound}
use Rattle.resource_locks.proofs.Spares.{free_spares}
use Rattle.resource_locks.proofs.plan.Plan.of.Goals as goal

pub invariant_of-result : goal.invariant_of-result
invariant_of-result c =
    let none : c.new.result.items ≡ [] = grind (arith, common_steps) in
    let made = plan_is c.args.tree c.args.tree c.args.modes.items c.in-Ok.parts.modes.items c.in-Ok.parts.held.items c.in-Ok.parts.keys.items c.new.result.items refl c.in-Ok.ensures.modes c.in-Ok.ensures.held c.in-Ok.ensures.keys none in
    subst (λ (p : PlanParts). IsSound p (map (λ v. v.items) c.in-Ok.parts.numbers.items)) (sym made) (plan_sound c.args.tree c.in-Ok.ensures.tree c.args.modes.items c.requires (map (λ v. v.items) c.in-Ok.parts.numbers.items) c.in-Ok.ensures.few c.in-Ok.ensures.numbers)

pub returns-in-Ok-clause-hoisted : goal.returns-in-Ok-clause-hoisted
returns-in-Ok-clause-hoisted c =
    let none : c.new.result.items ≡ [] = grind (arith, common_steps) in
    let made = plan_is c.args.tree c.args.tree c.args.modes.items c.in-Ok.parts.modes.items c.in-Ok.parts.held.items c.in-Ok.parts.keys.items c.new.result.items refl c.in-Ok.ensures.modes c.in-Ok.ensures.held c.in-Ok.ensures.keys none in
    subst (λ (p : PlanParts). IsHoisted (declared_of c.args.tree) (λ n. get_or c.args.modes.items n SameThread) p) (sym made) (plan_hoisted c.args.tree c.in-Ok.ensures.tree c.args.modes.items c.requires)

pub returns-in-Ok-clause-guarded : goal.returns-in-Ok-clause-guarded
returns-in-Ok-clause-guarded c =
    let none : c.new.result.items ≡ [] = grind (arith, common_steps) in
    let made = plan_is c.args.tree c.args.tree c.args.modes.items c.in-Ok.parts.modes.items c.in-Ok.parts.held.items c.in-Ok.parts.keys.items c.new.result.items refl c.in-Ok.ensures.modes c.in-Ok.ensures.held c.in-Ok.ensures.keys none in
    subst (IsGuarded (declared_of c.args.tree)) (sym made) (plan_guarded c.args.tree c.in-Ok.ensures.tree c.args.modes.items c.requires)

pub returns-in-Ok-clause-engines : goal.returns-in-Ok-clause-engines
returns-in-Ok-clause-engines c e of_plan = engines_keep (declared_of c.args.tree) (λ n. get_or c.args.modes.items n SameThread) _ (returns-in-Ok-clause-hoisted c) e of_plan

pub returns-in-Ok-clause-free : goal.returns-in-Ok-clause-free
returns-in-Ok-clause-free c bare =
    let none : c.new.result.items ≡ [] = grind (arith, common_steps) in
    let made = plan_is c.args.tree c.args.tree c.args.modes.items c.in-Ok.parts.modes.items c.in-Ok.parts.held.items c.in-Ok.parts.keys.items c.new.result.items refl c.in-Ok.ensures.modes c.in-Ok.ensures.held c.in-Ok.ensures.keys none in
    let tree = c.in-Ok.ensures.tree in
    subst HasFreeSpares (sym made) (free_spares (plan_of c.args.tree c.args.modes.items) (λ n. get_or c.args.modes.items n SameThread) tree (plan_hoisted c.args.tree tree c.args.modes.items c.requires) bare)
