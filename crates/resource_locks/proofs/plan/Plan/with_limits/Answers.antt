-- The plan is the one with these limits; and what holds of it.
use Rattle.std.proofs.Common.{◌∙◌, ap, sym, subst, map}
use Rattle.resource_locks.specs.Declarations.{declared_of}
use Rattle.resource_locks.specs.Hoisted.{IsHoisted, IsGuarded}
use Rattle.resource_locks.specs.Inside.PlanFields.{IsSound}
use Rattle.resource_locks.specs.Limits.{limit_given, with_limits, modes_with, IsLimited}
use Rattle.resource_locks.specs.Plans.{PlanParts}
use Rattle.resource_locks.proofs.Limited.{limits_are, unlimited_global, is_limited, hoisted_limited, guarded_limited, limited_sound}
use Rattle.resource_locks.proofs.plan.Plan.with_limits.Goals as goal

pub invariant_of-plan : goal.invariant_of-plan
invariant_of-plan c =
    let made = limits_are (λ v. v.items) _ c.self.inside.numbers.items c.deref-3.result.now c.args.given.now c.deref.result.now c.in_ok-limits.limits.items c.deref-2.result.now c.in_ok-modes.modes.items c.deref-4.result.now c.self.invariant
    c.deref.ensures.value c.in_ok-limits.ensures c.deref-2.ensures.value c.deref-3.ensures.value c.deref-4.ensures.value c.in_ok-modes.ensures in
    subst (λ (p : PlanParts). IsSound p (map (λ v. v.items) c.self.inside.numbers.items)) (sym made)
    (limited_sound _ c.self.invariant.plan _ (map (λ v. v.items) c.self.inside.numbers.items) (unlimited_global c.args.given.now c.self.inside.keys.items) c.self.invariant.numbers)

pub returns-clause-same : goal.returns-clause-same
returns-clause-same c =
    limits_are (λ v. v.items) _ c.self.inside.numbers.items c.deref-3.result.now c.args.given.now c.deref.result.now c.in_ok-limits.limits.items c.deref-2.result.now c.in_ok-modes.modes.items c.deref-4.result.now c.self.invariant
    c.deref.ensures.value c.in_ok-limits.ensures c.deref-2.ensures.value c.deref-3.ensures.value c.deref-4.ensures.value c.in_ok-modes.ensures
    ∙ ap (λ (p : PlanParts). with_limits p c.args.given.now) c.self.view_is

pub returns-clause-limited : goal.returns-clause-limited
returns-clause-limited c =
    let sound = subst (λ (p : PlanParts). IsSound p (map (λ v. v.items) c.self.inside.numbers.items)) c.self.view_is c.self.invariant in
    subst (λ (p : PlanParts). IsLimited c.args.self p) (sym (returns-clause-same c)) (is_limited c.args.self sound.plan (map (limit_given c.args.given.now) c.args.self.keys))

pub returns-clause-hoisted : goal.returns-clause-hoisted
returns-clause-hoisted c =
    λ modes h.
    let sound = subst (λ (p : PlanParts). IsSound p (map (λ v. v.items) c.self.inside.numbers.items)) c.self.view_is c.self.invariant in
    subst (λ (p : PlanParts). IsHoisted (declared_of c.args.self.tree) (modes_with c.args.self p.limits modes) p) (sym (returns-clause-same c)) (hoisted_limited c.args.self sound.plan (map (limit_given c.args.given.now) c.args.self.keys) modes h)

pub returns-clause-guarded : goal.returns-clause-guarded
returns-clause-guarded c =
    λ h.
    let sound = subst (λ (p : PlanParts). IsSound p (map (λ v. v.items) c.self.inside.numbers.items)) c.self.view_is c.self.invariant in
    subst (IsGuarded (declared_of c.args.self.tree)) (sym (returns-clause-same c)) (guarded_limited c.args.self sound.plan (map (limit_given c.args.given.now) c.args.self.keys) h)
