-- Nodes whose declared locks conflict never overlap.
use Rattle.std.proofs.Common.{◌≡◌, ℕ, List, inl, inr, ap, sym, subst}
use Rattle.std.proofs.lemmas.Bool.{cases_eq}
use Rattle.descriptor.specs.declared.lock_mode.LockMode.{LockMode}
use Rattle.descriptor.specs.declared.mode.Mode.{Mode}
use Rattle.descriptor.specs.declared.lock_mode.LockMode.TheVariants.{ReadWrite}
use Rattle.descriptor.specs.Nodes.{IsTree}
use Rattle.plan_events.specs.declared.event.Event.{Event}
use Rattle.plan_events.specs.declared.outcome.Reply.{Reply}
use Rattle.resource_locks.specs.Declarations.{declared_of, AtOrBelow}
use Rattle.resource_locks.specs.Wants.{HasLock}
use Rattle.resource_locks.proofs.Lines.{at_child}
use Rattle.resource_locks.specs.Hoisted.{IsHoisted, IsGuarded}
use Rattle.resource_locks.proofs.Guarded.{guarded}
use Rattle.resource_locks.specs.Plans.{PlanParts, held_of}
use Rattle.event_history.specs.Plans.{is_same_thread, IsPlanTree}
use Rattle.event_history.specs.History.{IsLegal}
use Rattle.event_history.specs.Order.{IsInOrder}
use Rattle.event_history.specs.Exclusion.{Overlaps, Excludes, DeclaredConflict, AreApart, IsExclusive}
use Rattle.event_history.proofs.Branches.{branches}
use Rattle.resource_locks.proofs.LockTrees.{lock_tree}
use Rattle.event_history.proofs.Spares.{plan_tree}
use Rattle.event_history.proofs.Serial.{overlaps_above, serial_branches}

-- where declared modes exclude each other, so do the held ones
held_excludes : (a b c d : LockMode) → (a ≡ ReadWrite → c ≡ ReadWrite) → (b ≡ ReadWrite → d ≡ ReadWrite) → Excludes a b → Excludes c d
held_excludes a b c d f g (inl q) = inl (f q)
held_excludes a b c d f g (inr q) = inr (g q)

module _ (p : PlanParts) (tree : IsPlanTree p.tree) (replies : ℕ → List Reply) (workers : ℕ) (h : List Event) (legal : IsLegal p replies workers h) (order : IsInOrder p h)
    (exclusive : IsExclusive p h) (guarded : IsGuarded (declared_of p.tree) p) where
  -- below one holder that writes, all run on one thread
  one_holder : (x m n : ℕ) (key : List ℕ) → HasLock (held_of p x) key ReadWrite → AtOrBelow p.tree x m → AtOrBelow p.tree x n → AreApart p.tree m n → Overlaps h m n → ⊥
  one_holder x m n key writes (inl s) xn apart o = apart.one (subst (λ (y : ℕ). AtOrBelow p.tree y n) s xn)
  one_holder x m n key writes (inr b) (inl s) apart o = apart.other (subst (λ (y : ℕ). AtOrBelow p.tree y m) s (inr b))
  one_holder x m n key writes (inr b) (inr d) apart o =
      let r = branches p tree x m n b d apart in
      serial_branches p tree replies workers h legal order x m n r
      (ap is_same_thread (guarded.forced x r.left key writes (at_child p.tree x r.top r.left r.within r.left_child)))
      (ap is_same_thread (guarded.forced x r.right key writes (at_child p.tree x r.top r.right r.within r.right_child))) o

  writer : (key : List ℕ) (x y : ℕ) (a b : LockMode) → x ≡ y → HasLock (held_of p x) key a → HasLock (held_of p y) key b → Excludes a b → HasLock (held_of p x) key ReadWrite
  writer key x y a b s l r (inl q) = subst (λ (m : LockMode). HasLock (held_of p x) key m) q l
  writer key x y a b s l r (inr q) = subst (λ (n : ℕ). HasLock (held_of p n) key ReadWrite) (sym s) (subst (λ (m : LockMode). HasLock (held_of p y) key m) q r)

  -- Two nodes, neither at or below the other, whose declared locks conflict never overlap.
  pub declared_apart : (m n : ℕ) → AreApart p.tree m n → DeclaredConflict p m n → Overlaps h m n → ⊥
  declared_apart m n apart d o =
      let x = guarded.holder m d.key d.mode d.declares in
      let y = guarded.holder n d.key d.other_mode d.other_declares in
      let excludes = held_excludes d.mode d.other_mode x.held_mode y.held_mode x.writes y.writes d.excludes in
      elim (cases_eq x.node y.node) [
        | inl s ↦ one_holder x.node m n d.key (writer d.key x.node y.node x.held_mode y.held_mode s x.holds y.holds excludes) x.above (subst (λ (z : ℕ). AtOrBelow p.tree z n) (sym s) y.above) apart o
        | inr ne ↦ exclusive x.node y.node ne
            (record { key = d.key; mode = x.held_mode; here = x.holds; other_mode = y.held_mode; there = y.holds; writes = excludes })
            (overlaps_above p tree replies workers h legal x.node y.node m n x.above y.above o)
      ]

-- Where the plan is hoisted, two nodes, neither at or below the other, whose declared locks conflict never overlap.
pub hoisted_apart : (p : PlanParts) (given : ℕ → Mode) (replies : ℕ → List Reply) (workers : ℕ) (h : List Event) → IsTree p.tree → IsHoisted (declared_of p.tree) given p
    → IsLegal p replies workers h → IsInOrder p h → IsExclusive p h → (m n : ℕ) → AreApart p.tree m n → DeclaredConflict p m n → Overlaps h m n → ⊥
hoisted_apart p given replies workers h tree hoisted legal order exclusive =
    declared_apart p (plan_tree p.tree tree) replies workers h legal order exclusive (guarded (declared_of p.tree) (lock_tree p.tree tree) given p hoisted)
