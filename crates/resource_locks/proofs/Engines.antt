-- The plan holds nothing, so its children, the engines, keep the mode that they were given.
use Rattle.std.proofs.Common.{◌≡◌, ℕ, List, inl, inr, ◌∙◌, arith}
use Rattle.descriptor.specs.declared.lock_mode.LockMode.{LockMode}
use Rattle.descriptor.specs.declared.lock_mode.LockMode.TheVariants.{ReadWrite}
use Rattle.descriptor.specs.declared.mode.Mode.{Mode}
use Rattle.descriptor.specs.Nodes.{IsChild, parent_of}
use Rattle.resource_locks.specs.Declarations.{Declared, IsToHold, isolated_all, global_read, first}
use Rattle.resource_locks.specs.Hoisted.{IsHoisted}
use Rattle.resource_locks.specs.Plans.{PlanParts, mode_of}
use Rattle.resource_locks.proofs.Lines.{last_step}

module _ (told : Declared) (given : ℕ → Mode) (p : PlanParts) (hoisted : IsHoisted told given p) where
  plan_holds : (n : ℕ) (key : List ℕ) (mode : LockMode) → n ≡ 0 → IsToHold told n key mode → ⊥
  plan_holds n key mode z (isolated_all top has what) = (let pos = top.child.above_zero in omega (arith, pos, z))
  plan_holds n key mode z (global_read top none k r) = (let pos = top.child.above_zero in omega (arith, pos, z))
  plan_holds n key mode z (first c top none (inl e) f within) = (let pos = top.child.above_zero in omega (arith, pos, e, z))
  plan_holds n key mode z (first c top none (inr b) f within) = (let pos = (last_step told.tree c n b).0.above_zero in omega (arith, pos, z))

  pub engines_keep : (e : ℕ) → IsChild told.tree 0 e → mode_of p e ≡ given e
  engines_keep e c =
      hoisted.free e (λ a key holds b. elim (last_step told.tree a e b).1 [
        | inl up ↦ plan_holds a key ReadWrite (up ∙ c.parent) (hoisted.only a key ReadWrite holds)
        | inr more ↦ (let pos = (last_step told.tree a (parent_of told.tree e) more).0.above_zero in let z : parent_of told.tree e ≡ 0 = c.parent in omega (arith, pos, z))
      ])
