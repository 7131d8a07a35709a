-- Of a node and one below it neither writes a key that both hold, where locks are hoisted.
use Rattle.std.proofs.Common.{◌≡◌, ℕ, List, inl, inr, refl, sym, ◌∙◌, subst}
use Rattle.descriptor.specs.Nodes.{Below}
use Rattle.descriptor.specs.declared.lock_mode.LockMode.{LockMode}
use Rattle.descriptor.specs.declared.lock_mode.LockMode.TheVariants.{Read, ReadWrite}
use Rattle.descriptor.specs.declared.mode.Mode.{Mode}
use Rattle.resource_locks.specs.Wants.{HasLock}
use Rattle.resource_locks.specs.Declarations.{Declared, global, AtOrBelow, IsTop, IsRooted, HasIsolated, DeclaredWithin, IsToHold, isolated_all, global_read, first}
use Rattle.resource_locks.specs.Hoisted.{IsHoisted}
use Rattle.resource_locks.specs.Plans.{PlanParts, held_of}
use Rattle.resource_locks.proofs.Lines.{below_through, at_through, last_step}
use Rattle.resource_locks.proofs.Tops.{below_top, top_is}

module _ (told : Declared) (rooted : IsRooted told.tree) where
  -- a child of an engine is below no other
  no_tops : (a n : ℕ) → IsTop told.tree a → IsTop told.tree n → Below told.tree a n → ⊥
  no_tops a n top low below =
      let at : AtOrBelow told.tree a low.engine = subst (AtOrBelow told.tree a) low.child.parent (last_step told.tree a n below).1 in
      (below_top told.tree rooted a low.engine top at).1 low.of_plan.parent

  one_top : (a c n : ℕ) → IsTop told.tree a → IsTop told.tree c → Below told.tree a n → AtOrBelow told.tree c n → a ≡ c
  one_top a c n top other below at = sym (top_is told.tree rooted a n top (inr below)) ∙ top_is told.tree rooted c n other at

  no_top_below : (a n c : ℕ) → IsTop told.tree n → IsTop told.tree c → Below told.tree a n → AtOrBelow told.tree c a → ⊥
  no_top_below a n c low top below at = no_tops c n top low (deep at)
    where
      deep : AtOrBelow told.tree c a → Below told.tree c n
      deep (inl e) = subst (λ (y : ℕ). Below told.tree y n) (sym e) below
      deep (inr d) = below_through told.tree c a n d below

  to_hold_lines : (a n : ℕ) (key : List ℕ) (m m2 : LockMode) → Below told.tree a n → IsToHold told a key m → IsToHold told n key m2 → (m ≡ Read) × (m2 ≡ Read)
  to_hold_lines a n key m m2 below (isolated_all top whole x) (isolated_all top2 whole2 y) = absurd (no_tops a n top top2 below)
  to_hold_lines a n key m m2 below (isolated_all top whole x) (global_read top2 light k q) = absurd (no_tops a n top top2 below)
  to_hold_lines a n key m m2 below (isolated_all top whole x) (first c top2 light at f within) = absurd (light (subst (HasIsolated told) (one_top a c n top top2 below at) whole))
  to_hold_lines a n key m m2 below (global_read top light k q) (isolated_all top2 whole2 y) = absurd (no_tops a n top top2 below)
  to_hold_lines a n key m m2 below (global_read top light k q) (global_read top2 light2 k2 q2) = absurd (no_tops a n top top2 below)
  to_hold_lines a n key m m2 below (global_read top light k q) (first c top2 light2 at f within) = (q, read m2 within)
    where
      read : (m2 : LockMode) → DeclaredWithin told n key m2 → m2 ≡ Read
      read Read w = refl
      read ReadWrite w = absurd (light (w.0, (at_through told.tree a n w.0 (inr below) w.1.0, inr (subst (λ (y : List ℕ). HasLock (told.locks w.0) y ReadWrite) k w.1.1))))
  to_hold_lines a n key m m2 below (first c top light at f within) (isolated_all top2 whole2 y) = absurd (no_top_below a n c top2 top below at)
  to_hold_lines a n key m m2 below (first c top light at f within) (global_read top2 light2 k q) = absurd (no_top_below a n c top2 top below at)
  to_hold_lines a n key m m2 below (first c top light at f within) (first c2 top2 light2 at2 f2 within2) = absurd (f.declares (f2.none_above a below))

  -- above a node that is to hold a key, a node is to hold the global one in READ at most
  to_hold_layers : (a n : ℕ) (key other : List ℕ) (m m2 : LockMode) → Below told.tree a n → IsToHold told a key m → IsToHold told n other m2 → (key ≡ global) × (m ≡ Read)
  to_hold_layers a n key other m m2 below (isolated_all top whole x) (isolated_all top2 whole2 y) = absurd (no_tops a n top top2 below)
  to_hold_layers a n key other m m2 below (isolated_all top whole x) (global_read top2 light k q) = absurd (no_tops a n top top2 below)
  to_hold_layers a n key other m m2 below (isolated_all top whole x) (first c top2 light at f within) = absurd (light (subst (HasIsolated told) (one_top a c n top top2 below at) whole))
  to_hold_layers a n key other m m2 below (global_read top light k q) (isolated_all top2 whole2 y) = absurd (no_tops a n top top2 below)
  to_hold_layers a n key other m m2 below (global_read top light k q) (global_read top2 light2 k2 q2) = absurd (no_tops a n top top2 below)
  to_hold_layers a n key other m m2 below (global_read top light k q) (first c top2 light2 at f within) = (k, q)
  to_hold_layers a n key other m m2 below (first c top light at f within) (isolated_all top2 whole2 y) = absurd (no_top_below a n c top2 top below at)
  to_hold_layers a n key other m m2 below (first c top light at f within) (global_read top2 light2 k q) = absurd (no_top_below a n c top2 top below at)
  to_hold_layers a n key other m m2 below (first c top light at f within) (first c2 top2 light2 at2 f2 within2) = absurd (f.declares (f2.none_above a below))

  pub hoisted_layers : (given : ℕ → Mode) (h : PlanParts) → IsHoisted told given h → (a n : ℕ) (key other : List ℕ) (m m2 : LockMode) → Below told.tree a n → HasLock (held_of h a) key m → HasLock (held_of h n) other m2 → (key ≡ global) × (m ≡ Read)
  hoisted_layers given h hoisted a n key other m m2 below x y = to_hold_layers a n key other m m2 below (hoisted.only a key m x) (hoisted.only n other m2 y)

  pub hoisted_lines : (given : ℕ → Mode) (h : PlanParts) → IsHoisted told given h → (a n : ℕ) (key : List ℕ) (m m2 : LockMode) → Below told.tree a n → HasLock (held_of h a) key m → HasLock (held_of h n) key m2 → (m ≡ Read) × (m2 ≡ Read)
  hoisted_lines given h hoisted a n key m m2 below x y = to_hold_lines a n key m m2 below (hoisted.only a key m x) (hoisted.only n key m2 y)
