-- Whoever is guarded by locks runs apart: what the locks and the order say, in terms of the tree alone.
use Rattle.std.proofs.Common.{◌≡◌, ℕ, ◌<◌, true, List, ◌⊎◌, inl, inr, sym, ap, ◌∙◌, subst, arith}
use Rattle.std.proofs.lemmas.Bool.{cases_eq}
use Rattle.descriptor.specs.declared.mode.Mode.{Mode}
use Rattle.descriptor.specs.declared.mode.Mode.TheVariants.{SameThread}
use Rattle.descriptor.specs.Nodes.{IsTree, IsChild, child, size, parent_of, is_isolated_at}
use Rattle.plan_events.specs.declared.event.Event.{Event}
use Rattle.plan_events.specs.declared.outcome.Reply.{Reply}
use Rattle.resource_locks.specs.Declarations.{declared_of, AtOrBelow, IsTop, IsDeep}
use Rattle.resource_locks.specs.Held.{top_of}
use Rattle.resource_locks.specs.Hoisted.{IsHoisted, IsGuarded}
use Rattle.resource_locks.specs.Plans.{PlanParts}
use Rattle.resource_locks.proofs.Engines.{engines_keep}
use Rattle.resource_locks.proofs.Guarded.{guarded}
use Rattle.resource_locks.proofs.Lines.{at_through}
use Rattle.resource_locks.proofs.Tops.{has_top, high, deep}
use Rattle.resource_locks.proofs.LockTrees.{lock_tree}
use Rattle.event_history.specs.Plans.{is_same_thread}
use Rattle.event_history.specs.Exclusion.{AreApart, Overlaps, IsExclusive}
use Rattle.event_history.specs.History.{IsLegal}
use Rattle.event_history.specs.Order.{IsInOrder}
use Rattle.event_history.specs.Apart.{OneAbove, EnginesInTurn, IsApart}
use Rattle.event_history.proofs.Branches.{at_cases, below_root}
use Rattle.event_history.proofs.Exclusion.{declared_apart}
use Rattle.event_history.proofs.Isolation.{isolated_alone, isolated_engine}
use Rattle.event_history.proofs.Spares.{plan_tree}

module _ (p : PlanParts) (tree : IsTree p.tree) (replies : ℕ → List Reply) (workers : ℕ) (h : List Event) (safe : IsGuarded (declared_of p.tree) p) (legal : IsLegal p replies workers h) (order : IsInOrder p h)
    (exclusive : IsExclusive p h) where
  -- what two nodes that are apart never do is done only where one is at or below the other
  one_above : (m n : ℕ) → (AreApart p.tree m n → ⊥) → OneAbove p.tree m n
  one_above m n no_way =
      elim (at_cases p (plan_tree p.tree tree) m n) [
        | inl a ↦ inl a
        | inr no_one ↦ elim (at_cases p (plan_tree p.tree tree) n m) [ inl b ↦ inr b | inr no_other ↦ absurd (no_way (record { one = no_one; other = no_other })) ]
      ]

  inside : (m n : ℕ) → Overlaps h m n → n < size p.tree
  inside m n o = subst (λ (x : ℕ). x < size p.tree) o.other_start.node (legal.nodes o.other_place o.other_start.event o.other_start.here)

  is_deep : (m : ℕ) → is_isolated_at p.tree m ≡ true → IsDeep p.tree m
  is_deep m isolated = (lock_tree p.tree tree).isolated m isolated

  top_above : (n : ℕ) → IsDeep p.tree n → (c : ℕ) × (IsTop p.tree c × AtOrBelow p.tree c n)
  top_above n d =
      elim (has_top p.tree (lock_tree p.tree tree).rooted n d.inside) [
        | high z r ↦ absurd (elim r [ inl a ↦ (let pos = d.above_zero in omega (arith, pos, a)) | inr a ↦ d.parent a ])
        | deep top at ↦ (top_of p.tree n, (top, at))
      ]

  plan_above : (m n : ℕ) → IsDeep p.tree m → n ≡ 0 → OneAbove p.tree m n
  plan_above m n d z = inr (subst (λ (x : ℕ). AtOrBelow p.tree x m) (sym z) (inr (below_root p (plan_tree p.tree tree) m d.above_zero d.inside)))

  -- an isolated node and a node that is deeper than an engine
  deeper : (m n : ℕ) → is_isolated_at p.tree m ≡ true → IsDeep p.tree n → Overlaps h m n → OneAbove p.tree m n
  deeper m n isolated d o =
      let top = top_above n d in
      one_above m n (λ a. isolated_alone p (plan_tree p.tree tree) replies workers h legal order exclusive safe m n top.0 isolated top.1.0 top.1.1 a o)

  -- and an engine, where engines run on the thread of the plan
  engine : EnginesInTurn p → (m n : ℕ) → IsDeep p.tree m → IsChild p.tree 0 n → Overlaps h m n → OneAbove p.tree m n
  engine turns m n d child_n o =
      let top = top_above m d in
      let at : AtOrBelow p.tree top.1.0.engine m = at_through p.tree top.1.0.engine top.0 m (inr (child top.1.0.child)) top.1.1 in
      elim (cases_eq top.1.0.engine n) [
        | inl e ↦ inr (subst (λ (x : ℕ). AtOrBelow p.tree x m) e at)
        | inr ne ↦ absurd (isolated_engine p (plan_tree p.tree tree) replies workers h legal order m top.1.0.engine n top.1.0.of_plan child_n ne (turns top.1.0.engine top.1.0.of_plan) (turns n child_n) at o)
      ]

  isolated_or_engine : (m n : ℕ) → is_isolated_at p.tree m ≡ true → Overlaps h m n → OneAbove p.tree m n ⊎ IsChild p.tree 0 n
  isolated_or_engine m n isolated o =
      elim (cases_eq n 0) [
        | inl z ↦ inl (plan_above m n (is_deep m isolated) z)
        | inr nz ↦ elim (cases_eq (parent_of p.tree n) 0) [
          | inl e ↦ inr (record { above_zero = omega (arith, nz); inside = inside m n o; parent = e })
          | inr ne ↦ inl (deeper m n isolated (record { above_zero = omega (arith, nz); inside = inside m n o; parent = ne }) o)
        ]
      ]

  pub apart : IsApart p h
  apart = record {
    locks = λ m n d o. one_above m n (λ a. declared_apart p (plan_tree p.tree tree) replies workers h legal order exclusive safe m n a d o);
    isolated = isolated_or_engine;
    alone = λ turns m n isolated o. elim (isolated_or_engine m n isolated o) [ inl r ↦ r | inr c ↦ engine turns m n (is_deep m isolated) c o ];
  }

-- A hoisted plan is guarded.
pub hoisted_is_apart : (p : PlanParts) → IsTree p.tree → (given : ℕ → Mode) → IsHoisted (declared_of p.tree) given p → (replies : ℕ → List Reply) (workers : ℕ) (h : List Event)
    → IsLegal p replies workers h → IsInOrder p h → IsExclusive p h → IsApart p h
hoisted_is_apart p tree given hoisted replies workers h = apart p tree replies workers h (guarded (declared_of p.tree) (lock_tree p.tree tree) given p hoisted)

-- And in it engines run on the thread of the plan, where that is the mode that they are given.
pub engines_in_turn : (p : PlanParts) (given : ℕ → Mode) → IsHoisted (declared_of p.tree) given p → ((e : ℕ) → IsChild p.tree 0 e → given e ≡ SameThread) → EnginesInTurn p
engines_in_turn p given hoisted same e c = ap is_same_thread (engines_keep (declared_of p.tree) given p hoisted e c ∙ same e c)
