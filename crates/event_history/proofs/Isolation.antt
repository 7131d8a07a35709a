-- An isolated node runs alone.
use Rattle.std.proofs.Common.{◌≡◌, ◌≢◌, ℕ, true, List, inl, inr, refl}
use Rattle.descriptor.specs.Nodes.{IsChild, is_isolated_at}
use Rattle.descriptor.specs.declared.lock_mode.LockMode.TheVariants.{Read, ReadWrite}
use Rattle.plan_events.specs.declared.event.Event.{Event}
use Rattle.plan_events.specs.declared.outcome.Reply.{Reply}
use Rattle.resource_locks.specs.Declarations.{declared_of, AtOrBelow, global, IsTop}
use Rattle.resource_locks.specs.Hoisted.{IsGuarded}
use Rattle.resource_locks.specs.Plans.{PlanParts}
use Rattle.event_history.specs.Plans.{is_same, IsPlanTree}
use Rattle.event_history.specs.History.{IsLegal}
use Rattle.event_history.specs.Order.{IsInOrder}
use Rattle.event_history.specs.Exclusion.{AreApart, Overlaps, IsExclusive}
use Rattle.event_history.proofs.Exclusion.{declared_apart}
use Rattle.event_history.proofs.Serial.{serial_branches}

module _ (p : PlanParts) (tree : IsPlanTree p.tree) (replies : ℕ → List Reply) (workers : ℕ) (h : List Event) (legal : IsLegal p replies workers h) (order : IsInOrder p h) where
  -- An isolated node overlaps no node below an engine but those above and below it.
  pub isolated_alone : IsExclusive p h → IsGuarded (declared_of p.tree) p → (m n c : ℕ) → is_isolated_at p.tree m ≡ true → IsTop p.tree c → AtOrBelow p.tree c n → AreApart p.tree m n → Overlaps h m n → ⊥
  isolated_alone exclusive guarded m n c isolated top below apart o =
      declared_apart p tree replies workers h legal order exclusive guarded m n apart
      (record {
        key = global;
        mode = ReadWrite;
        declares = (m, (inl refl, inr (inl (isolated, refl, refl))));
        other_mode = Read;
        other_declares = (n, (inl refl, inr (inr ((c, top, below), refl, refl))));
        excludes = inl refl;
      }) o

  -- And where engines run on the plan's thread, it overlaps no other engine.
  pub isolated_engine : (m e d : ℕ) → IsChild p.tree 0 e → IsChild p.tree 0 d → e ≢ d → is_same p e ≡ true → is_same p d ≡ true → AtOrBelow p.tree e m → Overlaps h m d → ⊥
  isolated_engine m e d ce cd differ same other em o =
      serial_branches p tree replies workers h legal order 0 m d
      (record { top = 0; left = e; right = d; left_child = ce; right_child = cd; differ = differ; at_left = em; at_right = inl refl; within = inl refl }) same other o
