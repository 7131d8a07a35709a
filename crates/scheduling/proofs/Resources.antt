-- What a hoisted plan keeps apart, whatever steps are taken.
use Rattle.std.proofs.Common.{◌≡◌, ◌≢◌, ℕ, ◌≤◌, true, List}
use Rattle.descriptor.specs.declared.mode.Mode.{Mode}
use Rattle.descriptor.specs.Nodes.{IsTree, IsChild, is_isolated_at}
use Rattle.plan_events.specs.declared.outcome.Reply.{Reply}
use Rattle.resource_locks.specs.Declarations.{declared_of, AtOrBelow, IsTop}
use Rattle.resource_locks.specs.Hoisted.{IsHoisted}
use Rattle.resource_locks.proofs.Guarded.{guarded}
use Rattle.resource_locks.specs.Plans.{PlanParts}
use Rattle.event_history.specs.Plans.{is_same}
use Rattle.event_history.specs.Exclusion.{AreApart, DeclaredConflict, Overlaps}
use Rattle.event_history.proofs.Exclusion.{hoisted_apart}
use Rattle.event_history.proofs.Isolation.{isolated_alone, isolated_engine}
use Rattle.resource_locks.proofs.LockTrees.{lock_tree}
use Rattle.event_history.proofs.Spares.{plan_tree}
use Rattle.scheduling.specs.Rows.{Step}
use Rattle.scheduling.specs.Runs.{opening, AllReplied, run, IsRight}
use Rattle.scheduling.proofs.Headline.{headline}

module _ (p : PlanParts) (tree : IsTree p.tree) (replies : ℕ → List Reply) (workers : ℕ) (few : workers ≤ 64) (list : List Step) (replied : AllReplied p replies (opening p workers) list) where
  right : IsRight p replies workers (run p (opening p workers) list)
  right = headline p tree replies workers few list replied

  -- Two nodes, neither at or below the other, whose declared locks conflict never overlap.
  pub run_apart : (given : ℕ → Mode) → IsHoisted (declared_of p.tree) given p → (m n : ℕ) → AreApart p.tree m n → DeclaredConflict p m n
      → Overlaps (run p (opening p workers) list).published m n → ⊥
  run_apart given hoisted = hoisted_apart p given replies workers (run p (opening p workers) list).published tree hoisted right.legal right.order right.exclusive

  -- An isolated node overlaps no node below an engine but those above and below it.
  pub run_isolated : (given : ℕ → Mode) → IsHoisted (declared_of p.tree) given p → (m n c : ℕ) → is_isolated_at p.tree m ≡ true → IsTop p.tree c → AtOrBelow p.tree c n → AreApart p.tree m n
      → Overlaps (run p (opening p workers) list).published m n → ⊥
  run_isolated given hoisted =
      isolated_alone p (plan_tree p.tree tree) replies workers (run p (opening p workers) list).published right.legal right.order right.exclusive
      (guarded (declared_of p.tree) (lock_tree p.tree tree) given p hoisted)

  -- And where engines run on the plan's thread, what is at or below one overlaps no other.
  pub run_engines : (m e d : ℕ) → IsChild p.tree 0 e → IsChild p.tree 0 d → e ≢ d → is_same p e ≡ true → is_same p d ≡ true → AtOrBelow p.tree e m
      → Overlaps (run p (opening p workers) list).published m d → ⊥
  run_engines = isolated_engine p (plan_tree p.tree tree) replies workers (run p (opening p workers) list).published right.legal right.order
