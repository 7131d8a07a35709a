-- What the code counts at the start is what is outstanding at the start.
use Rattle.std.proofs.Common.{◌≡◌, ◌∙◌, ℕ, ◌+◌, Bool, true, false, ◌&&◌, not, cond, length, refl, sym, ap, arith, inl, inr}
use Rattle.std.proofs.lemmas.Bool.{cases_Bool}
use Rattle.descriptor.specs.Nodes.{IsTree, size, children_of, is_child, is_spare_at, is_factory_at}
use Rattle.descriptor.proofs.Children.{children_counted}
use Rattle.resource_locks.specs.Held.{table}
use Rattle.resource_locks.specs.Plans.{PlanParts}
use Rattle.resource_locks.proofs.Turns.{table_is}
use Rattle.event_history.proofs.Trees.{is_child_test}
use Rattle.scheduling.specs.Runs.{first_counter}
use Rattle.scheduling.specs.Inside.Start.{guard_and_children}
use Rattle.scheduling.proofs.Basics.{count_same}
use Rattle.scheduling.proofs.Spares.{count_zero}
use Rattle.scheduling.proofs.FirstState.{each_length, each_at}

-- a factory's children are spares, and no others are
counter_is : (p : PlanParts) → IsTree p.tree → (n : ℕ) → guard_and_children p.tree n ≡ first_counter p n
counter_is p tree n = go (is_factory_at p.tree n) refl
  where
    go : (factory : Bool) → is_factory_at p.tree n ≡ factory → cond factory 1 (length (children_of p.tree n) + 1) ≡ first_counter p n
    go true is =
        let none = count_same (λ c. is_child p.tree n c && not (is_spare_at p.tree c)) (λ c. false) (size p.tree) (λ c lt. elim (cases_Bool (is_child p.tree n c)) [
          | inl child ↦ ap (λ (b : Bool). b && not (is_spare_at p.tree c)) child ∙ ap not (tree.spares n c (is_child_test p.tree n c lt child) ∙ is)
          | inr other ↦ ap (λ (b : Bool). b && not (is_spare_at p.tree c)) other
        ]) in
        let zero' = count_zero (λ (c : ℕ). false) (size p.tree) (λ c lt. refl) in
        omega (arith, none, zero')
    go false is =
        let all = count_same (λ c. is_child p.tree n c && not (is_spare_at p.tree c)) (is_child p.tree n) (size p.tree) (λ c lt. elim (cases_Bool (is_child p.tree n c)) [
          | inl child ↦ ap (λ (b : Bool). b && not (is_spare_at p.tree c)) child ∙ ap not (tree.spares n c (is_child_test p.tree n c lt child) ∙ is) ∙ sym child
          | inr other ↦ ap (λ (b : Bool). b && not (is_spare_at p.tree c)) other ∙ sym other
        ]) in
        let counted = children_counted p.tree n in
        omega (arith, all, counted)

pub counters_are : (p : PlanParts) → IsTree p.tree → table (guard_and_children p.tree) (size p.tree) ≡ table (first_counter p) (size p.tree)
counters_are p tree = table_is (first_counter p) 0 (size p.tree) (table (guard_and_children p.tree) (size p.tree)) (each_length (guard_and_children p.tree) (size p.tree)) (λ k lt. each_at (guard_and_children p.tree) 0 (size p.tree) k lt ∙ counter_is p tree k)
