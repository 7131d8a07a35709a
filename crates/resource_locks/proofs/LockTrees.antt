-- What the nodes of a tree declare is what hoisting asks for.
use Rattle.std.proofs.Common.{◌≢◌, ℕ, zero, suc, ◌<◌, None, inl, inr, refl, sym, ap, ◌∙◌, arith}
use Rattle.std.proofs.lemmas.Bool.{cases_lt, false≢true}
use Rattle.std.proofs.lemmas.Option.{slice_get_past}
use Rattle.descriptor.specs.Nodes.{Nodes, IsTree, IsChild, size, node_at, locks_or, isolated_or}
use Rattle.resource_locks.specs.Declarations.{declared_of, IsDeep, IsLockTree}

-- a node of which something is told, and which is no engine
told_deep : (t : Nodes) → IsTree t → (n : ℕ) → node_at t n ≢ None → (IsChild t 0 n → ⊥) → IsDeep t n
told_deep t tree zero told deep = absurd (told refl)
told_deep t tree (suc m) told deep =
    let inside : suc m < size t =
    elim (cases_lt (suc m) (size t)) [
      | inl lt ↦ lt
      | inr past ↦ absurd (told (slice_get_past t.nodes m (let len = tree.nodes_len in omega (arith, len, past))))
    ] in
    record { above_zero = omega arith; inside = inside; parent = λ z. deep (record { above_zero = omega arith; inside = inside; parent = z }) }

pub lock_tree : (t : Nodes) → IsTree t → IsLockTree (declared_of t)
lock_tree t tree = record {
  rooted = record { root = tree.root; up = tree.up };
  locked = λ n ne. told_deep t tree n (λ none. ne (ap locks_or none)) (λ c. ne (tree.engines n c).no_locks);
  isolated = λ n e. told_deep t tree n (λ none. false≢true (sym (ap isolated_or none) ∙ e)) (λ c. false≢true (sym (tree.engines n c).not_isolated ∙ e));
}
