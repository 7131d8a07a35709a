-- Where no spare declares a lock and no engine is a factory, that is so of what is selected too.
use Rattle.std.proofs.Common.{◌≡◌, ℕ, zero, suc, ◌<◌, Bool, true, false, List, [], Option, Some, None, refl, sym, ap, ◌∙◌, subst, arith, inl, inr}
use Rattle.std.proofs.lemmas.Bool.{cases_lt, false≢true}
use Rattle.std.proofs.lemmas.Option.{slice_get_past}
use Rattle.descriptor.specs.Nodes.{Nodes, IsTree, IsChild, size, parent_of, node_at, role_or, locks_or, is_spare_at, is_factory_at, locks_of}
use Rattle.descriptor.specs.Pruned.{IsClosed, KeepsNodes, pruned, is_kept, new_number}
use Rattle.descriptor.specs.Roles.{is_spare, is_factory}
use Rattle.descriptor.proofs.Pruning.{kept_at_end, tree_at_end}
use Rattle.resource_locks.specs.Spares.{HasBareSpares}
use Rattle.selectors.specs.declared.request.Request.{Request}
use Rattle.selectors.specs.Covered.{truths}
use Rattle.selectors.specs.Keeping.{stays, is_taken, is_above}
use Rattle.selectors.specs.Selections.{is_selected, selection, dealt, answer}
use Rattle.selectors.specs.Shards.{Part, is_unit_of, shard_or_all}
use Rattle.selectors.proofs.Answer.{closed, kept_of}
use Rattle.tree_orders.specs.Orders.{seeded_or_same}
use Rattle.tree_orders.proofs.SeededTree.{node_from, seeded_plan, seeded_told, seeded_child}

-- a spare is a node
spare_inside : (t : Nodes) → IsTree t → (n : ℕ) → is_spare_at t n ≡ true → n < size t
spare_inside t tree zero spare = tree.root
spare_inside t tree (suc m) spare = elim (cases_lt (suc m) (size t)) [
  | inl inside ↦ inside
  | inr past ↦ absurd (false≢true (sym (ap (λ o. is_spare (role_or o)) (slice_get_past t.nodes m (let len = tree.nodes_len in omega (arith, len, past)))) ∙ spare))
]

-- the nodes that are kept are told of as before, and a child of the plan was one
module _ (t u : Nodes) (keep : List Bool) (close : IsClosed t keep) (tree : IsTree t) (kept : KeepsNodes t keep u) (len : (k : ℕ) → is_spare_at u k ≡ true → k < size u) (bare : HasBareSpares t) where
  kept_locks : (k : ℕ) → is_spare_at u k ≡ true → locks_of u k ≡ []
  kept_locks k spare =
      let from = kept.each k (len k spare) in
      let told : node_at u k ≡ node_at t from.0 = ap (node_at u) (sym from.1.2) ∙ kept.told from.0 from.1.0 from.1.1 in
      ap locks_or told ∙ bare.locks from.0 (sym (ap (λ o. is_spare (role_or o)) told) ∙ spare)

  kept_engines : (e : ℕ) → IsChild u 0 e → is_factory_at u e ≡ false
  kept_engines e child =
      let from = kept.each e child.inside in
      let n = from.0 in
      let told : node_at u e ≡ node_at t n = ap (node_at u) (sym from.1.2) ∙ kept.told n from.1.0 from.1.1 in
      ap (λ o. is_factory (role_or o)) told ∙ bare.engines n (record { above_zero = above n from.1.2; inside = from.1.0; parent = of_plan n from.1.0 from.1.1 from.1.2 })
    where
      above : (n : ℕ) → new_number keep n ≡ e → 0 < n
      above zero is = absurd (let pos = child.above_zero in omega (arith, pos, is))
      above (suc n) is = omega arith

      of_plan : (n : ℕ) → n < size t → is_kept keep n ≡ true → new_number keep n ≡ e → parent_of t n ≡ 0
      of_plan n inside is_there is = elim (cases_lt 0 (parent_of t n)) [
        | inr none ↦ omega (arith, none)
        | inl some ↦ absurd (
            let first = kept.ordered 0 (parent_of t n) some close.root in
            let new : new_number keep (parent_of t n) ≡ 0 = sym (kept.parent n (above n is) inside is_there) ∙ ap (parent_of u) is ∙ child.parent in
            omega (arith, first, new))
      ]

-- the tree of the nodes that stay where some are selected
module _ (t : Nodes) (tree : IsTree t) (q : ℕ → Bool) where
  abbrev pub staying : List Bool
  staying = truths (stays t q) (size t)

  close : IsClosed t staying
  close =
      let above = truths (is_above t (is_taken t q)) (size t) in
      subst (IsClosed t) (kept_of t tree q above refl) (closed t tree (is_taken t q) above refl)

  pub kept : KeepsNodes t staying (pruned t staying)
  kept = kept_at_end t (pruned t staying) staying (size t) tree close refl refl

  pub found : IsTree (pruned t staying)
  found = tree_at_end t (pruned t staying) staying (size t) tree close refl tree.root (omega arith)

  staying_bare : HasBareSpares t → HasBareSpares (pruned t staying)
  staying_bare bare =
      let inside = spare_inside (pruned t staying) found in
      record { locks = kept_locks t (pruned t staying) staying close tree kept inside bare; engines = kept_engines t (pruned t staying) staying close tree kept inside bare }

shard_bare : (t : Nodes) → IsTree t → (part : Option Part) → HasBareSpares t → HasBareSpares (shard_or_all t part)
shard_bare t tree None bare = bare
shard_bare t tree (Some part) bare = staying_bare t tree (is_unit_of t part) bare

-- the shard of what is selected is a tree
pub dealt_tree : (t : Nodes) → IsTree t → (part : Option Part) → IsTree (shard_or_all t part)
dealt_tree t tree None = tree
dealt_tree t tree (Some part) = found t tree (is_unit_of t part)

-- in a seed's order each node is told of as one of the tree, and a child of the plan was one
seeded_bare : (t : Nodes) → IsTree t → (seed : Option ℕ) → HasBareSpares t → HasBareSpares (seeded_or_same seed t)
seeded_bare t tree None bare = bare
seeded_bare t tree (Some seed) bare = record {
  locks = λ k spare. ap locks_or (seeded_told t tree seed k) ∙ bare.locks (node_from seed t k) (sym (ap (λ o. is_spare (role_or o)) (seeded_told t tree seed k)) ∙ spare);
  engines = λ e child. ap (λ o. is_factory (role_or o)) (seeded_told t tree seed e) ∙ bare.engines (node_from seed t e) (subst (λ (n : ℕ). IsChild t n (node_from seed t e)) (seeded_plan t tree seed) (seeded_child t tree seed 0 e child));
}

pub selected_bare : (t : Nodes) → IsTree t → (request : Request) → HasBareSpares t → HasBareSpares (answer t request)
selected_bare t tree request bare =
    let selected : IsTree (selection t request) = found t tree (is_selected t request) in
    seeded_bare (dealt t request) (dealt_tree (selection t request) selected request.shard) request.seed (shard_bare (selection t request) selected request.shard (staying_bare t tree (is_selected t request) bare))
