-- A test of a tree, for worked examples: where it passes, the tree has what is asked of a plan's.
use Rattle.std.proofs.Common.{◌≡◌, ℕ, zero, suc, ◌+◌, ◌<◌, ◌&&◌, ◌||◌, ◌==◌, not, ltb, Bool, true, false, length, Option, None, slice_get, inl, inr, refl, sym, ap, ◌∙◌, arith}
use Rattle.std.proofs.lemmas.Bool.{and_parts, both_ways, cases_eq, cases_lt, eqb-true, false≢true, ltb-true, lt-ltb}
use Rattle.std.proofs.lemmas.Option.{slice_get_past}
use Rattle.descriptor.specs.declared.node.Node.{Node}
use Rattle.descriptor.specs.Nodes.{Nodes, size, parent_of, role_or, is_factory_at, is_spare_at}
use Rattle.descriptor.specs.Roles.{is_factory, is_spare}
use Rattle.event_history.specs.Plans.{Sort, Leaf, Holder, Maker, sort_of, IsPlanTree}
use Rattle.event_history.proofs.Spares.{is_maker}

abbrev is_leaf : Sort → Bool
is_leaf Leaf = true
is_leaf _ = false

-- where the first holds, so does the second
abbrev implies : Bool → Bool → Bool
implies a b = not a || b

-- what is asked of node n by itself and its parent
abbrev node_fits : Nodes → ℕ → Bool
node_fits t n =
    implies (ltb 0 n) (ltb (parent_of t n) n && not (is_leaf (sort_of t (parent_of t n))))
    && (implies (is_spare_at t n) (is_leaf (sort_of t n) && is_maker (sort_of t (parent_of t n))) && implies (is_factory_at t n) (is_maker (sort_of t n)))

abbrev all_below : (ℕ → Bool) → ℕ → Bool
all_below q zero = true
all_below q (suc n) = q n && all_below q n

abbrev pub is_plan_tree : Nodes → Bool
is_plan_tree t = (ltb 0 (size t) && (length t.nodes + 1 == size t)) && all_below (node_fits t) (size t)

implied : (a b : Bool) → implies a b ≡ true → a ≡ true → b ≡ true
implied true b q p = q
implied false b q p = absurd (false≢true p)

one_of_all : (q : ℕ → Bool) (m n : ℕ) → all_below q m ≡ true → n < m → q n ≡ true
one_of_all q zero n all lt = absurd (omega (arith, lt))
one_of_all q (suc m) n all lt =
    let r = and_parts (q m) (all_below q m) all in
    elim (cases_eq n m) [ inl e ↦ ap q e ∙ r.0 | inr ne ↦ one_of_all q m n r.1 (omega (arith, lt, ne)) ]

leaf_is : (s : Sort) → is_leaf s ≡ true → s ≡ Leaf
leaf_is Leaf q = refl
leaf_is Holder q = absurd (false≢true q)
leaf_is Maker q = absurd (false≢true q)

maker_is : (s : Sort) → is_maker s ≡ true → s ≡ Maker
maker_is Leaf q = absurd (false≢true q)
maker_is Holder q = absurd (false≢true q)
maker_is Maker q = refl

not_true : (b : Bool) → not b ≡ true → b ≡ false
not_true true q = absurd (false≢true q)
not_true false q = refl

module _ (t : Nodes) (passes : is_plan_tree t ≡ true) where
  sizes : (ltb 0 (size t) && (length t.nodes + 1 == size t)) ≡ true
  sizes = (and_parts (ltb 0 (size t) && (length t.nodes + 1 == size t)) (all_below (node_fits t) (size t)) passes).0

  as_many : length t.nodes + 1 ≡ size t
  as_many = eqb-true (length t.nodes + 1) (size t) (and_parts (ltb 0 (size t)) (length t.nodes + 1 == size t) sizes).1

  fits : (n : ℕ) → n < size t → node_fits t n ≡ true
  fits n lt = one_of_all (node_fits t) (size t) n (and_parts (ltb 0 (size t) && (length t.nodes + 1 == size t)) (all_below (node_fits t) (size t)) passes).1 lt

  above_fits : (n : ℕ) → 0 < n → n < size t → (ltb (parent_of t n) n && not (is_leaf (sort_of t (parent_of t n)))) ≡ true
  above_fits n pos lt = implied (ltb 0 n) _ (and_parts (implies (ltb 0 n) (ltb (parent_of t n) n && not (is_leaf (sort_of t (parent_of t n))))) _ (fits n lt)).0 (lt-ltb 0 n pos)

  own_fits : (n : ℕ) → n < size t → (implies (is_spare_at t n) (is_leaf (sort_of t n) && is_maker (sort_of t (parent_of t n))) && implies (is_factory_at t n) (is_maker (sort_of t n))) ≡ true
  own_fits n lt = (and_parts (implies (ltb 0 n) (ltb (parent_of t n) n && not (is_leaf (sort_of t (parent_of t n))))) _ (fits n lt)).1

  -- of which something is told, is a node
  told_inside : (n : ℕ) → (slice_get t.nodes n ≡ None → ⊥) → suc n < size t
  told_inside n told =
      elim (cases_lt n (length t.nodes)) [
        | inl lt ↦ (let all = as_many in omega (arith, lt, all))
        | inr le ↦ absurd (told (slice_get_past t.nodes n le))
      ]

  spare_inside : (n : ℕ) → is_spare_at t n ≡ true → n < size t
  spare_inside zero q = absurd (false≢true q)
  spare_inside (suc n) q = told_inside n (λ none. false≢true (sym (ap (λ (o : Option Node). is_spare (role_or o)) none) ∙ q))

  factory_inside : (n : ℕ) → is_factory_at t n ≡ true → n < size t
  factory_inside zero q = absurd (false≢true q)
  factory_inside (suc n) q = told_inside n (λ none. false≢true (sym (ap (λ (o : Option Node). is_factory (role_or o)) none) ∙ q))

  spare_fits : (n : ℕ) → is_spare_at t n ≡ true → (is_leaf (sort_of t n) ≡ true) × (is_maker (sort_of t (parent_of t n)) ≡ true)
  spare_fits n q =
      and_parts (is_leaf (sort_of t n)) (is_maker (sort_of t (parent_of t n)))
      (implied (is_spare_at t n) _ (and_parts (implies (is_spare_at t n) (is_leaf (sort_of t n) && is_maker (sort_of t (parent_of t n)))) _ (own_fits n (spare_inside n q))).0 q)

  -- A tree that passes has what is asked.
  pub told_plan_tree : IsPlanTree t
  told_plan_tree = record {
    rooted = record {
      root = ltb-true 0 (size t) (and_parts (ltb 0 (size t)) (length t.nodes + 1 == size t) sizes).0;
      up = λ n pos lt. ltb-true (parent_of t n) n (and_parts (ltb (parent_of t n) n) _ (above_fits n pos lt)).0;
    };
    leaf = λ n c e q. (let parent_leaf : is_leaf (sort_of t (parent_of t c)) ≡ true = ap (λ (k : ℕ). is_leaf (sort_of t k)) e.parent ∙ ap is_leaf q in
        both_ways (is_leaf (sort_of t (parent_of t c))) (not_true _ (and_parts (ltb (parent_of t c) c) _ (above_fits c e.above_zero e.inside)).1) parent_leaf);
    spare_leaf = λ n q. leaf_is (sort_of t n) (spare_fits n q).0;
    spare_factory = λ n q. maker_is (sort_of t (parent_of t n)) (spare_fits n q).1;
    factory_sort = λ n q. maker_is (sort_of t n)
        (implied (is_factory_at t n) _ (and_parts (implies (is_spare_at t n) (is_leaf (sort_of t n) && is_maker (sort_of t (parent_of t n)))) _ (own_fits n (factory_inside n q))).1 q);
  }
