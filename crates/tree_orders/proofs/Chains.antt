-- Each node of the order so far may stand right behind the one before it.
use Rattle.std.proofs.Common.{◌≡◌, ℕ, zero, suc, ◌+◌, ◌-◌, ◌<◌, ◌≤◌, true, false, eqb, ltb, List, [], ◌∷◌, length, drop, get_or, refl, sym, ap, ◌∙◌, arith, inl, inr, ◌⊎◌, subst, zero-add}
use Rattle.std.specs.Prelude.{insert, ◌&&◌}
use Rattle.std.proofs.lemmas.Bool.{cases_eq, cases_lt, cases_Bool, cond-true, cond-false, or_cases, or_parts, and_parts, ltb-true, ltb-false, eqb-true, false≢true}
use Rattle.descriptor.specs.Nodes.{Nodes, IsTree, IsChild, Below, child, under, size, parent_of, is_spare_at, is_factory_at}
use Rattle.tree_orders.specs.Listed.{Follows}
use Rattle.tree_orders.specs.Orders.{is_stop, left_behind, order_to, passed, place_behind, place_in}
use Rattle.tree_orders.proofs.Inserting.{times, times_later, place_first, place_later}
use Rattle.tree_orders.proofs.Listing.{some_times}
use Rattle.tree_orders.proofs.Uppers.{upper, no_grandchild, below_factory}

-- y is a node below m other than the plan, and may stand right behind x
pub record Step (t : Nodes) (m x y : ℕ) : Type 0 where
  pub above : 0 < y
  pub low : y < m
  pub follows : Follows t x y

-- each of these, the first of which stands right behind w, may stand where it does
abbrev pub Chain : Nodes → (m w : ℕ) → List ℕ → Type 0
Chain t m w [] = Unit {0}
Chain t m w (x ∷ xs) = Step t m w x × Chain t m x xs

-- a whole list is a chain
abbrev pub IsChain : Nodes → ℕ → List ℕ → Type 0
IsChain t m [] = Unit {0}
IsChain t m (x ∷ xs) = Chain t m x xs

step_more : (t : Nodes) (m x y : ℕ) → Step t m x y → Step t (suc m) x y
step_more t m x y s = record { above = s.above; low = (let low : y < m = s.low in omega arith); follows = s.follows }

chain_more : (t : Nodes) (m w : ℕ) (xs : List ℕ) → Chain t m w xs → Chain t (suc m) w xs
chain_more t m w [] c = tt
chain_more t m w (x ∷ xs) (s, c) = (step_more t m w x s, chain_more t m x xs c)

chain_get : (t : Nodes) (m w k : ℕ) (xs : List ℕ) → Chain t m w xs → k < length xs → Step t m (get_or (w ∷ xs) k 0) (get_or xs k 0)
chain_get t m w k [] c inside = absurd (omega arith)
chain_get t m w zero (x ∷ xs) (s, c) inside = s
chain_get t m w (suc k) (x ∷ xs) (s, c) inside = chain_get t m x k xs c (omega arith)

-- of each two neighbours in the list the second may stand behind the first
pub chain_at : (t : Nodes) (m k : ℕ) (xs : List ℕ) → IsChain t m xs → suc k < length xs → Step t m (get_or xs k 0) (get_or xs (suc k) 0)
chain_at t m k [] c inside = absurd (omega arith)
chain_at t m k (x ∷ xs) c inside = chain_get t m x k xs c (omega arith)

less_one : (n w : ℕ) → 0 < n → w ≡ n - 1 → n ≡ suc w
less_one n w above is = omega arith

module _ (t : Nodes) (tree : IsTree t) (n : ℕ) (above : 0 < n) (inside : n < size t) where
  stands : IsChild t (parent_of t n) n
  stands = record { above_zero = above; inside = inside; parent = refl }

  as_child : (w x : ℕ) → Step t n w x → IsChild t (parent_of t x) x
  as_child w x s = record { above_zero = s.above; inside = (let low : x < n = s.low in omega arith); parent = refl }

  -- a node that is no dynamic test
  module _ (plain : is_spare_at t n ≡ false) where
    step_to : (w : ℕ) → (parent_of t n ≡ w) ⊎ Below t (parent_of t n) w → Step t (suc n) w n
    step_to w at = record {
      above = above;
      low = omega arith;
      follows = record { parent = at; spare = λ spare. absurd (false≢true (sym plain ∙ spare)) };
    }

    stop_cases : (left x : ℕ) → is_stop t (parent_of t n) left x ≡ true → (parent_of t x ≡ parent_of t n) ⊎ (parent_of t x < parent_of t n)
    stop_cases left x stop =
        elim (or_cases (ltb (parent_of t x) (parent_of t n)) (eqb (parent_of t x) (parent_of t n) && eqb left 0) stop) [
          | inl less ↦ inr (ltb-true (parent_of t x) (parent_of t n) less)
          | inr here ↦ inl (eqb-true (parent_of t x) (parent_of t n) (and_parts (eqb (parent_of t x) (parent_of t n)) (eqb left 0) here).0)
        ]

    -- the node that it is put before is no dynamic test
    no_spare : (w x : ℕ) → (parent_of t n ≡ w) ⊎ Below t (parent_of t n) w → Step t n w x → (parent_of t x ≡ parent_of t n) ⊎ (parent_of t x < parent_of t n) → is_spare_at t x ≡ true → ⊥
    no_spare w x at s (inl same) spare =
        let sibling : IsChild t (parent_of t n) x = record { above_zero = s.above; inside = (as_child w x s).inside; parent = same } in
        false≢true (sym plain ∙ tree.spares (parent_of t n) n stands ∙ sym (tree.spares (parent_of t n) x sibling) ∙ spare)
    no_spare w x at s (inr less) spare =
        let factory : is_factory_at t (parent_of t x) ≡ true = sym (tree.spares (parent_of t x) x (as_child w x s)) ∙ spare in
        no_grandchild t tree (parent_of t x) (parent_of t n) n factory (below_factory t tree (parent_of t x) (parent_of t n) factory (upper t tree (parent_of t x) (parent_of t n) w s.follows.parent at less)) stands

    -- and may stand behind it
    before : (w x : ℕ) → (parent_of t n ≡ w) ⊎ Below t (parent_of t n) w → Step t n w x → (parent_of t x ≡ parent_of t n) ⊎ (parent_of t x < parent_of t n) → Below t (parent_of t x) n
    before w x at s (inl same) = child (record { above_zero = above; inside = inside; parent = sym same })
    before w x at s (inr less) = under (upper t tree (parent_of t x) (parent_of t n) w s.follows.parent at less) stands

    step_from : (w x left : ℕ) → (parent_of t n ≡ w) ⊎ Below t (parent_of t n) w → Step t n w x → is_stop t (parent_of t n) left x ≡ true → Step t (suc n) n x
    step_from w x left at s stop = record {
      above = s.above;
      low = (let low : x < n = s.low in omega arith);
      follows = record {
        parent = inr (before w x at s (stop_cases left x stop));
        spare = λ spare. absurd (no_spare w x at s (stop_cases left x stop) spare);
      };
    }

    -- a node that it passes is below its parent
    at_next : (w x left : ℕ) → (parent_of t n ≡ w) ⊎ Below t (parent_of t n) w → Step t n w x → is_stop t (parent_of t n) left x ≡ false → Below t (parent_of t n) x
    at_next w x left at s on =
        let most : parent_of t n ≤ parent_of t x = ltb-false (parent_of t x) (parent_of t n) (or_parts (ltb (parent_of t x) (parent_of t n)) (eqb (parent_of t x) (parent_of t n) && eqb left 0) on).0 in
        elim (cases_lt (parent_of t n) (parent_of t x)) [
          | inl less ↦ under (upper t tree (parent_of t n) (parent_of t x) w at s.follows.parent less) (as_child w x s)
          | inr more ↦ child (record { above_zero = s.above; inside = (as_child w x s).inside; parent = (let same : parent_of t x ≡ parent_of t n = omega arith in same) })
        ]

    put_here : (xs : List ℕ) (w left : ℕ) → (parent_of t n ≡ w) ⊎ Below t (parent_of t n) w → Chain t n w xs → Chain t (suc n) w (insert xs (passed t (parent_of t n) left xs) n)
    put_here [] w left at c = (step_to w at, tt)
    put_here (x ∷ xs) w left at (s, c) = elim (cases_Bool (is_stop t (parent_of t n) left x)) [
      | inl stop ↦
          subst (λ (k : ℕ). Chain t (suc n) w (insert (x ∷ xs) k n))
          (sym (cond-true (is_stop t (parent_of t n) left x) 0 (suc (passed t (parent_of t n) (left_behind t (parent_of t n) left x) xs)) stop))
          (step_to w at, (step_from w x left at s stop, chain_more t n x xs c))
      | inr on ↦
          subst (λ (k : ℕ). Chain t (suc n) w (insert (x ∷ xs) k n))
          (sym (cond-false (is_stop t (parent_of t n) left x) 0 (suc (passed t (parent_of t n) (left_behind t (parent_of t n) left x) xs)) on))
          (step_more t n w x s, put_here xs x (left_behind t (parent_of t n) left x) (inr (at_next w x left at s on)) c)
    ]

    abbrev at_place : ℕ → List ℕ → ℕ → ℕ → Type 0
    at_place w xs left k = Chain t (suc n) w (insert xs (k + passed t (parent_of t n) left (drop k xs)) n)

    behind_parent : (xs : List ℕ) (w left : ℕ) → w ≡ parent_of t n → Chain t n w xs → at_place w xs left (place_in (w ∷ xs) (parent_of t n))
    behind_parent xs w left same c =
        subst (at_place w xs left) (sym (place_first (parent_of t n) w xs same))
        (subst (λ (k : ℕ). Chain t (suc n) w (insert xs k n)) (sym (zero-add (passed t (parent_of t n) left xs))) (put_here xs w left (inl (sym same)) c))

    put_behind : (xs : List ℕ) (w left : ℕ) → 0 < times (parent_of t n) (w ∷ xs) → Chain t n w xs → at_place w xs left (place_in (w ∷ xs) (parent_of t n))
    put_behind [] w left some c = elim (cases_eq w (parent_of t n)) [
      | inl same ↦ behind_parent [] w left same c
      | inr other ↦ absurd (let none : times (parent_of t n) (w ∷ []) ≡ 0 = times_later (parent_of t n) w [] other in omega arith)
    ]
    put_behind (y ∷ ys) w left some (s, c) = elim (cases_eq w (parent_of t n)) [
      | inl same ↦ behind_parent (y ∷ ys) w left same (s, c)
      | inr other ↦
          let p = parent_of t n in
          let q = place_in (y ∷ ys) p in
          let rest : times p (w ∷ y ∷ ys) ≡ times p (y ∷ ys) = times_later p w (y ∷ ys) other in
          let next : suc (q + passed t p left (drop q ys)) ≡ suc q + passed t p left (drop q ys) = omega arith in
          subst (at_place w (y ∷ ys) left) (sym (place_later p w (y ∷ ys) other))
          (subst (λ (k : ℕ). Chain t (suc n) w (insert (y ∷ ys) k n)) next (step_more t n w y s, put_behind ys y left (omega arith) c))
    ]

    pub chain_behind : (xs : List ℕ) (left : ℕ) → 0 < times (parent_of t n) xs → IsChain t n xs → IsChain t (suc n) (insert xs (place_behind t (parent_of t n) left xs) n)
    chain_behind [] left some c = absurd (omega arith)
    chain_behind (x ∷ xs) left some c = put_behind xs x left some c

  -- a dynamic test
  module _ (spare : is_spare_at t n ≡ true) where
    factory : is_factory_at t (parent_of t n) ≡ true
    factory = sym (tree.spares (parent_of t n) n stands) ∙ spare

    spare_to : (w : ℕ) → w ≡ n - 1 → Step t (suc n) w n
    spare_to w is = record {
      above = above;
      low = omega arith;
      follows = record {
        parent = subst (λ (x : ℕ). (parent_of t n ≡ x) ⊎ Below t (parent_of t n) x) (sym is) (tree.preorder n above inside);
        spare = λ _. less_one n w above is;
      };
    }

    -- what stood behind the node before is no dynamic test
    plain_next : (w x : ℕ) → w ≡ n - 1 → Step t n w x → is_spare_at t x ≡ true → ⊥
    plain_next w x is s also = (let next : x ≡ suc w = s.follows.spare also in let low : x < n = s.low in omega (arith, above))

    -- and no child of a child of the factory
    next_above : (w x : ℕ) → w ≡ n - 1 → Step t n w x → (parent_of t x ≡ w) ⊎ Below t (parent_of t x) w → (parent_of t n ≡ w) ⊎ Below t (parent_of t n) w → Below t (parent_of t x) n
    next_above w x is s (inl e) (inl d) = absurd (plain_next w x is s (tree.spares (parent_of t x) x (as_child w x s) ∙ ap (is_factory_at t) (e ∙ sym d) ∙ factory))
    next_above w x is s (inl e) (inr d) =
        absurd (no_grandchild t tree (parent_of t n) w x factory (below_factory t tree (parent_of t n) w factory d) (record { above_zero = s.above; inside = (as_child w x s).inside; parent = e }))
    next_above w x is s (inr d) (inl e) = under (subst (Below t (parent_of t x)) (sym e) d) stands
    next_above w x is s (inr f) (inr d) = elim (cases_eq (parent_of t x) (parent_of t n)) [
      | inl same ↦ absurd (plain_next w x is s (tree.spares (parent_of t x) x (as_child w x s) ∙ ap (is_factory_at t) same ∙ factory))
      | inr other ↦ elim (cases_lt (parent_of t x) (parent_of t n)) [
        | inl less ↦ under (upper t tree (parent_of t x) (parent_of t n) w (inr f) (inr d) less) stands
        | inr more ↦
            let lower : Below t (parent_of t n) (parent_of t x) = upper t tree (parent_of t n) (parent_of t x) w (inr d) (inr f) (omega (arith, more, other)) in
            absurd (no_grandchild t tree (parent_of t n) (parent_of t x) x factory (below_factory t tree (parent_of t n) (parent_of t x) factory lower) (as_child w x s))
      ]
    ]

    spare_from : (w x : ℕ) → w ≡ n - 1 → Step t n w x → Step t (suc n) n x
    spare_from w x is s = record {
      above = s.above;
      low = (let low : x < n = s.low in omega arith);
      follows = record {
        parent = inr (next_above w x is s s.follows.parent (spare_to w is).follows.parent);
        spare = λ also. absurd (plain_next w x is s also);
      };
    }

    spare_here : (xs : List ℕ) (w : ℕ) → w ≡ n - 1 → Chain t n w xs → Chain t (suc n) w (n ∷ xs)
    spare_here [] w is c = (spare_to w is, tt)
    spare_here (x ∷ xs) w is (s, c) = (spare_to w is, (spare_from w x is s, chain_more t n x xs c))

    behind_last : (xs : List ℕ) (w : ℕ) → w ≡ n - 1 → Chain t n w xs → Chain t (suc n) w (insert xs (place_in (w ∷ xs) (n - 1)) n)
    behind_last xs w is c = subst (λ (k : ℕ). Chain t (suc n) w (insert xs k n)) (sym (place_first (n - 1) w xs is)) (spare_here xs w is c)

    put_last : (xs : List ℕ) (w : ℕ) → 0 < times (n - 1) (w ∷ xs) → Chain t n w xs → Chain t (suc n) w (insert xs (place_in (w ∷ xs) (n - 1)) n)
    put_last [] w some c = elim (cases_eq w (n - 1)) [
      | inl same ↦ behind_last [] w same c
      | inr other ↦ absurd (let none : times (n - 1) (w ∷ []) ≡ 0 = times_later (n - 1) w [] other in omega arith)
    ]
    put_last (y ∷ ys) w some (s, c) = elim (cases_eq w (n - 1)) [
      | inl same ↦ behind_last (y ∷ ys) w same (s, c)
      | inr other ↦
          let rest : times (n - 1) (w ∷ y ∷ ys) ≡ times (n - 1) (y ∷ ys) = times_later (n - 1) w (y ∷ ys) other in
          subst (λ (k : ℕ). Chain t (suc n) w (insert (y ∷ ys) k n)) (sym (place_later (n - 1) w (y ∷ ys) other)) (step_more t n w y s, put_last ys y (omega arith) c)
    ]

    pub chain_last : (xs : List ℕ) → 0 < times (n - 1) xs → IsChain t n xs → IsChain t (suc n) (insert xs (suc (place_in xs (n - 1))) n)
    chain_last [] some c = absurd (omega arith)
    chain_last (x ∷ xs) some c = put_last xs x some c

-- the order so far is one
pub chain_to : (t : Nodes) → IsTree t → (drawn : ℕ → ℕ) (n : ℕ) → n < size t → IsChain t (suc n) (order_to t drawn n)
chain_to t tree drawn zero inside = tt
chain_to t tree drawn (suc n) inside =
    let os = order_to t drawn n in
    let less : parent_of t (suc n) < suc n = tree.up (suc n) (omega arith) inside in
    let so_far : IsChain t (suc n) os = chain_to t tree drawn n (omega arith) in
    elim (cases_Bool (is_spare_at t (suc n))) [
      | inl spare ↦
          subst (λ (k : ℕ). IsChain t (suc (suc n)) (insert os k (suc n)))
          (sym (cond-true (is_spare_at t (suc n)) (suc (place_in os (suc n - 1))) (place_behind t (parent_of t (suc n)) (drawn (suc n)) os) spare))
          (chain_last t tree (suc n) (omega arith) inside spare os (some_times t drawn n (suc n - 1) (omega arith)) so_far)
      | inr plain ↦
          subst (λ (k : ℕ). IsChain t (suc (suc n)) (insert os k (suc n)))
          (sym (cond-false (is_spare_at t (suc n)) (suc (place_in os (suc n - 1))) (place_behind t (parent_of t (suc n)) (drawn (suc n)) os) plain))
          (chain_behind t tree (suc n) (omega arith) inside plain os (drawn (suc n)) (some_times t drawn n (parent_of t (suc n)) less) so_far)
    ]
