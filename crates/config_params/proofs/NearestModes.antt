-- The nearest declared mode: that of a node by that of its parent, and the function by the relation.
use Rattle.std.proofs.Common.{◌≡◌, ℕ, zero, suc, ◌<◌, ◌≤◌, List, map, length, get_or, Option, Some, None, refl, sym, ap, ◌∙◌, arith, inl, inr, ◌⊎◌}
use Rattle.std.specs.Option.{option_or}
use Rattle.std.specs.List.{range_with_len}
use Rattle.std.proofs.lemmas.List.FromFn.{length-map-range_with_len, get_or-map-range_with_len}
use Rattle.descriptor.specs.declared.mode.Mode.{Mode}
use Rattle.descriptor.specs.Nodes.{Nodes, IsTree, IsChild, Below, child, under, size, parent_of, mode_of}
use Rattle.config_params.specs.Nearest.{IsNearest, own, above, DeclaresNone, nearest_up, nearest_mode}
use Rattle.config_params.proofs.Belows.{own_child, above_parent, below_inside, child_less, below_less}

-- an option is one or the other
some_or_none : {A : Type 0} (o : Option A) → ((x : A) × (o ≡ Some x)) ⊎ (o ≡ None)
some_or_none None = inr refl
some_or_none (Some x) = inl (x, refl)

module _ (t : Nodes) (tree : IsTree t) where
  -- more steps than enough find the same
  enough : (k m n : ℕ) → n < size t → n ≤ k → n ≤ m → nearest_up t k n ≡ nearest_up t m n
  enough zero zero n inside kk mm = refl
  enough zero (suc m) zero inside kk mm = refl
  enough zero (suc m) (suc n) inside kk mm = absurd (omega arith)
  enough (suc k) zero zero inside kk mm = refl
  enough (suc k) zero (suc n) inside kk mm = absurd (omega arith)
  enough (suc k) (suc m) zero inside kk mm = refl
  enough (suc k) (suc m) (suc n) inside kk mm =
      let less : parent_of t (suc n) < suc n = tree.up (suc n) (omega arith) inside in
      ap (option_or (mode_of t (suc n))) (enough k m (parent_of t (suc n)) (omega arith) (omega arith) (omega arith))

  by_own_parent : (n : ℕ) → 0 < n → n < size t → nearest_mode t n ≡ option_or (mode_of t n) (nearest_mode t (parent_of t n))
  by_own_parent zero positive inside = absurd (omega arith)
  by_own_parent (suc n) positive inside =
      let less : parent_of t (suc n) < suc n = tree.up (suc n) positive inside in
      ap (option_or (mode_of t (suc n))) (enough n (parent_of t (suc n)) (parent_of t (suc n)) (omega arith) (omega arith) (omega arith))

  -- a node's nearest mode is its own, or else its parent's
  pub nearest_child : (p n : ℕ) → IsChild t p n → nearest_mode t n ≡ option_or (mode_of t n) (nearest_mode t p)
  nearest_child p n e = by_own_parent n e.above_zero e.inside ∙ ap (λ (m : ℕ). option_or (mode_of t n) (nearest_mode t m)) e.parent

  pub own_nearest : (n : ℕ) (m : Mode) → n < size t → mode_of t n ≡ Some m → nearest_mode t n ≡ Some m
  own_nearest zero m inside e = absurd (cc)
  own_nearest (suc n) m inside e = by_own_parent (suc n) (omega arith) inside ∙ ap (λ (o : Option Mode). option_or o (nearest_mode t (parent_of t (suc n)))) e

  none_own : (p n : ℕ) → IsChild t p n → mode_of t n ≡ None → nearest_mode t n ≡ nearest_mode t p
  none_own p n e none = nearest_child p n e ∙ ap (λ (o : Option Mode). option_or o (nearest_mode t p)) none

  -- the relation holds of what the function gives
  passed_on : (p n : ℕ) (m : Mode) → IsChild t p n → mode_of t n ≡ None → IsNearest t p m → IsNearest t n m
  passed_on p n m e none (own here) = above p (child e) here none (λ b under_p over_n. elim (above_parent t b p n e over_n) [
    | inl same ↦ absurd (omega (arith, below_less t tree p b under_p))
    | inr over_p ↦ absurd (omega (arith, below_less t tree p b under_p, below_less t tree b p over_p))
  ])
  passed_on p n m e none (above a over here none_p between) = above a (under over e) here none (λ b under_a over_n. elim (above_parent t b p n e over_n) [
    | inl same ↦ ap (mode_of t) same ∙ none_p
    | inr over_p ↦ between b under_a over_p
  ])

  none_passed_on : (p n : ℕ) → IsChild t p n → mode_of t n ≡ None → DeclaresNone t p → DeclaresNone t n
  none_passed_on p n e none at = record {
    own = none;
    above = λ a over_n. elim (above_parent t a p n e over_n) [
      | inl same ↦ ap (mode_of t) same ∙ at.own
      | inr over_p ↦ at.above a over_p
    ];
  }

  -- what the function finds at node n, as a relation
  Finds : ℕ → Type 0
  Finds n = ((m : Mode) × (nearest_mode t n ≡ Some m) × IsNearest t n m) ⊎ ((nearest_mode t n ≡ None) × DeclaresNone t n)

  finds_within : (k n : ℕ) → n < k → n < size t → Finds n
  unfolding Finds
  finds_within zero n less inside = absurd (omega arith)
  finds_within (suc k) zero less inside = inr (refl, record { own = refl; above = λ a over. absurd (let in_tree = below_inside t a 0 over in omega (arith, in_tree.0)) })
  finds_within (suc k) (suc n) less inside =
      let e : IsChild t (parent_of t (suc n)) (suc n) = own_child t (suc n) (omega arith) inside in
      let up : parent_of t (suc n) < suc n = child_less t tree (parent_of t (suc n)) (suc n) e in
      elim (some_or_none (mode_of t (suc n))) [
        | inl here ↦ inl (here.0, own_nearest (suc n) here.0 inside here.1, own here.1)
        | inr none ↦ elim (finds_within k (parent_of t (suc n)) (omega arith) (omega arith)) [
          | inl found ↦ inl (found.0, none_own (parent_of t (suc n)) (suc n) e none ∙ found.1, passed_on (parent_of t (suc n)) (suc n) found.0 e none found.2)
          | inr nothing ↦ inr (none_own (parent_of t (suc n)) (suc n) e none ∙ nothing.0, none_passed_on (parent_of t (suc n)) (suc n) e none nothing.1)
        ]
      ]

  pub finds : (n : ℕ) → n < size t → ((m : Mode) × (nearest_mode t n ≡ Some m) × IsNearest t n m) ⊎ ((nearest_mode t n ≡ None) × DeclaresNone t n)
  unfolding Finds
  finds n inside = finds_within (suc n) n (omega arith) inside

  -- and the function gives what the relation holds of
  far : (a n : ℕ) (m : Mode) → Below t a n → mode_of t a ≡ Some m → mode_of t n ≡ None → ((b : ℕ) → Below t a b → Below t b n → mode_of t b ≡ None) → nearest_mode t n ≡ Some m
  far a n m (child e) here none between = none_own a n e none ∙ own_nearest a m (let less = child_less t tree a n e in omega (arith, less, e.inside)) here
  far a n m (under {c = c} over e) here none between =
      none_own c n e none ∙ far a c m over here (between c over (child e)) (λ b under_a over_c. between b under_a (under over_c e))

  pub nearest_found : (n : ℕ) (m : Mode) → n < size t → IsNearest t n m → nearest_mode t n ≡ Some m
  nearest_found n m inside (own here) = own_nearest n m inside here
  nearest_found n m inside (above a over here none between) = far a n m over here none between

  none_within : (k n : ℕ) → n < k → n < size t → DeclaresNone t n → nearest_mode t n ≡ None
  none_within zero n less inside d = absurd (omega arith)
  none_within (suc k) zero less inside d = refl
  none_within (suc k) (suc n) less inside d =
      let e : IsChild t (parent_of t (suc n)) (suc n) = own_child t (suc n) (omega arith) inside in
      let up : parent_of t (suc n) < suc n = child_less t tree (parent_of t (suc n)) (suc n) e in
      none_own (parent_of t (suc n)) (suc n) e d.own
      ∙ none_within k (parent_of t (suc n)) (omega arith) (omega arith) (record { own = d.above (parent_of t (suc n)) (child e); above = λ a over. d.above a (under over e) })

  pub nearest_none : (n : ℕ) → n < size t → DeclaresNone t n → nearest_mode t n ≡ None
  nearest_none n inside d = none_within (suc n) n (omega arith) inside d

-- what is known of all nodes before a node
pub known_inside : (xs : List (Option Mode)) (t : Nodes) (n i : ℕ) → xs ≡ map (nearest_mode t) (range_with_len 0 n) → i < n → i < length xs
known_inside xs t n i is lt = omega (arith, ap length is, length-map-range_with_len (nearest_mode t) 0 n, lt)

pub known_at : (xs : List (Option Mode)) (t : Nodes) (n i : ℕ) (d : Option Mode) → xs ≡ map (nearest_mode t) (range_with_len 0 n) → i < n → get_or xs i d ≡ nearest_mode t i
known_at xs t n i d is lt = ap (λ (ys : List (Option Mode)). get_or ys i d) is ∙ get_or-map-range_with_len (nearest_mode t) 0 n i i d lt (omega arith)

-- a node's nearest mode, where that of its parent is read off what is known
pub read_nearest : (xs : List (Option Mode)) (t : Nodes) (tree : IsTree t) (p n i : ℕ) (here found : Option Mode) → IsChild t p n → i ≡ p → xs ≡ map (nearest_mode t) (range_with_len 0 n) → here ≡ mode_of t n → found ≡ option_or here (get_or xs i None) → found ≡ nearest_mode t n
read_nearest xs t tree p n i here found e same is told given =
    let less : p < n = child_less t tree p n e in
    given ∙ ap (λ (o : Option Mode). option_or o (get_or xs i None)) told
    ∙ ap (option_or (mode_of t n)) (known_at xs t n i None is (omega arith) ∙ ap (nearest_mode t) same)
    ∙ sym (nearest_child t tree p n e)
