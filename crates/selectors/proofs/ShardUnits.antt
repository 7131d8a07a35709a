-- The units of a shard's tree are those of the whole at its places.
use Rattle.std.proofs.Common.{◌≡◌, ℕ, zero, suc, ◌+◌, ◌<◌, ◌≤◌, ◌&&◌, Bool, true, false, cond, List, [], ◌∷◌, ◌++◌, length, refl, sym, ap, ap₂, ◌∙◌, subst, arith, inl, inr, Option, Some, Result, Ok, Err, IfOk}
use Rattle.std.proofs.lemmas.List.{append-nil, length-append}
use Rattle.std.proofs.lemmas.List.Elements.{filter_map-append}
use Rattle.std.specs.List.{filter_map, cons_option}
use Rattle.descriptor.specs.declared.node.Node.{Node}
use Rattle.descriptor.specs.Nodes.{Nodes, IsTree, size, node_at, kind_of, role_of, kind_or, role_or, numbers_where, bit}
use Rattle.descriptor.specs.Pruned.{IsClosed, KeepsNodes, is_kept, new_number, pruned}
use Rattle.descriptor.proofs.Pruning.{kept_at_end}
use Rattle.selectors.specs.Covered.{truths}
use Rattle.selectors.specs.Keeping.{stays, Stays, is_above, is_taken}
use Rattle.selectors.specs.Shards.{Part, gets, gets_told, is_unit_of, place_of, picked, shard, AreApart}
use Rattle.selectors.specs.Units.{is_selectable, is_unit, units}
use Rattle.selectors.proofs.Answer.{closed, kept_of}
use Rattle.selectors.proofs.Marks.{and_both, and_parts, is_or_is_not}
use Rattle.selectors.proofs.Shards.{unit_told}
use Rattle.selectors.proofs.SparesTaken.{spare_unselectable}
use Rattle.selectors.proofs.Staying.{stays_is}
use Rattle.selectors.proofs.Truths.{never, read_truth}

-- what is told of the units below n
abbrev units_below : Nodes → ℕ → List Node
units_below t n = filter_map (node_at t) (numbers_where (is_unit t) n)

units_more : (t : Nodes) (n : ℕ) (node : Node) → is_unit t n ≡ true → node_at t n ≡ Some node → units_below t (suc n) ≡ units_below t n ++ node ∷ []
units_more t n node unit told =
    ap (λ b. filter_map (node_at t) (numbers_where (is_unit t) n ++ cond b (n ∷ []) [])) unit
    ∙ filter_map-append (node_at t) (numbers_where (is_unit t) n) (n ∷ [])
    ∙ ap (λ (o : Option Node). units_below t n ++ cons_option o []) told

units_same : (t : Nodes) (n : ℕ) → is_unit t n ≡ false → units_below t (suc n) ≡ units_below t n
units_same t n other = ap (λ b. filter_map (node_at t) (numbers_where (is_unit t) n ++ cond b (n ∷ []) [])) other ∙ ap (filter_map (node_at t)) (append-nil (numbers_where (is_unit t) n))

-- there are as many as come before n
count_units : (t : Nodes) (n : ℕ) → length (units_below t n) ≡ place_of t n
count_units t zero = refl
count_units t (suc n) =
    let before : length (units_below t n) ≡ place_of t n = count_units t n in
    elim (is_or_is_not (is_unit t n)) [
      | inl unit ↦
          let node = unit_told t n unit in
          let more : length (units_below t n ++ node.0 ∷ []) ≡ length (units_below t n) + 1 = length-append (units_below t n) (node.0 ∷ []) in
          let place : place_of t (suc n) ≡ 1 + place_of t n = ap (λ b. bit b + place_of t n) unit in
          ap length (units_more t n node.0 unit node.1) ∙ omega arith
      | inr other ↦
          let place : place_of t (suc n) ≡ 0 + place_of t n = ap (λ b. bit b + place_of t n) other in
          ap length (units_same t n other) ∙ omega arith
    ]

module _ {X : Type 0} where
  pub picked_more : (q : ℕ → X → Bool) (i place : ℕ) (xs : List X) (x : X) → place ≡ i + length xs → picked q i (xs ++ x ∷ []) ≡ picked q i xs ++ cond (q place x) (x ∷ []) []
  picked_more q i place [] x e = let same : i ≡ place = omega arith in ap (λ n. cond (q n x) (x ∷ []) []) same
  picked_more q i place (y ∷ xs) x e =
      let rest : picked q (suc i) (xs ++ x ∷ []) ≡ picked q (suc i) xs ++ cond (q place x) (x ∷ []) [] = picked_more q (suc i) place xs x (omega arith) in
      ap (λ zs. cond (q i y) (y ∷ zs) zs) rest ∙ inside (q i y) y (picked q (suc i) xs) (cond (q place x) (x ∷ []) [])
    where
      inside : (b : Bool) (y : X) (xs zs : List X) → cond b (y ∷ (xs ++ zs)) (xs ++ zs) ≡ cond b (y ∷ xs) xs ++ zs
      inside true y xs zs = refl
      inside false y xs zs = refl

module _ (t : Nodes) (tree : IsTree t) (part : Part) where
  unit_stays : (n : ℕ) → n < size t → is_unit_of t part n ≡ true → stays t (is_unit_of t part) n ≡ true
  unit_stays n inside mine = (stays_is t tree (is_unit_of t part) n inside).1 (inr (inl (n, inside, mine, inl refl)))

  -- a unit that the shard does not get does not stay
  other_goes : AreApart t → (n : ℕ) → n < size t → is_unit t n ≡ true → is_unit_of t part n ≡ false → stays t (is_unit_of t part) n ≡ false
  other_goes apart n inside unit other = never (stays t (is_unit_of t part) n) (λ h. by ((stays_is t tree (is_unit_of t part) n inside).0 h))
    where
      by : Stays t (is_unit_of t part) n → ⊥
      by (inl root) = let never : is_unit t 0 ≡ false = refl in let here : is_unit t 0 ≡ true = ap (is_unit t) (sym root) ∙ unit in cc
      by (inr (inl (m, within, mine, inl same))) = let here : is_unit_of t part n ≡ true = ap (is_unit_of t part) (sym same) ∙ mine in cc
      by (inr (inl (m, within, mine, inr below))) = apart n m unit (and_parts (is_unit t m) _ mine).0 below
      by (inr (inr (f, child, spare, mine))) = let never : is_unit t n ≡ false = spare_unselectable (kind_of t n) (role_of t n) spare in cc

  module _ (apart : AreApart t) (keep : List Bool) (is : keep ≡ truths (stays t (is_unit_of t part)) (size t)) (u : Nodes) (kept : KeepsNodes t keep u) where
    keeps : (n : ℕ) → n < size t → is_kept keep n ≡ stays t (is_unit_of t part) n
    keeps n inside = read_truth keep (stays t (is_unit_of t part)) (size t) n false is inside

    abbrev Upto : ℕ → Type 0
    Upto n = units_below u (new_number keep n) ≡ picked (gets part) 0 (units_below t n)

    number_kept : (n : ℕ) → is_kept keep n ≡ true → new_number keep (suc n) ≡ suc (new_number keep n)
    number_kept n stayed = let more : new_number keep (suc n) ≡ 1 + new_number keep n = ap (λ b. bit b + new_number keep n) stayed in omega arith

    number_left : (n : ℕ) → is_kept keep n ≡ false → new_number keep (suc n) ≡ new_number keep n
    number_left n left = let same : new_number keep (suc n) ≡ 0 + new_number keep n = ap (λ b. bit b + new_number keep n) left in omega arith

    same_unit : (n : ℕ) → n < size t → is_kept keep n ≡ true → is_unit u (new_number keep n) ≡ is_unit t n
    same_unit n inside stayed = ap (λ (o : Option Node). is_selectable (kind_or o) (role_or o)) (kept.told n inside stayed)

    -- one node more that is no unit
    other_more : (n : ℕ) → n < size t → is_unit t n ≡ false → Upto n → Upto (suc n)
    other_more n inside other before = elim (is_or_is_not (is_kept keep n)) [
      | inl stayed ↦
          ap (units_below u) (number_kept n stayed) ∙ units_same u (new_number keep n) (same_unit n inside stayed ∙ other)
          ∙ before ∙ ap (picked (gets part) 0) (sym (units_same t n other))
      | inr left ↦ ap (units_below u) (number_left n left) ∙ before ∙ ap (picked (gets part) 0) (sym (units_same t n other))
    ]

    picks : (n : ℕ) (node : Node) → is_unit t n ≡ true → node_at t n ≡ Some node → picked (gets part) 0 (units_below t (suc n)) ≡ picked (gets part) 0 (units_below t n) ++ cond (gets part (place_of t n) node) (node ∷ []) []
    picks n node unit told = ap (picked (gets part) 0) (units_more t n node unit told) ∙ picked_more (gets part) 0 (place_of t n) (units_below t n) node (let count : length (units_below t n) ≡ place_of t n = count_units t n in omega arith)

    -- one unit more
    unit_more : (n : ℕ) → n < size t → is_unit t n ≡ true → Upto n → Upto (suc n)
    unit_more n inside unit before =
        let node = unit_told t n unit in
        elim (is_or_is_not (gets part (place_of t n) node.0)) [
          | inl mine ↦
              let stayed : is_kept keep n ≡ true = keeps n inside ∙ unit_stays n inside (and_both (is_unit t n) _ unit (ap (gets_told part (place_of t n)) node.1 ∙ mine)) in
              ap (units_below u) (number_kept n stayed)
              ∙ units_more u (new_number keep n) node.0 (same_unit n inside stayed ∙ unit) (kept.told n inside stayed ∙ node.1)
              ∙ ap (λ (xs : List Node). xs ++ node.0 ∷ []) before
              ∙ sym (picks n node.0 unit node.1 ∙ ap (λ b. picked (gets part) 0 (units_below t n) ++ cond b (node.0 ∷ []) []) mine)
          | inr other ↦
              let none : is_unit_of t part n ≡ false = ap₂ (λ b o. b && gets_told part (place_of t n) o) unit node.1 ∙ other in
              let left : is_kept keep n ≡ false = keeps n inside ∙ other_goes apart n inside unit none in
              ap (units_below u) (number_left n left) ∙ before
              ∙ sym (picks n node.0 unit node.1 ∙ ap (λ b. picked (gets part) 0 (units_below t n) ++ cond b (node.0 ∷ []) []) other ∙ append-nil (picked (gets part) 0 (units_below t n)))
        ]

    upto : (n : ℕ) → n ≤ size t → Upto n
    upto zero most = refl
    upto (suc n) most = elim (is_or_is_not (is_unit t n)) [
      | inl unit ↦ unit_more n (omega arith) unit (upto n (omega arith))
      | inr other ↦ other_more n (omega arith) other (upto n (omega arith))
    ]

    pub units_picked : units u ≡ picked (gets part) 0 (units t)
    units_picked = ap (units_below u) kept.counted ∙ upto (size t) (omega arith)

pub same_shard : {E : Type 0} (t : Nodes) (part : Part) (keep : List Bool) → keep ≡ truths (stays t (is_unit_of t part)) (size t) → (r : Result Nodes E) → IfOk r (λ u. u ≡ pruned t keep) → IfOk r (λ u. u ≡ shard t part)
same_shard t part keep is (Ok u) same = same ∙ ap (pruned t) is
same_shard t part keep is (Err e) same = same

-- what a shard keeps are nodes of the tree
pub shard_keeps : (t : Nodes) (tree : IsTree t) (part : Part) → IsClosed t (truths (stays t (is_unit_of t part)) (size t))
shard_keeps t tree part =
    let q = is_unit_of t part in
    let above = truths (is_above t (is_taken t q)) (size t) in
    subst (IsClosed t) (kept_of t tree q above refl) (closed t tree (is_taken t q) above refl)

-- and each where it stood, told of as before
pub shard_kept : (t : Nodes) (tree : IsTree t) (part : Part) → KeepsNodes t (truths (stays t (is_unit_of t part)) (size t)) (shard t part)
shard_kept t tree part = kept_at_end t (shard t part) (truths (stays t (is_unit_of t part)) (size t)) (size t) tree (shard_keeps t tree part) refl refl

pub shard_units : (t : Nodes) (tree : IsTree t) (part : Part) → AreApart t → units (shard t part) ≡ picked (gets part) 0 (units t)
shard_units t tree part apart = units_picked t tree part apart (truths (stays t (is_unit_of t part)) (size t)) refl (shard t part) (shard_kept t tree part)
