-- What a selector covers, from parent to child.
use Rattle.std.proofs.Common.{◌≡◌, ℕ, zero, suc, ◌<◌, Bool, true, false, List, [], ◌∷◌, ◌++◌, ◌+◌, length, refl, sym, ap, ◌∙◌, arith}
use Rattle.std.proofs.lemmas.Grind.{common_steps}
use Rattle.std.specs.Option.{option_or}
use Rattle.std.specs.Prelude.{◌||◌, ◌==◌}
use Rattle.std.specs.List.{list_any}
use Rattle.descriptor.specs.Nodes.{Nodes, IsTree, IsChild, size, parent_of}
use Rattle.selectors.specs.declared.selector.Selector.{Selector}
use Rattle.selectors.specs.Covered.{is_covered, matches, unmatched_from}
use Rattle.selectors.specs.Names.{names, covers}
use Rattle.selectors.proofs.Lineage.{lineage_up}
use Rattle.selectors.proofs.Truths.{or_left, or_false, any_at, any_none, list_any_same, list_any_or}

or_none : (a : Bool) → (a || false) ≡ a
or_none true = refl
or_none false = refl

or_assoc : (a b c : Bool) → (a || (b || c)) ≡ ((a || b) || c)
or_assoc true b c = refl
or_assoc false b c = refl

pub covers_root : (t : Nodes) (s : Selector) → covers t s 0 ≡ names t s 0
covers_root t s = or_none (names t s 0)

module _ (t : Nodes) (tree : IsTree t) where
  pub covers_up : (s : Selector) (n : ℕ) → 0 < n → n < size t → covers t s n ≡ (names t s n || covers t s (parent_of t n))
  covers_up s n above inside = ap (list_any (names t s)) (lineage_up t tree n above inside)

  pub covers_named : (s : Selector) (n : ℕ) → n < size t → names t s n ≡ true → covers t s n ≡ true
  covers_named s zero inside e = covers_root t s ∙ e
  covers_named s (suc n) inside e = covers_up s (suc n) (omega arith) inside ∙ or_left (names t s (suc n)) (covers t s (parent_of t (suc n))) e

  -- where it names none, it covers none
  covers_none : (s : Selector) → ((i : ℕ) → i < size t → names t s i ≡ false) → (k n : ℕ) → n < k → n < size t → covers t s n ≡ false
  covers_none s none zero n less inside = absurd (omega arith)
  covers_none s none (suc k) zero less inside = covers_root t s ∙ none 0 inside
  covers_none s none (suc k) (suc n) less inside =
      let up : parent_of t (suc n) < suc n = tree.up (suc n) (omega arith) inside in
      covers_up s (suc n) (omega arith) inside ∙ or_false (names t s (suc n)) (covers t s (parent_of t (suc n))) (none (suc n) inside) (covers_none s none k (parent_of t (suc n)) (omega arith) (omega arith))

  pub matches_at : (s : Selector) (n : ℕ) → n < size t → names t s n ≡ true → matches t s ≡ true
  matches_at s n inside e = any_at (covers t s) (size t) n inside (covers_named s n inside e)

  pub matches_none : (s : Selector) → ((i : ℕ) → i < size t → names t s i ≡ false) → matches t s ≡ false
  matches_none s none = any_none (covers t s) (size t) (λ n inside. covers_none s none (size t) n inside inside)

  pub covered_root : (ss : List Selector) → is_covered t ss 0 ≡ ((length ss == 0) || list_any (λ (s : Selector). names t s 0) ss)
  covered_root ss = ap (λ x. (length ss == 0) || x) (list_any_same (λ (s : Selector). covers t s 0) (λ (s : Selector). names t s 0) (covers_root t) ss)

  pub covered_up : (ss : List Selector) (n : ℕ) → 0 < n → n < size t → is_covered t ss n ≡ (is_covered t ss (parent_of t n) || list_any (λ (s : Selector). names t s n) ss)
  covered_up ss n above inside =
      ap (λ x. (length ss == 0) || x) (list_any_same (λ (s : Selector). covers t s n) (λ (s : Selector). names t s n || covers t s (parent_of t n)) (λ s. covers_up s n above inside) ss ∙ list_any_or (λ (s : Selector). names t s n) (λ (s : Selector). covers t s (parent_of t n)) ss)
      ∙ or_assoc (length ss == 0) (list_any (λ (s : Selector). covers t s (parent_of t n)) ss) (list_any (λ (s : Selector). names t s n) ss)

  up_of_child : (ss : List Selector) (p n : ℕ) → IsChild t p n → is_covered t ss n ≡ (is_covered t ss p || list_any (λ (s : Selector). names t s n) ss)
  up_of_child ss p n e = covered_up ss n e.above_zero e.inside ∙ ap (λ m. is_covered t ss m || list_any (λ (s : Selector). names t s n) ss) e.parent

  -- a child of a node that is covered
  pub covered_by_parent : (ss : List Selector) (p n : ℕ) (above : Bool) → IsChild t p n → above ≡ is_covered t ss p → above ≡ true → above ≡ is_covered t ss n
  covered_by_parent ss p n above e is covered =
      covered ∙ sym (up_of_child ss p n e ∙ or_left (is_covered t ss p) (list_any (λ (s : Selector). names t s n) ss) (sym is ∙ covered))

  -- a child of a node that is not covered
  pub covered_by_name : (ss : List Selector) (p n : ℕ) (above : Bool) → IsChild t p n → above ≡ is_covered t ss p → above ≡ false → list_any (λ (s : Selector). names t s n) ss ≡ is_covered t ss n
  covered_by_name ss p n above e is not_covered = sym (up_of_child ss p n e ∙ ap (λ x. x || list_any (λ (s : Selector). names t s n) ss) (sym is ∙ not_covered))

-- the first that covers none of two lists in a row
unmatched_append : (t : Nodes) (before : ℕ) (ss others : List Selector) → unmatched_from t before (ss ++ others) ≡ option_or (unmatched_from t before ss) (unmatched_from t (before + length ss) others)
unmatched_append t before [] others = let none : before + length {A = Selector} [] ≡ before = omega arith in ap (λ n. unmatched_from t n others) (sym none)
unmatched_append t before (s ∷ ss) others = by (matches t s) refl (unmatched_append t (before + 1) ss others)
  where
    by : (b : Bool) → matches t s ≡ b
        → unmatched_from t (before + 1) (ss ++ others) ≡ option_or (unmatched_from t (before + 1) ss) (unmatched_from t (before + 1 + length ss) others)
        → unmatched_from t before (s ∷ (ss ++ others)) ≡ option_or (unmatched_from t before (s ∷ ss)) (unmatched_from t (before + length (s ∷ ss)) others)
    by true is rest =
        let one : before + 1 + length ss ≡ before + length (s ∷ ss) = grind (arith, common_steps) in
        rw is (rest ∙ ap (λ n. option_or (unmatched_from t (before + 1) ss) (unmatched_from t n others)) one)
    by false is rest = rw is refl

pub unmatched_both : (t : Nodes) (ss others : List Selector) → unmatched_from t 0 (ss ++ others) ≡ option_or (unmatched_from t 0 ss) (unmatched_from t (length ss) others)
unmatched_both t ss others =
    let none : 0 + length ss ≡ length ss = omega arith in
    unmatched_append t 0 ss others ∙ ap (λ n. option_or (unmatched_from t 0 ss) (unmatched_from t n others)) none
