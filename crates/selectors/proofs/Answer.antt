-- The nodes that stay are closed upward, and the laws of covering and of tags.
use Rattle.std.proofs.Common.{◌≡◌, ℕ, ◌<◌, Bool, true, false, List, [], ◌∷◌, length, get_or, refl, sym, ap, ◌∙◌, arith, ◌↔◌, eqb}
use Rattle.std.proofs.lemmas.List.Folds.{list_any-append}
use Rattle.std.specs.Prelude.{◌||◌, ◌&&◌}
use Rattle.std.specs.List.{list_any, flat_map}
use Rattle.std.specs.Str.{bytes_eq}
use Rattle.tag_expr.specs.TagSets.{has_tag}
use Rattle.descriptor.specs.Nodes.{Nodes, IsTree, size, parent_of, tags_of}
use Rattle.descriptor.specs.Pruned.{IsClosed}
use Rattle.selectors.specs.declared.selector.Selector.{Selector}
use Rattle.selectors.specs.Covered.{truths}
use Rattle.selectors.specs.Filters.{tags_together, IsTagged}
use Rattle.selectors.specs.Keeping.{stays, is_taken, is_above}
use Rattle.selectors.specs.Lineages.{lineage, is_at_or_below}
use Rattle.selectors.specs.Names.{names, covers, Covers}
use Rattle.selectors.proofs.AtOrBelows.{lineage_found, lineage_has}
use Rattle.selectors.proofs.Marks.{above_up}
use Rattle.selectors.proofs.Staying.{stays_above}
use Rattle.selectors.proofs.Truths.{any_same, truths_same, length_truths, read_truth}

above_same : (t : Nodes) (p q : ℕ → Bool) → ((m : ℕ) → m < size t → p m ≡ q m) → (n : ℕ) → is_above t p n ≡ is_above t q n
above_same t p q same n =
    ap (λ x. eqb n 0 || x) (any_same (λ m. p m && is_at_or_below t n m) (λ m. q m && is_at_or_below t n m) (size t) (λ m h. ap (λ x. x && is_at_or_below t n m) (same m h)))

-- from the list of what is taken to the test
pub above_of : (t : Nodes) (q : ℕ → Bool) (taken keep : List Bool) → taken ≡ truths q (size t) → keep ≡ truths (is_above t (λ m. get_or taken m false)) (size t) → keep ≡ truths (is_above t q) (size t)
above_of t q taken keep is e =
    e ∙ truths_same (is_above t (λ m. get_or taken m false)) (is_above t q) (size t) (λ n h. above_same t (λ m. get_or taken m false) q (λ m inside. read_truth taken q (size t) m false is inside) n)

-- the nodes that are at or above what is taken are those that stay
pub kept_of : (t : Nodes) → IsTree t → (q : ℕ → Bool) (keep : List Bool) → keep ≡ truths (is_above t (is_taken t q)) (size t) → keep ≡ truths (stays t q) (size t)
kept_of t tree q keep is = is ∙ truths_same (is_above t (is_taken t q)) (stays t q) (size t) (λ n inside. sym (stays_above t tree q n inside))

pub closed : (t : Nodes) → IsTree t → (q : ℕ → Bool) (keep : List Bool) → keep ≡ truths (is_above t q) (size t) → IsClosed t keep
closed t tree q keep is = record {
  root = read_truth keep (is_above t q) (size t) 0 false is tree.root ∙ refl;
  up = λ n above inside stayed.
      let less : parent_of t n < n = tree.up n above inside in
      let here : is_above t q n ≡ true = sym (read_truth keep (is_above t q) (size t) n false is inside) ∙ stayed in
      read_truth keep (is_above t q) (size t) (parent_of t n) false is (omega arith)
      ∙ above_up t tree q (parent_of t n) n (record { above_zero = above; inside = inside; parent = refl }) here;
}

pub len_is : (t : Nodes) (q : ℕ → Bool) (keep : List Bool) → keep ≡ truths q (size t) → length keep ≡ size t
len_is t q keep is = ap length is ∙ length_truths q (size t)

pub covers_is : (t : Nodes) → IsTree t → (s : Selector) (n : ℕ) → n < size t → (covers t s n ≡ true) ↔ Covers t s n
covers_is t tree s n inside = (lineage_found t tree (names t s) n inside, λ c. lineage_has t tree (names t s) c.0 n inside c.2 c.1)

tag_in : (t : Nodes) (tag : List ℕ) (path : List ℕ) → has_tag (flat_map (tags_of t) path) tag ≡ list_any (λ n. has_tag (tags_of t n) tag) path
tag_in t tag [] = refl
tag_in t tag (n ∷ path) = list_any-append (λ (other : List ℕ). bytes_eq other tag) (tags_of t n) (flat_map (tags_of t) path) ∙ ap (λ x. has_tag (tags_of t n) tag || x) (tag_in t tag path)

pub tagged_is : (t : Nodes) → IsTree t → (tag : List ℕ) (n : ℕ) → n < size t → (has_tag (tags_together t n) tag ≡ true) ↔ IsTagged t tag n
tagged_is t tree tag n inside = (
  λ h. lineage_found t tree (λ m. has_tag (tags_of t m) tag) n inside (sym (tag_in t tag (lineage t n)) ∙ h),
  λ c. tag_in t tag (lineage t n) ∙ lineage_has t tree (λ m. has_tag (tags_of t m) tag) c.0 n inside c.2 c.1,
)
