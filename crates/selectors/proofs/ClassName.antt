-- A node's class name from its parent's, and what that says of a text.
use Rattle.std.proofs.Common.{◌≡◌, ℕ, ◌<◌, List, ◌∷◌, ◌++◌, refl, ap, sym, ◌∙◌, arith, Some, None, Option, codes}
use Rattle.std.proofs.lemmas.List.{append_cancel_right}
use Rattle.std.proofs.lemmas.Slice.Eq.{bytes_eq-Decides}
use Rattle.std.specs.Str.{bytes_eq}
use Rattle.unique_id.specs.declared.unique_id.Segment.{Segment}
use Rattle.descriptor.specs.Nodes.{Nodes, IsTree, size, parent_of, IsChild}
use Rattle.selectors.specs.ClassNames.{is_text, nested_name, name_below, name_along, class_name, last_segment}
use Rattle.selectors.proofs.Lineage.{lineage_up}
use Rattle.selectors.proofs.Truths.{same_truth}

pub class_name_up : (t : Nodes) → IsTree t → (n : ℕ) → 0 < n → n < size t → class_name t n ≡ name_below (class_name t (parent_of t n)) (last_segment t n)
class_name_up t tree n above inside = ap (name_along t) (lineage_up t tree n above inside)

pub nested_text : (above : Option (List ℕ)) (value name left : List ℕ) → name ≡ left ++ 36 ∷ value → is_text (nested_name above value) name ≡ is_text above left
nested_text None value name left e = refl
nested_text (Some outer) value name left e =
    same_truth (bytes_eq (outer ++ 36 ∷ value) name) (bytes_eq outer left)
    (λ h. (bytes_eq-Decides outer left).1 (append_cancel_right outer left (36 ∷ value) ((bytes_eq-Decides (outer ++ 36 ∷ value) name).0 h ∙ e)))
    (λ h. (bytes_eq-Decides (outer ++ 36 ∷ value) name).1 (ap (λ x. x ++ 36 ∷ value) ((bytes_eq-Decides outer left).0 h) ∙ sym e))

pub name_nested : (above : Option (List ℕ)) (s : Segment) → s.kind ≡ codes "nested-class" → name_below above (Some s) ≡ nested_name above s.value
name_nested above s e = rw e refl

module _ (t : Nodes) (tree : IsTree t) (n p : ℕ) (s : Segment) (e : IsChild t p n) (last : last_segment t n ≡ Some s) where
  pub up_to : class_name t n ≡ name_below (class_name t p) (Some s)
  up_to = class_name_up t tree n e.above_zero e.inside ∙ ap (λ m. name_below (class_name t m) (last_segment t n)) e.parent ∙ ap (name_below (class_name t p)) last

  pub parent_inside : p < size t
  parent_inside = let less : parent_of t n < n = tree.up n e.above_zero e.inside in omega (arith, e.parent, e.inside)

  pub told_nested : (name left : List ℕ) → s.kind ≡ codes "nested-class" → name ≡ left ++ 36 ∷ s.value → is_text (class_name t n) name ≡ is_text (class_name t p) left
  told_nested name left kind split = ap (λ x. is_text x name) (up_to ∙ name_nested (class_name t p) s kind) ∙ nested_text (class_name t p) s.value name left split
