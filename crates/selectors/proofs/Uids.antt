-- A unique id names its node, and where this is a spare, its factory.
use Rattle.std.proofs.Common.{◌≡◌, ℕ, zero, suc, ◌<◌, true, List, [], ◌∷◌, refl, sym, ap, ◌∙◌, inl, inr, ◌↔◌, Option, Some, None, get_or, length}
use Rattle.std.proofs.lemmas.List.Folds.{Any-from_list_any, list_any_at}
use Rattle.std.proofs.lemmas.Option.{slice_get-get_or, slice_get_within}
use Rattle.std.proofs.lemmas.Slice.Eq.{bytes_eq-Decides}
use Rattle.std.specs.Prelude.{slice_get}
use Rattle.std.specs.List.{list_any}
use Rattle.unique_id.specs.Spelling.{spelling}
use Rattle.unique_id.specs.declared.unique_id.Segment.{Segment}
use Rattle.descriptor.proofs.Children.{children_listed, children_each}
use Rattle.descriptor.specs.Nodes.{Nodes, IsTree, IsChild, children_of, text_of, is_factory_at, is_spare_at}
use Rattle.selectors.specs.declared.selector.Selector.TheVariants.{Uid}
use Rattle.selectors.specs.ClassNames.{is_text}
use Rattle.selectors.specs.Names.{names, has_spare, HasIdOrSpare}
use Rattle.selectors.proofs.Marks.{and_both, and_parts}
use Rattle.selectors.proofs.Truths.{or_left, or_right, or_cases}

text_told : (text : Option (List ℕ)) (other : List ℕ) → is_text text other ≡ true → text ≡ Some other
text_told None other h = absurd (cc)
text_told (Some text) other h = ap Some ((bytes_eq-Decides text other).0 h)

text_as : (text : Option (List ℕ)) (other : List ℕ) → text ≡ Some other → is_text text other ≡ true
text_as None other h = absurd (cc)
text_as (Some text) other h = (bytes_eq-Decides text other).1 (cc)

got : (xs : List ℕ) (i c : ℕ) → slice_get xs i ≡ Some c → get_or xs i c ≡ c
got [] i c h = refl
got (x ∷ xs) zero c h = cc
got (x ∷ xs) (suc i) c h = got xs i c h

-- a child that stands in the list at a place
pub child_at : (t : Nodes) (n i c : ℕ) → i < length (children_of t n) → c ≡ get_or (children_of t n) i c → IsChild t n c
child_at t n i c inside is = children_listed t n i c (slice_get-get_or (children_of t n) i c inside ∙ ap Some (sym is))

module _ (t : Nodes) (tree : IsTree t) (text : List ℕ) where
  spare_told : (n : ℕ) → has_spare t text n ≡ true → (c : ℕ) × IsChild t n c × (is_spare_at t c ≡ true) × (text_of t c ≡ Some text)
  spare_told n h =
      let both = and_parts (is_factory_at t n) (list_any (λ (c : ℕ). is_text (text_of t c) text) (children_of t n)) h in
      let any = Any-from_list_any (λ (c : ℕ). is_text (text_of t c) text) (children_of t n) both.1 in
      let e : IsChild t n any.1 = child_at t n any.0 any.1 any.2 (sym any.3) in
      (any.1, e, tree.spares n any.1 e ∙ both.0, text_told (text_of t any.1) text any.4)

  spare_as : (n c : ℕ) → IsChild t n c → is_spare_at t c ≡ true → text_of t c ≡ Some text → has_spare t text n ≡ true
  spare_as n c e spare has =
      let at = children_each t n c e in
      let inside = slice_get_within (children_of t n) at.0 c at.1 in
      let here : get_or (children_of t n) at.0 c ≡ c = got (children_of t n) at.0 c at.1 in
      and_both (is_factory_at t n) (list_any (λ (c : ℕ). is_text (text_of t c) text) (children_of t n)) (sym (tree.spares n c e) ∙ spare)
      (list_any_at (λ (c : ℕ). is_text (text_of t c) text) (children_of t n) at.0 c inside (ap (λ (m : ℕ). is_text (text_of t m) text) here ∙ text_as (text_of t c) text has))

pub names_id : (t : Nodes) → IsTree t → (id : List Segment) (n : ℕ) → (names t (Uid id) n ≡ true) ↔ HasIdOrSpare t id n
names_id t tree id n = (
  λ h. elim (or_cases (is_text (text_of t n) (spelling id)) (has_spare t (spelling id) n) h) [
    | inl own ↦ inl (text_told (text_of t n) (spelling id) own)
    | inr spare ↦ inr (spare_told t tree (spelling id) n spare)
  ],
  λ has. elim has [
    | inl own ↦ or_left (is_text (text_of t n) (spelling id)) (has_spare t (spelling id) n) (text_as (text_of t n) (spelling id) own)
    | inr below ↦ or_right (is_text (text_of t n) (spelling id)) (has_spare t (spelling id) n) (spare_as t tree (spelling id) n below.0 below.1 below.2 below.3)
  ],
)
