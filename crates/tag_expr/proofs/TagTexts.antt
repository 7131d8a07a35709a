-- The texts beside the tags of a set.
use Rattle.std.proofs.Common.{◌≡◌, ℕ, Bool, true, false, cond, List, [], ◌∷◌, ◌++◌, refl, ap, sym, ◌∙◌, String, Global}
use Rattle.std.specs.Prelude.{◌||◌}
use Rattle.std.specs.List.Sorted.{IsPermutation}
use Rattle.std.specs.Str.{bytes_eq}
use Rattle.std.specs.HashSet.{HashSet, UpdatesBy}
use Rattle.std.specs.String.{string_bytes, string_eq}
use Rattle.std.proofs.lemmas.List.Folds.{list_any-append}
use Rattle.std.proofs.lemmas.List.Sorted.{list_any-IsPermutation}
use Rattle.std.proofs.lemmas.Map.Text.{hash_set_updates_text}
use Rattle.tag_expr.specs.TagSets.{has_tag}
use Rattle.tag_expr.specs.Inside.TagTableFields.{HasTexts}

or_cond : (a b : Bool) → (a || (b || false)) ≡ cond b true a
or_cond true true = refl
or_cond true false = refl
or_cond false true = refl
or_cond false false = refl

has_tag_grown : (tags : List (List ℕ)) (tag key : List ℕ) → has_tag (tags ++ tag ∷ []) key ≡ cond (bytes_eq tag key) true (has_tag tags key)
has_tag_grown tags tag key = list_any-append (λ (other : List ℕ). bytes_eq other key) tags (tag ∷ []) ∙ or_cond (has_tag tags key) (bytes_eq tag key)

module _ {S : Type 0} where
  -- the texts in another order
  pub texts_kept : (tags : List (List ℕ)) (s n : HashSet (String Global) S) → HasTexts tags s → IsPermutation s.keys n.keys → HasTexts tags n
  texts_kept tags s n was order key = sym (list_any-IsPermutation (λ (k : String Global). bytes_eq key (string_bytes k)) s.keys n.keys order) ∙ was key

  -- one more tag and its text
  pub texts_grown : (tags more : List (List ℕ)) (tag text : List ℕ) (s n : HashSet (String Global) S) → more ≡ tags ++ tag ∷ [] → text ≡ tag
      → HasTexts tags s → UpdatesBy string_eq (λ k. bytes_eq text (string_bytes k)) s n true → HasTexts more n
  texts_grown tags more tag text s n grown same was updates key =
      hash_set_updates_text text s n true updates key ∙ ap (cond (bytes_eq text key) true) (was key) ∙ ap (λ x. cond (bytes_eq x key) true (has_tag tags key)) same
      ∙ sym (has_tag_grown tags tag key) ∙ ap (λ x. has_tag x key) (sym grown)

  -- the texts of tags are those of equal tags
  pub texts_as : (tags more : List (List ℕ)) (s : HashSet (String Global) S) → tags ≡ more → HasTexts tags s → HasTexts more s
  texts_as tags more s same was key = was key ∙ ap (λ x. has_tag x key) same
