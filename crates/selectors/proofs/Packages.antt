-- Texts that begin with the name of a package and a dot.
use Rattle.std.proofs.Common.{◌≡◌, ◌≢◌, ℕ, false, List, [], ◌∷◌, ◌++◌, refl, sym, ◌∙◌, ap, append_assoc, Some, drop, length, eqb, codes}
use Rattle.std.proofs.lemmas.Bool.Decides.{Decides-eqb}
use Rattle.std.proofs.lemmas.List.{append_cancel_left}
use Rattle.std.proofs.lemmas.Slice.Eq.{starts_is}
use Rattle.std.specs.List.{starts_with}
use Rattle.unique_id.specs.declared.unique_id.Segment.{Segment}
use Rattle.selectors.specs.Names.{is_class_in}
use Rattle.selectors.proofs.Truths.{same_truth, never}

dotted : (value name rest : List ℕ) → value ≡ name ++ rest → starts_with eqb rest (46 ∷ []) ≡ starts_with eqb value (name ++ 46 ∷ [])
dotted value name rest e =
    let after = starts_is Decides-eqb rest (46 ∷ []) (starts_with eqb rest (46 ∷ [])) refl in
    let whole = starts_is Decides-eqb value (name ++ 46 ∷ []) (starts_with eqb value (name ++ 46 ∷ [])) refl in
    same_truth (starts_with eqb rest (46 ∷ [])) (starts_with eqb value (name ++ 46 ∷ []))
    (λ h. whole.1 (drop 1 rest) (e ∙ ap (λ x. name ++ x) (after.0 h) ∙ sym (append_assoc name (46 ∷ []) (drop 1 rest))))
    (λ h. after.1 (drop (length (name ++ 46 ∷ [])) value) (append_cancel_left name rest (46 ∷ drop (length (name ++ 46 ∷ [])) value) (sym e ∙ whole.0 h ∙ append_assoc name (46 ∷ []) (drop (length (name ++ 46 ∷ [])) value))))

undotted : (value name : List ℕ) → ((rest : List ℕ) → value ≢ name ++ rest) → starts_with eqb value (name ++ 46 ∷ []) ≡ false
undotted value name none =
    let whole = starts_is Decides-eqb value (name ++ 46 ∷ []) (starts_with eqb value (name ++ 46 ∷ [])) refl in
    never (starts_with eqb value (name ++ 46 ∷ [])) (λ h. none (46 ∷ drop (length (name ++ 46 ∷ [])) value) (whole.0 h ∙ append_assoc name (46 ∷ []) (drop (length (name ++ 46 ∷ [])) value)))

pub class_in : (s : Segment) (name rest : List ℕ) → s.kind ≡ codes "class" → s.value ≡ name ++ rest → starts_with eqb rest (46 ∷ []) ≡ is_class_in name (Some s)
class_in s name rest kind e = rw kind (dotted s.value name rest e)

pub class_not_in : (s : Segment) (name : List ℕ) → s.kind ≡ codes "class" → ((rest : List ℕ) → s.value ≢ name ++ rest) → false ≡ is_class_in name (Some s)
class_not_in s name kind none = rw kind (sym (undotted s.value name none))
