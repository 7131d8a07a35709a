-- Texts that go on with a slash behind another one.
use Rattle.std.proofs.Common.{◌≡◌, ◌≢◌, ℕ, Bool, true, false, List, [], ◌∷◌, ◌++◌, refl, sym, ◌∙◌, ap, append_assoc, drop, length, eqb}
use Rattle.std.proofs.lemmas.Bool.Decides.{Decides-eqb}
use Rattle.std.proofs.lemmas.List.{append_cancel_left}
use Rattle.std.proofs.lemmas.Slice.Eq.{starts_is}
use Rattle.std.specs.List.{starts_with}

same_truth : (a b : Bool) → (a ≡ true → b ≡ true) → (b ≡ true → a ≡ true) → a ≡ b
same_truth true b h k = sym (h refl)
same_truth false true h k = k refl
same_truth false false h k = refl

never : (a : Bool) → (a ≡ true → ⊥) → a ≡ false
never true h = absurd (h refl)
never false h = refl

pub slashed : (text front rest : List ℕ) → text ≡ front ++ rest → starts_with eqb rest (47 ∷ []) ≡ starts_with eqb text (front ++ 47 ∷ [])
slashed text front rest e =
    let after = starts_is Decides-eqb rest (47 ∷ []) (starts_with eqb rest (47 ∷ [])) refl in
    let whole = starts_is Decides-eqb text (front ++ 47 ∷ []) (starts_with eqb text (front ++ 47 ∷ [])) refl in
    same_truth (starts_with eqb rest (47 ∷ [])) (starts_with eqb text (front ++ 47 ∷ []))
    (λ h. whole.1 (drop 1 rest) (e ∙ ap (λ x. front ++ x) (after.0 h) ∙ sym (append_assoc front (47 ∷ []) (drop 1 rest))))
    (λ h. after.1 (drop (length (front ++ 47 ∷ [])) text) (append_cancel_left front rest (47 ∷ drop (length (front ++ 47 ∷ [])) text) (sym e ∙ whole.0 h ∙ append_assoc front (47 ∷ []) (drop (length (front ++ 47 ∷ [])) text))))

pub unslashed : (text front : List ℕ) → ((rest : List ℕ) → text ≢ front ++ rest) → starts_with eqb text (front ++ 47 ∷ []) ≡ false
unslashed text front none =
    let whole = starts_is Decides-eqb text (front ++ 47 ∷ []) (starts_with eqb text (front ++ 47 ∷ [])) refl in
    never (starts_with eqb text (front ++ 47 ∷ [])) (λ h. none (47 ∷ drop (length (front ++ 47 ∷ [])) text) (whole.0 h ∙ append_assoc front (47 ∷ []) (drop (length (front ++ 47 ∷ [])) text)))
