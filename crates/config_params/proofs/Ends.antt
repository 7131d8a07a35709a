-- The blanks at the ends of a text, taken off one by one.
use Rattle.std.proofs.Common.{◌≡◌, ◌≢◌, ℕ, suc, ◌+◌, ◌-◌, List, [], ◌∷◌, ◌++◌, length, take, drop, reverse, true, false, refl, ap, sym, ◌∙◌, arith, Bor, Option, None, Some, MatchOption}
use Rattle.std.specs.List.{prefix_len, suffix_len}
use Rattle.std.proofs.lemmas.Bool.{ne_eqb}
use Rattle.std.proofs.lemmas.List.{reverse-append, reverse-reverse, take_all, take-append-le, length-append}
use Rattle.config_params.specs.declared.blanks.Blanks.{Blanks}
use Rattle.config_params.specs.declared.blanks.Blanks.TheVariants.{Spaces, SpacesAndTabs}
use Rattle.config_params.specs.Blanks.{is_blank, without_front, without_end}

-- what is no space, and what is neither a space nor a tab
pub no_space : (b : ℕ) → b ≢ 32 → is_blank Spaces b ≡ false
no_space b h = ne_eqb b 32 h

pub no_blank : (b : ℕ) → b ≢ 32 → b ≢ 9 → is_blank SpacesAndTabs b ≡ false
no_blank b h k = rw (ne_eqb b 32 h, ne_eqb b 9 k) refl

-- a text that does not begin with a space
pub front_spaces : (text : List ℕ) → ((rest : List ℕ) → text ≢ 32 ∷ rest) → (b : ℕ) (rest : List ℕ) → text ≡ b ∷ rest → is_blank Spaces b ≡ false
front_spaces text h b rest is = no_space b (λ e. h rest (is ∙ ap (λ x. x ∷ rest) e))

-- and what then stands behind a tab
pub front_tabs : (text : List ℕ) (r : Option (Bor (List ℕ))) → ((rest : List ℕ) → text ≢ 32 ∷ rest) → MatchOption r ((rest : List ℕ) → text ≢ 9 ∷ rest) (λ x. text ≡ 9 ∷ x.now)
    → MatchOption r ((b : ℕ) (rest : List ℕ) → text ≡ b ∷ rest → is_blank SpacesAndTabs b ≡ false) (λ rest. (b : ℕ) × (is_blank SpacesAndTabs b ≡ true) × (text ≡ b ∷ rest.now))
front_tabs text None h k = λ b rest is. no_blank b (λ e. h rest (is ∙ ap (λ x. x ∷ rest) e)) (λ e. k rest (is ∙ ap (λ x. x ∷ rest) e))
front_tabs text (Some x) h k = (9, refl, k)

-- a text that does not end with a space
pub end_spaces : (text : List ℕ) → ((front : List ℕ) → text ≢ front ++ 32 ∷ []) → (b : ℕ) (front : List ℕ) → text ≡ front ++ b ∷ [] → is_blank Spaces b ≡ false
end_spaces text h b front is = no_space b (λ e. h front (is ∙ ap (λ x. front ++ x ∷ []) e))

pub end_tabs : (text : List ℕ) (r : Option (Bor (List ℕ))) → ((front : List ℕ) → text ≢ front ++ 32 ∷ []) → MatchOption r ((front : List ℕ) → text ≢ front ++ 9 ∷ []) (λ x. text ≡ x.now ++ 9 ∷ [])
    → MatchOption r ((b : ℕ) (front : List ℕ) → text ≡ front ++ b ∷ [] → is_blank SpacesAndTabs b ≡ false) (λ front. (b : ℕ) × (is_blank SpacesAndTabs b ≡ true) × (text ≡ front.now ++ b ∷ []))
end_tabs text None h k = λ b front is. no_blank b (λ e. h front (is ∙ ap (λ x. front ++ x ∷ []) e)) (λ e. k front (is ∙ ap (λ x. front ++ x ∷ []) e))
end_tabs text (Some x) h k = (9, refl, k)

drop_first : (n b : ℕ) (rest : List ℕ) → drop (1 + n) (b ∷ rest) ≡ drop n rest
drop_first n b rest = let next : 1 + n ≡ suc n = omega arith in ap (λ k. drop k (b ∷ rest)) next

-- one blank less in front
pub front_step : (blanks : Blanks) (b : ℕ) (text rest : List ℕ) → is_blank blanks b ≡ true → text ≡ b ∷ rest → without_front blanks rest ≡ without_front blanks text
front_step blanks b text rest blank is = sym (ap (without_front blanks) is ∙ rw blank (drop_first (prefix_len (is_blank blanks) rest) b rest))

-- none in front
pub front_done : (blanks : Blanks) (text : List ℕ) → ((b : ℕ) (rest : List ℕ) → text ≡ b ∷ rest → is_blank blanks b ≡ false) → text ≡ without_front blanks text
front_done blanks [] h = refl
front_done blanks (b ∷ rest) h = rw (h b rest refl) refl

-- one blank less at the end
suffix_more : (blanks : Blanks) (b : ℕ) (front : List ℕ) → is_blank blanks b ≡ true → suffix_len (is_blank blanks) (front ++ b ∷ []) ≡ 1 + suffix_len (is_blank blanks) front
suffix_more blanks b front blank =
    ap (prefix_len (is_blank blanks)) (reverse-append front (b ∷ [])) ∙ rw blank refl

shorter : (front : List ℕ) (b s : ℕ) → take (length (front ++ b ∷ []) - (1 + s)) (front ++ b ∷ []) ≡ take (length front - s) front
shorter front b s =
    let n : length (front ++ b ∷ []) - (1 + s) ≡ length front - s = omega (arith, length-append front (b ∷ [])) in
    ap (λ k. take k (front ++ b ∷ [])) n ∙ take-append-le (length front - s) front (b ∷ []) (omega arith)

pub end_step : (blanks : Blanks) (b : ℕ) (text front : List ℕ) → is_blank blanks b ≡ true → text ≡ front ++ b ∷ [] → without_end blanks front ≡ without_end blanks text
end_step blanks b text front blank is =
    sym (ap (without_end blanks) is ∙ ap (λ k. take (length (front ++ b ∷ []) - k) (front ++ b ∷ [])) (suffix_more blanks b front blank) ∙ shorter front b (suffix_len (is_blank blanks) front))

-- none at the end
end_reversed : (blanks : Blanks) (bs : List ℕ) → ((b : ℕ) (front : List ℕ) → reverse bs ≡ front ++ b ∷ [] → is_blank blanks b ≡ false) → prefix_len (is_blank blanks) bs ≡ 0
end_reversed blanks [] h = refl
end_reversed blanks (b ∷ bs) h = rw (h b (reverse bs) (reverse-append (b ∷ []) bs)) refl

pub end_done : (blanks : Blanks) (text : List ℕ) → ((b : ℕ) (front : List ℕ) → text ≡ front ++ b ∷ [] → is_blank blanks b ≡ false) → text ≡ without_end blanks text
end_done blanks text h =
    let none : suffix_len (is_blank blanks) text ≡ 0 = end_reversed blanks (reverse text) (λ b front is. h b front (sym (reverse-reverse text) ∙ is)) in
    sym (take_all (length text - suffix_len (is_blank blanks) text) text (omega arith))
