-- The spaces at the ends of a text, taken off one by one.
use Rattle.std.proofs.Common.{◌≡◌, ◌≢◌, ℕ, ◌-◌, List, [], ◌∷◌, ◌++◌, length, reverse, Bool, true, false, ◌==◌, refl, ap, sym, subst, ◌∙◌, arith}
use Rattle.std.specs.List.{prefix_len, suffix_len}
use Rattle.std.proofs.lemmas.Bool.{eqb-true}
use Rattle.std.proofs.lemmas.List.{reverse-append, reverse-reverse, take_all}
use Rattle.suite_words.specs.Reading.Lines.{without_end}
use Rattle.suite_words.specs.Words.{is_space}

front_byte : (b : ℕ) (bs : List ℕ) (t : Bool) → (b == 32) ≡ t → ((rest : List ℕ) → b ∷ bs ≢ 32 ∷ rest) → prefix_len is_space (b ∷ bs) ≡ 0
front_byte b bs true e h = absurd (h bs (ap (λ c. c ∷ bs) (eqb-true b 32 e)))
front_byte b bs false e h = rw e refl

-- a text that has no space in front
pub no_front : (bs : List ℕ) → ((rest : List ℕ) → bs ≢ 32 ∷ rest) → prefix_len is_space bs ≡ 0
no_front [] h = refl
no_front (b ∷ bs) h = front_byte b bs (b == 32) refl h

end_byte : (b : ℕ) (bs : List ℕ) (t : Bool) → (b == 32) ≡ t → ((front : List ℕ) → reverse (b ∷ bs) ≢ front ++ 32 ∷ []) → prefix_len is_space (b ∷ bs) ≡ 0
end_byte b bs true e h = absurd (h (reverse bs) (reverse-append (b ∷ []) bs ∙ ap (λ c. reverse bs ++ c ∷ []) (eqb-true b 32 e)))
end_byte b bs false e h = rw e refl

no_end_reversed : (bs : List ℕ) → ((front : List ℕ) → reverse bs ≢ front ++ 32 ∷ []) → prefix_len is_space bs ≡ 0
no_end_reversed [] h = refl
no_end_reversed (b ∷ bs) h = end_byte b bs (b == 32) refl h

-- a text that has no space at its end stays as it is
pub no_end : (bs : List ℕ) → ((front : List ℕ) → bs ≢ front ++ 32 ∷ []) → without_end bs ≡ bs
no_end bs h =
    let none : suffix_len is_space bs ≡ 0 = no_end_reversed (reverse bs) (subst (λ (l : List ℕ). (front : List ℕ) → l ≢ front ++ 32 ∷ []) (sym (reverse-reverse bs)) h) in
    take_all (length bs - suffix_len is_space bs) bs (omega arith)
