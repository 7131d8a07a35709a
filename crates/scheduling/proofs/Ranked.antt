-- The number that passes and has so many before it stands at that place of the list of those that pass.
use Rattle.std.proofs.Common.{◌≡◌, ℕ, zero, suc, ◌<◌, Bool, true, false, ◌&&◌, ◌==◌, cond, List, [], ◌∷◌, ◌++◌, length, Some, slice_get, refl, sym, ap, ◌∙◌, arith, inl, inr, ◌⊎◌, subst}
use Rattle.std.proofs.lemmas.Bool.{cases_lt, eq-eqb, ne_eqb, and_from}
use Rattle.std.proofs.lemmas.Option.{slice_get_past}
use Rattle.descriptor.specs.Nodes.{numbers_where, count_below}
use Rattle.descriptor.proofs.Children.{counted}
use Rattle.descriptor.proofs.Counts.{count_increases, count_reached}
use Rattle.scheduling.specs.Choices.{first_from}
use Rattle.scheduling.proofs.Finding.{first_is, none_is}

get_early : (xs ys : List ℕ) (i c : ℕ) → slice_get xs i ≡ Some c → slice_get (xs ++ ys) i ≡ Some c
get_early [] ys i c e = absurd (cc)
get_early (x ∷ xs) ys zero c e = e
get_early (x ∷ xs) ys (suc i) c e = get_early xs ys i c e

get_last : (b : Bool) (xs : List ℕ) (n : ℕ) → b ≡ true → slice_get (xs ++ cond b (n ∷ []) []) (length xs) ≡ Some n
get_last true [] n e = refl
get_last false [] n e = absurd (cc)
get_last b (x ∷ xs) n e = get_last b xs n e

last_or_before : (n c : ℕ) → c < suc n → (c < n) ⊎ (c ≡ n)
last_or_before n c h = grind arith

-- two tests of which the second fails where the first one holds
and_false : (a b : Bool) → (a ≡ true → b ≡ false) → (a && b) ≡ false
and_false true b s = s refl
and_false false b s = refl

module _ (q : ℕ → Bool) where
  get_at : (n m : ℕ) → m < n → q m ≡ true → slice_get (numbers_where q n) (count_below q m) ≡ Some m
  get_at zero m less e = absurd (omega (arith, less))
  get_at (suc n) m less e =
      elim (last_or_before n m less) [
        | inl before ↦ get_early (numbers_where q n) (cond (q n) (n ∷ []) []) (count_below q m) m (get_at n m before e)
        | inr here ↦ subst (λ (x : ℕ). slice_get (numbers_where q (suc n)) (count_below q x) ≡ Some x) (sym here)
            (ap (slice_get (numbers_where q (suc n))) (sym (counted q n)) ∙ get_last (q n) (numbers_where q n) n (subst (λ (x : ℕ). q x ≡ true) here e))
      ]

  -- whether k others that pass stand before c
  abbrev pub ranked : ℕ → ℕ → Bool
  ranked k c = q c && (count_below q c == k)

  pub ranked_at : (n k : ℕ) → first_from (ranked k) 0 n ≡ slice_get (numbers_where q n) k
  ranked_at n k =
      elim (cases_lt k (count_below q n)) [
        | inl inside ↦
            let at = count_reached q n k inside in
            let less : at.0 < n = at.1.0 in
            let passes : q at.0 ≡ true = at.1.1 in
            let here : count_below q at.0 ≡ k = at.1.2 in
            first_is (ranked k) 0 n at.0 (record {
              passes = and_from (q at.0) (count_below q at.0 == k) passes (eq-eqb (count_below q at.0) k here);
              low = omega arith;
              high = less;
              none_before = λ x low high. and_false (q x) (count_below q x == k) (λ pass. ne_eqb (count_below q x) k (λ same. (let fewer = count_increases q x at.0 high pass in omega (arith, fewer, here, same))));
            }) ∙ sym (ap (slice_get (numbers_where q n)) (sym here) ∙ get_at n at.0 less passes)
        | inr past ↦
            none_is (ranked k) 0 n (λ x low high. and_false (q x) (count_below q x == k) (λ pass. ne_eqb (count_below q x) k (λ same. (let fewer = count_increases q x n high pass in omega (arith, fewer, past, same)))))
            ∙ sym (slice_get_past (numbers_where q n) k (let many = counted q n in omega (arith, many, past)))
      ]
