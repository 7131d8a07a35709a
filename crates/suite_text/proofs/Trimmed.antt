-- A text between bytes that pass a test, and such bytes taken off its ends.
use Rattle.std.proofs.Common.{◌≡◌, ℕ, ◌+◌, ◌-◌, List, [], ◌∷◌, ◌++◌, length, reverse, take, drop, Bool, true, false, cond, refl, ap, sym, subst, ◌∙◌, arith, length-append, append-nil}
use Rattle.std.specs.List.{AllByRecursion, prefix_len, suffix_len}
use Rattle.std.proofs.lemmas.List.{take_at, drop_at, drop-drop, reverse-append, length-reverse}

module _ (p : ℕ → Bool) where
  abbrev Pass : List ℕ → Type 0
  Pass text = AllByRecursion (λ byte. p byte ≡ true) text

  pass_both : (xs ys : List ℕ) → Pass xs → Pass ys → Pass (xs ++ ys)
  pass_both [] ys h k = k
  pass_both (x ∷ xs) ys h k = (h.0, pass_both xs ys h.1 k)

  pub pass_reverse : (xs : List ℕ) → Pass xs → Pass (reverse xs)
  pass_reverse [] h = tt
  pass_reverse (x ∷ xs) h = subst Pass (sym (reverse-append (x ∷ []) xs)) (pass_both (reverse xs) (x ∷ []) (pass_reverse xs h.1) (h.0, tt))

  prefix_is : (xs bs : List ℕ) → Pass xs → prefix_len p (xs ++ bs) ≡ length xs + prefix_len p bs
  prefix_is [] bs h = omega arith
  prefix_is (x ∷ xs) bs h =
      let first = ap (λ b. cond b (1 + prefix_len p (xs ++ bs)) 0) h.0 in
      let more = prefix_is xs bs h.1 in
      omega (arith, first, more)

  abbrev pub from_front : List ℕ → List ℕ
  from_front text = drop (prefix_len p text) text

  abbrev pub to_end : List ℕ → List ℕ
  to_end text = take (length text - suffix_len p text) text

  -- they are taken off in front
  pub front_passes : (xs bs : List ℕ) → Pass xs → from_front (xs ++ bs) ≡ from_front bs
  front_passes xs bs h =
      ap (λ k. drop k (xs ++ bs)) (prefix_is xs bs h) ∙ sym (drop-drop (prefix_len p bs) (length xs) (xs ++ bs)) ∙ ap (drop (prefix_len p bs)) (drop_at xs bs _ refl)

  -- a text that does not begin with one stays, whatever follows
  pub front_kept : (x : ℕ) (xs bs : List ℕ) → prefix_len p (x ∷ xs) ≡ 0 → from_front (x ∷ (xs ++ bs)) ≡ x ∷ (xs ++ bs)
  front_kept x xs bs h = by (p x) refl
    where
      by : (z : Bool) → p x ≡ z → from_front (x ∷ (xs ++ bs)) ≡ x ∷ (xs ++ bs)
      by true e = let some = ap (λ b. cond b (1 + prefix_len p xs) 0) e in absurd (omega (arith, some, h))
      by false e = ap (λ b. drop (cond b (1 + prefix_len p (xs ++ bs)) 0) (x ∷ (xs ++ bs))) e

  -- they are taken off at the end
  pub end_is : (text bs : List ℕ) → Pass bs → suffix_len p text ≡ 0 → to_end (text ++ bs) ≡ text
  end_is text bs h last =
      let turned : suffix_len p (text ++ bs) ≡ length (reverse bs) + suffix_len p text = ap (prefix_len p) (reverse-append text bs) ∙ prefix_is (reverse bs) (reverse text) (pass_reverse bs h) in
      let all = length-append text bs in
      let same = length-reverse bs in
      let left : length (text ++ bs) - suffix_len p (text ++ bs) ≡ length text = omega (arith, turned, all, same, last) in
      ap (λ k. take k (text ++ bs)) left ∙ take_at text bs _ refl

  -- a text between them
  pub between : (front text back : List ℕ) → Pass front → Pass back → prefix_len p text ≡ 0 → suffix_len p text ≡ 0 → to_end (from_front (front ++ (text ++ back))) ≡ text
  between front [] back h k first last = ap to_end (front_passes front back h ∙ ap from_front (sym (append-nil back)) ∙ front_passes back [] k)
  between front (x ∷ xs) back h k first last = ap to_end (front_passes front (x ∷ (xs ++ back)) h ∙ front_kept x xs back first) ∙ end_is (x ∷ xs) back k last
