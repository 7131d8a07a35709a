-- Texts in which a byte does not stand.
use Rattle.std.proofs.Common.{◌≡◌, ℕ, zero, suc, ◌<◌, ◌^◌, ◌==◌, ◌&&◌, not, Bool, true, false, List, [], ◌∷◌, ◌++◌, take, refl, sym, arith, decimal}
use Rattle.std.specs.Char.{is_ascii_digit}
use Rattle.std.specs.List.{AllByRecursion, list_all}
use Rattle.std.proofs.lemmas.Bool.{and_parts, and_from, ne_eqb, not_from_false}
use Rattle.std.proofs.lemmas.Fmt.{digits_decimal}
use Rattle.suite_words.proofs.Numbers.{own}

-- whether byte n does not stand in a text
abbrev pub lacks : ℕ → List ℕ → Bool
lacks n [] = true
lacks n (x ∷ xs) = not (x == n) && lacks n xs

pub lacks_both : (n : ℕ) (xs ys : List ℕ) → lacks n xs ≡ true → lacks n ys ≡ true → lacks n (xs ++ ys) ≡ true
lacks_both n [] ys h k = k
lacks_both n (x ∷ xs) ys h k =
    let p = and_parts (not (x == n)) (lacks n xs) h in
    and_from (not (x == n)) (lacks n (xs ++ ys)) p.0 (lacks_both n xs ys p.1 k)

pub lacks_more : (n x : ℕ) (xs : List ℕ) → (x == n) ≡ false → lacks n xs ≡ true → lacks n (x ∷ xs) ≡ true
lacks_more n x xs h k = and_from (not (x == n)) (lacks n xs) (not_from_false (x == n) h) k

pub lacks_first : (n k : ℕ) (xs : List ℕ) → lacks n xs ≡ true → lacks n (take k xs) ≡ true
lacks_first n zero xs h = refl
lacks_first n (suc k) [] h = refl
lacks_first n (suc k) (x ∷ xs) h =
    let p = and_parts (not (x == n)) (lacks n xs) h in
    and_from (not (x == n)) (lacks n (take k xs)) p.0 (lacks_first n k xs p.1)

pub is_other : (b : Bool) → not b ≡ true → b ≡ false
is_other true h = sym h
is_other false h = refl

pub each_other : (n : ℕ) (xs : List ℕ) → lacks n xs ≡ true → AllByRecursion (λ x. (x == n) ≡ false) xs
each_other n [] h = tt
each_other n (x ∷ xs) h = let p = and_parts (not (x == n)) (lacks n xs) h in (is_other (x == n) p.0, each_other n xs p.1)

pub lacks_each : (n : ℕ) (xs : List ℕ) → AllByRecursion (λ x. (x == n) ≡ false) xs → lacks n xs ≡ true
lacks_each n [] h = refl
lacks_each n (x ∷ xs) h = lacks_more n x xs h.0 (lacks_each n xs h.1)

no_space : (d : ℕ) → is_ascii_digit d ≡ true → (d == 32) ≡ false
no_space d h = ne_eqb d 32 (λ e. grind arith)

no_feed : (d : ℕ) → is_ascii_digit d ≡ true → (d == 10) ≡ false
no_feed d h = ne_eqb d 10 (λ e. grind arith)

digits_lack : (n : ℕ) → ((d : ℕ) → is_ascii_digit d ≡ true → (d == n) ≡ false) → (ds : List ℕ) → list_all is_ascii_digit ds ≡ true → lacks n ds ≡ true
digits_lack n apart [] h = refl
digits_lack n apart (d ∷ ds) h =
    let p = and_parts (is_ascii_digit d) (list_all is_ascii_digit ds) h in
    lacks_more n d ds (apart d p.0) (digits_lack n apart ds p.1)

pub decimal_spaceless : (n : ℕ) → n < 2 ^ 64 → lacks 32 (decimal n) ≡ true
decimal_spaceless n h = digits_lack 32 no_space (decimal n) (digits_decimal own n h)

pub decimal_flat : (n : ℕ) → n < 2 ^ 64 → lacks 10 (decimal n) ≡ true
decimal_flat n h = digits_lack 10 no_feed (decimal n) (digits_decimal own n h)
