-- Tests of the numbers below a bound, and lists of their answers.
use Rattle.std.proofs.Common.{◌≡◌, ◌≢◌, ℕ, zero, suc, ◌+◌, ◌<◌, Bool, true, false, List, [], ◌∷◌, ◌++◌, length, get_or, refl, sym, ap, ◌∙◌, arith, add-one, inl, inr, ◌⊎◌}
use Rattle.std.proofs.lemmas.Grind.{common_steps}
use Rattle.std.specs.List.{list_any}
use Rattle.std.specs.Prelude.{◌||◌}
use Rattle.selectors.specs.Covered.{any_below, truths}

-- two truth values with one meaning
pub same_truth : (a b : Bool) → (a ≡ true → b ≡ true) → (b ≡ true → a ≡ true) → a ≡ b
same_truth true true f g = refl
same_truth true false f g = sym (f refl)
same_truth false true f g = g refl
same_truth false false f g = refl

-- a truth value that cannot be true
pub never : (a : Bool) → a ≢ true → a ≡ false
never true f = absurd (f refl)
never false f = refl

pub or_right : (a b : Bool) → b ≡ true → (a || b) ≡ true
or_right true b h = refl
or_right false b h = h

pub or_left : (a b : Bool) → a ≡ true → (a || b) ≡ true
or_left true b h = refl
or_left false b h = absurd (cc)

pub or_cases : (a b : Bool) → (a || b) ≡ true → (a ≡ true) ⊎ (b ≡ true)
or_cases true b h = inl refl
or_cases false b h = inr h

pub or_false : (a b : Bool) → a ≡ false → b ≡ false → (a || b) ≡ false
or_false true b h g = h
or_false false b h g = g

below_or_at : (i n : ℕ) → i < suc n → (i < n) ⊎ (i ≡ n)
below_or_at i n h = grind arith

pub any_at : (q : ℕ → Bool) (n i : ℕ) → i < n → q i ≡ true → any_below q n ≡ true
any_at q zero i h e = absurd (omega arith)
any_at q (suc n) i h e = elim (below_or_at i n h) [
  | inl less ↦ or_right (q n) (any_below q n) (any_at q n i less e)
  | inr same ↦ or_left (q n) (any_below q n) (ap q (sym same) ∙ e)
]

pub any_found : (q : ℕ → Bool) (n : ℕ) → any_below q n ≡ true → (i : ℕ) × (i < n) × (q i ≡ true)
any_found q zero e = absurd (cc)
any_found q (suc n) e = elim (or_cases (q n) (any_below q n) e) [
  | inl here ↦ (n, omega arith, here)
  | inr before ↦ let found = any_found q n before in (found.0, omega (arith, found.1), found.2)
]

pub any_none : (q : ℕ → Bool) (n : ℕ) → ((i : ℕ) → i < n → q i ≡ false) → any_below q n ≡ false
any_none q zero none = refl
any_none q (suc n) none = or_false (q n) (any_below q n) (none n (omega arith)) (any_none q n (λ i h. none i (omega arith)))

pub none_at : (q : ℕ → Bool) (n i : ℕ) → any_below q n ≡ false → i < n → q i ≡ false
none_at q n i none h = never (q i) (λ e. let found : any_below q n ≡ true = any_at q n i h e in cc)

pub none_more : (q : ℕ → Bool) (n : ℕ) → any_below q n ≡ false → q n ≡ false → any_below q (n + 1) ≡ false
none_more q n before here = rw (add-one, before, here) refl

pub length_truths : (q : ℕ → Bool) (n : ℕ) → length (truths q n) ≡ n
length_truths q zero = refl
length_truths q (suc n) = let before : length (truths q n) ≡ n = length_truths q n in grind (arith, common_steps)

pub inside_truths : (xs : List Bool) (q : ℕ → Bool) (n i : ℕ) → xs ≡ truths q n → i < n → i < length xs
inside_truths xs q n i e h = let len : length (truths q n) ≡ n = length_truths q n in omega (arith, ap length e)

pub truth_at : (q : ℕ → Bool) (n i : ℕ) (d : Bool) → i < n → get_or (truths q n) i d ≡ q i
truth_at q zero i d h = absurd (omega arith)
truth_at q (suc n) i d h =
    let len : length (truths q n) ≡ n = length_truths q n in
    elim (below_or_at i n h) [
      | inl less ↦ let before : get_or (truths q n) i d ≡ q i = truth_at q n i d less in grind (arith, common_steps)
      | inr same ↦ grind (arith, common_steps)
    ]

swap_or : (a b c d : Bool) → ((a || b) || (c || d)) ≡ ((b || c) || (a || d))
swap_or true true c d = refl
swap_or true false true d = refl
swap_or true false false d = refl
swap_or false true c d = refl
swap_or false false true d = refl
swap_or false false false d = refl

pub read_truth : (xs : List Bool) (q : ℕ → Bool) (n i : ℕ) (d : Bool) → xs ≡ truths q n → i < n → get_or xs i d ≡ q i
read_truth xs q n i d e h = ap (λ ys. get_or ys i d) e ∙ truth_at q n i d h

module _ {X : Type 0} where
  pub list_any_same : (f g : X → Bool) → ((x : X) → f x ≡ g x) → (xs : List X) → list_any f xs ≡ list_any g xs
  list_any_same f g same [] = refl
  list_any_same f g same (x ∷ xs) = let here : f x ≡ g x = same x in let rest : list_any f xs ≡ list_any g xs = list_any_same f g same xs in cc

  pub list_any_or : (f g : X → Bool) (xs : List X) → list_any (λ x. f x || g x) xs ≡ (list_any g xs || list_any f xs)
  list_any_or f g [] = refl
  list_any_or f g (x ∷ xs) = ap (λ rest. (f x || g x) || rest) (list_any_or f g xs) ∙ swap_or (f x) (g x) (list_any g xs) (list_any f xs)

pub any_same : (f g : ℕ → Bool) (n : ℕ) → ((i : ℕ) → i < n → f i ≡ g i) → any_below f n ≡ any_below g n
any_same f g zero same = refl
any_same f g (suc n) same =
    let here : f n ≡ g n = same n (omega arith) in
    let before : any_below f n ≡ any_below g n = any_same f g n (λ i h. same i (omega arith)) in
    cc

pub truths_same : (f g : ℕ → Bool) (n : ℕ) → ((i : ℕ) → i < n → f i ≡ g i) → truths f n ≡ truths g n
truths_same f g zero same = refl
truths_same f g (suc n) same =
    let here : f n ≡ g n = same n (omega arith) in
    let before : truths f n ≡ truths g n = truths_same f g n (λ i h. same i (omega arith)) in
    cc

pub truths_more : (q : ℕ → Bool) (n : ℕ) (b : Bool) → b ≡ q n → truths q n ++ b ∷ [] ≡ truths q (n + 1)
truths_more q n b e = rw (add-one, e) refl
