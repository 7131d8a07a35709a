-- How a text grows piece by piece.
use Rattle.std.proofs.Common.{◌≡◌, ℕ, zero, suc, ◌+◌, ◌<◌, ◌==◌, Bool, cond, List, [], ◌∷◌, ◌++◌, length, take, get_or, ap, sym, ◌∙◌, arith, append_assoc, append-nil}
use Rattle.std.specs.List.{flat_map, join_by, range_with_len}
use Rattle.std.proofs.lemmas.Bool.{ne_eqb}
use Rattle.std.proofs.lemmas.Grind.{flat_map-append}
use Rattle.std.proofs.lemmas.List.{take_more}

-- two pieces, one behind the other
pub then : {A : Type 0} (old a b : List A) {mid new : List A} → mid ≡ old ++ a → new ≡ mid ++ b → new ≡ old ++ (a ++ b)
then {A} old a b first second = second ∙ ap (λ (l : List A). l ++ b) first ∙ append_assoc old a b

-- what one element more gives
pub element_more : {X A : Type 0} (f : X → List A) (xs : List X) (i : ℕ) (d : X) (old : List A) {text new : List A} → i < length xs → text ≡ old ++ flat_map f (take i xs) → new ≡ text ++ f (get_or xs i d) → new ≡ old ++ flat_map f (take (i + 1) xs)
element_more {X} {A} f xs i d old inside before grown =
    then old (flat_map f (take i xs)) (f (get_or xs i d)) before grown
    ∙ ap (λ (l : List A). old ++ l) (
    ap (λ (l : List A). flat_map f (take i xs) ++ l) (sym (append-nil (f (get_or xs i d))))
    ∙ sym (flat_map-append f (take i xs) (get_or xs i d ∷ []))
    ∙ ap (λ (ys : List X). flat_map f ys) (sym (take_more xs i d inside)))

longer : (n : ℕ) → suc n + 1 ≡ suc (n + 1)
longer n = omega arith

-- what one element more gives where another list stands between each two
pub joined_more : {X A : Type 0} (f : X → List A) (between : List A) (xs : List X) (i : ℕ) (d : X) (old : List A) {text mid new : List A} → i < length xs → text ≡ old ++ join_by f between (take i xs) → mid ≡ text ++ cond (i == 0) [] between → new ≡ mid ++ f (get_or xs i d)
    → new ≡ old ++ join_by f between (take (i + 1) xs)
joined_more f between [] i d old inside before next grown = absurd (omega arith)
joined_more {X} {A} f between (x ∷ xs) zero d old {text} inside before next grown =
    then text [] (f x) next grown
    ∙ ap (λ (l : List A). l ++ f x) (before ∙ append-nil old)
    ∙ ap (λ (l : List A). old ++ l) (sym (append-nil (f x)))
joined_more {X} {A} f between (x ∷ xs) (suc i) d old {text} inside before next grown =
    element_more (λ y. between ++ f y) xs i d (old ++ f x) (omega arith) (before ∙ sym (append_assoc old (f x) _))
    (then text between (f (get_or xs i d)) (next ∙ ap (λ (b : Bool). text ++ cond b [] between) (ne_eqb (suc i) 0 (λ e. omega arith))) grown)
    ∙ append_assoc old (f x) _
    ∙ ap (λ (k : ℕ). old ++ join_by f between (take k (x ∷ xs))) (sym (longer i))

-- of numbers from a on, what one number more gives
number_more : {A : Type 0} (f : ℕ → List A) (a n m : ℕ) → a + n ≡ m → flat_map f (range_with_len a (n + 1)) ≡ flat_map f (range_with_len a n) ++ f m
number_more {A} f a zero m is = append-nil (f a) ∙ ap f (omega (arith, is))
number_more {A} f a (suc n) m is =
    ap (λ (k : ℕ). flat_map f (range_with_len a k)) (longer n)
    ∙ ap (λ (l : List A). f a ++ l) (number_more f (a + 1) n m (omega (arith, is)))
    ∙ sym (append_assoc (f a) (flat_map f (range_with_len (a + 1) n)) (f m))

-- and of a text that grows by it
pub numbers_more : {A : Type 0} (f : ℕ → List A) (n : ℕ) (old : List A) {text new : List A} → text ≡ old ++ flat_map f (range_with_len 0 n) → new ≡ text ++ f n → new ≡ old ++ flat_map f (range_with_len 0 (n + 1))
numbers_more {A} f n old before grown =
    then old (flat_map f (range_with_len 0 n)) (f n) before grown ∙ ap (λ (l : List A). old ++ l) (sym (number_more f 0 n n (omega arith)))

-- what one element more gives, with nothing before the first
pub list_more : {X A : Type 0} (f : X → List A) (xs : List X) (i : ℕ) (d : X) {text new : List A} → i < length xs → text ≡ flat_map f (take i xs) → new ≡ text ++ f (get_or xs i d) → new ≡ flat_map f (take (i + 1) xs)
list_more {X} {A} f xs i d inside before grown = element_more f xs i d [] inside before grown

-- what one thing more gives behind all so far
pub yielded_more : {X A : Type 0} (f : X → List A) (xs : List X) (x : X) (old : List A) {text new : List A} → text ≡ old ++ flat_map f xs → new ≡ text ++ f x → new ≡ old ++ flat_map f (xs ++ x ∷ [])
yielded_more {X} {A} f xs x old before grown =
    then old (flat_map f xs) (f x) before grown
    ∙ ap (λ (l : List A). old ++ l) (ap (λ (l : List A). flat_map f xs ++ l) (sym (append-nil (f x))) ∙ sym (flat_map-append f xs (x ∷ [])))
