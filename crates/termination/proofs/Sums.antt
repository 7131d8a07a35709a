-- Sums over the seats, and products that grow.
use Rattle.std.proofs.Common.{◌≡◌, ℕ, suc, ◌+◌, ◌*◌, ◌<◌, ◌≤◌, List, [], ◌∷◌, length, set, get_or, sum_by, Some, slice_get, refl, ap, arith}
use Rattle.std.proofs.lemmas.Option.{slice_get_within, get_or_from_slice_get}
use Rattle.std.proofs.lemmas.List.Sums.{sum_by-cons, sum_by-set}
use Rattle.std.proofs.Math.Nat.{suc-mul, mul-le-mul_right}
use Rattle.scheduling.specs.declared.seat.Seat.{Seat}

-- one seat is changed
pub sum_moves : (f : Seat → ℕ) (l : List Seat) (w : ℕ) (seat next : Seat) → slice_get l w ≡ Some seat → sum_by f (set l w next) + f seat ≡ sum_by f l + f next
sum_moves f l w seat next is =
    let change = sum_by-set f l w next seat (slice_get_within l w seat is) in
    let was : f (get_or l w seat) ≡ f seat = ap f (get_or_from_slice_get l w seat seat is) in
    omega (arith, change, was)

-- for one that counts no more
pub sum_no_higher : (f : Seat → ℕ) (l : List Seat) (w : ℕ) (seat next : Seat) → slice_get l w ≡ Some seat → f next ≤ f seat → sum_by f (set l w next) ≤ sum_by f l
sum_no_higher f l w seat next is le = (let a = sum_moves f l w seat next is in omega (arith, a, le))

-- each element counts at most so much
pub sum_few_at : {X : Type 0} (f : X → ℕ) (m : ℕ) (l : List X) → ((v : ℕ) (x : X) → slice_get l v ≡ Some x → f x ≤ m) → sum_by f l ≤ length l * m
sum_few_at f m [] each = omega arith
sum_few_at f m (x ∷ l) each =
    let one = each 0 x refl in
    let rest = sum_few_at f m l (λ v y at. each (suc v) y at) in
    let sum = sum_by-cons f x l in
    let times : suc (length l) * m ≡ length l * m + m = suc-mul (length l) m in
    plain (sum_by f (x ∷ l)) (sum_by f l) (f x) (length l * m) (suc (length l) * m) sum one rest times
  where
    plain : (all most this times next : ℕ) → all ≡ this + most → this ≤ m → most ≤ times → next ≡ times + m → all ≤ next
    plain all most this times next sum one rest is = omega (arith, sum, one, rest, is)

pub sum_few : {X : Type 0} (f : X → ℕ) (m : ℕ) → ((x : X) → f x ≤ m) → (l : List X) → sum_by f l ≤ length l * m
sum_few f m each l = sum_few_at f m l (λ v x at. each x)

-- and so do two counts of it together
pub sums_few : (f g : Seat → ℕ) (m : ℕ) (l : List Seat) → ((v : ℕ) (o : Seat) → slice_get l v ≡ Some o → f o + g o ≤ m) → sum_by f l + sum_by g l ≤ length l * m
sums_few f g m [] each = omega arith
sums_few f g m (o ∷ l) each =
    let one = each 0 o refl in
    let rest = sums_few f g m l (λ v x at. each (suc v) x at) in
    let first = sum_by-cons f o l in
    let second = sum_by-cons g o l in
    let times : suc (length l) * m ≡ length l * m + m = suc-mul (length l) m in
    plain _ _ _ _ (f o) (g o) (length l * m) (suc (length l) * m) one rest first second times
  where
    plain : (a b a2 b2 x y times next : ℕ) → x + y ≤ m → a2 + b2 ≤ times → a ≡ x + a2 → b ≡ y + b2 → next ≡ times + m → a + b ≤ next
    plain a b a2 b2 x y times next one rest d e is = omega (arith, one, rest, d, e, is)

-- times c, and a rest below c
pub times_lower : (c x y f g : ℕ) → x < y → f < c → x * c + f < y * c + g
times_lower c x y f g less small =
    let up : suc x * c ≤ y * c = mul-le-mul_right c less in
    let one : suc x * c ≡ x * c + c = suc-mul x c in
    plain (x * c) (suc x * c) (y * c) up one
  where
    plain : (a b d : ℕ) → b ≤ d → b ≡ a + c → a + f < d + g
    plain a b d up one = omega (arith, up, one, small)

pub times_no_higher : (c x y f g : ℕ) → x ≤ y → f ≤ g → x * c + f ≤ y * c + g
times_no_higher c x y f g le small =
    let up : x * c ≤ y * c = mul-le-mul_right c le in
    plain (x * c) (y * c) up
  where
    plain : (a d : ℕ) → a ≤ d → a + f ≤ d + g
    plain a d up = omega (arith, up, small)
