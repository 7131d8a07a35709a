-- The circle of nodes has each of them once.
use Rattle.std.proofs.Common.{◌≡◌, ◌∙◌, ℕ, zero, suc, ◌+◌, ◌-◌, ◌<◌, ◌≤◌, inl, inr, List, [], ◌∷◌, ◌++◌, take, refl, sym, ap, subst, arith, append-nil, IsPermutation}
use Rattle.std.specs.List.{All, range_with_len}
use Rattle.std.proofs.lemmas.Bool.{cases_lt}
use Rattle.std.proofs.lemmas.List.{take_all}
use Rattle.std.proofs.lemmas.List.Elements.{All-append}
use Rattle.std.proofs.lemmas.List.FromFn.{length-range_with_len, get_or-range_with_len}
use Rattle.std.proofs.lemmas.List.Sorted.{IsPermutation-refl, IsPermutation-append_comm}
use Rattle.node_sources.specs.Circles.{left_of_circle, circle_behind}

range_of : (a m n : ℕ) → m ≡ n → range_with_len a m ≡ range_with_len a n
range_of a m n same = ap (range_with_len a) same

range_step : (a n m : ℕ) → n ≡ m + 1 → range_with_len a n ≡ a ∷ range_with_len (a + 1) m
range_step a zero m is = absurd (omega (arith, is))
range_step a (suc n) m is = ap (λ (k : ℕ). a ∷ range_with_len (a + 1) k) (omega (arith, is))

range_split : (m n k a : ℕ) → k ≡ m + n → range_with_len a k ≡ range_with_len a m ++ range_with_len (a + m) n
range_split zero n k a is = range_of a k n (omega (arith, is)) ∙ ap (λ (b : ℕ). range_with_len b n) (omega arith)
range_split (suc m) n zero a is = absurd (omega (arith, is))
range_split (suc m) n (suc k) a is = ap (λ (xs : List ℕ). a ∷ xs) (range_split m n k (a + 1) (omega (arith, is)) ∙ ap (λ (b : ℕ). range_with_len (a + 1) m ++ range_with_len b n) (omega arith))

range_front : (m a n : ℕ) → m ≤ n → take m (range_with_len a n) ≡ range_with_len a m
range_front zero a n le = refl
range_front (suc m) a zero le = absurd (omega (arith, le))
range_front (suc m) a (suc n) le = ap (λ (xs : List ℕ). a ∷ xs) (range_front m (a + 1) n (omega (arith, le)))

none_left : (m n : ℕ) → m ≤ n → m - n ≡ 0
none_left m n le = omega (arith, le)

-- what is left, from one step to the next
pub left_next : (next end below : ℕ) → next < end → left_of_circle next end below ≡ next ∷ left_of_circle (next + 1) end below
left_next next end below low = ap (λ (xs : List ℕ). xs ++ range_with_len 0 below) (range_step next (end - next) (end - (next + 1)) (omega (arith, low)))

pub left_wraps : (next end below : ℕ) → end ≤ next → 0 < below → left_of_circle next end below ≡ 0 ∷ left_of_circle 1 below 0
left_wraps next end below past some =
    ap (λ (n : ℕ). range_with_len next n ++ range_with_len 0 below) (none_left end next past) ∙ range_step 0 below (below - 1) (omega (arith, some)) ∙ ap (λ (xs : List ℕ). 0 ∷ xs) (sym (append-nil (range_with_len 1 (below - 1))))

pub left_none : (next end below : ℕ) → end ≤ next → below ≡ 0 → left_of_circle next end below ≡ []
left_none next end below past none = ap (λ (n : ℕ). range_with_len next n ++ range_with_len 0 below) (none_left end next past) ∙ range_of 0 below 0 none

-- so many numbers from 0 on, cut
cut : (last nodes : ℕ) → last + 1 ≤ nodes → take (last + 1) (range_with_len 0 nodes) ≡ range_with_len 0 (last + 1)
cut last nodes le = range_front (last + 1) 0 nodes le

uncut : (last nodes : ℕ) → nodes ≤ last + 1 → take (last + 1) (range_with_len 0 nodes) ≡ range_with_len 0 nodes
uncut last nodes le = take_all (last + 1) (range_with_len 0 nodes) (rw (length-range_with_len 0 nodes) le)

pub behind_is : (last nodes below : ℕ) → (last + 1 ≤ nodes → below ≡ last + 1) → (nodes < last + 1 → below ≡ nodes) → left_of_circle (last + 1) nodes below ≡ circle_behind last nodes
behind_is last nodes below low high = ap (λ (xs : List ℕ). range_with_len (last + 1) (nodes - (last + 1)) ++ xs) (elim (cases_lt nodes (last + 1)) [
  | inl lt ↦ range_of 0 below nodes (high lt) ∙ sym (uncut last nodes (omega (arith, lt)))
  | inr le ↦ range_of 0 below (last + 1) (low le) ∙ sym (cut last nodes le)
])

pub each_once : (last nodes : ℕ) → IsPermutation (range_with_len 0 nodes) (circle_behind last nodes)
each_once last nodes = elim (cases_lt nodes (last + 1)) [
  | inl lt ↦
      let is : circle_behind last nodes ≡ range_with_len 0 nodes = ap (λ (n : ℕ). range_with_len (last + 1) n ++ take (last + 1) (range_with_len 0 nodes)) (none_left nodes (last + 1) (omega (arith, lt))) ∙ uncut last nodes (omega (arith, lt)) in
      subst (λ (xs : List ℕ). IsPermutation (range_with_len 0 nodes) xs) (sym is) (IsPermutation-refl (range_with_len 0 nodes))
  | inr le ↦
      let behind = range_with_len (last + 1) (nodes - (last + 1)) in
      let whole : range_with_len 0 nodes ≡ range_with_len 0 (last + 1) ++ behind = range_split (last + 1) (nodes - (last + 1)) nodes 0 (omega (arith, le)) ∙ ap (λ (b : ℕ). range_with_len 0 (last + 1) ++ range_with_len b (nodes - (last + 1))) (omega arith) in
      subst (λ (xs : List ℕ). IsPermutation (range_with_len 0 nodes) (behind ++ xs)) (sym (cut last nodes le))
      (subst (λ (xs : List ℕ). IsPermutation xs (behind ++ range_with_len 0 (last + 1))) (sym whole) (IsPermutation-append_comm (range_with_len 0 (last + 1)) behind))
]

range_inside : (a n most : ℕ) → a + n ≤ most → All (λ (m : ℕ). m < most) (range_with_len a n)
range_inside a n most le k d lt =
    let low : k < n = rw (← length-range_with_len a n) lt in
    subst (λ (x : ℕ). x < most) (sym (get_or-range_with_len a n k d low)) (omega (arith, low, le))

none_inside : (a n most : ℕ) → n ≡ 0 → All (λ (m : ℕ). m < most) (range_with_len a n)
none_inside a n most none k d lt = (let low : k < n = rw (← length-range_with_len a n) lt in absurd (omega (arith, low, none)))

pub all_inside : (last nodes : ℕ) → All (λ (m : ℕ). m < nodes) (circle_behind last nodes)
all_inside last nodes = elim (cases_lt nodes (last + 1)) [
  | inl lt ↦
      All-append (λ (m : ℕ). m < nodes) (range_with_len (last + 1) (nodes - (last + 1))) (take (last + 1) (range_with_len 0 nodes))
      (none_inside (last + 1) (nodes - (last + 1)) nodes (omega (arith, lt)))
      (subst (All (λ (m : ℕ). m < nodes)) (sym (uncut last nodes (omega (arith, lt)))) (range_inside 0 nodes nodes (omega arith)))
  | inr le ↦
      All-append (λ (m : ℕ). m < nodes) (range_with_len (last + 1) (nodes - (last + 1))) (take (last + 1) (range_with_len 0 nodes))
      (range_inside (last + 1) (nodes - (last + 1)) nodes (omega (arith, le)))
      (subst (All (λ (m : ℕ). m < nodes)) (sym (cut last nodes le)) (range_inside 0 (last + 1) nodes (omega (arith, le))))
]

-- of a list all of which is inside, the first is, and the others are
pub first_inside : (most n : ℕ) (old new : List ℕ) → old ≡ n ∷ new → All (λ (m : ℕ). m < most) old → n < most
first_inside most n old new is all = subst (All (λ (m : ℕ). m < most)) is all 0 0 (omega arith)

pub others_inside : (most n : ℕ) (old new : List ℕ) → old ≡ n ∷ new → All (λ (m : ℕ). m < most) old → All (λ (m : ℕ). m < most) new
others_inside most n old new is all k d lt = subst (All (λ (m : ℕ). m < most)) is all (suc k) d (omega (arith, lt))
