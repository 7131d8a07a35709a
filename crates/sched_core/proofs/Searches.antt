-- What a search finds among replies whose bodies rise.
use Rattle.std.proofs.Common.{◌≡◌, ◌≢◌, ℕ, zero, suc, ◌+◌, ◌<◌, ◌≤◌, ltb, Less, Equal, Greater, Bool, true, false, List, [], ◌∷◌, length, get_or, Some, None, IsTrue, Err, inl, inr, refl, sym, ap, ◌∙◌, arith}
use Rattle.std.specs.List.{AllAdjacentBelow, IsAllAdjacentAnswer}
use Rattle.std.specs.List.Sorted.{IsBinarySearchResult, IsNonDecreasingBy}
use Rattle.std.specs.Ordering.{nat_cmp, ordering_index}
use Rattle.std.proofs.lemmas.Bool.{ltb-true, false≢true, cases_lt}
use Rattle.std.proofs.lemmas.Bool.Decides.{nat_tests}
use Rattle.std.proofs.lemmas.Cmp.{ranked}
use Rattle.std.proofs.lemmas.List.{get_or_default}
use Rattle.std.proofs.lemmas.List.Sorted.{IsNonDecreasingBy-from_all_adjacent}
use Rattle.plan_events.specs.declared.outcome.Reply.{Reply}
use Rattle.sched_core.specs.Replies.{reply_to}
use Rattle.sched_core.specs.Inside.AnswerFields.{IsInOrder}

-- where each body is below the next, the bodies rise
rises : (l : List (ℕ × Reply)) → AllAdjacentBelow (λ x y. true ≡ ltb x.0 y.0) l (length l) → IsInOrder l
rises l up i j d lt within =
    let steps : (k : ℕ) (e : ℕ × Reply) → k + 1 < length l → (get_or l k e).0 < (get_or l (k + 1) e).0 = λ k e inside. ltb-true (get_or l k e).0 (get_or l (k + 1) e).0 (sym (up k e inside)) in
    let weak : IsNonDecreasingBy (λ (x : ℕ × Reply). x.0) l = IsNonDecreasingBy-from_all_adjacent (λ (x : ℕ × Reply). x.0) l (λ k e inside. (let step = steps k e inside in omega (arith, step))) in
    let first = steps i d (omega (arith, lt, within)) in
    let rest = weak (i + 1) j d (omega (arith, lt)) within in
    omega (arith, first, rest)

-- so a test of each with the next tells that they do
pub tested : (l : List (ℕ × Reply)) (r : Bool) → IsAllAdjacentAnswer (λ x y b. b ≡ ltb x.0 y.0) l r → IsTrue r → IsInOrder l
tested l true is q = rises l is
tested l false is q = absurd (false≢true q)

-- no reply before place i stands with the body
abbrev NoneBefore : List (ℕ × Reply) → ℕ → ℕ → Type 0
NoneBefore l body i = (j : ℕ) (d : ℕ × Reply) → j < i → (get_or l j d).0 ≢ body

-- a body with which none stands has no reply
absent : (l : List (ℕ × Reply)) (body : ℕ) → NoneBefore l body (length l) → reply_to l body ≡ None
absent [] body none = refl
absent (x ∷ l) body none =
    let here : x.0 ≢ body = none 0 x (omega arith) in
    let more : reply_to l body ≡ None = absent l body (λ j d lt. none (suc j) d (omega (arith, lt))) in
    grind (arith, nat_tests, here, more)

-- the first that stands with the body is its reply
present : (l : List (ℕ × Reply)) (body i : ℕ) (d : ℕ × Reply) → i < length l → (get_or l i d).0 ≡ body → NoneBefore l body i → reply_to l body ≡ Some (get_or l i d).1
present [] body i d inside same none = absurd (omega (arith, inside))
present (x ∷ l) body zero d inside same none = grind (arith, nat_tests, same)
present (x ∷ l) body (suc i) d inside same none =
    let here : x.0 ≢ body = none 0 x (omega arith) in
    let more : reply_to l body ≡ Some (get_or l i d).1 = present l body i d (omega (arith, inside)) same (λ j e lt. none (suc j) e (omega (arith, lt))) in
    grind (arith, nat_tests, here, more)

module _ (l : List (ℕ × Reply)) (up : IsInOrder l) (body : ℕ) where
  -- the comparisons with the body rise along the replies, as a search by halving asks
  comparisons_rise : IsNonDecreasingBy (λ (x : ℕ × Reply). ordering_index (nat_cmp x.0 body)) l
  comparisons_rise i j d le within =
      let rise : (get_or l i d).0 ≤ (get_or l j d).0 = grind (arith, up i j d, λ (same : i ≡ j). ap (λ k. (get_or l k d).0) same) in
      grind (arith, nat_tests)

  -- a reply that stands with the body is the only one, so none before it does
  stands : (i : ℕ) (x : ℕ × Reply) → i < length l → (get_or l i x).0 ≡ body → reply_to l body ≡ Some (get_or l i x).1
  stands i x inside same =
      let same_at : (d : ℕ × Reply) → (get_or l i d).0 ≡ body = λ d. ap (λ (y : ℕ × Reply). y.0) (get_or_default l i d x inside) ∙ same in
      let none : NoneBefore l body i = λ j d lt e. (let below = up j i d lt inside in omega (arith, below, e, same_at d)) in
      present l body i x inside same none

  -- and so for one that was looked up at its place
  pub looked_up : (i : ℕ) (x : ℕ × Reply) → true ≡ ltb i (length l) → x ≡ get_or l i x → x.0 ≡ body → reply_to l body ≡ Some x.1
  looked_up i x inside at same = stands i x (ltb-true i (length l) (sym inside)) (ap (λ (y : ℕ × Reply). y.0) (sym at) ∙ same) ∙ ap (λ (y : ℕ × Reply). Some y.1) (sym at)

  -- what the search finds stands with the body
  pub found : (i : ℕ) (x : ℕ × Reply) → i < length l → nat_cmp (get_or l i x).0 body ≡ Equal → reply_to l body ≡ Some (get_or l i x).1
  found i x inside equal = stands i x inside (ranked (get_or l i x).0 body Equal (sym equal))

  -- where it finds none, none does
  pub missed : (i : ℕ) → i ≤ length l → IsBinarySearchResult (λ (x : ℕ × Reply). nat_cmp x.0 body) l (Err i) → reply_to l body ≡ None
  missed i inside parted =
      absent l body (λ j d lt e. elim (cases_lt j i) [
        | inl before ↦ (let below : (get_or l j d).0 < body = ranked (get_or l j d).0 body Less (sym ((parted comparisons_rise).0 j d (omega arith) before)) in omega (arith, below, e))
        | inr after ↦ (let above : body < (get_or l j d).0 = ranked (get_or l j d).0 body Greater (sym ((parted comparisons_rise).1 j d after lt)) in omega (arith, above, e))
      ])
