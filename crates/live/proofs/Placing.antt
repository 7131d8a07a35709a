-- A test is put in its place among the slowest.
use Rattle.std.proofs.Common.{◌≡◌, ℕ, zero, suc, ◌+◌, ◌<◌, ◌≤◌, Bool, true, false, cond, nat_lt, List, [], ◌∷◌, ◌++◌, length, take, drop, get_or, refl, sym, ap, ◌∙◌, arith, append_assoc, add-one}
use Rattle.std.specs.List.{insert}
use Rattle.std.proofs.lemmas.Bool.{lt-ltb, le-ltb}
use Rattle.std.proofs.lemmas.List.{drop_all, drop_more, take_more, take-take}
use Rattle.descriptor.specs.Nodes.{Nodes}
use Rattle.job_times.specs.Timings.{Took}
use Rattle.live.specs.Slowest.{is_timed, placed, by_time}
use Rattle.reports.specs.TimeTexts.{time_or_none}

module _ (took : Took) (n : ℕ) where
  abbrev is_slower : ℕ → Bool
  is_slower m = nat_lt (time_or_none took m) (time_or_none took n)

  -- before the first that took less time
  before : (m : ℕ) (ms : List ℕ) (b : Bool) → is_slower m ≡ b → placed took n (m ∷ ms) ≡ cond b (n ∷ m ∷ ms) (m ∷ placed took n ms)
  before m ms b is = ap (λ (c : Bool). cond c (n ∷ m ∷ ms) (m ∷ placed took n ms)) is

  -- among those that are left it comes first, where the first of them took less time
  pub here : (tests : List ℕ) (i d : ℕ) → i < length tests → time_or_none took (get_or tests i d) < time_or_none took n → placed took n tests ≡ take i tests ++ placed took n (drop i tests) → insert tests i n ≡ placed took n tests
  here tests i d inside less so =
      let left = drop_more tests i d inside in
      sym (so ∙ ap (λ (l : List ℕ). take i tests ++ l) (ap (placed took n) left ∙ before (get_or tests i d) (drop (i + 1) tests) true (lt-ltb _ _ less) ∙ ap (λ (l : List ℕ). n ∷ l) (sym left)))

  -- else behind it
  pub behind : (tests : List ℕ) (i d : ℕ) → i < length tests → time_or_none took n ≤ time_or_none took (get_or tests i d) → placed took n tests ≡ take i tests ++ placed took n (drop i tests)
      → placed took n tests ≡ take (i + 1) tests ++ placed took n (drop (i + 1) tests)
  behind tests i d inside more so =
      let rest = placed took n (drop (i + 1) tests) in
      so
      ∙ ap (λ (l : List ℕ). take i tests ++ l) (ap (placed took n) (drop_more tests i d inside) ∙ before (get_or tests i d) (drop (i + 1) tests) false (le-ltb _ _ more))
      ∙ sym (append_assoc (take i tests) (get_or tests i d ∷ []) rest)
      ∙ ap (λ (l : List ℕ). l ++ rest) (sym (take_more tests i d inside))

  -- or behind all
  pub last : (tests : List ℕ) (i : ℕ) → length tests ≤ i → placed took n tests ≡ take i tests ++ placed took n (drop i tests) → insert tests i n ≡ placed took n tests
  last tests i all so =
      let none = drop_all i tests all in
      sym (so ∙ ap (λ (l : List ℕ). take i tests ++ placed took n l) none ∙ ap (λ (l : List ℕ). take i tests ++ n ∷ l) (sym none))

  first_of_two : (k m : ℕ) (ms : List ℕ) → take k (m ∷ take k ms) ≡ take k (m ∷ ms)
  first_of_two zero m ms = refl
  first_of_two (suc k) m ms = ap (λ (l : List ℕ). m ∷ l) (take-take k (suc k) ms (omega arith))

  first_by : (b : Bool) (k m : ℕ) (ms : List ℕ) → take k (placed took n (take k ms)) ≡ take k (placed took n ms)
      → take (suc k) (cond b (n ∷ m ∷ take k ms) (m ∷ placed took n (take k ms))) ≡ take (suc k) (cond b (n ∷ m ∷ ms) (m ∷ placed took n ms))
  first_by true k m ms so = ap (λ (l : List ℕ). n ∷ l) (first_of_two k m ms)
  first_by false k m ms so = ap (λ (l : List ℕ). m ∷ l) so

  -- the first so many of all are known by the first so many of those before
  pub firsts : (k : ℕ) (ms : List ℕ) → take k (placed took n (take k ms)) ≡ take k (placed took n ms)
  firsts zero ms = refl
  firsts (suc k) [] = refl
  firsts (suc k) (m ∷ ms) = first_by (is_slower m) k m ms (firsts k ms)

  longer_by : (b : Bool) (m : ℕ) (ms : List ℕ) → length (placed took n ms) ≡ length ms + 1 → length (cond b (n ∷ m ∷ ms) (m ∷ placed took n ms)) ≡ length (m ∷ ms) + 1
  longer_by true m ms so = omega arith
  longer_by false m ms so = omega (arith, so)

  pub longer : (ms : List ℕ) → length (placed took n ms) ≡ length ms + 1
  longer [] = omega arith
  longer (m ∷ ms) = longer_by (is_slower m) m ms (longer ms)

-- the tests below the next number, if this one is such a test or not
module _ (t : Nodes) (took : Took) (n : ℕ) where
  next : (b : Bool) → is_timed t took n ≡ b → by_time t took (n + 1) ≡ cond b (placed took n (by_time t took n)) (by_time t took n)
  next b is = ap (by_time t took) (add-one n) ∙ ap (λ (c : Bool). cond c (placed took n (by_time t took n)) (by_time t took n)) is

  pub passed : is_timed t took n ≡ false → by_time t took (n + 1) ≡ by_time t took n
  passed is = next false is

  pub taken : is_timed t took n ≡ true → by_time t took (n + 1) ≡ placed took n (by_time t took n)
  taken is = next true is

  pub taken_first : (k : ℕ) (old new : List ℕ) → is_timed t took n ≡ true → old ≡ take k (by_time t took n) → new ≡ take k (placed took n old) → new ≡ take k (by_time t took (n + 1))
  taken_first k old new is was now =
      now ∙ ap (λ (ms : List ℕ). take k (placed took n ms)) was ∙ firsts took n k (by_time t took n) ∙ ap (take k) (sym (taken is))

  pub taken_more : is_timed t took n ≡ true → length (by_time t took (n + 1)) ≡ length (by_time t took n) + 1
  taken_more is = ap length (taken is) ∙ longer took n (by_time t took n)
