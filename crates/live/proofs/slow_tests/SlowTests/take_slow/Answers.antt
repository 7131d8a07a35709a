-- The test is taken out of where it stands.
use Rattle.std.proofs.Common.{◌≡◌, ℕ, zero, suc, ◌+◌, ◌*◌, ◌<◌, ◌≤◌, List, [], ◌∷◌, ◌++◌, length, take, drop, get_or, refl, sym, ap, subst, arith}
use Rattle.live.specs.declared.slow_tests.LimitedTest.{LimitedTest}
use Rattle.live.proofs.slow_tests.SlowTests.take_slow.Goals as goal

split_at : {A : Type 0} (xs : List A) (i : ℕ) (x : A) → i < length xs → x ≡ get_or xs i x → xs ≡ take i xs ++ x ∷ drop (suc i) xs
split_at [] i x lt is = absurd (omega (arith, lt))
split_at (y ∷ ys) zero x lt is = ap (λ z. z ∷ ys) (sym is)
split_at (y ∷ ys) (suc i) x lt is = ap (λ l. y ∷ l) (split_at ys i x (omega (arith, lt)) is)

pub returns-clause-some : goal.returns-clause-some
returns-clause-some g c =
    let old = c.args.self.now.tests.items in
    let test = c.remove-test.result in
    let time = c.in_ok-place.time in
    record {
      test = test;
      before = take c.in_ok-place.place old;
      behind = drop (suc c.in_ok-place.place) old;
      was = split_at old c.in_ok-place.place test c.in_ok-place.ensures.inside c.remove-test.ensures.value;
      left = c.remove-test.ensures.items;
      is = refl;
      slow = subst (λ (t : LimitedTest). t.limit * 1000 ≤ time) (sym c.remove-test.ensures.value) (c.in_ok-place.ensures.slow test);
    }
