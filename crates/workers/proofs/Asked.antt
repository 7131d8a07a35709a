-- What is left of a job's replies after it was asked for dynamic tests.
use Rattle.std.proofs.Common.{◌≡◌, ℕ, ◌+◌, ◌-◌, ◌<◌, Bool, true, false, not, cond, List, [], ◌∷◌, length, Option, Some, None, arith, ltb-true, refl, sym, ap, ◌∙◌, subst}
use Rattle.std.proofs.lemmas.Option.{none-some, same_Some, slice_get-map}
use Rattle.std.specs.List.{filter}
use Rattle.std.specs.Option.{option_map}
use Rattle.std.specs.Prelude.{slice_get}
use Rattle.plan_events.specs.declared.job.Pull.{Pull}
use Rattle.plan_events.specs.declared.job.Pull.TheVariants.{More, End}
use Rattle.plan_events.specs.Jobs.{GivesAsPulled, before_pull, has_pulls, one_pull_less, one_pull_more, pulled, unpulled}
use Rattle.plan_events.specs.declared.outcome.Reply.{Reply}
use Rattle.table_rule.proofs.ThatCount.{kept}
use Rattle.workers.specs.Inside.Answering.{GivesAfter, LeftAfter}

less_reply : (r s : Reply) (asked : ℕ) → has_pulls s ≡ true → one_pull_less s ≡ r → ◌≡◌ {A = Reply} (record { pulls = s.pulls + asked; outcome = s.outcome }) (record { pulls = r.pulls + (asked + 1); outcome = r.outcome })
less_reply r s asked has same = λ k. record { pulls = count k; outcome = (same k).outcome }
  where
    some : 0 < s.pulls
    some = ltb-true 0 s.pulls has

    less : s.pulls - 1 ≡ r.pulls
    less = ap (λ x. x.pulls) same

    count : s.pulls + asked ≡ r.pulls + (asked + 1)
    count = omega (arith, some, less)

-- after one more answer More
pub more_left : (asked : ℕ) (first old new : List Reply) → LeftAfter asked first old → new ≡ pulled old → LeftAfter (asked + 1) first new
more_left asked first old new left is = λ i r stands. by i r (slice_get (filter has_pulls old) i) refl (sym (slice_get-map one_pull_less (filter has_pulls old) i) ∙ (ap (λ (l : List Reply). slice_get l i) (sym is) ∙ stands))
  where
    by : (i : ℕ) (r : Reply) (o : Option Reply) → slice_get (filter has_pulls old) i ≡ o → option_map one_pull_less o ≡ Some r → (j : ℕ) × (slice_get first j ≡ Some (record { pulls = r.pulls + (asked + 1); outcome = r.outcome }))
    by i r None at e = absurd (none-some r e)
    by i r (Some s) at e =
        let h = kept has_pulls old i s at in
        let j = left h.0 s h.1 in
        (j.0, j.1 ∙ ap Some (less_reply r s asked h.2 (same_Some (one_pull_less s) r e)))

-- after the answer End
-- the same of what it gives
pub more_given : (asked : ℕ) (first old new : Reply → Type 0) (pull : Pull) → pull ≡ More → GivesAfter asked first old → GivesAsPulled old pull new → GivesAfter (asked + 1) first new
more_given asked first old new pull is after given r gives = subst first (λ k. record { pulls = same k; outcome = r.outcome }) (after (one_pull_more r) (subst (λ (q : Pull). old (before_pull q r)) is (given r gives)))
  where
    same : (r.pulls + 1) + asked ≡ r.pulls + (asked + 1)
    same = omega (arith)

pub end_given : (asked : ℕ) (first old new : Reply → Type 0) (pull : Pull) → pull ≡ End → GivesAfter asked first old → GivesAsPulled old pull new → GivesAfter asked first new
end_given asked first old new pull is after given r gives = after r (subst (λ (q : Pull). old (before_pull q r)) is (given r gives))

pub end_left : (asked : ℕ) (first old new : List Reply) → LeftAfter asked first old → new ≡ unpulled old → LeftAfter asked first new
end_left asked first old new left is = λ i r stands. let h = kept (λ reply. not (has_pulls reply)) old i r (ap (λ (l : List Reply). slice_get l i) (sym is) ∙ stands) in left h.0 r h.1

twice_by : (q : Reply → Bool) (x : Reply) (ys : List Reply) → filter q ys ≡ ys → (b : Bool) → q x ≡ b → filter q (cond b (x ∷ ys) ys) ≡ cond b (x ∷ ys) ys
twice_by q x ys rest true t = ap (λ b. cond b (x ∷ filter q ys) (filter q ys)) t ∙ ap (λ l. x ∷ l) rest
twice_by q x ys rest false t = rest

filter_twice : (q : Reply → Bool) (xs : List Reply) → filter q (filter q xs) ≡ filter q xs
filter_twice q [] = refl
filter_twice q (x ∷ xs) = twice_by q x (filter q xs) (filter_twice q xs) (q x) refl

pub end_may : (old new : List Reply) → 0 < length (unpulled old) → new ≡ unpulled old → 0 < length (unpulled new)
end_may old new some is = subst (λ (l : List Reply). 0 < length l) (sym (ap unpulled is ∙ filter_twice (λ reply. not (has_pulls reply)) old)) some

-- a list that is not empty has a first item
pub first_of : (xs : List Reply) → 0 < length xs → (r : Reply) × (slice_get xs 0 ≡ Some r)
first_of [] some = absurd (omega (arith, some))
first_of (x ∷ xs) some = (x, refl)
