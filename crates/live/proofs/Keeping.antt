-- One event more, and what is kept of it.
use Rattle.std.proofs.Common.{◌≡◌, ◌∙◌, ℕ, ◌+◌, inl, inr, Bool, true, false, ◌&&◌, cond, List, [], ◌∷◌, ◌++◌, length, Option, refl, sym, ap, subst, arith, append-nil, append_assoc, length-append}
use Rattle.std.proofs.lemmas.List.Elements.{filter-append}
use Rattle.plan_events.specs.Statuses.{is_failed}
use Rattle.plan_events.specs.declared.event.EventKind.{EventKind}
use Rattle.plan_events.specs.declared.event.EventKind.TheVariants.{Started, Finished, Skipped, Registered}
use Rattle.plan_events.specs.declared.status.Status.{Status}
use Rattle.resource_locks.specs.Plans.{PlanParts}
use Rattle.listeners.specs.Listeners.{Telling, text_by}
use Rattle.run_results.specs.Told.{ended, status_by, tells_failure}
use Rattle.live.specs.Failing.{AreFailuresOf, HasKept, IsFailureOf, Keeps, KeepsNode, failures_in}
use Rattle.live.specs.declared.failure.Failure.{Failure}
use Rattle.live.specs.declared.failures.Failures.{Failures}

none_of : (p : PlanParts) (ts : List Telling) → AreFailuresOf p ts []
none_of p [] = tt
none_of p (t ∷ ts) = tt

-- failures of some events are failures of more events
more_of : (p : PlanParts) (ts more : List Telling) (fs : List Failure) → AreFailuresOf p ts fs → AreFailuresOf p (ts ++ more) fs
more_of p [] more [] are = none_of p more
more_of p [] more (f ∷ fs) are = absurd are
more_of p (t ∷ ts) more [] are = tt
more_of p (t ∷ ts) more (f ∷ fs) are = elim are [ inl is ↦ inl (is.0, more_of p ts more fs is.1) | inr later ↦ inr (more_of p ts more (f ∷ fs) later) ]

-- and one more that is kept
one_of : (p : PlanParts) (ts : List Telling) (t : Telling) (fs : List Failure) (f : Failure) → AreFailuresOf p ts fs → IsFailureOf p t.event.node t.text f → AreFailuresOf p (ts ++ t ∷ []) (fs ++ f ∷ [])
one_of p [] t [] f are is = inl (is, tt)
one_of p [] t (g ∷ fs) f are is = absurd are
one_of p (u ∷ ts) t [] f are is = inr (one_of p ts t [] f (none_of p ts) is)
one_of p (u ∷ ts) t (g ∷ fs) f are is = elim are [ inl so ↦ inl (so.0, one_of p ts t fs f so.1 is) | inr later ↦ inr (one_of p ts t (g ∷ fs) f later is) ]

-- an event that tells of no failure adds none, and one that does adds itself
failures_with : (ts : List Telling) (t : Telling) (b : Bool) → tells_failure t.event ≡ b → failures_in (ts ++ t ∷ []) ≡ failures_in ts ++ cond b (t ∷ []) []
failures_with ts t b is = filter-append (λ (u : Telling). tells_failure u.event) ts (t ∷ []) ∙ ap (λ (c : Bool). failures_in ts ++ cond c (t ∷ []) []) is

pub both_true : (a b : Bool) → (a && b) ≡ true → b ≡ true
both_true true b is = is
both_true false b is = cc

-- the text that is told with a failure is that of its node
pub failed_text_is : (kind : EventKind) (status : Option Status) (text : Option (List ℕ)) → ended is_failed (status_by kind status) ≡ true → text_by kind text ≡ text
failed_text_is Started status text is = cc
failed_text_is Finished status text is = refl
failed_text_is Skipped status text is = cc
failed_text_is Registered status text is = cc

module _ (p : PlanParts) (first old new : Failures) (before : List Telling) (t : Telling) (was : HasKept p first old before) where
  -- it tells of no failure
  pub passes : tells_failure t.event ≡ false → new ≡ old → HasKept p first new (before ++ t ∷ [])
  passes is same =
      let some : failures_in (before ++ t ∷ []) ≡ failures_in before = failures_with before t false is ∙ append-nil (failures_in before) in
      record {
        added = was.added;
        kept = ap (λ (f : Failures). f.kept.items) same ∙ was.kept;
        are = subst (λ (ts : List Telling). AreFailuresOf p ts was.added) (sym some) was.are;
        counted = λ few. ap (λ (f : Failures). length was.added + f.more) same ∙ was.counted (omega (arith, few, ap length some)) ∙ sym (ap (λ (ts : List Telling). first.more + length ts) some);
      }

  -- it tells of one
  pub keeps : tells_failure t.event ≡ true → KeepsNode p t.event.node t.text old new → HasKept p first new (before ++ t ∷ [])
  keeps is kept =
      let some : failures_in (before ++ t ∷ []) ≡ failures_in before ++ t ∷ [] = failures_with before t true is in
      let long : length (failures_in (before ++ t ∷ [])) ≡ length (failures_in before) + 1 = ap length some ∙ length-append (failures_in before) (t ∷ []) in
      elim kept [
        | inl adds ↦ record {
          added = was.added ++ adds.0 ∷ [];
          kept = adds.2.kept ∙ ap (λ (fs : List Failure). fs ++ adds.0 ∷ []) was.kept ∙ append_assoc first.kept.items was.added (adds.0 ∷ []);
          are = subst (λ (ts : List Telling). AreFailuresOf p ts (was.added ++ adds.0 ∷ [])) (sym some) (one_of p (failures_in before) t was.added adds.0 was.are adds.1);
          counted = λ few. omega (arith, few, long, length-append was.added (adds.0 ∷ []), adds.2.more, was.counted (omega (arith, few, long)));
        }
        | inr misses ↦ record {
          added = was.added;
          kept = misses.kept ∙ was.kept;
          are = subst (λ (ts : List Telling). AreFailuresOf p ts was.added) (sym some) (more_of p (failures_in before) (t ∷ []) was.added was.are);
          counted = λ few. let before_few = was.counted (omega (arith, few, long)) in omega (arith, few, long, before_few, misses.more (omega (arith, few, long, before_few)));
        }
      ]

-- a failure that was kept or counted is that of its node
pub noted : (p : PlanParts) (n : ℕ) (text : Option (List ℕ)) (f : Failure) (old new : Failures) → IsFailureOf p n text f → Keeps f old new → KeepsNode p n text old new
noted p n text f old new is keeps = elim keeps [ inl adds ↦ inl (f, is, adds) | inr misses ↦ inr misses ]

-- of no event nothing is kept
pub none_kept : (p : PlanParts) (first : Failures) → HasKept p first first []
none_kept p first = record { added = []; kept = sym (append-nil first.kept.items); are = tt; counted = λ few. omega arith }
