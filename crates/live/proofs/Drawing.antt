-- What is written to a terminal stands behind what was there.
use Rattle.std.proofs.Common.{◌≡◌, ◌∙◌, ◌++◌, ◌&&◌, not, ℕ, Bool, true, false, List, [], ◌∷◌, Option, Some, None, IfOk, IfSome, Result, Ok, Err, refl, sym, ap, ap₂, subst}
use Rattle.std.proofs.lemmas.Option.{none-some, same_Some}
use Rattle.std.specs.Result.{result_ok}
use Rattle.resource_locks.specs.Plans.{PlanParts}
use Rattle.listeners.specs.Listeners.{Telling}
use Rattle.listeners.specs.Observing.{HasSeenMore}
use Rattle.live.proofs.Keeping.{none_kept}
use Rattle.live.specs.Failing.{HasKept}
use Rattle.live.proofs.RunningTests.{none_running, running_on}
use Rattle.live.specs.RunningTests.{Follows, HasFollowedTests}
use Rattle.live.specs.Terminals.{AreDrawn, Drawing, HasFollowed, IsDrawnOn, drawing_of, is_done}
use Rattle.live.specs.Written.{IsSent}
use Rattle.live.proofs.Written.{none_written, one_written, written_behind, written_still}
use Rattle.live.specs.declared.progress.Progress.{Progress}

-- nothing was drawn
pub none_drawn : (a : Option (List ℕ)) (done : Bool) → AreDrawn a a done
none_drawn a done = ([], none_written drawing_of a done)

-- what was drawn is drawn, also where no more is drawn
pub drawn_still : (a b : Option (List ℕ)) (was now : Bool) → (now ≡ false → was ≡ false) → AreDrawn a b was → AreDrawn a b now
drawn_still a b was now back is = (is.0, written_still drawing_of is.0 a b was now back is.1)

-- first these, and then those
pub drawn_behind : (a b c : Option (List ℕ)) (done : Bool) → AreDrawn a b false → AreDrawn b c done → AreDrawn a c done
drawn_behind a b c done first then = (first.0 ++ then.0, written_behind drawing_of first.0 then.0 a b c done first.1 then.1)

true_false : {X : Type 0} (b : Bool) → b ≡ true → b ≡ false → X
true_false b is other = cc

-- one that is done stays so where no line stands there, or none is drawn any more
pub still_done : (over drawn : Bool) → (over && not drawn) ≡ true → (over && not false) ≡ true
still_done true drawn is = refl
still_done false drawn is = is

pub ended : (over drawn : Bool) → (over && not drawn) ≡ true → (true && not drawn) ≡ true
ended true drawn is = is
ended false drawn is = cc

pub done_by : (over drawn over_now drawn_now : Bool) → drawn_now ≡ drawn → (over ≡ true → over_now ≡ true) → (over && not drawn) ≡ true → (over_now && not drawn_now) ≡ true
done_by true drawn over_now drawn_now same stays is = ap₂ (λ (o d : Bool). o && not d) (stays refl) same ∙ is
done_by false drawn over_now drawn_now same stays is = cc

-- one on which a line may be drawn is not done
pub still_going : {X : Type 0} (over drawn : Bool) → over ≡ false → (over && not drawn) ≡ true → X
still_going true drawn going is = cc
still_going false drawn going is = cc

module _ {E C : Type 0} (contents : E → Option (List ℕ)) where
  -- one drawing was handed to the terminal
  pub shown : (old new : Progress E C) (all : Bool) (text : List ℕ) → new.terminal.ghost_name ≡ old.terminal.ghost_name → is_done old ≡ false → (all ≡ false → is_done new ≡ true) → IsSent all (contents old.terminal.now) (contents new.terminal.now) text
      → (drawing : Drawing) → text ≡ drawing_of drawing → IsDrawnOn contents old new
  shown old new all text same going ends sent drawing is = record {
    same = same;
    drawn = (drawing ∷ [], one_written drawing_of (contents old.terminal.now) (contents new.terminal.now) all (is_done new) drawing text is ends sent);
    done = λ done. true_false (is_done old) done going;
    left_alone = λ done. true_false (is_done old) done going;
  }

  -- nothing was done with the terminal
  pub left : (old new : Progress E C) → new.terminal ≡ old.terminal → (is_done old ≡ true → is_done new ≡ true) → IsDrawnOn contents old new
  left old new same done = record {
    same = ap (λ t. t.ghost_name) same;
    drawn = subst (λ t. AreDrawn (contents old.terminal.now) (contents t.now) (is_done new)) (sym same) (none_drawn (contents old.terminal.now) (is_done new));
    done = done;
    left_alone = λ is. ap (λ t. t.now) same;
  }

  behind_by : (first old new : Progress E C) (done : Bool) → is_done old ≡ done → IsDrawnOn contents first old → IsDrawnOn contents old new → AreDrawn (contents first.terminal.now) (contents new.terminal.now) (is_done new)
  behind_by first old new false is was now =
      drawn_behind (contents first.terminal.now) (contents old.terminal.now) (contents new.terminal.now) (is_done new) (subst (AreDrawn (contents first.terminal.now) (contents old.terminal.now)) is was.drawn) now.drawn
  behind_by first old new true is was now =
      subst (λ (e : E). AreDrawn (contents first.terminal.now) (contents e) (is_done new)) (sym (now.left_alone is))
      (drawn_still (contents first.terminal.now) (contents old.terminal.now) (is_done old) (is_done new) (λ going. true_false (is_done new) (now.done is) going) was.drawn)

  -- one that was drawn on is drawn on once more
  pub drawn_more : (first old new : Progress E C) → IsDrawnOn contents first old → IsDrawnOn contents old new → IsDrawnOn contents first new
  drawn_more first old new was now = record {
    same = now.same ∙ was.same;
    drawn = behind_by first old new (is_done old) refl was now;
    done = λ is. now.done (was.done is);
    left_alone = λ is. now.left_alone (was.done is) ∙ was.left_alone is;
  }

  -- before anything was shown
  pub begun : (p : PlanParts) (first : Progress E C) → HasFollowed contents p first first []
  begun p first = record { drawn = left first first refl (λ done. done); kept = none_kept p first.failures.now; running = none_running p.tree first.running.now }

  module _ (p : PlanParts) (first old new : Progress E C) (ts : List Telling) (was : HasFollowed contents p first old ts) (drawn : IsDrawnOn contents old new) where
    -- nothing more was shown
    pub follows_as_much : new.failures ≡ old.failures → new.running ≡ old.running → HasFollowed contents p first new ts
    follows_as_much failures running = record {
      drawn = drawn_more first old new was.drawn drawn;
      kept = subst (λ fs. HasKept p first.failures.now fs.now ts) (sym failures) was.kept;
      running = subst (λ rs. HasFollowedTests p.tree first.running.now rs.now ts) (sym running) was.running;
    }

    -- one event more was
    pub follows_more : (t : Telling) → HasSeenMore HasKept p (t ∷ []) old.failures.now new.failures.now → Follows p.tree t.event old.running.now new.running.now → HasFollowed contents p first new (ts ++ t ∷ [])
    follows_more t kept running = record {
      drawn = drawn_more first old new was.drawn drawn;
      kept = kept first.failures.now ts was.kept;
      running = running_on p.tree first.running.now old.running.now new.running.now ts t was.running running;
    }

-- what there is of a result is as it was said to be
pub some_if_ok : {A F : Type 0} {P Q : A → Type 0} (result : Result A F) (found : Option A) → found ≡ result_ok result → ((a : A) → P a → Q a) → IfOk result P → IfSome found Q
some_if_ok {A} {F} {P} {Q} (Ok a) (Some b) same so is = so b (subst P (sym (same_Some b a same)) is)
some_if_ok {A} {F} {P} {Q} (Ok a) None same so is = tt
some_if_ok {A} {F} {P} {Q} (Err fault) (Some b) same so is = absurd (none-some b (sym same))
some_if_ok {A} {F} {P} {Q} (Err fault) None same so is = tt
