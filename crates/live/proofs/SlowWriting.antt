-- What is written of slow tests stands behind what was there.
use Rattle.std.proofs.Common.{◌≡◌, ◌∙◌, ℕ, not, Bool, true, false, List, [], ◌∷◌, ◌++◌, Option, refl, sym, ap, ap₂, subst, append-nil}
use Rattle.resource_locks.specs.Plans.{PlanParts}
use Rattle.listeners.specs.Listeners.{Telling}
use Rattle.live.proofs.SlowNaming.{none_slow, said_next, slow_on}
use Rattle.live.proofs.Written.{none_written, one_written, written_behind, written_still}
use Rattle.live.specs.SlowNames.{HasNamed, IsWrittenOn, NamesNext}
use Rattle.live.specs.SlowNaming.{AreSlow, NotesBy, Slow, slow_line}
use Rattle.live.specs.Written.{AreWritten, IsSent}
use Rattle.live.specs.declared.slow_lines.SlowLines.{SlowLines}
use Rattle.live.specs.declared.slow_tests.LimitedTest.{LimitedTest}

true_false : {X : Type 0} (b : Bool) → b ≡ true → b ≡ false → X
true_false b is other = cc

module _ {E C V : Type 0} (contents : E → Option (List ℕ)) where
  -- nothing was written
  pub untouched : (old new : SlowLines E C V) → new.errors ≡ old.errors → new.is_over ≡ old.is_over → IsWrittenOn contents old new []
  untouched old new same over = record {
    same = ap (λ e. e.ghost_name) same;
    written = subst (λ e. AreWritten slow_line [] (contents old.errors.now) (contents e.now) new.is_over) (sym same) (none_written slow_line (contents old.errors.now) new.is_over);
    over = λ is. over ∙ is;
    silent = λ is. refl;
    left_alone = λ is. ap (λ e. e.now) same;
  }

  -- one line was written
  pub line_written : (old new : SlowLines E C V) (all : Bool) (s : Slow) (text : List ℕ) → new.errors.ghost_name ≡ old.errors.ghost_name → old.is_over ≡ false → new.is_over ≡ not all → text ≡ slow_line s
      → IsSent all (contents old.errors.now) (contents new.errors.now) text → IsWrittenOn contents old new (s ∷ [])
  line_written old new all s text same going over is sent = record {
    same = same;
    written = one_written slow_line (contents old.errors.now) (contents new.errors.now) all new.is_over s text is (λ short. over ∙ ap not short) sent;
    over = λ is. true_false old.is_over is going;
    silent = λ is. true_false old.is_over is going;
    left_alone = λ is. true_false old.is_over is going;
  }

  module _ (first old new : SlowLines E C V) (said more : List Slow) (was : IsWrittenOn contents first old said) (now : IsWrittenOn contents old new more) where
    behind_by : (over : Bool) → old.is_over ≡ over → AreWritten slow_line (said ++ more) (contents first.errors.now) (contents new.errors.now) new.is_over
    behind_by false is =
        written_behind slow_line said more (contents first.errors.now) (contents old.errors.now) (contents new.errors.now) new.is_over
        (subst (AreWritten slow_line said (contents first.errors.now) (contents old.errors.now)) is was.written) now.written
    behind_by true is =
        let still = written_still slow_line said (contents first.errors.now) (contents old.errors.now) old.is_over new.is_over (λ going. true_false new.is_over (now.over is) going) was.written in
        let same : said ++ more ≡ said = ap (λ (l : List Slow). said ++ l) (now.silent is) ∙ append-nil said in
        subst (λ (l : List Slow). AreWritten slow_line l (contents first.errors.now) (contents new.errors.now) new.is_over) (sym same)
        (subst (λ (e : E). AreWritten slow_line said (contents first.errors.now) (contents e) new.is_over) (sym (now.left_alone is)) still)

    -- first these lines, and then those
    pub more_written : IsWrittenOn contents first new (said ++ more)
    more_written = record {
      same = now.same ∙ was.same;
      written = behind_by old.is_over refl;
      over = λ is. now.over (was.over is);
      silent = λ is. ap₂ (λ (a b : List Slow). a ++ b) (was.silent is) (now.silent (was.over is));
      left_alone = λ is. now.left_alone (was.over is) ∙ was.left_alone is;
    }

  -- what was written is written
  pub kept_written : (first old new : SlowLines E C V) (said : List Slow) → IsWrittenOn contents first old said → new.errors ≡ old.errors → new.is_over ≡ old.is_over → IsWrittenOn contents first new said
  kept_written first old new said was same over = subst (IsWrittenOn contents first new) (append-nil said) (more_written first old new said [] was (untouched old new same over))

  -- before anything was shown
  pub begun : (p : PlanParts) (first : SlowLines E C V) → HasNamed contents p first first []
  begun p first = record { said = []; written = untouched first first refl refl; slow = none_slow p.tree first.tests.now.tests.items }

  module _ (p : PlanParts) (first old new : SlowLines E C V) (ts : List Telling) (was : HasNamed contents p first old ts) where
    -- nothing that is told of has changed
    pub same_on : new.errors ≡ old.errors → new.is_over ≡ old.is_over → new.tests ≡ old.tests → HasNamed contents p first new ts
    same_on errors over tests = record {
      said = was.said;
      written = kept_written first old new was.said was.written errors over;
      slow = subst (λ (now : List LimitedTest). AreSlow p.tree first.tests.now.tests.items now ts was.said) (sym (ap (λ t. t.now.tests.items) tests)) was.slow;
    }

    -- one line more, or none
    pub named_on : NamesNext contents old new → HasNamed contents p first new ts
    named_on next = record {
      said = was.said ++ next.said;
      written = more_written first old new was.said next.said was.written next.written;
      slow = said_next p.tree first.tests.now.tests.items old.tests.now.tests.items new.tests.now.tests.items ts was.said was.slow next.said next.taken;
    }

    -- one event more
    pub noted_on : (t : Telling) → new.errors ≡ old.errors → new.is_over ≡ old.is_over → NotesBy t.event.kind p.tree t.event.node old.tests.now.tests.items new.tests.now.tests.items → HasNamed contents p first new (ts ++ t ∷ [])
    noted_on t same over notes = record {
      said = was.said;
      written = kept_written first old new was.said was.written same over;
      slow = slow_on p.tree first.tests.now.tests.items old.tests.now.tests.items new.tests.now.tests.items ts t was.said was.slow notes;
    }
