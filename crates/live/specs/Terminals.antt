-- What a terminal holds on which the line is drawn.
use Rattle.std.specs.Prelude.{◌≡◌, ℕ, Bool, true, false, ◌&&◌, not, List, ◌++◌, codes, Option}
use Rattle.resource_locks.specs.Plans.{PlanParts}
use Rattle.listeners.specs.Listeners.{Telling}
use Rattle.live.specs.Failing.{HasKept}
use Rattle.live.specs.Lines.{line_of}
use Rattle.live.specs.RunningTests.{HasFollowedTests, longest_part}
use Rattle.live.specs.SlowNaming.{Slow, slow_line}
use Rattle.live.specs.Written.{AreWritten}
use Rattle.live.specs.declared.progress.Progress.{Progress}
use Rattle.live.specs.declared.test_counts.TestCounts.{TestCounts}

-- what a terminal takes as: go to the start of the line, and erase what stands behind
abbrev pub erasing : List ℕ
erasing = codes "\r\u{1b}[K"

-- and as: leave out what does not fit on the line, and as: go on with that on the next line, as before
abbrev pub wrapping_off : List ℕ
wrapping_off = codes "\u{1b}[?7l"

abbrev pub wrapping_on : List ℕ
wrapping_on = codes "\u{1b}[?7h"

-- what the line says: how far the tests have come after so many seconds, and of one that runs long its name and its seconds
pub record Line : Type 0 where
  pub tests : TestCounts
  pub seconds : ℕ
  pub longest : Option (List ℕ × ℕ)

abbrev pub text_of : Line → List ℕ
text_of line = line_of line.tests line.seconds ++ longest_part line.longest

-- What is drawn at one time: the line is left empty; or it is drawn anew; or a slow test is named there, on a line that stays.
pub data Drawing : Type 0 where
  Erased : Drawing
  Drawn : (line : Line) → Drawing
  Named : (slow : Slow) → Drawing

-- The line is erased first. However narrow the terminal is, what is drawn anew takes one line of it, which can be erased.
abbrev pub drawing_of : Drawing → List ℕ
drawing_of Erased = erasing
drawing_of (Drawn line) = erasing ++ (wrapping_off ++ (text_of line ++ wrapping_on))
drawing_of (Named slow) = erasing ++ slow_line slow

-- Behind what was held stand drawings, one behind the other; where nothing more is drawn perhaps the first so many bytes of them alone.
abbrev pub AreDrawn : (old new : Option (List ℕ)) (is_done : Bool) → Type 0
AreDrawn old new is_done = (drawings : List Drawing) × AreWritten drawing_of drawings old new is_done

-- behind what was held stand drawings, one behind the other, or the first so many bytes of them
abbrev pub IsDrawnBehind : (old new : Option (List ℕ)) → Type 0
IsDrawnBehind old new = AreDrawn old new true

module _ {E C : Type 0} where
  -- whether nothing more is drawn, and nothing stands there that is to be erased: the plan is finished, or the terminal failed
  abbrev pub is_done : Progress E C → Bool
  is_done p = p.is_over && not p.is_drawn

module _ {E C : Type 0} (contents : E → Option (List ℕ)) where
  -- The terminal is still the same, and nothing was done with it but that drawings were written to it; and where nothing more was to be
  -- drawn it was left alone.
  pub record IsDrawnOn (first now : Progress E C) : Type 0 where
    pub same : now.terminal.ghost_name ≡ first.terminal.ghost_name
    pub drawn : AreDrawn (contents first.terminal.now) (contents now.terminal.now) (is_done now)
    pub done : is_done first ≡ true → is_done now ≡ true
    pub left_alone : is_done first ≡ true → now.terminal.now ≡ first.terminal.now

  -- One that watches has been shown these events of the plan: it was drawn on its terminal, the failures among them were kept, and the tests
  -- that run were noted.
  pub record HasFollowed (p : PlanParts) (first now : Progress E C) (ts : List Telling) : Type 0 where
    pub drawn : IsDrawnOn first now
    pub kept : HasKept p first.failures.now now.failures.now ts
    pub running : HasFollowedTests p.tree first.running.now now.running.now ts
