-- Who watches a run, and names the tests that run longer than their limit.
use Rattle.std.specs.Prelude.{◌≡◌, ℕ, Bool, true, List, [], Option}
use Rattle.resource_locks.specs.Plans.{PlanParts}
use Rattle.listeners.specs.Listeners.{Telling}
use Rattle.live.specs.SlowNaming.{AreSlow, Slow, TakesNext, slow_line}
use Rattle.live.specs.Written.{AreWritten}
use Rattle.live.specs.declared.slow_lines.SlowLines.{SlowLines}

-- behind what was held stand lines of slow tests, one behind the other, or the first so many bytes of them
abbrev pub AreNamedBehind : (old new : Option (List ℕ)) → Type 0
AreNamedBehind old new = (said : List Slow) × AreWritten slow_line said old new true

module _ {E C V : Type 0} (contents : E → Option (List ℕ)) where
  -- The writer is still the same, and nothing was done with it but that these lines were written to it; and where nothing more was to be written
  -- it was left alone.
  pub record IsWrittenOn (first now : SlowLines E C V) (said : List Slow) : Type 0 where
    pub same : now.errors.ghost_name ≡ first.errors.ghost_name
    pub written : AreWritten slow_line said (contents first.errors.now) (contents now.errors.now) now.is_over
    pub over : first.is_over ≡ true → now.is_over ≡ true
    pub silent : first.is_over ≡ true → said ≡ []
    pub left_alone : first.is_over ≡ true → now.errors.now ≡ first.errors.now

  -- a slow test is named, or none is
  pub record NamesNext (old new : SlowLines E C V) : Type 0 where
    pub said : List Slow
    pub written : IsWrittenOn old new said
    pub taken : TakesNext old.tests.now.tests.items new.tests.now.tests.items said

  -- One that watches has been shown these events of the plan: it has written lines, each of a test that was running then and was slow.
  pub record HasNamed (p : PlanParts) (first now : SlowLines E C V) (ts : List Telling) : Type 0 where
    pub said : List Slow
    pub written : IsWrittenOn first now said
    pub slow : AreSlow p.tree first.tests.now.tests.items now.tests.now.tests.items ts said
