-- What a program of tests does on a system, of which no clause can say what it gives and tells.
use Rattle.std.specs.Prelude.{◌≡◌, ℕ, Bool, List, Option, None, Result, Ok, Err}
use Rattle.command_line.specs.declared.closing.Ending.{Ending}
use Rattle.launch_options.specs.Given.{Text}
use Rattle.launch_options.specs.declared.fault.LaunchFault.{LaunchFault}
use Rattle.listeners.specs.Listeners.{Telling}
use Rattle.plan_events.specs.declared.outcome.Outcome.{Outcome}
use Rattle.plan_events.specs.declared.outcome.Reply.{Reply}
use Rattle.resource_locks.specs.Plans.{PlanParts}
use Rattle.suite_text.specs.Reading.Parts.{SuiteParts}
use Rattle.harness.specs.TestRuns.{IsTestsMain, IsUngiven}
use Rattle.word_files.specs.declared.facts.Facts.{Facts}

module _ {B V W E : Type 0} (answers : B → List Reply) (gives : B → Reply → Type 0) (says : B → Outcome → Type 0) (saw : PlanParts → V → V → List Telling → Type 0) (contents : W → Option (List ℕ)) (said : E → Option (List ℕ)) (parts : SuiteParts) (jobs : List (ℕ × B)) (begun ended : V) where
  -- what the arguments that it gave ask for is done, and there is no account of its files; or it gave none, that is said, and nothing is seen
  abbrev pub RunsGiven : (is_terminal : Bool) → Facts → Result (List Text) LaunchFault → (old new : W) → (first last : E) → Ending → Type 0
  RunsGiven is_terminal facts (Ok words) old new first last ending = IsTestsMain answers gives says saw contents said (λ (files : Unit {0}). None) parts jobs begun ended is_terminal facts words old new first last tt tt ending
  RunsGiven is_terminal facts (Err fault) old new first last ending = IsUngiven answers gives says saw contents said (λ (files : Unit {0}). None) parts jobs begun ended fault old new first last tt tt ending

  -- by some arguments, or a reason why there are none, and by some facts, on a terminal or none
  pub record IsRunHere (old new : W) (first last : E) (ending : Ending) : Type 0 where
    pub is_terminal : Bool
    pub facts : Facts
    pub given : Result (List Text) LaunchFault
    pub runs : RunsGiven is_terminal facts given old new first last ending
