-- What a program of tests does with the arguments that it is given.
use Rattle.std.specs.Prelude.{◌≡◌, ℕ, Bool, List, Option, Some}
use Rattle.std.specs.Borrow.{Bor}
use Rattle.command_line.specs.Commands.{IsCommandRun, RefusesCommand}
use Rattle.command_line.specs.OwnTests.{ConductsTests}
use Rattle.command_line.specs.declared.closing.Ending.{Ending}
use Rattle.launch_options.specs.Given.{Text}
use Rattle.launch_options.specs.declared.fault.LaunchFault.{LaunchFault}
use Rattle.listeners.specs.Listeners.{Telling}
use Rattle.messages.specs.Sentences.{tests_sentence_of}
use Rattle.plan_events.specs.declared.outcome.Outcome.{Outcome}
use Rattle.plan_events.specs.declared.outcome.Reply.{Reply}
use Rattle.report_files.specs.Deeds.{Deed}
use Rattle.resource_locks.specs.Plans.{PlanParts}
use Rattle.suite_text.specs.Reading.Parts.{SuiteParts}
use Rattle.word_files.specs.declared.facts.Facts.{Facts}

-- a reader of these bytes
abbrev pub bytes_read : Bor (List ℕ) → Option (List ℕ)
bytes_read left = Some left.now

-- of jobs that may answer so, and of who watches
module _ {B V W E K : Type 0} (answers : B → List Reply) (gives : B → Reply → Type 0) (says : B → Outcome → Type 0) (saw : PlanParts → V → V → List Telling → Type 0) (contents : W → Option (List ℕ)) (said : E → Option (List ℕ)) (deeds : K → Option (List Deed)) (parts : SuiteParts) (jobs : List (ℕ × B)) (begun ended : V) where
  -- what the arguments ask for is done with the tests; they read nothing
  pub record IsTestsMain (is_terminal : Bool) (facts : Facts) (words : List Text) (old new : W) (first last : E) (was now : K) (ending : Ending) : Type 0 where
    pub before : Bor (List ℕ)
    pub after : Bor (List ℕ)
    pub runs : IsCommandRun tests_sentence_of contents said (λ options suite wanted before after begun ended old new first last was now ending. ConductsTests answers gives says parts jobs saw begun ended contents said deeds bytes_read is_terminal options suite wanted before after old new first last was now ending) facts words before after begun ended old new first last was now ending

  -- the system gave no arguments: that is said, and nothing is seen
  pub record IsUngiven (fault : LaunchFault) (old new : W) (first last : E) (was now : K) (ending : Ending) : Type 0 where
    pub before : Bor (List ℕ)
    pub after : Bor (List ℕ)
    pub refuses : RefusesCommand tests_sentence_of contents said fault before after begun ended old new first last was now ending
