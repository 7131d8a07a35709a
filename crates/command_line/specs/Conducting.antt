-- What is done with what is launched, once the arguments are read.
use Rattle.std.specs.Prelude.{ℕ, Bool, List, Option}
use Rattle.launch_options.specs.Given.{Text as GivenText}
use Rattle.launch_options.specs.declared.asked.Options.{Options}
use Rattle.launcher.specs.declared.source.LaunchSource.{LaunchSource}
use Rattle.launcher.specs.declared.source.LaunchSource.TheVariants.{Text, Program}
use Rattle.listeners.specs.Listeners.{Telling}
use Rattle.messages.specs.Sentences.{Sentences, sentence_of, tests_sentence_of}
use Rattle.plan_events.specs.declared.outcome.Outcome.{Outcome}
use Rattle.plan_events.specs.declared.outcome.Reply.{Reply}
use Rattle.ready_runs.specs.ReadyPrograms.{program_parts}
use Rattle.report_files.specs.Deeds.{Deed}
use Rattle.report_files.specs.FiledReports.{Wanted}
use Rattle.resource_locks.specs.Plans.{PlanParts}
use Rattle.word_files.specs.declared.facts.Facts.{Facts}
use Rattle.command_line.specs.Consoles.{ConductsSuite}
use Rattle.command_line.specs.OwnTests.{ConductsTests}
use Rattle.command_line.specs.declared.closing.Ending.{Ending}

-- the sentences of its refusals
abbrev pub sentences_of : {B : Type 0} → LaunchSource B → Sentences
sentences_of Text = sentence_of
sentences_of (Program program) = tests_sentence_of

module _ {B R V W E K : Type 0} (answers : B → List Reply) (gives : B → Reply → Type 0) (says : B → Outcome → Type 0) (remaining : R → Option (List ℕ)) (saw : PlanParts → V → V → List Telling → Type 0) (contents : W → Option (List ℕ)) (said : E → Option (List ℕ)) (deeds : K → Option (List Deed)) (is_terminal : Bool) (facts : Facts) where
  -- what is done with these options, the file that has a suite, if one is named, and these reports: with what is read, who watches, both writers
  -- and the files
  abbrev pub Conducts : LaunchSource B → Options → (suite : Option GivenText) → List Wanted → (before after : R) → (begun ended : V) → (old new : W) → (first last : E) → (was now : K) → Ending → Type 0
  Conducts Text options suite wanted before after begun ended old new first last was now ending = ConductsSuite saw begun ended contents said deeds remaining is_terminal facts.is_typed options suite wanted before after old new first last was now ending
  Conducts (Program program) options suite wanted before after begun ended old new first last was now ending =
      ConductsTests answers gives says (program_parts program.tree program.properties) program.jobs.items saw begun ended contents said deeds remaining is_terminal options suite wanted before after old new first last was now ending
