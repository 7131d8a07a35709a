-- What is done on a system, whatever it gave and told.
use Rattle.std.proofs.Common.{◌≡◌, ℕ, Bool, List, map, Option, None, Some, IfErr, IfOk, Result, Ok, Err, inl, inr, refl}
use Rattle.std.specs.Borrow.{Bor}
use Rattle.command_line.specs.Commands.{ConductsRead, IsCommandRun, RefusesCommand, RunsExpanded}
use Rattle.command_line.specs.OwnTests.{ConductsTests}
use Rattle.command_line.specs.declared.closing.Ending.{Ending}
use Rattle.launch_options.specs.Given.{Text}
use Rattle.launch_options.specs.declared.asked.Options.{Options}
use Rattle.launch_options.specs.declared.fault.LaunchFault.{LaunchFault}
use Rattle.listeners.specs.Listeners.{Telling}
use Rattle.messages.specs.Sentences.{tests_sentence_of}
use Rattle.plan_events.specs.declared.outcome.Outcome.{Outcome}
use Rattle.plan_events.specs.declared.outcome.Reply.{Reply}
use Rattle.report_files.specs.Deeds.{Deed}
use Rattle.report_files.specs.FiledReports.{Wanted}
use Rattle.resource_locks.specs.Plans.{PlanParts}
use Rattle.suite_text.specs.Reading.Parts.{SuiteParts}
use Rattle.word_files.specs.declared.facts.Facts.{Facts}
use Rattle.harness.specs.SystemRuns.{IsRunHere}
use Rattle.harness.specs.TestRuns.{IsTestsMain, IsUngiven, bytes_read}

module _ {B V W E K : Type 0} (answers : B → List Reply) (gives : B → Reply → Type 0) (says : B → Outcome → Type 0) (saw : PlanParts → V → V → List Telling → Type 0) (contents : W → Option (List ℕ)) (said : E → Option (List ℕ)) (parts : SuiteParts) (jobs : List (ℕ × B)) (begun ended : V) (is_terminal : Bool) (old new : W) (first last : E) (was now : K) (ending : Ending) where
  -- what is done with tests of whose files there is no account
  abbrev Does : {L : Type 0} → Options → (suite : Option Text) → List Wanted → (before after : Bor (List ℕ)) → (begun ended : V) → (old new : W) → (first last : E) → (was now : L) → Ending → Type 0
  Does {L = L} options suite wanted before after begun ended old new first last was now ending = ConductsTests answers gives says parts jobs saw begun ended contents said (λ (files : L). None) bytes_read is_terminal options suite wanted before after old new first last was now ending

  module _ (before after : Bor (List ℕ)) where
    refused_somehow : (fault : LaunchFault) → RefusesCommand tests_sentence_of contents said fault before after begun ended old new first last was now ending → RefusesCommand tests_sentence_of contents said fault before after begun ended old new first last (tt {0}) (tt {0}) ending
    refused_somehow fault is = record { unread = is.unread; unseen = is.unseen; untouched = refl; closes = is.closes }

    -- of files of which there is no account nothing is known
    done_somehow : (options : Result Options LaunchFault) (suite : Option Text) (wanted : List Wanted) → ConductsRead tests_sentence_of contents said Does options suite wanted before after begun ended old new first last was now ending
        → ConductsRead tests_sentence_of contents said Does options suite wanted before after begun ended old new first last (tt {0}) (tt {0}) ending
    done_somehow (Ok options) None wanted is = is
    done_somehow (Ok options) (Some name) wanted is = record { unread = is.unread; unseen = is.unseen; untouched = refl; closes = is.closes }
    done_somehow (Err fault) suite wanted is = refused_somehow fault is

    expanded_somehow : (expanded : Result (List Text) LaunchFault) → RunsExpanded tests_sentence_of contents said Does expanded before after begun ended old new first last was now ending
        → RunsExpanded tests_sentence_of contents said Does expanded before after begun ended old new first last (tt {0}) (tt {0}) ending
    expanded_somehow (Ok words) (inl told) = inl (record { unread = told.unread; unseen = told.unseen; untouched = refl; silent = told.silent; answers = told.answers })
    expanded_somehow (Ok words) (inr is) = inr (record { options = is.options; reads = is.reads; unasked = is.unasked; runs = done_somehow is.options _ _ is.runs })
    expanded_somehow (Err fault) is = refused_somehow fault is

  run_somehow : (facts : Facts) (words : List Text) → IsTestsMain answers gives says saw contents said (λ (files : K). None) parts jobs begun ended is_terminal facts words old new first last was now ending
      → IsTestsMain answers gives says saw contents said (λ (files : Unit {0}). None) parts jobs begun ended is_terminal facts words old new first last (tt {0}) (tt {0}) ending
  run_somehow facts words is = record {
    before = is.before;
    after = is.after;
    runs = record { expanded = is.runs.expanded; expands = is.runs.expands; runs = expanded_somehow is.before is.after is.runs.expanded is.runs.runs };
  }

  ungiven_somehow : (fault : LaunchFault) → IsUngiven answers gives says saw contents said (λ (files : K). None) parts jobs begun ended fault old new first last was now ending
      → IsUngiven answers gives says saw contents said (λ (files : Unit {0}). None) parts jobs begun ended fault old new first last (tt {0}) (tt {0}) ending
  ungiven_somehow fault is = record { before = is.before; after = is.after; refuses = refused_somehow is.before is.after fault is.refuses }

  -- so it is done by some arguments, or for some reason by none
  pub run_here : {G F X : Type 0} (Why : F → LaunchFault → Type 0) (given : G → List X) (text : X → Text) (facts : Facts) (words : Result G F)
      → IfOk words (λ some. IsTestsMain answers gives says saw contents said (λ (files : K). None) parts jobs begun ended is_terminal facts (map text (given some)) old new first last was now ending)
      → IfErr words (λ error. (fault : LaunchFault) × Why error fault × IsUngiven answers gives says saw contents said (λ (files : K). None) parts jobs begun ended fault old new first last was now ending) → IsRunHere answers gives says saw contents said parts jobs begun ended old new first last ending
  run_here Why given text facts (Ok some) run refused = record { is_terminal = is_terminal; facts = facts; given = Ok (map text (given some)); runs = run_somehow facts (map text (given some)) run }
  run_here Why given text facts (Err error) run refused = record { is_terminal = is_terminal; facts = facts; given = Err refused.0; runs = ungiven_somehow refused.0 refused.2 }
