-- A program is refused for what is for suites alone first, and then as a suite is.
use Rattle.std.proofs.Common.{◌≡◌, ◌∙◌, ℕ, List, Option, Some, None, Result, Ok, Err, IfErr, refl, sym, ap}
use Rattle.std.specs.Option.{option_or}
use Rattle.std.specs.Result.{IsErrAnd}
use Rattle.std.proofs.lemmas.Option.{none-some}
use Rattle.config_params.specs.declared.settings_fault.SettingsFault.{SettingsFault}
use Rattle.scheduling.specs.declared.step.Step.{Step}
use Rattle.suite_text.specs.Reading.Parts.{SuiteParts}
use Rattle.launch_options.specs.Asked.{Asked}
use Rattle.launch_options.specs.declared.fault.LaunchFault.{LaunchFault}
use Rattle.launch_options.specs.declared.fault.LaunchFault.TheVariants.{NoMemory, Suite as OfSuite, BadWords, BadStep, BadReport, CutReport, UnreadRun, BadSavedLine, UnreadWords, BadSelector, BadTags, BadPair, BadSettings, NothingMatches, TooManyKeys, TooManyWorkers, NoWorker, Reading, Writing}
use Rattle.ready_runs.specs.ReadyPrograms.{FailsProgram, program_refusal, suite_option_refusal}
use Rattle.ready_runs.specs.Ready.{FailsSuite, crowd_refusal, plan_refusal, run_refusal, settings_in, settings_refusal}
use Rattle.run_outputs.specs.Outputs.{is_run}

no_replay : (replay : Option (List Step)) (drive most : Option ℕ) → suite_option_refusal replay drive most ≡ None → replay ≡ None
no_replay None drive most none = refl
no_replay (Some steps) drive most none = absurd (none-some BadWords (sym none))

-- a program of which nothing is asked that is for suites alone
module _ (asked : Asked) (parts : SuiteParts) (of_programs : suite_option_refusal asked.replay asked.drive asked.most_nodes ≡ None) where
  -- is refused as a suite is
  pub same_refusal : program_refusal asked parts ≡ run_refusal asked parts
  same_refusal = ap (λ o. option_or o (run_refusal asked parts)) of_programs

  fails_as : (fault : LaunchFault) → FailsSuite asked parts fault → FailsProgram asked parts fault
  fails_as NoMemory x = (of_programs, x)
  fails_as (OfSuite f) x = absurd x
  fails_as BadWords x = absurd x
  fails_as (BadStep n) x = absurd x
  fails_as (BadReport n) x = absurd x
  fails_as (CutReport n) x = absurd x
  fails_as UnreadRun x = absurd x
  fails_as (BadSavedLine n) x = absurd x
  fails_as (UnreadWords n) x = absurd x
  fails_as (BadSelector n) x = absurd x
  fails_as (BadTags f) x = absurd x
  fails_as (BadPair f) x = absurd x
  fails_as (BadSettings f) x = same_refusal ∙ x
  fails_as (NothingMatches n) x = same_refusal ∙ x
  fails_as TooManyKeys x = same_refusal ∙ x
  fails_as TooManyWorkers x = same_refusal ∙ x
  fails_as NoWorker x = (same_refusal ∙ x.0, sym (ap (λ r. is_run r asked.details) (no_replay asked.replay asked.drive asked.most_nodes of_programs)) ∙ x.1)
  fails_as Reading x = absurd x
  fails_as (Writing f) x = absurd x

  pub fails_so : {X : Type 0} (result : Result X LaunchFault) → IfErr result (FailsSuite asked parts) → IfErr result (FailsProgram asked parts)
  fails_so (Ok x) is = tt
  fails_so (Err e) is = fails_as e is

  pub settings_fail : {X : Type 0} (cause : SettingsFault) (result : Result X LaunchFault) → IsErrAnd result (λ e. e ≡ BadSettings cause) → Err cause ≡ settings_in asked parts → IfErr result (FailsProgram asked parts)
  settings_fail cause (Ok x) is same = absurd is
  settings_fail cause (Err e) is same =
      rw is (same_refusal ∙ ap (λ r. option_or (settings_refusal r) (option_or (plan_refusal asked parts.tree parts.properties) (crowd_refusal r))) (sym same))

module _ (asked : Asked) (parts : SuiteParts) where
  -- something is
  pub options_fail : {X : Type 0} (fault : LaunchFault) (result : Result X LaunchFault) → IsErrAnd result (λ e. e ≡ fault) → fault ≡ BadWords → suite_option_refusal asked.replay asked.drive asked.most_nodes ≡ Some fault → IfErr result (FailsProgram asked parts)
  options_fail fault (Ok x) is words why = absurd is
  options_fail fault (Err e) is words why = rw is (rw words (ap (λ o. option_or o (run_refusal asked parts)) why ∙ ap Some words))
