-- From what was read to what a launch comes to, whatever the reader tells of its bytes.
use Rattle.std.proofs.Common.{◌≡◌, ◌≢◌, ℕ, Bool, List, length, Option, Some, None, Result, Ok, Err, inl, inr, sym, ap, subst}
use Rattle.std.specs.Result.{IsErrAnd}
use Rattle.std.proofs.lemmas.Option.{same_Some}
use Rattle.config_params.specs.declared.settings.Settings.{Settings}
use Rattle.job_times.specs.Timings.{Times}
use Rattle.plan_events.specs.declared.outcome.Reply.{Reply}
use Rattle.resource_locks.specs.Plans.{PlanParts}
use Rattle.resource_locks.specs.Spares.{HasBareSpares}
use Rattle.scheduling.specs.declared.step.Step.{Step}
use Rattle.suite_text.specs.Reading.Bytes.{suite_read}
use Rattle.suite_text.specs.Reading.Parts.{SuiteParts}
use Rattle.suite_text.specs.Suites.{suite_parts}
use Rattle.suite_text.specs.declared.suite.Suite.{Suite}
use Rattle.suite_words.specs.declared.suite.fault.SuiteFault.{SuiteFault}
use Rattle.launch_options.specs.Asked.{Asked}
use Rattle.launch_options.specs.declared.details.Details.{Details}
use Rattle.launch_options.specs.declared.details.Details.TheVariants as details
use Rattle.launch_options.specs.declared.fault.LaunchFault.{LaunchFault}
use Rattle.launch_options.specs.declared.fault.LaunchFault.TheVariants.{NoMemory, NoWorker, Reading}
use Rattle.run_outputs.specs.Missing.{answer_unless}
use Rattle.run_outputs.specs.declared.exit_status.ExitStatus.{ExitStatus}
use Rattle.ready_runs.specs.Ready.{FailsSuite, answers_of}
use Rattle.ready_runs.specs.Reading.{FailsToRead, ReadsSuite, TakesFrom, fault_in, most_read}
use Rattle.ready_runs.proofs.Taking.{ends_whole, read_small, takes_as}
use Rattle.worker_pool.specs.declared.report.Report.{Report}
use Rattle.launcher.specs.Launches.{IsPrintedTo, LacksAll}
use Rattle.launcher.specs.PlannedLaunches.{DoesPlan}
use Rattle.launcher.specs.SuiteLaunches.{DoesSuite, IsReadLaunch, IsSuiteLaunch, RunsSuite}
use Rattle.launcher.specs.Watched.{IsRefusedBy, LacksMeans, cut_in}

-- a launch does not fail as a reader does
abbrev Other : Result ExitStatus LaunchFault → Type 0
Other answer = fault_in answer ≢ Some Reading

error_other : (Fails : LaunchFault → Type 0) → (Fails Reading → ⊥) → (answer : Result ExitStatus LaunchFault) → IsErrAnd answer Fails → Other answer
error_other Fails never (Ok status) is same = cc
error_other Fails never (Err fault) is same = never (subst Fails (same_Some fault Reading same) is)

lacks_other : LacksMeans Reading → ⊥
lacks_other why = elim why [ inl is ↦ cc | inr is ↦ cc ]

judged_other : (missing : Bool) (told : Result ExitStatus LaunchFault) → Other told → Other (answer_unless missing told)
judged_other missing (Ok status) other same = cc
judged_other missing (Err fault) other same = other same

printed_other : (asked : Asked) (old new : Option (List ℕ)) (Prints : List ℕ → ExitStatus → Type 0) (answer : Result ExitStatus LaunchFault) → IsPrintedTo asked Prints old new answer → Other answer
printed_other asked old new Prints (Ok status) is same = cc
printed_other asked old new Prints (Err fault) is same = never (subst (λ (f : LaunchFault). IsRefusedBy asked Prints (LacksAll old new) (cut_in f) f old new) (same_Some fault Reading same) is)
  where
    never : LacksAll old new Reading → ⊥
    never lacks = (let is : Reading ≡ NoMemory = lacks.0 in cc)

module _ {B : Type 0} (asked : Asked) (times : Times) (old new : Option (List ℕ)) where
  -- a suite was read, and launched
  pub launch_read : (suite : Suite) (read : Result SuiteParts SuiteFault) (ran : Option (Report B)) (answer : Result ExitStatus LaunchFault) → ReadsSuite read (Ok suite) → HasBareSpares suite.tree → IsSuiteLaunch asked times old new (suite_parts suite) ran answer → IsReadLaunch asked times old new read ran answer
  launch_read suite read ran answer is bare launch = record { loaded = Ok suite; reads = is; launches = (bare, launch) }

  -- no suite was read
  pub launch_unread : (fault : LaunchFault) (read : Result SuiteParts SuiteFault) (ran : Option (Report B)) (answer : Result ExitStatus LaunchFault) → answer ≡ Err fault → ran ≡ None → new ≡ old → FailsToRead read fault → IsReadLaunch asked times old new read ran answer
  launch_unread fault read ran answer same unrun unwritten fails = record { loaded = Err fault; reads = fails; launches = (same, unrun, unwritten) }

  module _ (settings : Settings) (p : PlanParts) (answers : List (ℕ × Reply)) (answer : Result ExitStatus LaunchFault) where
    runs_other : (ran : Option (Report B)) → RunsSuite asked times old new settings p answers ran answer → Other answer
    runs_other (Some ran) is = printed_other asked old new _ answer is.printed
    runs_other None is = error_other LacksMeans lacks_other answer is.fault

    plan_other : (kind : Details) (ran : Option (Report B)) → DoesPlan asked old new (RunsSuite asked times old new settings p answers) kind settings p ran answer → Other answer
    plan_other details.None ran is = runs_other ran is
    plan_other details.Summary ran is = runs_other ran is
    plan_other details.Tree ran is = runs_other ran is
    plan_other details.Testfeed ran is = runs_other ran is
    plan_other details.Json ran is = runs_other ran is
    plan_other details.Xml ran is = runs_other ran is
    plan_other details.List ran is = printed_other asked old new _ answer is.printed
    plan_other details.Plan ran is = printed_other asked old new _ answer is.printed

    suite_other : (replay : Option (List Step)) (ran : Option (Report B)) → DoesSuite asked times old new settings p answers replay ran answer → Other answer
    suite_other None ran is = plan_other asked.details ran is
    suite_other (Some steps) ran is = printed_other asked old new _ answer is.printed

  launch_other : (suite : SuiteParts) (ran : Option (Report B)) (answer : Result ExitStatus LaunchFault) → IsSuiteLaunch asked times old new suite ran answer → Other answer
  launch_other suite ran answer (inl refused) = error_other (FailsSuite asked suite) (λ never. never) answer refused.fails
  launch_other suite ran answer (inr planned) = subst Other (sym planned.judged) (judged_other _ planned.told (suite_other planned.settings _ (answers_of suite.scripts) planned.told asked.replay ran planned.does))

  module _ (most : Option ℕ) (before left : Option (List ℕ)) where
    -- a suite was read, and launched
    pub takes_launch : (suite : Suite) (ran : Option (Report B)) (answer : Result ExitStatus LaunchFault) → HasBareSpares suite.tree → IsSuiteLaunch asked times old new (suite_parts suite) ran answer → TakesFrom (most_read most) before left None (λ read. ReadsSuite (suite_read most read) (Ok suite))
        → TakesFrom (most_read most) before left (fault_in answer) (λ bytes. IsReadLaunch asked times old new (suite_read most bytes) ran answer)
    takes_launch suite ran answer bare launch taken =
        takes_as (most_read most) before left None (fault_in answer) (λ read. ReadsSuite (suite_read most read) (Ok suite)) (λ bytes. IsReadLaunch asked times old new (suite_read most bytes) ran answer) (λ bytes read. launch_read suite (suite_read most bytes) ran answer read bare launch)
        (λ read ok end. ends_whole (most_read most) (fault_in answer) (length read) left (launch_other (suite_parts suite) ran answer launch) (λ same. read_small most read (suite_parts suite) ok) end) taken

    -- and where none was read nothing is launched
    pub takes_none : (fault : LaunchFault) (ran : Option (Report B)) (answer : Result ExitStatus LaunchFault) → answer ≡ Err fault → ran ≡ None → new ≡ old → TakesFrom (most_read most) before left (Some fault) (λ read. FailsToRead (suite_read most read) fault)
        → TakesFrom (most_read most) before left (fault_in answer) (λ bytes. IsReadLaunch asked times old new (suite_read most bytes) ran answer)
    takes_none fault ran answer same unrun unwritten taken =
        subst (λ (o : Option LaunchFault). TakesFrom (most_read most) before left o (λ bytes. IsReadLaunch asked times old new (suite_read most bytes) ran answer)) (sym (ap fault_in same))
        (takes_as (most_read most) before left (Some fault) (Some fault) (λ read. FailsToRead (suite_read most read) fault) (λ bytes. IsReadLaunch asked times old new (suite_read most bytes) ran answer) (λ bytes fails. launch_unread fault (suite_read most bytes) ran answer same unrun unwritten fails) (λ read fails ends. ends) taken)
