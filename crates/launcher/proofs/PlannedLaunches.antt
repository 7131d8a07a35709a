-- What a launch comes to, from what is done with its plan.
use Rattle.std.proofs.Common.{◌≡◌, ℕ, Bool, List, Option, None, Result, subst}
use Rattle.config_params.specs.declared.settings.Settings.{Settings}
use Rattle.plan_events.specs.declared.outcome.Reply.{Reply}
use Rattle.resource_locks.specs.Plans.{PlanParts}
use Rattle.never_stuck.specs.Reaching.{NeverStuck}
use Rattle.suite_text.specs.Reading.Parts.{SuiteParts}
use Rattle.launch_options.specs.Asked.{Asked}
use Rattle.launch_options.specs.declared.fault.LaunchFault.{LaunchFault}
use Rattle.run_outputs.specs.Missing.{answer_unless, is_missing}
use Rattle.run_outputs.specs.declared.exit_status.ExitStatus.{ExitStatus}
use Rattle.ready_runs.specs.Ready.{IsReady}
use Rattle.worker_pool.specs.declared.report.Report.{Report}
use Rattle.launcher.specs.PlannedLaunches.{IsPlannedLaunch}

-- what is done with the plan of what is selected is what the launch comes to
pub planned_launch : {B : Type 0} (asked : Asked) (old new : Option (List ℕ)) (refusal : Option LaunchFault) (parts : SuiteParts) (Does : Settings → PlanParts → Option (Report B) → Result ExitStatus LaunchFault → Type 0) (settings : Settings) (p : PlanParts) (replies : List (ℕ × Reply))
    → refusal ≡ None → IsReady asked parts settings p replies → (missing : Bool) → missing ≡ is_missing asked parts.tree → (ran : Option (Report B)) (told answer : Result ExitStatus LaunchFault) → Does settings p ran told → answer ≡ answer_unless missing told
    → IsPlannedLaunch asked old new refusal parts Does ran answer
planned_launch asked old new refusal parts Does settings p replies accepted ready missing same ran told answer does judged = record {
  accepted = accepted;
  settings = settings;
  are = ready.are;
  told = told;
  does = subst (λ (q : PlanParts). Does settings q ran told) ready.plan_is does;
  judged = subst (λ (b : Bool). answer ≡ answer_unless b told) same judged;
  never_stuck = λ bare. subst NeverStuck ready.plan_is (ready.never_stuck bare);
}
