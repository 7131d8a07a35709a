-- What a launch comes to: its answer, and the run that is over, of which all that is printed and all that was seen speaks.
use Rattle.std.specs.Prelude.{◌≡◌, ◌<◌, ◌≤◌, ℕ, List, length, Option, Some, None, Result}
use Rattle.std.specs.Io.KnownBytes.{Keeps}
use Rattle.std.specs.Result.{IsErrAnd}
use Rattle.config_params.specs.declared.settings.Settings.{Settings}
use Rattle.plan_events.specs.declared.outcome.Outcome.{Outcome}
use Rattle.plan_events.specs.declared.outcome.Reply.{Reply}
use Rattle.resource_locks.specs.Plans.{PlanParts}
use Rattle.job_times.specs.Timings.{Times}
use Rattle.listeners.specs.Listeners.{Telling, tellings_of}
use Rattle.listeners.specs.Observing.{HasSeenMore}
use Rattle.live.specs.LiveFeeds.{IsFront}
use Rattle.live.specs.declared.live_feed.Outlet.{Outlet}
use Rattle.live.specs.declared.live_feed.Outlet.TheVariants.{Failed}
use Rattle.launch_options.specs.Asked.{Asked}
use Rattle.launch_options.specs.declared.fault.LaunchFault.{LaunchFault}
use Rattle.launch_options.specs.declared.fault.LaunchFault.TheVariants.{NoMemory}
use Rattle.run_outputs.specs.declared.exit_status.ExitStatus.{ExitStatus}
use Rattle.table_rule.specs.Picture.{given_by, replies_of}
use Rattle.worker_pool.specs.Reports.{run_of, IsToldAsSaid}
use Rattle.worker_pool.specs.declared.report.Report.{Report}
use Rattle.launcher.specs.Programs.{HasRun, IsPrintedOf}
use Rattle.launcher.specs.Watched.{IsAnswered, IsBrokenOff, LacksMeans}

-- what was printed before can stand in front of this text, and not be all of it if the writer failed
abbrev pub Fits : Outlet → ℕ → List ℕ → Type 0
Fits outlet sent text = (sent ≤ length text) × (outlet ≡ Failed → sent < length text)

-- What a feed has printed, which handed so many bytes to a writer: a front of each text that may be printed; and if there is no memory for
-- one, a part of one, or nothing.
pub record IsSentSo (asked : Asked) (Prints : List ℕ → ExitStatus → Type 0) (outlet : Outlet) (sent : ℕ) (old new : Option (List ℕ)) : Type 0 where
  pub front : (text : List ℕ) (status : ExitStatus) → Prints text status → IsFront old new outlet sent text
  pub broken : IsBrokenOff asked Prints outlet old new sent

-- there was no memory, and nothing was written
abbrev pub LacksAll : (old new : Option (List ℕ)) → LaunchFault → Type 0
LacksAll old new fault = (fault ≡ NoMemory) × Keeps old new

-- all of such a text was written; or a part, since the writer failed, or since there was no memory for the rest of a feed; or nothing, for
-- want of memory
abbrev pub IsPrintedTo : Asked → (List ℕ → ExitStatus → Type 0) → (old new : Option (List ℕ)) → Result ExitStatus LaunchFault → Type 0
IsPrintedTo asked Prints old new = IsAnswered asked Prints (LacksAll old new) old new

-- whoever watches has seen the run that is handed out, each event with its text; and where none is, nothing
abbrev pub Sees : {B L : Type 0} → (PlanParts → L → L → List Telling → Type 0) → (first now : L) → Option (Report B) → Type 0
Sees saw first now (Some ran) = HasSeenMore saw ran.plan (tellings_of ran.texts ran.events.items) first now
Sees saw first now None = now ≡ first

-- nothing was run, for want of memory or of threads, and nothing was written
pub record IsUnbegun (old new : Option (List ℕ)) (answer : Result ExitStatus LaunchFault) : Type 0 where
  pub fault : IsErrAnd answer LacksMeans
  pub unwritten : new ≡ old

module _ {B : Type 0} (answers : B → List Reply) (gives : B → Reply → Type 0) (says : B → Outcome → Type 0) (known : Option (List (ℕ × Reply))) (times : Times) (asked : Asked) (settings : Settings) (p : PlanParts) (jobs : List (ℕ × B)) (old new : Option (List ℕ)) where
  -- A run of these jobs is over, and this is it: its used jobs say what was told, and what is printed of it, with these times, was written.
  pub record IsRunOver (ran : Report B) (answer : Result ExitStatus LaunchFault) : Type 0 where
    pub plan : ran.plan ≡ p
    pub has : HasRun answers gives settings.workers asked.ring p jobs ran.events.items ran.texts ran.unused_jobs.items
    pub said : IsToldAsSaid says (given_by gives (run_of p settings.workers asked.ring jobs)) (replies_of answers (run_of p settings.workers asked.ring jobs)) p settings.workers ran.events.items ran.texts ran.used_jobs.items
    pub printed : IsPrintedTo asked (IsPrintedOf known asked settings p ran.events.items ran.texts times) old new answer

  -- what a launch comes to
  abbrev pub IsLaunched : Option (Report B) → Result ExitStatus LaunchFault → Type 0
  IsLaunched (Some ran) answer = IsRunOver ran answer
  IsLaunched None answer = IsUnbegun old new answer
