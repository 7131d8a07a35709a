-- What is shown of a run that goes on, and what was written of one that broke off.
use Rattle.std.specs.Prelude.{◌≡◌, ◌≢◌, ℕ, ◌<◌, ◌⊎◌, Bool, true, false, if◌then◌else◌, List, [], length, take, Option, Some, None, Result, Ok, Err, string_bytes}
use Rattle.std.specs.Io.KnownBytes.{Appends}
use Rattle.plan_events.specs.declared.event.Event.{Event}
use Rattle.plan_events.specs.Texts.{TextParts}
use Rattle.resource_locks.specs.Plans.{PlanParts}
use Rattle.scheduling.specs.declared.step.Step.{Step}
use Rattle.job_times.specs.Timings.{Times}
use Rattle.listeners.specs.Listeners.{Telling, tellings_of}
use Rattle.live.specs.declared.line_form.LineForm.{LineForm}
use Rattle.live.specs.declared.line_form.LineForm.TheVariants.{Feed, Json}
use Rattle.live.specs.declared.live_feed.Outlet.{Outlet}
use Rattle.live.specs.declared.live_feed.Outlet.TheVariants.{Waiting, Closed, Failed}
use Rattle.listeners.specs.Observing.{HasSeenMore}
use Rattle.launch_options.specs.declared.details.Details.{Details}
use Rattle.launch_options.specs.declared.details.Details.TheVariants as details
use Rattle.run_outputs.specs.declared.exit_status.ExitStatus.{ExitStatus}
use Rattle.launch_options.specs.declared.fault.CutCause.{CutCause}
use Rattle.launch_options.specs.declared.fault.CutCause.TheVariants.{Writer, Memory}
use Rattle.launch_options.specs.declared.fault.CutOutput.{CutOutput}
use Rattle.launch_options.specs.declared.fault.LaunchFault.{LaunchFault}
use Rattle.launch_options.specs.declared.fault.LaunchFault.TheVariants.{NoMemory, NoWorker, Writing}
use Rattle.run_outputs.specs.declared.output.Output.{Output}
use Rattle.launch_options.specs.Asked.{Asked}
use Rattle.launch_options.specs.DetailsTexts.{prints_live}

-- whether lines are printed while a run goes on: those of events are, unless steps are taken without threads, those of a replay or of the
-- fixed schedule
abbrev pub outlet_by : Details → (replay : Option (List Step)) → (drive : Option ℕ) → Outlet
outlet_by kind None None = if prints_live kind then Waiting else Closed
outlet_by kind None (Some workers) = Closed
outlet_by kind (Some steps) drive = Closed

-- the form of these lines
abbrev pub form_by : Details → LineForm
form_by details.None = Feed
form_by details.Summary = Feed
form_by details.Tree = Feed
form_by details.Testfeed = Feed
form_by details.Json = Json
form_by details.Xml = Feed
form_by details.List = Feed
form_by details.Plan = Feed

-- lines of events are asked for, and a run on threads: so they are printed while it goes on
abbrev pub HasLiveFeed : Asked → Type 0
HasLiveFeed asked = (prints_live asked.details ≡ true) × (asked.replay ≡ None) × (asked.drive ≡ None)

-- why the writer has a part of an output alone: it failed; or of lines of events so many bytes were printed, and memory for the rest was
-- wanting
abbrev pub IsCutBy : CutCause → Asked → ℕ → Type 0
IsCutBy Writer asked sent = Unit {0}
IsCutBy Memory asked sent = (0 < sent) × HasLiveFeed asked

-- what a refusal says of an output that was cut short, if it is about one
abbrev pub cut_in : LaunchFault → Option CutOutput
cut_in (Writing cut) = Some cut
cut_in fault = None

module _ (Output : List ℕ → ExitStatus → Type 0) where
  -- the writer took all of an output
  pub record IsAllOf (old new : Option (List ℕ)) (status : ExitStatus) : Type 0 where
    pub text : List ℕ
    pub output : Output text status
    pub written : Appends old new text

  -- the writer took the first so many bytes of an output, and not all
  pub record IsPartOf (old new : Option (List ℕ)) (sent : ℕ) : Type 0 where
    pub text : List ℕ
    pub status : ExitStatus
    pub output : Output text status
    pub short : sent < length text
    pub written : Appends old new (take sent text)

module _ (asked : Asked) (Output : List ℕ → ExitStatus → Type 0) (Fails : LaunchFault → Type 0) where
  -- a refusal: a part of an output was written, for a reason; or it is one of these
  abbrev pub IsRefusedBy : Option CutOutput → LaunchFault → (old new : Option (List ℕ)) → Type 0
  IsRefusedBy (Some cut) fault old new = IsPartOf Output old new cut.sent × IsCutBy cut.cause asked cut.sent
  IsRefusedBy None fault old new = Fails fault

  -- an answer, and what the writer held before and holds after: an output was written, or a part of one and not all; or it is refused
  abbrev pub IsAnswered : (old new : Option (List ℕ)) → Result ExitStatus LaunchFault → Type 0
  IsAnswered old new (Ok status) = IsAllOf Output old new status
  IsAnswered old new (Err fault) = IsRefusedBy (cut_in fault) fault old new

-- What was written of a run that broke off: nothing, and no writer failed; or a part of an output, of lines of events that are
-- printed while their run goes on.
abbrev pub IsBrokenOff : Asked → (List ℕ → ExitStatus → Type 0) → Outlet → (old new : Option (List ℕ)) → ℕ → Type 0
IsBrokenOff asked Output outlet old new sent = ((outlet ≢ Failed) × (sent ≡ 0) × Appends old new []) ⊎ (IsPartOf Output old new sent × HasLiveFeed asked)

-- there was no memory, or no thread could be started
abbrev pub LacksMeans : LaunchFault → Type 0
LacksMeans fault = (fault ≡ NoMemory) ⊎ (fault ≡ NoWorker)
