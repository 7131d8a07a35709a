-- What is written of an answer and of a run, on the one writer and on the other.
use Rattle.std.specs.Prelude.{◌≡◌, ◌<◌, ◌⊎◌, ◌++◌, ℕ, Bool, true, false, List, codes, length, take, string_bytes, Option, Some, None, IfErr, IfOk, IfSome, IsSomeAnd, Result, Ok, Err}
use Rattle.std.specs.Fmt.{decimal}
use Rattle.std.specs.Io.KnownBytes.{Appends, Keeps}
use Rattle.launch_options.specs.Given.{Text}
use Rattle.launch_options.specs.Asked.{Asked}
use Rattle.run_outputs.specs.AfterRuns.{line_after}
use Rattle.run_outputs.specs.ExitStatuses.{number_of, status_after}
use Rattle.launch_options.specs.Faults.{refusal_text}
use Rattle.run_outputs.specs.declared.exit_status.ExitStatus.{ExitStatus}
use Rattle.run_outputs.specs.declared.exit_status.ExitStatus.TheVariants.{StepsPassedOver}
use Rattle.launch_options.specs.declared.fault.LaunchFault.{LaunchFault}
use Rattle.launch_options.specs.declared.fault.LaunchFault.TheVariants.{BadWords, NoMemory, Reading}
use Rattle.messages.specs.Hints.{hints_text}
use Rattle.messages.specs.Messages.{message_text}
use Rattle.messages.specs.Sentences.{Sentences, sentence_of}
use Rattle.messages.specs.declared.hint.Hints.{Hints}
use Rattle.messages.specs.declared.message.Message.{Message}
use Rattle.job_times.specs.Timings.{Times}
use Rattle.live.specs.FailedTexts.{failed_of}
use Rattle.live.specs.SlowNames.{AreNamedBehind}
use Rattle.live.specs.Terminals.{IsDrawnBehind}
use Rattle.live.specs.declared.failures.Failures.{Failures}
use Rattle.report_files.specs.Deeds.{Deed}
use Rattle.report_files.specs.FiledReports.{Wanted}
use Rattle.listeners.specs.Listeners.{Telling}
use Rattle.resource_locks.specs.Plans.{PlanParts}
use Rattle.worker_pool.specs.declared.report.Report.{Report}
use Rattle.command_line.specs.TimedLaunches.{IsTimedLaunch}
use Rattle.command_line.specs.declared.closing.Ending.{Ending}

-- the message that stands there after this answer: none where nothing was refused, and else one that begins with the refusal's sentence
-- among these
abbrev pub HasMessage : Sentences → Result ExitStatus LaunchFault → Option Message → Type 0
HasMessage sentence (Ok status) message = message ≡ None
HasMessage sentence (Err fault) message = IsSomeAnd message (λ said. said.sentence.now ≡ sentence fault)

-- the line of a refusal
abbrev pub refusal_line : LaunchFault → List ℕ
refusal_line fault = refusal_text fault ++ codes "\n"

-- the line of the seed by which a run's nodes were put in order
abbrev pub seed_line : ℕ → List ℕ
seed_line seed = codes "Seed: " ++ decimal seed ++ codes "\n"

-- a text stands behind what the writer held: all of it went out; or the first so many bytes, and not all
abbrev pub WentOut : Bool → (old new : Option (List ℕ)) → List ℕ → Type 0
WentOut true old new text = Appends old new text
WentOut false old new text = (sent : ℕ) × (sent < length text) × Appends old new (take sent text)

-- what is said of a replay that passed steps over, and of no other run
abbrev pub steps_said : ExitStatus → Option (List ℕ)
steps_said (StepsPassedOver fails) = Some (codes "Steps were passed over, since they were not possible in their turn; the last line says how many.\nThey lead to just what happened with the suite and the options of the run that they were printed behind.\n")
steps_said _ = None

-- what is said of passed-over steps after such an answer: nothing where the run is refused
abbrev pub steps_after : Result ExitStatus LaunchFault → Option (List ℕ)
steps_after (Ok status) = steps_said status
steps_after (Err fault) = None

-- what is said before a suite is read: what is waited for, where standard input is a terminal and no file is named
abbrev pub waiting_said : (is_typed : Bool) → (suite : Option Text) → Option (List ℕ)
waiting_said true None = Some (codes "console: a suite is read from standard input; Ctrl-D ends it. --suite FILE reads one from a file, --help lists the options.\n")
waiting_said true (Some name) = None
waiting_said false suite = None

-- this is said of a run alone that was not refused
abbrev pub SaysIfRun : {W : Type 0} → (ExitStatus → (old new : W) → Type 0) → Result ExitStatus LaunchFault → (old new : W) → Type 0
SaysIfRun Says (Ok status) old new = Says status old new
SaysIfRun Says (Err fault) old new = new ≡ old

module _ {W : Type 0} (contents : W → Option (List ℕ)) where
  -- a line is printed, or the writer is left alone
  abbrev pub PrintsLine : Option LaunchFault → (old new : W) → Bool → Type 0
  PrintsLine None old new all = new ≡ old
  PrintsLine (Some fault) old new all = WentOut all (contents old) (contents new) (refusal_line fault)

  -- a message is printed, or the writer is left alone
  abbrev pub PrintsMessage : Option Message → (old new : W) → Bool → Type 0
  PrintsMessage None old new all = new ≡ old
  PrintsMessage (Some said) old new all = WentOut all (contents old) (contents new) (message_text said.sentence.now (string_bytes said.details))

  -- this text is said, as far as the writer takes it; and nothing, where there is none
  abbrev pub SaysText : Option (List ℕ) → (old new : W) → Type 0
  SaysText None old new = new ≡ old
  SaysText (Some text) old new = (sent : ℕ) × Appends (contents old) (contents new) (take sent text)

  -- nothing is said, or one of these texts, as far as the writer takes it
  abbrev pub SaysSome : {X : Type 0} → (X → List ℕ) → (old new : W) → Type 0
  SaysSome {X = X} text old new = (new ≡ old) ⊎ ((x : X) × (sent : ℕ) × Appends (contents old) (contents new) (take sent (text x)))

  -- the line of a seed
  abbrev pub SaysSeed : (old new : W) → Type 0
  SaysSeed old new = SaysSome seed_line old new

  -- the lines of hints
  abbrev pub SaysHints : (old new : W) → Type 0
  SaysHints old new = SaysSome hints_text old new

  -- what failed, and arguments that select it
  abbrev pub SaysFailures : (old new : W) → Type 0
  SaysFailures old new = SaysSome (failed_of (codes "select-unique-id")) old new

  -- the seed, and hints behind it, and what failed behind them
  abbrev pub SaysOfRun : (old new : W) → Type 0
  SaysOfRun old new = (seeded : W) × (hinted : W) × SaysSeed old seeded × SaysHints seeded hinted × SaysFailures hinted new

  -- these, and behind them what is said of steps, and this list of the slowest tests
  abbrev pub SaysAll : (steps slowest : Option (List ℕ)) → (old new : W) → Type 0
  SaysAll steps slowest old new = (between warned : W) × SaysOfRun old between × SaysText steps between warned × SaysText slowest warned new

  -- what is said of this answer: of a run its seed, hints, and what failed; and where something was refused, the refusal's sentence among these,
  -- and details below it
  abbrev pub SaysWhy : Sentences → Result ExitStatus LaunchFault → (old new : W) → Bool → Type 0
  SaysWhy sentence (Ok status) old new all = SaysOfRun old new
  SaysWhy sentence (Err fault) old new all = (details : List ℕ) × WentOut all (contents old) (contents new) (message_text (sentence fault) details)

module _ {W E : Type 0} (sentence : Sentences) (contents : W → Option (List ℕ)) (said : E → Option (List ℕ)) where
  -- what is done after this answer: a refusal's line is printed unless the writer failed, its message, or a run's seed, hints and what
  -- failed in it, go to the other writer, and the program ends with the number of the answer's status
  pub record Closes (answer : Result ExitStatus LaunchFault) (old new : W) (quiet told : E) (ending : Ending) : Type 0 where
    pub line : PrintsLine contents (line_after answer) old new ending.is_printed
    pub message : SaysWhy said sentence answer quiet told ending.is_told
    pub status : ending.status ≡ number_of (status_after answer)

  -- what `Closes` says; and behind that it is said on the other writer whether steps were passed over, and of a run this list of its
  -- slowest tests
  pub record ClosesRun (answer : Result ExitStatus LaunchFault) (slowest : Option (List ℕ)) (old new : W) (quiet told : E) (ending : Ending) : Type 0 where
    pub before : E
    pub warned : E
    pub closes : Closes answer old new quiet before ending
    pub passed_over : SaysText said (steps_after answer) before warned
    pub listed : SaysIfRun (λ status. SaysText said slowest) answer warned told

-- what stands behind what the other writer held once a run is over: on a terminal what was drawn of how far the run has come, else lines
-- of tests that ran longer than their limit
abbrev pub IsToldMeanwhile : (is_terminal : Bool) → (old new : Option (List ℕ)) → Type 0
IsToldMeanwhile true old new = IsDrawnBehind old new
IsToldMeanwhile false old new = AreNamedBehind old new

module _ {B V W E : Type 0} (sentence : Sentences) (contents : W → Option (List ℕ)) (said : E → Option (List ℕ)) (Launches : Asked → Times → (before left old new : Option (List ℕ)) → Option (Report B) → Result ExitStatus LaunchFault → Type 0) (saw : PlanParts → V → V → List Telling → Type 0) (begun ended : V) where
  -- What is asked for is launched with these reports. On the other writer stands what is told meanwhile, and behind that what is said of the
  -- answer, and the list of the slowest tests.
  pub record IsLaunchRun (is_terminal : Bool) (asked : Asked) (wanted : List Wanted) (before left : Option (List ℕ)) (old new : W) (first last : E) (was now : Option (List Deed)) (ending : Ending) : Type 0 where
    pub answer : Result ExitStatus LaunchFault
    pub ran : Option (Report B)
    pub between : W
    pub slowest : Option (List ℕ)
    pub during : E
    pub launch : IsTimedLaunch Launches saw begun ended asked wanted before left (contents old) (contents between) was now ran answer slowest
    pub tells : IsToldMeanwhile is_terminal (said first) (said during)
    pub closed : ClosesRun sentence contents said answer slowest between new during last ending
