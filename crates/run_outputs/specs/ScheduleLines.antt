-- What stands behind the details of a run where its schedule is asked for.
use Rattle.std.specs.Prelude.{◌≡◌, ℕ, ◌<◌, Bool, true, false, List, [], Option, Some, None, IfSome}
use Rattle.descriptor.specs.Nodes.{size}
use Rattle.plan_events.specs.declared.event.Event.{Event}
use Rattle.plan_events.specs.declared.outcome.Reply.{Reply}
use Rattle.plan_events.specs.Texts.{TextParts, text_at}
use Rattle.resource_locks.specs.Plans.{PlanParts}
use Rattle.scheduling.specs.declared.step.Step.{Step}
use Rattle.sched_core.specs.Texts.{AreTexts as AreReplayed}
use Rattle.schedules.specs.Schedules.{IsSchedule}
use Rattle.step_text.specs.StepSpelling.{AreNamable}
use Rattle.launch_options.specs.declared.details.Details.{Details}
use Rattle.run_outputs.specs.ScheduleTexts.{schedule_line}

-- The line of a schedule, in the form of the details: it names steps by which so many workers come to just this history, or says that
-- none were found.
pub record IsScheduleLine (kind : Details) (workers : ℕ) (p : PlanParts) (answers : List (ℕ × Reply)) (history : List Event) (line : List ℕ) : Type 0 where
  pub found : Option (List Step)
  pub schedule : IfSome found (IsSchedule p answers workers history)
  -- and a text can name them, so that the line is read as just these steps
  pub namable : IfSome found AreNamable
  pub printed : line ≡ schedule_line kind found

-- what is printed behind the details of a run: nothing, unless a schedule is asked for
abbrev pub IsBehindDetails : Details → Bool → ℕ → PlanParts → List (ℕ × Reply) → List Event → List ℕ → Type 0
IsBehindDetails kind false workers p answers history schedule = schedule ≡ []
IsBehindDetails kind true workers p answers history schedule = IsScheduleLine kind workers p answers history schedule

-- each node has the text that a replay of this history has where the bodies answer so
pub record HasTextsBy (p : PlanParts) (told : List (ℕ × Reply)) (history : List Event) (texts : TextParts) : Type 0 where
  pub replayed : TextParts
  pub are : AreReplayed p told history replayed
  pub same : (n : ℕ) → n < size p.tree → text_at replayed n ≡ text_at texts n

-- The line of a schedule of a run of jobs of which nobody knew beforehand what they answer: it names steps by which so many workers
-- come to just this history where the jobs give these replies, or says that none were found. Where it names steps, the same replies
-- explain the texts: a suite whose bodies are scripted with them has this history by these steps, with these texts.
pub record IsJobsSchedule (kind : Details) (workers : ℕ) (p : PlanParts) (history : List Event) (texts : TextParts) (printed : List ℕ) : Type 0 where
  pub told : List (ℕ × Reply)
  pub line : IsScheduleLine kind workers p told history printed
  pub explains : IfSome line.found (λ _. HasTextsBy p told history texts)

-- what is printed behind the details of such a run: nothing, unless a schedule is asked for
abbrev pub IsBehindJobs : Details → Bool → ℕ → PlanParts → List Event → TextParts → List ℕ → Type 0
IsBehindJobs kind false workers p history texts behind = behind ≡ []
IsBehindJobs kind true workers p history texts behind = IsJobsSchedule kind workers p history texts behind

-- what is printed behind the details of any run: of jobs of which it is known beforehand what they answer, as of a suite's, or is not
abbrev pub IsBehindRun : Details → Bool → ℕ → PlanParts → Option (List (ℕ × Reply)) → List Event → TextParts → List ℕ → Type 0
IsBehindRun kind asked workers p None history texts behind = IsBehindJobs kind asked workers p history texts behind
IsBehindRun kind asked workers p (Some known) history texts behind = IsBehindDetails kind asked workers p known history behind
