-- The jobs that the scripts of a suite give a plan.
use Rattle.std.specs.Prelude.{◌≡◌, ℕ, ◌<◌, ◌==◌, ◌&&◌, Bool, true, false, if◌then◌else◌, List, [], ◌∷◌, Option, Some, None, IfSome}
use Rattle.std.specs.List.{All}
use Rattle.plan_events.specs.declared.outcome.Outcome.{Outcome}
use Rattle.plan_events.specs.declared.outcome.Reply.{Reply}
use Rattle.resource_locks.specs.Plans.{PlanParts}
use Rattle.event_history.specs.Plans.{pulls_job}
use Rattle.sched_core.specs.Replies.{reply_of}
use Rattle.table_rule.specs.Slots.{slot_count, is_body_slot, job_at, job_with}
use Rattle.suite_words.specs.declared.script.Script.{Script}
use Rattle.ready_runs.specs.declared.scripted.ScriptedJob.{ScriptedJob}

-- the replies that a job may still give: its own, until it was run
abbrev pub reply_left : Option Reply → List Reply
reply_left None = []
reply_left (Some reply) = reply ∷ []

abbrev pub replies_left : ScriptedJob → List Reply
replies_left job = reply_left job.reply

-- what it gives is what it is to say
abbrev pub gives_left : ScriptedJob → Reply → Type 0
gives_left job reply = IfSome job.reply (λ said. reply.outcome ≡ said.outcome)

-- nothing stays of it that says what it answered
abbrev pub says_nothing : Outcome → Type 0
says_nothing outcome = Unit {0}

-- what is asked of a job: of a factory's body its whole reply; no other job is asked for dynamic tests
abbrev pub asked_reply : Bool → Reply → Reply
asked_reply true reply = reply
asked_reply false reply = record { pulls = 0; outcome = reply.outcome }

-- whether it is the slot of a factory's body
abbrev pub is_pulled_slot : PlanParts → ℕ → Bool
is_pulled_slot p k = is_body_slot p k && pulls_job p k

-- The job, with its number, is that of a slot of the plan, and answers what the suite says.
pub record IsScripted (p : PlanParts) (answers : List (ℕ × Reply)) (job : ℕ × ScriptedJob) : Type 0 where
  pub slot : ℕ
  pub inside : slot < slot_count p
  pub is : job_at p slot ≡ Some job.0
  pub answer : replies_left job.1 ≡ asked_reply (is_pulled_slot p slot) (reply_of answers job.0) ∷ []

-- Each is a job of the plan, and each of the first so many slots has one.
pub record AreScripted (p : PlanParts) (answers : List (ℕ × Reply)) (slots : ℕ) (jobs : List (ℕ × ScriptedJob)) : Type 0 where
  pub each : All (IsScripted p answers) jobs
  pub all : (slot number : ℕ) → slot < slots → job_at p slot ≡ Some number → (job : ScriptedJob) × (job_with jobs number ≡ Some job)

-- how far the body of this number counts, by the scripts behind those by which it counts so far: as far as its own script says
abbrev pub spin_behind : ℕ → List Script → ℕ → ℕ
spin_behind so_far [] body = so_far
spin_behind so_far (script ∷ more) body = spin_behind (if script.body == body then script.spin else so_far) more body

-- how far it counts by all scripts: a body without a script not at all
abbrev pub spin_of : List Script → ℕ → ℕ
spin_of scripts body = spin_behind 0 scripts body
