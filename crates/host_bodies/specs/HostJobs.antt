-- What a job of a host may answer, gives, and says.
use Rattle.std.specs.Prelude.{◌≡◌, ℕ, Bool, true, false, List, Result, Ok, Err}
use Rattle.plan_events.specs.declared.outcome.Outcome.{Outcome}
use Rattle.plan_events.specs.declared.outcome.Reply.{Reply}
use Rattle.host_bodies.specs.Answers.{IsToldOf, Tells, unanswered}
use Rattle.host_bodies.specs.Channels.{Link, IsAsked}
use Rattle.host_bodies.specs.Replies.{replies_by}
use Rattle.host_bodies.specs.declared.heard.Answer.{Answer}
use Rattle.host_bodies.specs.declared.silence.Silence.{Silence}
use Rattle.host_bodies.specs.declared.heard.Heard.{Heard}
use Rattle.host_bodies.specs.declared.heard.Heard.TheVariants.{Nothing, Line, Silent}
use Rattle.host_bodies.specs.declared.host_job.HostJob.{HostJob}

-- what is told of the test of this id, by what was heard of its host: what the line says of it; or that it failed, since there was no answer
abbrev pub IsTold : (what id : List ℕ) → Heard → Outcome → Type 0
IsTold what id Nothing told = ⊥
IsTold what id (Line line) told = Tells what id line told
IsTold what id (Silent why) told = IsToldOf (unanswered why) told

abbrev pub is_asked : Heard → Bool
is_asked Nothing = false
is_asked (Line line) = true
is_asked (Silent why) = true

-- what is kept of what a host answered, or of why it did not
abbrev pub heard_of : Result Answer Silence → Heard
heard_of (Ok answer) = Line answer.line
heard_of (Err why) = Silent why

-- a channel was asked for the test of this id by this request, and what was heard is this
pub record IsAskedFor (request what id : List ℕ) (most : ℕ) (old new : Link) (heard : Heard) : Type 0 where
  pub answered : Result Answer Silence
  pub asked : IsAsked request what id most old new answered
  pub kept : heard ≡ heard_of answered

-- the replies that it may still give: none once its host was asked
abbrev pub replies_left : HostJob → List Reply
replies_left job = replies_by (is_asked job.heard)

-- what it gives is told by what may be heard of its host
abbrev pub gives_told : HostJob → Reply → Type 0
gives_told job reply = (heard : Heard) × IsTold job.what job.id heard reply.outcome

-- once it was run it has kept what was heard, by which this is told
abbrev pub says_heard : HostJob → Outcome → Type 0
says_heard job told = IsTold job.what job.id job.heard told
