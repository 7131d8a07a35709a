-- Jobs, by the replies that they may still give: what is left of these when a job is pulled, and what it answers when it is run.
use Rattle.std.specs.Prelude.{◌≡◌, ℕ, ◌+◌, ◌-◌, ◌<◌, Bool, not, nat_lt, List, map, length, Some, slice_get}
use Rattle.std.specs.List.{filter}
use Rattle.plan_events.specs.declared.outcome.Outcome.{Outcome}
use Rattle.plan_events.specs.declared.outcome.Reply.{Reply}
use Rattle.plan_events.specs.declared.job.Pull.{Pull}
use Rattle.plan_events.specs.declared.job.Pull.TheVariants.{More, End}

abbrev pub has_pulls : Reply → Bool
has_pulls reply = nat_lt 0 reply.pulls

abbrev pub one_pull_less : Reply → Reply
one_pull_less reply = record { pulls = reply.pulls - 1; outcome = reply.outcome }

-- the replies with pulls, each with one less; and those without
abbrev pub pulled : List Reply → List Reply
pulled replies = map one_pull_less (filter has_pulls replies)

abbrev pub unpulled : List Reply → List Reply
unpulled replies = filter (λ reply. not (has_pulls reply)) replies

abbrev pub left_by : Pull → List Reply → List Reply
left_by More replies = pulled replies
left_by End replies = unpulled replies

-- A job that may give a reply says what one of its replies allows, and those that allow it are left.
pub record IsPullOf (old : List Reply) (pull : Pull) (new : List Reply) : Type 0 where
  pub allowed : 0 < length (left_by pull old)
  pub left : new ≡ left_by pull old

abbrev pub IsPull : List Reply → Pull → List Reply → Type 0
IsPull old pull new = 0 < length old → IsPullOf old pull new

-- one of the replies has this outcome, and no pulls
pub record HasOutcome (replies : List Reply) (outcome : Outcome) : Type 0 where
  pub place : ℕ
  pub reply : Reply
  pub stands : slice_get replies place ≡ Some reply
  pub no_pulls : reply.pulls ≡ 0
  pub is : outcome ≡ reply.outcome

-- A job that may give a reply without pulls answers the outcome of such a one.
abbrev pub IsRun : List Reply → Outcome → Type 0
IsRun old outcome = 0 < length (unpulled old) → HasOutcome old outcome

-- What a job gives, by what it gives once it was pulled: one dynamic test more, where it said that there is one.
abbrev pub one_pull_more : Reply → Reply
one_pull_more reply = record { pulls = reply.pulls + 1; outcome = reply.outcome }

abbrev pub before_pull : Pull → Reply → Reply
before_pull More reply = one_pull_more reply
before_pull End reply = reply

abbrev pub GivesAsPulled : (old : Reply → Type 0) → Pull → (new : Reply → Type 0) → Type 0
GivesAsPulled old pull new = (reply : Reply) → new reply → old (before_pull pull reply)

-- the reply of a job that is run with nothing pulled since: it is one that the job gives
abbrev pub without_pulls : Outcome → Reply
without_pulls outcome = record { pulls = 0; outcome = outcome }

abbrev pub GivesOutcome : (Reply → Type 0) → Outcome → Type 0
GivesOutcome old outcome = old (without_pulls outcome)
