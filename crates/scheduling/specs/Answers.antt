-- What a step has to know of a reply.
use Rattle.std.specs.Prelude.{[]}
use Rattle.plan_events.specs.declared.outcome.Reply.{Reply}
use Rattle.scheduling.specs.declared.answer.Answer.{Answer}

-- what a step has to know of it: its text is none of the step's
abbrev pub answer_of : Reply → Answer
answer_of r = record { pulls = r.pulls; status = r.outcome.status }

-- a reply of which the step knows this
abbrev pub reply_by : Answer → Reply
reply_by a = record { pulls = a.pulls; outcome = record { status = a.status; text = [] } }
