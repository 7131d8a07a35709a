-- What the jobs of a plan answer.
use Rattle.std.specs.Prelude.{ℕ, ◌==◌, if◌then◌else◌, List, [], ◌∷◌, Option, Some, None}
use Rattle.plan_events.specs.declared.status.Status.TheVariants.{Successful}
use Rattle.plan_events.specs.declared.outcome.Reply.{Reply}

-- the first reply that stands with this body
abbrev pub reply_to : List (ℕ × Reply) → ℕ → Option Reply
reply_to [] body = None
reply_to (answer ∷ more) body = if answer.0 == body then Some answer.1 else reply_to more body

-- a body without a reply is successful, without text and without pulls
abbrev pub or_successful : Option Reply → Reply
or_successful (Some reply) = reply
or_successful None = record { pulls = 0; outcome = record { status = Successful; text = [] } }

-- the reply of a body
abbrev pub reply_of : List (ℕ × Reply) → ℕ → Reply
reply_of answers body = or_successful (reply_to answers body)

-- the replies that a body may give: here the one that was handed in for it
abbrev pub replies_of : List (ℕ × Reply) → ℕ → List Reply
replies_of answers body = reply_of answers body ∷ []
