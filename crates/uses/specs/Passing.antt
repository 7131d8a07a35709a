-- What a job that passes may answer.
use Rattle.std.specs.Prelude.{◌≡◌, ℕ, Bool, true, false, List, [], ◌∷◌}
use Rattle.plan_events.specs.declared.outcome.Outcome.{Outcome}
use Rattle.plan_events.specs.declared.outcome.Reply.{Reply}
use Rattle.plan_events.specs.declared.status.Status.TheVariants.{Successful}
use Rattle.uses.specs.declared.threaded_run.Passing.{Passing}

-- it passes, says nothing, and asks for no dynamic tests
abbrev pub passing : Reply
passing = record { pulls = 0; outcome = record { status = Successful; text = [] } }

-- the replies that it may still give: that one, until it was run
abbrev pub replies_by : Bool → List Reply
replies_by true = []
replies_by false = passing ∷ []

abbrev pub passes : Passing → List Reply
passes job = replies_by job.is_done

-- what it gives is that it passes
abbrev pub gives_passing : Passing → Reply → Type 0
gives_passing job reply = reply.outcome ≡ passing.outcome

-- and it says that, once it was run
abbrev pub says_passing : Passing → Outcome → Type 0
says_passing job outcome = (job.is_done ≡ true) × (outcome ≡ passing.outcome)

-- each of these jobs, with the number of its body, may still pass
abbrev pub AllPass : List (ℕ × Passing) → Type 0
AllPass [] = Unit {0}
AllPass (job ∷ jobs) = (passes job.1 ≡ passing ∷ []) × AllPass jobs
