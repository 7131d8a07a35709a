-- What jobs may answer that end without dynamic tests.
use Rattle.std.specs.Prelude.{◌≡◌, ◌⊎◌, ℕ, Bool, true, false, List, [], ◌∷◌}
use Rattle.plan_events.specs.declared.outcome.Outcome.{Outcome}
use Rattle.plan_events.specs.declared.outcome.Reply.{Reply}
use Rattle.plan_events.specs.declared.status.Status.TheVariants.{Failed}
use Rattle.uses.specs.declared.boxed_jobs.Failing.{Failing}
use Rattle.uses.specs.Passing.{passing}

-- it fails, says nothing, and asks for no dynamic tests
abbrev pub failing : Reply
failing = record { pulls = 0; outcome = record { status = Failed; text = [] } }

-- the replies that it may still give: that one, until it was run
abbrev pub fails_by : Bool → List Reply
fails_by true = []
fails_by false = failing ∷ []

abbrev pub fails : Failing → List Reply
fails job = fails_by job.is_done

-- what it gives is that it fails
abbrev pub gives_failing : Failing → Reply → Type 0
gives_failing job reply = reply.outcome ≡ failing.outcome

-- and it says that, once it was run
abbrev pub says_failing : Failing → Outcome → Type 0
says_failing job outcome = (job.is_done ≡ true) × (outcome ≡ failing.outcome)

module _ {B : Type 0} (answers : B → List Reply) where
  -- each of these jobs, with the number of its body, may still pass, or may still fail
  abbrev pub AllEnd : List (ℕ × B) → Type 0
  AllEnd [] = Unit {0}
  AllEnd (job ∷ jobs) = ((answers job.1 ≡ passing ∷ []) ⊎ (answers job.1 ≡ failing ∷ [])) × AllEnd jobs
