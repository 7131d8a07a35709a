-- The replies of the jobs that tests hand in.
use Rattle.std.specs.Prelude.{ℕ, ◌<◌, Bool, true, false, List, [], ◌∷◌, length, Option, Some, None}
use Rattle.plan_events.specs.Jobs.{unpulled}
use Rattle.plan_events.specs.declared.outcome.Outcome.{Outcome}
use Rattle.plan_events.specs.declared.outcome.Reply.{Reply}
use Rattle.test_jobs.specs.declared.acting.Ends.{Ends}
use Rattle.test_jobs.specs.declared.acting.Actor.{Actor}

abbrev pub reply : ℕ → Outcome → Reply
reply pulls outcome = record { pulls = pulls; outcome = outcome }

-- one that has not been asked may end in either way, or ask for its dynamic tests and then end well
abbrev pub left_of : Option Ends → Bool → ℕ → List Reply
left_of None fresh pulls = []
left_of (Some ends) true pulls = reply 0 ends.well ∷ reply 0 ends.badly ∷ reply pulls ends.well ∷ []
left_of (Some ends) false pulls = reply pulls ends.well ∷ []

abbrev pub replies_left : Actor → List Reply
replies_left job = left_of job.ends job.fresh job.pulls

-- nothing is said of what such a job gives but that it is one of its replies
abbrev pub gives_any : Reply → Type 0
gives_any reply = Unit {0}

-- nor of what it says once it was run
abbrev pub says_any : Outcome → Type 0
says_any outcome = Unit {0}

module _ {B : Type 0} (answers : B → List Reply) where
  -- each of these jobs, of whatever kinds, may end without being asked
  abbrev pub AreFresh : List (ℕ × B) → Type 0
  AreFresh [] = Unit {0}
  AreFresh (job ∷ jobs) = (0 < length (unpulled (answers job.1))) × AreFresh jobs
