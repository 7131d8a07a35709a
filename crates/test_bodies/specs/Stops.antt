-- What a stopped test says, and what is told of a test's answer.
use Rattle.std.specs.Prelude.{◌≡◌, ℕ, ◌⊎◌, List, [], codes, Option, Some, Result, Ok, Err}
use Rattle.std.specs.Fmt.{◌++?◌}
use Rattle.std.specs.Fmt.Cut.{cut_to}
use Rattle.plan_events.specs.declared.outcome.Outcome.{Outcome}
use Rattle.plan_events.specs.declared.status.Status.{Status}
use Rattle.plan_events.specs.declared.status.Status.TheVariants.{Successful}

-- A test that ended so and says this: the text if it has at most 512 bytes, else the characters that fit before three dots, and the dots.
abbrev pub stopped : Status → List ℕ → Outcome
stopped status text = record { status = status; text = cut_to 512 text }

-- what a comparison says, where both values say what they print
abbrev pub compared : Option (List ℕ) → Option (List ℕ) → Option (List ℕ)
compared got want = Some (codes "got ") ++? got ++? Some (codes ", want ") ++? want

-- the outcome of a test that answered so: success without a text, or what it stopped with
abbrev pub outcome_of : Result (Unit {0}) Outcome → Outcome
outcome_of (Ok done) = record { status = Successful; text = [] }
outcome_of (Err stop) = stop

-- What is told of a test that answered so. Where there is no memory for its text, it has none.
pub record IsTold (answer : Result (Unit {0}) Outcome) (told : Outcome) : Type 0 where
  pub status : told.status ≡ (outcome_of answer).status
  pub text : (told.text ≡ (outcome_of answer).text) ⊎ (told.text ≡ [])
