-- What the verdicts of a suite have their bodies answer.
use Rattle.std.specs.Prelude.{ℕ, List, Option}
use Rattle.plan_events.specs.declared.status.Status.{Status}
use Rattle.suite_words.specs.declared.script.Script.{Script}

-- the script of a body that counts as far as this, is slow from so many milliseconds on, registers so many tests, and ends with this status and text
abbrev pub ending : ℕ → ℕ → Option ℕ → ℕ → Status → List ℕ → Script
ending body spin slow pulls status text = record { body = body; spin = spin; slow = slow; reply = record { pulls = pulls; outcome = record { status = status; text = text } } }
