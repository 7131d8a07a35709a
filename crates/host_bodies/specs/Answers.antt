-- How a line of a host says that a test ended, and what is told of it.
use Rattle.std.specs.Prelude.{◌≡◌, ℕ, ◌⊎◌, ◌&&◌, cond, nat_le, List, [], length, codes, Option, Some, None}
use Rattle.std.specs.Option.{option_map, option_and_then}
use Rattle.std.specs.Str.{bytes_eq}
use Rattle.json.specs.Find.{get, as_str}
use Rattle.json.specs.Json.{Json, document}
use Rattle.run_results.specs.Feed.{text_or}
use Rattle.plan_events.specs.Statuses.{status_text}
use Rattle.plan_events.specs.declared.outcome.Outcome.{Outcome}
use Rattle.plan_events.specs.declared.status.Status.{Status}
use Rattle.plan_events.specs.declared.status.Status.TheVariants.{Successful, Aborted, Failed}
use Rattle.host_bodies.specs.Silences.{silence_text}
use Rattle.host_bodies.specs.declared.silence.Silence.{Silence}

-- the status of this name
abbrev pub status_named : List ℕ → Option Status
status_named word =
    cond (bytes_eq word (status_text Successful)) (Some Successful) (
    cond (bytes_eq word (status_text Aborted)) (Some Aborted) (
    cond (bytes_eq word (status_text Failed)) (Some Failed) None))

-- the text of the member of this name; nothing where there is none
abbrev pub text_at : List ℕ → Json → List ℕ
text_at name j = text_or (option_and_then as_str (get name j))

abbrev pub ended : List ℕ → Status → Outcome
ended text status = record { status = status; text = text }

-- how an object says that a test ended, by its status and its text of at most 65,536 bytes
abbrev pub ending_at : Json → Option Outcome
ending_at j = cond (nat_le (length (text_at (codes "text") j)) 65536) (option_map (ended (text_at (codes "text") j)) (status_named (text_at (codes "status") j))) None

-- how it says that this, of the node of this id, ended: it names both
abbrev pub ending_in : (what id : List ℕ) → Json → Option Outcome
ending_in what id j = cond (bytes_eq (text_at (codes "event") j) what && bytes_eq (text_at (codes "id") j) id) (ending_at j) None

-- how a line says so
abbrev pub ending_of : (what id line : List ℕ) → Option Outcome
ending_of what id line = option_and_then (ending_in what id) (document line)

-- What is told of a test that ended so. Where there is no memory for its text, it has none.
pub record IsToldOf (ending told : Outcome) : Type 0 where
  pub status : told.status ≡ ending.status
  pub text : (told.text ≡ ending.text) ⊎ (told.text ≡ [])

-- what is told of this, of the node of this id, is what this line says of it
pub record Tells (what id line : List ℕ) (told : Outcome) : Type 0 where
  pub ending : Outcome
  pub says : ending_of what id line ≡ Some ending
  pub told_of : IsToldOf ending told

-- a test to which there is no answer failed, and why there is none is its text
abbrev pub unanswered : Silence → Outcome
unanswered why = record { status = Failed; text = silence_text why }
