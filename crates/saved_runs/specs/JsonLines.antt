-- What a line of the JSON of a saved run tells, by the members of its object.
use Rattle.std.specs.Prelude.{ℕ, ◌||◌, cond, List, Bool, codes, Option, Some}
use Rattle.std.specs.Option.{option_and_then}
use Rattle.std.specs.Str.{bytes_eq}
use Rattle.json.specs.Find.{get, as_str}
use Rattle.json.specs.Json.{Json, document}
use Rattle.run_results.specs.Feed.{text_or}
use Rattle.saved_runs.specs.declared.told.Told.{Told}
use Rattle.saved_runs.specs.declared.told.Told.TheVariants.{Note}
use Rattle.saved_runs.specs.Telling.{plan_told, node_told}

-- the text of the member of this name
abbrev pub text_in : List ℕ → Json → Option (List ℕ)
text_in name j = option_and_then as_str (get name j)

-- the text of the member of this name; nothing where there is none
abbrev pub text_at : List ℕ → Json → List ℕ
text_at name j = text_or (text_in name j)

-- whether an event of this name is a warning or a schedule
abbrev pub is_note : List ℕ → Bool
is_note event = bytes_eq event (codes "warning") || bytes_eq event (codes "schedule")

-- what is told of the plan, or of a node, by the name of what happened
abbrev pub event_told : List ℕ → Json → Option Told
event_told word j =
    cond (bytes_eq (text_at (codes "type") j) (codes "PLAN")) (plan_told word) (node_told word (text_at (codes "id") j) (text_at (codes "status") j))

-- what an object tells
abbrev pub object_told : Json → Option Told
object_told j =
    cond (is_note (text_at (codes "event") j)) (Some Note) (event_told (text_at (codes "event") j) j)

-- what a line of the JSON of a run tells, if it is one
abbrev pub json_line : List ℕ → Option Told
json_line line = option_and_then object_told (document line)
