-- What of a suite is to be run again after a saved run.
use Rattle.std.specs.Prelude.{◌≡◌, ◌-◌, ◌&&◌, ◌||◌, nat_eq, not, cond, List, [], ◌∷◌, ◌++◌, length, slice_get, Bool, true, false, codes, Option, Some, None, option_to_list}
use Rattle.std.specs.List.{flat_map, list_any, starts_with}
use Rattle.std.specs.Option.{option_and_then}
use Rattle.std.specs.Str.{bytes_eq}
use Rattle.unique_id.specs.Spelling.{spelling}
use Rattle.unique_id.specs.declared.unique_id.Segment.{Segment}
use Rattle.saved_runs.specs.declared.again.Again.{Again}
use Rattle.saved_runs.specs.declared.again.Again.TheVariants.{Only, AllBut}
use Rattle.saved_runs.specs.declared.told.Told.{Told}
use Rattle.saved_runs.specs.Telling.{is_plan_finish, failed_id, passed_id}

-- whether the first id is above the second, by their texts: this goes on with a slash (47) behind that
abbrev pub is_above : List Segment → List Segment → Bool
is_above above id = starts_with nat_eq (spelling id) (spelling above ++ 47 ∷ [])

-- whether both are the same id, or the one is above the other
abbrev pub are_in_line : List Segment → List Segment → Bool
are_in_line a b = bytes_eq (spelling a) (spelling b) || (is_above a b || is_above b a)

-- whether an id ends in the segment of a test or of a factory, which a selection takes or leaves as a whole; a dynamic test is none, nor a container
abbrev pub is_unit_end : Option Segment → Bool
is_unit_end None = false
is_unit_end (Some segment) = bytes_eq segment.kind (codes "method") || bytes_eq segment.kind (codes "test-factory")

-- what an id ends in
abbrev pub last_of : List Segment → Option Segment
last_of id = slice_get id (length id - 1)

-- whether an id is that of a test or a factory
abbrev pub is_unit : List Segment → Bool
is_unit id = is_unit_end (last_of id)

-- the ids of the nodes that failed, in their order
abbrev pub failed_ids : List Told → List (List Segment)
failed_ids told = flat_map (λ t. option_to_list (failed_id t)) told

-- whether the run is told to its end
abbrev pub is_whole : List Told → Bool
is_whole told = list_any is_plan_finish told

-- whether a node need not run again, after a run that was cut off: it is a test or a factory, and neither it failed, nor one above or below it
abbrev pub is_done : List (List Segment) → List Segment → Bool
is_done failed id = is_unit id && not (list_any (are_in_line id) failed)

-- the node that ended without failing, where it need not run again
abbrev pub done_id : List (List Segment) → Told → Option (List Segment)
done_id failed told = option_and_then (λ id. cond (is_done failed id) (Some id) None) (passed_id told)

-- the ids of the nodes that need not run again after a run that was cut off, in the order of their ends
abbrev pub done_ids : List Told → List (List Segment)
done_ids told = flat_map (λ t. option_to_list (done_id (failed_ids told) t)) told

-- what is to be run again: of a run that is told to its end what failed, of any other all but what is done
abbrev pub IsAgain : Again → List Told → Type 0
IsAgain (Only ids) told = (is_whole told ≡ true) × (ids.items ≡ failed_ids told)
IsAgain (AllBut ids) told = (is_whole told ≡ false) × (ids.items ≡ done_ids told)
