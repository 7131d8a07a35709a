-- What is noted of how long the bodies of nodes took, when the run began, and on which machine.
use Rattle.std.specs.Prelude.{◌≡◌, ◌≢◌, ℕ, ◌<◌, Bool, true, false, List, [], length, replicate, get_or, Option, Some, None, option_map, string_bytes}
use Rattle.job_times.specs.declared.timings.Noted.{Noted}
use Rattle.job_times.specs.declared.timings.Noted.TheVariants.{NotYet, Unknown, Known}
use Rattle.job_times.specs.declared.timings.Timings.{Timings}

-- what is noted of each node, at the place of its number
abbrev pub Took : Type 0
Took = List Noted

-- the microseconds that are noted
abbrev pub micros_of : Noted → Option ℕ
micros_of NotYet = None
micros_of Unknown = None
micros_of (Known micros) = Some micros

-- whether anything is noted
abbrev pub is_told : Noted → Bool
is_told NotYet = false
is_told Unknown = true
is_told (Known micros) = true

-- the microseconds of node n, where they are known; past the end nothing is noted
abbrev pub took_of : Took → ℕ → Option ℕ
took_of took n = micros_of (get_or took n NotYet)

-- whether anything is noted of node n
abbrev pub is_noted : Took → ℕ → Bool
is_noted took n = is_told (get_or took n NotYet)

-- node n is noted, if it has a place; what was noted before stays, and so does what is noted of the other nodes
pub record IsNotedWith (n : ℕ) (old new : Took) : Type 0 where
  pub many : length new ≡ length old
  pub here : n < length old → is_noted new n ≡ true
  pub stays : (m : ℕ) → is_noted old m ≡ true → get_or new m NotYet ≡ get_or old m NotYet
  pub others : (m : ℕ) → m ≢ n → get_or new m NotYet ≡ get_or old m NotYet

-- the times of a run: what is noted of its nodes; when it began, and the name of the machine, where they are known
pub record Times : Type 0 where
  pub took : Took
  pub moment : Option (List ℕ)
  pub host : Option (List ℕ)

-- those of timings
abbrev pub times_of : Timings → Times
times_of t = record { took = t.took.items; moment = option_map string_bytes t.moment; host = option_map string_bytes t.host }

-- nothing is known
abbrev pub no_times : Times
no_times = record { took = []; moment = None; host = None }

-- these times if they are asked for, else none
abbrev pub times_asked : Bool → Times → Times
times_asked true times = times
times_asked false times = no_times

-- these times with a place for each of so many nodes, where nothing is noted yet; moment and machine stay
abbrev pub with_places : ℕ → Times → Times
with_places nodes times = record { took = replicate nodes NotYet; moment = times.moment; host = times.host }

-- these times without moment and machine
abbrev pub without_stamp : Times → Times
without_stamp times = record { took = times.took; moment = None; host = None }
