-- The numbers and places of the refusals.
use Rattle.std.specs.Prelude.{ℕ, Option, Some, None}
use Rattle.unique_id.specs.declared.fault.UidFault.{UidFault}
use Rattle.unique_id.specs.declared.fault.UidFault.TheVariants.{NoMemory, Empty, NoBracket, NoColon, BadEscape, EmptyPart, TooLong}

-- the number of a refusal, and 0 for want of memory
abbrev pub number : UidFault → ℕ
number NoMemory = 0
number Empty = 1
number (NoBracket place) = 2
number (NoColon place) = 3
number (BadEscape place) = 4
number (EmptyPart place) = 5
number TooLong = 6

-- the place that a refusal names
abbrev pub place_of : UidFault → Option ℕ
place_of NoMemory = None
place_of Empty = None
place_of (NoBracket place) = Some place
place_of (NoColon place) = Some place
place_of (BadEscape place) = Some place
place_of (EmptyPart place) = Some place
place_of TooLong = None
