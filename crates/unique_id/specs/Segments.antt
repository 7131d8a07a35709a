-- What each segment of a unique id has.
use Rattle.std.specs.Prelude.{◌<◌, length}
use Rattle.std.specs.Str.{IsUtf8}
use Rattle.unique_id.specs.declared.unique_id.Segment.{Segment}

-- neither the kind nor the value is empty
abbrev pub IsWhole : Segment → Type 0
IsWhole s = (0 < length s.kind) × (0 < length s.value)

-- both are text
pub record IsText (s : Segment) : Type 0 where
  pub kind : IsUtf8 s.kind
  pub value : IsUtf8 s.value
