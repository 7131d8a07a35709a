-- The segments of a unique id, wherever they are.
use Rattle.std.specs.Prelude.{List}
use Rattle.unique_id.specs.declared.path.Steps.{Steps}
use Rattle.unique_id.specs.declared.path.Steps.TheVariants.{One, Two, Three, Four, Many}
use Rattle.unique_id.specs.declared.unique_id.Segment.{Segment}

abbrev pub steps_of : Steps → List Segment
steps_of (One segments) = segments
steps_of (Two segments) = segments
steps_of (Three segments) = segments
steps_of (Four segments) = segments
steps_of (Many segments) = segments.items
