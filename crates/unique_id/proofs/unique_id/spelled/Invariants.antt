-- The text spells the segments that it has passed.
use Rattle.std.proofs.Common.{◌≡◌, take, string_bytes}
use Rattle.unique_id.specs.Spelling.{spelling}
use Rattle.unique_id.proofs.unique_id.spelled.Given as goal

abbrev pub invariant-loop-index : goal.invariant-loop-index
invariant-loop-index l = string_bytes l.text ≡ spelling (take l.index l.segments)
