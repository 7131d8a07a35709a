-- The segment goes behind what stands before it.
use Rattle.std.proofs.Common.{length, ◌∙◌, ap, arith, string_bytes, length-append}
use Rattle.unique_id.specs.declared.unique_id.Segment.{Segment}
use Rattle.unique_id.specs.Spelling.{spelled_segment}
use Rattle.unique_id.proofs.unique_id.longer_text.Goals as goal

pub push_segment_up_to-requires-clause-len : goal.push_segment_up_to-requires-clause-len
push_segment_up_to-requires-clause-len c =
    let new : Segment = record { kind = c.args.kind.now; value = c.args.value.now } in
    let both = c.in_ok-longer.ensures new in
    omega (arith, c.requires.len, ap length both, length-append (string_bytes c.in_ok-longer.longer) (spelled_segment new.kind new.value))

pub returns : goal.returns
returns c =
    let new : Segment = record { kind = c.args.kind.now; value = c.args.value.now } in
    c.in_ok-push_segment_up_to.ensures ∙ c.in_ok-longer.ensures new
