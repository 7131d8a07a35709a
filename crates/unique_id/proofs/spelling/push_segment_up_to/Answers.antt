-- The number of bytes tells whether a part needs an escape.
use Rattle.std.proofs.Common.{arith}
use Rattle.unique_id.proofs.Refused.{segment_within, segment_plain}
use Rattle.unique_id.proofs.spelling.push_segment_up_to.Goals as goal

pub overflow_add-len-2 : goal.overflow_add-len-2
overflow_add-len-2 c = omega (arith, c.requires.len, c.requires.short, c.len.ensures, segment_within c.args.kind.now c.args.value.now)

pub overflow_add-len-3 : goal.overflow_add-len-3
overflow_add-len-3 c = omega (arith, c.requires.len, c.requires.short, c.len.ensures, segment_within c.args.kind.now c.args.value.now)

pub push_plain_segment-requires-clause-kind : goal.push_plain_segment-requires-clause-kind
push_plain_segment-requires-clause-kind c = (segment_plain c.args.kind.now c.args.value.now (omega (arith, c.requires.len, c.len.ensures, c.if-len-kind.true))).0

pub push_plain_segment-requires-clause-value : goal.push_plain_segment-requires-clause-value
push_plain_segment-requires-clause-value c = (segment_plain c.args.kind.now c.args.value.now (omega (arith, c.requires.len, c.len.ensures, c.if-len-kind.true))).1
