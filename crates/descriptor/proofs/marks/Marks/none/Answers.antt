-- No bit is set.
use Rattle.std.proofs.Common.{ap, ◌∙◌, ◌+◌, ◌/◌, arith}
use Rattle.descriptor.specs.Inside.Marks.{marks_in}
use Rattle.descriptor.proofs.Bits.{no_marks}
use Rattle.descriptor.proofs.marks.Marks.none.Goals as goal

pub returns : goal.returns
returns c = ap (marks_in c.args.many) (c.in_ok-words.ensures.items_if_clones_equal (λ y h. h)) ∙ no_marks c.args.many (c.args.many / 64 + 1) (omega arith)
