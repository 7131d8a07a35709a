-- Copying a set: the loop has copied the tags that it has passed.
use Rattle.std.proofs.Common.{◌≡◌, take}
use Rattle.tag_expr.proofs.tag_set.TagSet.copy.Given as goal

abbrev pub invariant-loop-tag : goal.invariant-loop-tag
invariant-loop-tag l = l.copy ≡ take l.tag-index l.tag-items
