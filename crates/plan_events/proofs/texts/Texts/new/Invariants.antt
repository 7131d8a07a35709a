-- The places so far: all empty, and beside them the reasons of as many nodes.
use Rattle.std.proofs.Common.{◌≡◌, None, replicate, take}
use Rattle.plan_events.specs.Texts.{reasons_of}
use Rattle.plan_events.proofs.texts.Texts.new.Given as goal

abbrev pub invariant-loop-number : goal.invariant-loop-number
invariant-loop-number l = (l.notes.items ≡ replicate l.number None) × (l.reasons.items ≡ take l.number (reasons_of l.tree))
