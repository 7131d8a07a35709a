-- None of the children so far has the id.
use Rattle.std.proofs.Common.{◌≡◌, ℕ, false, take}
use Rattle.std.specs.List.{list_any}
use Rattle.descriptor.specs.Nodes.{children_of, text_of}
use Rattle.selectors.specs.ClassNames.{is_text}
use Rattle.selectors.proofs.names.has_spare.Given as goal

abbrev pub invariant-loop-child : goal.invariant-loop-child
invariant-loop-child l = list_any (λ (c : ℕ). is_text (text_of l.tree c) l.id) (take l.child-index (children_of l.tree l.fn.node)) ≡ false
