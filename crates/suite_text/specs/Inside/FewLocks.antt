-- Definitions that only proofs need: which locks do for a node that may be refused for having too many.
use Rattle.std.specs.Prelude.{◌≡◌, ℕ, None}
use Rattle.descriptor.specs.declared.node.Node.{Node}
use Rattle.descriptor.specs.Nodes.{Nodes}
use Rattle.descriptor.specs.Refusals.{refusal}
use Rattle.suite_words.specs.Reading.Locks.{StandFor}

-- a node is another but for such locks
pub record DoesFor (node whole : Node) : Type 0 where
  pub locks : StandFor node.locks whole.locks
  pub rest : node ≡ record whole { locks = node.locks }

-- below node a, where there may be so many nodes, it is refused as the other is, and where it is not refused it is the other
pub record IsTakenAs (limit : ℕ) (t : Nodes) (a : ℕ) (node whole : Node) : Type 0 where
  pub refused : refusal limit t a node ≡ refusal limit t a whole
  pub taken : refusal limit t a node ≡ None → node ≡ whole
