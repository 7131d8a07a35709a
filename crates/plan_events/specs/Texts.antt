-- The texts of nodes, by their notes and their reasons.
use Rattle.std.specs.Prelude.{ℕ, List, ◌∷◌, codes, map, Option, Some, None, slice_index_or}
use Rattle.descriptor.specs.declared.node.Node.{Node}
use Rattle.descriptor.specs.Nodes.{Nodes}
use Rattle.plan_events.specs.declared.note.Note.{Note}
use Rattle.plan_events.specs.declared.note.Note.TheVariants.{Reason, Cancelled, Own, TooMany}

-- two places for each node: one for its note, empty at first, and one for its reason, if it is disabled
pub record TextParts : Type 0 where
  pub notes : List (Option Note)
  pub reasons : List (Option (List ℕ))

-- why each node of a tree is disabled, from node 0, the plan, which is not
abbrev pub reasons_of : Nodes → List (Option (List ℕ))
reasons_of t = None ∷ map (λ (node : Node). node.disabled) t.nodes

-- the text that a note gives beside a node's reason
abbrev pub text_of_note : Option (List ℕ) → Note → Option (List ℕ)
text_of_note reason Reason = reason
text_of_note reason Cancelled = Some (codes "cancelled")
text_of_note reason (Own text) = Some text
text_of_note reason TooMany = Some (codes "too many dynamic tests")

-- the text of a place beside a node's reason, none where the place is empty
abbrev pub text_of_place : Option (List ℕ) → Option Note → Option (List ℕ)
text_of_place reason None = None
text_of_place reason (Some note) = text_of_note reason note

-- the text of node n, none where it has no place
abbrev pub text_at : TextParts → ℕ → Option (List ℕ)
text_at t n = text_of_place (slice_index_or t.reasons n None) (slice_index_or t.notes n None)
