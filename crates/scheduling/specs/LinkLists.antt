-- The lists of a plan's turns: in which a node's first child of a choice, and the next one after a child, stand at once.
use Rattle.std.specs.Prelude.{◌≡◌, ℕ, suc, ◌<◌, ◌≤◌, Bool, false, ◌&&◌, not, List, length, None, slice_index_or}
use Rattle.descriptor.specs.Nodes.{Nodes, size, parent_of, is_child, is_spare_at}
use Rattle.resource_locks.specs.Plans.{PlanParts}
use Rattle.event_history.specs.Plans.{is_same}
use Rattle.scheduling.specs.declared.links.Links.{Links}
use Rattle.scheduling.specs.declared.turns.Turns.{Turns}
use Rattle.scheduling.specs.Choices.{first_from, in_batch}

-- whether c is a child of n, and chosen
abbrev pub chosen_child : Nodes → List Bool → ℕ → ℕ → Bool
chosen_child t chosen n c = is_child t n c && slice_index_or chosen c false

-- whether a node runs in the thread of its parent, and is no spare
abbrev pub stays : PlanParts → ℕ → Bool
stays p c = is_same p c && not (is_spare_at p.tree c)

-- whether c is a child of n that runs in its thread, and no spare
abbrev pub is_same_child : PlanParts → ℕ → ℕ → Bool
is_same_child p n c = is_child p.tree n c && stays p c

-- whether its parent offers a node itself
abbrev pub is_offered : PlanParts → ℕ → Bool
is_offered p c = in_batch p (parent_of p.tree c) c

-- these links, as far as only the nodes from number `from` on are linked
pub record IsLinkedFrom (t : Nodes) (q : ℕ → ℕ → Bool) (from : ℕ) (l : Links) : Type 0 where
  pub first_len : length l.first.items ≡ size t
  pub next_len : length l.next.items ≡ size t
  pub first : (n : ℕ) → n < size t → slice_index_or l.first.items n None ≡ first_from (q n) from (size t)
  pub next : (c : ℕ) → 0 < c → c < size t → from ≤ c → slice_index_or l.next.items c None ≡ first_from (q (parent_of t c)) (suc c) (size t)

-- for each node the first child that q chooses, and for each child the next one of its parent
pub record IsLinked (t : Nodes) (q : ℕ → ℕ → Bool) (l : Links) : Type 0 where
  pub first_len : length l.first.items ≡ size t
  pub next_len : length l.next.items ≡ size t
  pub first : (n : ℕ) → n < size t → slice_index_or l.first.items n None ≡ first_from (q n) 0 (size t)
  pub next : (c : ℕ) → 0 < c → c < size t → slice_index_or l.next.items c None ≡ first_from (q (parent_of t c)) (suc c) (size t)

-- the children that a node offers itself, and those that run in its thread
pub record AreTurns (p : PlanParts) (t : Turns) : Type 0 where
  pub batch : IsLinked p.tree (in_batch p) t.batch
  pub same : IsLinked p.tree (is_same_child p) t.same
