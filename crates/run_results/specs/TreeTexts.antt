-- The tree: a line for each node that started or was skipped, each below the line of its parent.
use Rattle.std.specs.Prelude.{ℕ, zero, suc, ◌==◌, Bool, true, false, List, [], ◌∷◌, ◌++◌, length, codes, Option, Some, None}
use Rattle.std.specs.List.{filter}
use Rattle.descriptor.specs.Nodes.{Nodes, size, node_at, children_of}
use Rattle.descriptor.specs.declared.node.Node.{Node}
use Rattle.resource_locks.specs.Plans.{PlanParts}
use Rattle.plan_events.specs.Texts.{TextParts, text_at}
use Rattle.plan_events.specs.declared.event.Event.{Event}
use Rattle.plan_events.specs.declared.status.Status.{Status}
use Rattle.plan_events.specs.declared.status.Status.TheVariants.{Successful}
use Rattle.run_results.specs.declared.theme.Theme.{Theme}
use Rattle.run_results.specs.declared.told.NodeEvents.{NodeEvents}
use Rattle.run_results.specs.Feed.{text_or}
use Rattle.run_results.specs.Printed.{cleaned, text_after}
use Rattle.run_results.specs.Told.{told_of, has_line}
use Rattle.run_results.specs.TreeSigns.{branch, item, mark, skip_mark}

-- what a tree is drawn from
pub record Drawn : Type 0 where
  pub theme : Theme
  pub tree : Nodes
  pub texts : TextParts
  -- what was told of each node
  pub told : ℕ → NodeEvents

-- how a finished node is marked: its mark, and the text behind any but that of SUCCESSFUL
abbrev pub mark_and_text : Theme → Status → List ℕ → List ℕ
mark_and_text theme Successful text = codes " " ++ mark theme Successful
mark_and_text theme status text = (codes " " ++ mark theme status) ++ text_after text

-- how a node is marked that was not skipped: nothing stands behind one that only started
abbrev pub end_of : Theme → Option Status → List ℕ → List ℕ
end_of theme None text = []
end_of theme (Some status) text = mark_and_text theme status text

-- what stands behind the name: of a skipped node the mark and the reason, of a finished one how it ended
abbrev pub ending : Theme → Bool → Option Status → List ℕ → List ℕ
ending theme true status text = (codes " " ++ skip_mark theme) ++ text_after text
ending theme false status text = end_of theme status text

-- the name of a node that may be missing
abbrev pub name_or : Option Node → List ℕ
name_or None = []
name_or (Some node) = node.name

-- the name of node n
abbrev pub name_at : Nodes → ℕ → List ℕ
name_at t n = name_or (node_at t n)

-- the front of the line of node n behind the items of its ancestors: a branch, and the name
abbrev pub front : Drawn → List ℕ → ℕ → Bool → List ℕ
front d items n is_last = (items ++ branch d.theme is_last) ++ cleaned (name_at d.tree n)

-- the line: its front, and what stands behind the name
abbrev pub line : Drawn → List ℕ → ℕ → Bool → List ℕ
line d items n is_last = (front d items n is_last ++ ending d.theme (d.told n).skipped (d.told n).status (text_or (text_at d.texts n))) ++ codes "\n"

-- the children of node a that have lines
abbrev pub children_drawn : Drawn → ℕ → List ℕ
children_drawn d a = filter (λ c. has_line (d.told c)) (children_of d.tree a)

-- what each of these siblings gives, in order; whether it is the last one counts
abbrev pub each_sibling : (ℕ → Bool → List ℕ) → List ℕ → List ℕ
each_sibling gives [] = []
each_sibling gives (n ∷ more) = gives n (length more == 0) ++ each_sibling gives more

-- the lines below node a, so many levels of them, behind the items of its ancestors and its own: for each of its children
-- that have lines that line, and then the lines below the child, with a bar for it, or blanks if it is the last
abbrev pub lines_below : Drawn → ℕ → List ℕ → ℕ → List ℕ
lines_below d zero items a = []
lines_below d (suc levels) items a =
    each_sibling (λ c is_last. line d items c is_last ++ lines_below d levels (items ++ item d.theme is_last) c) (children_drawn d a)

-- what the tree of a plan is drawn from
abbrev pub drawn_of : Theme → PlanParts → TextParts → List Event → Drawn
drawn_of theme plan texts events = record { theme = theme; tree = plan.tree; texts = texts; told = told_of events }

-- the whole text: what lies below node 0, which has no line; a tree has fewer levels than nodes
abbrev pub tree_of : Theme → PlanParts → TextParts → List Event → List ℕ
tree_of theme plan texts events = lines_below (drawn_of theme plan texts events) (size plan.tree) [] 0
