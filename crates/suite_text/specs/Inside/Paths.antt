-- Definitions that only proofs need: what holds from line to line of the path, the scripts and the unique ids.
use Rattle.std.specs.Prelude.{◌≡◌, ◌≤◌, ℕ, ◌+◌, List, [], ◌∷◌, map}
use Rattle.std.specs.List.Sorted.{IsPermutation}
use Rattle.descriptor.specs.Nodes.{Nodes, size, IsChild}
use Rattle.suite_text.specs.declared.suite.builder.Opened.{Opened}
use Rattle.suite_words.specs.declared.suite.pulls.Pending.{Pending}
use Rattle.suite_text.specs.Reading.Ids.{IdsFollow}
use Rattle.suite_text.specs.Reading.Parts.{LinesRead, bodies_of, afters_of, bodies_answered}

-- from a down, each is a child of the one before it, and the last of them is the tree's last node
abbrev pub IsPath : Nodes → ℕ → List Opened → Type 0
IsPath t a [] = a + 1 ≡ size t
IsPath t a (opened ∷ rest) = IsChild t a opened.node × IsPath t opened.node rest

-- the bodies that pending scripts are for
abbrev pub bodies_pending : List Pending → List ℕ
bodies_pending scripts = map (λ pending. pending.script.body) scripts

-- what holds after each line: there are no more nodes than there may be, the path leads down from the plan, each body and after-body has one script, and unique ids follow the tree
pub record IsSound (read : LinesRead) : Type 0 where
  pub few : size read.tree ≤ read.limit + 1
  pub has_path : IsPath read.tree 0 read.path
  pub answered : bodies_pending read.scripts ≡ bodies_of read.tree.nodes
  pub afters : IsPermutation (afters_of read.tree.nodes) (bodies_answered read.afters)
  pub ids : IdsFollow read.tree
