-- The tag filter.
use Rattle.std.specs.Prelude.{◌≡◌, ℕ, ◌==◌, ◌&&◌, ◌||◌, not, Bool, true, List, length}
use Rattle.std.specs.List.{list_any, flat_map}
use Rattle.tag_expr.specs.Expressions.{Expression, truth}
use Rattle.descriptor.specs.Nodes.{Nodes, tags_of}
use Rattle.tag_expr.specs.TagSets.{has_tag}
use Rattle.selectors.specs.Lineages.{lineage, AtOrBelow}

-- the tags of node n together with those of all nodes that it is below
abbrev pub tags_together : Nodes → ℕ → List (List ℕ)
tags_together t n = flat_map (tags_of t) (lineage t n)

-- a tag of node n or of a node that it is below
abbrev pub IsTagged : Nodes → List ℕ → ℕ → Type 0
IsTagged t tag n = (a : ℕ) × (has_tag (tags_of t a) tag ≡ true) × AtOrBelow t a n

-- whether one of these expressions is true of these tags
abbrev pub any_true : List Expression → List (List ℕ) → Bool
any_true expressions tags = list_any (λ expression. truth expression tags) expressions

-- whether the filter keeps these tags: one of the include expressions is true of them or there is none, and no exclude expression is
abbrev pub keeps : List Expression → List Expression → List (List ℕ) → Bool
keeps include exclude tags = (length include == 0 || any_true include tags) && not (any_true exclude tags)
