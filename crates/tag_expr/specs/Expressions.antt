-- Tag expressions, and the sets of tags that they are true of.
use Rattle.std.specs.Prelude.{ℕ, ◌==◌, ◌||◌, ◌&&◌, not, Bool, List, length}
use Rattle.std.specs.List.{flat_map}
use denote.Ref.{Bor}
use Rattle.tag_expr.specs.TagSets.{has_tag}

-- what an expression says
pub data Expression : Type 0 where
  tag : List ℕ → Expression
  any_tag : Expression
  no_tag : Expression
  negation : Expression → Expression
  conjunction : Expression → Expression → Expression
  disjunction : Expression → Expression → Expression

-- whether an expression is true of a set of tags
abbrev pub truth : Expression → List (List ℕ) → Bool
truth (tag t) tags = has_tag tags t
truth any_tag tags = not (length tags == 0)
truth no_tag tags = length tags == 0
truth (negation e) tags = not (truth e tags)
truth (conjunction d e) tags = truth d tags && truth e tags
truth (disjunction d e) tags = truth d tags || truth e tags

-- the tags of all the sets together
abbrev pub together : List (Bor (List (List ℕ))) → List (List ℕ)
together sets = flat_map (λ s. s.now) sets
