-- The nodes that the selectors of a request cover, and the first selector that covers none.
use Rattle.std.specs.Prelude.{ℕ, zero, suc, ◌+◌, ◌==◌, ◌||◌, List, [], ◌∷◌, ◌++◌, length, Bool, false, if◌then◌else◌, Option, Some, None}
use Rattle.std.specs.List.{list_any}
use Rattle.descriptor.specs.Nodes.{Nodes, size}
use Rattle.selectors.specs.declared.selector.Selector.{Selector}
use Rattle.selectors.specs.Names.{covers}

-- whether one of the numbers below n passes
abbrev pub any_below : (ℕ → Bool) → ℕ → Bool
any_below q zero = false
any_below q (suc n) = q n || any_below q n

-- the truth values of the numbers below n, in their order
abbrev pub truths : (ℕ → Bool) → ℕ → List Bool
truths q zero = []
truths q (suc n) = truths q n ++ q n ∷ []

-- whether a node is covered: one of the selectors covers it, or there are none
abbrev pub is_covered : Nodes → List Selector → ℕ → Bool
is_covered t selectors n = length selectors == 0 || list_any (λ selector. covers t selector n) selectors

-- whether one of these selectors covers a node
abbrev pub is_excluded : Nodes → List Selector → ℕ → Bool
is_excluded t exclusions n = list_any (λ selector. covers t selector n) exclusions

-- whether a selector covers a node of the tree
abbrev pub matches : Nodes → Selector → Bool
matches t selector = any_below (covers t selector) (size t)

-- the number of the first of these selectors that covers no node of the tree, where so many stand before them; they count from 1
abbrev pub unmatched_from : Nodes → ℕ → List Selector → Option ℕ
unmatched_from t before [] = None
unmatched_from t before (selector ∷ rest) = if matches t selector then unmatched_from t (before + 1) rest else Some (before + 1)

-- the number of the first selector that covers no node of the tree, counted from 1
abbrev pub first_unmatched : Nodes → List Selector → Option ℕ
first_unmatched t selectors = unmatched_from t 0 selectors
