-- The mode that is declared nearest to a node: by the node itself, or else on the way from it up to the plan.
use Rattle.std.specs.Prelude.{◌≡◌, ℕ, zero, suc, Option, Some, None}
use Rattle.std.specs.Option.{option_or}
use Rattle.descriptor.specs.declared.mode.Mode.{Mode}
use Rattle.descriptor.specs.Nodes.{Nodes, Below, mode_of, parent_of}

-- a mode that node n declares, or that a node above it declares where neither n nor a node between the two does
pub data IsNearest (t : Nodes) (n : ℕ) (mode : Mode) : Type 0 where
  own : mode_of t n ≡ Some mode → IsNearest t n mode
  above : (a : ℕ) → Below t a n → mode_of t a ≡ Some mode → mode_of t n ≡ None → ((b : ℕ) → Below t a b → Below t b n → mode_of t b ≡ None) → IsNearest t n mode

-- no mode is declared by node n or by a node above it
pub record DeclaresNone (t : Nodes) (n : ℕ) : Type 0 where
  pub own : mode_of t n ≡ None
  pub above : (a : ℕ) → Below t a n → mode_of t a ≡ None

-- the first mode that is declared on so many steps from n up to node 0, which declares none
abbrev pub nearest_up : Nodes → ℕ → ℕ → Option Mode
nearest_up t zero n = None
nearest_up t (suc steps) zero = None
nearest_up t (suc steps) (suc n) = option_or (mode_of t (suc n)) (nearest_up t steps (parent_of t (suc n)))

-- the nearest mode, if any, as a function; as a parent has a smaller number, n steps are enough
abbrev pub nearest_mode : Nodes → ℕ → Option Mode
nearest_mode t n = nearest_up t n n
