-- The execution mode that a run gives each node of its tree, before any lock is looked at.
use Rattle.std.specs.Prelude.{◌≡◌, ◌<◌, ◌↔◌, ◌==◌, ◌||◌, ℕ, true, false, not, List, map, if◌then◌else◌, Some, unwrap_or, slice_get}
use Rattle.std.specs.List.{range_with_len}
use Rattle.config_params.specs.declared.settings.Settings.{Settings}
use Rattle.descriptor.specs.declared.mode.Mode.{Mode}
use Rattle.descriptor.specs.declared.mode.Mode.TheVariants.{SameThread}
use Rattle.descriptor.specs.Nodes.{Nodes, IsChild, size, parent_of, is_high}
use Rattle.config_params.specs.Nearest.{IsNearest, DeclaresNone, nearest_mode}

-- the mode of node n where a run has these settings
pub data IsGiven (t : Nodes) (s : Settings) (n : ℕ) (mode : Mode) : Type 0 where
  -- where parallel execution is not enabled all are SAME_THREAD
  off : s.parallel ≡ false → mode ≡ SameThread → IsGiven t s n mode
  -- the plan is, and each engine
  plan : n ≡ 0 → mode ≡ SameThread → IsGiven t s n mode
  engine : IsChild t 0 n → mode ≡ SameThread → IsGiven t s n mode
  -- else a node has the nearest mode that is declared
  declared : s.parallel ≡ true → IsNearest t n mode → IsGiven t s n mode
  -- where none is, a child of an engine has the mode of classes
  of_classes : s.parallel ≡ true → DeclaresNone t n → (e : ℕ) → IsChild t 0 e → IsChild t e n → mode ≡ s.classes_mode → IsGiven t s n mode
  -- and a node further below has the default mode
  of_default : s.parallel ≡ true → DeclaresNone t n → (a p : ℕ) → 0 < a → IsChild t a p → IsChild t p n → mode ≡ s.default_mode → IsGiven t s n mode

-- each node of the tree has the one mode that it is given
abbrev pub AreGiven : Nodes → Settings → List Mode → Type 0
AreGiven t s modes = (n : ℕ) (mode : Mode) → n < size t → (slice_get modes n ≡ Some mode ↔ IsGiven t s n mode)

-- the mode of a node below an engine where none is declared at or above it
abbrev pub default_mode : Nodes → Settings → ℕ → Mode
default_mode t s n = if parent_of t (parent_of t n) == 0 then s.classes_mode else s.default_mode

-- the mode of node n, as a function
abbrev pub given_mode : Nodes → Settings → ℕ → Mode
given_mode t s n = if not s.parallel || is_high t n then SameThread else unwrap_or (nearest_mode t n) (default_mode t s n)

-- the modes of all nodes, from node 0
abbrev pub given_modes : Nodes → Settings → List Mode
given_modes t s = map (given_mode t s) (range_with_len 0 (size t))
