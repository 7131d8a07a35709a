-- Suites, configurations, and the modes that their nodes are given.
use Rattle.std.proofs.Common.{◌≡◌, ℕ, Bool, true, false, List, [], ◌∷◌, map, Option, Some, None, Result, Ok, refl, codes}
use Rattle.config_params.specs.declared.settings.Settings.{Settings}
use Rattle.config_params.specs.declared.settings_fault.SettingsFault.{SettingsFault}
use Rattle.config_params.specs.Pairs.{Pair}
use Rattle.config_params.specs.Settings.{settings_of, enabled_key, mode_key, classes_mode_key, strategy_key, parallelism_key}
use Rattle.config_params.specs.Tables.{value_in}
use Rattle.descriptor.specs.declared.kind.Kind.TheVariants.{Container}
use Rattle.descriptor.specs.declared.mode.Mode.{Mode}
use Rattle.descriptor.specs.declared.mode.Mode.TheVariants.{SameThread, Concurrent}
use Rattle.descriptor.specs.declared.node.Node.{Node}
use Rattle.descriptor.specs.Nodes.{Nodes}
use Rattle.descriptor.specs.PlainNodes.{plain}
use Rattle.config_params.specs.GivenModes.{given_modes}

-- a node of which only the mode that it declares is told
abbrev telling : Option Mode → Node
telling said = record (plain [] [] Container) { mode = said }

-- nodes by their parents, and the modes that they declare, from node 1
abbrev tree_of : List ℕ → List (Option Mode) → Nodes
tree_of parents modes = record { parents = parents; nodes = map telling modes }

-- what is asked for where nothing is unreadable
abbrev asked : Bool → ℕ → Mode → Mode → Settings
asked on so_many default classes = record {
  parallel = on;
  workers = so_many;
  default_mode = default;
  classes_mode = classes;
  slow = None;
  warnings = record { default_mode = false; classes_mode = false };
}

-- the settings of these parameters on a machine with one processor
abbrev read : List Pair → Result Settings SettingsFault
read pairs = settings_of (value_in pairs) 1

-- parallel, concurrent by default, with two workers
abbrev side_by_side : List Pair
side_by_side =
    (enabled_key, codes "true")
    ∷ (mode_key, codes "concurrent")
    ∷ (strategy_key, codes "fixed")
    ∷ (parallelism_key, codes "2")
    ∷ []

side_by_side_asks : read side_by_side ≡ Ok (asked true 2 Concurrent Concurrent)
side_by_side_asks = refl

-- an engine, a class, and two tests in it
abbrev two_tests : Nodes
two_tests = tree_of (0 ∷ 0 ∷ 1 ∷ 2 ∷ 2 ∷ []) (None ∷ None ∷ None ∷ None ∷ [])

two_tests_given : given_modes two_tests (asked true 2 Concurrent Concurrent) ≡ SameThread ∷ SameThread ∷ Concurrent ∷ Concurrent ∷ Concurrent ∷ []
two_tests_given = refl

-- two engines
engines_given : given_modes (tree_of (0 ∷ 0 ∷ 0 ∷ []) (None ∷ None ∷ [])) (asked true 2 Concurrent Concurrent) ≡ SameThread ∷ SameThread ∷ SameThread ∷ []
engines_given = refl

-- a mode that is no mode is same_thread, and is warned of
abbrev fast : List Pair
fast = (enabled_key, codes "true") ∷ (mode_key, codes "fast") ∷ []

fast_asks : read fast ≡ Ok (record (asked true 1 SameThread SameThread) { warnings = record { default_mode = true; classes_mode = false } })
fast_asks = refl

fast_given : given_modes two_tests (record (asked true 1 SameThread SameThread) { warnings = record { default_mode = true; classes_mode = false } }) ≡ SameThread ∷ SameThread ∷ SameThread ∷ SameThread ∷ SameThread ∷ []
fast_given = refl

-- an engine; a class with a test and, in it, a class with a test
abbrev nested : Nodes
nested = tree_of (0 ∷ 0 ∷ 1 ∷ 2 ∷ 2 ∷ 4 ∷ []) (None ∷ None ∷ None ∷ None ∷ None ∷ [])

-- classes side by side, and in each of them one node after the other
nested_classes : given_modes nested (asked true 2 SameThread Concurrent) ≡ SameThread ∷ SameThread ∷ Concurrent ∷ SameThread ∷ SameThread ∷ SameThread ∷ []
nested_classes = refl

-- classes one after the other, and in each of them all side by side
nested_tests : given_modes nested (asked true 2 Concurrent SameThread) ≡ SameThread ∷ SameThread ∷ SameThread ∷ Concurrent ∷ Concurrent ∷ Concurrent ∷ []
nested_tests = refl

-- an engine; a same_thread class with a test, a concurrent test and a class with a test; a concurrent class with a test
abbrev declaring : Nodes
declaring = tree_of (0 ∷ 0 ∷ 1 ∷ 2 ∷ 2 ∷ 2 ∷ 5 ∷ 1 ∷ 7 ∷ []) (None ∷ Some SameThread ∷ None ∷ Some Concurrent ∷ None ∷ None ∷ Some Concurrent ∷ None ∷ [])

-- what is declared goes down to the nodes below, whatever the defaults are
declared_given : (workers : ℕ) (default classes : Mode) → given_modes declaring (asked true workers default classes) ≡ SameThread ∷ SameThread ∷ SameThread ∷ SameThread ∷ Concurrent ∷ SameThread ∷ SameThread ∷ Concurrent ∷ Concurrent ∷ []
declared_given workers default classes = refl

-- where parallel execution is not enabled it counts for nothing
not_enabled_asks : read ((mode_key, codes "concurrent") ∷ (classes_mode_key, codes "concurrent") ∷ []) ≡ Ok (asked false 1 SameThread SameThread)
not_enabled_asks = refl

not_enabled_given : given_modes declaring (asked false 1 SameThread SameThread)
    ≡ SameThread ∷ SameThread ∷ SameThread ∷ SameThread ∷ SameThread ∷ SameThread ∷ SameThread ∷ SameThread ∷ SameThread ∷ []
not_enabled_given = refl
