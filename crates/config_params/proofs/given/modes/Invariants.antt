-- The nearest modes and the modes of the nodes so far.
use Rattle.std.proofs.Common.{◌≡◌, map}
use Rattle.std.specs.List.{range_with_len}
use Rattle.config_params.specs.Nearest.{nearest_mode}
use Rattle.config_params.specs.GivenModes.{given_mode}
use Rattle.config_params.proofs.given.modes.Given as goal

abbrev pub invariant-loop-number : goal.invariant-loop-number
invariant-loop-number l = record {
  nearest : l.nearest.items ≡ map (nearest_mode l.tree) (range_with_len 0 l.number);
  modes : l.modes.items ≡ map (given_mode l.tree l.settings) (range_with_len 0 l.number);
}
