-- A place that counts what it was asked for.
use Rattle.std.specs.Prelude.{◌≤◌}
use Rattle.uses.specs.declared.placed_run.Counter.{Counter}

-- it counts on from what it had
abbrev pub counts_on : Counter → Counter → Type 0
counts_on first now = first.asked ≤ now.asked
