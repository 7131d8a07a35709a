-- How far a worker has looked for a node.
use Rattle.std.specs.Prelude.{ℕ, Bool, List}
use Rattle.node_sources.specs.declared.busy.BusyKey.{BusyKey}
use Rattle.node_sources.specs.declared.sources.Sources.{Sources}

-- how many rounds it went since it rested or began a node, and how many it goes before it looks round the circle
abbrev pub rounds_of : Sources → ℕ
rounds_of s = s.search.rounds

abbrev pub most_rounds_of : Sources → ℕ
most_rounds_of s = s.search.most_rounds

-- whether it came round the circle
abbrev pub is_round : Sources → Bool
is_round s = s.search.is_over

-- the keys that were busy
abbrev pub busy_keys_of : Sources → List BusyKey
busy_keys_of s = s.busy
