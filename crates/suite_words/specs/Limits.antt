-- How many nodes a suite may have besides the plan, and how many bytes: the usual, or what was asked for.
use Rattle.std.specs.Prelude.{ℕ, Option, Some, None}

-- the nodes: 4,095, or as many as were asked for
abbrev pub node_limit : Option ℕ → ℕ
node_limit None = 4095
node_limit (Some most) = most

-- the bytes of its text: 1 MiB, and 16 MiB where nodes were asked for
abbrev pub byte_limit : Option ℕ → ℕ
byte_limit None = 1048576
byte_limit (Some most) = 16777216
