-- How many workers a run may have, and how many words the ring of places.
use Rattle.std.specs.Prelude.{ℕ, ◌<◌, ◌≤◌}

abbrev pub IsRightCount : ℕ → Type 0
IsRightCount workers = (0 < workers) × (workers ≤ 64)

abbrev pub IsRightRing : ℕ → Type 0
IsRightRing ring = (0 < ring) × (ring ≤ 16384)
