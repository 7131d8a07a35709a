-- Which nodes the only worker may take, by the words of the nodes alone.
use Rattle.std.specs.Prelude.{◌≡◌, ℕ, ◌<◌, true, false, List, length, slice_index_or}
use Rattle.scheduling.specs.declared.status.NodeStatus.{NodeStatus}
use Rattle.scheduling.specs.declared.status.NodeStatus.TheVariants.{Hidden}
use Rattle.scheduling.specs.Schedule.{is_open}

abbrev pub status_in : List NodeStatus → ℕ → NodeStatus
status_in l n = slice_index_or l n Hidden

-- no node below this number is open
abbrev pub NoneOpenIn : List NodeStatus → ℕ → Type 0
NoneOpenIn l n = (m : ℕ) → m < n → is_open (status_in l m) ≡ false

-- node n is open, and none before it
abbrev pub IsFirstIn : List NodeStatus → ℕ → Type 0
IsFirstIn l n = (is_open (status_in l n) ≡ true) × NoneOpenIn l n

abbrev pub IsSomeOpen : List NodeStatus → Type 0
IsSomeOpen l = (n : ℕ) × (n < length l) × (is_open (status_in l n) ≡ true)
