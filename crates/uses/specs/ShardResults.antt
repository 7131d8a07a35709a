-- How the nodes of a shard are expected to end, beside those of the whole.
use Rattle.std.specs.Prelude.{◌≡◌, ℕ, ◌<◌, ◌≤◌, true, List, Bool, Some}
use Rattle.descriptor.specs.Nodes.{Nodes, size, after_of}
use Rattle.descriptor.specs.Pruned.{is_kept, new_number}
use Rattle.plan_events.specs.declared.outcome.Reply.{Reply}
use Rattle.junit_report.specs.Expectations.{result_at}
use Rattle.selectors.specs.Covered.{truths}
use Rattle.selectors.specs.Keeping.{stays, Stays}
use Rattle.selectors.specs.Shards.{Part, is_unit_of}
use Rattle.selectors.specs.Units.{is_unit}
use Rattle.selectors.specs.declared.dealing.Dealing.{Dealing}

-- which nodes a shard keeps
abbrev pub kept_by : Nodes → Part → List Bool
kept_by t part = truths (stays t (is_unit_of t part)) (size t)

-- no unit has an after-body, as in a suite, where a test holds no node
abbrev pub NoUnitHasAfter : Nodes → Type 0
NoUnitHasAfter t = (n b : ℕ) → is_unit t n ≡ true → after_of t n ≡ Some b → ⊥

-- each node that a shard keeps is expected to end in the shard's tree as in the whole, whatever the bodies answer
abbrev pub EndsAlike : Nodes → Part → Nodes → Type 0
EndsAlike t part found = (reply : ℕ → Reply) (n : ℕ) → n < size t → is_kept (kept_by t part) n ≡ true → result_at found reply (new_number (kept_by t part) n) ≡ result_at t reply n

-- each node but the plan that stays where all units are run stays in one of so many shards
abbrev pub EachIsRun : Nodes → ℕ → Dealing → Type 0
EachIsRun t count dealing =
    (n : ℕ) → 0 < n → n < size t → Stays t (is_unit t) n → (k : ℕ) × (0 < k) × (k ≤ count) × (is_kept (kept_by t (record { number = k; count = count; dealing = dealing })) n ≡ true)
