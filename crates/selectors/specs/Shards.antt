-- Shards: the units of a tree dealt out, in turn or by the hash of their ids, and the tree of those that one of so many parts gets.
use Rattle.std.specs.Prelude.{◌≡◌, ℕ, suc, ◌-◌, ◌%◌, ◌<◌, ◌≤◌, ◌==◌, ◌&&◌, nat_le, Bool, true, false, cond, if◌then◌else◌, List, [], ◌∷◌, Option, Some, None}
use Rattle.descriptor.specs.Nodes.{Nodes, Below, size, node_at, count_below}
use Rattle.descriptor.specs.Pruned.{pruned}
use Rattle.descriptor.specs.declared.node.Node.{Node}
use Rattle.selectors.specs.declared.dealing.Dealing.{Dealing}
use Rattle.selectors.specs.declared.dealing.Dealing.TheVariants.{InTurn, ByHash}
use Rattle.selectors.specs.Covered.{truths}
use Rattle.selectors.specs.Hashes.{hash_of}
use Rattle.selectors.specs.Keeping.{stays}
use Rattle.selectors.specs.Units.{is_unit}
use Rattle.unique_id.specs.Spelling.{spelling}

-- part number K of a count of N, and how units are dealt out to them
pub record Part : Type 0 where
  pub number : ℕ
  pub count : ℕ
  pub dealing : Dealing

-- whether there is a shard K of N: K is from 1 to N, and N is 4,095 at most
abbrev pub is_part : ℕ → ℕ → Bool
is_part number count = nat_le 1 number && (nat_le number count && nat_le count 4095)

-- shard K of N, if there is one
abbrev pub part_of : ℕ → ℕ → Dealing → Option Part
part_of number count dealing = if is_part number count then Some (record { number = number; count = count; dealing = dealing }) else None

-- the number by which a unit is dealt out that has this place, counted from 0: the place, or the hash of its id's canonical text
abbrev pub lot_of : Dealing → ℕ → Node → ℕ
lot_of InTurn place unit = place
lot_of ByHash place unit = hash_of (spelling unit.id)

-- whether shard K of N gets a unit that has this place: that number, divided by N, leaves K - 1
abbrev pub gets : Part → ℕ → Node → Bool
gets part place unit = lot_of part.dealing place unit % part.count == part.number - 1

-- whether it gets what a tree tells of a node; of the plan a tree tells nothing
abbrev pub gets_told : Part → ℕ → Option Node → Bool
gets_told part place None = false
gets_told part place (Some unit) = gets part place unit

-- the place of a unit: so many units come before it
abbrev pub place_of : Nodes → ℕ → ℕ
place_of t n = count_below (is_unit t) n

-- whether node n is a unit that the shard gets
abbrev pub is_unit_of : Nodes → Part → ℕ → Bool
is_unit_of t part n = is_unit t n && gets_told part (place_of t n) (node_at t n)

-- the tree of a shard: its units, with the spares of its factories and all that is above
abbrev pub shard : Nodes → Part → Nodes
shard t part = pruned t (truths (stays t (is_unit_of t part)) (size t))

-- the tree of a shard, and the whole tree where none is asked for
abbrev pub shard_or_all : Nodes → Option Part → Nodes
shard_or_all t None = t
shard_or_all t (Some part) = shard t part

-- each unit is got by one of so many shards, and by no two
pub record AreDealtOut (t : Nodes) (count : ℕ) (dealing : Dealing) : Type 0 where
  pub each : (n : ℕ) → is_unit t n ≡ true → (k : ℕ) × (0 < k) × (k ≤ count) × (is_unit_of t (record { number = k; count = count; dealing = dealing }) n ≡ true)
  pub once : (n k l : ℕ) → 0 < k → 0 < l → is_unit_of t (record { number = k; count = count; dealing = dealing }) n ≡ true → is_unit_of t (record { number = l; count = count; dealing = dealing }) n ≡ true → k ≡ l

-- no unit is below another, as in the tree of each suite
abbrev pub AreApart : Nodes → Type 0
AreApart t = (m n : ℕ) → is_unit t m ≡ true → is_unit t n ≡ true → Below t m n → ⊥

-- what passes of a list, each item judged with its place, where the first has this one
abbrev pub picked : {X : Type 0} → (ℕ → X → Bool) → ℕ → List X → List X
picked q place [] = []
picked q place (x ∷ xs) = cond (q place x) (x ∷ picked q (suc place) xs) (picked q (suc place) xs)
