-- What the nodes of a tree draw of a seed.
use Rattle.std.specs.Prelude.{ℕ, ◌+◌, ◌%◌}
use Rattle.rand_chacha.specs.ChaCha.{word_at, key_of}
use Rattle.rand_core.specs.Pcg32Seed.{pcg32_seed}
use Rattle.descriptor.specs.Nodes.{Nodes, parent_of, is_child, count_below}

-- the word of ChaCha20 at this place, its key made of the number as `seed_from_u64` makes it
unfoldable pub word_of : (seed place : ℕ) → ℕ
word_of seed place = word_at 10 (key_of (pcg32_seed 32 seed)) 0 place

-- how many elder siblings node n has: children of its parent with a smaller number
abbrev pub elders : Nodes → ℕ → ℕ
elders t n = count_below (is_child t (parent_of t n)) n

-- what node n draws, from 0 to the number of its elder siblings: what is left if the word at its own place is divided by one more than that
abbrev pub draw : Nodes → (seed : ℕ) → ℕ → ℕ
draw t seed n = word_of seed n % (elders t n + 1)
