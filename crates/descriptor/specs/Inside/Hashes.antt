-- The hash of a text, which only proofs need.
use Rattle.std.specs.Prelude.{ℕ, List}
use Rattle.std.specs.List.{fold}
use Rattle.std.specs.Hash.{str}
use Rattle.std.specs.Hash.FoldHasher.{initial, write, finish}

-- what the library's hasher makes of the writes for a text
unfoldable pub hash_of : List ℕ → ℕ
hash_of text = finish (fold write initial (str text))
