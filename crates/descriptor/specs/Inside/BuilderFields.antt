-- The fields of a builder and what they keep, which only proofs need.
use Rattle.std.specs.Prelude.{◌≡◌, ◌<◌, ℕ, false, true, List, Some, get_or, nat_eq}
use Rattle.std.specs.HashSet.{contains}
use Rattle.descriptor.specs.Refusals.{has_text, has_body}
use Rattle.descriptor.specs.Inside.Hashes.{hash_of}
use Rattle.descriptor.specs.declared.builder.TreeBuilder.TheInside.{Inside}

-- The set has the hash of each unique id of the tree; and of each number the marks say whether it is that of a body of the tree.
pub record IsBuilderSound (b : Inside) : Type 0 where
  pub has_hashes : (text : List ℕ) → has_text b.tree text ≡ true → contains nat_eq b.hashes (hash_of text) ≡ true
  pub has_bodies : (body : ℕ) → body < 65536 → get_or b.bodies body false ≡ has_body b.tree (Some body)
