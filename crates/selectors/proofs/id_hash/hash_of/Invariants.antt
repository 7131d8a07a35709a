-- The hash of the bytes so far.
use Rattle.std.proofs.Common.{◌≡◌, take, fold}
use Rattle.selectors.specs.Hashes.{hash_with}
use Rattle.selectors.proofs.id_hash.hash_of.Given as goal

abbrev pub invariant-loop-byte : goal.invariant-loop-byte
invariant-loop-byte l = l.hash ≡ fold hash_with 0xcbf29ce484222325 (take l.byte-index l.text)
