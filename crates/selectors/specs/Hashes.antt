-- A hash of a text that stays what it is: FNV-1a of 64 bits.
use Rattle.std.specs.Prelude.{ℕ, ◌*◌, ◌%◌, ◌^◌, List, bit_xor, fold}

-- the hash with one more byte
abbrev pub hash_with : ℕ → ℕ → ℕ
hash_with hash byte = (bit_xor hash byte * 0x100000001b3) % 2 ^ 64

-- the hash of a text
unfoldable pub hash_of : List ℕ → ℕ
hash_of text = fold hash_with 0xcbf29ce484222325 text
