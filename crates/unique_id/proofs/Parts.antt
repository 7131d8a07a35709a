-- How a part is spelled, a character at a time.
use Rattle.std.proofs.Common.{◌≡◌, ◌≢◌, ℕ, ◌+◌, ◌/◌, ◌≤◌, Bool, true, false, cond, ltb, List, [], ◌∷◌, ◌++◌, length, All, suc, refl, ap, ◌∙◌, arith, append-nil}
use Rattle.std.specs.Prelude.{encode_utf8_all}
use lib.Utf8.{encode, next}
use Rattle.std.proofs.lemmas.Bool.Decides.{nat_tests}
use Rattle.std.proofs.lemmas.Grind.{common_steps, flat_map-append}
use Rattle.std.proofs.lemmas.Str.{encodes-append}
use Rattle.unique_id.specs.Spelling.{spelled_byte, spelled_part}

-- a byte that needs no escape
pub record IsPlain (b : ℕ) : Type 0 where
  pub percent : b ≢ 37
  pub plus : b ≢ 43
  pub open_bracket : b ≢ 91
  pub close_bracket : b ≢ 93
  pub colon : b ≢ 58
  pub slash : b ≢ 47

pub plain_byte : (b : ℕ) → IsPlain b → spelled_byte b ≡ b ∷ []
plain_byte b p = grind (arith, nat_tests, p.percent, p.plus, p.open_bracket, p.close_bracket, p.colon, p.slash)

large_byte : (b : ℕ) → 128 ≤ b → spelled_byte b ≡ b ∷ []
large_byte b h = plain_byte b (record { percent = omega arith; plus = omega arith; open_bracket = omega arith; close_bracket = omega arith; colon = omega arith; slash = omega arith })

-- a function that keeps each of four lists keeps the one that three tests pick
pick : (f : List ℕ → List ℕ) (x y z : Bool) (k l m n : List ℕ) → f k ≡ k → f l ≡ l → f m ≡ m → f n ≡ n → f (cond x k (cond y l (cond z m n))) ≡ cond x k (cond y l (cond z m n))
pick f true y z k l m n a b c d = a
pick f false true z k l m n a b c d = b
pick f false false true k l m n a b c d = c
pick f false false false k l m n a b c d = d

-- bytes from 128 on stand for themselves
one : (b : ℕ) (rest : List ℕ) → 128 ≤ b → spelled_part rest ≡ rest → spelled_part (b ∷ rest) ≡ b ∷ rest
one b rest h e = rw (large_byte b h) (ap (λ l. b ∷ l) e)

-- the later bytes of a character are from 128 on
later : (n : ℕ) → 128 ≤ next n
later n = omega arith

last : (n : ℕ) → spelled_part (next n ∷ []) ≡ next n ∷ []
last n = one (next n) [] (later n) refl

-- a character that is none of the six is spelled by its own bytes
pub spelled_char : (c : ℕ) → IsPlain c → spelled_part (encode c) ≡ encode c
unfolding encode
spelled_char c p =
    pick spelled_part (ltb c 128) (ltb c 2048) (ltb c 65536) (c ∷ []) ((192 + c / 64) ∷ next c ∷ []) ((224 + c / 4096) ∷ next (c / 64) ∷ next c ∷ []) ((240 + c / 262144) ∷ next (c / 4096) ∷ next (c / 64) ∷ next c ∷ [])
    (rw (plain_byte c p) refl)
    (one (192 + c / 64) (next c ∷ []) (omega arith) (last c))
    (one (224 + c / 4096) (next (c / 64) ∷ next c ∷ []) (omega arith) (one (next (c / 64)) (next c ∷ []) (later (c / 64)) (last c)))
    (one (240 + c / 262144) (next (c / 4096) ∷ next (c / 64) ∷ next c ∷ []) (omega arith) (one (next (c / 4096)) (next (c / 64) ∷ next c ∷ []) (later (c / 4096)) (one (next (c / 64)) (next c ∷ []) (later (c / 64)) (last c))))

-- one more character is spelled behind the others
pub part_more : (cs : List ℕ) (c : ℕ) → spelled_part (encode_utf8_all (cs ++ c ∷ [])) ≡ spelled_part (encode_utf8_all cs) ++ spelled_part (encode c)
part_more cs c = rw (encodes-append cs (c ∷ [])) (flat_map-append spelled_byte (encode_utf8_all cs) (encode_utf8_all (c ∷ [])) ∙ ap (λ l. spelled_part (encode_utf8_all cs) ++ l) (ap spelled_part (append-nil (encode c))))

-- a byte whose spelling is one byte stands for itself
pub byte_alone : (b : ℕ) → length (spelled_byte b) ≡ 1 → spelled_byte b ≡ b ∷ []
byte_alone b short = grind (arith, nat_tests, common_steps, short)

-- a part whose bytes need no escape is spelled as it is
pub part_alone : (bytes : List ℕ) → All (λ b. spelled_byte b ≡ b ∷ []) bytes → spelled_part bytes ≡ bytes
part_alone [] plain = refl
part_alone (b ∷ rest) plain = rw (plain 0 0 (omega arith)) (ap (λ l. b ∷ l) (part_alone rest (λ k d inside. plain (suc k) d (omega arith))))
