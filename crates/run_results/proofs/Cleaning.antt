-- Which characters a printed text keeps, and how it grows.
use Rattle.std.proofs.Common.{inl, inr, ◌≡◌, ◌≢◌, ℕ, ◌+◌, ◌/◌, ◌≤◌, ◌<◌, Bool, true, false, cond, ltb, List, [], ◌∷◌, ◌++◌, refl, ap, sym, ◌∙◌, arith, append-nil, All, suc}
use Rattle.std.specs.Prelude.{encode_utf8_all}
use lib.Utf8.{encode, next}
use Rattle.std.specs.Char.{IsAsciiControl}
use Rattle.std.proofs.lemmas.Bool.Decides.{nat_tests}
use Rattle.std.proofs.lemmas.List.{map-append}
use Rattle.std.proofs.lemmas.Str.{encodes-append, encode_ascii}
use Rattle.run_results.specs.Printed.{printed_byte, cleaned}

-- a byte that is printed as it is
record IsKept (b : ℕ) : Type 0 where
  pub high : 32 ≤ b
  pub other : b ≢ 127

kept_byte : (b : ℕ) → IsKept b → printed_byte b ≡ b
kept_byte b k = grind (arith, nat_tests, k.high, k.other)

blanked_byte : (b : ℕ) → IsAsciiControl b → printed_byte b ≡ 32
blanked_byte b h = elim h [ inl low ↦ grind (arith, nat_tests, low.1) | inr only ↦ grind (arith, nat_tests, only.0, only.1) ]

small : (b : ℕ) → IsAsciiControl b → b < 128
small b h = elim h [ inl low ↦ omega arith | inr only ↦ omega arith ]

one : (b : ℕ) (rest : List ℕ) → 128 ≤ b → cleaned rest ≡ rest → cleaned (b ∷ rest) ≡ b ∷ rest
one b rest h e = rw (kept_byte b (record { high = omega arith; other = omega arith })) (ap (λ l. b ∷ l) e)

later : (n : ℕ) → 128 ≤ next n
later n = omega arith

last : (n : ℕ) → cleaned (next n ∷ []) ≡ next n ∷ []
last n = one (next n) [] (later n) refl

pick : (f : List ℕ → List ℕ) (x y z : Bool) (k l m n : List ℕ) → f k ≡ k → f l ≡ l → f m ≡ m → f n ≡ n → f (cond x k (cond y l (cond z m n))) ≡ cond x k (cond y l (cond z m n))
pick f true y z k l m n a b c d = a
pick f false true z k l m n a b c d = b
pick f false false true k l m n a b c d = c
pick f false false false k l m n a b c d = d

pub kept_char : (c : ℕ) → 32 ≤ c → c ≢ 127 → encode c ≡ cleaned (encode c)
unfolding encode
kept_char c high other =
    sym (pick cleaned (ltb c 128) (ltb c 2048) (ltb c 65536) (c ∷ []) ((192 + c / 64) ∷ next c ∷ []) ((224 + c / 4096) ∷ next (c / 64) ∷ next c ∷ []) ((240 + c / 262144) ∷ next (c / 4096) ∷ next (c / 64) ∷ next c ∷ [])
    (rw (kept_byte c (record { high = high; other = other })) refl)
    (one (192 + c / 64) (next c ∷ []) (omega arith) (last c))
    (one (224 + c / 4096) (next (c / 64) ∷ next c ∷ []) (omega arith) (one (next (c / 64)) (next c ∷ []) (later (c / 64)) (last c)))
    (one (240 + c / 262144) (next (c / 4096) ∷ next (c / 64) ∷ next c ∷ []) (omega arith) (one (next (c / 4096)) (next (c / 64) ∷ next c ∷ []) (later (c / 4096)) (one (next (c / 64)) (next c ∷ []) (later (c / 64)) (last c)))))

pub blanked_char : (c : ℕ) → IsAsciiControl c → encode 32 ≡ cleaned (encode c)
blanked_char c h = rw (encode_ascii c (small c h), encode_ascii 32 (omega arith)) (ap (λ b. b ∷ []) (sym (blanked_byte c h)))

pub cleaned_more : (cs : List ℕ) (c : ℕ) → cleaned (encode_utf8_all (cs ++ c ∷ [])) ≡ cleaned (encode_utf8_all cs) ++ cleaned (encode c)
cleaned_more cs c =
    rw (encodes-append cs (c ∷ []))
    (map-append printed_byte (encode_utf8_all cs) (encode_utf8_all (c ∷ [])) ∙ ap (λ l. cleaned (encode_utf8_all cs) ++ cleaned l) (append-nil (encode c)))

-- a text without a control byte is printed as it is
pub cleaned_alone : (text : List ℕ) → All (λ byte. printed_byte byte ≡ byte) text → cleaned text ≡ text
cleaned_alone [] clean = refl
cleaned_alone (b ∷ rest) clean = rw (clean 0 0 (omega arith)) (ap (λ l. b ∷ l) (cleaned_alone rest (λ k d inside. clean (suc k) d (omega arith))))
