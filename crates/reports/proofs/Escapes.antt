-- The characters of a text, each as it stands in a string, are the text as the kit escapes it.
use Rattle.std.proofs.Common.{◌≡◌, ℕ, All, zero, suc, ◌+◌, ◌/◌, ◌<◌, ◌≤◌, Bool, true, false, cond, nat_lt, List, [], ◌∷◌, ◌++◌, IsUtf8, inl, inr, refl, sym, ap, ◌∙◌, subst, arith, append_assoc}
use Rattle.std.proofs.lemmas.Bool.{cases_eq, cases_lt, ne_eqb, le-ltb, lt-ltb}
use Rattle.std.proofs.lemmas.Str.{encodes-chars, encode_ascii}
use Rattle.std.specs.List.{flat_map}
use Rattle.std.specs.Str.{chars}
use lib.Utf8.{next, encode, encodes}
use Rattle.json.specs.Print.{escape_byte, escape}
use Rattle.reports.specs.JsonStrings.{is_plain, json_char}

abbrev IsEscaped : ℕ → Type 0
IsEscaped c = json_char c ≡ escape (encode c)

-- it holds below n, counted down from the top
abbrev Each : ℕ → Type 0
Each zero = Unit {0}
Each (suc n) = IsEscaped n × Each n

at : (n : ℕ) → Each n → (c : ℕ) → c < n → IsEscaped c
at zero h c lt = absurd (omega arith)
at (suc n) h c lt = elim (cases_eq c n) [ inl same ↦ subst IsEscaped (sym same) h.0 | inr other ↦ at n h.1 c (omega arith) ]

escape-append : (xs ys : List ℕ) → escape (xs ++ ys) ≡ escape xs ++ escape ys
escape-append [] ys = refl
escape-append (x ∷ xs) ys = ap (λ (l : List ℕ). escape_byte x ++ l) (escape-append xs ys) ∙ sym (append_assoc (escape_byte x) (escape xs) (escape ys))

-- a byte that needs no escape
plain_byte : (x : ℕ) (xs : List ℕ) → (x ≡ 34 → ⊥) → (x ≡ 92 → ⊥) → 32 ≤ x → escape (x ∷ xs) ≡ x ∷ escape xs
unfolding escape_byte
plain_byte x xs q b l =
    rw (ne_eqb x 34 q, ne_eqb x 92 b, ne_eqb x 8 (λ e. omega arith), ne_eqb x 12 (λ e. omega arith), ne_eqb x 10 (λ e. omega arith), ne_eqb x 13 (λ e. omega arith), ne_eqb x 9 (λ e. omega arith), le-ltb x 32 l) refl

controls : Each 32
unfolding escape_byte encode
controls = (refl, (refl, (refl, (refl, (refl, (refl, (refl, (refl, (refl, (refl, (refl, (refl, (refl, (refl, (refl, (refl, (refl, (refl, (refl, (refl, (refl, (refl, (refl, (refl, (refl, (refl, (refl, (refl, (refl, (refl, (refl, (refl, tt))))))))))))))))))))))))))))))))

quote : IsEscaped 34
unfolding escape_byte encode
quote = refl

backslash : IsEscaped 92
unfolding escape_byte encode
backslash = refl

-- a byte of a longer character
high_byte : (x : ℕ) (xs : List ℕ) → 128 ≤ x → escape (x ∷ xs) ≡ x ∷ escape xs
high_byte x xs high = plain_byte x xs (λ e. omega arith) (λ e. omega arith) (omega arith)

two_bytes : (x y : ℕ) → 128 ≤ x → 128 ≤ y → escape (x ∷ y ∷ []) ≡ x ∷ y ∷ []
two_bytes x y a b = high_byte x (y ∷ []) a ∙ ap (λ (l : List ℕ). x ∷ l) (high_byte y [] b)

three_bytes : (x y z : ℕ) → 128 ≤ x → 128 ≤ y → 128 ≤ z → escape (x ∷ y ∷ z ∷ []) ≡ x ∷ y ∷ z ∷ []
three_bytes x y z a b c = high_byte x (y ∷ z ∷ []) a ∙ ap (λ (l : List ℕ). x ∷ l) (two_bytes y z b c)

four_bytes : (x y z u : ℕ) → 128 ≤ x → 128 ≤ y → 128 ≤ z → 128 ≤ u → escape (x ∷ y ∷ z ∷ u ∷ []) ≡ x ∷ y ∷ z ∷ u ∷ []
four_bytes x y z u a b c d = high_byte x (y ∷ z ∷ u ∷ []) a ∙ ap (λ (l : List ℕ). x ∷ l) (three_bytes y z u b c d)

-- the bytes of a longer character, by how many they are
long_bytes : (c : ℕ) (two three : Bool)
    → (let bytes = cond two ((192 + c / 64) ∷ next c ∷ []) (cond three ((224 + c / 4096) ∷ next (c / 64) ∷ next c ∷ []) ((240 + c / 262144) ∷ next (c / 4096) ∷ next (c / 64) ∷ next c ∷ [])) in escape bytes ≡ bytes)
long_bytes c true three = two_bytes (192 + c / 64) (next c) (omega arith) (omega arith)
long_bytes c false true = three_bytes (224 + c / 4096) (next (c / 64)) (next c) (omega arith) (omega arith) (omega arith)
long_bytes c false false = four_bytes (240 + c / 262144) (next (c / 4096)) (next (c / 64)) (next c) (omega arith) (omega arith) (omega arith) (omega arith)

long_is : (c : ℕ) → 128 ≤ c → escape (encode c) ≡ encode c
unfolding encode
long_is c high = rw (le-ltb c 128 high) (long_bytes c (nat_lt c 2048) (nat_lt c 65536))

-- the bytes of a character past the control characters that is neither of these
plain_bytes : (c : ℕ) → (c ≡ 34 → ⊥) → (c ≡ 92 → ⊥) → 32 ≤ c → escape (encode c) ≡ encode c
plain_bytes c q b l = elim (cases_lt c 128) [
  | inl low ↦ ap escape (encode_ascii c low) ∙ plain_byte c [] q b l ∙ sym (encode_ascii c low)
  | inr high ↦ long_is c high
]

as_it_is : (c : ℕ) → (c ≡ 34 → ⊥) → (c ≡ 92 → ⊥) → 32 ≤ c → json_char c ≡ encode c
as_it_is c q b l =
    rw (ne_eqb c 34 q, ne_eqb c 92 b, ne_eqb c 8 (λ e. omega arith), ne_eqb c 9 (λ e. omega arith), ne_eqb c 10 (λ e. omega arith), ne_eqb c 12 (λ e. omega arith), ne_eqb c 13 (λ e. omega arith), le-ltb c 32 l) refl

char_is : (c : ℕ) → IsEscaped c
char_is c = elim (cases_eq c 34) [
  | inl e ↦ subst IsEscaped (sym e) quote
  | inr q ↦ elim (cases_eq c 92) [
    | inl e ↦ subst IsEscaped (sym e) backslash
    | inr b ↦ elim (cases_lt c 32) [
      | inl low ↦ at 32 controls c low
      | inr l ↦ as_it_is c q b l ∙ sym (plain_bytes c q b l)
    ]
  ]
]

chars_are : (cs : List ℕ) → flat_map json_char cs ≡ escape (encodes cs)
chars_are [] = refl
chars_are (c ∷ cs) = ap (λ (l : List ℕ). l ++ flat_map json_char cs) (char_is c) ∙ ap (λ (l : List ℕ). escape (encode c) ++ l) (chars_are cs) ∙ sym (escape-append (encode c) (encodes cs))

-- The characters of a text as they stand in a string are the text's bytes, escaped.
pub escaped_chars : (text : List ℕ) → IsUtf8 text → flat_map json_char (chars text) ≡ escape text
escaped_chars text is = chars_are (chars text) ∙ ap escape (encodes-chars text is)

-- a byte that stands in a string as it is
plain_alone : (x : ℕ) (xs : List ℕ) → is_plain x ≡ true → escape (x ∷ xs) ≡ x ∷ escape xs
plain_alone x xs is = elim (cases_eq x 34) [
  | inl e ↦ absurd (no_quote (subst (λ (y : ℕ). is_plain y ≡ true) e is))
  | inr q ↦ elim (cases_eq x 92) [
    | inl e ↦ absurd (no_backslash (subst (λ (y : ℕ). is_plain y ≡ true) e is))
    | inr b ↦ elim (cases_lt x 32) [
      | inl low ↦ absurd (no_control (sym (not_plain q b low) ∙ is))
      | inr l ↦ plain_byte x xs q b l
    ]
  ]
]
  where
    no_control : false ≡ true → ⊥
    no_control e = cc

    no_quote : is_plain 34 ≡ true → ⊥
    no_quote e = cc

    no_backslash : is_plain 92 ≡ true → ⊥
    no_backslash e = cc

    not_plain : (x ≡ 34 → ⊥) → (x ≡ 92 → ⊥) → x < 32 → is_plain x ≡ false
    not_plain q b low = rw (ne_eqb x 34 q, ne_eqb x 92 b, lt-ltb x 32 low) refl

-- A text of such bytes is escaped as it is.
pub plain_text : (text : List ℕ) → All (λ byte. is_plain byte ≡ true) text → escape text ≡ text
plain_text [] plain = refl
plain_text (x ∷ xs) plain = plain_alone x xs (plain 0 0 (omega arith)) ∙ ap (λ (l : List ℕ). x ∷ l) (plain_text xs (λ k d inside. plain (suc k) d (omega arith)))
