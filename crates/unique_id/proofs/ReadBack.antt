-- The spelling can be read back: equal spellings have equal segments.
use Rattle.std.proofs.Common.{◌≡◌, ◌≢◌, ◌⊎◌, ℕ, ◌+◌, ◌-◌, ◌*◌, ltb, List, [], ◌∷◌, ◌++◌, cond, eqb, get_or, drop, refl, ap, sym, ◌∙◌, subst, inl, inr, append_assoc, append-nil, arith}
use Rattle.std.proofs.lemmas.Bool.Decides.{nat_tests, eqb_tells}
use Rattle.unique_id.specs.declared.unique_id.Segment.{Segment}
use Rattle.unique_id.specs.Spelling.{spelling, spelled_byte, spelled_part, spelled_segment}
use Rattle.unique_id.proofs.Parts.{IsPlain, plain_byte}

-- a fact of each byte and its spelling, from the six escapes and the plain bytes
pub by_byte : (P : ℕ → List ℕ → Type 0)
    → P 37 (spelled_byte 37) → P 43 (spelled_byte 43) → P 91 (spelled_byte 91) → P 93 (spelled_byte 93) → P 58 (spelled_byte 58) → P 47 (spelled_byte 47)
    → ((b : ℕ) → IsPlain b → P b (b ∷ []))
    → (b : ℕ) → P b (spelled_byte b)
by_byte P percent plus open_bracket close_bracket colon slash plain b =
    let Q : ℕ → Type 0 = λ n. P n (spelled_byte n) in
    elim (eqb_tells b 37) [
      | inl h ↦ subst Q (sym h.1) percent
      | inr no_percent ↦
          elim (eqb_tells b 43) [
            | inl h ↦ subst Q (sym h.1) plus
            | inr no_plus ↦
                elim (eqb_tells b 91) [
                  | inl h ↦ subst Q (sym h.1) open_bracket
                  | inr no_open ↦
                      elim (eqb_tells b 93) [
                        | inl h ↦ subst Q (sym h.1) close_bracket
                        | inr no_close ↦
                            elim (eqb_tells b 58) [
                              | inl h ↦ subst Q (sym h.1) colon
                              | inr no_colon ↦
                                  elim (eqb_tells b 47) [
                                    | inl h ↦ subst Q (sym h.1) slash
                                    | inr no_slash ↦
                                        (let p : IsPlain b = record { percent = no_percent.1; plus = no_plus.1; open_bracket = no_open.1; close_bracket = no_close.1; colon = no_colon.1; slash = no_slash.1 } in
                                        let R : List ℕ → Type 0 = λ l. P b l in
                                        subst R (sym (plain_byte b p)) (plain b p))
                                  ]
                            ]
                      ]
                ]
          ]
    ]

-- the value of an upper-case hexadecimal digit
abbrev digit_of : ℕ → ℕ
digit_of c = cond (ltb c 58) (c - 48) (c - 55)

-- the byte that a spelling begins with, and what follows it
abbrev first_byte : List ℕ → ℕ
first_byte l = cond (eqb (get_or l 0 0) 37) (16 * digit_of (get_or l 1 0) + digit_of (get_or l 2 0)) (get_or l 0 0)

abbrev after_byte : List ℕ → List ℕ
after_byte l = cond (eqb (get_or l 0 0) 37) (drop 3 l) (drop 1 l)

plain_first : (b : ℕ) (rest : List ℕ) → IsPlain b → first_byte (b ∷ rest) ≡ b
plain_first b rest p = grind (arith, nat_tests, p.percent)

plain_after : (b : ℕ) (rest : List ℕ) → IsPlain b → after_byte (b ∷ rest) ≡ rest
plain_after b rest p = elim (eqb_tells b 37) [ inl h ↦ absurd (p.percent h.1) | inr h ↦ ap (λ t. cond t (drop 3 (b ∷ rest)) rest) h.0 ]

read_first : (b : ℕ) (rest : List ℕ) → first_byte (spelled_byte b ++ rest) ≡ b
read_first b rest =
    by_byte (λ n l. first_byte (l ++ rest) ≡ n) refl refl refl refl refl refl (λ n p. plain_first n rest p) b

read_after : (b : ℕ) (rest : List ℕ) → after_byte (spelled_byte b ++ rest) ≡ rest
read_after b rest =
    by_byte (λ _ l. after_byte (l ++ rest) ≡ rest) refl refl refl refl refl refl (λ n p. plain_after n rest p) b

-- a spelled byte does not begin with what ends a part
head_of : (b : ℕ) (rest : List ℕ) → (get_or (spelled_byte b ++ rest) 0 0 ≢ 58) × (get_or (spelled_byte b ++ rest) 0 0 ≢ 93)
head_of b rest =
    let escape : (37 ≢ 58) × (37 ≢ 93) = (omega arith, omega arith) in
    by_byte (λ _ l. (get_or (l ++ rest) 0 0 ≢ 58) × (get_or (l ++ rest) 0 0 ≢ 93)) escape escape escape escape escape escape (λ n p. (p.colon, p.close_bracket)) b

no_end : (b e : ℕ) (rest after : List ℕ) → (e ≡ 58) ⊎ (e ≡ 93) → e ∷ after ≡ spelled_byte b ++ rest → ⊥
no_end b e rest after ends same =
    let head : e ≡ get_or (spelled_byte b ++ rest) 0 0 = ap (λ l. get_or l 0 0) same in
    let not = head_of b rest in
    elim ends [ inl colon ↦ not.0 (sym head ∙ colon) | inr bracket ↦ not.1 (sym head ∙ bracket) ]

-- a part and what follows its end are told by the spelling
part_cancel : (a b : List ℕ) (e : ℕ) (x y : List ℕ) → (e ≡ 58) ⊎ (e ≡ 93) → spelled_part a ++ e ∷ x ≡ spelled_part b ++ e ∷ y → (a ≡ b) × (x ≡ y)
part_cancel [] [] e x y ends h = (refl, ap (drop 1) h)
part_cancel [] (d ∷ b) e x y ends h = absurd (no_end d e (spelled_part b ++ e ∷ y) x ends (h ∙ append_assoc (spelled_byte d) (spelled_part b) (e ∷ y)))
part_cancel (c ∷ a) [] e x y ends h = absurd (no_end c e (spelled_part a ++ e ∷ x) y ends (sym h ∙ append_assoc (spelled_byte c) (spelled_part a) (e ∷ x)))
part_cancel (c ∷ a) (d ∷ b) e x y ends h =
    let left : List ℕ = spelled_part a ++ e ∷ x in
    let right : List ℕ = spelled_part b ++ e ∷ y in
    let both : spelled_byte c ++ left ≡ spelled_byte d ++ right = sym (append_assoc (spelled_byte c) (spelled_part a) (e ∷ x)) ∙ h ∙ append_assoc (spelled_byte d) (spelled_part b) (e ∷ y) in
    let first : c ≡ d = sym (read_first c left) ∙ ap first_byte both ∙ read_first d right in
    let rest : left ≡ right = sym (read_after c left) ∙ ap after_byte both ∙ read_after d right in
    let more = part_cancel a b e x y ends rest in
    (ap (λ n. n ∷ a) first ∙ ap (λ l. d ∷ l) more.0, more.1)

pub open_segment : (kind value rest : List ℕ) → spelled_segment kind value ++ rest ≡ 91 ∷ (spelled_part kind ++ 58 ∷ (spelled_part value ++ 93 ∷ rest))
open_segment kind value rest = simp append_assoc

-- a segment and what follows it are told by the spelling
segment_cancel : (s t : Segment) (x y : List ℕ) → spelled_segment s.kind s.value ++ x ≡ spelled_segment t.kind t.value ++ y → (s ≡ t) × (x ≡ y)
segment_cancel s t x y h =
    let both = ap (drop 1) (sym (open_segment s.kind s.value x) ∙ h ∙ open_segment t.kind t.value y) in
    let kinds = part_cancel s.kind t.kind 58 (spelled_part s.value ++ 93 ∷ x) (spelled_part t.value ++ 93 ∷ y) (inl refl) both in
    let values = part_cancel s.value t.value 93 x y (inr refl) kinds.1 in
    let same : s ≡ t = ap (λ k. record { kind = k; value = s.value }) kinds.0 ∙ ap (λ v. record { kind = t.kind; value = v }) values.0 in
    (same, values.1)

-- what follows the first segment
abbrev tail_of : List Segment → List ℕ
tail_of [] = []
tail_of (s ∷ rest) = 47 ∷ spelling (s ∷ rest)

spelling_cons : (s : Segment) (rest : List Segment) → spelling (s ∷ rest) ≡ spelled_segment s.kind s.value ++ tail_of rest
spelling_cons s [] = sym (append-nil (spelled_segment s.kind s.value))
spelling_cons s (t ∷ rest) = refl

tails : (xs ys : List Segment) → tail_of xs ≡ tail_of ys → spelling xs ≡ spelling ys
tails [] [] h = refl
tails [] (y ∷ ys) h = absurd (cc)
tails (x ∷ xs) [] h = absurd (cc)
tails (x ∷ xs) (y ∷ ys) h = ap (drop 1) h

no_segment : (s : Segment) (rest : List Segment) → [] ≡ spelling (s ∷ rest) → ⊥
no_segment s rest h =
    let begun : [] ≡ 91 ∷ (spelled_part s.kind ++ 58 ∷ (spelled_part s.value ++ 93 ∷ tail_of rest)) = h ∙ spelling_cons s rest ∙ open_segment s.kind s.value (tail_of rest) in
    cc

-- equal spellings have equal segments
pub spelling_injective : (xs ys : List Segment) → spelling xs ≡ spelling ys → xs ≡ ys
spelling_injective [] [] h = refl
spelling_injective [] (y ∷ ys) h = absurd (no_segment y ys h)
spelling_injective (x ∷ xs) [] h = absurd (no_segment x xs (sym h))
spelling_injective (x ∷ xs) (y ∷ ys) h =
    let cut = segment_cancel x y (tail_of xs) (tail_of ys) (sym (spelling_cons x xs) ∙ h ∙ spelling_cons y ys) in
    let rest = spelling_injective xs ys (tails xs ys cut.1) in
    ap (λ s. s ∷ xs) cut.0 ∙ ap (λ l. y ∷ l) rest
