-- What a pattern matches: its pieces, its bytes with a text in place of each star, and the same read from the end.
use Rattle.std.proofs.Common.{◌≡◌, ℕ, Bool, true, false, List, [], ◌∷◌, ◌++◌, reverse, length, eqb, refl, sym, ap, ◌∙◌, inl, inr, ◌⊎◌, ◌↔◌, subst, append_assoc, Option, Some, None}
use Rattle.std.proofs.lemmas.Bool.Decides.{Decides-eqb}
use Rattle.std.proofs.lemmas.List.{append-nil, reverse-append, reverse-reverse}
use Rattle.std.proofs.lemmas.Option.{none-some}
use Rattle.std.specs.Prelude.{if◌then◌else◌}
use Rattle.selectors.specs.Names.{is_match_of}
use Rattle.selectors.specs.Patterns.{pieces, with_byte, Follow, Stand, Matches, some_end, goes_on, fits, is_match}
use Rattle.selectors.proofs.Marks.{and_both, and_parts}
use Rattle.selectors.proofs.Truths.{or_left, or_right, or_cases}

is_or_is_not : (a : Bool) → (a ≡ true) ⊎ (a ≡ false)
is_or_is_not true = inl refl
is_or_is_not false = inr refl

-- a text is this pattern with some text in place of each star
abbrev pub Filled : List ℕ → List ℕ → Type 0
Filled [] text = text ≡ []
Filled (byte ∷ pattern) text =
    ((eqb byte 42 ≡ true) × ((gap rest : List ℕ) × (text ≡ gap ++ rest) × Filled pattern rest))
    ⊎ ((eqb byte 42 ≡ false) × ((rest : List ℕ) × (text ≡ byte ∷ rest) × Filled pattern rest))

-- some end of a text passes
pub end_found : (q : List ℕ → Bool) (text : List ℕ) → some_end q text ≡ true → (gap rest : List ℕ) × (text ≡ gap ++ rest) × (q rest ≡ true)
end_found q [] h = ([], [], refl, h)
end_found q (byte ∷ text) h = elim (or_cases (q (byte ∷ text)) (some_end q text) h) [
  | inl here ↦ ([], byte ∷ text, refl, here)
  | inr later ↦ let more = end_found q text later in (byte ∷ more.0, more.1, ap (λ t. byte ∷ t) more.2, more.3)
]

pub end_here : (q : List ℕ → Bool) (text : List ℕ) → q text ≡ true → some_end q text ≡ true
end_here q [] h = h
end_here q (byte ∷ text) h = or_left (q (byte ∷ text)) (some_end q text) h

pub end_as : (q : List ℕ → Bool) (gap rest : List ℕ) → q rest ≡ true → some_end q (gap ++ rest) ≡ true
end_as q [] rest h = end_here q rest h
end_as q (byte ∷ gap) rest h = or_right (q (byte ∷ (gap ++ rest))) (some_end q (gap ++ rest)) (end_as q gap rest h)

fits_star : (byte : ℕ) (pattern text : List ℕ) → eqb byte 42 ≡ true → fits (byte ∷ pattern) text ≡ some_end (fits pattern) text
fits_star byte pattern text is = ap (λ (b : Bool). if b then some_end (fits pattern) text else goes_on byte (fits pattern) text) is

pub fits_byte : (byte : ℕ) (pattern text : List ℕ) → eqb byte 42 ≡ false → fits (byte ∷ pattern) text ≡ goes_on byte (fits pattern) text
fits_byte byte pattern text is = ap (λ (b : Bool). if b then some_end (fits pattern) text else goes_on byte (fits pattern) text) is

empty_of : (text : List ℕ) → eqb (length text) 0 ≡ true → text ≡ []
empty_of [] h = refl
empty_of (byte ∷ text) h = absurd (let none : length (byte ∷ text) ≡ 0 = (Decides-eqb (length (byte ∷ text)) 0).0 h in cc)

pub begun_with : (byte : ℕ) (q : List ℕ → Bool) (text : List ℕ) → goes_on byte q text ≡ true → (rest : List ℕ) × (text ≡ byte ∷ rest) × (q rest ≡ true)
begun_with byte q [] h = absurd (cc)
begun_with byte q (other ∷ rest) h =
    let both = and_parts (eqb other byte) (q rest) h in
    (rest, ap (λ (b : ℕ). b ∷ rest) ((Decides-eqb other byte).0 both.0), both.1)

begins_with : (byte : ℕ) (q : List ℕ → Bool) (text rest : List ℕ) → text ≡ byte ∷ rest → q rest ≡ true → goes_on byte q text ≡ true
begins_with byte q text rest is h = ap (goes_on byte q) is ∙ and_both (eqb byte byte) (q rest) ((Decides-eqb byte byte).1 refl) h

filled_of : (pattern text : List ℕ) → fits pattern text ≡ true → Filled pattern text
filled_of [] text h = empty_of text h
filled_of (byte ∷ pattern) text h = elim (is_or_is_not (eqb byte 42)) [
  | inl star ↦ let found = end_found (fits pattern) text (sym (fits_star byte pattern text star) ∙ h) in inl (star, (found.0, found.1, found.2, filled_of pattern found.1 found.3))
  | inr other ↦ let found = begun_with byte (fits pattern) text (sym (fits_byte byte pattern text other) ∙ h) in inr (other, (found.0, found.1, filled_of pattern found.0 found.2))
]

fits_of : (pattern text : List ℕ) → Filled pattern text → fits pattern text ≡ true
fits_of [] text h = ap (λ (t : List ℕ). eqb (length t) 0) h
fits_of (byte ∷ pattern) text (inl (star, (gap, rest, is, filled))) =
    fits_star byte pattern text star ∙ ap (some_end (fits pattern)) is ∙ end_as (fits pattern) gap rest (fits_of pattern rest filled)
fits_of (byte ∷ pattern) text (inr (other, (rest, is, filled))) =
    fits_byte byte pattern text other ∙ begins_with byte (fits pattern) text rest is (fits_of pattern rest filled)

-- a star behind the pattern, and some text behind the text
gap_last : (pattern text more : List ℕ) → Filled pattern text → Filled (pattern ++ 42 ∷ []) (text ++ more)
gap_last [] text more h = inl (refl, (more, [], ap (λ (t : List ℕ). t ++ more) h ∙ sym (append-nil more), refl))
gap_last (byte ∷ pattern) text more (inl (star, (gap, rest, is, filled))) =
    inl (star, (gap, rest ++ more, ap (λ (t : List ℕ). t ++ more) is ∙ append_assoc gap rest more, gap_last pattern rest more filled))
gap_last (byte ∷ pattern) text more (inr (other, (rest, is, filled))) =
    inr (other, (rest ++ more, ap (λ (t : List ℕ). t ++ more) is, gap_last pattern rest more filled))

-- a byte that is no star, put behind both
byte_last : (pattern text : List ℕ) (last : ℕ) → eqb last 42 ≡ false → Filled pattern text → Filled (pattern ++ last ∷ []) (text ++ last ∷ [])
byte_last [] text last other_last h = inr (other_last, ([], ap (λ (t : List ℕ). t ++ last ∷ []) h, refl))
byte_last (byte ∷ pattern) text last other_last (inl (star, (gap, rest, is, filled))) =
    inl (star, (gap, rest ++ last ∷ [], ap (λ (t : List ℕ). t ++ last ∷ []) is ∙ append_assoc gap rest (last ∷ []), byte_last pattern rest last other_last filled))
byte_last (byte ∷ pattern) text last other_last (inr (other, (rest, is, filled))) =
    inr (other, (rest ++ last ∷ [], ap (λ (t : List ℕ). t ++ last ∷ []) is, byte_last pattern rest last other_last filled))

reversed : (pattern text : List ℕ) → Filled pattern text → Filled (reverse pattern) (reverse text)
reversed [] text h = ap reverse h
reversed (byte ∷ pattern) text (inl (star, (gap, rest, is, filled))) =
    subst (λ (p : List ℕ). Filled p (reverse text)) (sym (reverse-append (byte ∷ []) pattern ∙ ap (λ (b : ℕ). reverse pattern ++ b ∷ []) ((Decides-eqb byte 42).0 star)))
    (subst (Filled (reverse pattern ++ 42 ∷ [])) (sym (ap reverse is ∙ reverse-append gap rest)) (gap_last (reverse pattern) (reverse rest) (reverse gap) (reversed pattern rest filled)))
reversed (byte ∷ pattern) text (inr (other, (rest, is, filled))) =
    subst (λ (p : List ℕ). Filled p (reverse text)) (sym (reverse-append (byte ∷ []) pattern))
    (subst (Filled (reverse pattern ++ byte ∷ [])) (sym (ap reverse is ∙ reverse-append (byte ∷ []) rest)) (byte_last (reverse pattern) (reverse rest) byte other (reversed pattern rest filled)))

-- pieces, behind some text
follow_of : (ps : List (List ℕ)) (gap rest : List ℕ) → Stand ps rest → Follow ps (gap ++ rest)
follow_of [] gap rest h = absurd h
follow_of (piece ∷ more) gap rest (left, is, follow) = (gap, left, ap (λ (t : List ℕ). gap ++ t) is, follow)

stand_of : (piece : List ℕ) (more : List (List ℕ)) (text : List ℕ) → Follow (piece ∷ more) text → (gap rest : List ℕ) × (text ≡ gap ++ rest) × Stand (piece ∷ more) rest
stand_of piece more text (gap, left, is, follow) = (gap, piece ++ left, is, (left, refl, follow))

with_more : (byte : ℕ) (ps : List (List ℕ)) (rest : List ℕ) → Stand ps rest → Stand (with_byte byte ps) (byte ∷ rest)
with_more byte [] rest h = absurd h
with_more byte (piece ∷ more) rest (left, is, follow) = (left, ap (λ t. byte ∷ t) is, follow)

with_less : (byte : ℕ) (ps : List (List ℕ)) (text : List ℕ) → Stand (with_byte byte ps) text → (rest : List ℕ) × (text ≡ byte ∷ rest) × Stand ps rest
with_less byte [] text h = absurd h
with_less byte (piece ∷ more) text (left, is, follow) = (piece ++ left, is, (left, refl, follow))

pieces_star : (byte : ℕ) (pattern : List ℕ) → eqb byte 42 ≡ true → pieces (byte ∷ pattern) ≡ [] ∷ pieces pattern
pieces_star byte pattern is = ap (λ (b : Bool). if b then [] ∷ pieces pattern else with_byte byte (pieces pattern)) is

pieces_byte : (byte : ℕ) (pattern : List ℕ) → eqb byte 42 ≡ false → pieces (byte ∷ pattern) ≡ with_byte byte (pieces pattern)
pieces_byte byte pattern is = ap (λ (b : Bool). if b then [] ∷ pieces pattern else with_byte byte (pieces pattern)) is

-- each pattern has a first piece
with_byte_some : (byte : ℕ) (ps : List (List ℕ)) → (piece : List ℕ) × (more : List (List ℕ)) × (ps ≡ piece ∷ more) → (piece : List ℕ) × (more : List (List ℕ)) × (with_byte byte ps ≡ piece ∷ more)
with_byte_some byte ps (piece, more, is) = (byte ∷ piece, more, ap (with_byte byte) is)

first_piece : (pattern : List ℕ) → (piece : List ℕ) × (more : List (List ℕ)) × (pieces pattern ≡ piece ∷ more)
first_piece [] = ([], [], refl)
first_piece (byte ∷ pattern) = elim (is_or_is_not (eqb byte 42)) [
  | inl star ↦ ([], pieces pattern, pieces_star byte pattern star)
  | inr other ↦ let found = with_byte_some byte (pieces pattern) (first_piece pattern) in (found.0, found.1, pieces_byte byte pattern other ∙ found.2)
]

stands : (pattern text : List ℕ) → Filled pattern text → Stand (pieces pattern) text
stands [] text h = (text, refl, h)
stands (byte ∷ pattern) text (inl (star, (gap, rest, is, filled))) =
    subst (λ ps. Stand ps text) (sym (pieces_star byte pattern star))
    (text, refl, subst (Follow (pieces pattern)) (sym is) (follow_of (pieces pattern) gap rest (stands pattern rest filled)))
stands (byte ∷ pattern) text (inr (other, (rest, is, filled))) =
    subst (λ ps. Stand ps text) (sym (pieces_byte byte pattern other))
    (subst (Stand (with_byte byte (pieces pattern))) (sym is) (with_more byte (pieces pattern) rest (stands pattern rest filled)))

filled_by : (pattern text : List ℕ) → Stand (pieces pattern) text → Filled pattern text
filled_by [] text (rest, is, end) = is ∙ end
filled_by (byte ∷ pattern) text h = elim (is_or_is_not (eqb byte 42)) [
  | inl star ↦
      let stand : Stand ([] ∷ pieces pattern) text = subst (λ ps. Stand ps text) (pieces_star byte pattern star) h in
      let first = first_piece pattern in
      let found = stand_of first.0 first.1 text (subst (λ ps. Follow ps text) first.2 (subst (Follow (pieces pattern)) (sym stand.1) stand.2)) in
      inl (star, (found.0, found.1, found.2, filled_by pattern found.1 (subst (λ ps. Stand ps found.1) (sym first.2) found.3)))
  | inr other ↦
      let found = with_less byte (pieces pattern) text (subst (λ ps. Stand ps text) (pieces_byte byte pattern other) h) in
      inr (other, (found.0, found.1, filled_by pattern found.0 found.2))
]

-- the test says what the relation says
pub match_is : (pattern text : List ℕ) → (is_match pattern text ≡ true) ↔ Matches pattern text
match_is pattern text = (
  λ h. stands pattern text (subst (λ p. Filled p text) (reverse-reverse pattern) (subst (Filled (reverse (reverse pattern))) (reverse-reverse text) (reversed (reverse pattern) (reverse text) (filled_of (reverse pattern) (reverse text) h)))),
  λ m. fits_of (reverse pattern) (reverse text) (reversed pattern text (filled_by pattern text m)),
)

-- a name, if there is one, fits a pattern just where it matches it
pub like : (pattern : List ℕ) (found : Option (List ℕ)) → (is_match_of pattern found ≡ true) ↔ ((name : List ℕ) × (found ≡ Some name) × Matches pattern name)
like pattern None = (λ h. absurd (cc), λ has. absurd (none-some has.0 has.1))
like pattern (Some name) = (
  λ h. (name, refl, (match_is pattern name).0 h),
  λ has. ap (is_match_of pattern) has.1 ∙ (match_is pattern has.0).1 has.2,
)
