-- Reading a pattern and a text as far as to a star, and putting the piece as near as it may stand.
use Rattle.std.proofs.Common.{◌≡◌, ◌≢◌, ℕ, ◌+◌, ◌<◌, ◌≤◌, Bool, true, false, List, [], ◌∷◌, ◌++◌, length, drop, reverse, eqb, refl, sym, ap, ◌∙◌, append_assoc, arith, ne_eqb, Option, Some, None}
use Rattle.std.proofs.lemmas.Bool.Decides.{Decides-eqb}
use Rattle.std.proofs.lemmas.Grind.{common_steps}
use Rattle.std.proofs.lemmas.List.{drop-append-le, length-reverse, reverse-append}
use Rattle.std.specs.Option.{is_some, MatchOption}
use Rattle.std.specs.Prelude.{◌&&◌, ◌==◌, not}
use Rattle.descriptor.specs.Nodes.{Nodes}
use Rattle.selectors.specs.declared.name_end.NameEnd.{NameEnd}
use Rattle.selectors.specs.NameEnds.{left_of, Plain}
use Rattle.selectors.specs.Patterns.{some_end, goes_on, fits}
use Rattle.selectors.proofs.Patterns.{end_found, end_as, end_here, fits_byte, begun_with}
use Rattle.selectors.proofs.Truths.{same_truth}

pub plain_more : (piece : List ℕ) (byte : ℕ) → Plain piece → eqb byte 42 ≡ false → Plain (piece ++ byte ∷ [])
plain_more [] byte plain other = (other, tt)
plain_more (first ∷ piece) byte plain other = (plain.0, plain_more piece byte plain.1 other)

and_true : (a b : Bool) → a ≡ true → (a && b) ≡ b
and_true true b is = refl
and_true false b is = absurd (cc)

-- a piece without a star, put in front of both
pub same_front : (piece pattern text : List ℕ) → Plain piece → fits (piece ++ pattern) (piece ++ text) ≡ fits pattern text
same_front [] pattern text plain = refl
same_front (byte ∷ piece) pattern text plain =
    fits_byte byte (piece ++ pattern) (byte ∷ (piece ++ text)) plain.0
    ∙ and_true (eqb byte byte) (fits (piece ++ pattern) (piece ++ text)) ((Decides-eqb byte byte).1 refl)
    ∙ same_front piece pattern text plain.1

-- what a pattern fits that begins with a piece begins with that
begins : (piece pattern text : List ℕ) → Plain piece → fits (piece ++ pattern) text ≡ true → (rest : List ℕ) × (text ≡ piece ++ rest) × (fits pattern rest ≡ true)
begins [] pattern text plain h = (text, refl, h)
begins (byte ∷ piece) pattern text plain h =
    let here = begun_with byte (fits (piece ++ pattern)) text (sym (fits_byte byte (piece ++ pattern) text plain.0) ∙ h) in
    let more = begins piece pattern here.0 plain.1 here.2 in
    (more.0, here.1 ∙ ap (λ x. byte ∷ x) more.1, more.2)

-- a piece that stands later leaves an end of what is left behind an earlier place
later : (piece gap rest text : List ℕ) → piece ++ text ≡ gap ++ (piece ++ rest) → text ≡ drop (length piece) (gap ++ piece) ++ rest
later piece gap rest text same =
    let long : length piece ≤ length (gap ++ piece) = grind (arith, common_steps) in
    let front : drop (length piece) (piece ++ text) ≡ text = grind (arith, common_steps) in
    sym front ∙ ap (drop (length piece)) (same ∙ sym (append_assoc gap piece rest)) ∙ drop-append-le (length piece) (gap ++ piece) rest long

-- where a star follows a piece, the earliest place of the piece is as good as any
pub earliest : (piece more text : List ℕ) → Plain piece → some_end (fits (piece ++ 42 ∷ more)) (piece ++ text) ≡ some_end (fits more) text
earliest piece more text plain =
    same_truth (some_end (fits (piece ++ 42 ∷ more)) (piece ++ text)) (some_end (fits more) text)
    (λ h.
    let found = end_found (fits (piece ++ 42 ∷ more)) (piece ++ text) h in
    let here = begins piece (42 ∷ more) found.1 plain found.3 in
    let end = end_found (fits more) here.0 here.2 in
    let is : text ≡ drop (length piece) (found.0 ++ piece) ++ here.0 = later piece found.0 here.0 text (found.2 ∙ ap (λ x. found.0 ++ x) here.1) in
    ap (some_end (fits more)) (is ∙ ap (λ x. drop (length piece) (found.0 ++ piece) ++ x) end.2 ∙ sym (append_assoc (drop (length piece) (found.0 ++ piece)) end.0 end.1))
    ∙ end_as (fits more) (drop (length piece) (found.0 ++ piece) ++ end.0) end.1 end.3)
    (λ h. end_here (fits (piece ++ 42 ∷ more)) (piece ++ text) (same_front piece (42 ∷ more) text plain ∙ h))

false_of : (a b : ℕ) (c : Bool) → a ≢ b → false ≡ ((eqb a b) && c)
false_of a b c differ = sym (ap (λ (d : Bool). d && c) (ne_eqb a b differ))

-- the same piece, without a star, was read of a pattern and of a name
abbrev pub Read : Nodes → List ℕ → NameEnd → List ℕ → NameEnd → Type 0
Read t pattern name left rest = (piece : List ℕ) × Plain piece × (reverse pattern ≡ piece ++ reverse left) × (left_of t name ≡ piece ++ left_of t rest)

module _ (t : Nodes) (pattern : List ℕ) (name : NameEnd) (left : List ℕ) (rest : NameEnd) (read : Read t pattern name left rest) where
  -- what was read alike decides nothing
  rest_decides : fits (reverse pattern) (left_of t name) ≡ fits (reverse left) (left_of t rest)
  rest_decides = ap (λ p. fits p (left_of t name)) read.2 ∙ ap (fits (read.0 ++ reverse left)) read.3 ∙ same_front read.0 (reverse left) (left_of t rest) read.1

  pub read_all : left ≡ [] → (length (left_of t rest) == 0) ≡ fits (reverse pattern) (left_of t name)
  read_all none = sym (rest_decides ∙ ap (λ p. fits (reverse p) (left_of t rest)) none)

  module _ (more : List ℕ) (byte : ℕ) (last : left ≡ more ++ byte ∷ []) where
    first_is : reverse left ≡ byte ∷ reverse more
    first_is = ap reverse last ∙ reverse-append more (byte ∷ [])

    pub at_star : byte ≡ 42 → (piece : List ℕ) × Plain piece × (reverse pattern ≡ piece ++ 42 ∷ reverse more) × (left_of t name ≡ piece ++ left_of t rest)
    at_star star = (read.0, read.1, read.2 ∙ ap (λ x. read.0 ++ x) (first_is ∙ ap (λ (b : ℕ). b ∷ reverse more) star), read.3)

    byte_decides : byte ≢ 42 → fits (reverse pattern) (left_of t name) ≡ goes_on byte (fits (reverse more)) (left_of t rest)
    byte_decides other = rest_decides ∙ ap (λ p. fits p (left_of t rest)) first_is ∙ fits_byte byte (reverse more) (left_of t rest) (ne_eqb byte 42 other)

    pub one_more : byte ≢ 42 → (next : NameEnd) → left_of t rest ≡ byte ∷ left_of t next → Read t pattern name more next
    one_more other next is = (
      read.0 ++ byte ∷ [],
      plain_more read.0 byte read.1 (ne_eqb byte 42 other),
      read.2 ∙ ap (λ x. read.0 ++ x) first_is ∙ sym (append_assoc read.0 (byte ∷ []) (reverse more)),
      read.3 ∙ ap (λ x. read.0 ++ x) is ∙ sym (append_assoc read.0 (byte ∷ []) (left_of t next)),
    )

    pub differs : byte ≢ 42 → (found : ℕ) (next : NameEnd) → left_of t rest ≡ found ∷ left_of t next → found ≢ byte → false ≡ fits (reverse pattern) (left_of t name)
    differs other found next is differ = sym (byte_decides other ∙ ap (goes_on byte (fits (reverse more))) is ∙ sym (false_of found byte (fits (reverse more) (left_of t next)) differ))

    pub runs_out : byte ≢ 42 → left_of t rest ≡ [] → false ≡ fits (reverse pattern) (left_of t name)
    runs_out other none = sym (byte_decides other ∙ ap (goes_on byte (fits (reverse more))) none)

-- whether nothing is left, by its last byte
pub empty_by : {A : Type 0} (P : A → Type 0) (r : Option (ℕ × A)) (text : List ℕ) (rest : A → List ℕ) (b : Bool) → MatchOption r (text ≡ []) (λ p. P p.1 × (text ≡ p.0 ∷ rest p.1)) → is_some r ≡ not b → b ≡ (length text == 0)
empty_by P None text rest true is told = sym (ap (λ (x : List ℕ). length x == 0) is)
empty_by P None text rest false is told = absurd (cc)
empty_by P (Some p) text rest true is told = absurd (cc)
empty_by P (Some p) text rest false is told = sym (ap (λ (x : List ℕ). length x == 0) is.1 ∙ more (rest p.1))
  where
    more : (xs : List ℕ) → (length (p.0 ∷ xs) == 0) ≡ false
    more xs = ne_eqb (length (p.0 ∷ xs)) 0 (λ none. cc)

-- a star that was read makes less of both
pub smaller : (pattern more piece text rest : List ℕ) → reverse pattern ≡ piece ++ 42 ∷ reverse more → text ≡ piece ++ rest → length more + length rest < length pattern + length text
smaller pattern more piece text rest is left =
    let whole : length pattern ≡ length (piece ++ 42 ∷ reverse more) = sym (length-reverse pattern) ∙ ap length is in
    let one : length (reverse more) ≡ length more = length-reverse more in
    let other : length text ≡ length (piece ++ rest) = ap length left in
    grind (arith, common_steps)
