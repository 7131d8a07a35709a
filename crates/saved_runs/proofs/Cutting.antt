-- Where an id at the front of a text ends.
use Rattle.std.proofs.Common.{◌≡◌, ◌⊎◌, ℕ, zero, suc, ◌+◌, ◌-◌, ◌<◌, ◌≤◌, ◌==◌, not, Bool, true, false, cond, List, [], ◌∷◌, length, get_or, IsUtf8, inl, inr, refl, sym, ap, ◌∙◌, subst, arith}
use Rattle.std.specs.Str.{IsCharBoundary}
use Rattle.std.proofs.lemmas.Bool.{and_parts}
use Rattle.std.proofs.lemmas.Bool.Decides.{nat_tests}
use Rattle.std.proofs.lemmas.Str.{IsCharBoundary-after_ascii, IsCharBoundary-end}
use Rattle.saved_runs.specs.FeedLines.{begins_with_slash, ends_id, id_len}

-- the id takes all of the text, or ends with a ]
pub record IsEnd (bs : List ℕ) (n : ℕ) : Type 0 where
  pub some : 0 < n
  pub inside : n ≤ length bs
  pub bracket : get_or bs (n - 1) 0 ≡ 93

abbrev Ends : List ℕ → ℕ → Type 0
Ends bs n = (n ≡ length bs) ⊎ IsEnd bs n

one_more : (b : ℕ) (rest : List ℕ) (n : ℕ) → Ends rest n → Ends (b ∷ rest) (1 + n)
one_more b rest n h = elim h [
  | inl all ↦ inl (omega (arith, all))
  | inr e ↦ inr (record { some = omega arith; inside = omega (arith, e.inside); bracket = later b rest n e.some e.bracket })
]
  where
    later : (b : ℕ) (rest : List ℕ) (n : ℕ) → 0 < n → get_or rest (n - 1) 0 ≡ 93 → get_or (b ∷ rest) (1 + n - 1) 0 ≡ 93
    later b rest zero some e = absurd (omega (arith, some))
    later b rest (suc k) some e =
        let now : 1 + suc k - 1 ≡ suc k = omega arith in
        let before : suc k - 1 ≡ k = omega arith in
        ap (λ n. get_or (b ∷ rest) n 0) now ∙ sym (ap (λ n. get_or rest n 0) before) ∙ e

at_bracket : (b : ℕ) (rest : List ℕ) → b ≡ 93 → Ends (b ∷ rest) 1
at_bracket b rest is = inr (record { some = omega arith; inside = omega arith; bracket = is })

is_bracket : (b : ℕ) (rest : List ℕ) → ends_id b rest ≡ true → b ≡ 93
is_bracket b rest h = let p = and_parts (b == 93) (not (begins_with_slash rest)) h in grind (arith, nat_tests, p.0)

by_test : (b : ℕ) (rest : List ℕ) (t : Bool) → ends_id b rest ≡ t → Ends rest (id_len rest) → Ends (b ∷ rest) (cond t 1 (1 + id_len rest))
by_test b rest true is h = at_bracket b rest (is_bracket b rest is)
by_test b rest false is h = one_more b rest (id_len rest) h

pub ends : (bs : List ℕ) → Ends bs (id_len bs)
ends [] = inl refl
ends (b ∷ rest) = by_test b rest (ends_id b rest) refl (ends rest)

-- so a text may be cut there
pub may_cut : (bs : List ℕ) → IsUtf8 bs → IsCharBoundary bs (id_len bs)
may_cut bs text = elim (ends bs) [
  | inl all ↦ subst (IsCharBoundary bs) (sym all) (IsCharBoundary-end bs)
  | inr e ↦ subst (IsCharBoundary bs) (back (id_len bs) e.some) (IsCharBoundary-after_ascii bs (id_len bs - 1) text (omega (arith, e.some, e.inside)) (omega (arith, e.bracket)))
]
  where
    back : (n : ℕ) → 0 < n → n - 1 + 1 ≡ n
    back n h = omega (arith, h)

-- one byte more is passed, or ends the id
pub passes : (text left rest : List ℕ) (b len : ℕ) → left ≡ b ∷ rest → ends_id b rest ≡ false → len + id_len left ≡ id_len text → len + 1 + id_len rest ≡ id_len text
passes text left rest b len is goes h =
    let e : id_len left ≡ 1 + id_len rest = ap id_len is ∙ ap (λ t. cond t 1 (1 + id_len rest)) goes in
    omega (arith, e, h)

pub stops : (text left rest : List ℕ) (b len : ℕ) → left ≡ b ∷ rest → ends_id b rest ≡ true → len + id_len left ≡ id_len text → len + 1 ≡ id_len text
stops text left rest b len is ends h =
    let e : id_len left ≡ 1 = ap id_len is ∙ ap (λ t. cond t 1 (1 + id_len rest)) ends in
    omega (arith, e, h)
