-- The two parentheses of a call, in bytes and in characters.
use Rattle.std.proofs.Common.{◌≡◌, ◌≢◌, ℕ, ◌<◌, ◌==◌, ◌++◌, ◌∷◌, [], ◌∙◌, List, Bool, true, false, drop, refl, ap, sym, Bor, lit<, inl, inr, encode_utf8}
use Rattle.std.specs.Prelude.{encode_utf8_all, ◌&&◌, Option, Some, None, is_some, MatchOption, IfSome}
use Rattle.std.specs.Str.{chars, IsUtf8}
use Rattle.std.proofs.lemmas.Bool.Decides.{eqb_tells}
use Rattle.std.proofs.lemmas.Str.{encodes-chars, chars_past_char, IsUtf8-past_char, encode_ascii}
use Rattle.tag_expr.specs.Tokens.{is_called}

-- a text that begins with an ASCII character
ascii_past : (bs rest : List ℕ) (c : ℕ) → c < 128 → IsUtf8 bs → bs ≡ c ∷ rest → (chars bs ≡ c ∷ chars rest) × IsUtf8 rest
ascii_past bs rest c small text is =
    let begins = is ∙ ap (λ l. l ++ rest) (sym (encode_ascii c small)) in
    (chars_past_char bs rest c text begins, IsUtf8-past_char bs rest c text begins)

and_false : (b : Bool) → (b && false) ≡ false
and_false true = refl
and_false false = refl

-- characters that do not spell () at the front
tests_fail : (a b : ℕ) → (a ≡ 40 → b ≢ 41) → (a == 40 && b == 41) ≡ false
tests_fail a b h = elim (eqb_tells a 40) [
  | inl (p, q) ↦ elim (eqb_tells b 41) [
    | inl (p2, q2) ↦ absurd (h q q2)
    | inr (p2, q2) ↦ ap (λ t. (a == 40) && t) p2 ∙ and_false (a == 40)
  ]
  | inr (p, q) ↦ ap (λ t. t && (b == 41)) p
]

not_called : (cs : List ℕ) → ((rest : List ℕ) → encode_utf8_all cs ≢ 40 ∷ 41 ∷ rest) → is_called cs ≡ false
unfolding lib.Utf8.encode
not_called [] h = refl
not_called (a ∷ []) h = refl
not_called (a ∷ b ∷ cs) h = tests_fail a b (λ p q. h (encode_utf8_all cs) (ap (λ n. encode_utf8 n ++ (encode_utf8 b ++ encode_utf8_all cs)) p ∙ ap (λ n. encode_utf8 40 ++ (encode_utf8 n ++ encode_utf8_all cs)) q))

-- no ( at the front
pub called_no_first : (bs : List ℕ) → IsUtf8 bs → ((rest : List ℕ) → bs ≢ 40 ∷ rest) → is_called (chars bs) ≡ false
called_no_first bs text other = not_called (chars bs) (λ rest h. other (41 ∷ rest) (sym (encodes-chars bs text) ∙ h))

-- after the ( either a ) and the rest, or something else
pub called_second : (bs mid : List ℕ) (r : Option (Bor (List ℕ))) → IsUtf8 bs → bs ≡ 40 ∷ mid
    → MatchOption r ((rest : List ℕ) → mid ≢ 41 ∷ rest) (λ x. mid ≡ 41 ∷ x.now)
    → (is_some r ≡ is_called (chars bs)) × IfSome r (λ after. after.now ≡ encode_utf8_all (drop 2 (chars bs)))
called_second bs mid None text is other =
    let none : is_called (chars bs) ≡ false = not_called (chars bs) (λ rest h. other rest (ap (drop 1) (sym is ∙ (sym (encodes-chars bs text) ∙ h)))) in
    (sym none, tt)
called_second bs mid (Some after) text is then =
    let first = ascii_past bs mid 40 (lit< tt) text is in
    let second = ascii_past mid after.now 41 (lit< tt) first.1 then in
    let all : chars bs ≡ 40 ∷ 41 ∷ chars after.now = first.0 ∙ ap (λ l. 40 ∷ l) second.0 in
    (sym (ap is_called all), sym (encodes-chars after.now second.1) ∙ sym (ap (λ cs. encode_utf8_all (drop 2 cs)) all))
