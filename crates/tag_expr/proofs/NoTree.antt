-- Tokens that spell an expression have no fault, but that too much is pending.
use Rattle.std.proofs.Common.{◌≡◌, ◌≢◌, ℕ, ◌+◌, ◌==◌, ◌++◌, ◌∷◌, [], ◌∙◌, List, Bool, true, false, if◌then◌else◌, length, drop, get_or, map, refl, true≢false, sym, ap, append_assoc, append-nil, inl, inr}
use Rattle.std.specs.Prelude.{◌⊎◌, ◌||◌, Some, None}
use Rattle.std.specs.List.{list_any}
use Rattle.std.specs.Str.{chars}
use Rattle.std.specs.Char.{len_utf8}
use Rattle.tag_expr.specs.declared.fault.TagFault.{TagFault}
use Rattle.tag_expr.specs.declared.fault.TagFault.TheVariants.{ParenClose, TooDeep}
use Rattle.tag_expr.specs.Expressions.{Expression}
use Rattle.tag_expr.specs.ExpressionFaults.{Pending, negating, opened, operand, operator, settled, at_word, first_fault, fault_of_tokens}
use Rattle.tag_expr.specs.Grammar.{Phrase, Spells, one_and, more_or, one_not, more_and, negated, one_atom, a_tag, any_atom, none_atom, group, HasNoTree}
use Rattle.tag_expr.specs.Parsing.{MayPend}
use Rattle.tag_expr.specs.Tags.{is_bad, first_bad}
use Rattle.tag_expr.specs.Tokens.{Token, left_paren, right_paren, bang, ampersand, bar, any_call, none_call, word, PlacedToken, placed, token_of}
use Rattle.tag_expr.proofs.Phrases.{some_open}

none_first : (at : ℕ) (cs : List ℕ) → list_any is_bad cs ≡ false → first_bad at cs ≡ None
none_first at [] h = refl
none_first at (c ∷ cs) h =
    let turn : (b : Bool) → (b || list_any is_bad cs) ≡ false → (if b then Some at else first_bad (at + len_utf8 c) cs) ≡ None =
    λ b. elim b as (λ b. (b || list_any is_bad cs) ≡ false → (if b then Some at else first_bad (at + len_utf8 c) cs) ≡ None) [
      | true ↦ λ k. absurd (true≢false k)
      | false ↦ λ k. none_first (at + len_utf8 c) cs k
    ] in
    turn (is_bad c) h

-- the first of tokens whose kinds are known
record Begun (ts : List PlacedToken) (token : Token) (tail : List Token) : Type 0 where
  place : ℕ
  rest : List PlacedToken
  is : ts ≡ placed place token ∷ rest
  kinds : map token_of rest ≡ tail

begun : (ts : List PlacedToken) (token : Token) (tail : List Token) → map token_of ts ≡ token ∷ tail → Begun ts token tail
begun [] token tail h = absurd (cc)
begun (placed place t ∷ ts) token tail h =
    let same : t ≡ token = ap (λ l. get_or l 0 t) h in
    record { place = place; rest = ts; is = ap (λ k. placed place k ∷ ts) same; kinds = ap (drop 1) h }

-- behind a phrase: too much is pending somewhere, or no fault came so far
record Passed (end : ℕ) (pending : List Pending) (ts : List PlacedToken) (tail : List Token) : Type 0 where
  rest : List PlacedToken
  kinds : map token_of rest ≡ tail
  fault : (first_fault end operand pending ts ≡ Some TooDeep) ⊎ (first_fault end operand pending ts ≡ first_fault end operator (settled pending) rest)

abbrev Passes : Phrase → List Token → Type 0
Passes phrase front = (end : ℕ) (pending : List Pending) (ts : List PlacedToken) (tail : List Token) → MayPend phrase pending → map token_of ts ≡ front ++ tail → Passed end pending ts tail

-- a sign and another phrase
and_then : (end : ℕ) (pending : List Pending) (ts next : List PlacedToken) (tail : List Token)
    → settled pending ≡ pending
    → (first_fault end operand pending ts ≡ Some TooDeep) ⊎ (first_fault end operand pending ts ≡ first_fault end operand (settled pending) next)
    → Passed end pending next tail → Passed end pending ts tail
and_then end pending ts next tail may before after = record {
  rest = after.rest;
  kinds = after.kinds;
  fault = elim before [
    | inl deep ↦ inl deep
    | inr on ↦
        let so : first_fault end operand pending ts ≡ first_fault end operand pending next = on ∙ ap (λ p. first_fault end operand p next) may in
        elim (after.fault) [
          | inl deep ↦ inl (so ∙ deep)
          | inr good ↦ inr (so ∙ good)
        ]
  ];
}

carried : (end : ℕ) (pending : List Pending) (ts mid next : List PlacedToken) → first_fault end operator (settled pending) mid ≡ first_fault end operand (settled pending) next
    → (first_fault end operand pending ts ≡ Some TooDeep) ⊎ (first_fault end operand pending ts ≡ first_fault end operator (settled pending) mid)
    → (first_fault end operand pending ts ≡ Some TooDeep) ⊎ (first_fault end operand pending ts ≡ first_fault end operand (settled pending) next)
carried end pending ts mid next on (inl deep) = inl deep
carried end pending ts mid next on (inr good) = inr (good ∙ on)

-- one more pending
limited_on : (end : ℕ) (pending more : List Pending) (ts next mid rest : List PlacedToken) (b : Bool)
    → first_fault end operand pending ts ≡ (if b then Some TooDeep else first_fault end operand more next)
    → (first_fault end operand more next ≡ Some TooDeep) ⊎ (first_fault end operand more next ≡ first_fault end operator (settled more) mid)
    → first_fault end operator (settled more) mid ≡ first_fault end operator (settled pending) rest
    → (first_fault end operand pending ts ≡ Some TooDeep) ⊎ (first_fault end operand pending ts ≡ first_fault end operator (settled pending) rest)
limited_on end pending more ts next mid rest true is after through = inl is
limited_on end pending more ts next mid rest false is (inl deep) through = inl (is ∙ deep)
limited_on end pending more ts next mid rest false is (inr good) through = inr (is ∙ good ∙ through)

passes : {p : Phrase} {front : List Token} {e : Expression} → Spells p front e → Passes p front
passes (one_and s) = λ end pending ts tail may is. passes s end pending ts tail may is
passes (more_or {ts = ks} {us} s r) = λ end pending ts tail may is.
    let before = passes s end pending ts (bar ∷ (us ++ tail)) may (is ∙ append_assoc ks (bar ∷ us) tail) in
    let sign = begun before.rest bar (us ++ tail) before.kinds in
    let after = passes r end pending sign.rest tail may sign.kinds in
    and_then end pending ts sign.rest tail may (carried end pending ts before.rest sign.rest (ap (first_fault end operator (settled pending)) sign.is) before.fault) after
passes (one_not s) = λ end pending ts tail may is. passes s end pending ts tail tt is
passes (more_and {ts = ks} {us} s r) = λ end pending ts tail may is.
    let before = passes s end pending ts (ampersand ∷ (us ++ tail)) may (is ∙ append_assoc ks (ampersand ∷ us) tail) in
    let sign = begun before.rest ampersand (us ++ tail) before.kinds in
    let after = passes r end pending sign.rest tail tt sign.kinds in
    and_then end pending ts sign.rest tail may (carried end pending ts before.rest sign.rest (ap (first_fault end operator (settled pending)) sign.is) before.fault) after
passes (negated {ts = ks} s) = λ end pending ts tail may is.
    let sign = begun ts bang (ks ++ tail) is in
    let after = passes s end (negating ∷ pending) sign.rest tail tt sign.kinds in
    record { rest = after.rest; kinds = after.kinds; fault = limited_on end pending (negating ∷ pending) ts sign.rest after.rest after.rest (length pending == 64) (ap (first_fault end operand pending) sign.is) after.fault refl }
passes (one_atom s) = λ end pending ts tail may is. passes s end pending ts tail tt is
passes (a_tag {text} good) = λ end pending ts tail may is.
    let sign = begun ts (word text) tail is in
    record { rest = sign.rest; kinds = sign.kinds; fault = inr (ap (first_fault end operand pending) sign.is ∙ ap (λ o. at_word o (first_fault end operator (settled pending) sign.rest)) (none_first sign.place (chars text) good)) }
passes any_atom = λ end pending ts tail may is.
    let sign = begun ts any_call tail is in record { rest = sign.rest; kinds = sign.kinds; fault = inr (ap (first_fault end operand pending) sign.is) }
passes none_atom = λ end pending ts tail may is.
    let sign = begun ts none_call tail is in record { rest = sign.rest; kinds = sign.kinds; fault = inr (ap (first_fault end operand pending) sign.is) }
passes (group {ts = ks} s) = λ end pending ts tail may is.
    let sign = begun ts left_paren (ks ++ right_paren ∷ tail) (is ∙ ap (λ l. left_paren ∷ l) (append_assoc ks (right_paren ∷ []) tail)) in
    let after = passes s end (opened sign.place ∷ pending) sign.rest (right_paren ∷ tail) refl sign.kinds in
    let close = begun after.rest right_paren tail after.kinds in
    let through : first_fault end operator (opened sign.place ∷ pending) after.rest ≡ first_fault end operator (settled pending) close.rest =
    ap (first_fault end operator (opened sign.place ∷ pending)) close.is ∙ ap (λ b. if b then Some (ParenClose close.place) else first_fault end operator (settled pending) close.rest) (some_open (length pending)) in
    record { rest = close.rest; kinds = close.kinds; fault = limited_on end pending (opened sign.place ∷ pending) ts sign.rest after.rest close.rest (length pending == 64) (ap (first_fault end operand pending) sign.is) after.fault through }

no_kinds : (ts : List PlacedToken) → map token_of ts ≡ [] → ts ≡ []
no_kinds [] h = refl
no_kinds (t ∷ ts) h = absurd (cc)

-- tokens with a fault other than that too much is pending spell nothing
pub no_tree : (end : ℕ) (ts : List PlacedToken) (fault : TagFault) → fault_of_tokens end ts ≡ Some fault → fault ≢ TooDeep → HasNoTree (map token_of ts)
no_tree end [] fault is other = λ e s.
    let passed = passes s end [] [] [] refl refl in
    elim (passed.fault) [
      | inl deep ↦ absurd (cc)
      | inr good ↦ let over : first_fault end operator [] passed.rest ≡ None = ap (first_fault end operator []) (no_kinds passed.rest passed.kinds) in absurd (cc)
    ]
no_tree end (t ∷ ts) fault is other = λ e s.
    let passed = passes s end [] (t ∷ ts) [] refl (sym (append-nil (map token_of (t ∷ ts)))) in
    elim (passed.fault) [
      | inl deep ↦ let same : Some fault ≡ Some TooDeep = sym is ∙ deep in other (cc)
      | inr good ↦ let none : Some fault ≡ None = sym is ∙ good ∙ ap (first_fault end operator []) (no_kinds passed.rest passed.kinds) in absurd (cc)
    ]
