-- A phrase is read from its parts.
use Rattle.std.proofs.Common.{◌≡◌, ℕ, suc, ◌+◌, ◌<◌, ◌==◌, ◌++◌, ◌∷◌, [], ◌∙◌, List, Bool, true, false, if◌then◌else◌, length, drop, map, refl, sym, ap, arith, append_assoc}
use Rattle.std.specs.Prelude.{◌||◌, Option, Some, None, IfSome, IsSomeAnd, Result, Ok, Err, IfOk, OnOk}
use Rattle.std.specs.List.{list_any}
use Rattle.std.specs.Str.{chars}
use Rattle.std.specs.Char.{len_utf8}
use Rattle.std.proofs.lemmas.Bool.Decides.{nat_tests}
use Rattle.tag_expr.specs.declared.connective.Connective.{Connective}
use Rattle.tag_expr.specs.declared.connective.Connective.TheVariants.{And, Or}
use Rattle.tag_expr.specs.declared.fault.TagFault.TheVariants.{ParenClose, TooDeep}
use Rattle.tag_expr.specs.Connectives.{phrase_of, part_of, sign_of, joins}
use Rattle.tag_expr.specs.Expressions.{Expression, tag, any_tag, no_tag, negation}
use Rattle.tag_expr.specs.ExpressionFaults.{Pending, negating, opened, operand, operator, settled, at_word, first_fault}
use Rattle.tag_expr.specs.Grammar.{Spells, or_phrase, not_phrase, one_and, more_or, one_not, more_and, negated, one_atom, a_tag, any_atom, none_atom, group}
use Rattle.tag_expr.specs.Parsing.{MayPend, IsRead, Begins}
use Rattle.tag_expr.specs.Tags.{is_bad, first_bad}
use Rattle.tag_expr.specs.TokenTexts.{tokens_left}
use Rattle.tag_expr.specs.Tokens.{Token, left_paren, right_paren, bang, any_call, none_call, word, PlacedToken, placed, token_of}

-- a word with no first bad character has none
pub none_bad : (at : ℕ) (cs : List ℕ) → first_bad at cs ≡ None → list_any is_bad cs ≡ false
none_bad at [] h = refl
none_bad at (c ∷ cs) h =
    let turn : (b : Bool) → (if b then Some at else first_bad (at + len_utf8 c) cs) ≡ None → (b || list_any is_bad cs) ≡ false =
    λ b. elim b as (λ b. (if b then Some at else first_bad (at + len_utf8 c) cs) ≡ None → (b || list_any is_bad cs) ≡ false) [
      | true ↦ λ k. cc
      | false ↦ λ k. none_bad (at + len_utf8 c) cs k
    ] in
    turn (is_bad c) h

-- what is given of a phrase is its expression, where it was made of what was given of its parts
given_one : (make : Expression → Expression) (x : Expression) (g h : Option Expression) → IfSome g (λ e. e ≡ x) → IfSome h (λ f. IsSomeAnd g (λ e. f ≡ make e)) → IfSome h (λ f. f ≡ make x)
given_one make x g None is made = tt
given_one make x None (Some f) is made = absurd made
given_one make x (Some e) (Some f) is made = made ∙ ap make is

given_two : (make : Expression → Expression → Expression) (x y : Expression) (a b h : Option Expression)
    → IfSome a (λ d. d ≡ x) → IfSome b (λ e. e ≡ y) → IfSome h (λ f. IsSomeAnd a (λ d. IsSomeAnd b (λ e. f ≡ make d e))) → IfSome h (λ f. f ≡ make x y)
given_two make x y a b None left right made = tt
given_two make x y None b (Some f) left right made = absurd made
given_two make x y (Some d) None (Some f) left right made = absurd made
given_two make x y (Some d) (Some e) (Some f) left right made = made ∙ ap (λ v. make v e) left ∙ ap (make x) right

pub read_tag : (end count place : ℕ) (ts rest : List PlacedToken) (text : List ℕ) (g : Option Expression)
    → ts ≡ placed place (word text) ∷ rest → first_bad place (chars text) ≡ None → IfSome g (λ e. e ≡ tag text) → IsRead not_phrase end count ts rest g
read_tag end count place ts rest text g is good same = record {
  front = word text ∷ [];
  split = ap (map token_of) is;
  expression = tag text;
  tree = one_atom (a_tag (none_bad place (chars text) good));
  is = same;
  faultless = λ pending len may. ap (first_fault end operand pending) is ∙ ap (λ o. at_word o (first_fault end operator (settled pending) rest)) good;
}

-- what a function gives of a word, as the grammar reads it
pub read_word : {R E : Type 0} (node : R → Option Expression) (after : R → List ℕ) (r : Result R E) (end count place : ℕ) (ts : List PlacedToken) (text rest : List ℕ)
    → ts ≡ placed place (word text) ∷ tokens_left end rest → OnOk r (first_bad place (chars text) ≡ None) → IfOk r (λ x. IfSome (node x) (λ e. e ≡ tag text)) → IfOk r (λ x. after x ≡ rest)
    → IfOk r (λ x. IsRead not_phrase end count ts (tokens_left end (after x)) (node x))
read_word node after (Ok x) end count place ts text rest is good same left =
    read_tag end count place ts (tokens_left end (after x)) text (node x) (is ∙ ap (λ (l : List ℕ). placed place (word text) ∷ tokens_left end l) (sym left)) good same
read_word node after (Err e) end count place ts text rest is good same left = tt

pub read_any : (end count place : ℕ) (ts rest : List PlacedToken) → ts ≡ placed place any_call ∷ rest → IsRead not_phrase end count ts rest (Some any_tag)
read_any end count place ts rest is = record {
  front = any_call ∷ [];
  split = ap (map token_of) is;
  expression = any_tag;
  tree = one_atom any_atom;
  is = refl;
  faultless = λ pending len may. ap (first_fault end operand pending) is;
}

pub read_none : (end count place : ℕ) (ts rest : List PlacedToken) → ts ≡ placed place none_call ∷ rest → IsRead not_phrase end count ts rest (Some no_tag)
read_none end count place ts rest is = record {
  front = none_call ∷ [];
  split = ap (map token_of) is;
  expression = no_tag;
  tree = one_atom none_atom;
  is = refl;
  faultless = λ pending len may. ap (first_fault end operand pending) is;
}

shallow : (count n : ℕ) → n ≡ count → count < 64 → (n == 64) ≡ false
shallow count n same few = grind (arith, nat_tests)

pub read_negation : (end count place : ℕ) (ts inner rest : List PlacedToken) (g h : Option Expression)
    → ts ≡ placed place bang ∷ inner → count < 64 → IsRead not_phrase end (count + 1) inner rest g → IfSome h (λ f. IsSomeAnd g (λ e. f ≡ negation e)) → IsRead not_phrase end count ts rest h
read_negation end count place ts inner rest g h is few read same = record {
  front = bang ∷ read.front;
  split = ap (map token_of) is ∙ ap (λ l. bang ∷ l) read.split;
  expression = negation read.expression;
  tree = negated read.tree;
  is = given_one negation read.expression g h read.is same;
  faultless = λ pending len may.
      ap (first_fault end operand pending) is
      ∙ ap (λ b. if b then Some TooDeep else first_fault end operand (negating ∷ pending) inner) (shallow count (length pending) len few)
      ∙ read.faultless (negating ∷ pending) (omega (arith, len)) tt;
}

pub some_open : (n : ℕ) → (suc n == 0) ≡ false
some_open n = grind (arith, nat_tests)

pub read_group : (end count place : ℕ) (ts inner mid rest : List PlacedToken) (g : Option Expression)
    → ts ≡ placed place left_paren ∷ inner → count < 64 → IsRead or_phrase end (count + 1) inner mid g → Begins right_paren mid rest → IsRead not_phrase end count ts rest g
read_group end count place ts inner mid rest g is few read closed = record {
  front = left_paren ∷ (read.front ++ right_paren ∷ []);
  split = ap (map token_of) is ∙ ap (λ l. left_paren ∷ l) (read.split ∙ ap (λ l. read.front ++ map token_of l) closed.1 ∙ sym (append_assoc read.front (right_paren ∷ []) (map token_of rest)));
  expression = read.expression;
  tree = one_atom (group read.tree);
  is = read.is;
  faultless = λ pending len may.
      ap (first_fault end operand pending) is
      ∙ ap (λ b. if b then Some TooDeep else first_fault end operand (opened place ∷ pending) inner) (shallow count (length pending) len few)
      ∙ read.faultless (opened place ∷ pending) (omega (arith, len)) refl
      ∙ ap (first_fault end operator (opened place ∷ pending)) closed.1
      ∙ ap (λ b. if b then Some (ParenClose closed.0) else first_fault end operator (settled (drop 1 (opened place ∷ pending))) rest) (some_open (length pending));
}

joined : (front behind ts mid next rest : List Token) (sign : Token) → ts ≡ front ++ mid → mid ≡ sign ∷ next → next ≡ behind ++ rest → ts ≡ (front ++ sign ∷ behind) ++ rest
joined front behind ts mid next rest sign a b c = a ∙ ap (λ l. front ++ l) (b ∙ ap (λ l. sign ∷ l) c) ∙ sym (append_assoc front (sign ∷ behind) rest)

-- what a connective makes of its operands
one_part : (c : Connective) {ts : List Token} {e : Expression} → Spells (part_of c) ts e → Spells (phrase_of c) ts e
one_part And tree = one_not tree
one_part Or tree = one_and tree

more_parts : (c : Connective) {ts us : List Token} {d e : Expression} → Spells (phrase_of c) ts d → Spells (part_of c) us e → Spells (phrase_of c) (ts ++ sign_of c ∷ us) (joins c d e)
more_parts And left right = more_and left right
more_parts Or left right = more_or left right

-- what may be pending before them
may_settle : (c : Connective) (pending : List Pending) → MayPend (phrase_of c) pending → settled pending ≡ pending
may_settle And pending may = may
may_settle Or pending may = may

may_part : (c : Connective) (pending : List Pending) → MayPend (phrase_of c) pending → MayPend (part_of c) pending
may_part And pending may = tt
may_part Or pending may = may

-- behind the sign an operand must come
on_sign : (c : Connective) (end place : ℕ) (pending : List Pending) (next : List PlacedToken) → first_fault end operator pending (placed place (sign_of c) ∷ next) ≡ first_fault end operand pending next
on_sign And end place pending next = refl
on_sign Or end place pending next = refl

module _ (c : Connective) (end count : ℕ) where
  pub read_one : (ts rest : List PlacedToken) (g : Option Expression) → IsRead (part_of c) end count ts rest g → IsRead (phrase_of c) end count ts rest g
  read_one ts rest g read = record {
    front = read.front;
    split = read.split;
    expression = read.expression;
    tree = one_part c read.tree;
    is = read.is;
    faultless = λ pending len may. read.faultless pending len (may_part c pending may);
  }

  -- no fault comes as far as the operand behind the sign
  so_far : (ts mid next : List PlacedToken) (a : Option Expression) → IsRead (phrase_of c) end count ts mid a → Begins (sign_of c) mid next
      → (pending : List Pending) → length pending ≡ count → MayPend (phrase_of c) pending → first_fault end operand pending ts ≡ first_fault end operand pending next
  so_far ts mid next a left sign pending len may =
      left.faultless pending len may
      ∙ ap (first_fault end operator (settled pending)) sign.1
      ∙ on_sign c end sign.0 (settled pending) next
      ∙ ap (λ p. first_fault end operand p next) (may_settle c pending may)

  pub read_more : (ts mid next rest : List PlacedToken) (a b h : Option Expression)
      → IsRead (phrase_of c) end count ts mid a → Begins (sign_of c) mid next → IsRead (part_of c) end count next rest b
      → IfSome h (λ f. IsSomeAnd a (λ d. IsSomeAnd b (λ e. f ≡ joins c d e))) → IsRead (phrase_of c) end count ts rest h
  read_more ts mid next rest a b h left sign right same = record {
    front = left.front ++ sign_of c ∷ right.front;
    split = joined left.front right.front (map token_of ts) (map token_of mid) (map token_of next) (map token_of rest) (sign_of c) left.split (ap (map token_of) sign.1) right.split;
    expression = joins c left.expression right.expression;
    tree = more_parts c left.tree right.tree;
    is = given_two (joins c) left.expression right.expression a b h left.is right.is same;
    faultless = λ pending len may. so_far ts mid next a left sign pending len may ∙ right.faultless pending len (may_part c pending may);
  }
