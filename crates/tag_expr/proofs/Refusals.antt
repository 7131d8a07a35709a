-- What is refused of a text, and its tokens.
use Rattle.std.proofs.Common.{◌≡◌, ◌≢◌, ℕ, ◌-◌, ◌≤◌, ◌<◌, ◌++◌, ◌∷◌, [], ◌∙◌, List, Bool, true, false, if◌then◌else◌, length, map, sym, ap, arith, append-nil, subst}
use Rattle.std.specs.Prelude.{nat_lt, Option, Some, None, IfSome, Result, Ok, Err, IfErr}
use Rattle.std.specs.Result.{IsErrAnd}
use Rattle.std.specs.Str.{chars}
use Rattle.std.proofs.lemmas.Bool.Decides.{nat_tests}
use Rattle.tag_expr.specs.declared.fault.TagFault.{TagFault}
use Rattle.tag_expr.specs.declared.fault.TagFault.TheVariants.{TooDeep}
use Rattle.tag_expr.specs.Expressions.{Expression}
use Rattle.tag_expr.specs.ExpressionFaults.{operand, first_fault, fault_of_tokens, expression_refusal}
use Rattle.tag_expr.specs.Grammar.{or_phrase, Spells, HasNoTree, IsOnlyTree}
use Rattle.tag_expr.specs.Nodes.{expression_of}
use Rattle.tag_expr.specs.declared.node.Node.{Node}
use Rattle.tag_expr.specs.Parsing.{IsRead}
use Rattle.tag_expr.specs.Tokens.{Token, PlacedToken, token_of, tokens, tokens_from}
use Rattle.tag_expr.specs.TokenTexts.{tokens_left}
use Rattle.tag_expr.proofs.NoTree.{no_tree}
use Rattle.tag_expr.proofs.OneTree.{one_tree}

-- the tokens of a text are those that are left of the whole
pub all_left : (bs : List ℕ) → tokens bs ≡ tokens_left (length bs) bs
all_left bs = let none : 0 ≡ length bs - length bs = omega arith in ap (λ n. tokens_from 0 n (chars bs)) none

short : (bs : List ℕ) → length bs ≤ 1024 → expression_refusal bs ≡ fault_of_tokens (length bs) (tokens bs)
short bs h = let test : nat_lt 1024 (length bs) ≡ false = grind (arith, nat_tests) in ap (λ b. if b then Some TooDeep else fault_of_tokens (length bs) (tokens bs)) test

pub long : (bs : List ℕ) → 1024 < length bs → expression_refusal bs ≡ Some TooDeep
long bs h = let test : nat_lt 1024 (length bs) ≡ true = grind (arith, nat_tests) in ap (λ b. if b then Some TooDeep else fault_of_tokens (length bs) (tokens bs)) test

pub blank : (bs : List ℕ) → length bs ≤ 1024 → tokens_left (length bs) bs ≡ [] → expression_refusal bs ≡ fault_of_tokens (length bs) []
blank bs h none = short bs h ∙ ap (fault_of_tokens (length bs)) (all_left bs ∙ none)

-- a text with a token is judged by its tokens
pub judged : (bs : List ℕ) (t : PlacedToken) (ts : List PlacedToken) → length bs ≤ 1024 → tokens_left (length bs) bs ≡ t ∷ ts
    → expression_refusal bs ≡ first_fault (length bs) operand [] (tokens_left (length bs) bs)
judged bs t ts h some = short bs h ∙ ap (fault_of_tokens (length bs)) (all_left bs ∙ some) ∙ sym (ap (first_fault (length bs) operand []) some)

-- nothing follows what was read of the whole text
pub spelled : (bs : List ℕ) (end : ℕ) (rest : List PlacedToken) (given : Option Expression) → rest ≡ [] → IsRead or_phrase end 0 (tokens_left (length bs) bs) rest given
    → IfSome given (Spells or_phrase (map token_of (tokens bs)))
spelled bs end rest None none read = tt
spelled bs end rest (Some e) none read =
    let all : read.front ≡ map token_of (tokens bs) = sym (append-nil read.front) ∙ ap (λ l. read.front ++ map token_of l) (sym none) ∙ sym read.split ∙ ap (map token_of) (sym (all_left bs)) in
    subst (λ (ts : List Token). Spells or_phrase ts e) all (subst (λ (f : Expression). Spells or_phrase read.front f) (sym read.is) read.tree)

-- a text with another fault than 26 spells nothing
pub refused_has_no_tree : (bs : List ℕ) (fault : TagFault) → expression_refusal bs ≡ Some fault → fault ≢ TooDeep → HasNoTree (map token_of (tokens bs))
refused_has_no_tree bs fault is other =
    let turn : (b : Bool) → (if b then Some TooDeep else fault_of_tokens (length bs) (tokens bs)) ≡ Some fault → HasNoTree (map token_of (tokens bs)) =
    λ b. elim b as (λ b. (if b then Some TooDeep else fault_of_tokens (length bs) (tokens bs)) ≡ Some fault → HasNoTree (map token_of (tokens bs))) [
      | true ↦ λ h. let same : fault ≡ TooDeep = cc in absurd (other same)
      | false ↦ λ h. no_tree (length bs) (tokens bs) fault h other
    ] in
    turn (nat_lt 1024 (length bs)) is

-- a fault that is handed on
pub handed_on : {X : Type 0} (P : TagFault → Type 0) (fault : TagFault) (r : Result X TagFault) → IsErrAnd r (λ e. e ≡ fault) → P fault → IfErr r P
handed_on P fault (Ok x) h p = tt
handed_on P fault (Err e) h p = subst P (sym h) p

-- the only expression of a text that was read
pub only_given : (ts : List Token) (given : Option Node) (root : Node) → given ≡ Some root → IfSome given (λ node. Spells or_phrase ts (expression_of node)) → IsOnlyTree ts (expression_of root)
only_given ts None root is spells = absurd (cc)
only_given ts (Some node) root is spells = let same : node ≡ root = cc in subst (λ (n : Node). IsOnlyTree ts (expression_of n)) same (one_tree ts (expression_of node) spells)
