-- Reading the texts of selectors and of tag expressions one after the other.
use Rattle.std.proofs.Common.{◌≡◌, ℕ, ◌+◌, ◌<◌, List, [], ◌∷◌, ◌++◌, length, take, drop, get_or, Bool, Bor, Option, Some, None, true, refl, sym, ap, ◌∙◌, subst, arith}
use Rattle.std.proofs.lemmas.List.{drop_more, take_more, map-append}
use Rattle.std.proofs.lemmas.List.Elements.{filter_map-append}
use Rattle.std.specs.List.{filter_map}
use Rattle.std.specs.Option.{is_some}
use Rattle.selectors.specs.declared.selector.Selector.{Selector}
use Rattle.selectors.specs.declared.selector.SelectorKind.{SelectorKind}
use Rattle.tag_expr.specs.Expressions.{Expression}
use Rattle.launch_options.specs.Given.{Text, behind, texts_of}
use Rattle.launch_options.specs.Asked.{bad_selector, selectors_refusal, spelled, unless_spelled, IsExpression, AreExpressions}
use Rattle.launch_options.specs.declared.fault.LaunchFault.{LaunchFault}

-- one more text and its expression
pub expressions_more : (texts : List Text) (expressions : List Expression) (text : Text) (e : Expression) → AreExpressions texts expressions → IsExpression text e → AreExpressions (texts ++ text ∷ []) (expressions ++ e ∷ [])
expressions_more [] [] text e are is = (is, tt)
expressions_more [] (x ∷ xs) text e are is = absurd are
expressions_more (t ∷ ts) [] text e are is = absurd are
expressions_more (t ∷ ts) (x ∷ xs) text e are is = (are.0, expressions_more ts xs text e are.1 is)

pub behind_take : (texts : List (Bor Text)) (i : ℕ) (d : Bor Text) → i < length texts → behind (take (i + 1) texts) ≡ behind (take i texts) ++ (get_or texts i d).now ∷ []
behind_take texts i d inside = ap behind (take_more texts i d inside) ∙ map-append (λ t. t.now) (take i texts) (get_or texts i d ∷ [])

module _ (texts : List (Bor Text)) (i : ℕ) (d : Bor Text) (inside : i < length texts) where
  -- the expressions of one text more
  pub expressions_next : (expressions : List Expression) (e : Expression) → AreExpressions (behind (take i texts)) expressions → IsExpression (get_or texts i d).now e → AreExpressions (behind (take (i + 1) texts)) (expressions ++ e ∷ [])
  expressions_next expressions e are is =
      subst (λ (ts : List Text). AreExpressions ts (expressions ++ e ∷ [])) (sym (behind_take texts i d inside)) (expressions_more (behind (take i texts)) expressions (get_or texts i d).now e are is)

module _ (texts : List (SelectorKind × Bor Text)) (i : ℕ) (d : SelectorKind × Bor Text) (inside : i < length texts) where
  -- its selector comes last
  pub spelled_next : (selectors : List Selector) (selector : Selector) → selectors ≡ filter_map spelled (texts_of (take i texts)) → spelled ((get_or texts i d).0, (get_or texts i d).1.now) ≡ Some selector
      → selectors ++ selector ∷ [] ≡ filter_map spelled (texts_of (take (i + 1) texts))
  spelled_next selectors selector are is =
      let last : filter_map spelled (((get_or texts i d).0, (get_or texts i d).1.now) ∷ []) ≡ selector ∷ [] = rw is refl in
      ap (λ xs. xs ++ selector ∷ []) are
      ∙ ap (λ ys. filter_map spelled (texts_of (take i texts)) ++ ys) (sym last)
      ∙ sym (filter_map-append spelled (texts_of (take i texts)) (((get_or texts i d).0, (get_or texts i d).1.now) ∷ []))
      ∙ ap (filter_map spelled) (sym (map-append {B = SelectorKind × Text} (λ t. (t.0, t.1.now)) (take i texts) (get_or texts i d ∷ [])))
      ∙ ap (λ ts. filter_map spelled (texts_of ts)) (sym (take_more texts i d inside))

unless_some : (fault : LaunchFault) (o : Option Selector) (others : Option LaunchFault) → true ≡ is_some o → unless_spelled fault o others ≡ others
unless_some fault None others is = absurd (cc)
unless_some fault (Some selector) others is = refl

module _ (texts : List (SelectorKind × Bor Text)) (i : ℕ) (d : SelectorKind × Bor Text) (inside : i < length texts) where
  -- a text that spells a selector leaves the refusal to the others
  pub refused_next : (whole : Option LaunchFault) (before : ℕ) → selectors_refusal (before + i + 1) (texts_of (drop i texts)) ≡ whole
      → true ≡ is_some (spelled ((get_or texts i d).0, (get_or texts i d).1.now))
      → selectors_refusal (before + (i + 1) + 1) (texts_of (drop (i + 1) texts)) ≡ whole
  refused_next whole before left is =
      let one : before + (i + 1) + 1 ≡ before + i + 1 + 1 = omega arith in
      ap (λ n. selectors_refusal n (texts_of (drop (i + 1) texts))) one
      ∙ sym (unless_some (bad_selector (get_or texts i d).0 (before + i + 1)) (spelled ((get_or texts i d).0, (get_or texts i d).1.now)) (selectors_refusal (before + i + 1 + 1) (texts_of (drop (i + 1) texts))) is)
      ∙ ap (λ ts. selectors_refusal (before + i + 1) (texts_of ts)) (sym (drop_more texts i d inside)) ∙ left

pub spelled_by : (told is : Bool) → told ≡ is → told ≡ true → true ≡ is
spelled_by told is same h = sym h ∙ same
