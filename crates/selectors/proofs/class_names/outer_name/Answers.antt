-- The outer name, part by part from the end.
use Rattle.std.proofs.Common.{◌≡◌, ◌≢◌, List, ℕ, ◌∷◌, [], ◌++◌, Option, Bor, subst, sym, Some, None}
use Rattle.std.proofs.lemmas.Bool.Decides.{Decides-eqb}
use Rattle.std.proofs.lemmas.Slice.Eq.{strip_suffix_is}
use Rattle.std.specs.Option.{MatchOption}
use Rattle.selectors.proofs.Outers.{no_outer, outer_of}
use Rattle.selectors.proofs.class_names.outer_name.Goals as goal

pub returns-in_err-before : goal.returns-in_err-before
returns-in_err-before c =
    let none : (front : List ℕ) → c.args.name.now ≢ front ++ c.args.value.now = strip_suffix_is Decides-eqb c.args.name.now c.args.value.now None c.in_err-before.ensures.cases in
    subst (λ (r : Option (Bor (List ℕ))). MatchOption r ((outer : List ℕ) → c.args.name.now ≢ outer ++ 36 ∷ c.args.value.now) (λ outer. c.args.name.now ≡ outer.now ++ 36 ∷ c.args.value.now)) (sym c.from_residual.ensures) (no_outer c.args.name.now c.args.value.now none)

pub returns : goal.returns
returns c =
    let before : c.args.name.now ≡ c.in_ok-before.before.now ++ c.args.value.now = strip_suffix_is Decides-eqb c.args.name.now c.args.value.now (Some c.in_ok-before.before) c.in_ok-before.ensures.cases in
    let dollar : c.as_slice.result.now ≡ 36 ∷ [] = c.as_slice.ensures in
    outer_of c.args.name.now c.in_ok-before.before.now c.args.value.now c.strip_suffix-2.result before (strip_suffix_is Decides-eqb c.in_ok-before.before.now (36 ∷ []) c.strip_suffix-2.result (rw dollar at c.strip_suffix-2.ensures.cases))
