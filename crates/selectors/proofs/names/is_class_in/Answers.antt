-- What follows the name of the package begins with a dot.
use Rattle.std.proofs.Common.{◌≡◌, ◌≢◌, ◌∙◌, ◌++◌, List, ℕ, Some, None, codes, arith, ap, sym, eqb}
use Rattle.std.proofs.lemmas.Bool.Decides.{Decides-eqb}
use Rattle.std.proofs.lemmas.Grind.{common_steps}
use Rattle.std.proofs.lemmas.Slice.Eq.{strip_prefix_is}
use Rattle.std.specs.List.{starts_with}
use Rattle.selectors.proofs.Packages.{class_in, class_not_in}
use Rattle.selectors.proofs.names.is_class_in.Goals as goal

pub returns-in-Some : goal.returns-in-Some
returns-in-Some c =
    let kind : c.args.segment.now.kind ≡ codes "class" = grind (arith, common_steps) in
    let cut : c.as_bytes-value.result.now ≡ c.as_bytes.result.now ++ c.in-Some.rest.now = strip_prefix_is Decides-eqb c.as_bytes-value.result.now c.as_bytes.result.now (Some c.in-Some.rest) c.in-Some.ensures.cases in
    let value : c.args.segment.now.value ≡ c.args.name.now ++ c.in-Some.rest.now = grind (arith, common_steps) in
    c.starts_with.ensures.value ∙ ap (starts_with eqb c.in-Some.rest.now) c.as_slice.ensures ∙ class_in c.args.segment.now c.args.name.now c.in-Some.rest.now kind value

pub returns-in-None : goal.returns-in-None
returns-in-None c =
    let kind : c.args.segment.now.kind ≡ codes "class" = grind (arith, common_steps) in
    let none : (rest : List ℕ) → c.as_bytes-value.result.now ≢ c.as_bytes.result.now ++ rest = strip_prefix_is Decides-eqb c.as_bytes-value.result.now c.as_bytes.result.now None c.in-None.ensures.cases in
    let value : c.args.segment.now.value ≡ c.as_bytes-value.result.now = grind (arith, common_steps) in
    let name : c.as_bytes.result.now ≡ c.args.name.now = grind (arith, common_steps) in
    class_not_in c.args.segment.now c.args.name.now kind (λ rest same. none rest (sym value ∙ same ∙ ap (λ x. x ++ rest) (sym name)))
