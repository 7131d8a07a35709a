-- The copy is sound as the id itself is.
use Rattle.std.proofs.Common.{◌≡◌, ◌++◌, ◌∷◌, [], IfOk, length, ap, sym, subst, arith}
use Rattle.std.proofs.lemmas.Grind.{common_steps}
use Rattle.std.proofs.lemmas.List.Elements.{All-same}
use Rattle.std.specs.Arc.{arc_value}
use Rattle.unique_id.specs.Segments.{IsWhole, IsText}
use Rattle.unique_id.specs.Spelling.{spelling}
use Rattle.unique_id.proofs.unique_id.UniqueId.copy.Goals as goal

pub invariant_of-result : goal.invariant_of-result
invariant_of-result c =
    let copy = c.in_ok-path.path in
    let self = c.args.self.now in
    let longer = subst (λ r. IfOk r (λ path. path ≡ c.in-Some.front.now ++ c.in_ok-copy.field-0 ∷ [])) c.in_ok-path.ensures.first c.longer-path.ensures in
    let named = subst (λ r. IfOk r (λ named. arc_value named ≡ arc_value c.self.inside.named)) c.in_ok-path.ensures.second c.try_clone.ensures in
    let same : copy ≡ self = grind (arith, common_steps, longer) in
    let spelled : spelling copy ≡ spelling self = ap spelling same in
    let text : spelling copy ≡ (arc_value c.in_ok-path.named).text = grind (arith, common_steps, named, spelled, c.self.invariant.text) in
    record {
      text = sym text;
      some_segment = omega (arith, ap length same, c.segments.ensures.some);
      few = omega (arith, ap length same, c.segments.ensures.few);
      whole = All-same IsWhole copy self same c.segments.ensures.whole;
      texts = All-same IsText copy self same c.segments.ensures.texts;
      short = omega (arith, ap length spelled, ap (λ p. length (spelling p)) c.self.view_is, c.self.invariant.short);
    }
