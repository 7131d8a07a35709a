-- The longer id is sound: its text was made for its segments, and nothing refused it.
use Rattle.std.proofs.Common.{◌≡◌, ◌+◌, ◌++◌, ◌∷◌, [], length, None, arith, ap, sym, ◌∙◌, length-append}
use Rattle.std.proofs.lemmas.List.Elements.{All-push, All-same}
use Rattle.std.specs.Arc.{arc_value}
use Rattle.unique_id.specs.declared.unique_id.Named.{Named}
use Rattle.unique_id.specs.declared.unique_id.Segment.{Segment}
use Rattle.unique_id.specs.Segments.{IsWhole, IsText}
use Rattle.unique_id.specs.Spelling.{spelling, refusal}
use Rattle.unique_id.proofs.Refused.{accepted}
use Rattle.unique_id.proofs.unique_id.grown.Goals as goal

pub invariant_of-result : goal.invariant_of-result
invariant_of-result c =
    let old = c.args.segments.now in
    let new : Segment = record { kind = c.args.kind.now; value = c.args.value.now } in
    let path = c.in_ok-longer.field-0 in
    let none : refusal old new.kind new.value ≡ None = c.in_ok-len.ensures.accepted in
    let fine = accepted old new.kind new.value none in
    let block : arc_value c.in_ok-named.named ≡ record { parts = new; text = c.of.result } = c.in_ok-named.ensures in
    let last : arc_value c.in_ok-try_clone.field-0 ≡ record { parts = new; text = c.of.result } = c.in_ok-try_clone.ensures ∙ block in
    let items : path ≡ old ++ new ∷ [] = c.in_ok-longer.ensures ∙ ap (λ (n : Named). old ++ n.parts ∷ []) last in
    let count : length path ≡ length old + 1 = ap length items ∙ length-append old (new ∷ []) in
    let spelled : spelling path ≡ spelling (old ++ new ∷ []) = ap spelling items in
    record {
      text = ap (λ (n : Named). n.text) block ∙ c.of.ensures ∙ c.in_ok-text.ensures ∙ sym spelled;
      some_segment = omega arith;
      few = omega (arith, fine.few);
      whole = All-same IsWhole path (old ++ new ∷ []) items (All-push IsWhole old new c.requires.whole (fine.some_kind, fine.some_value));
      texts = All-same IsText path (old ++ new ∷ []) items (All-push IsText old new c.requires.texts (record { kind = c.utf8.kind; value = c.utf8.value }));
      short = omega (arith, fine.short, ap length spelled);
    }
