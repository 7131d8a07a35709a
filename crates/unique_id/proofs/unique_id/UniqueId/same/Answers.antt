-- Equal texts are the spelling of equal segments.
use Rattle.std.proofs.Common.{◌≡◌, ap, sym, ◌∙◌}
use Rattle.std.proofs.lemmas.Slice.Eq.{bytes_eq-Decides}
use Rattle.unique_id.specs.Spelling.{spelling}
use Rattle.unique_id.proofs.ReadBack.{spelling_injective}
use Rattle.unique_id.proofs.unique_id.UniqueId.same.Goals as goal

pub returns : goal.returns
returns c =
    let decided = bytes_eq-Decides c.text.result.now c.text-2.result.now in
    let left : c.text.result.now ≡ spelling c.args.self.now = c.text.ensures.spelled in
    let right : c.text-2.result.now ≡ spelling c.args.other.now = c.text-2.ensures.spelled in (
      λ yes. spelling_injective c.args.self.now c.args.other.now (sym left ∙ decided.0 (sym c.eq.ensures ∙ yes) ∙ right),
      λ same. c.eq.ensures ∙ decided.1 (left ∙ ap spelling same ∙ sym right),
    )
