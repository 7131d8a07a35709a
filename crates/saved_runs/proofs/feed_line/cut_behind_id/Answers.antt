-- An id ends with a bracket, or the text ends.
use Rattle.std.proofs.Common.{List, ℕ, sym, subst, IsUtf8}
use Rattle.std.specs.Str.{IsCharBoundary}
use Rattle.saved_runs.specs.FeedLines.{id_len}
use Rattle.saved_runs.proofs.Cutting.{may_cut}
use Rattle.saved_runs.proofs.feed_line.cut_behind_id.Goals as goal

pub split_at-requires : goal.split_at-requires
split_at-requires c =
    let text = c.args.text.now in
    let same = c.as_bytes.ensures.value in
    subst (IsCharBoundary text) (sym c.id_len.ensures)
    (subst (λ (bytes : List ℕ). IsCharBoundary text (id_len bytes)) (sym same) (may_cut text (subst IsUtf8 same c.as_bytes.ensures.utf8)))
