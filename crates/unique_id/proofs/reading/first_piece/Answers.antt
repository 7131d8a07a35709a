-- What stands before the first slash, and what follows.
use Rattle.std.proofs.Common.{◌==◌, not, arith}
use Rattle.std.proofs.lemmas.Grind.{common_steps}
use Rattle.std.proofs.lemmas.List.Sums.{prefix_len-le-length}
use Rattle.unique_id.proofs.Pieces.{first_split, first_len}
use Rattle.unique_id.proofs.reading.first_piece.Goals as goal

pub returns-clause-pieces : goal.returns-clause-pieces
returns-clause-pieces c = grind (arith, common_steps, first_split c.args.text.now)

pub returns-clause-len : goal.returns-clause-len
returns-clause-len c = grind (arith, common_steps, first_len c.args.text.now)

pub slice_bounds-after-count : goal.slice_bounds-after-count
slice_bounds-after-count c = omega (arith, prefix_len-le-length (λ b. not (b == 47)) c.args.text.now, c.len_before-length.ensures)

pub slice_bounds-after-start : goal.slice_bounds-after-start
slice_bounds-after-start c = omega (arith, prefix_len-le-length (λ b. not (b == 47)) c.args.text.now, c.len_before-length.ensures)
