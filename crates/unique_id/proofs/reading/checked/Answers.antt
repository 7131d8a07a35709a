-- The first escape stands inside the part.
use Rattle.std.proofs.Common.{◌==◌, not, arith, rules}
use Rattle.std.proofs.lemmas.List.Sums.{prefix_len-le-length}
use Rattle.unique_id.proofs.reading.checked.Goals as goal

pub overflow_add-result-then-not-is_text : goal.overflow_add-result-then-not-is_text
overflow_add-result-then-not-is_text c = omega (arith, prefix_len-le-length (λ b. not (b == 37)) c.args.written.now, c.len_before.ensures)

pub returns-then-not-is_text-clause-read : goal.returns-then-not-is_text-clause-read
returns-then-not-is_text-clause-read c = search rules

pub returns-clause-read : goal.returns-clause-read
returns-clause-read c = search rules
