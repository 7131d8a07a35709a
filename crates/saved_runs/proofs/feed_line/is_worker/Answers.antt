-- What follows a `w`.
use Rattle.std.proofs.Common.{None, Some, sym, ◌∙◌, lit<}
use Rattle.std.proofs.lemmas.Str.Pattern.{strip_prefix_char}
use Rattle.saved_runs.proofs.Workers.{worker_by, no_worker}
use Rattle.saved_runs.proofs.feed_line.is_worker.Goals as goal

pub returns-in-Some : goal.returns-in-Some
returns-in-Some c = c.is_number.ensures ∙ sym (worker_by c.args.word.now c.in-Some.digits.now (strip_prefix_char 119 c.args.word.now (Some c.in-Some.digits) c.in-Some.ensures.cases (lit< tt)))

pub returns-in-None : goal.returns-in-None
returns-in-None c = sym (no_worker c.args.word.now (strip_prefix_char 119 c.args.word.now None c.in-None.ensures.cases (lit< tt)))
