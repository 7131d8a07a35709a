-- Without an @ in front there is no file.
use Rattle.std.proofs.Common.{None, refl, lit<}
use Rattle.std.proofs.lemmas.Str.Pattern.{strip_prefix_char}
use Rattle.word_files.proofs.Marks.{no_at}
use Rattle.word_files.proofs.role.replayed.Goals as goal

pub returns-in-None : goal.returns-in-None
returns-in-None c = rw (no_at c.args.value.now (strip_prefix_char 64 c.args.value.now None c.in-None.ensures.cases (lit< tt))) refl
