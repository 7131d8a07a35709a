-- Where no space is at the end the text is as it stands.
use Rattle.std.proofs.Common.{None, sym, ◌∙◌, lit<}
use Rattle.std.proofs.lemmas.Str.Pattern.{strip_suffix_char}
use Rattle.suite_words.proofs.Reading.Spaces.{no_end}
use Rattle.suite_words.proofs.suite.lines.without_end.Goals as goal

pub returns : goal.returns
returns c =
    sym (no_end c.loop-shorter.left.now (strip_suffix_char 32 c.loop-shorter.left.now None c.in_default.ensures.cases (lit< tt))) ∙ c.loop-shorter.invariant.0
