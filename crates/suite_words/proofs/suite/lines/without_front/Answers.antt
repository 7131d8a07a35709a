-- Where no space is in front the text is as it stands.
use Rattle.std.proofs.Common.{ap, sym, ◌∙◌, drop}
use Rattle.suite_words.proofs.Reading.Spaces.{no_front}
use Rattle.suite_words.proofs.suite.lines.without_front.Goals as goal

pub returns : goal.returns
unfolding lib.Utf8.encode
returns c =
    ap (λ k. drop k c.loop-shorter.left.now) (sym (no_front c.loop-shorter.left.now c.in_default.ensures.cases)) ∙ c.loop-shorter.invariant.0
