-- A token with no w in front is no worker's.
use Rattle.std.proofs.Common.{◌≡◌, None, false, ◌==◌, slice_index, lit<, arith}
use Rattle.std.proofs.lemmas.Grind.{common_steps}
use Rattle.std.proofs.lemmas.Str.Pattern.{strip_prefix_char}
use Rattle.step_text.specs.StepTexts.{step_of}
use Rattle.step_text.proofs.SpelledWords.{no_front}
use Rattle.step_text.proofs.step_words.step_of.Goals as goal

pub returns-in-None : goal.returns-in-None
unfolding step_of
returns-in-None c =
    let other : (slice_index c.args.word.now 0 == 119) ≡ false = no_front c.args.word.now (strip_prefix_char 119 c.args.word.now None c.in-None.ensures.cases (lit< tt)) in
    grind (arith, common_steps)
