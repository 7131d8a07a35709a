-- The number, a slash and how many there are.
use Rattle.std.proofs.Common.{◌++◌, ap, ◌∙◌, append_assoc, codes, sym}
use Rattle.word_files.specs.Reading.{Text}
use Rattle.word_files.specs.Told.{index_text}
use Rattle.word_files.proofs.Texts.{if_read}
use Rattle.word_files.proofs.facts.shard_text.Goals as goal

pub returns : goal.returns
returns c =
    if_read c.format.result c.format.ensures.ok
    (λ text is. is ∙ ap (λ (n : Text). n ++ (codes "/" ++ c.args.total.now)) c.in_ok-number.ensures ∙ sym (append_assoc (index_text c.args.index.now) (codes "/") c.args.total.now))
