-- The command has one option more.
use Rattle.std.proofs.Common.{◌∙◌, ap₂, sym}
use Rattle.clap.specs.Words.{with_rule}
use Rattle.command_words.proofs.Growing.{one_more}
use Rattle.command_words.proofs.option_names.with_all.Goals as goal

pub loop-told-preserved : goal.loop-told-preserved
loop-told-preserved c = c.in_ok-longer.ensures ∙ ap₂ with_rule c.loop-told.invariant c.option_of.ensures.rule ∙ sym (one_more _ _ _ _ c.loop-told-test.true)
