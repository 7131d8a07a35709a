-- The command has the options so far.
use Rattle.std.proofs.Common.{◌≡◌, fold, map, take}
use Rattle.clap.specs.Words.{app_of, with_rule}
use Rattle.command_words.specs.Commands.{rule_told}
use Rattle.command_words.proofs.option_names.with_all.Given as goal

abbrev pub invariant-loop-told : goal.invariant-loop-told
invariant-loop-told l = app_of l.longer ≡ fold with_rule (app_of l.initial.longer) (map rule_told (take l.told-index l.options))
