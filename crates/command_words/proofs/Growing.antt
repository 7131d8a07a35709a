-- A command grows by one option after the other.
use Rattle.std.proofs.Common.{◌≡◌, ℕ, List, Option, None, Some, ◌+◌, ◌<◌, ◌∙◌, ap, fold, get_or, length, map, refl, sym, take}
use Rattle.std.proofs.lemmas.List.Folds.{fold-map}
use Rattle.std.proofs.lemmas.List.Sums.{fold_more}
use Rattle.clap.specs.Words.{App, Rule, with_rule}
use Rattle.command_words.specs.Commands.{maybe_lettered, rule_told, with_letter}
use Rattle.command_words.specs.declared.option_names.ProgramOption.{ProgramOption}

-- one more option of a list
pub one_more : (app : App) (options : List ProgramOption) (i : ℕ) (d : ProgramOption) → i < length options → fold with_rule app (map rule_told (take (i + 1) options))
    ≡ with_rule (fold with_rule app (map rule_told (take i options))) (rule_told (get_or options i d))
one_more app options i d is_in = fold-map with_rule rule_told app (take (i + 1) options)
    ∙ fold_more (λ was told. with_rule was (rule_told told)) app options i d is_in
    ∙ ap (λ was. with_rule was (rule_told (get_or options i d))) (sym (fold-map with_rule rule_told app (take i options)))

-- a letter stands in place of any other
pub lettered_again : (letter : ℕ) (other : Option ℕ) (rule : Rule) → with_letter letter rule ≡ with_letter letter (maybe_lettered other rule)
lettered_again letter None rule = refl
lettered_again letter (Some other) rule = refl
