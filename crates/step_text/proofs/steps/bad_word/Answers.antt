-- The tokens are the parts between spaces that are not empty, and each is tested in turn.
use Rattle.std.proofs.Common.{ℕ, List, length, not, ◌==◌, lit<, rules}
use borrow.Author.Tests.{tests}
use Rattle.std.proofs.lemmas.Iterator.Consumers.{YieldsList-from_filter}
use Rattle.std.proofs.lemmas.Iterator.Search.{position_from_yields_List}
use Rattle.std.proofs.lemmas.Iterator.Splits.{YieldsList-from_str_split}
use Rattle.step_text.specs.StepTexts.{is_bad_word}
use Rattle.step_text.proofs.steps.bad_word.Goals as goal

pub returns-clause-first : goal.returns-clause-first
returns-clause-first c =
    position_from_yields_List is_bad_word _ _ c.position.result c.position.ensures.ran
    (YieldsList-from_filter _ (λ (w : List ℕ). not (length w == 0)) (YieldsList-from_str_split 32 c.args.text.now (lit< tt) (cc) (cc) (cc)) c.filter.ensures.closure (λ x r q k. search (rules, tests)))
    (λ x b q k. search (rules, tests))
