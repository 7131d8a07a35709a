-- The tokens are the parts between spaces that are not empty, and each gives its step.
use Rattle.std.proofs.Common.{ℕ, List, length, not, ◌==◌, lit<, rules}
use borrow.Author.Tests.{tests}
use Rattle.std.proofs.lemmas.Iterator.{items_from_collect}
use Rattle.std.proofs.lemmas.Iterator.Consumers.{YieldsList-at, YieldsList-from_filter, YieldsList-from_filter_map}
use Rattle.std.proofs.lemmas.Iterator.Splits.{YieldsList-from_str_split}
use Rattle.step_text.specs.StepTexts.{step_of}
use Rattle.step_text.proofs.steps.named_steps.Goals as goal

pub returns : goal.returns
returns c = items_from_collect _ c.collect.ensures.ran
    (YieldsList-from_filter_map _ step_of
    (YieldsList-at c.filter_map.ensures.source (YieldsList-from_filter _ (λ (w : List ℕ). not (length w == 0)) (YieldsList-from_str_split 32 c.args.text.now (lit< tt) (cc) (cc) (cc)) c.filter.ensures.closure (λ x r q k. search (rules, tests))))
    c.filter_map.ensures.closure (λ x r q k. search (rules, tests)))
