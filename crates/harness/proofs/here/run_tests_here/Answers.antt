-- What is done with the arguments that the system gave is done by some arguments.
use Rattle.std.proofs.Common.{IfOk, Result, Ok, Err, string_bytes}
use Rattle.std.specs.IoError.{error_kind}
use Rattle.std.specs.Vec.Iter.{into_iter_items}
use Rattle.command_words.specs.GivenWords.{IsGivenFault}
use Rattle.harness.proofs.SystemRuns.{run_here}
use Rattle.harness.proofs.here.run_tests_here.Goals as goal

pub returns-clause-run : goal.returns-clause-run
returns-clause-run g c = both_ok c.run_tests.result c.run_tests.ensures.run c.run_tests.ensures.refused (λ ending run refused.
    run_here _ _ _ g.V.Observer.saw g.W.Write.contents g.E.Write.contents _ _ _ _ c.is_drawn_on-is_terminal.result _ _ _ _ _ _ ending (λ error fault. IsGivenFault (error_kind error) fault) into_iter_items string_bytes _ c.args-words.result run refused)
  where
    both_ok : {A F : Type 0} {P Q R : A → Type 0} (r : Result A F) → IfOk r P → IfOk r Q → ((a : A) → P a → Q a → R a) → IfOk r R
    both_ok (Ok a) p q gives = gives a p q
    both_ok (Err e) p q gives = tt
