-- A line of which all is spaces has nothing behind them.
use Rattle.std.proofs.Common.{◌≡◌, ◌-◌, ◌==◌, ◌≤◌, ℕ, length, nat_eq, arith}
use Rattle.std.proofs.lemmas.Bool.Decides.{nat_tests}
use Rattle.std.proofs.lemmas.List.{length-drop}
use Rattle.std.proofs.lemmas.List.Sums.{prefix_len-le-length}
use Rattle.suite_words.specs.Words.{is_space}
use Rattle.suite_words.specs.Reading.Lines.{without_front, indentation_of}
use Rattle.suite_words.proofs.suite.lines.is_blank.Goals as goal

-- nothing is left of so many where just so many are dropped
all_dropped : (front all left : ℕ) → front ≤ all → left ≡ all - front → nat_eq front all ≡ (left == 0)
all_dropped front all left within is = grind (arith, nat_tests)

pub returns : goal.returns
returns c =
    let line = c.args.line.now in
    rw c.requires (all_dropped (indentation_of line) (length line) (length (without_front line)) (prefix_len-le-length is_space line) (length-drop (indentation_of line) line))
