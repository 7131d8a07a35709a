-- The program's name alone gives no option, and is refused for nothing.
use Rattle.std.proofs.Common.{map, string_bytes, arith, ◌∙◌}
use Rattle.std.proofs.lemmas.List.{length-map}
use Rattle.command_words.proofs.ByClap.{no_option, no_fault}
use Rattle.command_words.proofs.words.given_by.Goals as goal

pub returns-then-words-le1-clause-given : goal.returns-then-words-le1-clause-given
returns-then-words-le1-clause-given c =
    c.nothing_given.ensures ∙ no_option (map string_bytes c.args.words.now) (omega (arith, length-map c.args.words.now string_bytes, c.if-words-le1.true))

pub returns-then-words-le1-clause-accepted : goal.returns-then-words-le1-clause-accepted
returns-then-words-le1-clause-accepted c = no_fault (map string_bytes c.args.words.now) (omega (arith, length-map c.args.words.now string_bytes, c.if-words-le1.true))
