-- A number that std does not read is out of range.
use Rattle.std.proofs.Common.{◌≡◌, true, arith}
use Rattle.suite_words.specs.Numbers.{is_number}
use Rattle.suite_words.proofs.Numbers.{not_up_to}
use Rattle.suite_words.proofs.number.number_up_to.Goals as goal

pub returns-in_default-clause-value : goal.returns-in_default-clause-value
returns-in_default-clause-value c =
    let number : is_number c.args.text.now ≡ true = grind arith in
    not_up_to c.args.most c.args.text.now c.parse.result _ c.parse.ensures.value.0 c.in_default.is number (omega (arith, c.ranges.most.fits))
