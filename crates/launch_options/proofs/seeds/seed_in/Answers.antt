-- What std does not read as a number of 64 bits is too large.
use Rattle.std.proofs.Common.{◌≡◌, true, arith}
use Rattle.suite_words.specs.Numbers.{is_number}
use Rattle.launch_options.proofs.SeedNumbers.{unread}
use Rattle.launch_options.proofs.seeds.seed_in.Goals as goal

pub returns-in-Err : goal.returns-in-Err
returns-in-Err c =
    let number : is_number c.args.text.now ≡ true = grind arith in
    unread c.args.text.now c.parse.result _ c.parse.ensures.value.0 c.in-Err.is number
