-- A character that needs no escape is spelled as it is.
use Rattle.std.proofs.Common.{◌≡◌, arith, encode_utf8}
use Rattle.std.proofs.lemmas.Grind.{common_steps}
use Rattle.unique_id.specs.Spelling.{spelled_part}
use Rattle.unique_id.proofs.Parts.{IsPlain, spelled_char}
use Rattle.unique_id.proofs.spelling.push_char.Goals as goal

pub returns-in_default : goal.returns-in_default
returns-in_default c =
    let plain : IsPlain c.args.c = record { percent = grind arith; plus = grind arith; open_bracket = grind arith; close_bracket = grind arith; colon = grind arith; slash = grind arith } in
    let same : spelled_part (encode_utf8 c.args.c) ≡ encode_utf8 c.args.c = spelled_char c.args.c plain in
    rw same (grind (arith, common_steps))
