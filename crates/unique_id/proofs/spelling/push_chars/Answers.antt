-- One more character adds its spelling to that of the characters before.
use Rattle.std.proofs.Common.{◌≡◌, ◌++◌, ◌∙◌, ◌∷◌, [], ap, arith, append_assoc, string_bytes, encode_utf8}
use Rattle.std.proofs.lemmas.Grind.{common_steps}
use Rattle.std.specs.Prelude.{encode_utf8_all}
use Rattle.unique_id.specs.Spelling.{spelled_part}
use Rattle.unique_id.proofs.Parts.{part_more}
use Rattle.unique_id.proofs.spelling.push_chars.Goals as goal

pub loop-c-preserved : goal.loop-c-preserved
loop-c-preserved c =
    let step : string_bytes c.push_char.new.text ≡ string_bytes c.loop-c.text ++ spelled_part (encode_utf8 c.in-Some.c) = grind (arith, common_steps) in
    let more : spelled_part (encode_utf8_all (c.loop-c.yielded ++ c.in-Some.c ∷ [])) ≡ spelled_part (encode_utf8_all c.loop-c.yielded) ++ spelled_part (encode_utf8 c.in-Some.c) = part_more c.loop-c.yielded c.in-Some.c in
    rw more (step ∙ ap (λ l. l ++ spelled_part (encode_utf8 c.in-Some.c)) c.loop-c.invariant ∙ append_assoc (string_bytes c.args.text.now) (spelled_part (encode_utf8_all c.loop-c.yielded)) (spelled_part (encode_utf8 c.in-Some.c)))
