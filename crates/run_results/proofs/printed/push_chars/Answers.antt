-- A character more is its cleaned bytes more.
use Rattle.std.proofs.Common.{◌≡◌, ◌++◌, ◌∙◌, ◌∷◌, [], ap, arith, append_assoc, string_bytes, encode_utf8}
use Rattle.std.proofs.lemmas.Grind.{common_steps}
use Rattle.std.specs.Prelude.{encode_utf8_all}
use Rattle.run_results.specs.Printed.{cleaned}
use Rattle.run_results.proofs.Cleaning.{cleaned_more}
use Rattle.run_results.proofs.printed.push_chars.Goals as goal

pub loop-c-preserved : goal.loop-c-preserved
loop-c-preserved c =
    let step : string_bytes c.push.new.self ≡ string_bytes c.loop-c.printed ++ cleaned (encode_utf8 c.in-Some.c) = grind (arith, common_steps) in
    let more : cleaned (encode_utf8_all (c.loop-c.yielded ++ c.in-Some.c ∷ [])) ≡ cleaned (encode_utf8_all c.loop-c.yielded) ++ cleaned (encode_utf8 c.in-Some.c) = cleaned_more c.loop-c.yielded c.in-Some.c in
    rw more (step ∙ ap (λ l. l ++ cleaned (encode_utf8 c.in-Some.c)) c.loop-c.invariant ∙ append_assoc (string_bytes c.args.printed.now) (cleaned (encode_utf8_all c.loop-c.yielded)) (cleaned (encode_utf8 c.in-Some.c)))
