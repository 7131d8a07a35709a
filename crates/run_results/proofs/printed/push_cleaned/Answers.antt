-- A text without a control byte is appended as it is.
use Rattle.std.proofs.Common.{◌≡◌, All, arith, subst}
use Rattle.std.proofs.lemmas.Grind.{common_steps}
use Rattle.run_results.specs.Printed.{printed_byte, cleaned}
use Rattle.run_results.proofs.Cleaning.{cleaned_alone}
use Rattle.run_results.proofs.printed.push_cleaned.Goals as goal

pub returns-then-is_clean : goal.returns-then-is_clean
returns-then-is_clean c =
    let clean : All (λ byte. printed_byte byte ≡ byte) c.as_bytes.result.now = c.is_clean.ensures.0 c.if-is_clean.true in
    let same : cleaned c.args.text.now ≡ c.args.text.now = cleaned_alone c.args.text.now (subst (All (λ byte. printed_byte byte ≡ byte)) c.as_bytes.ensures.value clean) in
    rw same (grind (arith, common_steps))
