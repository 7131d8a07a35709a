-- A part that needs no escape is written as it is.
use Rattle.std.proofs.Common.{◌≡◌, All, ◌∷◌, [], arith, subst}
use Rattle.std.proofs.lemmas.Grind.{common_steps}
use Rattle.unique_id.specs.Spelling.{spelled_byte, spelled_part}
use Rattle.unique_id.proofs.Parts.{part_alone}
use Rattle.unique_id.proofs.spelling.push_part.Goals as goal

pub returns-then-is_plain : goal.returns-then-is_plain
returns-then-is_plain c =
    let plain : All (λ byte. spelled_byte byte ≡ byte ∷ []) c.as_bytes.result.now = c.is_plain.ensures.0 c.if-is_plain.true in
    let same : spelled_part c.args.part.now ≡ c.args.part.now = part_alone c.args.part.now (subst (All (λ byte. spelled_byte byte ≡ byte ∷ [])) c.as_bytes.ensures.value plain) in
    rw same (grind (arith, common_steps))
