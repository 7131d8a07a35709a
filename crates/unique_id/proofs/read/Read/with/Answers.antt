-- One more segment is kept and counted, and so is its spelling.
use Rattle.std.proofs.Common.{◌≡◌, ◌<◌, ◌∷◌, [], length, ap, ◌∙◌, arith, length-append}
use Rattle.std.proofs.lemmas.Bool.Decides.{nat_tests}
use Rattle.unique_id.specs.declared.unique_id.Segment.{Segment}
use Rattle.unique_id.specs.Spelling.{spelled_segment}
use Rattle.unique_id.proofs.Kept.{kept_more}
use Rattle.unique_id.proofs.Refused.{length_more}
use Rattle.unique_id.proofs.read.Read.with.Goals as goal

pub returns-clause-read : goal.returns-clause-read
returns-clause-read c = λ segments is.
    let new : Segment = record { kind = c.args.kind.now; value = c.args.value.now } in
    let none : length segments ≡ 0 → c.from-slash.result ≡ 0 = λ h. grind (arith, nat_tests, is.count) in
    let some : 0 < length segments → c.from-slash.result ≡ 1 = λ h. grind (arith, nat_tests, is.count) in
    let written : length (spelled_segment c.as_slice.result.now c.as_slice-2.result.now) ≡ length (spelled_segment new.kind new.value) =
    ap (λ k. length (spelled_segment k c.as_slice-2.result.now)) c.as_slice.ensures.bytes ∙ ap (λ v. length (spelled_segment new.kind v)) c.as_slice-2.ensures.bytes in
    record {
      kept = kept_more (λ v. v.items) c.longer.result c.args.self.segments segments new c.longer.ensures is.kept;
      count = omega (arith, is.count, length-append segments (new ∷ []));
      spelled = omega (arith, is.spelled, length_more segments c.from-slash.result new none some, c.segment_len.ensures.spelled, written);
    }
