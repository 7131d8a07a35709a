-- Each test of the code is a case of the definition, and what was read makes a sound id.
use Rattle.std.proofs.Common.{◌≡◌, ◌<◌, ◌≤◌, ℕ, [], List, length, string_bytes, Result, Ok, Err, refl, ap, sym, ◌∙◌, arith}
use Rattle.std.proofs.lemmas.Bool.Decides.{nat_tests}
use Rattle.std.proofs.lemmas.Grind.{common_steps}
use Rattle.std.proofs.lemmas.Result.{err_from_is_err_and}
use Rattle.std.specs.Arc.{arc_value}
use Rattle.std.specs.Prelude.{IsOk}
use Rattle.unique_id.specs.declared.fault.UidFault.{UidFault}
use Rattle.unique_id.specs.declared.fault.UidFault.TheVariants.{TooLong}
use Rattle.unique_id.specs.declared.unique_id.Named.{Named}
use Rattle.unique_id.specs.declared.unique_id.Segment.{Segment}
use Rattle.unique_id.specs.Answers.{◌>>=◌}
use Rattle.unique_id.specs.Reading.{segments_at, limited, id_of}
use Rattle.unique_id.specs.Spelling.{spelling}
use Rattle.unique_id.proofs.Ids.{pieces_of, empty_refused, long_refused, read_on, many_refused, wide_refused, within_limits, read_whole}
use Rattle.unique_id.proofs.unique_id.id_of.Goals.{then-count-gt-MOST_SEGMENTS-via-then-count-gt-MOST_SEGMENTS, then-count-gt-MOST_SEGMENTS-via-else-count-gt-MOST_SEGMENTS+then-len-gt-LONGEST_TEXT}
use Rattle.unique_id.proofs.unique_id.id_of.Goals as goal

is_ok_from : {X E : Type 0} (r : Result X E) (x : X) → r ≡ Ok x → IsOk r
is_ok_from r x h = rw h refl

-- what the bytes read as, within the limits, is what the text does
all_read : (text bytes : List ℕ) (r : Result (List Segment) UidFault) → 0 < length text → length text ≤ 1024 → bytes ≡ text → segments_at [] 0 (pieces_of bytes) ≡ r → id_of text ≡ r >>= limited
all_read text bytes r some short same read = read_on text some short ∙ ap (λ t. segments_at [] 0 (pieces_of t) >>= limited) (sym same) ∙ ap (λ r. r >>= limited) read

pub returns-then-is_empty-clause-exact : goal.returns-then-is_empty-clause-exact
returns-then-is_empty-clause-exact c = λ _. empty_refused c.args.text.now (grind (arith, nat_tests))

pub returns-then-text-gt-LONGEST_TEXT-clause-exact : goal.returns-then-text-gt-LONGEST_TEXT-clause-exact
returns-then-text-gt-LONGEST_TEXT-clause-exact c = λ _. long_refused c.args.text.now (omega arith)

pub returns-in_err-segments-clause-exact : goal.returns-in_err-segments-clause-exact
returns-in_err-segments-clause-exact c =
    let text = c.args.text.now in
    let some : 0 < length text = grind (arith, nat_tests) in
    let p = err_from_is_err_and c.from_residual.result c.from_residual.ensures.1 in
    rw (p.1, p.2) (λ _. all_read text c.as_bytes.result.now _ some (omega arith) c.as_bytes.ensures.value c.in_err-segments.ensures.read)

pub returns-then-count-gt-MOST_SEGMENTS-clause-exact : goal.returns-then-count-gt-MOST_SEGMENTS-clause-exact
returns-then-count-gt-MOST_SEGMENTS-clause-exact c =
    let text = c.args.text.now in
    let some : 0 < length text = grind (arith, nat_tests) in
    let got = c.in_ok-segments.ensures.read in
    let refused : limited got.0 ≡ Err TooLong =
    elim c.then-count-gt-MOST_SEGMENTS.branch [
      | then-count-gt-MOST_SEGMENTS-via-then-count-gt-MOST_SEGMENTS w ↦ many_refused got.0 (omega (arith, got.1.count, w.if-count-gt-MOST_SEGMENTS.true))
      | then-count-gt-MOST_SEGMENTS-via-else-count-gt-MOST_SEGMENTS+then-len-gt-LONGEST_TEXT w ↦ wide_refused got.0 (omega (arith, got.1.spelled, w.if-len-gt-LONGEST_TEXT.true))
    ] in
    λ _. all_read text c.as_bytes.result.now (Ok got.0) some (omega arith) c.as_bytes.ensures.value got.2 ∙ refused

pub returns-in_default-clause-no_memory : goal.returns-in_default-clause-no_memory
returns-in_default-clause-no_memory c =
    let text = c.args.text.now in
    let some : 0 < length text = grind (arith, nat_tests) in
    let got = c.in_ok-segments.ensures.read in
    λ _. is_ok_from (id_of text) got.0 (all_read text c.as_bytes.result.now (Ok got.0) some (omega arith) c.as_bytes.ensures.value got.2 ∙ within_limits got.0 (omega (arith, got.1.count)) (omega (arith, got.1.spelled)))

pub returns-in_err-spelled-clause-no_memory : goal.returns-in_err-spelled-clause-no_memory
returns-in_err-spelled-clause-no_memory c =
    let text = c.args.text.now in
    let some : 0 < length text = grind (arith, nat_tests) in
    let got = c.in_ok-segments.ensures.read in
    let p = err_from_is_err_and c.from_residual-in_err-spelled.result c.from_residual-in_err-spelled.ensures.1 in
    rw p.1 (λ _. is_ok_from (id_of text) got.0 (all_read text c.as_bytes.result.now (Ok got.0) some (omega arith) c.as_bytes.ensures.value got.2 ∙ within_limits got.0 (omega (arith, got.1.count)) (omega (arith, got.1.spelled))))

pub returns-in_err-named-clause-no_memory : goal.returns-in_err-named-clause-no_memory
returns-in_err-named-clause-no_memory c =
    let text = c.args.text.now in
    let some : 0 < length text = grind (arith, nat_tests) in
    let got = c.in_ok-segments.ensures.read in
    let p = err_from_is_err_and c.from_residual-in_err-named.result c.from_residual-in_err-named.ensures.1 in
    rw p.1 (λ _. is_ok_from (id_of text) got.0 (all_read text c.as_bytes.result.now (Ok got.0) some (omega arith) c.as_bytes.ensures.value got.2 ∙ within_limits got.0 (omega (arith, got.1.count)) (omega (arith, got.1.spelled))))

pub invariant_of-result : goal.invariant_of-result
invariant_of-result c =
    let got = c.in_ok-segments.ensures.read in
    let items : c.in-Some.segments.items ≡ got.0 = grind (arith, common_steps, got.1.kept) in
    let same : c.of.result ≡ got.0 = c.of.ensures ∙ items in
    let block : (arc_value c.in_ok-named.named).text ≡ c.of-text.result = ap (λ (n : Named). n.text) c.in_ok-named.ensures in
    let spelled : string_bytes c.in_ok-spelled.field-0 ≡ spelling c.in-Some.segments.items = c.in_ok-spelled.ensures ∙ ap spelling c.as_slice.ensures.value in
    let right = read_whole c.as_bytes.result.now c.of.result (got.2 ∙ ap Ok (sym same)) in
    record {
      text = block ∙ c.of-text.ensures ∙ spelled ∙ ap spelling (sym c.of.ensures);
      some_segment = right.0;
      few = omega (arith, ap length same, got.1.count);
      whole = right.1;
      texts = right.2;
      short = omega (arith, ap (λ l. length (spelling l)) same, got.1.spelled);
    }

pub returns-clause-exact : goal.returns-clause-exact
returns-clause-exact c =
    let text = c.args.text.now in
    let some : 0 < length text = grind (arith, nat_tests) in
    let got = c.in_ok-segments.ensures.read in
    let items : c.in-Some.segments.items ≡ got.0 = grind (arith, common_steps, got.1.kept) in
    let same : c.of.result ≡ got.0 = c.of.ensures ∙ items in
    all_read text c.as_bytes.result.now (Ok got.0) some (omega arith) c.as_bytes.ensures.value got.2 ∙ within_limits got.0 (omega (arith, got.1.count)) (omega (arith, got.1.spelled)) ∙ ap Ok (sym same)
