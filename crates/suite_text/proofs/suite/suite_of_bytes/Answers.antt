-- Bytes that are few enough are the suite of their text, or no text.
use Rattle.std.proofs.Common.{◌≡◌, ◌≤◌, ◌+◌, ◌==◌, length, nat_lt, false, arith, sym, ap, ◌∙◌, take, count_by, Err}
use Rattle.std.proofs.lemmas.Bool.{le-ltb}
use Rattle.suite_words.specs.declared.suite.fault.SuiteFault.TheVariants.{BadLine}
use Rattle.suite_text.specs.Reading.Bytes.{line_of_fault}
use Rattle.suite_words.specs.Limits.{byte_limit}
use Rattle.suite_words.specs.Reading.Bytes.{without_mark}
use Rattle.suite_text.proofs.Reading.Lines.{read_text, read_not_text}
use Rattle.suite_text.proofs.suite.suite_of_bytes.Goals as goal

pub returns-in-Ok-clause-exact : goal.returns-in-Ok-clause-exact
returns-in-Ok-clause-exact c =
    let few : length c.args.bytes.now ≤ byte_limit c.args.most.now = omega (arith, c.if-bytes-byte_limit.false, c.byte_limit.ensures.exact) in
    let small : nat_lt (byte_limit c.args.most.now) (length c.args.bytes.now) ≡ false = le-ltb (byte_limit c.args.most.now) (length c.args.bytes.now) few in
    let marked : c.without_mark.result.now ≡ without_mark c.args.bytes.now = c.without_mark.ensures ∙ ap without_mark c.in-Ok.ensures.cases.0 in
    rw (read_text c.args.most.now c.args.bytes.now small c.in-Ok.ensures.cases.1, sym marked) c.suite_in.ensures.exact

pub returns-in-Err-clause-exact : goal.returns-in-Err-clause-exact
returns-in-Err-clause-exact c =
    let few : length c.args.bytes.now ≤ byte_limit c.args.most.now = omega (arith, c.if-bytes-byte_limit.false, c.byte_limit.ensures.exact) in
    let small : nat_lt (byte_limit c.args.most.now) (length c.args.bytes.now) ≡ false = le-ltb (byte_limit c.args.most.now) (length c.args.bytes.now) few in
    let place = c.valid_up_to.ensures ∙ c.in-Err.ensures.valid_len in
    let line : c.line_after-line.result ≡ line_of_fault c.args.bytes.now = c.line_after-line.ensures ∙ ap (λ n. 1 + count_by (λ byte. byte == 10) (take n c.args.bytes.now)) place in
    λ other. read_not_text c.args.most.now c.args.bytes.now small c.in-Err.ensures.cases.0 ∙ ap (λ n. Err (BadLine n)) (sym line)
