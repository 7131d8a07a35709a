-- What is read is the front of what the reader holds, and it is what is judged.
use Rattle.std.proofs.Common.{ℕ, ◌≤◌, List, length, None, ap, sym, subst, ◌∙◌}
use Rattle.std.specs.Prelude.{take}
use Rattle.suite_words.specs.Limits.{byte_limit}
use Rattle.ready_runs.specs.Bytes.{ReadsFront, BreaksOff}
use Rattle.ready_runs.specs.Reading.{ReadsSuite, most_read}
use Rattle.suite_text.specs.Reading.Bytes.{suite_read}
use Rattle.ready_runs.proofs.Taking.{takes_broken, takes_refused, takes_whole}
use Rattle.ready_runs.proofs.SuiteRead.{if_known, suite_refused}
use Rattle.ready_runs.proofs.reading.read_suite.Goals as goal

pub returns-in_err-bytes-clause-reads : goal.returns-in_err-bytes-clause-reads
returns-in_err-bytes-clause-reads g c =
    let old = g.R.Read.remaining c.args.reader.now in
    takes_broken c.args.most old _ c.in_err-bytes.field-0.0 c.from_residual.result c.from_residual.ensures.1
    (subst (λ (limit : ℕ). BreaksOff old (g.R.Read.remaining c.read_front.new.reader) limit) c.most_read.ensures c.in_err-bytes.ensures.broken)

pub returns-in_err-read-clause-exact : goal.returns-in_err-read-clause-exact
returns-in_err-read-clause-exact g c =
    let most = c.args.most in
    let refused = suite_refused _ c.from_residual-in_err-read.result _ c.from_residual-in_err-read.ensures.1 c.in_err-read.ensures.exact in
    if_known (g.R.Read.remaining c.args.reader.now)
    (λ bytes front. subst (λ (read : List ℕ). ReadsSuite (suite_read most read) c.from_residual-in_err-read.result) (c.as_slice.ensures.value ∙ front ∙ ap (λ (limit : ℕ). take limit bytes) c.most_read.ensures) refused)
    c.in_ok-bytes.ensures.front

pub returns-in_err-read-clause-reads : goal.returns-in_err-read-clause-reads
returns-in_err-read-clause-reads g c =
    let most = c.args.most in
    let old = g.R.Read.remaining c.args.reader.now in
    let refused = suite_refused _ c.from_residual-in_err-read.result _ c.from_residual-in_err-read.ensures.1 c.in_err-read.ensures.exact in
    takes_refused most old _ c.in_ok-bytes.bytes.items c.in_err-read.field-0.0 c.from_residual-in_err-read.result c.from_residual-in_err-read.ensures.1
    (λ same. subst (λ (read : List ℕ). length read ≤ byte_limit most) c.as_slice.ensures.value (c.in_err-read.ensures.no_memory same).0)
    (subst (λ (limit : ℕ). ReadsFront old (g.R.Read.remaining c.read_front.new.reader) limit c.in_ok-bytes.bytes.items) c.most_read.ensures c.in_ok-bytes.ensures.reads)
    (subst (λ (read : List ℕ). ReadsSuite (suite_read most read) c.from_residual-in_err-read.result) c.as_slice.ensures.value refused)

pub returns-clause-exact : goal.returns-clause-exact
returns-clause-exact g c =
    let most = c.args.most in
    if_known (g.R.Read.remaining c.args.reader.now)
    (λ bytes front. ap (suite_read most) (sym (c.as_slice.ensures.value ∙ front ∙ ap (λ (limit : ℕ). take limit bytes) c.most_read.ensures)) ∙ c.in_ok-read.ensures.exact)
    c.in_ok-bytes.ensures.front

pub returns-clause-reads : goal.returns-clause-reads
returns-clause-reads g c =
    let most = c.args.most in
    let old = g.R.Read.remaining c.args.reader.now in
    takes_whole (most_read most) old _ c.in_ok-bytes.bytes.items None _
    (subst (λ (limit : ℕ). ReadsFront old (g.R.Read.remaining c.read_front.new.reader) limit c.in_ok-bytes.bytes.items) c.most_read.ensures c.in_ok-bytes.ensures.reads)
    (λ same. cc) (λ same. cc) (ap (suite_read most) (sym c.as_slice.ensures.value) ∙ c.in_ok-read.ensures.exact)
