use Rattle.std.proofs.Common.{arith, ◌<◌, ◌≤◌, length}
use Rattle.std.proofs.lemmas.Result.{err_from_is_err_and}
use Rattle.suite_text.proofs.Reading.Judged.{out_here, out_later}
use Rattle.suite_text.proofs.Reading.Steps.{line_next, line_fails, lines_done}
use Rattle.suite_text.proofs.suite.builder.SuiteBuilder.read_lines.Goals as goal

pub loop-index-preserved : goal.loop-index-preserved
loop-index-preserved c =
    let xs = c.args.lines.now in
    let i = c.loop-index.index in
    let inside : i < length xs = omega arith in
    let inv = c.loop-index.invariant in (
      line_next xs i _ c.loop-index.self _ inside inv.0 c.read_line.new.self c.in_ok-read_line.ensures.added,
      (λ out. inv.1 (out_later xs i _ c.loop-index.self inside c.read_line.new.self c.in_ok-read_line.ensures.added out)),
    )

pub returns-in_err-read_line-clause-refused : goal.returns-in_err-read_line-clause-refused
returns-in_err-read_line-clause-refused c =
    let xs = c.args.lines.now in
    let i = c.loop-index.index in
    let inside : i < length xs = omega arith in
    let p = err_from_is_err_and c.from_residual.result c.from_residual.ensures.1 in
    rw (p.1, p.2) (line_fails xs i _ c.loop-index.self _ inside c.loop-index.invariant.0 _ c.in_err-read_line.ensures.refused)

pub returns-in_err-read_line-clause-no_memory : goal.returns-in_err-read_line-clause-no_memory
returns-in_err-read_line-clause-no_memory c =
    let xs = c.args.lines.now in
    let i = c.loop-index.index in
    let inside : i < length xs = omega arith in
    let p = err_from_is_err_and c.from_residual.result c.from_residual.ensures.1 in
    rw (p.1, p.2) (λ none. c.loop-index.invariant.1 (out_here xs i _ c.loop-index.self inside (c.in_err-read_line.ensures.no_memory none)))

pub returns-clause-added : goal.returns-clause-added
returns-clause-added c =
    let xs = c.args.lines.now in
    let past : length xs ≤ c.loop-index.index = omega arith in
    lines_done xs c.loop-index.index c.loop-index.self _ past c.loop-index.invariant.0
