-- The lines of the counts so far.
use Rattle.std.proofs.Common.{◌≡◌, ◌++◌, take, string_bytes}
use Rattle.run_results.specs.SummaryTexts.{count_lines, phrases}
use Rattle.run_results.proofs.summary_lines.push_counts.Given as goal

abbrev pub invariant-loop-place : goal.invariant-loop-place
invariant-loop-place l = string_bytes l.text ≡ string_bytes l.fn.text ++ count_lines (take l.place l.counts) (take l.place phrases)
