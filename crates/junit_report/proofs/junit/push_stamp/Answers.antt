-- One attribute behind the other.
use Rattle.std.proofs.Common.{string_bytes}
use Rattle.std.proofs.lemmas.Result.{on_ok_weaker}
use Rattle.reports.proofs.Growing.{then}
use Rattle.junit_report.proofs.junit.push_stamp.Goals as goal

pub returns : goal.returns
returns c =
    on_ok_weaker c.push_known-2.result (λ last. then (string_bytes c.args.xml.now) _ _ c.in_ok-push_known.ensures last) c.push_known-2.ensures
