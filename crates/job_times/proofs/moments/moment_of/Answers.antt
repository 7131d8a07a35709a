-- The text is that of the date and of the time of day.
use Rattle.std.proofs.Common.{string_bytes}
use Rattle.std.proofs.lemmas.Result.{IfOk-weaker}
use Rattle.job_times.specs.Moments.{IsMomentOf}
use Rattle.job_times.proofs.Given.{given}
use Rattle.job_times.proofs.moments.moment_of.Goals as goal

pub returns : goal.returns
returns c =
    given c.moment_text.result c.ok.result (λ text. IsMomentOf c.args.seconds (string_bytes text)) c.ok.ensures.value
    (IfOk-weaker c.moment_text.result _ _ (λ text said. (c.in_ok-date.date, c.time_of.result, c.in_ok-date.ensures.day, c.time_of.ensures, said)) c.moment_text.ensures)
