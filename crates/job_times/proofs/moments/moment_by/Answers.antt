-- The text of a second is one of a date and a time of day.
use Rattle.std.proofs.Common.{string_bytes}
use Rattle.std.proofs.lemmas.Option.{IfSome_then}
use Rattle.job_times.proofs.Late.{said_so}
use Rattle.job_times.proofs.moments.moment_by.Goals as goal

pub returns : goal.returns
returns g c = IfSome_then c.moment_of.result c.moment_of.ensures (λ text is. said_so c.as_secs.result (string_bytes text) is)
