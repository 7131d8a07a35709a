-- The statuses: their names, and which one a status is.
use Rattle.std.specs.Prelude.{ℕ, List, Bool, true, false, codes}
use Rattle.plan_events.specs.declared.status.Status.{Status}
use Rattle.plan_events.specs.declared.status.Status.TheVariants.{Successful, Aborted, Failed}

-- the name of a status, in capitals
abbrev pub status_text : Status → List ℕ
status_text Successful = codes "SUCCESSFUL"
status_text Aborted = codes "ABORTED"
status_text Failed = codes "FAILED"

abbrev pub is_successful : Status → Bool
is_successful Successful = true
is_successful Aborted = false
is_successful Failed = false

abbrev pub is_aborted : Status → Bool
is_aborted Successful = false
is_aborted Aborted = true
is_aborted Failed = false

abbrev pub is_failed : Status → Bool
is_failed Successful = false
is_failed Aborted = false
is_failed Failed = true
