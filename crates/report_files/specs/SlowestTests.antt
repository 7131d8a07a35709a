-- The list of the slowest tests of a run.
use Rattle.std.specs.Prelude.{◌≡◌, ℕ, Bool, true, List, Option, IfSome}
use Rattle.job_times.specs.Timings.{Times}
use Rattle.live.specs.Slowest.{slowest_of}
use Rattle.resource_locks.specs.Plans.{PlanParts}

-- a list, if one is made, is that of the slowest tests of this plan by these times; and none is made where times are not asked for
abbrev pub IsSlowestIn : (is_asked : Bool) → Times → PlanParts → Option (List ℕ) → Type 0
IsSlowestIn is_asked times p slowest = IfSome slowest (λ text. (is_asked ≡ true) × (text ≡ slowest_of p times.took))
