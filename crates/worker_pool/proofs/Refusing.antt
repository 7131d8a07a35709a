-- Why a run is refused to which the table has no objection.
use Rattle.std.proofs.Common.{◌≡◌, ℕ, List, Result, Ok, Err, IfOk, IfErr, inl, inr, sym, subst}
use Rattle.std.specs.Prelude.{◌⊎◌}
use Rattle.resource_locks.specs.Plans.{PlanParts}
use Rattle.table_contents.specs.declared.fault.TableFault.TheVariants.{NoMemory}
use Rattle.table_contents.specs.Prepared.{HasAllJobs, IsRightCount, IsRightRing}
use Rattle.worker_pool.specs.declared.report.RunCause.{RunCause}
use Rattle.worker_pool.specs.declared.report.RunCause.TheVariants.{Table, NoWorker}
use Rattle.worker_pool.specs.declared.report.RunFault.{RunFault}
use Rattle.worker_pool.specs.Reports.{IsRefusedRun}

pub whatever : {A E P : Type 0} (result : Result A E) → P → IfOk result (λ x. P)
whatever (Ok x) p = p
whatever (Err e) p = tt

module _ {B : Type 0} (p : PlanParts) (workers ring : ℕ) (jobs : List (ℕ × B)) (right : IsRightCount workers × IsRightRing ring × HasAllJobs p jobs) where
  by_cause : (cause : RunCause) → (cause ≡ Table NoMemory) ⊎ (cause ≡ NoWorker) → IsRefusedRun p workers ring jobs cause
  by_cause cause (inl memory) = subst (IsRefusedRun p workers ring jobs) (sym memory) (right.0, right.1)
  by_cause cause (inr none) = subst (IsRefusedRun p workers ring jobs) (sym none) right

  -- for want of memory or of threads
  pub refused_run : {A : Type 0} (result : Result A (RunFault B)) → IfErr result (λ fault. (fault.cause ≡ Table NoMemory) ⊎ (fault.cause ≡ NoWorker)) → IfErr result (λ fault. IsRefusedRun p workers ring jobs fault.cause)
  refused_run (Ok report) is = tt
  refused_run (Err fault) is = by_cause fault.cause is
