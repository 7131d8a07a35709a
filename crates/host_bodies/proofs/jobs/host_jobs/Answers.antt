-- Jobs of which none was run may answer, whatever the plan.
use Rattle.std.proofs.Common.{IfOk, Result, Ok, Err}
use Rattle.host_bodies.proofs.Answering.{may_answer}
use Rattle.host_bodies.proofs.jobs.host_jobs.Goals as goal

if_ok : {A E : Type 0} (P Q : A → Type 0) → ((a : A) → P a → Q a) → (r : Result A E) → IfOk r P → IfOk r Q
if_ok P Q f (Ok a) h = f a h
if_ok P Q f (Err e) h = tt

pub returns : goal.returns
returns c = record { may_answer = if_ok _ _ (λ jobs each plan workers ring. may_answer plan workers ring jobs.items each) c.fresh_jobs.result c.fresh_jobs.ensures }
