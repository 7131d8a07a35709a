-- What the replies alone decide of a complete history, as clauses of a run cite it.
use Rattle.std.proofs.Common.{◌≡◌, ℕ, ◌<◌, suc, true, false, List, arith}
use Rattle.descriptor.specs.Nodes.{IsTree, size}
use Rattle.plan_events.specs.declared.event.Event.{Event}
use Rattle.plan_events.specs.declared.outcome.Reply.{Reply}
use Rattle.resource_locks.specs.Plans.{PlanParts}
use Rattle.event_history.specs.Plans.{is_same}
use Rattle.event_history.specs.History.{IsLegal, IsComplete}
use Rattle.event_history.specs.Order.{IsInOrder}
use Rattle.event_history.specs.Expected.{HasOneReply, expected, IsAsExpected}
use Rattle.event_history.proofs.Expectation.{as_expected_by}
use Rattle.event_history.proofs.Only.{only_run}
use Rattle.event_history.proofs.Spares.{plan_tree}

-- Where all nodes run on one thread and each job has one reply, one worker has one complete legal history, in a plan that
-- fails fast as well.
pub only_history : (p : PlanParts) → IsTree p.tree → (reply : ℕ → Reply) (replies : ℕ → List Reply) → HasOneReply reply replies → ((n : ℕ) → n < size p.tree → is_same p n ≡ true) → (h k : List Event)
    → IsLegal p replies 1 h → IsInOrder p h → IsComplete p h → IsLegal p replies 1 k → IsInOrder p k → IsComplete p k → h ≡ k
only_history p tree reply replies one all h k legal order complete legal' order' complete' =
    only_run p (plan_tree p.tree tree) reply replies one h k (record { legal = legal; order = order; complete = complete }) (record { legal = legal'; order = order'; complete = complete' })
    (λ n pos inside. all n inside)

-- Where each job has one reply and the plan does not fail fast, each node's result is the one expected of it, whatever the
-- number of workers.
pub as_expected : (p : PlanParts) → IsTree p.tree → (reply : ℕ → Reply) (replies : ℕ → List Reply) → HasOneReply reply replies → p.fail_fast ≡ false → (workers : ℕ) (h : List Event) → IsLegal p replies workers h → IsComplete p h
    → (n : ℕ) → n < size p.tree → IsAsExpected p replies h n (expected p reply n)
as_expected p tree reply replies one slow workers h legal complete n inside = as_expected_by p (plan_tree p.tree tree) reply replies one workers h legal slow complete (suc n) n (omega arith) inside
