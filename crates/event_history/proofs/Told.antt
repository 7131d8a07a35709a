-- The text of each node is the one that is expected of it.
use Rattle.std.proofs.Common.{◌≡◌, ℕ, ◌<◌, false, List, Option, Some, None}
use Rattle.descriptor.specs.Nodes.{size, reason_of}
use Rattle.plan_events.specs.declared.event.Event.{Event}
use Rattle.plan_events.specs.declared.outcome.Reply.{Reply}
use Rattle.resource_locks.specs.Plans.{PlanParts}
use Rattle.event_history.specs.Plans.{IsPlanTree}
use Rattle.event_history.specs.History.{IsLegal, IsComplete, IsTextOf, reason_or_cancelled}
use Rattle.event_history.specs.Expected.{Expected, Silent, Skips, Finishes, HasOneReply, expected, IsAsExpected}
use Rattle.event_history.proofs.Expectation.{as_expected}

-- the text that is expected of a node: its reason, the text of its result, or none
abbrev pub text_expected : PlanParts → ℕ → Expected → Option (List ℕ)
text_expected p n Silent = None
text_expected p n Skips = Some (reason_or_cancelled (reason_of p.tree n))
text_expected p n (Finishes status text) = text

module _ (p : PlanParts) (tree : IsPlanTree p.tree) (reply : ℕ → Reply) (replies : ℕ → List Reply) (one : HasOneReply reply replies) (workers : ℕ) (h : List Event) (legal : IsLegal p replies workers h)
    (slow : p.fail_fast ≡ false) (complete : IsComplete p h) where
  text_by : (n : ℕ) (x : Expected) (text : Option (List ℕ)) → IsAsExpected p replies h n x → IsTextOf p replies h n text → text ≡ text_expected p n x
  text_by n Silent text none t = t.of_none (λ i s. none i s.event s.here s.node) (λ i s. none i s.event s.here s.node)
  text_by n Skips text s t = t.of_skip s.0 s.1
  text_by n (Finishes status other) text e t = e.only text (t.of_finish e.place e.event e.here e.kind e.node)

  -- The text of each node is the one that is expected of it.
  pub told : (n : ℕ) (text : Option (List ℕ)) → n < size p.tree → IsTextOf p replies h n text → text ≡ text_expected p n (expected p reply n)
  told n text inside t = text_by n (expected p reply n) text (as_expected p tree reply replies one workers h legal slow complete n inside) t
