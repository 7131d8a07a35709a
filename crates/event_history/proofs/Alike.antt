-- Any two complete legal histories have the same results and the same events of each node, whatever ran them.
use Rattle.std.proofs.Common.{◌≡◌, ℕ, ◌<◌, false, List, sym, ap, ◌∙◌}
use Rattle.descriptor.specs.Nodes.{size}
use Rattle.plan_events.specs.declared.event.EventKind.{EventKind}
use Rattle.plan_events.specs.declared.event.EventKind.TheVariants.{Finished}
use Rattle.plan_events.specs.declared.event.Event.{Event}
use Rattle.plan_events.specs.declared.outcome.Reply.{Reply}
use Rattle.resource_locks.specs.Plans.{PlanParts}
use Rattle.event_history.specs.Plans.{IsPlanTree}
use Rattle.event_history.specs.Places.{StandsAt, has}
use Rattle.event_history.specs.History.{IsLegal, IsComplete}
use Rattle.event_history.specs.Results.{jobs_of}
use Rattle.event_history.specs.Expected.{HasOneReply, result_by}
use Rattle.event_history.proofs.Expectation.{status_in, result_is}
use Rattle.event_history.proofs.Flags.{flags}

module _ (p : PlanParts) (tree : IsPlanTree p.tree) (reply : ℕ → Reply) (replies : ℕ → List Reply) (one : HasOneReply reply replies) (v w : ℕ) (g h : List Event)
    (a : IsLegal p replies v g) (b : IsLegal p replies w h) where
  -- a node that finishes in both has one status
  pub same_status : (i j n : ℕ) → (s : StandsAt g i Finished n) → (t : StandsAt h j Finished n) → s.event.status ≡ t.event.status
  same_status i j n s t =
      let x = a.result i s.event s.here s.kind in
      let y = b.result j t.event t.here t.kind in
      x.1.here ∙ ap status_in (result_is p tree reply replies one v g a i s.event x.0 x.1).1
      ∙ ap (λ (m : ℕ). status_in (result_by reply (jobs_of p m))) (s.node ∙ sym t.node)
      ∙ sym (y.1.here ∙ ap status_in (result_is p tree reply replies one w h b j t.event y.0 y.1).1)

  -- and each node has the same events
  pub same_events : p.fail_fast ≡ false → IsComplete p g → IsComplete p h → (n : ℕ) (k : EventKind) → n < size p.tree → has k n g ≡ has k n h
  same_events slow c d n k inside = flags p tree reply replies one v g a slow c n k inside ∙ sym (flags p tree reply replies one w h b slow d n k inside)
