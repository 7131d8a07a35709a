-- The text of each node, where each job has one reply: by its events and its jobs alone.
use Rattle.std.proofs.Common.{◌≡◌, ℕ, false, cond, List, Option, Some, None, slice_get, sym, ap, ◌∙◌, subst}
use Rattle.std.proofs.lemmas.Bool.{cond-true, cond-false, false_from_ne_true}
use Rattle.descriptor.specs.Nodes.{reason_of}
use Rattle.plan_events.specs.declared.event.EventKind.TheVariants.{Finished, Skipped}
use Rattle.plan_events.specs.declared.event.Event.{Event}
use Rattle.plan_events.specs.declared.outcome.Reply.{Reply}
use Rattle.resource_locks.specs.Plans.{PlanParts}
use Rattle.event_history.specs.Plans.{IsPlanTree}
use Rattle.event_history.specs.Places.{StandsAt, has}
use Rattle.event_history.specs.Results.{jobs_of}
use Rattle.event_history.specs.History.{HasResult, IsLegal, IsTextOf, reason_or_cancelled}
use Rattle.event_history.specs.Expected.{HasOneReply, result_by}
use Rattle.event_history.proofs.Places.{has_stands, has_at}
use Rattle.event_history.proofs.Expectation.{text_in, result_is}

-- why it was skipped; else the text of the reply that decides; before that none
abbrev pub text_told : PlanParts → (ℕ → Reply) → List Event → ℕ → Option (List ℕ)
text_told p reply h n = cond (has Skipped n h) (Some (reason_or_cancelled (reason_of p.tree n))) (cond (has Finished n h) (text_in (result_by reply (jobs_of p n))) None)

module _ (p : PlanParts) (tree : IsPlanTree p.tree) (reply : ℕ → Reply) (replies : ℕ → List Reply) (one : HasOneReply reply replies) (workers : ℕ) (h : List Event) (legal : IsLegal p replies workers h) (n : ℕ) where
  unskipped : (i : ℕ) → StandsAt h i Finished n → has Skipped n h ≡ false
  unskipped i s = false_from_ne_true (has Skipped n h) (λ t. (let start = legal.after_start i n s in let skip = has_stands Skipped n h t in legal.apart start.place skip.0 n start.stands skip.1))

  by_finish : (i : ℕ) (e : Event) → slice_get h i ≡ Some e → e.kind ≡ Finished → e.node ≡ n → HasResult p replies h i e (text_told p reply h n)
  by_finish i e q k node =
      let s : StandsAt h i Finished n = record { event = e; here = q; kind = k; node = node } in
      let r = legal.result i e q k in
      let text : r.0 ≡ text_in (result_by reply (jobs_of p n)) = ap text_in (result_is p tree reply replies one workers h legal i e r.0 r.1).1 ∙ ap (λ (m : ℕ). text_in (result_by reply (jobs_of p m))) node in
      let told : text_told p reply h n ≡ text_in (result_by reply (jobs_of p n)) =
      cond-false (has Skipped n h) (Some (reason_or_cancelled (reason_of p.tree n))) (cond (has Finished n h) (text_in (result_by reply (jobs_of p n))) None) (unskipped i s)
      ∙ cond-true (has Finished n h) (text_in (result_by reply (jobs_of p n))) None (has_at s) in
      subst (HasResult p replies h i e) (text ∙ sym told) r.1

  -- It is the text of the node.
  pub text_is : IsTextOf p replies h n (text_told p reply h n)
  text_is = record {
    of_skip = λ i s. cond-true (has Skipped n h) (Some (reason_or_cancelled (reason_of p.tree n))) (cond (has Finished n h) (text_in (result_by reply (jobs_of p n))) None) (has_at s);
    of_finish = by_finish;
    of_none = λ unskipped unfinished.
        cond-false (has Skipped n h) (Some (reason_or_cancelled (reason_of p.tree n))) (cond (has Finished n h) (text_in (result_by reply (jobs_of p n))) None)
        (false_from_ne_true (has Skipped n h) (λ t. (let s = has_stands Skipped n h t in unskipped s.0 s.1)))
        ∙ cond-false (has Finished n h) (text_in (result_by reply (jobs_of p n))) None (false_from_ne_true (has Finished n h) (λ t. (let s = has_stands Finished n h t in unfinished s.0 s.1)));
  }
