-- Which events a node of a complete legal history has, by what is expected of it.
use Rattle.std.proofs.Common.{◌≡◌, ℕ, ◌<◌, Bool, true, false, List, inl, inr, refl, sym, subst}
use Rattle.std.proofs.lemmas.Bool.{and_parts, both_ways, false_from_ne_true}
use Rattle.descriptor.specs.Nodes.{size, is_spare_at}
use Rattle.plan_events.specs.declared.event.EventKind.{EventKind}
use Rattle.plan_events.specs.declared.event.EventKind.TheVariants.{Started, Finished, Skipped, Registered}
use Rattle.plan_events.specs.declared.event.Event.{Event}
use Rattle.plan_events.specs.declared.outcome.Reply.{Reply}
use Rattle.resource_locks.specs.Plans.{PlanParts}
use Rattle.event_history.specs.Plans.{IsPlanTree}
use Rattle.event_history.specs.Places.{StandsAt, has}
use Rattle.event_history.specs.History.{IsLegal, IsComplete}
use Rattle.event_history.specs.Expected.{Expected, Silent, Skips, Finishes, HasOneReply, expected, IsAsExpected}
use Rattle.event_history.proofs.Places.{has_stands, has_at}
use Rattle.event_history.proofs.Expectation.{as_expected}

-- whether an event of this kind is expected of a spare, or of another node; a spare alone is registered
abbrev pub flag : Bool → EventKind → Expected → Bool
flag spare k Silent = false
flag spare Skipped Skips = true
flag spare Registered Skips = spare
flag spare Started Skips = false
flag spare Finished Skips = false
flag spare Started (Finishes s t) = true
flag spare Finished (Finishes s t) = true
flag spare Registered (Finishes s t) = spare
flag spare Skipped (Finishes s t) = false

module _ (p : PlanParts) (replies : ℕ → List Reply) (workers : ℕ) (h : List Event) (legal : IsLegal p replies workers h) where
  -- what was seen of a node was registered if it is a spare, and else was not
  registered_as : (i n : ℕ) (k : EventKind) (b : Bool) → is_spare_at p.tree n ≡ b → StandsAt h i k n → has Registered n h ≡ b
  registered_as i n k true q s =
      elim (legal.after_registered i s.event s.here (subst (λ (x : ℕ). is_spare_at p.tree x ≡ true) (sym s.node) q)) [
        | inl r ↦ has_at {i = i} (record { event = s.event; here = s.here; kind = r; node = s.node })
        | inr r ↦ subst (λ (x : ℕ). has Registered x h ≡ true) s.node (has_at r.stands)
      ]
  registered_as i n k false q s = false_from_ne_true (has Registered n h) (λ t. (let r = has_stands Registered n h t in spares r.0 r.1))
    where
      spares : (j : ℕ) → StandsAt h j Registered n → ⊥
      spares j r = both_ways (is_spare_at p.tree n) q (and_parts (is_spare_at p.tree n) _ (legal.registered j n r)).0

  never : (n : ℕ) (k : EventKind) → ((i : ℕ) → StandsAt h i k n → ⊥) → has k n h ≡ false
  never n k none = false_from_ne_true (has k n h) (λ t. (let r = has_stands k n h t in none r.0 r.1))

  pub flag_by : (n : ℕ) (k : EventKind) (x : Expected) → IsAsExpected p replies h n x → has k n h ≡ flag (is_spare_at p.tree n) k x
  flag_by n k Silent none = never n k (λ i s. none i s.event s.here s.node)
  flag_by n Skipped Skips s = has_at s.1
  flag_by n Registered Skips s = registered_as s.0 n Skipped (is_spare_at p.tree n) refl s.1
  flag_by n Started Skips s = never n Started (λ i t. legal.apart i s.0 n t s.1)
  flag_by n Finished Skips s = never n Finished (λ i t. (let u = legal.after_start i n t in legal.apart u.place s.0 n u.stands s.1))
  flag_by n Started (Finishes status text) e = (let u = legal.after_start e.place n (record { event = e.event; here = e.here; kind = e.kind; node = e.node }) in has_at u.stands)
  flag_by n Finished (Finishes status text) e = has_at {i = e.place} (record { event = e.event; here = e.here; kind = e.kind; node = e.node })
  flag_by n Registered (Finishes status text) e = registered_as e.place n Finished (is_spare_at p.tree n) refl (record { event = e.event; here = e.here; kind = e.kind; node = e.node })
  flag_by n Skipped (Finishes status text) e = never n Skipped (λ i t. (let u = legal.after_start e.place n (record { event = e.event; here = e.here; kind = e.kind; node = e.node }) in legal.apart u.place i n u.stands t))

module _ (p : PlanParts) (tree : IsPlanTree p.tree) (reply : ℕ → Reply) (replies : ℕ → List Reply) (one : HasOneReply reply replies) (workers : ℕ) (h : List Event) (legal : IsLegal p replies workers h)
    (slow : p.fail_fast ≡ false) (complete : IsComplete p h) where
  -- A node of a complete legal history has the events that are expected of it, and no others.
  pub flags : (n : ℕ) (k : EventKind) → n < size p.tree → has k n h ≡ flag (is_spare_at p.tree n) k (expected p reply n)
  flags n k inside = flag_by p replies workers h legal n k (expected p reply n) (as_expected p tree reply replies one workers h legal slow complete n inside)
