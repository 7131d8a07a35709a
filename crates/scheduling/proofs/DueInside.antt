-- A node that is offered, or whose guard is given up, is one of the tree's.
use Rattle.std.proofs.Common.{◌≡◌, ℕ, ◌<◌, Bool, true, false, cond, Option, Some, None, refl, subst}
use Rattle.std.proofs.lemmas.Option.{none-some, same_Some}
use Rattle.descriptor.specs.Nodes.{size, IsChild}
use Rattle.plan_events.specs.declared.outcome.Reply.{Reply}
use Rattle.plan_events.specs.declared.status.Status.TheVariants.{Successful}
use Rattle.resource_locks.specs.Plans.{PlanParts}
use Rattle.scheduling.specs.declared.task.Opening.{Opening}
use Rattle.scheduling.specs.declared.task.Opening.TheVariants.{Offering, Admitting, Guarding}
use Rattle.scheduling.specs.declared.task.Closing.TheVariants.{Passing}
use Rattle.scheduling.specs.declared.task.Task.{Task}
use Rattle.scheduling.specs.declared.task.Task.TheVariants.{Free, Opens, Closes}
use Rattle.scheduling.specs.declared.seat.Hand.{Hand}
use Rattle.scheduling.specs.declared.seat.Seat.{Seat}
use Rattle.scheduling.specs.Choices.{offered_to, is_pulled, pulled_result}
use Rattle.scheduling.specs.Due.{Offer, offer_to, offer_due, Guard, guard_to, pulled_guard, hand_guard, guard_due}

module _ (p : PlanParts) (t : Task) (opens : (n : ℕ) (d : Opening) → t ≡ Opens n d → n < size p.tree) where
  pub offer_inside : (w : ℕ) (o : Offer) → ((n c : ℕ) (d : Opening) → t ≡ Opens n d → d ≡ Admitting c → IsChild p.tree n c) → ((n m v : ℕ) → t ≡ Closes n (Passing m v) → m < size p.tree) → offer_due p w t ≡ Some o → o.node < size p.tree
  offer_inside w o admits passes due = by t refl due
    where
      by : (x : Task) → t ≡ x → offer_due p w x ≡ Some o → o.node < size p.tree
      by (Opens n (Admitting c)) is q = subst (λ (y : Offer). y.node < size p.tree) (same_Some (offer_to c (offered_to p w c)) o q) (admits n c (Admitting c) is refl).inside
      by (Opens n Offering) is q = subst (λ (y : Offer). y.node < size p.tree) (same_Some (offer_to n (offered_to p w n)) o q) (opens n Offering is)
      by (Closes n (Passing m v)) is q = subst (λ (y : Offer). y.node < size p.tree) (same_Some (offer_to m (Some v)) o q) (passes n m v is)
      by _ is q = absurd (none-some o q)

  pulled_inside : (f k : ℕ) (waiting : Option ℕ) (reply : Reply) (g : Guard) → f < size p.tree → pulled_guard p f k waiting reply ≡ Some g → g.node < size p.tree
  pulled_inside f k (Some c) reply g low q = absurd (none-some g q)
  pulled_inside f k None reply g low q = by (is_pulled p f k reply) q
    where
      by : (b : Bool) → cond b (Some (guard_to f (pulled_result k reply) None)) None ≡ Some g → g.node < size p.tree
      by true r = subst (λ (y : Guard). y.node < size p.tree) (same_Some (guard_to f (pulled_result k reply) None) g r) low
      by false r = absurd (none-some g r)

  hand_inside : (hand : Option Hand) (answer : Option Reply) (g : Guard) → ((h : Hand) → hand ≡ Some h → h.factory < size p.tree) → hand_guard p hand answer ≡ Some g → g.node < size p.tree
  hand_inside None answer g low q = absurd (none-some g q)
  hand_inside (Some h) None g low q = absurd (none-some g q)
  hand_inside (Some h) (Some reply) g low q = pulled_inside h.factory h.registered h.waiting reply g (low h refl) q

  pub guard_inside : (answer : Option Reply) (seat : Seat) (g : Guard) → ((h : Hand) → seat.hand ≡ Some h → h.factory < size p.tree) → guard_due p answer seat t ≡ Some g → g.node < size p.tree
  guard_inside answer seat g low due = by t refl due
    where
      by : (x : Task) → t ≡ x → guard_due p answer seat x ≡ Some g → g.node < size p.tree
      by (Opens n Guarding) is q = subst (λ (y : Guard). y.node < size p.tree) (same_Some (guard_to n Successful seat.hand) g q) (opens n Guarding is)
      by Free is q = hand_inside seat.hand answer g low q
      by _ is q = absurd (none-some g q)
