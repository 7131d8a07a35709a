-- What is kept whatever the factories in hand ask for, is kept by each reply that asks for no less than was asked for.
use Rattle.std.proofs.Common.{◌≡◌, ℕ, ◌<◌, ◌≤◌, true, List, Option, Some, None, slice_get, refl, arith}
use Rattle.std.proofs.lemmas.Bool.{false≢true}
use Rattle.plan_events.specs.declared.outcome.Reply.{Reply}
use Rattle.resource_locks.specs.Plans.{PlanParts}
use Rattle.scheduling.specs.declared.seat.Hand.{Hand}
use Rattle.scheduling.specs.declared.seat.Seat.{Seat}
use Rattle.scheduling.specs.declared.task.Opening.TheVariants.{Registering}
use Rattle.scheduling.specs.declared.task.Task.{Task}
use Rattle.scheduling.specs.declared.task.Task.TheVariants.{Opens}
use Rattle.scheduling.specs.State.{State}
use Rattle.scheduling.specs.Inside.Going.{is_registering}
use Rattle.never_stuck.specs.Inside.Progress.{HandsOn, IsOn, IsOnAnyhow, endless}
use Rattle.never_stuck.specs.Reaching.{asked_by, MayReply}

asks_all : (hand : Hand) (t : Task) → hand.registered ≤ asked_by t hand
asks_all hand (Opens n Registering) = omega arith
asks_all hand _ = omega arith

asks_more : (hand : Hand) (t : Task) → is_registering t ≡ true → hand.registered < asked_by t hand
asks_more hand (Opens n Registering) q = omega arith
asks_more hand _ q = absurd (false≢true q)

pub on_as_asked : (p : PlanParts) (told : ℕ → List Reply) (s : State) (reply : ℕ → Reply) → MayReply p told s reply → IsOnAnyhow p s → IsOn p reply s
on_as_asked p told s reply may on = record {
  root = on.root;
  offered = on.offered;
  claimed = on.claimed;
  batch = on.batch;
  siblings = on.siblings;
  counts = on.counts;
  seats = λ w o at. record { task = (on.seats w o at).task; hand = hands w o at o.hand refl (on.seats w o at).hand };
}
  where
    hands : (w : ℕ) (o : Seat) → slice_get s.seats w ≡ Some o → (hand : Option Hand) → o.hand ≡ hand → HandsOn p endless s.statuses w o.task hand → HandsOn p reply s.statuses w o.task hand
    hands w o at None e old = tt
    hands w o at (Some hand) e old = record {
      about = old.about;
      waits = old.waits;
      pulls = λ job body. (let all = asks_all hand o.task in let asks = may.asked w o hand job at e body in omega (arith, all, asks));
      more = λ q job body. (let more = asks_more hand o.task q in let asks = may.asked w o hand job at e body in omega (arith, more, asks));
    }
