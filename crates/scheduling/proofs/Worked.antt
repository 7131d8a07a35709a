-- Runs that the prover computes, with one worker that takes whatever step its task allows.
use Rattle.std.proofs.Common.{◌≡◌, ℕ, zero, suc, Bool, true, false, List, [], ◌∷◌, Option, Some, None, slice_get, refl}
use Rattle.descriptor.specs.declared.node.Node.{Node}
use Rattle.descriptor.specs.declared.kind.Kind.{Kind}
use Rattle.descriptor.specs.declared.kind.Kind.TheVariants.{Test, Container}
use Rattle.descriptor.specs.declared.role.Role.{Role}
use Rattle.descriptor.specs.declared.role.Role.TheVariants.{Plain, Factory, Spare}
use Rattle.descriptor.specs.declared.lock_mode.LockMode.TheVariants.{ReadWrite}
use Rattle.descriptor.specs.Nodes.{size}
use Rattle.descriptor.specs.declared.mode.Mode.TheVariants.{SameThread, Concurrent}
use Rattle.descriptor.specs.PlainNodes.{plain}
use Rattle.plan_events.specs.declared.status.Status.{Status}
use Rattle.plan_events.specs.declared.status.Status.TheVariants.{Successful, Failed}
use Rattle.plan_events.specs.declared.outcome.Reply.{Reply}
use Rattle.plan_events.specs.declared.event.Event.{Event}
use Rattle.plan_events.specs.declared.event.EventKind.{EventKind}
use Rattle.plan_events.specs.declared.event.EventKind.TheVariants.{Started, Finished, Skipped, Registered}
use Rattle.resource_locks.specs.Plans.{PlanParts}
use Rattle.scheduling.specs.declared.task.Task.{Task}
use Rattle.scheduling.specs.declared.task.Task.TheVariants.{Free, Opens, Closes}
use Rattle.scheduling.specs.declared.seat.Hand.{Hand}
use Rattle.scheduling.specs.declared.seat.Seat.{Seat}
use Rattle.scheduling.specs.State.{State, status_at}
use Rattle.scheduling.specs.Choices.{decided, first_from, key_place}
use Rattle.scheduling.specs.declared.step.Action.{Action}
use Rattle.scheduling.specs.declared.step.Action.TheVariants.{Look}
use Rattle.scheduling.specs.Rows.{Works, Dispatches}
use Rattle.scheduling.specs.Runs.{opening, next}
use Rattle.scheduling.specs.Schedule.{is_open, taking, hand_action, opening_action, closing_action}

take_up : State → Option ℕ → Action
take_up s None = Look
take_up s (Some n) = taking (status_at s n) n

free_action : PlanParts → State → Reply → Option Hand → Action
free_action p s reply None = take_up s (first_from (λ n. is_open (status_at s n)) 0 (size p.tree))
free_action p s reply (Some hand) = hand_action p reply hand

action_of : PlanParts → State → Reply → Option Hand → Task → Action
action_of p s reply hand Free = free_action p s reply hand
action_of p s reply hand (Opens n d) = opening_action d
action_of p s reply hand (Closes n d) = closing_action d

choose : PlanParts → State → Reply → Option Seat → Action
choose p s reply None = Look
choose p s reply (Some seat) = action_of p s reply seat.hand (decided p reply seat.task)

drive : PlanParts → Reply → ℕ → State → State
drive p reply zero s = s
drive p reply (suc n) s = drive p reply n (next p (next p s (Works 0 (choose p s reply (slice_get s.seats 0)) reply)) Dispatches)

node : Kind → Role → Option ℕ → Option ℕ → Node
node kind role body after = record (plain [] [] kind) { role = role; body = body; after = after }

-- 0 plan; 1 class with an after-body; 2, 3 its tests, of which the first holds a key
class : Bool → PlanParts
class fail_fast = record {
  tree = record { parents = 0 ∷ 0 ∷ 1 ∷ 1 ∷ []; nodes = node Container Plain None (Some 9) ∷ node Test Plain (Some 2) None ∷ node Test Plain (Some 3) None ∷ [] };
  held = [] ∷ [] ∷ (record { key = 7 ∷ []; mode = ReadWrite } ∷ []) ∷ [] ∷ [];
  keys = (7 ∷ []) ∷ [];
  limits = [];
  modes = Concurrent ∷ Concurrent ∷ SameThread ∷ SameThread ∷ [];
  fail_fast = fail_fast;
  tolerated = 0;
}

-- 0 plan; 1 factory; 2, 3 its spares
factory : PlanParts
factory = record {
  tree = record { parents = 0 ∷ 0 ∷ 1 ∷ 1 ∷ []; nodes = node Container Factory (Some 1) None ∷ node Test Spare (Some 2) None ∷ node Test Spare (Some 3) None ∷ [] };
  held = [] ∷ [] ∷ [] ∷ [] ∷ [];
  keys = [];
  limits = [];
  modes = Concurrent ∷ Concurrent ∷ SameThread ∷ SameThread ∷ [];
  fail_fast = false;
  tolerated = 0;
}

reply_of : Status → Reply
reply_of status = record { pulls = 1; outcome = record { status = status; text = [] } }

-- what is told of an event: its kind, by a number, and its node
told : List Event → List (ℕ × ℕ)
told [] = []
told (e ∷ list) = (go e.kind, e.node) ∷ told list
  where
    go : EventKind → ℕ
    go Started = 1
    go Finished = 2
    go Skipped = 3
    go Registered = 4

class_run : told (drive (class false) (reply_of Successful) 40 (opening (class false) 1)).given ≡ (1, 0) ∷ (1, 1) ∷ (1, 2) ∷ (2, 2) ∷ (1, 3) ∷ (2, 3) ∷ (2, 1) ∷ (2, 0) ∷ []
unfolding take_up free_action action_of choose drive node class reply_of told key_place
class_run = refl

-- the first test fails, and the second is skipped
fast_run : told (drive (class true) (reply_of Failed) 45 (opening (class true) 1)).given ≡ (1, 0) ∷ (1, 1) ∷ (1, 2) ∷ (2, 2) ∷ (3, 3) ∷ (2, 1) ∷ (2, 0) ∷ []
unfolding take_up free_action action_of choose drive node class reply_of told key_place
fast_run = refl

-- one spare is registered, and the other never
factory_run : told (drive factory (reply_of Successful) 40 (opening factory 1)).given ≡ (1, 0) ∷ (1, 1) ∷ (4, 2) ∷ (1, 2) ∷ (2, 2) ∷ (2, 1) ∷ (2, 0) ∷ []
unfolding take_up free_action action_of choose drive node factory reply_of told key_place
factory_run = refl
