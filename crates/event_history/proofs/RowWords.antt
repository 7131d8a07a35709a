-- Short names for the nodes, events and replies of the tests by rows.
use Rattle.std.proofs.Common.{ℕ, ◌==◌, cond, List, [], ◌∷◌, Option, Some, None}
use Rattle.descriptor.specs.declared.kind.Kind.{Kind}
use Rattle.descriptor.specs.declared.lock.Lock.{Lock}
use Rattle.descriptor.specs.declared.lock_mode.LockMode.{LockMode}
use Rattle.descriptor.specs.declared.node.Node.{Node}
use Rattle.descriptor.specs.declared.role.Role.{Role}
use Rattle.descriptor.specs.PlainNodes.{plain}
use Rattle.plan_events.specs.declared.event.Event.{Event}
use Rattle.plan_events.specs.declared.event.EventKind.{EventKind}
use Rattle.plan_events.specs.declared.event.EventKind.TheVariants.{Started, Finished, Skipped, Registered}
use Rattle.plan_events.specs.declared.outcome.Reply.{Reply}
use Rattle.plan_events.specs.declared.status.Status.{Status}
use Rattle.plan_events.specs.declared.status.Status.TheVariants.{Successful, Aborted, Failed}

abbrev pub a_node : Kind → Role → Option ℕ → Option ℕ → Option (List ℕ) → Node
a_node kind role body after disabled = record (plain [] [] kind) { role = role; body = body; after = after; disabled = disabled }

abbrev pub a_lock : List ℕ → LockMode → Lock
a_lock key mode = record { key = key; mode = mode }

abbrev pub an_event : EventKind → ℕ → Option Status → ℕ → Event
an_event kind node status worker = record { kind = kind; node = node; status = status; worker = worker }

-- what happened to a node, and the worker

abbrev pub started : ℕ → ℕ → Event
started node worker = an_event Started node None worker

abbrev pub skipped : ℕ → ℕ → Event
skipped node worker = an_event Skipped node None worker

abbrev pub registered : ℕ → ℕ → Event
registered node worker = an_event Registered node None worker

abbrev pub finished : ℕ → ℕ → Event
finished node worker = an_event Finished node (Some Successful) worker

abbrev pub aborted : ℕ → ℕ → Event
aborted node worker = an_event Finished node (Some Aborted) worker

abbrev pub failed : ℕ → ℕ → Event
failed node worker = an_event Finished node (Some Failed) worker

abbrev pub a_reply : Status → List ℕ → ℕ → Reply
a_reply status text pulls = record { pulls = pulls; outcome = record { status = status; text = text } }

-- the replies of each job: those that stand with it, or one without anything to say
abbrev pub replies_in : List (ℕ × List Reply) → ℕ → List Reply
replies_in [] job = a_reply Successful [] 0 ∷ []
replies_in (x ∷ more) job = cond (x.0 == job) x.1 (replies_in more job)

abbrev pub first_of_all : List Reply → Reply
first_of_all [] = a_reply Successful [] 0
first_of_all (r ∷ more) = r
