-- How a node may end, by the replies of its jobs. No history is spoken of here.
use Rattle.std.specs.Prelude.{◌≡◌, ℕ, ◌<◌, Bool, true, false, cond, List, Option, Some, None, slice_get, codes, ◌⊎◌}
use Rattle.descriptor.specs.Nodes.{after_of, body_of}
use Rattle.plan_events.specs.declared.status.Status.{Status}
use Rattle.plan_events.specs.declared.status.Status.TheVariants.{Successful, Failed}
use Rattle.plan_events.specs.declared.outcome.Reply.{Reply}
use Rattle.plan_events.specs.Statuses.{is_successful}
use Rattle.resource_locks.specs.Plans.{PlanParts}
use Rattle.event_history.specs.Plans.{Sort, Leaf, Holder, Maker, has_child, spare_count, sort_of}

-- What is run for a node: nothing; a body alone; the body of a factory with so many spares; a container's body before
-- its children, and after them its after-body.
pub data Jobs : Type 0 where
  NoJob : Jobs
  Alone : (body : ℕ) → Jobs
  Pulled : (body spares : ℕ) → Jobs
  Around : (body after : Option ℕ) → Jobs

abbrev pub jobs_by : Sort → Option ℕ → Option ℕ → ℕ → Jobs
jobs_by Leaf None after spares = NoJob
jobs_by Leaf (Some body) after spares = Alone body
jobs_by Maker None after spares = NoJob
jobs_by Maker (Some body) after spares = Pulled body spares
jobs_by Holder body after spares = Around body after

-- the after-body that is run: that of a container with children
abbrev pub after_run : PlanParts → ℕ → Option ℕ
after_run p n = cond (has_child p n) (after_of p.tree n) None

-- what is run for node n
abbrev pub jobs_of : PlanParts → ℕ → Jobs
jobs_of p n = jobs_by (sort_of p.tree n) (body_of p.tree n) (after_run p n) (spare_count p n)

-- one of the replies that the job may give has this status and this text
pub record HasReply (replies : ℕ → List Reply) (job : ℕ) (status : Status) (text : Option (List ℕ)) : Type 0 where
  pub place : ℕ
  pub reply : Reply
  pub stands : slice_get (replies job) place ≡ Some reply
  pub status_is : status ≡ reply.outcome.status
  pub text_is : text ≡ Some reply.outcome.text

-- a reply with as many pulls as spares are registered, and its status and text
pub record HasPulls (replies : ℕ → List Reply) (job registered : ℕ) (status : Status) (text : Option (List ℕ)) : Type 0 where
  pub place : ℕ
  pub reply : Reply
  pub stands : slice_get (replies job) place ≡ Some reply
  pub pulls : reply.pulls ≡ registered
  pub status_is : status ≡ reply.outcome.status
  pub text_is : text ≡ Some reply.outcome.text

abbrev pub too_many : List ℕ
too_many = codes "too many dynamic tests"

-- all spares are registered, a reply has more pulls, and that is a failure
pub record HasTooMany (replies : ℕ → List Reply) (job spares registered : ℕ) (status : Status) (text : Option (List ℕ)) : Type 0 where
  pub all : registered ≡ spares
  pub place : ℕ
  pub reply : Reply
  pub stands : slice_get (replies job) place ≡ Some reply
  pub more : spares < reply.pulls
  pub status_is : status ≡ Failed
  pub text_is : text ≡ Some too_many

-- a job that isn't there answers nothing, and with success
abbrev pub HasAnswer : (ℕ → List Reply) → Option ℕ → Status → Option (List ℕ) → Type 0
HasAnswer replies None status text = (status ≡ Successful) × (text ≡ None)
HasAnswer replies (Some job) status text = HasReply replies job status text

-- a body that stops its container before its children: a reply of it that isn't successful
pub record StopsBy (replies : ℕ → List Reply) (body : ℕ) (status : Status) (text : Option (List ℕ)) : Type 0 where
  pub answer : HasReply replies body status text
  pub unsuccessful : is_successful status ≡ false

-- a container whose body let it go on: its after-body answers last, where it is run, and else its body
abbrev pub EndsAfter : (ℕ → List Reply) → Option ℕ → Option ℕ → Status → Option (List ℕ) → Type 0
EndsAfter replies body None status text = (status ≡ Successful) × HasAnswer replies body Successful text
EndsAfter replies body (Some after) status text = ((first : Option (List ℕ)) × HasAnswer replies body Successful first) × HasReply replies after status text

-- A lawful end of a node that is stopped before its children: a container, that is no factory, with a body.
abbrev pub EndsEarly : (ℕ → List Reply) → Jobs → Status → Option (List ℕ) → Type 0
EndsEarly replies (Around (Some body) after) status text = StopsBy replies body status text
EndsEarly replies _ status text = ⊥

-- A lawful end of a node that is not, and that has so many registered spares.
abbrev pub EndsLast : (ℕ → List Reply) → Jobs → ℕ → Status → Option (List ℕ) → Type 0
EndsLast replies NoJob registered status text = (status ≡ Successful) × (text ≡ None)
EndsLast replies (Alone body) registered status text = HasReply replies body status text
EndsLast replies (Pulled body spares) registered status text = HasPulls replies body registered status text ⊎ HasTooMany replies body spares registered status text
EndsLast replies (Around body after) registered status text = EndsAfter replies body after status text

-- a lawful end of a node that is stopped before its children, or not
abbrev pub Ends : (ℕ → List Reply) → Jobs → Bool → ℕ → Status → Option (List ℕ) → Type 0
Ends replies jobs true registered status text = EndsEarly replies jobs status text
Ends replies jobs false registered status text = EndsLast replies jobs registered status text

-- whether a node for which these are run may be stopped: a container, that is no factory, with a body
abbrev pub is_stoppable : Jobs → Bool
is_stoppable (Around (Some body) after) = true
is_stoppable _ = false
