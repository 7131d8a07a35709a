-- What the ends of a node say of its jobs.
use Rattle.std.proofs.Common.{◌≡◌, ℕ, Bool, true, false, List, cond, Option, Some, None, refl, ap}
use Rattle.std.proofs.lemmas.Bool.{both_ways, false≢true}
use Rattle.descriptor.specs.Nodes.{after_of, body_of}
use Rattle.plan_events.specs.declared.status.Status.{Status}
use Rattle.plan_events.specs.declared.outcome.Reply.{Reply}
use Rattle.plan_events.specs.Statuses.{is_successful}
use Rattle.resource_locks.specs.Plans.{PlanParts}
use Rattle.event_history.specs.Plans.{Sort, Leaf, Holder, Maker, has_child, spare_count, sort_of}
use Rattle.event_history.specs.Results.{Jobs, NoJob, Alone, Pulled, Around, jobs_by, jobs_of, EndsEarly, EndsLast, is_stoppable}

-- only a container with a body ends early, and not with success
pub early : (replies : ℕ → List Reply) (jobs : Jobs) (status : Status) (text : Option (List ℕ)) → EndsEarly replies jobs status text → (is_stoppable jobs ≡ true) × (is_successful status ≡ false)
early replies (Around (Some body) after) status text r = (refl, r.unsuccessful)
early replies (Around None after) status text r = absurd r
early replies NoJob status text r = absurd r
early replies (Alone body) status text r = absurd r
early replies (Pulled body spares) status text r = absurd r

-- a container with a body that ends last and without success has an after-body that is run, and so a child
pub last_has_child : (p : PlanParts) (replies : ℕ → List Reply) (a k : ℕ) (status : Status) (text : Option (List ℕ)) → EndsLast replies (jobs_of p a) k status text
    → is_stoppable (jobs_of p a) ≡ true → is_successful status ≡ false → (has_child p a ≡ true) × (sort_of p.tree a ≡ Holder)
last_has_child p replies a k status text = go (sort_of p.tree a) (body_of p.tree a) (after_of p.tree a) (has_child p a) (spare_count p a)
  where
    go : (sort : Sort) (body after : Option ℕ) (c : Bool) (m : ℕ) → EndsLast replies (jobs_by sort body (cond c after None) m) k status text
        → is_stoppable (jobs_by sort body (cond c after None) m) ≡ true → is_successful status ≡ false → (c ≡ true) × (sort ≡ Holder)
    go Leaf None after c m r b u = absurd (false≢true b)
    go Leaf (Some body) after c m r b u = absurd (false≢true b)
    go Maker None after c m r b u = absurd (false≢true b)
    go Maker (Some body) after c m r b u = absurd (false≢true b)
    go Holder None after c m r b u = absurd (false≢true b)
    go Holder (Some body) after true m r b u = (refl, refl)
    go Holder (Some body) after false m r b u = absurd (both_ways (is_successful status) u (ap is_successful r.0))
