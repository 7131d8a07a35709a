-- What another writing of these definitions says of many lists of events on plans in which keys have limits: the tests agree. Written by a program.
use Rattle.std.specs.Prelude.{codes}
use Rattle.std.specs.List.{list_all}
use Rattle.std.proofs.Common.{◌≡◌, ℕ, true, false, List, [], ◌∷◌, Some, None, map, refl}
use Rattle.descriptor.specs.declared.kind.Kind.TheVariants.{Test, Container, ContainerAndTest}
use Rattle.descriptor.specs.declared.lock_mode.LockMode.TheVariants.{Read, ReadWrite}
use Rattle.descriptor.specs.declared.mode.Mode.TheVariants.{SameThread, Concurrent}
use Rattle.descriptor.specs.declared.role.Role.TheVariants.{Plain}
use Rattle.plan_events.specs.declared.event.Event.{Event}
use Rattle.plan_events.specs.declared.outcome.Reply.{Reply}
use Rattle.plan_events.specs.declared.status.Status.TheVariants.{Successful, Aborted, Failed}
use Rattle.resource_locks.specs.Plans.{PlanParts}
use Rattle.event_history.proofs.Deciding.{is_legal}
use Rattle.event_history.proofs.DecidingLimits.{is_within}
use Rattle.event_history.proofs.DecidingOrder.{is_in_order}
use Rattle.event_history.proofs.PlanTrees.{is_plan_tree}
use Rattle.event_history.proofs.RowWords.{a_node, started, finished, aborted, failed, skipped, registered, a_reply, replies_in, a_lock}

abbrev plan_1 : PlanParts
plan_1 = record { tree = record { parents = 0 ∷ 0 ∷ 1 ∷ 1 ∷ 1 ∷ 1 ∷ 1 ∷ []; nodes = a_node Container Plain None None None ∷ a_node Test Plain None None None ∷ a_node Test Plain None None None ∷ a_node Test Plain None None None ∷ a_node Test Plain None None None ∷ a_node Test Plain None None None ∷ [] }; held = ([]) ∷ ([]) ∷ (a_lock (codes "db") Read ∷ []) ∷ (a_lock (codes "db") Read ∷ []) ∷ (a_lock (codes "db") Read ∷ []) ∷ (a_lock (codes "db") ReadWrite ∷ []) ∷ ([]) ∷ []; keys = (codes "db") ∷ []; limits = 2 ∷ []; modes = SameThread ∷ SameThread ∷ Concurrent ∷ Concurrent ∷ Concurrent ∷ Concurrent ∷ Concurrent ∷ []; fail_fast = false; tolerated = 0 }

abbrev replies_1 : ℕ → List Reply
replies_1 = replies_in ([])

abbrev lists_1 : List (List Event)
lists_1 =
    (started 0 1 ∷ started 1 1 ∷ started 2 1 ∷ started 3 2 ∷ finished 2 1 ∷ started 4 1 ∷ started 6 3 ∷ finished 3 2 ∷ finished 4 1 ∷ started 5 2 ∷ finished 5 2 ∷ finished 6 3 ∷ finished 1 1 ∷ finished 0 1 ∷ []) ∷
    (started 0 1 ∷ started 1 1 ∷ started 2 1 ∷ started 3 2 ∷ []) ∷
    (started 0 1 ∷ started 1 1 ∷ started 2 1 ∷ started 3 2 ∷ started 4 3 ∷ []) ∷
    (started 0 1 ∷ started 1 1 ∷ started 2 1 ∷ started 3 2 ∷ started 6 3 ∷ []) ∷
    (started 0 1 ∷ started 1 1 ∷ started 2 1 ∷ started 3 2 ∷ finished 2 1 ∷ started 4 3 ∷ []) ∷
    (started 0 1 ∷ started 1 1 ∷ started 2 1 ∷ started 3 2 ∷ finished 2 1 ∷ started 4 1 ∷ started 5 3 ∷ []) ∷
    (started 0 1 ∷ started 1 1 ∷ started 2 1 ∷ started 5 3 ∷ []) ∷
    (started 0 1 ∷ started 1 1 ∷ started 2 1 ∷ started 3 2 ∷ started 4 3 ∷ finished 4 3 ∷ finished 3 2 ∷ []) ∷
    (started 0 1 ∷ started 1 1 ∷ started 2 1 ∷ started 3 2 ∷ finished 2 1 ∷ finished 3 2 ∷ started 4 1 ∷ started 5 2 ∷ []) ∷
    ([]) ∷ []

in_order_1 : map (is_in_order plan_1 replies_1 3) lists_1 ≡ true ∷ true ∷ true ∷ true ∷ true ∷ true ∷ true ∷ true ∷ true ∷ true ∷ []
in_order_1 = refl

legal_1 : map (is_legal plan_1 replies_1 3) lists_1 ≡ true ∷ true ∷ true ∷ true ∷ true ∷ true ∷ true ∷ true ∷ true ∷ true ∷ []
legal_1 = refl

within_1 : map (is_within plan_1) lists_1 ≡ true ∷ true ∷ false ∷ true ∷ true ∷ false ∷ true ∷ false ∷ true ∷ true ∷ []
within_1 = refl

abbrev plan_2 : PlanParts
plan_2 = record { tree = record { parents = 0 ∷ 0 ∷ 1 ∷ 1 ∷ 1 ∷ 1 ∷ []; nodes = a_node Container Plain None None None ∷ a_node Test Plain None None None ∷ a_node Test Plain None None None ∷ a_node Test Plain None None None ∷ a_node Test Plain None None None ∷ [] }; held = ([]) ∷ ([]) ∷ (a_lock (codes "db") Read ∷ a_lock (codes "net") Read ∷ []) ∷ (a_lock (codes "net") Read ∷ []) ∷ (a_lock (codes "db") Read ∷ a_lock (codes "web") Read ∷ []) ∷ (a_lock (codes "net") Read ∷ a_lock (codes "web") Read ∷ []) ∷ []; keys = (codes "db") ∷ (codes "net") ∷ (codes "web") ∷ []; limits = 1 ∷ 2 ∷ 0 ∷ []; modes = SameThread ∷ SameThread ∷ Concurrent ∷ Concurrent ∷ Concurrent ∷ Concurrent ∷ []; fail_fast = false; tolerated = 0 }

abbrev replies_2 : ℕ → List Reply
replies_2 = replies_in ([])

abbrev lists_2 : List (List Event)
lists_2 =
    (started 0 1 ∷ started 1 1 ∷ started 2 1 ∷ started 3 2 ∷ finished 2 1 ∷ started 4 1 ∷ finished 3 2 ∷ started 5 2 ∷ finished 4 1 ∷ finished 5 2 ∷ finished 1 1 ∷ finished 0 1 ∷ []) ∷
    (started 0 1 ∷ started 1 1 ∷ started 2 1 ∷ started 4 2 ∷ []) ∷
    (started 0 1 ∷ started 1 1 ∷ started 2 1 ∷ started 3 2 ∷ started 5 1 ∷ []) ∷
    (started 0 1 ∷ started 1 1 ∷ started 2 1 ∷ started 5 2 ∷ []) ∷
    (started 0 1 ∷ started 1 1 ∷ started 2 1 ∷ finished 2 1 ∷ started 4 2 ∷ started 5 1 ∷ []) ∷
    (started 0 1 ∷ started 1 1 ∷ started 4 1 ∷ started 5 2 ∷ started 3 1 ∷ []) ∷
    (started 0 1 ∷ started 1 1 ∷ finished 2 1 ∷ started 2 1 ∷ started 4 2 ∷ []) ∷ []

in_order_2 : map (is_in_order plan_2 replies_2 2) lists_2 ≡ true ∷ true ∷ true ∷ true ∷ true ∷ true ∷ false ∷ []
in_order_2 = refl

legal_2 : map (is_legal plan_2 replies_2 2) lists_2 ≡ true ∷ true ∷ true ∷ true ∷ true ∷ true ∷ false ∷ []
legal_2 = refl

within_2 : map (is_within plan_2) lists_2 ≡ true ∷ false ∷ false ∷ true ∷ true ∷ true ∷ true ∷ []
within_2 = refl

-- the trees are as asked of a plan, so that what the tests tell of legal histories holds of these
trees : list_all (λ (p : PlanParts). is_plan_tree p.tree) (plan_1 ∷ plan_2 ∷ []) ≡ true
trees = refl
