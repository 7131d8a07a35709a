-- What another writing of these definitions says of many lists of events on plans that fail fast once more nodes have failed than they tolerate: the tests agree. Written by a program.
use Rattle.std.specs.Prelude.{codes}
use Rattle.std.specs.List.{list_all}
use Rattle.std.proofs.Common.{◌≡◌, ℕ, true, false, List, [], ◌∷◌, Some, None, map, refl}
use Rattle.descriptor.specs.declared.kind.Kind.TheVariants.{Test, Container, ContainerAndTest}
use Rattle.descriptor.specs.declared.mode.Mode.TheVariants.{SameThread, Concurrent}
use Rattle.descriptor.specs.declared.role.Role.TheVariants.{Plain}
use Rattle.plan_events.specs.declared.event.Event.{Event}
use Rattle.plan_events.specs.declared.outcome.Reply.{Reply}
use Rattle.plan_events.specs.declared.status.Status.TheVariants.{Successful, Aborted, Failed}
use Rattle.resource_locks.specs.Plans.{PlanParts}
use Rattle.event_history.proofs.Deciding.{is_legal}
use Rattle.event_history.proofs.DecidingOrder.{is_in_order}
use Rattle.event_history.proofs.PlanTrees.{is_plan_tree}
use Rattle.event_history.proofs.RowWords.{a_node, started, finished, aborted, failed, skipped, registered, a_reply, replies_in}

abbrev plan_1 : PlanParts
plan_1 = record { tree = record { parents = 0 ∷ 0 ∷ 1 ∷ 1 ∷ 1 ∷ 1 ∷ 1 ∷ []; nodes = a_node Container Plain None None None ∷ a_node Test Plain (Some 1) None None ∷ a_node Test Plain (Some 2) None None ∷ a_node Test Plain (Some 3) None None ∷ a_node Test Plain None None None ∷ a_node Test Plain None None None ∷ [] }; held = []; keys = []; limits = []; modes = SameThread ∷ SameThread ∷ Concurrent ∷ Concurrent ∷ Concurrent ∷ Concurrent ∷ Concurrent ∷ []; fail_fast = true; tolerated = 1 }

abbrev replies_1 : ℕ → List Reply
replies_1 = replies_in ((1, a_reply Failed [] 0 ∷ []) ∷ (2, a_reply Failed [] 0 ∷ []) ∷ (3, a_reply Failed [] 0 ∷ []) ∷ [])

abbrev lists_1 : List (List Event)
lists_1 =
    (started 0 1 ∷ started 1 1 ∷ started 2 1 ∷ started 3 2 ∷ failed 2 1 ∷ failed 3 2 ∷ skipped 4 1 ∷ skipped 5 2 ∷ skipped 6 1 ∷ finished 1 2 ∷ finished 0 2 ∷ []) ∷
    (started 0 1 ∷ started 1 1 ∷ started 2 1 ∷ started 3 2 ∷ failed 2 1 ∷ skipped 4 1 ∷ []) ∷
    (started 0 1 ∷ started 1 1 ∷ started 2 1 ∷ started 3 2 ∷ failed 2 1 ∷ skipped 4 2 ∷ []) ∷
    (started 0 1 ∷ started 1 1 ∷ started 2 1 ∷ started 3 2 ∷ failed 2 1 ∷ failed 3 2 ∷ skipped 4 2 ∷ []) ∷
    (started 0 1 ∷ started 1 1 ∷ started 2 1 ∷ started 3 2 ∷ failed 2 1 ∷ started 4 1 ∷ []) ∷
    (started 0 1 ∷ started 1 1 ∷ started 2 1 ∷ started 3 2 ∷ failed 2 1 ∷ failed 3 2 ∷ started 4 1 ∷ []) ∷
    (started 0 1 ∷ started 1 1 ∷ started 2 1 ∷ started 3 2 ∷ failed 2 1 ∷ failed 3 2 ∷ started 4 2 ∷ []) ∷
    (started 0 1 ∷ started 1 1 ∷ started 2 1 ∷ started 3 2 ∷ failed 2 1 ∷ failed 3 2 ∷ skipped 4 1 ∷ started 5 1 ∷ []) ∷
    (started 0 1 ∷ started 1 1 ∷ started 2 1 ∷ started 3 2 ∷ failed 2 1 ∷ failed 3 2 ∷ skipped 4 1 ∷ started 5 2 ∷ []) ∷
    (started 0 1 ∷ started 1 1 ∷ started 2 1 ∷ started 3 2 ∷ failed 2 1 ∷ failed 3 2 ∷ skipped 4 1 ∷ skipped 5 2 ∷ started 6 1 ∷ []) ∷
    (started 0 1 ∷ started 1 1 ∷ started 2 1 ∷ started 3 2 ∷ failed 2 1 ∷ failed 3 2 ∷ skipped 4 1 ∷ skipped 5 2 ∷ started 6 2 ∷ []) ∷
    (started 0 1 ∷ started 1 1 ∷ started 2 1 ∷ started 3 2 ∷ failed 2 1 ∷ failed 3 2 ∷ skipped 4 2 ∷ skipped 5 1 ∷ started 6 1 ∷ []) ∷
    (started 0 1 ∷ started 1 1 ∷ started 2 1 ∷ started 3 2 ∷ failed 2 1 ∷ failed 3 2 ∷ skipped 4 2 ∷ started 5 2 ∷ []) ∷
    (started 0 1 ∷ started 1 1 ∷ started 2 1 ∷ started 3 2 ∷ failed 2 1 ∷ failed 3 2 ∷ skipped 4 1 ∷ started 5 2 ∷ finished 5 2 ∷ started 6 2 ∷ []) ∷
    (started 0 1 ∷ started 1 1 ∷ started 2 1 ∷ started 3 2 ∷ failed 2 1 ∷ started 4 1 ∷ failed 4 1 ∷ started 5 1 ∷ []) ∷
    (started 0 1 ∷ started 1 1 ∷ started 2 1 ∷ started 3 2 ∷ failed 2 1 ∷ started 4 1 ∷ failed 4 1 ∷ started 5 2 ∷ []) ∷
    (started 0 1 ∷ started 1 1 ∷ started 2 1 ∷ started 3 2 ∷ failed 2 1 ∷ started 4 1 ∷ failed 4 1 ∷ skipped 5 1 ∷ []) ∷
    (started 0 1 ∷ started 1 1 ∷ started 2 1 ∷ started 3 2 ∷ failed 2 1 ∷ started 4 1 ∷ failed 4 1 ∷ skipped 5 1 ∷ started 6 2 ∷ finished 6 2 ∷ []) ∷ []

in_order_1 : map (is_in_order plan_1 replies_1 2) lists_1 ≡ true ∷ false ∷ false ∷ true ∷ true ∷ true ∷ true ∷ true ∷ true ∷ true ∷ false ∷ false ∷ true ∷ false ∷ false ∷ true ∷ true ∷ true ∷ []
in_order_1 = refl

legal_1 : map (is_legal plan_1 replies_1 2) lists_1 ≡ true ∷ false ∷ false ∷ true ∷ true ∷ true ∷ true ∷ true ∷ true ∷ true ∷ false ∷ false ∷ true ∷ false ∷ false ∷ true ∷ true ∷ true ∷ []
legal_1 = refl

abbrev plan_2 : PlanParts
plan_2 = record { tree = record { parents = 0 ∷ 0 ∷ 1 ∷ 1 ∷ 1 ∷ 1 ∷ 1 ∷ []; nodes = a_node Container Plain None None None ∷ a_node Test Plain (Some 1) None None ∷ a_node Test Plain (Some 2) None None ∷ a_node Test Plain (Some 3) None None ∷ a_node Test Plain (Some 4) None None ∷ a_node Test Plain None None None ∷ [] }; held = []; keys = []; limits = []; modes = SameThread ∷ SameThread ∷ SameThread ∷ SameThread ∷ SameThread ∷ SameThread ∷ SameThread ∷ []; fail_fast = true; tolerated = 2 }

abbrev replies_2 : ℕ → List Reply
replies_2 = replies_in ((1, a_reply Failed [] 0 ∷ []) ∷ (2, a_reply Aborted [] 0 ∷ []) ∷ (3, a_reply Failed [] 0 ∷ []) ∷ (4, a_reply Failed [] 0 ∷ []) ∷ [])

abbrev lists_2 : List (List Event)
lists_2 =
    (started 0 1 ∷ started 1 1 ∷ started 2 1 ∷ failed 2 1 ∷ started 3 1 ∷ aborted 3 1 ∷ started 4 1 ∷ failed 4 1 ∷ started 5 1 ∷ failed 5 1 ∷ skipped 6 1 ∷ finished 1 1 ∷ finished 0 1 ∷ []) ∷
    (started 0 1 ∷ started 1 1 ∷ started 2 1 ∷ failed 2 1 ∷ started 3 1 ∷ aborted 3 1 ∷ started 4 1 ∷ failed 4 1 ∷ skipped 5 1 ∷ []) ∷
    (started 0 1 ∷ started 1 1 ∷ started 2 1 ∷ failed 2 1 ∷ started 3 1 ∷ aborted 3 1 ∷ started 4 1 ∷ failed 4 1 ∷ started 5 1 ∷ failed 5 1 ∷ started 6 1 ∷ []) ∷
    (started 0 1 ∷ started 1 1 ∷ started 2 1 ∷ failed 2 1 ∷ started 3 1 ∷ aborted 3 1 ∷ skipped 4 1 ∷ []) ∷
    (started 0 1 ∷ started 1 1 ∷ started 2 1 ∷ failed 2 1 ∷ started 3 1 ∷ aborted 3 1 ∷ started 4 1 ∷ failed 4 1 ∷ started 5 1 ∷ failed 5 1 ∷ []) ∷ []

in_order_2 : map (is_in_order plan_2 replies_2 1) lists_2 ≡ true ∷ false ∷ false ∷ false ∷ true ∷ []
in_order_2 = refl

legal_2 : map (is_legal plan_2 replies_2 1) lists_2 ≡ true ∷ false ∷ false ∷ false ∷ true ∷ []
legal_2 = refl

abbrev plan_3 : PlanParts
plan_3 = record { tree = record { parents = 0 ∷ 0 ∷ 1 ∷ 1 ∷ 1 ∷ []; nodes = a_node Container Plain None None None ∷ a_node Test Plain (Some 1) None None ∷ a_node Test Plain (Some 2) None None ∷ a_node Test Plain None None None ∷ [] }; held = []; keys = []; limits = []; modes = SameThread ∷ SameThread ∷ SameThread ∷ SameThread ∷ SameThread ∷ []; fail_fast = false; tolerated = 1 }

abbrev replies_3 : ℕ → List Reply
replies_3 = replies_in ((1, a_reply Failed [] 0 ∷ []) ∷ (2, a_reply Failed [] 0 ∷ []) ∷ [])

abbrev lists_3 : List (List Event)
lists_3 =
    (started 0 1 ∷ started 1 1 ∷ started 2 1 ∷ failed 2 1 ∷ started 3 1 ∷ failed 3 1 ∷ started 4 1 ∷ finished 4 1 ∷ finished 1 1 ∷ finished 0 1 ∷ []) ∷
    (started 0 1 ∷ started 1 1 ∷ started 2 1 ∷ failed 2 1 ∷ started 3 1 ∷ failed 3 1 ∷ skipped 4 1 ∷ []) ∷ []

in_order_3 : map (is_in_order plan_3 replies_3 2) lists_3 ≡ true ∷ false ∷ []
in_order_3 = refl

legal_3 : map (is_legal plan_3 replies_3 2) lists_3 ≡ true ∷ false ∷ []
legal_3 = refl

-- the trees are as asked of a plan, so that what the tests tell of legal histories holds of these
trees : list_all (λ (p : PlanParts). is_plan_tree p.tree) (plan_1 ∷ plan_2 ∷ plan_3 ∷ []) ≡ true
trees = refl
