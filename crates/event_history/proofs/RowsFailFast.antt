-- What another writing of these definitions says of many lists of events on plans that fail fast: the tests agree. Written by a program.
use Rattle.std.specs.Prelude.{codes}
use Rattle.std.specs.List.{list_all}
use Rattle.std.proofs.Common.{◌≡◌, ℕ, true, false, List, [], ◌∷◌, Some, None, map, refl}
use Rattle.descriptor.specs.declared.kind.Kind.TheVariants.{Test, Container, ContainerAndTest}
use Rattle.descriptor.specs.declared.mode.Mode.TheVariants.{SameThread, Concurrent}
use Rattle.descriptor.specs.declared.role.Role.TheVariants.{Plain, Factory, Spare}
use Rattle.plan_events.specs.declared.event.Event.{Event}
use Rattle.plan_events.specs.declared.outcome.Reply.{Reply}
use Rattle.plan_events.specs.declared.status.Status.TheVariants.{Successful, Aborted, Failed}
use Rattle.resource_locks.specs.Plans.{PlanParts}
use Rattle.event_history.proofs.Deciding.{is_legal}
use Rattle.event_history.proofs.DecidingOrder.{is_in_order}
use Rattle.event_history.proofs.PlanTrees.{is_plan_tree}
use Rattle.event_history.proofs.RowWords.{a_node, started, finished, aborted, failed, skipped, registered, a_reply, replies_in}

abbrev plan_1 : PlanParts
plan_1 = record { tree = record { parents = 0 ∷ 0 ∷ 1 ∷ 2 ∷ 2 ∷ 4 ∷ 4 ∷ []; nodes = a_node Container Plain None None None ∷ a_node Container Plain None None None ∷ a_node Test Plain (Some 1) None None ∷ a_node Container Factory None None (Some (codes "later")) ∷ a_node Test Spare (Some 2) None None ∷ a_node Test Spare (Some 3) None None ∷ [] }; held = []; keys = []; limits = []; modes = SameThread ∷ SameThread ∷ SameThread ∷ SameThread ∷ Concurrent ∷ Concurrent ∷ Concurrent ∷ []; fail_fast = true; tolerated = 0 }

abbrev replies_1 : ℕ → List Reply
replies_1 = replies_in ((1, a_reply Failed (codes "boom y") 0 ∷ []) ∷ (2, a_reply Successful [] 0 ∷ []) ∷ (3, a_reply Successful [] 0 ∷ []) ∷ [])

abbrev lists_1 : List (List Event)
lists_1 =
    (started 0 1 ∷ started 1 1 ∷ started 2 1 ∷ skipped 4 1 ∷ started 3 1 ∷ failed 3 1 ∷ finished 2 1 ∷ finished 1 1 ∷ finished 0 1 ∷ []) ∷
    (started 0 1 ∷ started 1 1 ∷ started 2 1 ∷ []) ∷
    (started 0 1 ∷ started 1 1 ∷ started 2 1 ∷ skipped 4 1 ∷ started 3 1 ∷ failed 3 1 ∷ finished 2 1 ∷ []) ∷
    ([]) ∷
    (started 0 1 ∷ started 1 1 ∷ started 2 1 ∷ skipped 4 1 ∷ started 3 1 ∷ failed 3 1 ∷ finished 2 1 ∷ finished 1 1 ∷ []) ∷
    (started 0 1 ∷ started 1 1 ∷ started 2 1 ∷ started 3 1 ∷ []) ∷
    (failed 4 1 ∷ started 0 1 ∷ started 1 1 ∷ skipped 4 1 ∷ started 2 1 ∷ []) ∷
    (started 0 1 ∷ started 1 1 ∷ started 2 1 ∷ skipped 4 1 ∷ started 3 1 ∷ failed 3 1 ∷ []) ∷
    (started 0 1 ∷ finished 0 1 ∷ started 2 1 ∷ started 1 1 ∷ started 3 1 ∷ failed 3 1 ∷ finished 2 1 ∷ finished 1 1 ∷ skipped 4 1 ∷ []) ∷
    (started 0 1 ∷ started 1 1 ∷ started 2 1 ∷ skipped 4 1 ∷ started 3 1 ∷ failed 3 1 ∷ finished 2 1 ∷ skipped 2 1 ∷ []) ∷
    (started 0 1 ∷ started 1 1 ∷ started 2 1 ∷ skipped 4 1 ∷ started 3 1 ∷ failed 3 1 ∷ finished 2 1 ∷ finished 1 1 ∷ finished 0 1 ∷ registered 3 1 ∷ []) ∷
    (started 0 1 ∷ skipped 3 1 ∷ started 1 1 ∷ []) ∷ []

in_order_1 : map (is_in_order plan_1 replies_1 1) lists_1 ≡ true ∷ true ∷ true ∷ true ∷ true ∷ true ∷ false ∷ true ∷ false ∷ false ∷ false ∷ false ∷ []
in_order_1 = refl

legal_1 : map (is_legal plan_1 replies_1 1) lists_1 ≡ true ∷ true ∷ true ∷ true ∷ true ∷ true ∷ false ∷ true ∷ false ∷ false ∷ false ∷ false ∷ []
legal_1 = refl

abbrev plan_2 : PlanParts
plan_2 = record { tree = record { parents = 0 ∷ 0 ∷ []; nodes = a_node Container Plain None None None ∷ [] }; held = []; keys = []; limits = []; modes = SameThread ∷ SameThread ∷ []; fail_fast = true; tolerated = 0 }

abbrev replies_2 : ℕ → List Reply
replies_2 = replies_in ([])

abbrev lists_2 : List (List Event)
lists_2 =
    (started 0 2 ∷ started 1 1 ∷ finished 1 2 ∷ finished 0 2 ∷ []) ∷
    (started 0 2 ∷ started 1 1 ∷ finished 1 2 ∷ []) ∷
    (started 0 2 ∷ started 1 1 ∷ finished 1 2 ∷ finished 0 2 ∷ []) ∷
    (started 0 2 ∷ started 1 1 ∷ []) ∷
    (started 0 2 ∷ []) ∷
    (registered 1 2 ∷ []) ∷
    (started 0 2 ∷ started 1 1 ∷ aborted 1 1 ∷ []) ∷
    (started 0 2 ∷ started 1 1 ∷ started 1 2 ∷ []) ∷
    (started 1 1 ∷ finished 1 2 ∷ []) ∷
    (started 0 2 ∷ started 1 1 ∷ finished 1 2 ∷ started 0 1 ∷ []) ∷
    (started 0 2 ∷ started 1 1 ∷ finished 1 2 ∷ failed 1 2 ∷ []) ∷
    (started 0 1 ∷ started 1 1 ∷ []) ∷ []

in_order_2 : map (is_in_order plan_2 replies_2 2) lists_2 ≡ false ∷ false ∷ false ∷ false ∷ true ∷ false ∷ false ∷ false ∷ false ∷ false ∷ false ∷ true ∷ []
in_order_2 = refl

legal_2 : map (is_legal plan_2 replies_2 2) lists_2 ≡ true ∷ true ∷ true ∷ true ∷ true ∷ false ∷ false ∷ false ∷ false ∷ false ∷ false ∷ true ∷ []
legal_2 = refl

abbrev plan_3 : PlanParts
plan_3 = record { tree = record { parents = 0 ∷ 0 ∷ 1 ∷ 2 ∷ []; nodes = a_node Container Plain None None None ∷ a_node Container Plain None None None ∷ a_node Test Plain (Some 1) None None ∷ [] }; held = []; keys = []; limits = []; modes = SameThread ∷ SameThread ∷ Concurrent ∷ Concurrent ∷ []; fail_fast = true; tolerated = 0 }

abbrev replies_3 : ℕ → List Reply
replies_3 = replies_in ((1, a_reply Failed (codes "x") 0 ∷ []) ∷ [])

abbrev lists_3 : List (List Event)
lists_3 =
    (started 0 1 ∷ started 1 1 ∷ started 2 1 ∷ started 3 1 ∷ failed 3 1 ∷ finished 2 1 ∷ finished 1 1 ∷ finished 0 1 ∷ []) ∷
    ([]) ∷
    (started 0 1 ∷ started 1 1 ∷ started 2 1 ∷ started 3 1 ∷ failed 3 1 ∷ finished 2 1 ∷ finished 1 1 ∷ []) ∷
    (started 0 1 ∷ started 1 1 ∷ []) ∷
    (started 0 1 ∷ []) ∷
    (started 0 1 ∷ started 1 1 ∷ started 2 1 ∷ started 3 1 ∷ finished 1 1 ∷ []) ∷
    (started 0 1 ∷ started 1 1 ∷ aborted 1 1 ∷ []) ∷
    (started 0 1 ∷ started 1 1 ∷ []) ∷
    (started 0 1 ∷ started 1 1 ∷ started 2 1 ∷ started 3 1 ∷ failed 3 1 ∷ finished 2 1 ∷ failed 1 1 ∷ []) ∷
    (started 0 1 ∷ started 1 1 ∷ started 2 1 ∷ started 3 1 ∷ failed 3 1 ∷ finished 2 1 ∷ finished 1 1 ∷ started 0 1 ∷ []) ∷
    (started 0 1 ∷ []) ∷
    (started 0 1 ∷ started 1 1 ∷ started 2 1 ∷ started 3 1 ∷ failed 3 1 ∷ finished 2 1 ∷ started 2 1 ∷ []) ∷ []

in_order_3 : map (is_in_order plan_3 replies_3 1) lists_3 ≡ true ∷ true ∷ true ∷ true ∷ true ∷ false ∷ false ∷ true ∷ false ∷ false ∷ true ∷ false ∷ []
in_order_3 = refl

legal_3 : map (is_legal plan_3 replies_3 1) lists_3 ≡ true ∷ true ∷ true ∷ true ∷ true ∷ false ∷ false ∷ true ∷ false ∷ false ∷ true ∷ false ∷ []
legal_3 = refl

abbrev plan_4 : PlanParts
plan_4 = record { tree = record { parents = 0 ∷ 0 ∷ 1 ∷ 2 ∷ 2 ∷ 2 ∷ 5 ∷ 6 ∷ []; nodes = a_node Container Plain None (Some 1) None ∷ a_node Container Plain (Some 2) None None ∷ a_node Test Plain (Some 3) None None ∷ a_node Test Plain None None (Some (codes "later")) ∷ a_node Container Plain (Some 4) (Some 5) None ∷ a_node Container Plain None None None ∷ a_node ContainerAndTest Factory (Some 6) None None ∷ [] }; held = []; keys = []; limits = []; modes = SameThread ∷ SameThread ∷ SameThread ∷ SameThread ∷ SameThread ∷ Concurrent ∷ Concurrent ∷ Concurrent ∷ []; fail_fast = true; tolerated = 0 }

abbrev replies_4 : ℕ → List Reply
replies_4 = replies_in ((1, a_reply Failed [] 0 ∷ []) ∷ (2, a_reply Successful [] 0 ∷ []) ∷ (3, a_reply Successful [] 0 ∷ a_reply Aborted (codes "other") 3 ∷ []) ∷ (4, a_reply Aborted [] 0 ∷ []) ∷ (5, a_reply Failed (codes "x") 0 ∷ a_reply Failed (codes "other") 1 ∷ []) ∷ (6, a_reply Failed (codes "boom y") 0 ∷ a_reply Successful (codes "other") 0 ∷ []) ∷ [])

abbrev lists_4 : List (List Event)
lists_4 =
    (started 0 1 ∷ started 1 2 ∷ started 2 2 ∷ skipped 4 2 ∷ started 3 1 ∷ started 5 1 ∷ aborted 5 1 ∷ aborted 3 1 ∷ finished 2 2 ∷ failed 1 1 ∷ finished 0 1 ∷ []) ∷
    (started 0 1 ∷ started 1 2 ∷ started 2 2 ∷ skipped 4 2 ∷ []) ∷
    (started 0 1 ∷ started 1 2 ∷ started 2 2 ∷ skipped 4 2 ∷ started 3 1 ∷ started 5 1 ∷ aborted 5 1 ∷ aborted 3 1 ∷ []) ∷
    (started 0 1 ∷ started 1 2 ∷ started 2 2 ∷ []) ∷
    (started 0 1 ∷ started 1 2 ∷ []) ∷
    (started 0 2 ∷ started 1 2 ∷ started 2 2 ∷ skipped 4 2 ∷ started 3 1 ∷ started 5 1 ∷ aborted 5 1 ∷ aborted 3 1 ∷ finished 2 2 ∷ []) ∷
    (started 0 1 ∷ started 1 2 ∷ started 2 2 ∷ skipped 4 2 ∷ started 3 1 ∷ started 5 1 ∷ aborted 5 1 ∷ aborted 3 1 ∷ finished 2 2 ∷ failed 1 1 ∷ finished 0 1 ∷ registered 6 1 ∷ []) ∷
    (started 4 1 ∷ skipped 7 2 ∷ []) ∷
    (started 0 1 ∷ started 1 2 ∷ started 2 2 ∷ skipped 4 2 ∷ started 3 1 ∷ started 5 1 ∷ aborted 5 1 ∷ aborted 3 1 ∷ finished 2 2 ∷ failed 1 1 ∷ aborted 3 1 ∷ []) ∷
    (started 0 1 ∷ started 1 2 ∷ started 2 2 ∷ skipped 4 2 ∷ started 3 1 ∷ started 5 1 ∷ aborted 5 1 ∷ finished 1 2 ∷ []) ∷
    (started 0 1 ∷ started 1 2 ∷ started 2 2 ∷ skipped 4 2 ∷ started 3 1 ∷ started 5 1 ∷ aborted 5 1 ∷ aborted 3 1 ∷ finished 2 2 ∷ registered 4 1 ∷ []) ∷
    (started 0 2 ∷ started 1 2 ∷ started 2 2 ∷ skipped 4 2 ∷ started 3 1 ∷ failed 1 1 ∷ aborted 5 1 ∷ aborted 3 1 ∷ finished 2 2 ∷ started 5 1 ∷ []) ∷ []

in_order_4 : map (is_in_order plan_4 replies_4 2) lists_4 ≡ false ∷ false ∷ false ∷ false ∷ false ∷ false ∷ false ∷ false ∷ false ∷ false ∷ false ∷ false ∷ []
in_order_4 = refl

legal_4 : map (is_legal plan_4 replies_4 2) lists_4 ≡ true ∷ true ∷ true ∷ true ∷ true ∷ true ∷ false ∷ false ∷ false ∷ false ∷ false ∷ false ∷ []
legal_4 = refl

abbrev plan_5 : PlanParts
plan_5 = record { tree = record { parents = 0 ∷ 0 ∷ 1 ∷ 1 ∷ 1 ∷ []; nodes = a_node Container Plain None None None ∷ a_node Container Plain None None None ∷ a_node Container Plain None None None ∷ a_node Container Plain None None None ∷ [] }; held = []; keys = []; limits = []; modes = SameThread ∷ SameThread ∷ Concurrent ∷ Concurrent ∷ SameThread ∷ []; fail_fast = true; tolerated = 0 }

abbrev replies_5 : ℕ → List Reply
replies_5 = replies_in ([])

abbrev lists_5 : List (List Event)
lists_5 =
    (started 0 1 ∷ started 1 1 ∷ started 3 1 ∷ started 4 1 ∷ finished 4 1 ∷ finished 3 1 ∷ started 2 1 ∷ finished 2 1 ∷ finished 1 1 ∷ finished 0 1 ∷ []) ∷
    (started 0 1 ∷ started 1 1 ∷ started 3 1 ∷ started 4 1 ∷ finished 4 1 ∷ finished 3 1 ∷ started 2 1 ∷ finished 2 1 ∷ finished 1 1 ∷ []) ∷
    (started 0 1 ∷ started 1 1 ∷ started 3 1 ∷ started 4 1 ∷ finished 4 1 ∷ finished 3 1 ∷ started 2 1 ∷ finished 2 1 ∷ []) ∷
    (started 0 1 ∷ started 1 1 ∷ started 3 1 ∷ started 4 1 ∷ finished 4 1 ∷ finished 3 1 ∷ started 2 1 ∷ finished 2 1 ∷ finished 1 1 ∷ finished 0 1 ∷ []) ∷
    (started 0 1 ∷ started 1 1 ∷ []) ∷
    (started 1 1 ∷ started 0 1 ∷ started 3 1 ∷ started 4 1 ∷ []) ∷
    (started 0 1 ∷ finished 4 1 ∷ []) ∷
    (started 1 1 ∷ started 3 1 ∷ started 4 1 ∷ []) ∷
    (started 0 1 ∷ started 1 1 ∷ started 3 1 ∷ started 4 1 ∷ finished 4 1 ∷ finished 3 1 ∷ started 2 1 ∷ []) ∷
    (started 0 1 ∷ started 1 1 ∷ started 3 1 ∷ started 4 1 ∷ finished 4 1 ∷ finished 3 1 ∷ started 2 1 ∷ finished 2 1 ∷ finished 1 1 ∷ finished 0 1 ∷ aborted 1 1 ∷ []) ∷
    (started 0 1 ∷ started 1 1 ∷ started 3 1 ∷ started 4 1 ∷ finished 4 1 ∷ skipped 3 1 ∷ []) ∷
    (started 0 1 ∷ started 1 1 ∷ started 3 1 ∷ started 4 1 ∷ registered 4 1 ∷ []) ∷ []

in_order_5 : map (is_in_order plan_5 replies_5 1) lists_5 ≡ true ∷ true ∷ true ∷ true ∷ true ∷ false ∷ false ∷ false ∷ true ∷ false ∷ false ∷ false ∷ []
in_order_5 = refl

legal_5 : map (is_legal plan_5 replies_5 1) lists_5 ≡ true ∷ true ∷ true ∷ true ∷ true ∷ false ∷ false ∷ false ∷ true ∷ false ∷ false ∷ false ∷ []
legal_5 = refl

abbrev plan_6 : PlanParts
plan_6 = record { tree = record { parents = 0 ∷ 0 ∷ 1 ∷ 2 ∷ 2 ∷ 2 ∷ 5 ∷ 5 ∷ []; nodes = a_node Container Plain None None None ∷ a_node Container Plain (Some 1) None None ∷ a_node ContainerAndTest Plain (Some 2) None None ∷ a_node Test Plain (Some 3) None None ∷ a_node ContainerAndTest Plain None None None ∷ a_node Test Plain None None (Some []) ∷ a_node ContainerAndTest Factory (Some 4) None None ∷ [] }; held = []; keys = []; limits = []; modes = SameThread ∷ SameThread ∷ SameThread ∷ SameThread ∷ Concurrent ∷ Concurrent ∷ Concurrent ∷ Concurrent ∷ []; fail_fast = true; tolerated = 0 }

abbrev replies_6 : ℕ → List Reply
replies_6 = replies_in ((1, a_reply Failed [] 0 ∷ []) ∷ (2, a_reply Failed (codes "boom y") 0 ∷ []) ∷ (3, a_reply Failed (codes "x") 0 ∷ []) ∷ (4, a_reply Failed [] 0 ∷ []) ∷ [])

abbrev lists_6 : List (List Event)
lists_6 =
    (started 0 1 ∷ started 1 1 ∷ started 2 2 ∷ started 3 2 ∷ started 4 1 ∷ failed 4 1 ∷ failed 3 2 ∷ skipped 5 2 ∷ []) ∷
    (started 0 1 ∷ started 1 1 ∷ started 2 2 ∷ started 3 2 ∷ started 4 1 ∷ failed 4 1 ∷ failed 3 2 ∷ []) ∷
    (started 0 1 ∷ started 1 1 ∷ []) ∷
    (started 0 1 ∷ started 1 1 ∷ started 2 2 ∷ started 3 2 ∷ []) ∷
    (started 0 1 ∷ started 1 1 ∷ started 2 2 ∷ started 3 2 ∷ started 4 1 ∷ failed 4 1 ∷ []) ∷
    (started 0 1 ∷ started 1 1 ∷ started 2 2 ∷ started 3 2 ∷ started 4 1 ∷ failed 4 1 ∷ started 6 1 ∷ []) ∷
    (started 0 1 ∷ started 1 1 ∷ started 2 2 ∷ started 3 2 ∷ started 4 1 ∷ started 4 1 ∷ []) ∷
    (started 0 1 ∷ registered 3 2 ∷ []) ∷
    (started 0 1 ∷ started 1 1 ∷ started 2 2 ∷ started 3 2 ∷ started 4 1 ∷ failed 4 1 ∷ failed 3 2 ∷ []) ∷
    (started 0 1 ∷ started 1 1 ∷ started 2 2 ∷ started 3 2 ∷ started 4 1 ∷ []) ∷
    (started 0 1 ∷ started 1 1 ∷ started 2 2 ∷ started 3 2 ∷ started 4 1 ∷ failed 5 2 ∷ []) ∷
    (started 0 1 ∷ started 1 1 ∷ started 2 2 ∷ finished 3 1 ∷ []) ∷ []

in_order_6 : map (is_in_order plan_6 replies_6 2) lists_6 ≡ false ∷ false ∷ true ∷ false ∷ false ∷ false ∷ false ∷ false ∷ false ∷ false ∷ false ∷ false ∷ []
in_order_6 = refl

legal_6 : map (is_legal plan_6 replies_6 2) lists_6 ≡ true ∷ true ∷ true ∷ true ∷ true ∷ false ∷ false ∷ false ∷ true ∷ true ∷ false ∷ false ∷ []
legal_6 = refl

abbrev plan_7 : PlanParts
plan_7 = record { tree = record { parents = 0 ∷ 0 ∷ 1 ∷ 2 ∷ 3 ∷ 2 ∷ 2 ∷ []; nodes = a_node Container Plain None None (Some (codes "later")) ∷ a_node Container Plain None None None ∷ a_node Container Plain (Some 1) None (Some []) ∷ a_node Test Plain (Some 2) None None ∷ a_node Container Factory (Some 3) None None ∷ a_node Container Plain (Some 4) None None ∷ [] }; held = []; keys = []; limits = []; modes = Concurrent ∷ SameThread ∷ Concurrent ∷ SameThread ∷ SameThread ∷ SameThread ∷ SameThread ∷ []; fail_fast = true; tolerated = 0 }

abbrev replies_7 : ℕ → List Reply
replies_7 = replies_in ((1, a_reply Successful [] 0 ∷ []) ∷ (2, a_reply Successful [] 0 ∷ []) ∷ (3, a_reply Successful [] 0 ∷ []) ∷ (4, a_reply Failed (codes "boom y") 0 ∷ []) ∷ [])

abbrev lists_7 : List (List Event)
lists_7 =
    (started 0 1 ∷ skipped 1 1 ∷ finished 0 1 ∷ []) ∷
    ([]) ∷
    (started 0 1 ∷ skipped 1 1 ∷ finished 0 1 ∷ []) ∷
    (started 0 1 ∷ []) ∷
    (started 0 1 ∷ skipped 1 1 ∷ []) ∷
    (started 0 1 ∷ skipped 1 1 ∷ finished 0 1 ∷ registered 4 1 ∷ []) ∷
    (skipped 5 1 ∷ skipped 5 1 ∷ []) ∷
    (registered 2 1 ∷ []) ∷
    (started 0 1 ∷ skipped 1 1 ∷ finished 0 1 ∷ finished 2 1 ∷ []) ∷
    (started 0 1 ∷ skipped 1 1 ∷ finished 0 1 ∷ started 4 1 ∷ []) ∷
    (started 5 1 ∷ []) ∷
    (started 0 1 ∷ finished 5 1 ∷ []) ∷ []

in_order_7 : map (is_in_order plan_7 replies_7 1) lists_7 ≡ true ∷ true ∷ true ∷ true ∷ true ∷ false ∷ false ∷ false ∷ false ∷ false ∷ false ∷ false ∷ []
in_order_7 = refl

legal_7 : map (is_legal plan_7 replies_7 1) lists_7 ≡ true ∷ true ∷ true ∷ true ∷ true ∷ false ∷ false ∷ false ∷ false ∷ false ∷ false ∷ false ∷ []
legal_7 = refl

abbrev plan_8 : PlanParts
plan_8 = record { tree = record { parents = 0 ∷ 0 ∷ []; nodes = a_node Test Plain (Some 1) None None ∷ [] }; held = []; keys = []; limits = []; modes = Concurrent ∷ SameThread ∷ []; fail_fast = true; tolerated = 0 }

abbrev replies_8 : ℕ → List Reply
replies_8 = replies_in ((1, a_reply Successful [] 0 ∷ []) ∷ [])

abbrev lists_8 : List (List Event)
lists_8 =
    (started 0 1 ∷ started 1 1 ∷ finished 1 2 ∷ finished 0 2 ∷ []) ∷
    (started 0 1 ∷ started 1 1 ∷ finished 1 2 ∷ finished 0 2 ∷ []) ∷
    (started 0 1 ∷ started 1 1 ∷ finished 1 2 ∷ []) ∷
    ([]) ∷
    (started 0 1 ∷ []) ∷
    (started 0 1 ∷ started 1 1 ∷ finished 1 1 ∷ []) ∷
    (started 0 1 ∷ started 0 2 ∷ []) ∷
    (started 0 1 ∷ []) ∷
    (started 0 1 ∷ started 1 1 ∷ finished 1 2 ∷ finished 0 2 ∷ aborted 1 2 ∷ []) ∷
    (failed 1 2 ∷ []) ∷
    (started 0 1 ∷ started 1 1 ∷ finished 0 2 ∷ []) ∷
    (started 0 1 ∷ started 1 1 ∷ finished 1 2 ∷ finished 0 1 ∷ []) ∷ []

in_order_8 : map (is_in_order plan_8 replies_8 2) lists_8 ≡ true ∷ true ∷ true ∷ true ∷ true ∷ true ∷ false ∷ true ∷ false ∷ false ∷ false ∷ true ∷ []
in_order_8 = refl

legal_8 : map (is_legal plan_8 replies_8 2) lists_8 ≡ true ∷ true ∷ true ∷ true ∷ true ∷ true ∷ false ∷ true ∷ false ∷ false ∷ false ∷ true ∷ []
legal_8 = refl

abbrev plan_9 : PlanParts
plan_9 = record { tree = record { parents = 0 ∷ 0 ∷ 1 ∷ 1 ∷ 3 ∷ 3 ∷ []; nodes = a_node Container Plain (Some 1) None (Some []) ∷ a_node Container Plain None None None ∷ a_node Container Plain None None None ∷ a_node Test Plain None None None ∷ a_node ContainerAndTest Factory (Some 2) None None ∷ [] }; held = []; keys = []; limits = []; modes = SameThread ∷ SameThread ∷ Concurrent ∷ SameThread ∷ SameThread ∷ Concurrent ∷ []; fail_fast = true; tolerated = 0 }

abbrev replies_9 : ℕ → List Reply
replies_9 = replies_in ((1, a_reply Successful [] 0 ∷ a_reply Failed (codes "other") 2 ∷ []) ∷ (2, a_reply Failed [] 0 ∷ []) ∷ [])

abbrev lists_9 : List (List Event)
lists_9 =
    (started 0 2 ∷ skipped 1 2 ∷ finished 0 2 ∷ []) ∷
    (started 0 2 ∷ []) ∷
    (started 0 2 ∷ skipped 1 2 ∷ finished 0 2 ∷ []) ∷
    (started 0 2 ∷ skipped 1 2 ∷ []) ∷
    ([]) ∷
    ([]) ∷
    (started 0 2 ∷ registered 4 2 ∷ []) ∷
    (started 0 2 ∷ started 3 2 ∷ []) ∷
    ([]) ∷
    (started 0 2 ∷ started 3 2 ∷ skipped 1 2 ∷ finished 0 2 ∷ []) ∷
    (started 0 2 ∷ skipped 1 2 ∷ failed 0 2 ∷ skipped 4 1 ∷ []) ∷
    (started 5 2 ∷ skipped 1 2 ∷ []) ∷ []

in_order_9 : map (is_in_order plan_9 replies_9 2) lists_9 ≡ true ∷ true ∷ true ∷ true ∷ true ∷ true ∷ false ∷ false ∷ true ∷ false ∷ false ∷ false ∷ []
in_order_9 = refl

legal_9 : map (is_legal plan_9 replies_9 2) lists_9 ≡ true ∷ true ∷ true ∷ true ∷ true ∷ true ∷ false ∷ false ∷ true ∷ false ∷ false ∷ false ∷ []
legal_9 = refl

abbrev plan_10 : PlanParts
plan_10 = record { tree = record { parents = 0 ∷ 0 ∷ 1 ∷ 2 ∷ 2 ∷ 1 ∷ []; nodes = a_node Container Plain None None None ∷ a_node Container Plain None None None ∷ a_node Test Plain (Some 1) None None ∷ a_node Test Plain (Some 2) None None ∷ a_node Container Plain None None None ∷ [] }; held = []; keys = []; limits = []; modes = SameThread ∷ SameThread ∷ SameThread ∷ SameThread ∷ SameThread ∷ SameThread ∷ []; fail_fast = true; tolerated = 0 }

abbrev replies_10 : ℕ → List Reply
replies_10 = replies_in ((1, a_reply Aborted (codes "boom y") 0 ∷ []) ∷ (2, a_reply Successful [] 0 ∷ []) ∷ [])

abbrev lists_10 : List (List Event)
lists_10 =
    (started 0 1 ∷ started 1 2 ∷ started 2 2 ∷ started 4 1 ∷ started 3 2 ∷ aborted 3 2 ∷ started 5 1 ∷ finished 4 2 ∷ finished 2 2 ∷ finished 5 2 ∷ finished 1 1 ∷ finished 0 1 ∷ []) ∷
    (started 0 1 ∷ started 1 2 ∷ started 2 2 ∷ started 4 1 ∷ started 3 2 ∷ aborted 3 2 ∷ []) ∷
    (started 0 1 ∷ started 1 2 ∷ started 2 2 ∷ started 4 1 ∷ started 3 2 ∷ aborted 3 2 ∷ started 5 1 ∷ []) ∷
    (started 0 1 ∷ started 1 2 ∷ []) ∷
    (started 0 1 ∷ started 1 2 ∷ started 2 2 ∷ started 4 1 ∷ started 3 2 ∷ aborted 3 2 ∷ started 5 1 ∷ finished 4 2 ∷ finished 2 2 ∷ finished 5 2 ∷ finished 1 1 ∷ finished 0 1 ∷ []) ∷
    (finished 5 1 ∷ []) ∷
    (started 0 1 ∷ started 1 2 ∷ started 2 2 ∷ started 4 1 ∷ started 3 2 ∷ aborted 3 2 ∷ started 5 1 ∷ finished 4 2 ∷ finished 2 2 ∷ finished 5 2 ∷ finished 1 1 ∷ finished 0 1 ∷ registered 1 2 ∷ []) ∷
    (started 0 1 ∷ started 1 2 ∷ started 2 2 ∷ started 4 1 ∷ started 3 2 ∷ aborted 3 2 ∷ started 5 1 ∷ skipped 2 1 ∷ started 1 1 ∷ []) ∷
    (aborted 0 1 ∷ skipped 1 2 ∷ []) ∷
    (started 0 1 ∷ started 1 2 ∷ started 2 2 ∷ started 4 1 ∷ started 3 2 ∷ aborted 3 2 ∷ started 5 1 ∷ finished 4 2 ∷ skipped 2 1 ∷ []) ∷
    (started 0 1 ∷ started 1 2 ∷ started 2 2 ∷ started 4 1 ∷ started 3 2 ∷ aborted 3 2 ∷ started 5 1 ∷ finished 4 2 ∷ finished 2 2 ∷ finished 5 2 ∷ finished 1 1 ∷ finished 0 1 ∷ skipped 4 2 ∷ []) ∷
    (started 0 1 ∷ started 1 2 ∷ started 2 2 ∷ started 4 1 ∷ started 3 2 ∷ started 2 1 ∷ []) ∷ []

in_order_10 : map (is_in_order plan_10 replies_10 2) lists_10 ≡ false ∷ false ∷ false ∷ false ∷ false ∷ false ∷ false ∷ false ∷ false ∷ false ∷ false ∷ false ∷ []
in_order_10 = refl

legal_10 : map (is_legal plan_10 replies_10 2) lists_10 ≡ true ∷ true ∷ true ∷ true ∷ true ∷ false ∷ false ∷ false ∷ false ∷ false ∷ false ∷ false ∷ []
legal_10 = refl

abbrev plan_11 : PlanParts
plan_11 = record { tree = record { parents = 0 ∷ 0 ∷ 1 ∷ 2 ∷ []; nodes = a_node Container Plain None None None ∷ a_node Container Plain None None (Some (codes "later")) ∷ a_node Test Plain (Some 1) None None ∷ [] }; held = []; keys = []; limits = []; modes = SameThread ∷ SameThread ∷ Concurrent ∷ SameThread ∷ []; fail_fast = true; tolerated = 0 }

abbrev replies_11 : ℕ → List Reply
replies_11 = replies_in ((1, a_reply Successful [] 0 ∷ []) ∷ [])

abbrev lists_11 : List (List Event)
lists_11 =
    (started 0 1 ∷ started 1 2 ∷ skipped 2 1 ∷ finished 1 1 ∷ finished 0 1 ∷ []) ∷
    (started 0 1 ∷ started 1 2 ∷ skipped 2 1 ∷ finished 1 1 ∷ []) ∷
    ([]) ∷
    (started 0 1 ∷ []) ∷
    (started 0 1 ∷ started 1 2 ∷ skipped 2 1 ∷ finished 1 1 ∷ finished 0 1 ∷ []) ∷
    (started 0 1 ∷ started 1 2 ∷ skipped 2 1 ∷ finished 1 1 ∷ finished 0 1 ∷ finished 1 1 ∷ []) ∷
    (started 0 1 ∷ started 1 2 ∷ skipped 2 1 ∷ finished 1 1 ∷ finished 0 1 ∷ started 2 1 ∷ []) ∷
    (started 0 1 ∷ registered 3 2 ∷ []) ∷
    (started 1 1 ∷ []) ∷
    (started 0 1 ∷ []) ∷
    (started 1 2 ∷ started 0 1 ∷ []) ∷
    (aborted 2 1 ∷ []) ∷ []

in_order_11 : map (is_in_order plan_11 replies_11 2) lists_11 ≡ false ∷ false ∷ true ∷ true ∷ false ∷ false ∷ false ∷ false ∷ false ∷ true ∷ false ∷ false ∷ []
in_order_11 = refl

legal_11 : map (is_legal plan_11 replies_11 2) lists_11 ≡ true ∷ true ∷ true ∷ true ∷ true ∷ false ∷ false ∷ false ∷ false ∷ true ∷ false ∷ false ∷ []
legal_11 = refl

abbrev plan_12 : PlanParts
plan_12 = record { tree = record { parents = 0 ∷ 0 ∷ 1 ∷ 2 ∷ 2 ∷ 2 ∷ 2 ∷ 2 ∷ []; nodes = a_node Container Plain (Some 1) (Some 2) None ∷ a_node Container Plain (Some 3) None None ∷ a_node Test Plain (Some 4) None None ∷ a_node Test Plain (Some 5) None None ∷ a_node Test Plain None None None ∷ a_node Test Plain None None None ∷ a_node Test Plain (Some 6) None None ∷ [] }; held = []; keys = []; limits = []; modes = SameThread ∷ SameThread ∷ Concurrent ∷ SameThread ∷ SameThread ∷ SameThread ∷ SameThread ∷ SameThread ∷ []; fail_fast = true; tolerated = 0 }

abbrev replies_12 : ℕ → List Reply
replies_12 = replies_in ((1, a_reply Successful [] 0 ∷ []) ∷ (2, a_reply Failed (codes "x") 0 ∷ []) ∷ (3, a_reply Successful [] 0 ∷ []) ∷ (4, a_reply Failed [] 0 ∷ []) ∷ (5, a_reply Successful [] 0 ∷ []) ∷ (6, a_reply Failed (codes "boom y") 0 ∷ []) ∷ [])

abbrev lists_12 : List (List Event)
lists_12 =
    (started 0 1 ∷ started 1 1 ∷ started 2 1 ∷ started 5 1 ∷ finished 5 1 ∷ started 4 1 ∷ started 6 1 ∷ started 3 1 ∷ finished 4 1 ∷ failed 3 1 ∷ finished 6 1 ∷ skipped 7 1 ∷ finished 2 1 ∷ failed 1 1 ∷ finished 0 1 ∷ []) ∷
    (started 0 1 ∷ started 1 1 ∷ started 2 1 ∷ []) ∷
    (started 0 1 ∷ started 1 1 ∷ started 2 1 ∷ started 5 1 ∷ finished 5 1 ∷ started 4 1 ∷ started 6 1 ∷ started 3 1 ∷ finished 4 1 ∷ failed 3 1 ∷ finished 6 1 ∷ skipped 7 1 ∷ []) ∷
    (started 0 1 ∷ started 1 1 ∷ started 2 1 ∷ started 5 1 ∷ finished 5 1 ∷ started 4 1 ∷ started 6 1 ∷ started 3 1 ∷ finished 4 1 ∷ []) ∷
    (started 0 1 ∷ started 1 1 ∷ []) ∷
    (started 0 1 ∷ started 1 1 ∷ started 2 1 ∷ started 5 1 ∷ finished 5 1 ∷ started 7 1 ∷ started 6 1 ∷ started 6 1 ∷ started 3 1 ∷ []) ∷
    (registered 2 1 ∷ []) ∷
    (started 0 1 ∷ started 1 1 ∷ started 2 1 ∷ skipped 0 1 ∷ []) ∷
    (started 0 1 ∷ started 1 1 ∷ started 2 1 ∷ started 5 1 ∷ finished 5 1 ∷ started 4 1 ∷ []) ∷
    (started 0 1 ∷ started 1 1 ∷ started 2 1 ∷ started 5 1 ∷ finished 5 1 ∷ started 4 1 ∷ started 6 1 ∷ started 3 1 ∷ finished 4 1 ∷ aborted 6 1 ∷ []) ∷
    (started 0 1 ∷ started 1 1 ∷ started 2 1 ∷ started 5 1 ∷ finished 5 1 ∷ started 4 1 ∷ started 6 1 ∷ started 3 1 ∷ finished 4 1 ∷ failed 3 1 ∷ finished 6 1 ∷ skipped 7 1 ∷ finished 2 1 ∷ registered 2 1 ∷ []) ∷
    (started 0 1 ∷ started 1 1 ∷ started 2 1 ∷ started 5 1 ∷ finished 5 1 ∷ started 4 1 ∷ started 6 1 ∷ started 3 1 ∷ failed 6 1 ∷ []) ∷ []

in_order_12 : map (is_in_order plan_12 replies_12 1) lists_12 ≡ false ∷ true ∷ false ∷ false ∷ true ∷ false ∷ false ∷ false ∷ false ∷ false ∷ false ∷ false ∷ []
in_order_12 = refl

legal_12 : map (is_legal plan_12 replies_12 1) lists_12 ≡ true ∷ true ∷ true ∷ true ∷ true ∷ false ∷ false ∷ false ∷ true ∷ false ∷ false ∷ false ∷ []
legal_12 = refl

abbrev plan_13 : PlanParts
plan_13 = record { tree = record { parents = 0 ∷ 0 ∷ 0 ∷ 0 ∷ []; nodes = a_node Container Plain None None (Some (codes "later")) ∷ a_node Container Plain None None None ∷ a_node Container Plain None None None ∷ [] }; held = []; keys = []; limits = []; modes = SameThread ∷ SameThread ∷ SameThread ∷ Concurrent ∷ []; fail_fast = true; tolerated = 0 }

abbrev replies_13 : ℕ → List Reply
replies_13 = replies_in ([])

abbrev lists_13 : List (List Event)
lists_13 =
    (started 0 1 ∷ started 3 2 ∷ skipped 1 2 ∷ finished 3 1 ∷ started 2 1 ∷ finished 2 1 ∷ finished 0 1 ∷ []) ∷
    (started 0 1 ∷ started 3 2 ∷ skipped 1 2 ∷ finished 3 1 ∷ started 2 1 ∷ finished 2 1 ∷ []) ∷
    (started 0 1 ∷ started 3 2 ∷ skipped 1 2 ∷ finished 3 1 ∷ []) ∷
    (started 0 1 ∷ started 3 2 ∷ []) ∷
    (started 0 1 ∷ started 3 2 ∷ skipped 1 2 ∷ finished 3 1 ∷ started 2 1 ∷ []) ∷
    (started 1 1 ∷ []) ∷
    (started 3 2 ∷ started 0 1 ∷ []) ∷
    (started 0 1 ∷ started 3 2 ∷ skipped 1 2 ∷ finished 3 1 ∷ registered 3 1 ∷ []) ∷
    (started 0 1 ∷ started 3 2 ∷ []) ∷
    (finished 0 2 ∷ []) ∷
    (started 0 1 ∷ started 3 2 ∷ skipped 1 2 ∷ finished 3 1 ∷ started 2 1 ∷ failed 3 1 ∷ []) ∷
    (started 0 1 ∷ started 3 2 ∷ skipped 1 2 ∷ finished 3 1 ∷ started 1 2 ∷ []) ∷ []

in_order_13 : map (is_in_order plan_13 replies_13 2) lists_13 ≡ false ∷ false ∷ false ∷ true ∷ false ∷ false ∷ false ∷ false ∷ true ∷ false ∷ false ∷ false ∷ []
in_order_13 = refl

legal_13 : map (is_legal plan_13 replies_13 2) lists_13 ≡ true ∷ true ∷ true ∷ true ∷ true ∷ false ∷ false ∷ false ∷ true ∷ false ∷ false ∷ false ∷ []
legal_13 = refl

abbrev plan_14 : PlanParts
plan_14 = record { tree = record { parents = 0 ∷ 0 ∷ 1 ∷ 1 ∷ 3 ∷ 3 ∷ []; nodes = a_node Container Plain None None None ∷ a_node Container Plain None None None ∷ a_node Container Plain None (Some 1) None ∷ a_node Test Plain (Some 2) None None ∷ a_node Test Plain (Some 3) None None ∷ [] }; held = []; keys = []; limits = []; modes = SameThread ∷ SameThread ∷ SameThread ∷ SameThread ∷ SameThread ∷ SameThread ∷ []; fail_fast = true; tolerated = 0 }

abbrev replies_14 : ℕ → List Reply
replies_14 = replies_in ((1, a_reply Successful [] 0 ∷ []) ∷ (2, a_reply Successful [] 0 ∷ []) ∷ (3, a_reply Failed (codes "x") 0 ∷ []) ∷ [])

abbrev lists_14 : List (List Event)
lists_14 =
    (started 0 2 ∷ started 1 2 ∷ started 2 2 ∷ started 3 2 ∷ started 5 2 ∷ failed 5 2 ∷ started 4 1 ∷ finished 4 1 ∷ finished 3 2 ∷ finished 2 1 ∷ finished 1 1 ∷ finished 0 1 ∷ []) ∷
    (started 0 2 ∷ started 1 2 ∷ started 2 2 ∷ started 3 2 ∷ started 5 2 ∷ failed 5 2 ∷ started 4 1 ∷ finished 4 1 ∷ []) ∷
    (started 0 2 ∷ started 1 2 ∷ started 2 2 ∷ started 3 2 ∷ started 5 2 ∷ failed 5 2 ∷ started 4 1 ∷ finished 4 1 ∷ finished 3 2 ∷ finished 2 1 ∷ finished 1 1 ∷ []) ∷
    (started 0 2 ∷ []) ∷
    (started 0 2 ∷ started 1 2 ∷ started 2 2 ∷ []) ∷
    (started 0 2 ∷ started 1 2 ∷ started 2 2 ∷ started 3 2 ∷ started 5 2 ∷ failed 5 2 ∷ started 4 1 ∷ finished 4 1 ∷ []) ∷
    (started 0 2 ∷ started 1 2 ∷ started 2 2 ∷ started 3 2 ∷ started 5 2 ∷ failed 5 2 ∷ skipped 0 1 ∷ []) ∷
    (aborted 4 1 ∷ started 0 2 ∷ started 4 2 ∷ []) ∷
    (started 0 2 ∷ started 1 2 ∷ started 2 2 ∷ started 3 2 ∷ started 5 2 ∷ failed 5 2 ∷ started 4 1 ∷ finished 4 1 ∷ finished 3 2 ∷ finished 2 1 ∷ aborted 1 1 ∷ []) ∷
    (started 0 2 ∷ started 1 2 ∷ started 2 2 ∷ started 3 2 ∷ started 5 2 ∷ failed 5 2 ∷ started 4 1 ∷ finished 4 1 ∷ registered 3 1 ∷ []) ∷
    (started 0 2 ∷ started 1 2 ∷ started 2 2 ∷ started 3 2 ∷ []) ∷
    (started 1 2 ∷ started 2 2 ∷ started 3 2 ∷ started 5 2 ∷ failed 5 2 ∷ started 4 1 ∷ finished 4 1 ∷ finished 3 2 ∷ []) ∷ []

in_order_14 : map (is_in_order plan_14 replies_14 2) lists_14 ≡ false ∷ false ∷ false ∷ true ∷ true ∷ false ∷ false ∷ false ∷ false ∷ false ∷ false ∷ false ∷ []
in_order_14 = refl

legal_14 : map (is_legal plan_14 replies_14 2) lists_14 ≡ true ∷ true ∷ true ∷ true ∷ true ∷ true ∷ false ∷ false ∷ false ∷ false ∷ true ∷ false ∷ []
legal_14 = refl

abbrev plan_15 : PlanParts
plan_15 = record { tree = record { parents = 0 ∷ 0 ∷ 0 ∷ 2 ∷ 3 ∷ 3 ∷ 3 ∷ 3 ∷ []; nodes = a_node Container Plain None None None ∷ a_node Container Plain None None (Some (codes "later")) ∷ a_node Container Plain (Some 1) None None ∷ a_node ContainerAndTest Plain (Some 2) None None ∷ a_node Container Plain None None (Some (codes "later")) ∷ a_node Test Plain None None None ∷ a_node ContainerAndTest Plain (Some 3) None None ∷ [] }; held = []; keys = []; limits = []; modes = SameThread ∷ Concurrent ∷ SameThread ∷ SameThread ∷ Concurrent ∷ SameThread ∷ Concurrent ∷ SameThread ∷ []; fail_fast = true; tolerated = 0 }

abbrev replies_15 : ℕ → List Reply
replies_15 = replies_in ((1, a_reply Failed (codes "boom y") 0 ∷ []) ∷ (2, a_reply Successful [] 0 ∷ []) ∷ (3, a_reply Failed (codes "x") 0 ∷ []) ∷ [])

abbrev lists_15 : List (List Event)
lists_15 =
    (started 0 1 ∷ skipped 2 1 ∷ started 1 1 ∷ finished 1 1 ∷ finished 0 1 ∷ []) ∷
    (started 0 1 ∷ skipped 2 1 ∷ started 1 1 ∷ finished 1 1 ∷ finished 0 1 ∷ []) ∷
    (started 0 1 ∷ skipped 2 1 ∷ started 1 1 ∷ []) ∷
    (started 0 1 ∷ []) ∷
    (started 0 1 ∷ skipped 2 1 ∷ started 1 1 ∷ finished 1 1 ∷ []) ∷
    (started 0 1 ∷ failed 2 1 ∷ []) ∷
    (started 0 1 ∷ skipped 2 1 ∷ started 1 1 ∷ finished 1 1 ∷ skipped 4 1 ∷ []) ∷
    (started 0 1 ∷ skipped 2 1 ∷ aborted 3 1 ∷ []) ∷
    (registered 5 1 ∷ registered 7 1 ∷ []) ∷
    (started 0 1 ∷ started 1 1 ∷ finished 1 1 ∷ finished 0 1 ∷ []) ∷
    (started 0 1 ∷ skipped 2 1 ∷ failed 6 1 ∷ []) ∷
    (started 0 1 ∷ skipped 2 1 ∷ skipped 6 1 ∷ []) ∷ []

in_order_15 : map (is_in_order plan_15 replies_15 1) lists_15 ≡ true ∷ true ∷ true ∷ true ∷ true ∷ false ∷ false ∷ false ∷ false ∷ false ∷ false ∷ false ∷ []
in_order_15 = refl

legal_15 : map (is_legal plan_15 replies_15 1) lists_15 ≡ true ∷ true ∷ true ∷ true ∷ true ∷ false ∷ false ∷ false ∷ false ∷ false ∷ false ∷ false ∷ []
legal_15 = refl

abbrev plan_16 : PlanParts
plan_16 = record { tree = record { parents = 0 ∷ 0 ∷ []; nodes = a_node Test Plain (Some 1) None None ∷ [] }; held = []; keys = []; limits = []; modes = Concurrent ∷ SameThread ∷ []; fail_fast = true; tolerated = 0 }

abbrev replies_16 : ℕ → List Reply
replies_16 = replies_in ((1, a_reply Failed (codes "x") 0 ∷ []) ∷ [])

abbrev lists_16 : List (List Event)
lists_16 =
    (started 0 1 ∷ started 1 1 ∷ failed 1 2 ∷ finished 0 1 ∷ []) ∷
    (started 0 1 ∷ []) ∷
    (started 0 1 ∷ started 1 1 ∷ failed 1 2 ∷ []) ∷
    (started 0 1 ∷ started 1 1 ∷ failed 1 2 ∷ finished 0 1 ∷ []) ∷
    ([]) ∷
    (started 0 1 ∷ skipped 1 1 ∷ started 1 1 ∷ []) ∷
    (started 0 1 ∷ started 1 1 ∷ failed 1 2 ∷ failed 0 2 ∷ []) ∷
    (started 0 1 ∷ started 1 2 ∷ finished 0 1 ∷ failed 1 2 ∷ []) ∷
    (started 0 2 ∷ started 1 2 ∷ []) ∷
    (started 0 1 ∷ started 1 1 ∷ failed 1 2 ∷ finished 0 1 ∷ []) ∷
    (started 0 1 ∷ started 1 1 ∷ failed 1 2 ∷ finished 0 1 ∷ []) ∷
    (registered 1 1 ∷ started 0 1 ∷ started 1 1 ∷ failed 1 2 ∷ []) ∷ []

in_order_16 : map (is_in_order plan_16 replies_16 2) lists_16 ≡ true ∷ true ∷ true ∷ true ∷ true ∷ false ∷ false ∷ false ∷ true ∷ true ∷ true ∷ false ∷ []
in_order_16 = refl

legal_16 : map (is_legal plan_16 replies_16 2) lists_16 ≡ true ∷ true ∷ true ∷ true ∷ true ∷ false ∷ false ∷ false ∷ true ∷ true ∷ true ∷ false ∷ []
legal_16 = refl

abbrev plan_17 : PlanParts
plan_17 = record { tree = record { parents = 0 ∷ 0 ∷ 1 ∷ 2 ∷ 2 ∷ 4 ∷ []; nodes = a_node Container Plain None None None ∷ a_node Container Plain None (Some 1) (Some []) ∷ a_node Test Plain None None (Some (codes "later")) ∷ a_node Container Factory (Some 2) None None ∷ a_node Test Spare (Some 3) None None ∷ [] }; held = []; keys = []; limits = []; modes = SameThread ∷ SameThread ∷ SameThread ∷ Concurrent ∷ SameThread ∷ SameThread ∷ []; fail_fast = true; tolerated = 0 }

abbrev replies_17 : ℕ → List Reply
replies_17 = replies_in ((1, a_reply Successful [] 0 ∷ []) ∷ (2, a_reply Aborted [] 1 ∷ []) ∷ (3, a_reply Successful [] 0 ∷ []) ∷ [])

abbrev lists_17 : List (List Event)
lists_17 =
    (started 0 2 ∷ started 1 1 ∷ skipped 2 1 ∷ finished 1 1 ∷ finished 0 1 ∷ []) ∷
    (started 0 2 ∷ started 1 1 ∷ []) ∷
    (started 0 2 ∷ started 1 1 ∷ skipped 2 1 ∷ []) ∷
    ([]) ∷
    (started 0 2 ∷ started 1 1 ∷ skipped 2 1 ∷ finished 1 1 ∷ []) ∷
    (registered 4 2 ∷ []) ∷
    (started 0 1 ∷ []) ∷
    (finished 1 1 ∷ started 1 1 ∷ skipped 2 1 ∷ started 3 2 ∷ []) ∷
    (started 0 2 ∷ started 1 1 ∷ skipped 2 1 ∷ aborted 4 2 ∷ []) ∷
    (skipped 5 1 ∷ started 0 2 ∷ started 1 1 ∷ []) ∷
    (failed 3 2 ∷ []) ∷
    (started 0 2 ∷ started 1 1 ∷ failed 1 1 ∷ []) ∷ []

in_order_17 : map (is_in_order plan_17 replies_17 2) lists_17 ≡ false ∷ false ∷ false ∷ true ∷ false ∷ false ∷ true ∷ false ∷ false ∷ false ∷ false ∷ false ∷ []
in_order_17 = refl

legal_17 : map (is_legal plan_17 replies_17 2) lists_17 ≡ true ∷ true ∷ true ∷ true ∷ true ∷ false ∷ true ∷ false ∷ false ∷ false ∷ false ∷ false ∷ []
legal_17 = refl

abbrev plan_18 : PlanParts
plan_18 = record { tree = record { parents = 0 ∷ 0 ∷ []; nodes = a_node Container Plain (Some 1) None None ∷ [] }; held = []; keys = []; limits = []; modes = SameThread ∷ SameThread ∷ []; fail_fast = true; tolerated = 0 }

abbrev replies_18 : ℕ → List Reply
replies_18 = replies_in ((1, a_reply Successful [] 0 ∷ []) ∷ [])

abbrev lists_18 : List (List Event)
lists_18 =
    (started 0 2 ∷ started 1 1 ∷ finished 1 1 ∷ finished 0 2 ∷ []) ∷
    (started 0 2 ∷ started 1 1 ∷ finished 1 1 ∷ []) ∷
    ([]) ∷
    (started 0 2 ∷ started 1 1 ∷ finished 1 1 ∷ finished 0 2 ∷ []) ∷
    (started 0 2 ∷ []) ∷
    (started 0 2 ∷ failed 1 1 ∷ started 1 1 ∷ finished 1 1 ∷ []) ∷
    (registered 1 2 ∷ skipped 1 1 ∷ []) ∷
    (started 0 2 ∷ started 1 1 ∷ failed 0 1 ∷ []) ∷
    (started 0 2 ∷ started 1 1 ∷ started 0 1 ∷ []) ∷
    (started 0 2 ∷ started 1 1 ∷ []) ∷
    (started 0 2 ∷ registered 1 2 ∷ []) ∷
    (started 0 2 ∷ []) ∷ []

in_order_18 : map (is_in_order plan_18 replies_18 2) lists_18 ≡ false ∷ false ∷ true ∷ false ∷ true ∷ false ∷ false ∷ false ∷ false ∷ false ∷ false ∷ true ∷ []
in_order_18 = refl

legal_18 : map (is_legal plan_18 replies_18 2) lists_18 ≡ true ∷ true ∷ true ∷ true ∷ true ∷ false ∷ false ∷ false ∷ false ∷ true ∷ false ∷ true ∷ []
legal_18 = refl

abbrev plan_19 : PlanParts
plan_19 = record { tree = record { parents = 0 ∷ 0 ∷ 1 ∷ 2 ∷ 2 ∷ []; nodes = a_node Container Plain None None None ∷ a_node Container Plain None None None ∷ a_node Test Plain (Some 1) None None ∷ a_node Container Factory None None (Some (codes "later")) ∷ [] }; held = []; keys = []; limits = []; modes = SameThread ∷ SameThread ∷ SameThread ∷ SameThread ∷ SameThread ∷ []; fail_fast = true; tolerated = 0 }

abbrev replies_19 : ℕ → List Reply
replies_19 = replies_in ((1, a_reply Successful [] 0 ∷ a_reply Successful (codes "other") 3 ∷ []) ∷ [])

abbrev lists_19 : List (List Event)
lists_19 =
    (started 0 1 ∷ started 1 1 ∷ started 2 1 ∷ started 3 1 ∷ finished 3 1 ∷ skipped 4 1 ∷ finished 2 1 ∷ finished 1 1 ∷ finished 0 1 ∷ []) ∷
    (started 0 1 ∷ started 1 1 ∷ started 2 1 ∷ started 3 1 ∷ finished 3 1 ∷ []) ∷
    (started 0 1 ∷ []) ∷
    (started 0 1 ∷ started 1 1 ∷ started 2 1 ∷ started 3 1 ∷ finished 3 1 ∷ skipped 4 1 ∷ []) ∷
    (started 0 1 ∷ started 1 1 ∷ []) ∷
    (started 0 1 ∷ started 0 1 ∷ []) ∷
    (started 0 1 ∷ started 1 1 ∷ failed 3 1 ∷ []) ∷
    (started 0 1 ∷ started 1 1 ∷ started 2 1 ∷ finished 4 1 ∷ started 3 1 ∷ finished 3 1 ∷ []) ∷
    (started 0 1 ∷ registered 2 1 ∷ []) ∷
    (started 0 1 ∷ started 1 1 ∷ started 2 1 ∷ started 3 1 ∷ finished 3 1 ∷ skipped 4 1 ∷ finished 2 1 ∷ failed 4 1 ∷ []) ∷
    (started 0 1 ∷ started 1 1 ∷ started 2 1 ∷ started 3 1 ∷ finished 3 1 ∷ skipped 4 1 ∷ finished 2 1 ∷ finished 0 1 ∷ finished 1 1 ∷ []) ∷
    (started 0 1 ∷ started 1 1 ∷ started 1 1 ∷ []) ∷ []

in_order_19 : map (is_in_order plan_19 replies_19 1) lists_19 ≡ true ∷ true ∷ true ∷ true ∷ true ∷ false ∷ false ∷ false ∷ false ∷ false ∷ false ∷ false ∷ []
in_order_19 = refl

legal_19 : map (is_legal plan_19 replies_19 1) lists_19 ≡ true ∷ true ∷ true ∷ true ∷ true ∷ false ∷ false ∷ false ∷ false ∷ false ∷ false ∷ false ∷ []
legal_19 = refl

abbrev plan_20 : PlanParts
plan_20 = record { tree = record { parents = 0 ∷ 0 ∷ 1 ∷ 1 ∷ []; nodes = a_node Container Plain None None None ∷ a_node Container Plain None None None ∷ a_node Container Plain None None None ∷ [] }; held = []; keys = []; limits = []; modes = SameThread ∷ SameThread ∷ SameThread ∷ SameThread ∷ []; fail_fast = true; tolerated = 0 }

abbrev replies_20 : ℕ → List Reply
replies_20 = replies_in ([])

abbrev lists_20 : List (List Event)
lists_20 =
    (started 0 1 ∷ started 1 1 ∷ started 3 1 ∷ started 2 1 ∷ finished 2 1 ∷ finished 3 1 ∷ finished 1 1 ∷ finished 0 1 ∷ []) ∷
    (started 0 1 ∷ started 1 1 ∷ started 3 1 ∷ started 2 1 ∷ finished 2 1 ∷ []) ∷
    (started 0 1 ∷ started 1 1 ∷ []) ∷
    (started 0 1 ∷ started 1 1 ∷ started 3 1 ∷ started 2 1 ∷ finished 2 1 ∷ finished 3 1 ∷ finished 1 1 ∷ finished 0 1 ∷ []) ∷
    (started 0 1 ∷ started 1 1 ∷ started 3 1 ∷ started 2 1 ∷ []) ∷
    (registered 3 1 ∷ started 1 1 ∷ started 3 1 ∷ started 2 1 ∷ finished 2 1 ∷ []) ∷
    (started 0 1 ∷ started 1 1 ∷ started 3 1 ∷ started 2 1 ∷ finished 2 1 ∷ finished 3 1 ∷ skipped 0 1 ∷ []) ∷
    (started 3 1 ∷ started 1 1 ∷ []) ∷
    (started 0 1 ∷ started 1 1 ∷ started 3 1 ∷ started 2 1 ∷ finished 2 1 ∷ finished 3 1 ∷ finished 1 1 ∷ finished 1 1 ∷ []) ∷
    (started 0 1 ∷ started 1 1 ∷ started 3 1 ∷ started 2 1 ∷ failed 0 1 ∷ []) ∷
    (started 0 1 ∷ started 1 1 ∷ started 3 1 ∷ started 2 1 ∷ finished 2 1 ∷ finished 3 1 ∷ failed 0 1 ∷ []) ∷
    (started 0 1 ∷ started 1 1 ∷ started 3 1 ∷ started 2 1 ∷ aborted 2 1 ∷ finished 2 1 ∷ finished 3 1 ∷ finished 1 1 ∷ finished 0 1 ∷ []) ∷ []

in_order_20 : map (is_in_order plan_20 replies_20 1) lists_20 ≡ false ∷ false ∷ true ∷ false ∷ false ∷ false ∷ false ∷ false ∷ false ∷ false ∷ false ∷ false ∷ []
in_order_20 = refl

legal_20 : map (is_legal plan_20 replies_20 1) lists_20 ≡ true ∷ true ∷ true ∷ true ∷ true ∷ false ∷ false ∷ false ∷ false ∷ false ∷ false ∷ false ∷ []
legal_20 = refl

abbrev plan_21 : PlanParts
plan_21 = record { tree = record { parents = 0 ∷ 0 ∷ []; nodes = a_node Test Plain None None (Some []) ∷ [] }; held = []; keys = []; limits = []; modes = Concurrent ∷ SameThread ∷ []; fail_fast = true; tolerated = 0 }

abbrev replies_21 : ℕ → List Reply
replies_21 = replies_in ([])

abbrev lists_21 : List (List Event)
lists_21 =
    (started 0 1 ∷ skipped 1 1 ∷ finished 0 1 ∷ []) ∷
    ([]) ∷
    (started 0 1 ∷ skipped 1 1 ∷ []) ∷
    (started 0 1 ∷ skipped 1 1 ∷ finished 0 1 ∷ []) ∷
    (started 0 1 ∷ []) ∷
    (started 0 1 ∷ started 1 1 ∷ skipped 1 1 ∷ finished 0 1 ∷ []) ∷
    (started 0 1 ∷ skipped 1 1 ∷ []) ∷
    (started 0 1 ∷ skipped 1 1 ∷ finished 0 1 ∷ started 1 1 ∷ []) ∷
    (registered 1 1 ∷ []) ∷
    (failed 1 1 ∷ []) ∷
    (started 1 1 ∷ []) ∷
    (started 0 1 ∷ registered 0 1 ∷ []) ∷ []

in_order_21 : map (is_in_order plan_21 replies_21 1) lists_21 ≡ true ∷ true ∷ true ∷ true ∷ true ∷ false ∷ true ∷ false ∷ false ∷ false ∷ false ∷ false ∷ []
in_order_21 = refl

legal_21 : map (is_legal plan_21 replies_21 1) lists_21 ≡ true ∷ true ∷ true ∷ true ∷ true ∷ false ∷ true ∷ false ∷ false ∷ false ∷ false ∷ false ∷ []
legal_21 = refl

abbrev plan_22 : PlanParts
plan_22 = record { tree = record { parents = 0 ∷ 0 ∷ 1 ∷ 1 ∷ []; nodes = a_node Container Plain (Some 1) None None ∷ a_node Container Plain None None None ∷ a_node Container Plain None None (Some (codes "later")) ∷ [] }; held = []; keys = []; limits = []; modes = SameThread ∷ SameThread ∷ SameThread ∷ SameThread ∷ []; fail_fast = true; tolerated = 0 }

abbrev replies_22 : ℕ → List Reply
replies_22 = replies_in ((1, a_reply Successful [] 0 ∷ []) ∷ [])

abbrev lists_22 : List (List Event)
lists_22 =
    (started 0 1 ∷ started 1 2 ∷ skipped 3 1 ∷ started 2 2 ∷ finished 2 2 ∷ finished 1 1 ∷ finished 0 2 ∷ []) ∷
    (started 0 1 ∷ started 1 2 ∷ skipped 3 1 ∷ []) ∷
    (started 0 1 ∷ started 1 2 ∷ skipped 3 1 ∷ started 2 2 ∷ finished 2 2 ∷ []) ∷
    (started 0 1 ∷ started 1 2 ∷ skipped 3 1 ∷ started 2 2 ∷ []) ∷
    (started 0 1 ∷ started 1 2 ∷ skipped 3 1 ∷ started 2 2 ∷ finished 2 2 ∷ finished 1 1 ∷ finished 0 2 ∷ []) ∷
    (started 1 2 ∷ started 0 1 ∷ []) ∷
    (started 2 2 ∷ started 0 1 ∷ started 1 2 ∷ []) ∷
    (started 0 1 ∷ failed 2 1 ∷ []) ∷
    (started 3 2 ∷ started 0 1 ∷ started 1 2 ∷ skipped 3 1 ∷ started 2 2 ∷ finished 2 2 ∷ finished 1 1 ∷ finished 0 2 ∷ []) ∷
    (started 0 1 ∷ started 1 2 ∷ skipped 2 1 ∷ skipped 3 1 ∷ started 2 2 ∷ []) ∷
    (failed 2 1 ∷ []) ∷
    (finished 1 1 ∷ started 0 1 ∷ started 1 2 ∷ skipped 3 1 ∷ started 2 2 ∷ finished 2 2 ∷ started 0 1 ∷ []) ∷ []

in_order_22 : map (is_in_order plan_22 replies_22 2) lists_22 ≡ false ∷ false ∷ false ∷ false ∷ false ∷ false ∷ false ∷ false ∷ false ∷ false ∷ false ∷ false ∷ []
in_order_22 = refl

legal_22 : map (is_legal plan_22 replies_22 2) lists_22 ≡ true ∷ true ∷ true ∷ true ∷ true ∷ false ∷ false ∷ false ∷ false ∷ false ∷ false ∷ false ∷ []
legal_22 = refl

abbrev plan_23 : PlanParts
plan_23 = record { tree = record { parents = 0 ∷ 0 ∷ 1 ∷ 1 ∷ 1 ∷ 4 ∷ []; nodes = a_node Container Plain None None None ∷ a_node Container Plain None None None ∷ a_node Container Plain None None None ∷ a_node Container Plain None (Some 1) None ∷ a_node Container Factory (Some 2) None None ∷ [] }; held = []; keys = []; limits = []; modes = SameThread ∷ SameThread ∷ Concurrent ∷ SameThread ∷ Concurrent ∷ SameThread ∷ []; fail_fast = true; tolerated = 0 }

abbrev replies_23 : ℕ → List Reply
replies_23 = replies_in ((1, a_reply Successful [] 0 ∷ []) ∷ (2, a_reply Successful [] 0 ∷ []) ∷ [])

abbrev lists_23 : List (List Event)
lists_23 =
    (started 0 2 ∷ started 1 1 ∷ started 2 2 ∷ finished 2 2 ∷ started 3 1 ∷ started 4 1 ∷ finished 3 1 ∷ started 5 2 ∷ finished 5 1 ∷ finished 4 2 ∷ finished 1 1 ∷ finished 0 2 ∷ []) ∷
    (started 0 2 ∷ started 1 1 ∷ started 2 2 ∷ finished 2 2 ∷ started 3 1 ∷ started 4 1 ∷ finished 3 1 ∷ []) ∷
    (started 0 2 ∷ started 1 1 ∷ started 2 2 ∷ finished 2 2 ∷ started 3 1 ∷ []) ∷
    (started 0 2 ∷ started 1 1 ∷ started 2 2 ∷ finished 2 2 ∷ started 3 1 ∷ started 4 1 ∷ finished 3 1 ∷ started 5 2 ∷ finished 5 1 ∷ finished 4 2 ∷ finished 1 1 ∷ []) ∷
    (started 0 2 ∷ started 1 1 ∷ []) ∷
    (started 0 2 ∷ started 1 1 ∷ started 2 2 ∷ finished 2 2 ∷ failed 1 2 ∷ started 4 1 ∷ finished 3 1 ∷ started 5 2 ∷ finished 5 1 ∷ finished 4 2 ∷ finished 1 1 ∷ finished 0 2 ∷ []) ∷
    (started 0 2 ∷ started 1 1 ∷ started 2 2 ∷ finished 2 2 ∷ started 3 1 ∷ started 4 1 ∷ finished 3 1 ∷ started 5 2 ∷ finished 5 1 ∷ finished 4 2 ∷ finished 1 1 ∷ finished 0 2 ∷ registered 1 1 ∷ []) ∷
    (started 0 2 ∷ started 1 1 ∷ started 2 2 ∷ finished 2 2 ∷ failed 5 1 ∷ []) ∷
    (started 0 2 ∷ started 1 1 ∷ started 2 2 ∷ finished 2 2 ∷ started 3 1 ∷ started 4 1 ∷ finished 3 1 ∷ started 5 2 ∷ finished 5 1 ∷ finished 4 2 ∷ aborted 4 2 ∷ []) ∷
    (started 0 2 ∷ started 1 1 ∷ started 2 2 ∷ finished 2 2 ∷ started 3 1 ∷ aborted 5 1 ∷ []) ∷
    (started 0 2 ∷ started 1 1 ∷ started 2 2 ∷ finished 2 2 ∷ started 3 1 ∷ started 4 1 ∷ started 1 1 ∷ finished 3 1 ∷ []) ∷
    (started 0 2 ∷ started 1 1 ∷ started 2 2 ∷ finished 2 2 ∷ started 3 1 ∷ started 4 1 ∷ finished 3 1 ∷ finished 5 1 ∷ []) ∷ []

in_order_23 : map (is_in_order plan_23 replies_23 2) lists_23 ≡ false ∷ false ∷ false ∷ false ∷ false ∷ false ∷ false ∷ false ∷ false ∷ false ∷ false ∷ false ∷ []
in_order_23 = refl

legal_23 : map (is_legal plan_23 replies_23 2) lists_23 ≡ true ∷ true ∷ true ∷ true ∷ true ∷ false ∷ false ∷ false ∷ false ∷ false ∷ false ∷ false ∷ []
legal_23 = refl

abbrev plan_24 : PlanParts
plan_24 = record { tree = record { parents = 0 ∷ 0 ∷ 1 ∷ 1 ∷ 3 ∷ 3 ∷ 3 ∷ []; nodes = a_node Container Plain None None None ∷ a_node Container Plain None None None ∷ a_node Container Plain (Some 1) None None ∷ a_node Test Plain (Some 2) None None ∷ a_node Test Plain (Some 3) None None ∷ a_node Container Plain (Some 4) None None ∷ [] }; held = []; keys = []; limits = []; modes = SameThread ∷ SameThread ∷ Concurrent ∷ Concurrent ∷ SameThread ∷ SameThread ∷ SameThread ∷ []; fail_fast = true; tolerated = 0 }

abbrev replies_24 : ℕ → List Reply
replies_24 = replies_in ((1, a_reply Successful [] 0 ∷ a_reply Aborted (codes "other") 2 ∷ []) ∷ (2, a_reply Successful [] 0 ∷ []) ∷ (3, a_reply Failed (codes "boom y") 0 ∷ []) ∷ (4, a_reply Aborted [] 0 ∷ []) ∷ [])

abbrev lists_24 : List (List Event)
lists_24 =
    (started 0 1 ∷ started 1 1 ∷ started 3 1 ∷ aborted 3 1 ∷ started 2 2 ∷ finished 2 2 ∷ finished 1 2 ∷ finished 0 1 ∷ []) ∷
    (started 0 1 ∷ started 1 1 ∷ started 3 1 ∷ aborted 3 1 ∷ []) ∷
    (started 0 1 ∷ started 1 1 ∷ []) ∷
    ([]) ∷
    (started 0 1 ∷ started 1 1 ∷ started 3 1 ∷ []) ∷
    (started 0 1 ∷ started 1 1 ∷ started 3 1 ∷ aborted 3 1 ∷ started 2 2 ∷ failed 4 1 ∷ []) ∷
    (started 0 1 ∷ started 1 1 ∷ started 3 1 ∷ aborted 3 1 ∷ started 2 2 ∷ registered 0 1 ∷ []) ∷
    (aborted 5 2 ∷ []) ∷
    (started 0 1 ∷ started 1 1 ∷ started 3 1 ∷ aborted 3 1 ∷ started 2 2 ∷ started 0 2 ∷ []) ∷
    (started 0 1 ∷ started 1 1 ∷ started 3 1 ∷ started 2 2 ∷ []) ∷
    (started 0 1 ∷ started 3 1 ∷ aborted 3 1 ∷ []) ∷
    (started 0 1 ∷ started 1 1 ∷ started 3 1 ∷ registered 1 2 ∷ []) ∷ []

in_order_24 : map (is_in_order plan_24 replies_24 2) lists_24 ≡ true ∷ true ∷ true ∷ true ∷ true ∷ false ∷ false ∷ false ∷ false ∷ true ∷ false ∷ false ∷ []
in_order_24 = refl

legal_24 : map (is_legal plan_24 replies_24 2) lists_24 ≡ true ∷ true ∷ true ∷ true ∷ true ∷ false ∷ false ∷ false ∷ false ∷ true ∷ false ∷ false ∷ []
legal_24 = refl

abbrev plan_25 : PlanParts
plan_25 = record { tree = record { parents = 0 ∷ 0 ∷ 1 ∷ 2 ∷ []; nodes = a_node Container Plain None None None ∷ a_node Container Plain None (Some 1) None ∷ a_node Test Plain (Some 2) None None ∷ [] }; held = []; keys = []; limits = []; modes = SameThread ∷ SameThread ∷ SameThread ∷ Concurrent ∷ []; fail_fast = true; tolerated = 0 }

abbrev replies_25 : ℕ → List Reply
replies_25 = replies_in ((1, a_reply Successful [] 0 ∷ []) ∷ (2, a_reply Failed (codes "x") 0 ∷ []) ∷ [])

abbrev lists_25 : List (List Event)
lists_25 =
    (started 0 1 ∷ started 1 1 ∷ started 2 1 ∷ started 3 1 ∷ failed 3 1 ∷ finished 2 1 ∷ finished 1 1 ∷ finished 0 1 ∷ []) ∷
    (started 0 1 ∷ started 1 1 ∷ started 2 1 ∷ started 3 1 ∷ failed 3 1 ∷ []) ∷
    (started 0 1 ∷ started 1 1 ∷ started 2 1 ∷ started 3 1 ∷ failed 3 1 ∷ finished 2 1 ∷ finished 1 1 ∷ []) ∷
    (started 0 1 ∷ started 1 1 ∷ started 2 1 ∷ []) ∷
    (started 0 1 ∷ started 1 1 ∷ started 2 1 ∷ started 3 1 ∷ failed 3 1 ∷ finished 2 1 ∷ []) ∷
    (started 3 1 ∷ started 0 1 ∷ registered 1 1 ∷ []) ∷
    (started 3 1 ∷ []) ∷
    (started 0 1 ∷ finished 2 1 ∷ []) ∷
    (started 0 1 ∷ started 1 1 ∷ aborted 2 1 ∷ []) ∷
    (started 0 1 ∷ started 1 1 ∷ started 2 1 ∷ started 2 1 ∷ started 3 1 ∷ failed 3 1 ∷ finished 2 1 ∷ finished 1 1 ∷ []) ∷
    (started 0 1 ∷ started 1 1 ∷ started 2 1 ∷ started 3 1 ∷ failed 3 1 ∷ finished 2 1 ∷ finished 1 1 ∷ aborted 1 1 ∷ []) ∷
    (started 0 1 ∷ started 1 1 ∷ finished 2 1 ∷ []) ∷ []

in_order_25 : map (is_in_order plan_25 replies_25 1) lists_25 ≡ true ∷ true ∷ true ∷ true ∷ true ∷ false ∷ false ∷ false ∷ false ∷ false ∷ false ∷ false ∷ []
in_order_25 = refl

legal_25 : map (is_legal plan_25 replies_25 1) lists_25 ≡ true ∷ true ∷ true ∷ true ∷ true ∷ false ∷ false ∷ false ∷ false ∷ false ∷ false ∷ false ∷ []
legal_25 = refl

abbrev plan_26 : PlanParts
plan_26 = record { tree = record { parents = 0 ∷ 0 ∷ 1 ∷ 2 ∷ 1 ∷ 4 ∷ 4 ∷ []; nodes = a_node Container Plain None None None ∷ a_node Container Plain None None None ∷ a_node Test Plain (Some 1) None None ∷ a_node Container Plain (Some 2) None None ∷ a_node Test Plain (Some 3) None None ∷ a_node Container Plain None None None ∷ [] }; held = []; keys = []; limits = []; modes = SameThread ∷ SameThread ∷ SameThread ∷ SameThread ∷ Concurrent ∷ Concurrent ∷ Concurrent ∷ []; fail_fast = true; tolerated = 0 }

abbrev replies_26 : ℕ → List Reply
replies_26 = replies_in ((1, a_reply Successful [] 0 ∷ []) ∷ (2, a_reply Successful [] 0 ∷ []) ∷ (3, a_reply Aborted (codes "x") 0 ∷ []) ∷ [])

abbrev lists_26 : List (List Event)
lists_26 =
    (started 0 1 ∷ started 1 2 ∷ started 4 2 ∷ started 6 2 ∷ started 2 2 ∷ started 3 1 ∷ started 5 2 ∷ aborted 5 1 ∷ finished 6 2 ∷ finished 3 1 ∷ finished 4 1 ∷ finished 2 2 ∷ finished 1 1 ∷ finished 0 2 ∷ []) ∷
    (started 0 1 ∷ started 1 2 ∷ started 4 2 ∷ started 6 2 ∷ []) ∷
    (started 0 1 ∷ started 1 2 ∷ started 4 2 ∷ started 6 2 ∷ started 2 2 ∷ []) ∷
    (started 0 1 ∷ started 1 2 ∷ started 4 2 ∷ started 6 2 ∷ started 2 2 ∷ started 3 1 ∷ started 5 2 ∷ aborted 5 1 ∷ finished 6 2 ∷ finished 3 1 ∷ finished 4 1 ∷ finished 2 2 ∷ finished 1 1 ∷ finished 0 2 ∷ []) ∷
    (started 0 1 ∷ started 1 2 ∷ started 4 2 ∷ started 6 2 ∷ started 2 2 ∷ started 3 1 ∷ started 5 2 ∷ aborted 5 1 ∷ finished 6 2 ∷ finished 3 1 ∷ finished 4 1 ∷ finished 2 2 ∷ []) ∷
    (started 0 1 ∷ started 1 2 ∷ started 4 2 ∷ started 6 2 ∷ started 2 2 ∷ started 3 1 ∷ started 5 2 ∷ aborted 5 1 ∷ finished 6 2 ∷ registered 3 1 ∷ []) ∷
    (started 0 1 ∷ started 1 2 ∷ started 4 2 ∷ started 6 2 ∷ started 2 2 ∷ started 3 1 ∷ started 5 2 ∷ aborted 5 1 ∷ finished 6 2 ∷ finished 3 1 ∷ started 5 2 ∷ []) ∷
    (started 0 1 ∷ started 1 2 ∷ started 4 2 ∷ []) ∷
    (started 3 1 ∷ started 1 2 ∷ started 1 2 ∷ started 4 2 ∷ started 6 2 ∷ started 2 2 ∷ started 0 1 ∷ started 5 2 ∷ []) ∷
    (started 0 1 ∷ started 1 2 ∷ started 4 2 ∷ started 6 2 ∷ started 2 2 ∷ started 3 1 ∷ started 5 2 ∷ aborted 5 1 ∷ skipped 2 2 ∷ []) ∷
    (skipped 6 1 ∷ started 0 1 ∷ started 1 2 ∷ started 6 2 ∷ started 4 2 ∷ []) ∷
    (started 5 1 ∷ []) ∷ []

in_order_26 : map (is_in_order plan_26 replies_26 2) lists_26 ≡ false ∷ false ∷ false ∷ false ∷ false ∷ false ∷ false ∷ false ∷ false ∷ false ∷ false ∷ false ∷ []
in_order_26 = refl

legal_26 : map (is_legal plan_26 replies_26 2) lists_26 ≡ true ∷ true ∷ true ∷ true ∷ true ∷ false ∷ false ∷ true ∷ false ∷ false ∷ false ∷ false ∷ []
legal_26 = refl

abbrev plan_27 : PlanParts
plan_27 = record { tree = record { parents = 0 ∷ 0 ∷ 1 ∷ 2 ∷ 2 ∷ 0 ∷ 5 ∷ []; nodes = a_node Container Plain (Some 1) None None ∷ a_node Container Plain None None None ∷ a_node Test Plain (Some 2) None None ∷ a_node Test Plain (Some 3) None None ∷ a_node Container Plain (Some 4) None None ∷ a_node Container Plain (Some 5) None None ∷ [] }; held = []; keys = []; limits = []; modes = Concurrent ∷ SameThread ∷ Concurrent ∷ Concurrent ∷ SameThread ∷ SameThread ∷ SameThread ∷ []; fail_fast = true; tolerated = 0 }

abbrev replies_27 : ℕ → List Reply
replies_27 = replies_in ((1, a_reply Successful [] 0 ∷ []) ∷ (2, a_reply Successful [] 0 ∷ []) ∷ (3, a_reply Aborted (codes "boom y") 0 ∷ a_reply Successful (codes "other") 2 ∷ []) ∷ (4, a_reply Successful [] 0 ∷ a_reply Successful (codes "other") 0 ∷ []) ∷ (5, a_reply Failed (codes "boom y") 0 ∷ a_reply Failed (codes "other") 0 ∷ []) ∷ [])

abbrev lists_27 : List (List Event)
lists_27 =
    (started 0 2 ∷ started 1 2 ∷ started 2 1 ∷ started 4 1 ∷ finished 4 1 ∷ started 5 2 ∷ started 6 1 ∷ failed 6 1 ∷ skipped 3 1 ∷ finished 5 2 ∷ finished 2 2 ∷ finished 1 2 ∷ finished 0 2 ∷ []) ∷
    (started 0 2 ∷ started 1 2 ∷ started 2 1 ∷ started 4 1 ∷ finished 4 1 ∷ started 5 2 ∷ started 6 1 ∷ failed 6 1 ∷ skipped 3 1 ∷ finished 5 2 ∷ finished 2 2 ∷ finished 1 2 ∷ finished 0 2 ∷ []) ∷
    (started 0 2 ∷ started 1 2 ∷ started 2 1 ∷ started 4 1 ∷ finished 4 1 ∷ started 5 2 ∷ started 6 1 ∷ failed 6 1 ∷ []) ∷
    (started 0 2 ∷ started 1 2 ∷ started 2 1 ∷ started 4 1 ∷ finished 4 1 ∷ started 5 2 ∷ started 6 1 ∷ failed 6 1 ∷ skipped 3 1 ∷ finished 5 2 ∷ []) ∷
    (started 0 2 ∷ started 1 2 ∷ started 2 1 ∷ started 4 1 ∷ finished 4 1 ∷ started 5 2 ∷ started 6 1 ∷ []) ∷
    (started 4 1 ∷ []) ∷
    (started 0 2 ∷ started 1 2 ∷ started 2 1 ∷ started 4 1 ∷ finished 4 1 ∷ started 5 2 ∷ started 6 1 ∷ failed 6 1 ∷ skipped 3 1 ∷ registered 3 2 ∷ []) ∷
    (started 0 2 ∷ started 1 2 ∷ started 2 1 ∷ started 4 1 ∷ finished 4 1 ∷ started 5 2 ∷ started 6 1 ∷ failed 6 1 ∷ skipped 3 1 ∷ finished 5 2 ∷ finished 2 2 ∷ finished 1 2 ∷ finished 0 2 ∷ []) ∷
    (started 0 2 ∷ started 1 2 ∷ started 2 1 ∷ started 4 1 ∷ []) ∷
    (started 0 2 ∷ started 1 2 ∷ started 2 1 ∷ started 4 1 ∷ finished 4 1 ∷ started 5 2 ∷ started 6 1 ∷ failed 6 1 ∷ started 6 2 ∷ []) ∷
    (aborted 2 2 ∷ []) ∷
    (started 0 2 ∷ started 1 2 ∷ started 2 1 ∷ started 4 1 ∷ finished 0 1 ∷ started 5 2 ∷ started 6 1 ∷ failed 6 1 ∷ skipped 3 1 ∷ finished 5 2 ∷ finished 2 2 ∷ finished 3 2 ∷ finished 0 2 ∷ []) ∷ []

in_order_27 : map (is_in_order plan_27 replies_27 2) lists_27 ≡ false ∷ false ∷ false ∷ false ∷ false ∷ false ∷ false ∷ false ∷ true ∷ false ∷ false ∷ false ∷ []
in_order_27 = refl

legal_27 : map (is_legal plan_27 replies_27 2) lists_27 ≡ true ∷ true ∷ true ∷ true ∷ true ∷ false ∷ false ∷ true ∷ true ∷ false ∷ false ∷ false ∷ []
legal_27 = refl

-- the trees are as asked of a plan, so that what the tests tell of legal histories holds of these
trees : list_all (λ (p : PlanParts). is_plan_tree p.tree) (plan_1 ∷ plan_2 ∷ plan_3 ∷ plan_4 ∷ plan_5 ∷ plan_6 ∷ plan_7 ∷ plan_8 ∷ plan_9 ∷ plan_10 ∷ plan_11 ∷ plan_12 ∷ plan_13 ∷ plan_14 ∷ plan_15 ∷ plan_16 ∷ plan_17 ∷ plan_18 ∷ plan_19 ∷ plan_20 ∷ plan_21 ∷ plan_22 ∷ plan_23 ∷ plan_24 ∷ plan_25 ∷ plan_26 ∷ plan_27 ∷ []) ≡ true
trees = refl
