-- What another writing of these definitions says of many lists of events on plans with after-bodies: the tests agree. Written by a program.
use Rattle.std.specs.Prelude.{codes}
use Rattle.std.specs.List.{list_all}
use Rattle.std.proofs.Common.{◌≡◌, ℕ, true, false, List, [], ◌∷◌, Some, None, map, refl}
use Rattle.descriptor.specs.declared.kind.Kind.TheVariants.{Test, Container, ContainerAndTest}
use Rattle.descriptor.specs.declared.mode.Mode.TheVariants.{SameThread, Concurrent}
use Rattle.descriptor.specs.declared.role.Role.TheVariants.{Plain}
use Rattle.plan_events.specs.declared.event.Event.{Event}
use Rattle.plan_events.specs.declared.outcome.Reply.{Reply}
use Rattle.plan_events.specs.declared.status.Status.TheVariants.{Successful, Aborted, Failed}
use Rattle.resource_locks.specs.Plans.{PlanParts}
use Rattle.event_history.specs.Expected.{Silent, Skips, Finishes, expected}
use Rattle.event_history.proofs.Deciding.{is_legal}
use Rattle.event_history.proofs.DecidingOrder.{is_in_order}
use Rattle.event_history.proofs.PlanTrees.{is_plan_tree}
use Rattle.event_history.proofs.RowWords.{a_node, started, finished, aborted, failed, skipped, registered, a_reply, replies_in, first_of_all}

abbrev plan_1 : PlanParts
plan_1 = record { tree = record { parents = 0 ∷ 0 ∷ 1 ∷ 2 ∷ 2 ∷ 0 ∷ 0 ∷ 6 ∷ []; nodes = a_node Container Plain None None None ∷ a_node Container Plain None (Some 1) (Some []) ∷ a_node Test Plain (Some 2) None None ∷ a_node Test Plain (Some 3) None None ∷ a_node Container Plain None None None ∷ a_node Container Plain None None None ∷ a_node Container Plain (Some 4) (Some 5) None ∷ [] }; held = []; keys = []; limits = []; modes = SameThread ∷ SameThread ∷ Concurrent ∷ SameThread ∷ SameThread ∷ SameThread ∷ SameThread ∷ Concurrent ∷ []; fail_fast = false; tolerated = 0 }

abbrev replies_1 : ℕ → List Reply
replies_1 = replies_in ((1, a_reply Successful [] 0 ∷ []) ∷ (2, a_reply Successful [] 0 ∷ []) ∷ (3, a_reply Failed (codes "boom y") 0 ∷ []) ∷ (4, a_reply Successful [] 0 ∷ []) ∷ (5, a_reply Successful [] 0 ∷ []) ∷ [])

abbrev lists_1 : List (List Event)
lists_1 =
    (started 0 2 ∷ started 1 1 ∷ started 6 1 ∷ started 5 2 ∷ skipped 2 2 ∷ finished 5 1 ∷ started 7 1 ∷ finished 1 2 ∷ finished 7 2 ∷ finished 6 2 ∷ finished 0 2 ∷ []) ∷
    (started 0 2 ∷ started 1 1 ∷ started 6 1 ∷ started 5 2 ∷ skipped 2 2 ∷ finished 5 1 ∷ started 7 1 ∷ finished 1 2 ∷ finished 7 2 ∷ finished 6 2 ∷ finished 0 2 ∷ []) ∷
    ([]) ∷
    (started 0 2 ∷ started 1 1 ∷ started 6 1 ∷ started 5 2 ∷ skipped 2 2 ∷ finished 5 1 ∷ started 7 1 ∷ finished 1 2 ∷ finished 7 2 ∷ finished 6 2 ∷ []) ∷
    (started 0 2 ∷ started 1 1 ∷ started 6 1 ∷ started 5 2 ∷ skipped 2 2 ∷ finished 5 1 ∷ started 7 1 ∷ finished 1 2 ∷ []) ∷
    (started 0 2 ∷ started 1 1 ∷ started 6 1 ∷ started 5 2 ∷ skipped 2 2 ∷ finished 5 1 ∷ started 7 1 ∷ finished 1 2 ∷ started 4 1 ∷ []) ∷
    (started 0 2 ∷ started 1 1 ∷ started 6 1 ∷ started 5 2 ∷ []) ∷
    (started 0 2 ∷ started 1 1 ∷ started 6 1 ∷ started 5 2 ∷ skipped 2 2 ∷ finished 5 1 ∷ started 7 1 ∷ finished 1 2 ∷ finished 7 2 ∷ aborted 5 1 ∷ []) ∷
    (started 0 2 ∷ started 1 1 ∷ started 6 1 ∷ started 5 2 ∷ skipped 2 2 ∷ finished 5 1 ∷ started 7 1 ∷ finished 1 2 ∷ finished 7 2 ∷ finished 6 2 ∷ aborted 3 1 ∷ []) ∷
    (started 0 2 ∷ started 1 1 ∷ started 6 1 ∷ started 5 2 ∷ skipped 2 2 ∷ finished 5 1 ∷ started 7 1 ∷ finished 1 2 ∷ finished 7 2 ∷ finished 6 2 ∷ finished 0 2 ∷ []) ∷
    (started 0 2 ∷ started 1 1 ∷ started 6 1 ∷ started 5 2 ∷ []) ∷
    (started 0 2 ∷ started 1 1 ∷ started 6 1 ∷ started 5 2 ∷ skipped 2 2 ∷ finished 5 2 ∷ started 7 1 ∷ []) ∷ []

in_order_1 : map (is_in_order plan_1 replies_1 2) lists_1 ≡ false ∷ false ∷ true ∷ false ∷ false ∷ false ∷ false ∷ false ∷ false ∷ false ∷ false ∷ false ∷ []
in_order_1 = refl

legal_1 : map (is_legal plan_1 replies_1 2) lists_1 ≡ true ∷ true ∷ true ∷ true ∷ true ∷ false ∷ true ∷ false ∷ false ∷ true ∷ true ∷ true ∷ []
legal_1 = refl

expected_1 : map (expected plan_1 (λ job. first_of_all (replies_1 job))) (0 ∷ 1 ∷ 2 ∷ 3 ∷ 4 ∷ 5 ∷ 6 ∷ 7 ∷ []) ≡ Finishes Successful None ∷ Finishes Successful None ∷ Skips ∷ Silent ∷ Silent ∷ Finishes Successful None ∷ Finishes Successful None ∷ Finishes Successful (Some []) ∷ []
expected_1 = refl

abbrev plan_2 : PlanParts
plan_2 = record { tree = record { parents = 0 ∷ 0 ∷ 1 ∷ 2 ∷ 2 ∷ 2 ∷ 2 ∷ 6 ∷ []; nodes = a_node Container Plain None (Some 1) None ∷ a_node Container Plain (Some 2) None None ∷ a_node Test Plain (Some 3) None None ∷ a_node Test Plain (Some 4) None (Some (codes "later")) ∷ a_node Test Plain (Some 5) None None ∷ a_node Container Plain None None None ∷ a_node Test Plain (Some 6) None None ∷ [] }; held = []; keys = []; limits = []; modes = SameThread ∷ SameThread ∷ Concurrent ∷ Concurrent ∷ Concurrent ∷ Concurrent ∷ Concurrent ∷ SameThread ∷ []; fail_fast = false; tolerated = 0 }

abbrev replies_2 : ℕ → List Reply
replies_2 = replies_in ((1, a_reply Successful [] 0 ∷ []) ∷ (2, a_reply Successful [] 0 ∷ []) ∷ (3, a_reply Failed (codes "x") 0 ∷ []) ∷ (4, a_reply Failed (codes "boom y") 0 ∷ []) ∷ (5, a_reply Aborted [] 0 ∷ []) ∷ (6, a_reply Aborted (codes "boom y") 0 ∷ []) ∷ [])

abbrev lists_2 : List (List Event)
lists_2 =
    (started 0 2 ∷ started 1 1 ∷ started 2 1 ∷ skipped 4 1 ∷ started 3 2 ∷ failed 3 1 ∷ started 5 1 ∷ started 6 2 ∷ aborted 5 1 ∷ started 7 2 ∷ aborted 7 1 ∷ finished 6 2 ∷ finished 2 1 ∷ finished 1 1 ∷ finished 0 1 ∷ []) ∷
    (started 0 2 ∷ started 1 1 ∷ started 2 1 ∷ skipped 4 1 ∷ started 3 2 ∷ failed 3 1 ∷ started 5 1 ∷ started 6 2 ∷ aborted 5 1 ∷ started 7 2 ∷ aborted 7 1 ∷ finished 6 2 ∷ finished 2 1 ∷ finished 1 1 ∷ finished 0 1 ∷ []) ∷
    (started 0 2 ∷ started 1 1 ∷ started 2 1 ∷ []) ∷
    (started 0 2 ∷ started 1 1 ∷ started 2 1 ∷ skipped 4 1 ∷ started 3 2 ∷ failed 3 1 ∷ started 5 1 ∷ started 6 2 ∷ aborted 5 1 ∷ started 7 2 ∷ aborted 7 1 ∷ finished 6 2 ∷ finished 2 1 ∷ []) ∷
    (started 0 2 ∷ started 1 1 ∷ started 2 1 ∷ skipped 4 1 ∷ started 3 2 ∷ failed 3 1 ∷ started 5 1 ∷ []) ∷
    (started 0 2 ∷ started 1 1 ∷ started 2 1 ∷ skipped 4 1 ∷ started 1 2 ∷ failed 3 1 ∷ started 5 1 ∷ finished 1 1 ∷ []) ∷
    (started 0 2 ∷ started 1 1 ∷ registered 2 1 ∷ []) ∷
    (started 0 2 ∷ started 1 1 ∷ started 2 1 ∷ started 3 2 ∷ skipped 2 1 ∷ []) ∷
    (started 0 2 ∷ started 1 1 ∷ started 2 1 ∷ skipped 4 1 ∷ started 3 2 ∷ failed 3 1 ∷ started 5 2 ∷ started 6 2 ∷ aborted 5 1 ∷ []) ∷
    (started 0 2 ∷ started 1 1 ∷ started 2 1 ∷ skipped 4 1 ∷ started 3 2 ∷ failed 3 1 ∷ started 5 1 ∷ started 6 2 ∷ aborted 5 1 ∷ started 7 2 ∷ aborted 7 1 ∷ []) ∷
    (started 0 2 ∷ started 1 1 ∷ started 2 1 ∷ skipped 4 1 ∷ started 3 2 ∷ failed 3 1 ∷ aborted 7 1 ∷ started 6 2 ∷ aborted 5 1 ∷ started 7 2 ∷ started 5 1 ∷ finished 6 2 ∷ finished 2 1 ∷ finished 1 1 ∷ []) ∷
    (started 0 2 ∷ started 1 1 ∷ started 2 1 ∷ skipped 4 1 ∷ started 3 2 ∷ failed 3 1 ∷ started 5 1 ∷ started 5 1 ∷ []) ∷ []

in_order_2 : map (is_in_order plan_2 replies_2 2) lists_2 ≡ false ∷ false ∷ false ∷ false ∷ false ∷ false ∷ false ∷ false ∷ false ∷ false ∷ false ∷ false ∷ []
in_order_2 = refl

legal_2 : map (is_legal plan_2 replies_2 2) lists_2 ≡ true ∷ true ∷ true ∷ true ∷ true ∷ false ∷ false ∷ false ∷ true ∷ true ∷ false ∷ false ∷ []
legal_2 = refl

expected_2 : map (expected plan_2 (λ job. first_of_all (replies_2 job))) (0 ∷ 1 ∷ 2 ∷ 3 ∷ 4 ∷ 5 ∷ 6 ∷ 7 ∷ []) ≡ Finishes Successful None ∷ Finishes Successful (Some []) ∷ Finishes Successful (Some []) ∷ Finishes Failed (Some (codes "x")) ∷ Skips ∷ Finishes Aborted (Some []) ∷ Finishes Successful None ∷ Finishes Aborted (Some (codes "boom y")) ∷ []
expected_2 = refl

abbrev plan_3 : PlanParts
plan_3 = record { tree = record { parents = 0 ∷ 0 ∷ 1 ∷ 1 ∷ 3 ∷ 3 ∷ []; nodes = a_node Container Plain (Some 1) (Some 2) None ∷ a_node Container Plain (Some 3) None None ∷ a_node Container Plain (Some 4) None None ∷ a_node Container Plain (Some 5) None None ∷ a_node Test Plain None None None ∷ [] }; held = []; keys = []; limits = []; modes = Concurrent ∷ SameThread ∷ Concurrent ∷ SameThread ∷ SameThread ∷ Concurrent ∷ []; fail_fast = false; tolerated = 0 }

abbrev replies_3 : ℕ → List Reply
replies_3 = replies_in ((1, a_reply Successful [] 0 ∷ []) ∷ (2, a_reply Successful [] 0 ∷ a_reply Successful (codes "other") 0 ∷ []) ∷ (3, a_reply Failed [] 0 ∷ []) ∷ (4, a_reply Successful [] 0 ∷ []) ∷ (5, a_reply Failed (codes "boom y") 0 ∷ []) ∷ [])

abbrev lists_3 : List (List Event)
lists_3 =
    (started 0 1 ∷ started 1 1 ∷ started 2 1 ∷ started 3 1 ∷ started 5 1 ∷ finished 5 1 ∷ failed 2 1 ∷ started 4 1 ∷ failed 4 1 ∷ finished 3 1 ∷ finished 1 1 ∷ finished 0 1 ∷ []) ∷
    (started 0 1 ∷ started 1 1 ∷ started 2 1 ∷ started 3 1 ∷ started 5 1 ∷ finished 5 1 ∷ []) ∷
    (started 0 1 ∷ started 1 1 ∷ started 2 1 ∷ started 3 1 ∷ started 5 1 ∷ finished 5 1 ∷ failed 2 1 ∷ started 4 1 ∷ failed 4 1 ∷ finished 3 1 ∷ finished 1 1 ∷ []) ∷
    (started 0 1 ∷ []) ∷
    (started 0 1 ∷ started 1 1 ∷ started 2 1 ∷ started 3 1 ∷ started 5 1 ∷ finished 5 1 ∷ failed 2 1 ∷ started 4 1 ∷ failed 4 1 ∷ finished 3 1 ∷ []) ∷
    (started 0 1 ∷ started 1 1 ∷ started 2 1 ∷ started 3 1 ∷ registered 1 1 ∷ []) ∷
    (started 0 1 ∷ started 1 1 ∷ started 2 1 ∷ started 3 1 ∷ []) ∷
    (skipped 4 1 ∷ registered 2 1 ∷ []) ∷
    (started 0 1 ∷ started 1 1 ∷ started 2 1 ∷ started 3 1 ∷ started 5 1 ∷ finished 5 1 ∷ failed 2 1 ∷ started 4 1 ∷ failed 4 1 ∷ registered 3 1 ∷ []) ∷
    (started 0 1 ∷ started 1 1 ∷ started 2 1 ∷ started 3 1 ∷ started 5 1 ∷ finished 5 1 ∷ registered 5 1 ∷ []) ∷
    (started 0 1 ∷ started 1 1 ∷ started 2 1 ∷ started 3 1 ∷ started 5 1 ∷ started 5 1 ∷ []) ∷
    (started 3 1 ∷ skipped 3 1 ∷ []) ∷ []

in_order_3 : map (is_in_order plan_3 replies_3 1) lists_3 ≡ true ∷ true ∷ true ∷ true ∷ true ∷ false ∷ true ∷ false ∷ false ∷ false ∷ false ∷ false ∷ []
in_order_3 = refl

legal_3 : map (is_legal plan_3 replies_3 1) lists_3 ≡ true ∷ true ∷ true ∷ true ∷ true ∷ false ∷ true ∷ false ∷ false ∷ false ∷ false ∷ false ∷ []
legal_3 = refl

abbrev plan_4 : PlanParts
plan_4 = record { tree = record { parents = 0 ∷ 0 ∷ 1 ∷ 1 ∷ 1 ∷ 0 ∷ 5 ∷ []; nodes = a_node Container Plain None (Some 1) None ∷ a_node Container Plain None (Some 2) None ∷ a_node ContainerAndTest Plain None (Some 3) None ∷ a_node Container Plain None None None ∷ a_node Container Plain None None None ∷ a_node Container Plain None (Some 4) None ∷ [] }; held = []; keys = []; limits = []; modes = SameThread ∷ SameThread ∷ Concurrent ∷ Concurrent ∷ Concurrent ∷ SameThread ∷ Concurrent ∷ []; fail_fast = false; tolerated = 0 }

abbrev replies_4 : ℕ → List Reply
replies_4 = replies_in ((1, a_reply Successful [] 0 ∷ []) ∷ (2, a_reply Successful [] 0 ∷ []) ∷ (3, a_reply Failed [] 0 ∷ []) ∷ (4, a_reply Successful [] 0 ∷ []) ∷ [])

abbrev lists_4 : List (List Event)
lists_4 =
    (started 0 1 ∷ started 5 1 ∷ started 6 1 ∷ started 1 1 ∷ started 4 1 ∷ started 3 1 ∷ finished 3 1 ∷ finished 6 1 ∷ started 2 1 ∷ finished 5 1 ∷ finished 4 1 ∷ finished 2 1 ∷ finished 1 1 ∷ finished 0 1 ∷ []) ∷
    (started 0 1 ∷ started 5 1 ∷ started 6 1 ∷ []) ∷
    (started 0 1 ∷ started 5 1 ∷ started 6 1 ∷ started 1 1 ∷ started 4 1 ∷ started 3 1 ∷ finished 3 1 ∷ finished 6 1 ∷ []) ∷
    (started 0 1 ∷ started 5 1 ∷ started 6 1 ∷ started 1 1 ∷ started 4 1 ∷ started 3 1 ∷ []) ∷
    ([]) ∷
    (failed 2 1 ∷ []) ∷
    (started 0 1 ∷ started 5 1 ∷ started 6 1 ∷ started 1 1 ∷ started 4 1 ∷ registered 6 1 ∷ []) ∷
    (started 0 1 ∷ started 5 1 ∷ started 6 1 ∷ started 1 1 ∷ started 4 1 ∷ started 3 1 ∷ finished 3 1 ∷ registered 5 1 ∷ finished 6 1 ∷ started 2 1 ∷ registered 0 1 ∷ finished 5 1 ∷ []) ∷
    (started 0 1 ∷ started 5 1 ∷ started 6 1 ∷ started 1 1 ∷ started 4 1 ∷ started 3 1 ∷ finished 3 1 ∷ finished 6 1 ∷ started 2 1 ∷ []) ∷
    (started 0 1 ∷ skipped 1 1 ∷ []) ∷
    (started 0 1 ∷ started 5 1 ∷ started 6 1 ∷ started 1 1 ∷ started 6 1 ∷ started 3 1 ∷ finished 3 1 ∷ finished 6 1 ∷ started 2 1 ∷ finished 5 1 ∷ finished 4 1 ∷ []) ∷
    (started 0 1 ∷ started 5 1 ∷ started 6 1 ∷ started 1 1 ∷ started 4 1 ∷ started 3 1 ∷ finished 3 1 ∷ finished 6 1 ∷ started 2 1 ∷ finished 5 1 ∷ finished 4 1 ∷ failed 5 1 ∷ []) ∷ []

in_order_4 : map (is_in_order plan_4 replies_4 1) lists_4 ≡ false ∷ false ∷ false ∷ false ∷ true ∷ false ∷ false ∷ false ∷ false ∷ false ∷ false ∷ false ∷ []
in_order_4 = refl

legal_4 : map (is_legal plan_4 replies_4 1) lists_4 ≡ true ∷ true ∷ true ∷ true ∷ true ∷ false ∷ false ∷ false ∷ true ∷ false ∷ false ∷ false ∷ []
legal_4 = refl

expected_4 : map (expected plan_4 (λ job. first_of_all (replies_4 job))) (0 ∷ 1 ∷ 2 ∷ 3 ∷ 4 ∷ 5 ∷ 6 ∷ []) ≡ Finishes Successful None ∷ Finishes Successful (Some []) ∷ Finishes Successful None ∷ Finishes Successful None ∷ Finishes Successful None ∷ Finishes Successful None ∷ Finishes Successful None ∷ []
expected_4 = refl

abbrev plan_5 : PlanParts
plan_5 = record { tree = record { parents = 0 ∷ 0 ∷ 1 ∷ 2 ∷ 1 ∷ 4 ∷ 4 ∷ 1 ∷ []; nodes = a_node Container Plain None (Some 1) None ∷ a_node Container Plain None None None ∷ a_node Test Plain (Some 2) None None ∷ a_node Container Plain None None None ∷ a_node Test Plain (Some 3) None None ∷ a_node Test Plain None None None ∷ a_node Test Plain (Some 4) None None ∷ [] }; held = []; keys = []; limits = []; modes = SameThread ∷ Concurrent ∷ SameThread ∷ SameThread ∷ SameThread ∷ SameThread ∷ SameThread ∷ SameThread ∷ []; fail_fast = false; tolerated = 0 }

abbrev replies_5 : ℕ → List Reply
replies_5 = replies_in ((1, a_reply Successful [] 0 ∷ []) ∷ (2, a_reply Successful [] 0 ∷ []) ∷ (3, a_reply Successful [] 0 ∷ []) ∷ (4, a_reply Successful [] 0 ∷ []) ∷ [])

abbrev lists_5 : List (List Event)
lists_5 =
    (started 0 1 ∷ started 1 2 ∷ started 2 1 ∷ started 3 1 ∷ started 7 2 ∷ finished 3 2 ∷ finished 7 2 ∷ started 4 2 ∷ finished 2 2 ∷ started 5 1 ∷ started 6 2 ∷ finished 5 2 ∷ finished 6 1 ∷ finished 4 2 ∷ finished 1 1 ∷ finished 0 1 ∷ []) ∷
    (started 0 1 ∷ started 1 2 ∷ started 2 1 ∷ started 3 1 ∷ started 7 2 ∷ finished 3 2 ∷ finished 7 2 ∷ started 4 2 ∷ finished 2 2 ∷ started 5 1 ∷ started 6 2 ∷ finished 5 2 ∷ finished 6 1 ∷ finished 4 2 ∷ []) ∷
    (started 0 1 ∷ started 1 2 ∷ started 2 1 ∷ started 3 1 ∷ started 7 2 ∷ finished 3 2 ∷ finished 7 2 ∷ started 4 2 ∷ []) ∷
    (started 0 1 ∷ started 1 2 ∷ started 2 1 ∷ started 3 1 ∷ started 7 2 ∷ finished 3 2 ∷ finished 7 2 ∷ started 4 2 ∷ finished 2 2 ∷ started 5 1 ∷ started 6 2 ∷ finished 5 2 ∷ finished 6 1 ∷ finished 4 2 ∷ finished 1 1 ∷ finished 0 1 ∷ []) ∷
    (started 0 1 ∷ started 1 2 ∷ started 2 1 ∷ []) ∷
    (started 0 1 ∷ started 1 2 ∷ started 2 1 ∷ started 3 1 ∷ started 7 2 ∷ finished 3 2 ∷ finished 7 2 ∷ started 4 2 ∷ finished 2 2 ∷ started 5 1 ∷ started 6 2 ∷ finished 5 2 ∷ finished 6 1 ∷ finished 4 2 ∷ finished 1 1 ∷ finished 0 1 ∷ finished 5 2 ∷ []) ∷
    (started 0 1 ∷ started 1 2 ∷ started 4 2 ∷ []) ∷
    (started 0 1 ∷ started 0 2 ∷ []) ∷
    (started 0 1 ∷ started 1 2 ∷ started 2 1 ∷ started 3 1 ∷ started 7 2 ∷ finished 3 2 ∷ finished 7 2 ∷ started 4 2 ∷ skipped 3 2 ∷ []) ∷
    (started 0 1 ∷ started 1 2 ∷ started 2 1 ∷ skipped 4 1 ∷ skipped 1 1 ∷ started 3 1 ∷ started 7 2 ∷ finished 3 2 ∷ []) ∷
    (started 0 1 ∷ started 1 2 ∷ started 2 1 ∷ started 3 1 ∷ registered 2 2 ∷ started 7 2 ∷ finished 3 2 ∷ finished 7 2 ∷ started 4 2 ∷ finished 6 2 ∷ started 5 1 ∷ started 6 2 ∷ finished 5 2 ∷ finished 6 1 ∷ finished 4 2 ∷ finished 1 1 ∷ finished 0 1 ∷ []) ∷
    (finished 7 2 ∷ started 1 2 ∷ started 2 1 ∷ started 3 1 ∷ started 7 2 ∷ finished 3 2 ∷ started 0 1 ∷ []) ∷ []

in_order_5 : map (is_in_order plan_5 replies_5 2) lists_5 ≡ false ∷ false ∷ false ∷ false ∷ false ∷ false ∷ false ∷ false ∷ false ∷ false ∷ false ∷ false ∷ []
in_order_5 = refl

legal_5 : map (is_legal plan_5 replies_5 2) lists_5 ≡ true ∷ true ∷ true ∷ true ∷ true ∷ false ∷ true ∷ false ∷ false ∷ false ∷ false ∷ false ∷ []
legal_5 = refl

expected_5 : map (expected plan_5 (λ job. first_of_all (replies_5 job))) (0 ∷ 1 ∷ 2 ∷ 3 ∷ 4 ∷ 5 ∷ 6 ∷ 7 ∷ []) ≡ Finishes Successful None ∷ Finishes Successful (Some []) ∷ Finishes Successful None ∷ Finishes Successful (Some []) ∷ Finishes Successful None ∷ Finishes Successful (Some []) ∷ Finishes Successful None ∷ Finishes Successful (Some []) ∷ []
expected_5 = refl

abbrev plan_6 : PlanParts
plan_6 = record { tree = record { parents = 0 ∷ 0 ∷ 1 ∷ 2 ∷ 3 ∷ 3 ∷ 5 ∷ []; nodes = a_node Container Plain None None None ∷ a_node Container Plain (Some 1) None None ∷ a_node ContainerAndTest Plain (Some 2) None None ∷ a_node Test Plain (Some 3) None None ∷ a_node ContainerAndTest Plain (Some 4) (Some 5) None ∷ a_node Test Plain (Some 6) None None ∷ [] }; held = []; keys = []; limits = []; modes = SameThread ∷ SameThread ∷ Concurrent ∷ SameThread ∷ SameThread ∷ SameThread ∷ SameThread ∷ []; fail_fast = false; tolerated = 0 }

abbrev replies_6 : ℕ → List Reply
replies_6 = replies_in ((1, a_reply Failed [] 0 ∷ []) ∷ (2, a_reply Aborted [] 0 ∷ []) ∷ (3, a_reply Successful [] 0 ∷ []) ∷ (4, a_reply Successful [] 0 ∷ []) ∷ (5, a_reply Failed (codes "x") 0 ∷ []) ∷ (6, a_reply Successful [] 0 ∷ []) ∷ [])

abbrev lists_6 : List (List Event)
lists_6 =
    (started 0 1 ∷ started 1 1 ∷ started 2 1 ∷ started 3 1 ∷ started 4 1 ∷ finished 4 1 ∷ started 5 1 ∷ started 6 1 ∷ finished 6 1 ∷ failed 5 1 ∷ []) ∷
    (started 0 1 ∷ started 1 1 ∷ started 2 1 ∷ started 3 1 ∷ started 4 1 ∷ finished 4 1 ∷ started 5 1 ∷ started 6 1 ∷ finished 6 1 ∷ failed 5 1 ∷ []) ∷
    (started 0 1 ∷ []) ∷
    (started 0 1 ∷ started 1 1 ∷ started 2 1 ∷ started 3 1 ∷ started 4 1 ∷ finished 4 1 ∷ started 5 1 ∷ started 6 1 ∷ []) ∷
    ([]) ∷
    (started 0 1 ∷ aborted 2 1 ∷ []) ∷
    (started 0 1 ∷ started 1 1 ∷ skipped 1 1 ∷ []) ∷
    (started 0 1 ∷ started 1 1 ∷ started 1 1 ∷ started 3 1 ∷ started 4 1 ∷ finished 4 1 ∷ started 5 1 ∷ []) ∷
    (started 0 1 ∷ []) ∷
    (started 0 1 ∷ started 1 1 ∷ started 2 1 ∷ started 3 1 ∷ started 4 1 ∷ finished 4 1 ∷ started 5 1 ∷ started 6 1 ∷ failed 6 1 ∷ []) ∷
    (started 0 1 ∷ started 1 1 ∷ registered 1 1 ∷ started 2 1 ∷ []) ∷
    (started 0 1 ∷ started 1 1 ∷ started 2 1 ∷ started 3 1 ∷ started 4 1 ∷ finished 4 1 ∷ started 5 1 ∷ started 6 1 ∷ aborted 4 1 ∷ []) ∷ []

in_order_6 : map (is_in_order plan_6 replies_6 1) lists_6 ≡ true ∷ true ∷ true ∷ true ∷ true ∷ false ∷ false ∷ false ∷ true ∷ false ∷ false ∷ false ∷ []
in_order_6 = refl

legal_6 : map (is_legal plan_6 replies_6 1) lists_6 ≡ true ∷ true ∷ true ∷ true ∷ true ∷ false ∷ false ∷ false ∷ true ∷ false ∷ false ∷ false ∷ []
legal_6 = refl

expected_6 : map (expected plan_6 (λ job. first_of_all (replies_6 job))) (0 ∷ 1 ∷ 2 ∷ 3 ∷ 4 ∷ 5 ∷ 6 ∷ []) ≡ Finishes Successful None ∷ Finishes Successful None ∷ Finishes Failed (Some []) ∷ Silent ∷ Silent ∷ Silent ∷ Silent ∷ []
expected_6 = refl

abbrev plan_7 : PlanParts
plan_7 = record { tree = record { parents = 0 ∷ 0 ∷ []; nodes = a_node Container Plain (Some 1) (Some 2) None ∷ [] }; held = []; keys = []; limits = []; modes = SameThread ∷ SameThread ∷ []; fail_fast = false; tolerated = 0 }

abbrev replies_7 : ℕ → List Reply
replies_7 = replies_in ((1, a_reply Failed [] 0 ∷ a_reply Aborted (codes "other") 2 ∷ []) ∷ (2, a_reply Failed (codes "x") 0 ∷ a_reply Failed (codes "other") 2 ∷ []) ∷ [])

abbrev lists_7 : List (List Event)
lists_7 =
    (started 0 1 ∷ started 1 2 ∷ aborted 1 1 ∷ finished 0 1 ∷ []) ∷
    (started 0 1 ∷ started 1 2 ∷ aborted 1 1 ∷ []) ∷
    (started 0 1 ∷ started 1 2 ∷ []) ∷
    (started 0 1 ∷ []) ∷
    ([]) ∷
    (registered 0 2 ∷ []) ∷
    (started 0 1 ∷ started 1 2 ∷ []) ∷
    (started 0 1 ∷ skipped 0 2 ∷ []) ∷
    (started 0 1 ∷ started 1 2 ∷ skipped 0 1 ∷ []) ∷
    (failed 1 1 ∷ []) ∷
    (skipped 1 1 ∷ []) ∷
    (started 0 1 ∷ started 1 2 ∷ aborted 0 2 ∷ []) ∷ []

in_order_7 : map (is_in_order plan_7 replies_7 2) lists_7 ≡ false ∷ false ∷ false ∷ true ∷ true ∷ false ∷ false ∷ false ∷ false ∷ false ∷ false ∷ false ∷ []
in_order_7 = refl

legal_7 : map (is_legal plan_7 replies_7 2) lists_7 ≡ true ∷ true ∷ true ∷ true ∷ true ∷ false ∷ true ∷ false ∷ false ∷ false ∷ false ∷ false ∷ []
legal_7 = refl

abbrev plan_8 : PlanParts
plan_8 = record { tree = record { parents = 0 ∷ 0 ∷ 1 ∷ 1 ∷ []; nodes = a_node Container Plain None None None ∷ a_node Container Plain None (Some 1) None ∷ a_node Container Plain None None None ∷ [] }; held = []; keys = []; limits = []; modes = SameThread ∷ SameThread ∷ Concurrent ∷ Concurrent ∷ []; fail_fast = false; tolerated = 0 }

abbrev replies_8 : ℕ → List Reply
replies_8 = replies_in ((1, a_reply Successful [] 0 ∷ []) ∷ [])

abbrev lists_8 : List (List Event)
lists_8 =
    (started 0 1 ∷ started 1 1 ∷ started 3 1 ∷ started 2 1 ∷ finished 2 1 ∷ finished 3 1 ∷ finished 1 1 ∷ finished 0 1 ∷ []) ∷
    (started 0 1 ∷ started 1 1 ∷ started 3 1 ∷ started 2 1 ∷ finished 2 1 ∷ finished 3 1 ∷ []) ∷
    (started 0 1 ∷ started 1 1 ∷ started 3 1 ∷ started 2 1 ∷ finished 2 1 ∷ finished 3 1 ∷ finished 1 1 ∷ finished 0 1 ∷ []) ∷
    ([]) ∷
    (started 0 1 ∷ started 1 1 ∷ started 3 1 ∷ started 2 1 ∷ []) ∷
    (registered 0 1 ∷ []) ∷
    (started 0 1 ∷ started 1 1 ∷ started 3 1 ∷ started 2 1 ∷ finished 2 1 ∷ failed 2 1 ∷ []) ∷
    (started 0 1 ∷ started 1 1 ∷ started 3 1 ∷ failed 2 1 ∷ []) ∷
    (started 0 1 ∷ started 1 1 ∷ started 3 1 ∷ started 2 1 ∷ finished 2 1 ∷ finished 3 1 ∷ finished 1 1 ∷ finished 0 1 ∷ aborted 0 1 ∷ []) ∷
    (started 0 1 ∷ started 1 1 ∷ started 3 1 ∷ started 2 1 ∷ finished 2 1 ∷ finished 3 1 ∷ finished 1 1 ∷ finished 0 1 ∷ skipped 2 1 ∷ []) ∷
    (started 0 1 ∷ started 1 1 ∷ started 3 1 ∷ started 2 1 ∷ finished 2 1 ∷ finished 3 1 ∷ finished 1 1 ∷ finished 0 1 ∷ failed 3 1 ∷ []) ∷
    (started 1 1 ∷ registered 0 1 ∷ started 0 1 ∷ []) ∷ []

in_order_8 : map (is_in_order plan_8 replies_8 1) lists_8 ≡ true ∷ true ∷ true ∷ true ∷ true ∷ false ∷ false ∷ false ∷ false ∷ false ∷ false ∷ false ∷ []
in_order_8 = refl

legal_8 : map (is_legal plan_8 replies_8 1) lists_8 ≡ true ∷ true ∷ true ∷ true ∷ true ∷ false ∷ false ∷ false ∷ false ∷ false ∷ false ∷ false ∷ []
legal_8 = refl

expected_8 : map (expected plan_8 (λ job. first_of_all (replies_8 job))) (0 ∷ 1 ∷ 2 ∷ 3 ∷ []) ≡ Finishes Successful None ∷ Finishes Successful None ∷ Finishes Successful None ∷ Finishes Successful None ∷ []
expected_8 = refl

abbrev plan_9 : PlanParts
plan_9 = record { tree = record { parents = 0 ∷ 0 ∷ 0 ∷ 2 ∷ 3 ∷ 2 ∷ 2 ∷ 2 ∷ []; nodes = a_node Container Plain None None None ∷ a_node Container Plain None None None ∷ a_node Container Plain None (Some 1) None ∷ a_node Test Plain (Some 2) None None ∷ a_node Container Plain (Some 3) (Some 4) None ∷ a_node Container Plain (Some 5) None None ∷ a_node Container Plain None None (Some (codes "later")) ∷ [] }; held = []; keys = []; limits = []; modes = SameThread ∷ SameThread ∷ SameThread ∷ Concurrent ∷ Concurrent ∷ Concurrent ∷ Concurrent ∷ SameThread ∷ []; fail_fast = false; tolerated = 0 }

abbrev replies_9 : ℕ → List Reply
replies_9 = replies_in ((1, a_reply Failed (codes "boom y") 0 ∷ []) ∷ (2, a_reply Successful [] 0 ∷ []) ∷ (3, a_reply Successful [] 0 ∷ []) ∷ (4, a_reply Failed (codes "x") 0 ∷ []) ∷ (5, a_reply Aborted (codes "boom y") 0 ∷ []) ∷ [])

abbrev lists_9 : List (List Event)
lists_9 =
    (started 0 1 ∷ started 1 1 ∷ finished 1 1 ∷ started 2 1 ∷ started 5 1 ∷ started 6 1 ∷ finished 5 1 ∷ skipped 7 1 ∷ aborted 6 1 ∷ started 3 1 ∷ started 4 1 ∷ finished 4 1 ∷ failed 3 1 ∷ finished 2 1 ∷ finished 0 1 ∷ []) ∷
    (started 0 1 ∷ started 1 1 ∷ finished 1 1 ∷ started 2 1 ∷ started 5 1 ∷ started 6 1 ∷ finished 5 1 ∷ skipped 7 1 ∷ aborted 6 1 ∷ started 3 1 ∷ started 4 1 ∷ finished 4 1 ∷ failed 3 1 ∷ finished 2 1 ∷ finished 0 1 ∷ []) ∷
    (started 0 1 ∷ started 1 1 ∷ finished 1 1 ∷ started 2 1 ∷ started 5 1 ∷ started 6 1 ∷ finished 5 1 ∷ skipped 7 1 ∷ aborted 6 1 ∷ started 3 1 ∷ started 4 1 ∷ finished 4 1 ∷ failed 3 1 ∷ []) ∷
    ([]) ∷
    (started 0 1 ∷ started 1 1 ∷ finished 1 1 ∷ started 2 1 ∷ started 5 1 ∷ started 6 1 ∷ finished 5 1 ∷ skipped 7 1 ∷ aborted 6 1 ∷ started 3 1 ∷ started 4 1 ∷ finished 4 1 ∷ failed 3 1 ∷ finished 2 1 ∷ []) ∷
    (started 0 1 ∷ started 1 1 ∷ finished 1 1 ∷ registered 5 1 ∷ []) ∷
    (started 0 1 ∷ started 1 1 ∷ finished 1 1 ∷ started 2 1 ∷ started 5 1 ∷ registered 3 1 ∷ started 6 1 ∷ []) ∷
    (started 0 1 ∷ failed 3 1 ∷ started 1 1 ∷ finished 1 1 ∷ started 2 1 ∷ started 5 1 ∷ started 6 1 ∷ finished 5 1 ∷ skipped 7 1 ∷ registered 1 1 ∷ aborted 6 1 ∷ started 3 1 ∷ started 4 1 ∷ []) ∷
    (started 0 1 ∷ started 1 1 ∷ finished 1 1 ∷ started 2 1 ∷ started 5 1 ∷ started 6 1 ∷ finished 5 1 ∷ skipped 7 1 ∷ aborted 6 1 ∷ started 3 1 ∷ started 4 1 ∷ registered 1 1 ∷ []) ∷
    (started 0 1 ∷ started 1 1 ∷ started 4 1 ∷ []) ∷
    (started 0 1 ∷ started 1 1 ∷ finished 7 1 ∷ []) ∷
    (started 0 1 ∷ started 1 1 ∷ finished 1 1 ∷ started 2 1 ∷ started 5 1 ∷ started 6 1 ∷ finished 5 1 ∷ skipped 7 1 ∷ aborted 6 1 ∷ started 3 1 ∷ started 4 1 ∷ finished 4 1 ∷ failed 3 1 ∷ finished 2 1 ∷ registered 7 1 ∷ []) ∷ []

in_order_9 : map (is_in_order plan_9 replies_9 1) lists_9 ≡ true ∷ true ∷ true ∷ true ∷ true ∷ false ∷ false ∷ false ∷ false ∷ false ∷ false ∷ false ∷ []
in_order_9 = refl

legal_9 : map (is_legal plan_9 replies_9 1) lists_9 ≡ true ∷ true ∷ true ∷ true ∷ true ∷ false ∷ false ∷ false ∷ false ∷ false ∷ false ∷ false ∷ []
legal_9 = refl

expected_9 : map (expected plan_9 (λ job. first_of_all (replies_9 job))) (0 ∷ 1 ∷ 2 ∷ 3 ∷ 4 ∷ 5 ∷ 6 ∷ 7 ∷ []) ≡ Finishes Successful None ∷ Finishes Successful None ∷ Finishes Successful None ∷ Finishes Failed (Some (codes "boom y")) ∷ Finishes Successful (Some []) ∷ Finishes Successful (Some []) ∷ Finishes Aborted (Some (codes "boom y")) ∷ Skips ∷ []
expected_9 = refl

abbrev plan_10 : PlanParts
plan_10 = record { tree = record { parents = 0 ∷ 0 ∷ 1 ∷ 2 ∷ []; nodes = a_node Container Plain (Some 1) (Some 2) None ∷ a_node Container Plain (Some 3) None None ∷ a_node Test Plain (Some 4) None None ∷ [] }; held = []; keys = []; limits = []; modes = SameThread ∷ SameThread ∷ SameThread ∷ SameThread ∷ []; fail_fast = false; tolerated = 0 }

abbrev replies_10 : ℕ → List Reply
replies_10 = replies_in ((1, a_reply Successful [] 0 ∷ []) ∷ (2, a_reply Successful [] 0 ∷ a_reply Failed (codes "other") 0 ∷ []) ∷ (3, a_reply Aborted [] 0 ∷ []) ∷ (4, a_reply Successful [] 0 ∷ a_reply Failed (codes "other") 3 ∷ []) ∷ [])

abbrev lists_10 : List (List Event)
lists_10 =
    (started 0 2 ∷ started 1 1 ∷ started 2 2 ∷ aborted 2 2 ∷ failed 1 1 ∷ finished 0 1 ∷ []) ∷
    (started 0 2 ∷ started 1 1 ∷ started 2 2 ∷ []) ∷
    (started 0 2 ∷ started 1 1 ∷ []) ∷
    ([]) ∷
    (started 0 2 ∷ started 1 1 ∷ started 2 2 ∷ aborted 2 2 ∷ []) ∷
    (started 0 2 ∷ started 1 2 ∷ []) ∷
    (started 0 2 ∷ started 1 1 ∷ []) ∷
    (started 0 2 ∷ started 1 1 ∷ started 2 2 ∷ aborted 2 2 ∷ failed 1 1 ∷ []) ∷
    (finished 0 1 ∷ started 0 2 ∷ started 1 1 ∷ []) ∷
    (started 0 2 ∷ started 2 2 ∷ aborted 2 2 ∷ failed 1 1 ∷ finished 0 1 ∷ []) ∷
    (started 0 2 ∷ []) ∷
    (started 0 2 ∷ started 1 1 ∷ started 2 2 ∷ aborted 2 2 ∷ []) ∷ []

in_order_10 : map (is_in_order plan_10 replies_10 2) lists_10 ≡ false ∷ false ∷ false ∷ true ∷ false ∷ true ∷ false ∷ false ∷ false ∷ false ∷ true ∷ false ∷ []
in_order_10 = refl

legal_10 : map (is_legal plan_10 replies_10 2) lists_10 ≡ true ∷ true ∷ true ∷ true ∷ true ∷ true ∷ true ∷ true ∷ false ∷ false ∷ true ∷ true ∷ []
legal_10 = refl

abbrev plan_11 : PlanParts
plan_11 = record { tree = record { parents = 0 ∷ 0 ∷ 1 ∷ 2 ∷ 2 ∷ 2 ∷ []; nodes = a_node Container Plain None None None ∷ a_node Container Plain None (Some 1) None ∷ a_node Test Plain (Some 2) None None ∷ a_node Test Plain (Some 3) None None ∷ a_node Test Plain (Some 4) None None ∷ [] }; held = []; keys = []; limits = []; modes = SameThread ∷ SameThread ∷ SameThread ∷ SameThread ∷ SameThread ∷ SameThread ∷ []; fail_fast = false; tolerated = 0 }

abbrev replies_11 : ℕ → List Reply
replies_11 = replies_in ((1, a_reply Successful [] 0 ∷ []) ∷ (2, a_reply Successful [] 0 ∷ []) ∷ (3, a_reply Aborted (codes "x") 0 ∷ []) ∷ (4, a_reply Successful [] 0 ∷ []) ∷ [])

abbrev lists_11 : List (List Event)
lists_11 =
    (started 0 2 ∷ started 1 2 ∷ started 2 2 ∷ started 3 2 ∷ started 4 1 ∷ started 5 2 ∷ aborted 4 1 ∷ finished 5 2 ∷ finished 3 2 ∷ finished 2 1 ∷ finished 1 2 ∷ finished 0 1 ∷ []) ∷
    (started 0 2 ∷ started 1 2 ∷ started 2 2 ∷ started 3 2 ∷ started 4 1 ∷ started 5 2 ∷ aborted 4 1 ∷ finished 5 2 ∷ finished 3 2 ∷ finished 2 1 ∷ finished 1 2 ∷ []) ∷
    (started 0 2 ∷ started 1 2 ∷ started 2 2 ∷ started 3 2 ∷ started 4 1 ∷ started 5 2 ∷ aborted 4 1 ∷ []) ∷
    (started 0 2 ∷ []) ∷
    (started 0 2 ∷ started 1 2 ∷ started 2 2 ∷ started 3 2 ∷ started 4 1 ∷ started 5 2 ∷ aborted 4 1 ∷ finished 5 2 ∷ finished 3 2 ∷ finished 2 1 ∷ finished 1 2 ∷ finished 0 1 ∷ []) ∷
    (started 1 2 ∷ started 0 2 ∷ started 2 2 ∷ started 3 2 ∷ started 4 1 ∷ aborted 4 1 ∷ finished 5 2 ∷ []) ∷
    (started 0 2 ∷ started 1 2 ∷ started 2 2 ∷ registered 3 2 ∷ []) ∷
    (started 0 2 ∷ started 1 2 ∷ finished 2 1 ∷ []) ∷
    (started 0 2 ∷ started 1 2 ∷ started 2 2 ∷ started 3 2 ∷ started 4 1 ∷ failed 5 2 ∷ []) ∷
    (started 0 2 ∷ registered 1 2 ∷ started 1 2 ∷ started 2 2 ∷ []) ∷
    (registered 2 2 ∷ started 0 2 ∷ started 2 2 ∷ started 3 2 ∷ started 4 1 ∷ []) ∷
    (started 0 2 ∷ started 1 2 ∷ started 2 2 ∷ started 3 2 ∷ started 4 1 ∷ started 5 2 ∷ aborted 4 1 ∷ []) ∷ []

in_order_11 : map (is_in_order plan_11 replies_11 2) lists_11 ≡ false ∷ false ∷ false ∷ true ∷ false ∷ false ∷ false ∷ false ∷ false ∷ false ∷ false ∷ false ∷ []
in_order_11 = refl

legal_11 : map (is_legal plan_11 replies_11 2) lists_11 ≡ true ∷ true ∷ true ∷ true ∷ true ∷ false ∷ false ∷ false ∷ false ∷ false ∷ false ∷ true ∷ []
legal_11 = refl

expected_11 : map (expected plan_11 (λ job. first_of_all (replies_11 job))) (0 ∷ 1 ∷ 2 ∷ 3 ∷ 4 ∷ 5 ∷ []) ≡ Finishes Successful None ∷ Finishes Successful None ∷ Finishes Successful (Some []) ∷ Finishes Successful (Some []) ∷ Finishes Aborted (Some (codes "x")) ∷ Finishes Successful (Some []) ∷ []
expected_11 = refl

abbrev plan_12 : PlanParts
plan_12 = record { tree = record { parents = 0 ∷ 0 ∷ 0 ∷ 2 ∷ []; nodes = a_node Container Plain None None None ∷ a_node Container Plain None None None ∷ a_node Container Plain None (Some 1) None ∷ [] }; held = []; keys = []; limits = []; modes = SameThread ∷ SameThread ∷ SameThread ∷ Concurrent ∷ []; fail_fast = false; tolerated = 0 }

abbrev replies_12 : ℕ → List Reply
replies_12 = replies_in ((1, a_reply Successful [] 0 ∷ []) ∷ [])

abbrev lists_12 : List (List Event)
lists_12 =
    (started 0 1 ∷ started 2 1 ∷ started 3 1 ∷ started 1 1 ∷ finished 3 1 ∷ finished 2 1 ∷ finished 1 1 ∷ finished 0 1 ∷ []) ∷
    (started 0 1 ∷ started 2 1 ∷ started 3 1 ∷ []) ∷
    ([]) ∷
    (started 0 1 ∷ started 2 1 ∷ started 3 1 ∷ started 1 1 ∷ finished 3 1 ∷ finished 2 1 ∷ finished 1 1 ∷ []) ∷
    (started 0 1 ∷ started 2 1 ∷ started 3 1 ∷ started 1 1 ∷ finished 3 1 ∷ []) ∷
    (started 0 1 ∷ registered 0 1 ∷ []) ∷
    (started 0 1 ∷ started 2 1 ∷ finished 1 1 ∷ finished 0 1 ∷ finished 3 1 ∷ finished 2 1 ∷ started 3 1 ∷ started 1 1 ∷ []) ∷
    (started 0 1 ∷ started 2 1 ∷ started 3 1 ∷ skipped 1 1 ∷ []) ∷
    (started 0 1 ∷ started 2 1 ∷ started 3 1 ∷ started 1 1 ∷ finished 3 1 ∷ finished 2 1 ∷ finished 1 1 ∷ finished 0 1 ∷ aborted 1 1 ∷ []) ∷
    (started 2 1 ∷ started 2 1 ∷ started 1 1 ∷ []) ∷
    (started 0 1 ∷ started 2 1 ∷ started 3 1 ∷ aborted 1 1 ∷ []) ∷
    (started 0 1 ∷ started 2 1 ∷ started 3 1 ∷ started 1 1 ∷ finished 3 1 ∷ finished 2 1 ∷ finished 1 1 ∷ finished 0 1 ∷ registered 2 1 ∷ []) ∷ []

in_order_12 : map (is_in_order plan_12 replies_12 1) lists_12 ≡ false ∷ false ∷ true ∷ false ∷ false ∷ false ∷ false ∷ false ∷ false ∷ false ∷ false ∷ false ∷ []
in_order_12 = refl

legal_12 : map (is_legal plan_12 replies_12 1) lists_12 ≡ true ∷ true ∷ true ∷ true ∷ true ∷ false ∷ false ∷ false ∷ false ∷ false ∷ false ∷ false ∷ []
legal_12 = refl

abbrev plan_13 : PlanParts
plan_13 = record { tree = record { parents = 0 ∷ 0 ∷ 0 ∷ 2 ∷ 2 ∷ []; nodes = a_node Container Plain None None None ∷ a_node Container Plain None None None ∷ a_node Container Plain (Some 1) (Some 2) None ∷ a_node Container Plain None (Some 3) None ∷ [] }; held = []; keys = []; limits = []; modes = SameThread ∷ SameThread ∷ SameThread ∷ Concurrent ∷ Concurrent ∷ []; fail_fast = false; tolerated = 0 }

abbrev replies_13 : ℕ → List Reply
replies_13 = replies_in ((1, a_reply Failed (codes "boom y") 0 ∷ []) ∷ (2, a_reply Aborted [] 0 ∷ []) ∷ (3, a_reply Failed (codes "boom y") 0 ∷ []) ∷ [])

abbrev lists_13 : List (List Event)
lists_13 =
    (started 0 1 ∷ started 2 1 ∷ started 1 1 ∷ started 3 1 ∷ started 4 1 ∷ failed 3 1 ∷ finished 4 1 ∷ finished 1 1 ∷ finished 2 1 ∷ finished 0 1 ∷ []) ∷
    (started 0 1 ∷ started 2 1 ∷ started 1 1 ∷ []) ∷
    (started 0 1 ∷ started 2 1 ∷ []) ∷
    (started 0 1 ∷ started 2 1 ∷ started 1 1 ∷ started 3 1 ∷ started 4 1 ∷ failed 3 1 ∷ finished 4 1 ∷ finished 1 1 ∷ finished 2 1 ∷ []) ∷
    (started 0 1 ∷ []) ∷
    (started 0 1 ∷ started 2 1 ∷ started 1 1 ∷ started 3 1 ∷ started 4 1 ∷ failed 3 1 ∷ finished 4 1 ∷ []) ∷
    (started 0 1 ∷ started 2 1 ∷ started 1 1 ∷ started 3 1 ∷ finished 4 1 ∷ failed 3 1 ∷ started 4 1 ∷ finished 1 1 ∷ []) ∷
    (started 0 1 ∷ started 2 1 ∷ started 1 1 ∷ started 3 1 ∷ started 4 1 ∷ failed 3 1 ∷ failed 2 1 ∷ finished 3 1 ∷ finished 4 1 ∷ finished 1 1 ∷ finished 2 1 ∷ finished 0 1 ∷ []) ∷
    (started 0 1 ∷ started 2 1 ∷ started 1 1 ∷ started 3 1 ∷ started 4 1 ∷ failed 3 1 ∷ finished 4 1 ∷ failed 2 1 ∷ []) ∷
    (started 0 1 ∷ started 2 1 ∷ started 1 1 ∷ started 3 1 ∷ started 4 1 ∷ failed 3 1 ∷ finished 4 1 ∷ finished 1 1 ∷ skipped 2 1 ∷ []) ∷
    (started 0 1 ∷ started 2 1 ∷ started 1 1 ∷ started 3 1 ∷ started 4 1 ∷ failed 3 1 ∷ failed 1 1 ∷ []) ∷
    (started 0 1 ∷ started 2 1 ∷ started 1 1 ∷ started 3 1 ∷ started 4 1 ∷ failed 3 1 ∷ []) ∷ []

in_order_13 : map (is_in_order plan_13 replies_13 1) lists_13 ≡ false ∷ false ∷ false ∷ false ∷ true ∷ false ∷ false ∷ false ∷ false ∷ false ∷ false ∷ false ∷ []
in_order_13 = refl

legal_13 : map (is_legal plan_13 replies_13 1) lists_13 ≡ true ∷ true ∷ true ∷ true ∷ true ∷ true ∷ false ∷ false ∷ false ∷ false ∷ false ∷ true ∷ []
legal_13 = refl

expected_13 : map (expected plan_13 (λ job. first_of_all (replies_13 job))) (0 ∷ 1 ∷ 2 ∷ 3 ∷ 4 ∷ []) ≡ Finishes Successful None ∷ Finishes Successful None ∷ Finishes Successful None ∷ Finishes Failed (Some (codes "boom y")) ∷ Finishes Successful None ∷ []
expected_13 = refl

-- the trees are as asked of a plan, so that what the tests tell of legal histories holds of these
trees : list_all (λ (p : PlanParts). is_plan_tree p.tree) (plan_1 ∷ plan_2 ∷ plan_3 ∷ plan_4 ∷ plan_5 ∷ plan_6 ∷ plan_7 ∷ plan_8 ∷ plan_9 ∷ plan_10 ∷ plan_11 ∷ plan_12 ∷ plan_13 ∷ []) ≡ true
trees = refl
