-- Small plans with the histories that they have, and with wrong ones.
use Rattle.std.proofs.Common.{◌≡◌, ℕ, ◌==◌, Bool, true, false, cond, List, [], ◌∷◌, ◌++◌, Option, Some, None, map, refl}
use Rattle.std.proofs.lemmas.Bool.{false≢true}
use Rattle.descriptor.specs.declared.kind.Kind.{Kind}
use Rattle.descriptor.specs.declared.kind.Kind.TheVariants.{Test, Container}
use Rattle.descriptor.specs.declared.role.Role.{Role}
use Rattle.descriptor.specs.declared.role.Role.TheVariants.{Plain, Factory, Spare}
use Rattle.descriptor.specs.declared.node.Node.{Node}
use Rattle.descriptor.specs.declared.mode.Mode.TheVariants.{SameThread, Concurrent}
use Rattle.descriptor.specs.PlainNodes.{plain}
use Rattle.plan_events.specs.declared.event.EventKind.TheVariants.{Started, Finished, Skipped, Registered}
use Rattle.plan_events.specs.declared.status.Status.{Status}
use Rattle.plan_events.specs.declared.status.Status.TheVariants.{Successful, Failed}
use Rattle.plan_events.specs.declared.event.Event.{Event}
use Rattle.plan_events.specs.declared.outcome.Reply.{Reply}
use Rattle.event_history.specs.History.{IsLegal}
use Rattle.event_history.proofs.PlanTrees.{told_plan_tree}
use Rattle.resource_locks.specs.Plans.{PlanParts}
use Rattle.event_history.specs.Plans.{IsPlanTree}
use Rattle.event_history.proofs.Deciding.{is_legal, told_legal, legal_told}
use Rattle.event_history.proofs.DecidingOrder.{is_in_order}

abbrev node_of : Kind → Role → Option ℕ → Option ℕ → Option (List ℕ) → Node
node_of kind role body after disabled = record (plain [] [] kind) { role = role; body = body; after = after; disabled = disabled }

abbrev engine : Node
engine = node_of Container Plain None None None

abbrev test : ℕ → Node
test body = node_of Test Plain (Some body) None None

abbrev class : Option ℕ → Option ℕ → Option (List ℕ) → Node
class body after disabled = node_of Container Plain body after disabled

abbrev started : ℕ → Event
started n = record { kind = Started; node = n; status = None; worker = 1 }

abbrev finished : ℕ → Event
finished n = record { kind = Finished; node = n; status = Some Successful; worker = 1 }

abbrev skipped : ℕ → Event
skipped n = record { kind = Skipped; node = n; status = None; worker = 1 }

abbrev registered : ℕ → Event
registered n = record { kind = Registered; node = n; status = None; worker = 1 }

abbrev failed : ℕ → Event
failed n = record { kind = Finished; node = n; status = Some Failed; worker = 1 }

abbrev opens : List Event
opens = started 0 ∷ started 1 ∷ []

abbrev closes : List Event
closes = finished 1 ∷ finished 0 ∷ []

abbrev says : Status → ℕ → List Reply
says status pulls = record { pulls = pulls; outcome = record { status = status; text = [] } } ∷ []

-- an engine with a class, and two tests in it; the class has body 1 and after-body 4 if it has any, the tests have 2 and 3
abbrev two_tests : Option ℕ → Option ℕ → Option (List ℕ) → Bool → PlanParts
two_tests body after disabled fast = record {
  tree = record { parents = 0 ∷ 0 ∷ 1 ∷ 2 ∷ 2 ∷ []; nodes = engine ∷ class body after disabled ∷ test 2 ∷ test 3 ∷ [] };
  held = [];
  keys = [];
  limits = [];
  modes = Concurrent ∷ SameThread ∷ SameThread ∷ SameThread ∷ SameThread ∷ [];
  fail_fast = fast;
  tolerated = 0;
}

-- one job fails
abbrev fails : ℕ → ℕ → List Reply
fails which job = cond (which == job) (says Failed 0) (says Successful 0)

-- node 2's start, what stands for its children, and its finish
abbrev around : List Event → Event → List Event
around middle last = started 2 ∷ (middle ++ (last ∷ []))

abbrev both : List Event
both = started 3 ∷ finished 3 ∷ started 4 ∷ finished 4 ∷ []

abbrev legal : PlanParts → (ℕ → List Reply) → List Event → Bool
legal p replies middle = is_legal p replies 1 (opens ++ middle ++ closes)

-- a class whose body fails is stopped; it does not run its tests, whether it then fails or not
stopped : map (legal (two_tests (Some 1) None None false) (fails 1)) (
    (started 2 ∷ failed 2 ∷ []) ∷ (around both (failed 2)) ∷ (around both (finished 2)) ∷ (started 2 ∷ finished 2 ∷ []) ∷ []) ≡ true ∷ false ∷ false ∷ false ∷ []
stopped = refl

-- a disabled class is skipped, and only then
disabled : map (legal (two_tests None None (Some []) false) (fails 0)) ((skipped 2 ∷ []) ∷ (around both (finished 2)) ∷ []) ≡ true ∷ false ∷ []
disabled = refl

enabled : map (legal (two_tests None None None false) (fails 0)) ((skipped 2 ∷ []) ∷ (around both (finished 2)) ∷ (started 2 ∷ started 3 ∷ finished 3 ∷ finished 2 ∷ []) ∷ []) ≡ false ∷ true ∷ false ∷ []
enabled = refl

-- failing fast: what comes after a failure is skipped, and not before one
fast : map (legal (two_tests None None None true) (fails 2)) (
    (started 2 ∷ started 3 ∷ failed 3 ∷ skipped 4 ∷ finished 2 ∷ []) ∷ (started 2 ∷ started 3 ∷ failed 3 ∷ started 4 ∷ finished 4 ∷ finished 2 ∷ [])
    ∷ (started 2 ∷ skipped 4 ∷ started 3 ∷ failed 3 ∷ finished 2 ∷ []) ∷ []) ≡ true ∷ false ∷ false ∷ []
fast = refl

slow : map (legal (two_tests None None None false) (fails 2)) ((started 2 ∷ started 3 ∷ failed 3 ∷ skipped 4 ∷ finished 2 ∷ []) ∷ (started 2 ∷ started 3 ∷ failed 3 ∷ started 4 ∷ finished 4 ∷ finished 2 ∷ []) ∷ []) ≡ false ∷ true ∷ []
slow = refl

-- an after-body that fails does so after the children, with no body and with one that lets the class go on
after : map (legal (two_tests None (Some 4) None false) (fails 4)) ((around both (failed 2)) ∷ (started 2 ∷ failed 2 ∷ []) ∷ (around both (finished 2)) ∷ []) ≡ true ∷ false ∷ false ∷ []
after = refl

after_body : map (legal (two_tests (Some 1) (Some 4) None false) (fails 4)) ((around both (failed 2)) ∷ (started 2 ∷ failed 2 ∷ []) ∷ []) ≡ true ∷ false ∷ []
after_body = refl

after_stop : map (legal (two_tests (Some 1) (Some 4) None false) (fails 1)) ((started 2 ∷ failed 2 ∷ []) ∷ (around both (finished 2)) ∷ []) ≡ true ∷ false ∷ []
after_stop = refl

abbrev spare : ℕ → Node
spare body = node_of Test Spare (Some body) None None

-- a factory over three spares
abbrev factory : PlanParts
factory = record {
  tree = record { parents = 0 ∷ 0 ∷ 1 ∷ 2 ∷ 2 ∷ 2 ∷ []; nodes = engine ∷ node_of Container Factory (Some 1) None None ∷ spare 2 ∷ spare 3 ∷ spare 4 ∷ [] };
  held = [];
  keys = [];
  limits = [];
  modes = Concurrent ∷ SameThread ∷ SameThread ∷ SameThread ∷ SameThread ∷ SameThread ∷ [];
  fail_fast = false;
  tolerated = 0;
}

abbrev pulls : ℕ → ℕ → List Reply
pulls k job = cond (job == 1) (says Successful k) (says Successful 0)

abbrev run : ℕ → List Event
run n = registered n ∷ started n ∷ finished n ∷ []

-- two pulls: its first two spares are run, in their order, and it ends after them
two_pulls : map (legal factory (pulls 2)) (
    (around (run 3 ++ run 4) (finished 2)) ∷ (around (run 3) (finished 2)) ∷ (around (run 4 ++ run 3) (finished 2))
    ∷ (started 2 ∷ (run 3 ++ (registered 4 ∷ started 4 ∷ finished 2 ∷ finished 4 ∷ []))) ∷ (around (run 3 ++ run 4 ++ run 5) (finished 2)) ∷ [])
    ≡ true ∷ false ∷ false ∷ false ∷ false ∷ []
two_pulls = refl

-- four pulls: it runs all three, and fails
four_pulls : map (legal factory (pulls 4)) ((around (run 3 ++ run 4 ++ run 5) (failed 2)) ∷ (around (run 3 ++ run 4 ++ run 5) (finished 2)) ∷ (around (run 3 ++ run 4) (failed 2)) ∷ []) ≡ true ∷ false ∷ false ∷ []
four_pulls = refl

-- the same thread takes the elder first
order : map (λ middle. is_in_order (two_tests None None None false) (fails 0) 1 (opens ++ (started 2 ∷ []) ++ middle ++ (finished 2 ∷ []) ++ closes))
    (both ∷ (started 4 ∷ finished 4 ∷ started 3 ∷ finished 3 ∷ []) ∷ (started 3 ∷ started 4 ∷ finished 3 ∷ finished 4 ∷ []) ∷ []) ≡ true ∷ false ∷ false ∷ []
order = refl

-- These trees are as asked of a plan, so what the tests tell is so: two of the histories, as facts.
two_tests_tree : (body after : Option ℕ) (disabled : Option (List ℕ)) (fast : Bool) → IsPlanTree (two_tests body after disabled fast).tree
two_tests_tree body after disabled fast = told_plan_tree (two_tests body after disabled fast).tree refl

factory_tree : IsPlanTree factory.tree
factory_tree = told_plan_tree factory.tree refl

stopped_is_legal : IsLegal (two_tests (Some 1) None None false) (fails 1) 1 (opens ++ (started 2 ∷ failed 2 ∷ []) ++ closes)
stopped_is_legal = told_legal (two_tests (Some 1) None None false) (two_tests_tree (Some 1) None None false) (fails 1) 1 (opens ++ (started 2 ∷ failed 2 ∷ []) ++ closes) refl

-- and a failed class that ran its tests is not
run_is_not : IsLegal (two_tests (Some 1) None None false) (fails 1) 1 (opens ++ around both (failed 2) ++ closes) → ⊥
run_is_not legal = false≢true (legal_told (two_tests (Some 1) None None false) (two_tests_tree (Some 1) None None false) (fails 1) 1 (opens ++ around both (failed 2) ++ closes) legal)

too_many_is_legal : IsLegal factory (pulls 4) 1 (opens ++ around (run 3 ++ run 4 ++ run 5) (failed 2) ++ closes)
too_many_is_legal = told_legal factory factory_tree (pulls 4) 1 (opens ++ around (run 3 ++ run 4 ++ run 5) (failed 2) ++ closes) refl
