-- Small trees, and what is expected to be printed of them: the prover computes each.
use Rattle.std.proofs.Common.{◌≡◌, ℕ, ◌==◌, true, false, cond, List, [], ◌∷◌, Option, Some, None, refl}
use Rattle.std.specs.Prelude.{codes}
use Rattle.descriptor.specs.declared.kind.Kind.{Kind}
use Rattle.descriptor.specs.declared.kind.Kind.TheVariants.{Test, Container}
use Rattle.descriptor.specs.declared.node.Node.{Node}
use Rattle.descriptor.specs.declared.role.Role.{Role}
use Rattle.descriptor.specs.declared.role.Role.TheVariants.{Plain, Factory, Spare}
use Rattle.descriptor.specs.Nodes.{Nodes}
use Rattle.descriptor.specs.PlainNodes.{plain}
use Rattle.run_results.specs.declared.theme.Theme.TheVariants.{Ascii}
use Rattle.plan_events.specs.declared.outcome.Reply.{Reply}
use Rattle.plan_events.specs.declared.status.Status.{Status}
use Rattle.plan_events.specs.declared.status.Status.TheVariants.{Successful, Aborted, Failed}
use Rattle.junit_report.specs.Expectations.{expected_tree, expected_counts, expected_tests, expects_failure}

abbrev node_of : List ℕ → Kind → Role → Option ℕ → Option (List ℕ) → Node
node_of name kind role body disabled = record (plain [] name kind) { role = role; body = body; disabled = disabled }

abbrev engine : Node
engine = node_of (codes "e") Container Plain None None

abbrev class : Option ℕ → Option (List ℕ) → Node
class body disabled = node_of (codes "a.B") Container Plain body disabled

abbrev test : List ℕ → ℕ → Node
test name body = node_of name Test Plain (Some body) None

abbrev says : Status → List ℕ → ℕ → Reply
says status text pulls = record { pulls = pulls; outcome = record { status = status; text = text } }

abbrev pass : Reply
pass = says Successful [] 0

-- body `which` gives this reply, every other one passes
abbrev only : ℕ → Reply → ℕ → Reply
only which reply job = cond (which == job) reply pass

-- an engine with a class of body 1, if any, and two tests in it, of bodies 2 and 3
abbrev two_tests : Option ℕ → Option (List ℕ) → Nodes
two_tests body disabled = record { parents = 0 ∷ 0 ∷ 1 ∷ 2 ∷ 2 ∷ []; nodes = engine ∷ class body disabled ∷ test (codes "t()") 2 ∷ test (codes "u()") 3 ∷ [] }

-- the second test fails
failing_test_tree : expected_tree Ascii (two_tests None None) (only 3 (says Failed (codes "no") 0)) ≡ codes "'-- e [OK]\n    '-- a.B [OK]\n        +-- t() [OK]\n        '-- u() [X] no\n"
failing_test_tree = refl

failing_test_counts : expected_counts (two_tests None None) (only 3 (says Failed (codes "no") 0)) ≡ 2 ∷ 0 ∷ 2 ∷ 0 ∷ 2 ∷ 0 ∷ 2 ∷ 0 ∷ 2 ∷ 0 ∷ 1 ∷ 1 ∷ []
failing_test_counts = refl

failing_test_fails : expects_failure (two_tests None None) (only 3 (says Failed (codes "no") 0)) ≡ true
failing_test_fails = refl

-- the class fails before its children: these are found, and have no line
failing_class_tree : expected_tree Ascii (two_tests (Some 1) None) (only 1 (says Failed (codes "boom") 0)) ≡ codes "'-- e [OK]\n    '-- a.B [X] boom\n"
failing_class_tree = refl

failing_class_counts : expected_counts (two_tests (Some 1) None) (only 1 (says Failed (codes "boom") 0)) ≡ 2 ∷ 0 ∷ 2 ∷ 0 ∷ 1 ∷ 1 ∷ 2 ∷ 0 ∷ 0 ∷ 0 ∷ 0 ∷ 0 ∷ []
failing_class_counts = refl

-- the class is disabled: its children count as skipped
disabled_class_tree : expected_tree Ascii (two_tests None (Some (codes "later"))) (only 3 (says Failed [] 0)) ≡ codes "'-- e [OK]\n    '-- a.B [S] later\n"
disabled_class_tree = refl

disabled_class_counts : expected_counts (two_tests None (Some (codes "later"))) (only 3 (says Failed [] 0)) ≡ 2 ∷ 1 ∷ 1 ∷ 0 ∷ 1 ∷ 0 ∷ 2 ∷ 2 ∷ 0 ∷ 0 ∷ 0 ∷ 0 ∷ []
disabled_class_counts = refl

disabled_class_passes : expects_failure (two_tests None (Some (codes "later"))) (only 3 (says Failed [] 0)) ≡ false
disabled_class_passes = refl

-- a test aborts, which is no failure
aborting_test_counts : expected_counts (two_tests None None) (only 2 (says Aborted [] 0)) ≡ 2 ∷ 0 ∷ 2 ∷ 0 ∷ 2 ∷ 0 ∷ 2 ∷ 0 ∷ 2 ∷ 1 ∷ 1 ∷ 0 ∷ []
aborting_test_counts = refl

aborting_test_passes : expects_failure (two_tests None None) (only 2 (says Aborted [] 0)) ≡ false
aborting_test_passes = refl

-- a factory of body 1 with three spares, of bodies 2 to 4
abbrev three_spares : Nodes
three_spares = record {
  parents = 0 ∷ 0 ∷ 1 ∷ 2 ∷ 2 ∷ 2 ∷ [];
  nodes = engine ∷ node_of (codes "f()") Container Factory (Some 1) None ∷ node_of (codes "one") Test Spare (Some 2) None ∷ node_of (codes "two") Test Spare (Some 3) None ∷ node_of (codes "three") Test Spare (Some 4) None ∷ [];
}

-- two of them are asked for: the third is not found
two_pulls_tree : expected_tree Ascii three_spares (only 1 (says Successful [] 2)) ≡ codes "'-- e [OK]\n    '-- f() [OK]\n        +-- one [OK]\n        '-- two [OK]\n"
two_pulls_tree = refl

two_pulls_counts : expected_counts three_spares (only 1 (says Successful [] 2)) ≡ 2 ∷ 0 ∷ 2 ∷ 0 ∷ 2 ∷ 0 ∷ 2 ∷ 0 ∷ 2 ∷ 0 ∷ 2 ∷ 0 ∷ []
two_pulls_counts = refl

two_pulls_tests : expected_tests three_spares (only 1 (says Successful [] 2)) ≡ 2
two_pulls_tests = refl

-- four are asked for
four_pulls_tree : expected_tree Ascii three_spares (only 1 (says Successful [] 4))
    ≡ codes "'-- e [OK]\n    '-- f() [X] too many dynamic tests\n        +-- one [OK]\n        +-- two [OK]\n        '-- three [OK]\n"
four_pulls_tree = refl

four_pulls_fails : expects_failure three_spares (only 1 (says Successful [] 4)) ≡ true
four_pulls_fails = refl

-- no test is asked for
no_pulls_tests : expected_tests three_spares (only 1 pass) ≡ 0
no_pulls_tests = refl
