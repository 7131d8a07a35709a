-- The suite of a node that has cases.
use Rattle.std.proofs.Common.{◌≡◌, ℕ, ◌==◌, Bool, false, cond, List, [], ◌++◌, length, ap, ap₂, sym, ◌∙◌}
use Rattle.descriptor.specs.Nodes.{Nodes}
use Rattle.job_times.specs.Timings.{Times}
use Rattle.plan_events.specs.Texts.{TextParts}
use Rattle.run_results.specs.declared.told.NodeEvents.{NodeEvents}
use Rattle.resource_locks.specs.Plans.{PlanParts}
use Rattle.junit_report.specs.Cases.{cases_of}
use Rattle.junit_report.specs.ClassNames.{class_name}
use Rattle.junit_report.specs.Junit.{suite_element, suite_with, suite_of}
use Rattle.junit_report.specs.declared.cases.Case.{Case}

pub told_suite : (p : PlanParts) (texts : TextParts) (times : Times) (told : List NodeEvents) (n : ℕ) (tree : Nodes) (class : List ℕ) (cases : List Case) (old new : List ℕ) → tree ≡ p.tree → class ≡ class_name tree n → cases ≡ cases_of tree told n
    → (length cases == 0) ≡ false → new ≡ old ++ suite_element p texts times class cases → new ≡ old ++ suite_of p texts times told n
told_suite p texts times told n tree class cases old new same named are some written =
    written
    ∙ ap (λ (l : List ℕ). old ++ l) (
    sym (ap (λ (b : Bool). cond b [] (suite_element p texts times class cases)) some)
    ∙ ap₂ (λ (k : List ℕ) (cs : List Case). suite_with p texts times k cs) named are
    ∙ ap (λ (t : Nodes). suite_with p texts times (class_name t n) (cases_of t told n)) same)
