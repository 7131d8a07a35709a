-- Reports of one tree that are told the same, with the same texts, are the same, whatever modes and locks the plans have.
use Rattle.std.proofs.Common.{◌≡◌, ℕ, zero, suc, ◌+◌, ◌<◌, ◌≤◌, ◌==◌, nat_lt, Bool, true, false, cond, List, [], ◌∷◌, ◌++◌, length, get_or, map, Option, refl, ap, ap₂, ◌∙◌, arith}
use Rattle.std.specs.Prelude.{codes}
use Rattle.std.specs.List.{All, AllByRecursion, flat_map, range_with_len}
use Rattle.std.proofs.lemmas.List.Elements.{recursion_from_All}
use Rattle.std.proofs.lemmas.Option.{slice_get-get_or}
use Rattle.descriptor.proofs.Children.{children_listed}
use Rattle.descriptor.specs.declared.lock.Lock.{Lock}
use Rattle.descriptor.specs.declared.mode.Mode.{Mode}
use Rattle.descriptor.specs.Nodes.{Nodes, IsTree, size, children_of, parent_of, is_factory_at}
use Rattle.job_times.specs.Timings.{no_times}
use Rattle.plan_events.specs.Texts.{TextParts, text_at}
use Rattle.plan_events.specs.declared.event.Event.{Event}
use Rattle.run_results.specs.declared.told.NodeEvents.{NodeEvents}
use Rattle.run_results.specs.Feed.{text_or}
use Rattle.run_results.specs.Told.{told_of}
use Rattle.junit_report.specs.Cases.{own_cause, cause_within, case_of, is_case, own_case, dynamic_cases, child_cases, cases_of}
use Rattle.junit_report.specs.ClassNames.{class_name}
use Rattle.junit_report.specs.Junit.{end_elements, output_element, case_attributes, case_line, suite_attributes, suite_of, suites_element, junit_of}
use Rattle.junit_report.specs.JunitBy.{junit_by}
use Rattle.junit_report.specs.Told.{badness}
use Rattle.junit_report.specs.XmlStrings.{element}
use Rattle.junit_report.specs.declared.cases.Case.{Case}
use Rattle.junit_report.specs.declared.cases.Cause.{Cause}
use Rattle.resource_locks.specs.Plans.{PlanParts}

all_both : {X : Type 0} (P : X → Type 0) (xs ys : List X) → AllByRecursion P xs → AllByRecursion P ys → AllByRecursion P (xs ++ ys)
all_both P [] ys h k = k
all_both P (x ∷ xs) ys h k = (h.0, all_both P xs ys h.1 k)

all_of_each : {X Y : Type 0} (P : X → Type 0) (Q : Y → Type 0) (f : X → List Y) (xs : List X) → AllByRecursion P xs → ((x : X) → P x → AllByRecursion Q (f x)) → AllByRecursion Q (flat_map f xs)
all_of_each P Q f [] h each = tt
all_of_each P Q f (x ∷ xs) h each = all_both Q (f x) (flat_map f xs) (each x h.0) (all_of_each P Q f xs h.1 each)

all_of_either : {X : Type 0} (P : X → Type 0) (b : Bool) (xs ys : List X) → AllByRecursion P xs → AllByRecursion P ys → AllByRecursion P (cond b xs ys)
all_of_either P true xs ys h k = h
all_of_either P false xs ys h k = k

-- ---- what is told of a case is told of a node of the tree

children_inside : (t : Nodes) (a : ℕ) → All (λ c. c < size t) (children_of t a)
children_inside t a k default lt = (children_listed t a k (get_or (children_of t a) k default) (slice_get-get_or (children_of t a) k default lt)).inside

module _ (t : Nodes) (tree : IsTree t) (told : List NodeEvents) where
  of_worse : (b : Bool) (above own : Cause) → above.node < size t → own.node < size t → (cond b above own).node < size t
  of_worse true above own h k = h
  of_worse false above own h k = k

  cause_inside : (k n : ℕ) → n < size t → (cause_within t told k n).node < size t
  cause_inside zero n inside = inside
  cause_inside (suc k) zero inside = inside
  cause_inside (suc k) (suc n) inside =
      of_worse (nat_lt (badness (own_cause told (suc n)).end) (badness (cause_within t told k (parent_of t (suc n))).end)) (cause_within t told k (parent_of t (suc n))) (own_cause told (suc n))
      (cause_inside k (parent_of t (suc n)) (omega (arith, tree.up (suc n) (omega arith) inside, inside))) inside

  abbrev IsInside : Case → Type 0
  IsInside c = c.cause.node < size t

  own_inside : (n : ℕ) → n < size t → AllByRecursion IsInside (own_case t told n)
  own_inside n inside = all_of_either IsInside (is_case t told n) (case_of t told n ∷ []) [] (cause_inside n n inside, tt) tt

  children_are : (n : ℕ) → AllByRecursion (λ c. c < size t) (children_of t n)
  children_are n = recursion_from_All (λ c. c < size t) (children_of t n) (children_inside t n)

  dynamic_inside : (n : ℕ) → AllByRecursion IsInside (dynamic_cases t told n)
  dynamic_inside n = all_of_either IsInside (is_factory_at t n) (flat_map (own_case t told) (children_of t n)) [] (all_of_each (λ c. c < size t) IsInside (own_case t told) (children_of t n) (children_are n) own_inside) tt

  cases_inside : (n : ℕ) → AllByRecursion IsInside (cases_of t told n)
  cases_inside n =
      all_of_either IsInside (is_factory_at t n) [] (flat_map (child_cases t told) (children_of t n)) tt
      (all_of_each (λ c. c < size t) IsInside (child_cases t told) (children_of t n) (children_are n) (λ c inside. all_both IsInside (own_case t told c) (dynamic_cases t told c) (own_inside c inside) (dynamic_inside c)))

-- ---- so the texts of the tree's nodes alone count

same_map : {X : Type 0} (f g : ℕ → X) (a n : ℕ) → ((k : ℕ) → a ≤ k → k < a + n → f k ≡ g k) → map f (range_with_len a n) ≡ map g (range_with_len a n)
same_map f g a zero same = refl
same_map f g a (suc n) same = rw (same a (omega arith) (omega arith), same_map f g (a + 1) n (λ k low high. same k (omega (arith, low)) (omega (arith, high)))) refl

same_flat : (f g : ℕ → List ℕ) (ns : List ℕ) → ((n : ℕ) → f n ≡ g n) → flat_map f ns ≡ flat_map g ns
same_flat f g [] each = refl
same_flat f g (n ∷ ns) each = ap₂ (λ (x xs : List ℕ). x ++ xs) (each n) (same_flat f g ns each)

module _ (p : PlanParts) (tree : IsTree p.tree) (ms : List Mode) (hs : List (List Lock)) (ks : List (List ℕ)) (limits : List ℕ) (fast : Bool) (tolerated : ℕ) (a b : TextParts) (same : (n : ℕ) → n < size p.tree → text_at a n ≡ text_at b n) where
  -- another plan on the tree
  abbrev other : PlanParts
  other = record { tree = p.tree; modes = ms; held = hs; keys = ks; limits = limits; fail_fast = fast; tolerated = tolerated }

  -- a case with this text
  abbrev line_with : List ℕ → Case → Option (List ℕ) → List ℕ
  line_with class c text =
      codes "    " ++ (element (codes "testcase") (case_attributes p [] class c.node) (end_elements (c.cause.node == c.node) c.cause.end (text_or text) ++ output_element p c.node) ++ codes "\n")

  same_cases : (class : List ℕ) (cs : List Case) → AllByRecursion (λ c. c.cause.node < size p.tree) cs → flat_map (case_line p a [] class) cs ≡ flat_map (case_line other b [] class) cs
  same_cases class [] h = refl
  same_cases class (c ∷ cs) h = ap₂ (λ (line rest : List ℕ). line ++ rest) (ap (line_with class c) (same c.cause.node h.0)) (same_cases class cs h.1)

  same_suite : (told : List NodeEvents) (n : ℕ) → suite_of p a no_times told n ≡ suite_of other b no_times told n
  same_suite told n =
      let class = class_name p.tree n in
      let cases = cases_of p.tree told n in
      ap (λ (lines : List ℕ). cond (length cases == 0) [] (codes "  " ++ (element (codes "testsuite") (suite_attributes no_times class cases) (codes "\n" ++ (lines ++ codes "  ")) ++ codes "\n")))
      (same_cases class cases (cases_inside p.tree tree told n))

  same_suites : (told : List NodeEvents) → suites_element p a no_times told ≡ suites_element other b no_times told
  same_suites told =
      ap (λ (suites : List ℕ). element (codes "testsuites") [] (codes "\n" ++ suites) ++ codes "\n") (same_flat (suite_of p a no_times told) (suite_of other b no_times told) (range_with_len 0 (size p.tree)) (same_suite told))

  -- Events that tell so of each node are reported as one that is told so.
  pub same_report : (events : List Event) (told : ℕ → NodeEvents) → ((n : ℕ) → n < size p.tree → told_of events n ≡ told n) → junit_of p a events ≡ junit_by other b told
  same_report events told so =
      ap (λ (all : List NodeEvents). suites_element p a no_times all) (same_map (told_of events) told 0 (size p.tree) (λ k low high. so k (omega (arith, high))))
      ∙ same_suites (map told (range_with_len 0 (size p.tree)))
