-- The class name of a node, and how a report names a case.
use Rattle.std.specs.Prelude.{ℕ, zero, suc, ◌-◌, ◌==◌, ◌&&◌, nat_lt, not, Bool, cond, List, [], ◌++◌, codes, length}
use Rattle.std.specs.Fmt.{decimal}
use Rattle.descriptor.specs.Nodes.{Nodes, children_of, parent_of, is_high, is_spare_at}
use Rattle.run_results.specs.TreeTexts.{name_at}
use Rattle.junit_report.specs.XmlStrings.{escaped}

-- whether there is more than one engine
abbrev pub has_engines : Nodes → Bool
has_engines t = nat_lt 1 (length (children_of t 0))

-- the name of an engine, or of a node below one; behind that of its engine where this has to be told from others
abbrev pub top_name : Nodes → Bool → ℕ → List ℕ
top_name t several n =
    cond (several && not (parent_of t n == 0))
    (name_at t (parent_of t n) ++ (codes "/" ++ name_at t n))
    (name_at t n)

-- the names from the node below an engine down to node n, joined by `$`, of so many steps up; of an engine its name
abbrev pub class_name_within : Nodes → Bool → ℕ → ℕ → List ℕ
class_name_within t several zero n = name_at t n
class_name_within t several (suc k) zero = []
class_name_within t several (suc k) (suc n) =
    cond (is_high t (parent_of t (suc n)))
    (top_name t several (suc n))
    (class_name_within t several k (parent_of t (suc n)) ++ (codes "$" ++ name_at t (suc n)))

-- all of it: as a parent has a smaller number, n steps are enough
abbrev pub class_name : Nodes → ℕ → List ℕ
class_name t n = class_name_within t (has_engines t) n n

-- how a report names node n, as it stands in a value: by its name; a dynamic test by its factory's name and by its number, which is how
-- far it stands behind the factory
abbrev pub reported_name : Nodes → ℕ → List ℕ
reported_name t n =
    cond (is_spare_at t n)
    (escaped (name_at t (parent_of t n)) ++ (codes "[" ++ (decimal (n - parent_of t n) ++ codes "]")))
    (escaped (name_at t n))
