-- The name, behind that of the parent where there is one.
use Rattle.std.proofs.Common.{◌++◌, List, ℕ, codes, ◌∙◌, string_bytes, ap, sym}
use Rattle.reports.proofs.Growing.{then}
use Rattle.junit_report.proofs.Naming.{high_name, deep_name}
use Rattle.junit_report.proofs.class_names.+class_name_by.Goals as goal

pub returns-then-is_high : goal.returns-then-is_high
returns-then-is_high t c steps enough =
    c.in_ok-name.ensures
    ∙ high_name c.args.tree.now c.args.several c.args.node c.in-Some.parent c.in-Some.ensures.smaller c.in-Some.ensures.value (sym c.is_high.ensures ∙ c.if-is_high.true) steps enough

pub returns : goal.returns
returns t c steps enough =
    let above = string_bytes c.in_ok-name-2.name in
    then above _ _ c.in_ok-push_str.ensures.bytes c.in_ok-push_str-2.ensures.bytes
    ∙ ap (λ (name : List ℕ). above ++ (codes "$" ++ name)) c.name_of.ensures
    ∙ deep_name c.args.tree.now c.args.several c.args.node c.in-Some.parent (string_bytes c.in_ok-name-2.name) c.in-Some.ensures.smaller c.in-Some.ensures.value (sym c.is_high.ensures ∙ c.if-is_high.false) c.in_ok-name-2.ensures steps enough
