-- What became of the node, or what is told of its parent.
use Rattle.std.proofs.Common.{◌∙◌, ap, refl}
use Rattle.junit_report.specs.Cases.{worse_of}
use Rattle.junit_report.specs.declared.cases.Cause.{Cause}
use Rattle.junit_report.proofs.Upward.{cause_above, root_cause}
use Rattle.junit_report.proofs.cases.+cause_of.Goals as goal

pub returns-in-None : goal.returns-in-None
returns-in-None t c steps enough = c.own_cause-own.ensures ∙ root_cause c.args.tree.now c.args.told.now c.args.node (c.in-None.ensures.root.0 refl) steps

pub returns-in-Some : goal.returns-in-Some
returns-in-Some t c steps enough =
    c.worse_of.ensures ∙ ap (λ (own : Cause). worse_of c.cause_of.result own) c.own_cause-own.ensures
    ∙ cause_above c.args.tree.now c.args.told.now c.args.node c.in-Some.parent c.cause_of.result c.in-Some.ensures.smaller c.in-Some.ensures.value c.cause_of.ensures steps enough
