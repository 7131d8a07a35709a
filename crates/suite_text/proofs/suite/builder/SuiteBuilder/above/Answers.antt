use Rattle.std.proofs.Common.{◌≡◌, arith, sym, subst, ap}
use Rattle.suite_text.specs.Reading.Parts.{LinesRead}
use Rattle.suite_text.specs.Inside.Paths.{IsSound}
use Rattle.suite_text.proofs.Reading.Paths.{plan_takes, opened_is, is_open}
use Rattle.suite_text.proofs.suite.builder.SuiteBuilder.above.Goals as goal

pub returns-then-level-eq0-clause-may_take : goal.returns-then-level-eq0-clause-may_take
returns-then-level-eq0-clause-may_take c =
    let read = c.args.self.now in
    plan_takes read.tree read.path (subst IsSound c.self.view_is c.self.invariant).has_path

pub returns-else-level-eq0 : goal.returns-else-level-eq0
returns-else-level-eq0 c =
    let read = c.args.self.now in
    let same : c.self.inside.path.items ≡ read.path = ap (λ (r : LinesRead). r.path) c.self.view_is in
    let is = opened_is read.path c.args.level c.index.result.now (omega arith) c.requires (rw same at c.index.ensures) in
    let opened = is_open read.tree read.path c.args.level c.index.result.now (subst IsSound c.self.view_is c.self.invariant).has_path is in
    record { above = sym is; inside = (opened.above_zero, opened.inside); may_take = opened.takes }
