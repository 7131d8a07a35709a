-- A node that is not the last may take the next where the last is below it.
use Rattle.std.proofs.Common.{◌≢◌, arith}
use Rattle.descriptor.proofs.Belows.{may_take_is}
use Rattle.descriptor.proofs.builder.TreeBuilder.may_take.Goals as goal

pub returns-else-eq : goal.returns-else-eq
returns-else-eq c =
    let other : c.args.parent ≢ c.last-last.result = grind arith in
    may_take_is _ _ _ _ _ c.self.view_is c.last-last.ensures.last c.last-last.ensures.inside other c.below.ensures.below c.below.ensures.smaller
