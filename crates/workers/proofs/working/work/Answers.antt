use Rattle.std.proofs.Common.{◌∙◌}
use Rattle.workers.proofs.Going.{goes_itself, same_then, still_of, then_still}
use Rattle.workers.proofs.Outgoing.{then_goes}
use Rattle.workers.proofs.working.work.Goals as goal

pub loop-init : goal.loop-init
loop-init g c = record { table = c.requires.table; goes_on = goes_itself _; free = c.requires.free; empty = c.requires.empty; led = λ first it. it }

pub take_and_see_through-requires-clause-table : goal.take_and_see_through-requires-clause-table
take_and_see_through-requires-clause-table g c = still_of _ _ _ c.loop.invariant.table c.is_over.ensures.goes_on.same

pub loop-preserved : goal.loop-preserved
loop-preserved g c =
    let over = c.is_over.ensures in
    let seen = c.take_and_see_through.ensures in
    record {
      table = then_still _ _ _ _ c.loop.invariant.table over.goes_on.same seen.goes_on.same;
      goes_on = then_goes _ _ _ (then_goes _ _ _ c.loop.invariant.goes_on over.goes_on) seen.goes_on;
      free = seen.free;
      empty = seen.empty;
      led = λ first it. seen.led first (c.loop.invariant.led first it);
    }

pub returns-then-is_over-clause-same : goal.returns-then-is_over-clause-same
returns-then-is_over-clause-same g c = same_then _ _ _ c.loop.invariant.goes_on.same c.is_over.ensures.goes_on.same

pub returns-then-is_over-clause-mine : goal.returns-then-is_over-clause-mine
returns-then-is_over-clause-mine g c = (then_goes _ _ _ c.loop.invariant.goes_on c.is_over.ensures.goes_on).mine

pub returns-then-is_over-clause-empty : goal.returns-then-is_over-clause-empty
returns-then-is_over-clause-empty g c = c.is_over.ensures.hand ∙ c.loop.invariant.empty
