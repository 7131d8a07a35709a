use Rattle.std.proofs.Common.{◌≡◌}
use Rattle.pool_tests.proofs.sharing.take.Given as goal

abbrev pub invariant-loop-turn : goal.invariant-loop-turn
invariant-loop-turn l = record {
  which : l.lane.which ≡ l.fn.lane.which;
  thieves : l.lane.thieves ≡ l.fn.lane.thieves;
  put : l.lane.put ≡ l.fn.lane.put;
}
