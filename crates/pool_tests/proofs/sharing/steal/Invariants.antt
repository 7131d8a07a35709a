use Rattle.std.proofs.Common.{◌≡◌}
use Rattle.pool_tests.proofs.sharing.steal.Given as goal

abbrev pub invariant-loop-turn : goal.invariant-loop-turn
invariant-loop-turn l = l.thief.which ≡ l.fn.thief.which
