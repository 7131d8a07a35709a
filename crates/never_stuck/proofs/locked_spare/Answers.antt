-- The plan gets stuck, and is made of its tree.
use Rattle.never_stuck.proofs.LockedSpare.{gets_stuck, is_made}
use Rattle.never_stuck.proofs.locked_spare.Goals as goal

pub returns-clause-stuck : goal.returns-clause-stuck
returns-clause-stuck c = gets_stuck

pub returns-clause-made : goal.returns-clause-made
returns-clause-made c = is_made
