-- The key begins as such keys do, or it is none.
use Rattle.std.proofs.Common.{◌∙◌, sym}
use Rattle.config_params.proofs.LockKeys.{front_by, front_not}
use Rattle.config_params.proofs.lock_key.lock_limited.Goals as goal

pub returns-in-None : goal.returns-in-None
returns-in-None c = sym (front_not c.args.key.now c.in-None.ensures.cases)

pub returns-in-Some : goal.returns-in-Some
returns-in-Some c = c.lock_before_end.ensures ∙ sym (front_by c.args.key.now c.in-Some.rest.now c.in-Some.ensures.cases)
