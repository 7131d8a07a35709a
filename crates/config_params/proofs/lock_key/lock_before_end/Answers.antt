-- What is left is the lock.
use Rattle.config_params.proofs.LockKeys.{end_by}
use Rattle.config_params.proofs.lock_key.lock_before_end.Goals as goal

pub returns : goal.returns
returns c = end_by c.args.rest.now c.strip_suffix.result c.strip_suffix.ensures.cases
