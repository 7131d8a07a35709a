-- A node that is not isolated isolates by its locks.
use Rattle.std.proofs.Common.{◌≡◌, ◌∙◌, ◌||◌, ap, sym, Bool, false, List, arith}
use Rattle.std.proofs.lemmas.Grind.{common_steps}
use Rattle.descriptor.specs.Nodes.{locks_of, is_isolated_at}
use Rattle.descriptor.specs.declared.lock.Lock.{Lock}
use Rattle.resource_locks.specs.Declarations.{global}
use Rattle.resource_locks.specs.Held.{wants_write}
use Rattle.resource_locks.specs.Wants.{mode_for}
use Rattle.resource_locks.proofs.Forced.{wants_any}
use Rattle.resource_locks.proofs.hoisting.isolates.Goals as goal

pub returns-else-is_isolated : goal.returns-else-is_isolated
returns-else-is_isolated c =
    let locks : c.locks.result.now ≡ locks_of c.args.tree.now c.args.node = grind (arith, common_steps) in
    let free : is_isolated_at c.args.tree.now c.args.node ≡ false = grind (arith, common_steps) in
    c.writes_global.ensures ∙ wants_any global c.locks.result.now ∙ ap (λ (s : List Lock). wants_write (mode_for global s)) locks
    ∙ sym (ap (λ (b : Bool). b || wants_write (mode_for global (locks_of c.args.tree.now c.args.node))) free)
