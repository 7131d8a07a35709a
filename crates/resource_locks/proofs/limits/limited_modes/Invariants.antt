-- The modes of the nodes so far, and the walk so far.
use Rattle.std.proofs.Common.{◌≡◌, [], false, length, map, get_or}
use Rattle.descriptor.specs.declared.mode.Mode.TheVariants.{SameThread}
use Rattle.resource_locks.specs.Held.{walk, table}
use Rattle.resource_locks.specs.Limits.{any_limited, marked_step, mode_below}
use Rattle.resource_locks.proofs.limits.limited_modes.Given as goal

abbrev pub invariant-loop-node : goal.invariant-loop-node
invariant-loop-node l = record {
  modes : l.modes.items ≡ table (mode_below l.tree (λ n. any_limited l.limits (get_or (map (λ v. v.items) l.numbers) n [])) (λ n. get_or l.given n SameThread)) l.node;
  limited : l.limited.items ≡ walk l.tree (marked_step (λ n. any_limited l.limits (get_or (map (λ v. v.items) l.numbers) n []))) false l.node;
  len : length l.limited.items ≡ l.node;
}
