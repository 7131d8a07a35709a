-- The words are as many as the nodes.
use Rattle.std.proofs.Common.{◌∙◌, ap, set, replicate, None}
use Rattle.descriptor.specs.Nodes.{Nodes, size}
use Rattle.plan_events.specs.declared.status.Status.TheVariants.{Successful}
use Rattle.resource_locks.specs.Held.{table}
use Rattle.scheduling.specs.declared.status.NodeStatus.TheVariants.{Hidden, Ready}
use Rattle.scheduling.specs.Inside.Start.{guard_and_children}
use Rattle.sched_core.proofs.machine.node_words.Goals as goal

pub returns : goal.returns
returns c =
    let sized = c.len-nodes.ensures.len ∙ ap size c.tree.ensures.same in
    record {
      plan = c.tree.ensures.plan;
      statuses = ap (λ l. set l 0 (Ready None)) (c.in_ok-statuses.ensures.items_if_clones_equal (λ y h. h) ∙ ap (λ n. replicate n Hidden) sized);
      counters = c.in_ok-counters.ensures ∙ ap (λ (t : Nodes). table (guard_and_children t) (size t)) c.tree-2.ensures.same;
      results = c.in_ok-results.ensures.items_if_clones_equal (λ y h. h) ∙ ap (λ n. replicate n Successful) sized;
    }
