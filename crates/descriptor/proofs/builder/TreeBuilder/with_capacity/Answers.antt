-- The tree of the plan alone has no ids and no bodies.
use Rattle.std.proofs.Common.{◌≡◌, Some, IfOk, ap, subst, sym, ◌∙◌, true≢false}
use Rattle.descriptor.specs.Nodes.{Nodes, plan_alone}
use Rattle.descriptor.specs.Refusals.{has_text, has_body}
use Rattle.descriptor.proofs.Sets.{no_bodies}
use Rattle.descriptor.proofs.builder.TreeBuilder.with_capacity.Goals as goal

pub invariant_of-result : goal.invariant_of-result
invariant_of-result c =
    let none = no_bodies c.in_ok-bodies.bodies c.in_ok-bodies.ensures in
    let alone : c.in_ok-tree.tree ≡ plan_alone = subst (λ r. IfOk r (λ t. t ≡ plan_alone)) c.in_ok-tree.ensures.first c.with_capacity.ensures in
    record {
      has_hashes = λ text has. absurd (true≢false (sym has ∙ ap (λ (t : Nodes). has_text t text) alone));
      has_bodies = λ b low. none b low ∙ sym (ap (λ (t : Nodes). has_body t (Some b)) alone);
    }
