-- A factory has as many spares as children.
use Rattle.std.proofs.Common.{◌≡◌, ◌∙◌, ◌&&◌, ◌||◌, ◌==◌, ltb, ap, ℕ, List, length}
use Rattle.descriptor.specs.Nodes.{Nodes, children_of}
use Rattle.event_history.specs.Plans.{spare_count}
use Rattle.scheduling.proofs.ChildLists.{spares_counted}
use Rattle.scheduling.proofs.choices.is_pulled.Goals as goal

pub returns : goal.returns
returns c =
    let many : length c.children.result.now ≡ spare_count c.args.plan.now c.args.factory =
    ap (λ (l : List ℕ). length l) c.children.ensures ∙ ap (λ (t : Nodes). length (children_of t c.args.factory)) c.tree.ensures.same ∙ spares_counted c.args.plan.now c.args.factory c.tree.ensures.tree c.requires.factory in
    c.are_pulled.ensures
    ∙ ap (λ (spares : ℕ). (c.from.result == c.args.registered) || ((c.args.registered == spares) && ltb c.args.registered c.from.result)) many
    ∙ ap (λ (pulls : ℕ). (pulls == c.args.registered) || ((c.args.registered == spare_count c.args.plan.now c.args.factory) && ltb c.args.registered pulls)) c.from.ensures
