-- The words are those of the opening state.
use Rattle.std.proofs.Common.{◌∷◌, ◌++◌, [], refl, ap, ◌∙◌}
use Rattle.std.proofs.lemmas.Result.{on_ok_weaker}
use Rattle.descriptor.specs.Nodes.{Nodes, size}
use Rattle.resource_locks.specs.Held.{table}
use Rattle.scheduling.specs.Inside.Start.{guard_and_children}
use Rattle.table_contents.proofs.Starting.{words_pushed}
use Rattle.table_contents.proofs.start.push_words.Goals as goal

pub returns : goal.returns
returns c =
    let t = c.tree-2.result.now in
    on_ok_weaker c.push_zeros-3.result (λ last workers. words_pushed c.args.plan.now c.tree-2.ensures.tree c.args.ring workers c.push.new.self.items c.push_zeros.new.words.items c.push_first_counters.new.words.items c.push_zeros-2.new.words.items c.push_zeros-3.new.words.items (table (guard_and_children t) (size t))
    c.len.result c.key_count.result c.args.ring
    (c.in_ok-push.ensures.items ∙ (λ i. c.requires i ++ c.status_to_word.ensures i ∷ []))
    c.in_ok-push_zeros.ensures c.in_ok-push_first_counters.ensures c.in_ok-push_zeros-2.ensures last
    (c.len.ensures.len ∙ ap size c.tree.ensures.same)
    (ap (λ (t : Nodes). table (guard_and_children t) (size t)) c.tree-2.ensures.same)
    c.key_count.ensures refl) c.push_zeros-3.ensures
