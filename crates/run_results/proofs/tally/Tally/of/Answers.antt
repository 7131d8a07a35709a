-- As many nodes are told of as there are places.
use Rattle.std.proofs.Common.{◌≡◌, ◌∙◌, length, ap, arith}
use Rattle.std.proofs.lemmas.Grind.{common_steps}
use Rattle.run_results.specs.Told.{all_told}
use Rattle.run_results.proofs.ToldMore.{told_each}
use Rattle.run_results.proofs.tally.Tally.of.Goals as goal

pub invariant_of-result : goal.invariant_of-result
invariant_of-result c =
    let len : c.len.result ≡ length c.in_ok-outline.outline.items = grind (arith, common_steps) in
    record { few = c.in_ok-outline.ensures.few; parents = c.in_ok-outline.ensures.parents; each = told_each c.len.result c.args.events.now c.in_ok-told.told.items c.in_ok-told.ensures ∙ len }

pub returns-clause-told : goal.returns-clause-told
returns-clause-told c =
    let len : c.len.result ≡ length c.in_ok-outline.outline.items = grind (arith, common_steps) in
    c.in_ok-told.ensures ∙ ap (λ n. all_told n c.args.events.now) len
