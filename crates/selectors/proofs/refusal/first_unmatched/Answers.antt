-- The first of the selectors, and then of the names.
use Rattle.std.proofs.Common.{length, ap, sym, ◌∙◌, List}
use Rattle.std.specs.Option.{option_or}
use Rattle.selectors.specs.declared.selector.Selector.{Selector}
use Rattle.selectors.specs.Covered.{unmatched_from}
use Rattle.selectors.proofs.Covering.{unmatched_both}
use Rattle.selectors.proofs.refusal.first_unmatched.Goals as goal

pub returns-in-Some : goal.returns-in-Some
returns-in-Some c =
    sym (
    unmatched_both c.args.tree.now c.args.request.now.selectors.items c.args.request.now.names.items
    ∙ ap (λ o. option_or o (unmatched_from c.args.tree.now (length c.args.request.now.selectors.items) c.args.request.now.names.items))
    (ap (unmatched_from c.args.tree.now 0) (sym c.as_slice-selectors.ensures.value) ∙ sym c.unmatched_from.ensures ∙ c.in-Some.is)
    )

pub returns-in-None : goal.returns-in-None
returns-in-None c =
    c.unmatched_from-in-None.ensures
    ∙ ap (λ (ss : List Selector). unmatched_from c.args.tree.now (length ss) c.as_slice.result.now) c.as_slice-selectors.ensures.value
    ∙ ap (unmatched_from c.args.tree.now (length c.args.request.now.selectors.items)) c.as_slice.ensures.value
    ∙ sym (
    unmatched_both c.args.tree.now c.args.request.now.selectors.items c.args.request.now.names.items
    ∙ ap (λ o. option_or o (unmatched_from c.args.tree.now (length c.args.request.now.selectors.items) c.args.request.now.names.items))
    (ap (unmatched_from c.args.tree.now 0) (sym c.as_slice-selectors.ensures.value) ∙ sym c.unmatched_from.ensures ∙ c.in-None.is)
    )
