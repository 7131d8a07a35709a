-- The child at a place is the spare with so many before it.
use Rattle.std.proofs.Common.{◌≡◌, ◌∙◌, sym, ap, ℕ, List, Option, Some, None, ltb, length, get_or, slice_get, Bor}
use Rattle.std.specs.Option.{is_some, IfSome, option_copied}
use Rattle.std.proofs.lemmas.Bool.{ltb-true, ltb-false}
use Rattle.std.proofs.lemmas.Option.{slice_get_past, slice_get-get_or}
use Rattle.descriptor.specs.Nodes.{Nodes, children_of}
use Rattle.scheduling.proofs.ChildLists.{next_spare_is}
use Rattle.scheduling.proofs.choices.next_spare.Goals as goal

got : (o : Option (Bor ℕ)) (xs : List ℕ) (i : ℕ) → is_some o ≡ ltb i (length xs) → IfSome o (λ x. x.now ≡ get_or xs i x.now) → option_copied o ≡ slice_get xs i
got None xs i e h = sym (slice_get_past xs i (ltb-false i (length xs) (sym e)))
got (Some x) xs i e h = ap Some h ∙ sym (slice_get-get_or xs i x.now (ltb-true i (length xs) (sym e)))

pub returns : goal.returns
returns c =
    c.copied.ensures ∙ got c.get.result c.children.result.now c.args.registered c.get.ensures.lookup.0 c.get.ensures.lookup.1
    ∙ ap (λ (l : List ℕ). slice_get l c.args.registered) (c.children.ensures ∙ ap (λ (t : Nodes). children_of t c.args.factory) c.tree.ensures.same)
    ∙ sym (next_spare_is c.args.plan.now c.args.factory c.tree.ensures.tree c.requires.factory c.args.registered)
