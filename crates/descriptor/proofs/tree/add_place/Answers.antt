-- The lists of children gain a number and an empty list, and are as they were where memory ends.
use Rattle.std.proofs.Common.{◌≡◌, ◌<◌, ◌++◌, ◌∷◌, [], length, get_or, arith, ap, sym, ◌∙◌, OnErr, Result, Ok, Err}
use Rattle.std.proofs.Math.ListN.{set}
use Rattle.std.proofs.Math.Seq.{map-set_same}
use Rattle.std.proofs.lemmas.List.{get_or-map}
use Rattle.std.proofs.lemmas.Grind.{common_steps}
use Rattle.descriptor.specs.Inside.Fields.{numbers, numbers_in}
use Rattle.descriptor.proofs.Grown.{lists_grown}
use Rattle.descriptor.proofs.tree.add_place.Goals as goal

on_err : {A E : Type 0} (r : Result A E) (P : Type 0) → P → OnErr r P
on_err (Ok _) P p = tt
on_err (Err _) P p = p

pub returns-in_err-push-clause-err_children : goal.returns-in_err-push-clause-err_children
returns-in_err-push-clause-err_children c =
    let room : c.args.children.now.items ≡ c.reserve-3.new.self.items = grind (arith, common_steps) in
    let same : c.index_mut.result.now.items ≡ c.push.new.self.items = grind (arith, common_steps) in
    let at : get_or c.reserve-3.new.self.items c.index-3.result c.index_mut.result.now ≡ c.index_mut.result.now = grind (arith, common_steps) in
    on_err _ _ (map-set_same numbers c.reserve-3.new.self.items c.index-3.result c.push.new.self c.index_mut.result.now (sym same ∙ sym (ap numbers at)) ∙ sym (ap numbers_in room))

pub returns-clause-children : goal.returns-clause-children
returns-clause-children c =
    let room : c.reserve-3.new.self.items ≡ c.args.children.now.items = grind (arith, common_steps) in
    let small : c.args.parent < length c.args.children.now.items = grind (arith, common_steps) in
    let here : get_or c.args.children.now.items c.args.parent c.index_mut.result.now ≡ c.index_mut.result.now = grind (arith, common_steps) in
    let at : c.index_mut.result.now.items ≡ get_or (numbers_in c.args.children.now.items) c.args.parent [] =
    sym (get_or-map numbers c.args.children.now.items c.args.parent c.index_mut.result.now [] small ∙ ap numbers here) in
    let more : c.push.new.self.items ≡ c.index_mut.result.now.items ++ c.new-number.result ∷ [] = grind (arith, common_steps) in
    let number : c.new-number.result ≡ length c.args.parents.now.items = grind (arith, common_steps) in
    let one_more : c.push.new.self.items ≡ get_or (numbers_in c.args.children.now.items) c.args.parent [] ++ length c.args.parents.now.items ∷ [] = cc in
    let last : c.push_reserved-3.new.self.items ≡ set c.reserve-3.new.self.items c.index-3.result c.push.new.self ++ c.new.result ∷ [] = grind (arith, common_steps) in
    sym (lists_grown numbers c.args.children.now.items c.reserve-3.new.self.items c.push_reserved-3.new.self.items c.index-3.result c.args.parent (length c.args.parents.now.items) c.push.new.self c.new.result room last (grind (arith, common_steps)) one_more (grind (arith, common_steps)))
