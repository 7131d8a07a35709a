-- The texts stay those of the tags, on each way out.
use Rattle.std.proofs.Common.{◌≡◌, ◌++◌, ◌∷◌, [], arith, string_bytes}
use Rattle.std.proofs.lemmas.Grind.{common_steps}
use Rattle.tag_expr.proofs.TagTexts.{texts_kept, texts_grown, texts_as}
use Rattle.tag_expr.proofs.tag_table.TagTable.append.Goals as goal

pub invariant_of-self-in_err-push : goal.invariant_of-self-in_err-push
invariant_of-self-in_err-push c =
    let same : c.self.inside.tags.items ≡ c.push.new.self.items = grind (arith, common_steps) in
    texts_as _ _ c.reserve.new.self same (texts_kept c.self.inside.tags.items c.self.inside.texts c.reserve.new.self c.self.invariant c.reserve.ensures.keys.0)

pub invariant_of-self-2 : goal.invariant_of-self-2
invariant_of-self-2 c =
    let grown : c.push.new.self.items ≡ c.self.inside.tags.items ++ c.args.tag ∷ [] = grind (arith, common_steps) in
    let text : string_bytes c.in_ok-text.text ≡ c.args.tag = grind (arith, common_steps) in
    texts_grown _ _ c.args.tag _ c.reserve.new.self c.insert.new.self grown text (texts_kept c.self.inside.tags.items c.self.inside.texts c.reserve.new.self c.self.invariant c.reserve.ensures.keys.0) c.in-Ok.ensures.updates
