-- Arguments are joined as their texts are.
use Rattle.std.proofs.Common.{◌≡◌, List, [], ◌∷◌, ◌++◌, ap, ◌∙◌, arith, codes, map, string_bytes}
use Rattle.std.proofs.lemmas.Grind.{common_steps}
use Rattle.std.specs.List.{join_by}
use Rattle.word_files.specs.Reading.{Text}
use Rattle.word_files.proofs.Texts.{texts_joined}
use Rattle.word_files.proofs.files.joined.Goals as goal

pub returns : goal.returns
returns c =
    let items : c.push.new.self.items ≡ c.push_str.new.self ∷ [] = grind (arith, common_steps) in
    let text : string_bytes c.push_str.new.self ≡ c.args.front.now ++ join_by string_bytes (codes " ") c.args.words.now = grind (arith, common_steps) in
    ap (map string_bytes) items ∙ ap (λ (t : Text). t ∷ []) (text ∙ ap (λ (t : Text). c.args.front.now ++ t) (texts_joined string_bytes (codes " ") c.args.words.now))
