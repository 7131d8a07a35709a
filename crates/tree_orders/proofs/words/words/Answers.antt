-- One word more is that of its place.
use Rattle.std.proofs.Common.{◌≡◌, ◌+◌, ◌<◌, ◌++◌, [], ◌∷◌, ◌∙◌, ap, arith, length, sym}
use Rattle.std.proofs.lemmas.Grind.{common_steps}
use Rattle.std.proofs.lemmas.List.{length_push}
use Rattle.tree_orders.proofs.Drawing.{rng_at, rng_moved, word_drawn, words_more}
use Rattle.tree_orders.proofs.words.words.Goals as goal

pub loop-rng-preserved : goal.loop-rng-preserved
loop-rng-preserved c =
    let xs = c.loop-rng.words.items in
    let more : c.push.new.self.items ≡ c.loop-rng.words.items ++ c.next_word.result ∷ [] = grind (arith, common_steps) in
    let len : length c.push.new.self.items ≡ length c.loop-rng.words.items + 1 = ap length more ∙ length_push c.loop-rng.words.items c.next_word.result in
    let low : length c.loop-rng.words.items < c.args.count = grind (arith, common_steps) in
    record {
      rng = rng_moved c.args.seed (length xs) c.next_word.result c.loop-rng.rng c.next_word.new.self (omega (arith, low, c.requires)) c.loop-rng.invariant.rng c.next_word.ensures ∙ ap (rng_at c.args.seed) (sym len);
      few = omega (arith, low, len);
      each = λ k inside. words_more c.args.seed c.next_word.result xs c.push.new.self.items more (word_drawn c.args.seed (length xs) c.next_word.result c.loop-rng.rng c.next_word.new.self c.loop-rng.invariant.rng c.next_word.ensures) c.loop-rng.invariant.each k (omega (arith, inside, len));
    }
