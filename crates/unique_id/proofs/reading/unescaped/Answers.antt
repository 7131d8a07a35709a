-- One more item is read.
use Rattle.std.proofs.Common.{◌≡◌, ◌-◌, ◌≤◌, ◌++◌, ◌∷◌, [], length, take, drop, Some, ap, sym, ◌∙◌, arith, length-append, length-drop}
use Rattle.std.proofs.lemmas.Grind.{common_steps}
use Rattle.std.proofs.lemmas.List.{take_all}
use Rattle.unique_id.specs.Reading.{item_of}
use Rattle.unique_id.proofs.Items.{item_next}
use Rattle.unique_id.proofs.reading.unescaped.Goals as goal

pub loop-index-preserved : goal.loop-index-preserved
loop-index-preserved c =
    let xs = c.args.written.now in
    let i = c.loop-index.index in
    let whole : take (length xs - i) (drop i xs) ≡ drop i xs = take_all (length xs - i) (drop i xs) (omega (arith, length-drop i xs)) in
    let within : c.in-Some.length ≤ length (take (length xs - i) (drop i xs)) = grind (arith, common_steps) in
    let item : item_of (take (length xs - i) (drop i xs)) ≡ Some (c.in-Some.byte, c.in-Some.length) = grind (arith, common_steps) in
    let more : c.push.new.self ≡ c.loop-index.bytes ++ c.in-Some.byte ∷ [] = grind (arith, common_steps) in (
      omega (arith, within, ap length whole, length-drop i xs),
      omega (arith, c.loop-index.invariant.1, c.in-Some.ensures.some, ap length more, length-append c.loop-index.bytes (c.in-Some.byte ∷ [])),
      item_next c.loop-index.bytes c.push.new.self c.args.place i c.in-Some.length c.in-Some.byte xs _ (ap item_of (sym whole) ∙ item) more c.loop-index.invariant.2,
    )
