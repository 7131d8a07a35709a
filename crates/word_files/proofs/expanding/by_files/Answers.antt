-- Each argument stands for what it says, by the text of its file.
use Rattle.std.proofs.Common.{◌+◌, map, refl, sym, ap, ◌∙◌, arith, string_bytes}
use Rattle.std.proofs.lemmas.List.{map-append}
use Rattle.word_files.specs.Reading.{texts_in}
use Rattle.word_files.specs.Roles.{before_of, meaning_of, role_of}
use Rattle.word_files.proofs.Standing.{files_few, stand_more, stand_none, unread}
use Rattle.word_files.proofs.expanding.by_files.Goals as goal

pub loop-word-init : goal.loop-word-init
loop-word-init g c = record { stand = stand_none string_bytes c.new-all.result.items c.new-all.ensures.items; few = omega arith }

pub returns-in_default : goal.returns-in_default
returns-in_default g c other =
    unread string_bytes c.args.words.now c.loop-word.word-index c.word-item.result c.loop-word-test.true c.loop-word.before (map string_bytes c.loop-word.all.items) c.loop-word.number _ (meaning_of c.role_of-role.result) c.in_ok-pieces.ensures.0 _ c.loop-word.invariant.stand
    (c.role_of-role.ensures ∙ ap (role_of c.loop-word.before) (c.as_str.ensures.value ∙ ap string_bytes c.word-item.is)) (sym (ap texts_in c.in_default.is) ∙ c.in_ok-pieces.ensures.1) (ap (λ n. c.loop-word.number + n) c.files_of-number.ensures) refl

pub loop-word-preserved : goal.loop-word-preserved
loop-word-preserved g c = record {
  stand =
      stand_more string_bytes c.args.words.now c.loop-word.word-index c.word-item.result c.loop-word-test.true c.loop-word.before _ (map string_bytes c.loop-word.all.items) (map string_bytes c.in-Some.pieces.items) _ c.loop-word.number _ (meaning_of c.role_of-role.result) c.in_ok-pieces.ensures.0 c.loop-word.invariant.stand
      (c.role_of-role.ensures ∙ ap (role_of c.loop-word.before) (c.as_str.ensures.value ∙ ap string_bytes c.word-item.is)) (sym (ap texts_in c.in-Some.is) ∙ c.in_ok-pieces.ensures.1)
      (c.before_of-before.ensures ∙ ap before_of (c.as_str-in-loop-word.ensures.value ∙ ap string_bytes c.word-item.is))
      (ap (map string_bytes) c.in_ok-append.ensures.items ∙ map-append string_bytes c.loop-word.all.items c.in-Some.pieces.items)
      (ap (λ n. c.loop-word.number + n) c.files_of-number.ensures);
  few = omega (arith, c.loop-word.invariant.few, c.files_of-number.ensures, files_few (meaning_of c.role_of-role.result));
}
