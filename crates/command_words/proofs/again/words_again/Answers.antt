-- Each argument stands for what it says.
use Rattle.std.proofs.Common.{map, ap, ◌∙◌, string_bytes}
use Rattle.command_words.specs.Expansions.{IsUnreadRun}
use Rattle.command_words.specs.Roles.{before_of, meaning_of, role_of}
use Rattle.command_words.proofs.Standing.{refused_as, stand_more, stand_none, unread}
use Rattle.command_words.proofs.again.words_again.Goals as goal

pub loop-word-init : goal.loop-word-init
loop-word-init g c = stand_none string_bytes c.new-all.result.items c.new-all.ensures.items

pub returns-in_err-push_pieces : goal.returns-in_err-push_pieces
returns-in_err-push_pieces g c =
    refused_as _ (IsUnreadRun (map string_bytes c.args.words.now)) c.in_err-push_pieces.field-0.0 c.from_residual.result c.from_residual.ensures.1
    (λ other.
    unread string_bytes c.args.words.now c.loop-word.word-index c.word-item.result c.loop-word-test.true c.loop-word.before (map string_bytes c.loop-word.all.items) (meaning_of c.role_of.result) c.in_err-push_pieces.field-0.0 c.loop-word.invariant
    (c.role_of.ensures ∙ ap (role_of c.loop-word.before) (c.as_str.ensures.value ∙ ap string_bytes c.word-item.is)) (c.in_err-push_pieces.ensures.refused other))

pub loop-word-preserved : goal.loop-word-preserved
loop-word-preserved g c =
    stand_more string_bytes c.args.words.now c.loop-word.word-index c.word-item.result c.loop-word-test.true c.loop-word.before _ (map string_bytes c.loop-word.all.items) _ (meaning_of c.role_of.result) c.loop-word.invariant
    (c.role_of.ensures ∙ ap (role_of c.loop-word.before) (c.as_str.ensures.value ∙ ap string_bytes c.word-item.is))
    c.in_ok-push_pieces.ensures.words
    (c.before_of-before.ensures ∙ ap (before_of c.loop-word.before) (c.as_str-in-loop-word.ensures.value ∙ ap string_bytes c.word-item.is))
