-- The word is cut off behind its last character, and is a call where () follows.
use Rattle.std.proofs.Common.{◌∙◌, ap, sym, take, drop}
use Rattle.std.specs.Prelude.{codes, encode_utf8_all}
use Rattle.std.specs.Str.{chars, bytes_eq}
use Rattle.tag_expr.specs.Tokens.{is_called, word, word_len}
use Rattle.tag_expr.proofs.TokenTexts.{cut, drop_more, any_found, none_found, word_called, word_alone}
use Rattle.tag_expr.proofs.token.word_or_call.Goals.{in-Some+else-eq+else-eq-2, in_default}
use Rattle.tag_expr.proofs.token.word_or_call.Goals as goal

pub split_at-requires : goal.split_at-requires
split_at-requires c = (cut c.args.text.now c.word_size.result c.utf8.text c.word_size.ensures).boundary

pub returns-then-eq-clause-token : goal.returns-then-eq-clause-token
returns-then-eq-clause-token c =
    let parts = cut c.args.text.now c.word_size.result c.utf8.text c.word_size.ensures in
    let text = c.split_at.ensures.front ∙ parts.front in
    let called = sym (c.in-Some.ensures.called ∙ ap is_called (ap chars c.split_at.ensures.back ∙ parts.back)) in
    any_found (encode_utf8_all (take (word_len (chars c.args.text.now)) (chars c.args.text.now))) _ called (ap (λ t. bytes_eq t (codes "any")) (sym text) ∙ sym c.eq.ensures ∙ c.if-eq.true)

pub returns-then-eq-clause-rest : goal.returns-then-eq-clause-rest
returns-then-eq-clause-rest c =
    let parts = cut c.args.text.now c.word_size.result c.utf8.text c.word_size.ensures in
    c.in-Some.ensures.after ∙ ap (λ cs. encode_utf8_all (drop 2 cs)) (ap chars c.split_at.ensures.back ∙ parts.back) ∙ ap encode_utf8_all (drop_more (word_len (chars c.args.text.now)) (chars c.args.text.now))

pub returns-then-eq-2-clause-rest : goal.returns-then-eq-2-clause-rest
returns-then-eq-2-clause-rest c =
    let parts = cut c.args.text.now c.word_size.result c.utf8.text c.word_size.ensures in
    c.in-Some.ensures.after ∙ ap (λ cs. encode_utf8_all (drop 2 cs)) (ap chars c.split_at.ensures.back ∙ parts.back) ∙ ap encode_utf8_all (drop_more (word_len (chars c.args.text.now)) (chars c.args.text.now))

pub returns-then-eq-2-clause-token : goal.returns-then-eq-2-clause-token
returns-then-eq-2-clause-token c =
    let parts = cut c.args.text.now c.word_size.result c.utf8.text c.word_size.ensures in
    let text = c.split_at.ensures.front ∙ parts.front in
    let called = sym (c.in-Some.ensures.called ∙ ap is_called (ap chars c.split_at.ensures.back ∙ parts.back)) in
    none_found (encode_utf8_all (take (word_len (chars c.args.text.now)) (chars c.args.text.now))) _ called (ap (λ t. bytes_eq t (codes "any")) (sym text) ∙ sym c.eq.ensures ∙ c.if-eq.false) (ap (λ t. bytes_eq t (codes "none")) (sym text) ∙ sym c.eq-in-Some.ensures ∙ c.if-eq-2.true)

pub returns-clause-token : goal.returns-clause-token
returns-clause-token c =
    let parts = cut c.args.text.now c.word_size.result c.utf8.text c.word_size.ensures in
    let text = c.split_at.ensures.front ∙ parts.front in
    ap word text ∙ elim c.match-after_call.branch [
      | in-Some+else-eq+else-eq-2 w ↦ word_called (encode_utf8_all (take (word_len (chars c.args.text.now)) (chars c.args.text.now))) _ (ap (λ t. bytes_eq t (codes "any")) (sym text) ∙ sym w.eq.ensures ∙ w.if-eq.false) (ap (λ t. bytes_eq t (codes "none")) (sym text) ∙ sym w.eq-in-Some.ensures ∙ w.if-eq-2.false)
      | in_default w ↦ word_alone (encode_utf8_all (take (word_len (chars c.args.text.now)) (chars c.args.text.now))) _ (sym (w.in_default.ensures.called ∙ ap is_called (ap chars c.split_at.ensures.back ∙ parts.back)))
    ]

pub returns-clause-rest : goal.returns-clause-rest
returns-clause-rest c =
    let parts = cut c.args.text.now c.word_size.result c.utf8.text c.word_size.ensures in
    c.split_at.ensures.back ∙ parts.rest
