-- One character more; what was gone through is the text's characters.
use Rattle.std.proofs.Common.{◌≡◌, ℕ, List, Option, IfOk, fold, sym, ap, ◌∙◌, map-id, subst}
use Rattle.std.proofs.lemmas.Iterator.{YieldsList-from_chars}
use Rattle.std.proofs.lemmas.Iterator.Consumers.{YieldsList-end}
use Rattle.word_files.specs.Reading.{Text, at_start, read_char, texts_in, words_in, words_read}
use Rattle.word_files.proofs.Characters.{read_more}
use Rattle.word_files.proofs.reading.read_words.Goals as goal

pub loop-c-preserved : goal.loop-c-preserved
loop-c-preserved c =
    read_more c.loop-c.yielded c.in-Some.c c.loop-c.place c.next_place-place.result _ _ _ _ c.loop-c.invariant c.next_place-place.ensures c.in_ok-take_char.ensures.word c.in_ok-take_char.ensures.words

pub returns : goal.returns
unfolding words_in
returns c =
    let end = YieldsList-end (YieldsList-from_chars c.args.text.now c.utf8.text cc) c.loop-c.yielded _ c.loop-c.yielded_by _ _ c.in-None.is c.next.ensures.steps in
    let whole = sym (map-id c.loop-c.yielded) ∙ end.0 in
    subst (λ (all : Option (List Text)). IfOk c.words_at_end.result (λ words. texts_in words ≡ all))
    (ap words_read c.loop-c.invariant ∙ ap (λ (cs : List ℕ). words_read (fold read_char at_start cs)) whole) c.words_at_end.ensures
