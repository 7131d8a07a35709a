-- What was gone through is the text's characters.
use Rattle.std.proofs.Common.{◌++◌, List, ℕ, string_bytes, sym, ap, ◌∙◌, map-id}
use Rattle.std.specs.List.{flat_map}
use Rattle.std.proofs.lemmas.Iterator.{YieldsList-from_chars}
use Rattle.std.proofs.lemmas.Iterator.Consumers.{YieldsList-end}
use Rattle.suite_messages.specs.Marks.{shown_char}
use Rattle.suite_messages.proofs.marked.push_shown.Goals as goal

pub returns : goal.returns
returns c =
    let end = YieldsList-end (YieldsList-from_chars c.args.piece.now c.utf8.piece cc) c.loop-c.yielded _ c.loop-c.yielded_by _ _ c.in-None.is c.next.ensures.steps in
    c.loop-c.invariant ∙ ap (λ (cs : List ℕ). string_bytes c.args.text.now ++ flat_map shown_char cs) (sym (map-id c.loop-c.yielded) ∙ end.0)
