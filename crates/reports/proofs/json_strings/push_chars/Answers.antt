-- One character more; what was gone through is the text's characters.
use Rattle.std.proofs.Common.{◌++◌, List, ℕ, string_bytes, sym, ap, ◌∙◌, map-id}
use Rattle.std.specs.List.{flat_map}
use Rattle.std.proofs.lemmas.Iterator.{YieldsList-from_chars}
use Rattle.std.proofs.lemmas.Iterator.Consumers.{YieldsList-end}
use Rattle.reports.specs.JsonStrings.{json_char}
use Rattle.reports.proofs.Escapes.{escaped_chars}
use Rattle.reports.proofs.Growing.{yielded_more}
use Rattle.reports.proofs.json_strings.push_chars.Goals as goal

pub loop-c-preserved : goal.loop-c-preserved
loop-c-preserved c = yielded_more json_char c.loop-c.yielded c.in-Some.c (string_bytes c.args.json.now) c.loop-c.invariant c.in_ok-push_char.ensures

pub returns : goal.returns
returns c =
    let end = YieldsList-end (YieldsList-from_chars c.args.text.now c.utf8.text cc) c.loop-c.yielded _ c.loop-c.yielded_by _ _ c.in-None.is c.next.ensures.steps in
    c.loop-c.invariant
    ∙ ap (λ (cs : List ℕ). string_bytes c.args.json.now ++ flat_map json_char cs) (sym (map-id c.loop-c.yielded) ∙ end.0)
    ∙ ap (λ (l : List ℕ). string_bytes c.args.json.now ++ l) (escaped_chars c.args.text.now c.utf8.text)
