-- What they are, the arguments, and the end of the line.
use Rattle.std.proofs.Common.{◌≡◌, ◌∙◌, ◌++◌, List, ℕ, codes, string_bytes, ap, ap₂}
use Rattle.std.specs.List.{flat_map, list_any}
use Rattle.live.specs.FailedTexts.{are_some, failure_word, heading, selects_below}
use Rattle.live.specs.declared.failure.Failure.{Failure}
use Rattle.live.proofs.Growing.{then}
use Rattle.live.proofs.failed_lines.push_selecting.Goals as goal

pub returns : goal.returns
returns c =
    let old = string_bytes c.args.text.now in
    let option = c.args.option.now in
    let fs = c.args.failures.now in
    let kept = c.as_slice-kept.result.now in
    let titled = string_bytes c.push_str.new.self in
    let items : kept ≡ fs.kept.items = c.as_slice-kept.ensures.value in
    let said = c.heading-what.ensures ∙ ap₂ heading c.are_some.ensures (c.any_selects_below.ensures ∙ ap (list_any selects_below) items) in
    then old _ _ c.in_ok-push_str.ensures.bytes (then titled _ _ c.in_ok-push_words.ensures c.in_ok-push_str-2.ensures.bytes)
    ∙ ap (λ (h : List ℕ). old ++ (h ++ (flat_map (failure_word option) kept ++ codes "\n"))) said
    ∙ ap (λ (l : List Failure). old ++ (heading (are_some fs) (list_any selects_below fs.kept.items) ++ (flat_map (failure_word option) l ++ codes "\n"))) items
