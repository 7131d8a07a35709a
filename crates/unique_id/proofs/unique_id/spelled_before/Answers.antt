-- One more segment stands behind the text, and behind a slash where a segment stands before.
use Rattle.std.proofs.Common.{◌≡◌, ◌<◌, length, ◌++◌, ◌∷◌, [], ◌∙◌, sym, ap, append_assoc, arith, string_bytes}
use Rattle.std.proofs.lemmas.Bool.Decides.{nat_tests}
use Rattle.unique_id.specs.Spelling.{spelling, spelled_segment}
use Rattle.unique_id.proofs.Spellings.{spelling_more, spelling_first}
use Rattle.unique_id.proofs.unique_id.spelled_before.Goals.{then-not-is_empty+in_ok-push_str-2, else-not-is_empty}
use Rattle.unique_id.proofs.unique_id.spelled_before.Goals as goal

pub returns : goal.returns
returns c new =
    let segments = c.args.segments.now in
    let written = spelled_segment new.kind new.value in
    let copy : string_bytes c.push_str.new.self ≡ spelling segments = c.in_ok-push_str.ensures.bytes ∙ ap (λ l. l ++ c.args.text.now) c.in_ok-front.ensures.bytes ∙ c.requires in
    elim c.if-not-is_empty.branch [
      | then-not-is_empty+in_ok-push_str-2 w ↦
          let some : 0 < length segments = grind (arith, nat_tests, w.if-not-is_empty.ensures) in
          let slash : string_bytes c.if-not-is_empty.front ≡ spelling segments ++ 47 ∷ [] = ap string_bytes w.front-is ∙ w.in_ok-push_str-2.ensures.bytes ∙ ap (λ l. l ++ 47 ∷ []) copy in
          ap (λ l. l ++ written) slash ∙ append_assoc (spelling segments) (47 ∷ []) written ∙ sym (spelling_more segments new some)
      | else-not-is_empty w ↦
          let none : length segments ≡ 0 = grind (arith, nat_tests, w.if-not-is_empty.ensures) in
          let same : string_bytes c.if-not-is_empty.front ≡ spelling segments = ap string_bytes w.front-is ∙ copy in
          ap (λ l. l ++ written) same ∙ sym (spelling_first segments new none)
    ]
