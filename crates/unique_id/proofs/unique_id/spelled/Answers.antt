-- One more segment is spelled: a slash where a segment stands before, and the segment's spelling.
use Rattle.std.proofs.Common.{◌≡◌, ◌<◌, length, take, ◌+◌, ◌++◌, ◌∷◌, [], ◌∙◌, sym, ap, append_assoc, arith, string_bytes}
use Rattle.std.proofs.lemmas.List.{take_more, length-take-le}
use Rattle.unique_id.specs.Spelling.{spelling, spelled_segment}
use Rattle.unique_id.proofs.Spellings.{spelling_more, spelling_first}
use Rattle.unique_id.proofs.unique_id.spelled.Goals.{then-index-gt0+in_ok-push_str, else-index-gt0}
use Rattle.unique_id.proofs.unique_id.spelled.Goals as goal

pub loop-index-preserved : goal.loop-index-preserved
loop-index-preserved c =
    let segments = c.args.segments.now in
    let i = c.loop-index.index in
    let s = c.index-segments-index.result in
    let inside : i < length segments = omega arith in
    let written = spelled_segment s.kind s.value in
    let count : length (take i segments) ≡ i = length-take-le i segments (omega arith) in
    let more : take (i + 1) segments ≡ take i segments ++ s ∷ [] = take_more segments i s inside ∙ ap (λ x. take i segments ++ x ∷ []) (sym c.index-segments-index.is) in
    let parts : spelled_segment c.kind.result.now c.value.result.now ≡ written =
    ap (λ k. spelled_segment k c.value.result.now) c.kind.ensures ∙ ap (λ v. spelled_segment s.kind v) c.value.ensures in
    let pushed : string_bytes c.push_segment.new.text ≡ string_bytes c.if-index-gt0.text ++ written = c.in_ok-push_segment.ensures ∙ ap (λ l. string_bytes c.if-index-gt0.text ++ l) parts in
    elim c.if-index-gt0.branch [
      | then-index-gt0+in_ok-push_str w ↦
          let some : 0 < length (take i segments) = omega (arith, w.if-index-gt0) in
          let before : string_bytes c.if-index-gt0.text ≡ spelling (take i segments) ++ 47 ∷ [] = ap string_bytes w.text-is ∙ w.in_ok-push_str.ensures.bytes ∙ ap (λ l. l ++ 47 ∷ []) c.loop-index.invariant in
          pushed ∙ ap (λ l. l ++ written) before ∙ append_assoc (spelling (take i segments)) (47 ∷ []) written ∙ sym (spelling_more (take i segments) s some) ∙ ap spelling (sym more)
      | else-index-gt0 w ↦
          let none : length (take i segments) ≡ 0 = omega (arith, w.if-index-gt0) in
          let before : string_bytes c.if-index-gt0.text ≡ spelling (take i segments) = ap string_bytes w.text-is ∙ c.loop-index.invariant in
          pushed ∙ ap (λ l. l ++ written) before ∙ sym (spelling_first (take i segments) s none) ∙ ap spelling (sym more)
    ]
