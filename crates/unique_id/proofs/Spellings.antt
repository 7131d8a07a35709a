-- The spelling of one more segment.
use Rattle.std.proofs.Common.{◌≡◌, ◌<◌, List, [], ◌∷◌, ◌++◌, length, refl, ap, sym, ◌∙◌, append_assoc, arith}
use Rattle.unique_id.specs.declared.unique_id.Segment.{Segment}
use Rattle.unique_id.specs.Spelling.{spelling, spelled_segment}

more : (x : Segment) (xs : List Segment) (s : Segment) → spelling ((x ∷ xs) ++ s ∷ []) ≡ spelling (x ∷ xs) ++ 47 ∷ spelled_segment s.kind s.value
more x [] s = refl
more x (y ∷ xs) s =
    ap (λ l. spelled_segment x.kind x.value ++ 47 ∷ l) (more y xs s)
    ∙ sym (append_assoc (spelled_segment x.kind x.value) (47 ∷ spelling (y ∷ xs)) (47 ∷ spelled_segment s.kind s.value))

pub spelling_more : (xs : List Segment) (s : Segment) → 0 < length xs → spelling (xs ++ s ∷ []) ≡ spelling xs ++ 47 ∷ spelled_segment s.kind s.value
spelling_more [] s h = absurd (omega arith)
spelling_more (x ∷ xs) s h = more x xs s

pub spelling_first : (xs : List Segment) (s : Segment) → length xs ≡ 0 → spelling (xs ++ s ∷ []) ≡ spelling xs ++ spelled_segment s.kind s.value
spelling_first [] s h = refl
spelling_first (x ∷ xs) s h = absurd (omega arith)
