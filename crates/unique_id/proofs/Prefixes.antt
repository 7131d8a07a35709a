-- When a list of segments begins another.
use Rattle.std.proofs.Common.{◌≡◌, ◌≢◌, ℕ, ◌<◌, ◌≤◌, List, ◌++◌, length, take, drop, get_or, sym, ap, ◌∙◌, arith, length-append}
use Rattle.std.proofs.lemmas.List.{take-append-drop, take_all}
use Rattle.std.proofs.lemmas.List.Prefix.{front_reads}
use Rattle.unique_id.specs.declared.unique_id.Segment.{Segment}
use Rattle.unique_id.specs.Prefixes.{IsPrefix}

pub longer : (xs ys : List Segment) → length ys < length xs → IsPrefix xs ys → ⊥
longer xs ys h (rest, e) = absurd (omega (arith, length-append xs rest, ap length e))

pub differs : (xs ys : List Segment) (i : ℕ) (d : Segment) → i < length xs → get_or xs i d ≢ get_or ys i d → IsPrefix xs ys → ⊥
differs xs ys i d inside apart (rest, e) = apart (sym (front_reads d ys xs rest (sym e) i inside))

pub begins : (xs ys : List Segment) (n : ℕ) → length xs ≤ n → take n xs ≡ take n ys → IsPrefix xs ys
begins xs ys n all same = (drop n ys, ap (λ l. l ++ drop n ys) (sym (take_all n xs all) ∙ same) ∙ take-append-drop n ys)
