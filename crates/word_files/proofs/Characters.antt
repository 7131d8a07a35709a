-- Reading the characters of a text one after the other.
use Rattle.std.proofs.Common.{◌≡◌, ℕ, List, [], ◌∷◌, ◌++◌, fold, refl, sym, ap, ◌∙◌}
use Rattle.std.proofs.lemmas.List.Sums.{fold-append}
use Rattle.word_files.specs.Places.{next_place}
use Rattle.word_files.specs.Reading.{Read, Text, at_start, read_char, word_after, words_after}
use Rattle.word_files.specs.declared.place.Place.{Place}

-- one character more
pub read_more : (cs : List ℕ) (c : ℕ) (place next : Place) (word longer : Text) (words more : List Text) → record { place = place; word = word; words = words } ≡ fold read_char at_start cs
    → next ≡ next_place place c → longer ≡ word_after place c word → more ≡ words_after place c word words
    → record { place = next; word = longer; words = more } ≡ fold read_char at_start (cs ++ c ∷ [])
read_more cs c place next word longer words more so_far is_next is_longer is_more =
    let whole : Read = record { place = next; word = longer; words = more } in
    let first : Read = record { place = place; word = word; words = words } in
    let step : whole ≡ read_char first c = λ i. record { place = is_next i; word = is_longer i; words = is_more i } in
    step ∙ ap (λ (r : Read). read_char r c) so_far ∙ sym (fold-append read_char at_start cs (c ∷ []))
