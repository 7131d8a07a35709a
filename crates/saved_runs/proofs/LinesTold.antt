-- What one line more tells, and the first that tells nothing.
use Rattle.std.proofs.Common.{◌≡◌, ℕ, ◌+◌, ◌<◌, List, [], ◌∷◌, ◌++◌, length, take, map, get_or, Some, None, Bor, sym, ap, ap₂, ◌∙◌}
use Rattle.std.specs.Option.{option_map}
use Rattle.std.proofs.lemmas.List.{take-map, take_more, map-append}
use Rattle.std.proofs.lemmas.Option.{slice_get-map, slice_get-get_or}
use Rattle.unique_id.specs.Answers.{texts}
use Rattle.saved_runs.specs.Lines.{line_told, Tell, IsFirstBad}
use Rattle.saved_runs.specs.declared.told.Told.{Told}

next_text : (lines : List (Bor (List ℕ))) (i : ℕ) (d : Bor (List ℕ)) → i < length lines → take (i + 1) (texts lines) ≡ take i (texts lines) ++ (get_or lines i d).now ∷ []
next_text lines i d inside =
    let now : Bor (List ℕ) → List ℕ = λ x. x.now in
    take-map now (i + 1) lines ∙ ap texts (take_more lines i d inside) ∙ map-append now (take i lines) (get_or lines i d ∷ []) ∙ ap (λ l. l ++ (get_or lines i d).now ∷ []) (sym (take-map now i lines))

pub one_more : (lines : List (Bor (List ℕ))) (i : ℕ) (d : Bor (List ℕ)) (told : List Told) (one : Told) → i < length lines → Tell (take i (texts lines)) told → Some one ≡ line_told (get_or lines i d).now
    → Tell (take (i + 1) (texts lines)) (told ++ one ∷ [])
one_more lines i d told one inside h is =
    ap (map line_told) (next_text lines i d inside) ∙ map-append line_told (take i (texts lines)) ((get_or lines i d).now ∷ [])
    ∙ ap₂ (λ a b. a ++ b ∷ []) h (sym is) ∙ sym (map-append (λ t. Some t) told (one ∷ []))

pub first_bad : (lines : List (Bor (List ℕ))) (i : ℕ) (d : Bor (List ℕ)) (told : List Told) (number : ℕ) → i < length lines → Tell (take i (texts lines)) told → None ≡ line_told (get_or lines i d).now → number ≡ i + 1
    → IsFirstBad number (texts lines)
first_bad lines i d told number inside h is same =
    let now : Bor (List ℕ) → List ℕ = λ x. x.now in
    record {
      place = i;
      number_is = same;
      bad = slice_get-map line_told (texts lines) i ∙ ap (option_map line_told) (slice_get-map now lines i ∙ ap (option_map now) (slice_get-get_or lines i d inside)) ∙ ap (λ o. Some o) (sym is);
      before = (told, h);
    }
