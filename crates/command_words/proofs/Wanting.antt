-- The reports that texts ask for, one text after the other.
use Rattle.std.proofs.Common.{◌≡◌, ◌∙◌, ℕ, ◌+◌, ◌<◌, List, [], ◌∷◌, ◌++◌, length, take, map, get_or, Some, None, refl, sym, ap, append-nil}
use Rattle.std.specs.List.{filter_map}
use Rattle.std.specs.Borrow.{Bor}
use Rattle.std.proofs.lemmas.List.Elements.{filter_map-append}
use Rattle.std.proofs.lemmas.List.{map-append}
use Rattle.launch_options.specs.Given.{Text, behind}
use Rattle.launch_options.specs.ReportTexts.{parts_of, report_in}
use Rattle.launch_options.specs.declared.details.Details.{Details}
use Rattle.launch_options.specs.declared.reports.ReportAsked.{ReportAsked}
use Rattle.launch_options.proofs.Requesting.{behind_take}

module _ (texts : List (Bor Text)) (i : ℕ) (d : Bor Text) (inside : i < length texts) where
  next : List (Details × Text)
  next = filter_map report_in (behind (take i texts)) ++ filter_map report_in ((get_or texts i d).now ∷ [])

  so_far : next ≡ filter_map report_in (behind (take (i + 1) texts))
  unfolding next
  so_far = sym (filter_map-append report_in (behind (take i texts)) ((get_or texts i d).now ∷ [])) ∙ ap (filter_map report_in) (sym (behind_take texts i d inside))

  -- what one text more asks for stands behind what those before ask for
  pub wanted_next : (old new : List ReportAsked) → map parts_of old ≡ filter_map report_in (behind (take i texts)) → map parts_of new ≡ map parts_of old ++ filter_map report_in ((get_or texts i d).now ∷ []) → map parts_of new ≡ filter_map report_in (behind (take (i + 1) texts))
  unfolding next
  wanted_next old new are is = is ∙ ap (λ (l : List (Details × Text)). l ++ filter_map report_in ((get_or texts i d).now ∷ [])) are ∙ so_far

-- a text that asks for one, and one that asks for none
pub added : (old new : List ReportAsked) (asked : ReportAsked) (text : Text) → new ≡ old ++ asked ∷ [] → Some (parts_of asked) ≡ report_in text → map parts_of new ≡ map parts_of old ++ filter_map report_in (text ∷ [])
added old new asked text is asks =
    let last : filter_map report_in (text ∷ []) ≡ parts_of asked ∷ [] = rw (sym asks) refl in
    ap (map parts_of) is ∙ map-append parts_of old (asked ∷ []) ∙ ap (λ (l : List (Details × Text)). map parts_of old ++ l) (sym last)

pub none_added : (old : List ReportAsked) (text : Text) → None ≡ report_in text → map parts_of old ≡ map parts_of old ++ filter_map report_in (text ∷ [])
none_added old text asks =
    let last : filter_map report_in (text ∷ []) ≡ [] = rw (sym asks) refl in
    sym (append-nil (map parts_of old)) ∙ ap (λ (l : List (Details × Text)). map parts_of old ++ l) (sym last)
