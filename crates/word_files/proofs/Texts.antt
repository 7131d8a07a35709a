-- Lists of arguments, and their texts.
use Rattle.std.proofs.Common.{◌≡◌, ℕ, ◌+◌, ◌<◌, List, [], ◌∷◌, ◌++◌, length, take, get_or, map, IfOk, Result, Ok, Err, refl, sym, ap, ◌∙◌}
use Rattle.std.proofs.lemmas.List.{take_more, map-append}
use Rattle.std.specs.List.{flat_map, join_by}
use Rattle.word_files.specs.Reading.{Text}

module _ {X : Type 0} (text : X → Text) where
  -- one argument more
  pub texts_more : (words : List X) (i : ℕ) (d : X) → i < length words → map text (take (i + 1) words) ≡ map text (take i words) ++ text (get_or words i d) ∷ []
  texts_more words i d inside = ap (map text) (take_more words i d inside) ∙ map-append text (take i words) (get_or words i d ∷ [])

  others_joined : (blank : Text) (words : List X) → flat_map (λ word. blank ++ text word) words ≡ flat_map (λ (word : Text). blank ++ word) (map text words)
  others_joined blank [] = refl
  others_joined blank (word ∷ more) = ap (λ rest. (blank ++ text word) ++ rest) (others_joined blank more)

  -- arguments are joined as their texts are
  pub texts_joined : (blank : Text) (words : List X) → join_by text blank words ≡ join_by (λ (word : Text). word) blank (map text words)
  texts_joined blank [] = refl
  texts_joined blank (word ∷ more) = ap (λ rest. text word ++ rest) (others_joined blank more)

-- what is said of all that may be read
pub if_read : {T E : Type 0} {P Q : T → Type 0} (result : Result T E) → IfOk result P → ((read : T) → P read → Q read) → IfOk result Q
if_read (Ok read) is gives = gives read is
if_read (Err error) is gives = tt
