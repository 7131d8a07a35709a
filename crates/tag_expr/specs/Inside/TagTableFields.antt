-- What the fields of a table of tags keep, which only proofs need.
use Rattle.std.specs.Prelude.{◌≡◌, ℕ, List, String}
use Rattle.std.specs.Global.{Global}
use Rattle.std.specs.HashSet.{HashSet, contains_text}
use Rattle.tag_expr.specs.TagSets.{has_tag}

-- the texts are those of the tags
abbrev pub HasTexts : {S : Type 0} → List (List ℕ) → HashSet (String Global) S → Type 0
HasTexts tags texts = (text : List ℕ) → contains_text texts text ≡ has_tag tags text
