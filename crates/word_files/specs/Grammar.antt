-- How arguments are written in a text: what stands for each, by the grammar of the README.
use Rattle.std.specs.Prelude.{◌≡◌, ℕ, ◌==◌, true, false, List, [], ◌∷◌, ◌++◌, encode_utf8}
use Rattle.std.specs.List.{AllByRecursion, flat_map}
use Rattle.word_files.specs.Places.{is_white}
use Rattle.word_files.specs.Reading.{Text}

-- a character between two ": as it is, or behind a backslash
pub data Quoted : Type 0 where
  Bare : ℕ → Quoted
  Backslashed : ℕ → Quoted

-- a part of an argument: a character as it is, one behind a backslash, characters between two ', or between two "
pub data Part : Type 0 where
  Alone : ℕ → Part
  Behind : ℕ → Part
  Single : List ℕ → Part
  Double : List Quoted → Part

-- what stands one behind the other in a text: white space; a comment, with the end of its line; an argument, of a first part and of others,
-- with the white space that ends it
pub data Item : Type 0 where
  White : ℕ → Item
  Remark : List ℕ → Item
  Whole : (first : Part) → (others : List Part) → (white : ℕ) → Item

-- what stands at the end of a text: nothing, or a comment or an argument that the end ends
pub data End : Type 0 where
  NoMore : End
  LastRemark : List ℕ → End
  LastWord : (first : Part) → (others : List Part) → End

-- the characters between two ", and those of an argument that they are
abbrev pub quoted_chars : Quoted → List ℕ
quoted_chars (Bare c) = c ∷ []
quoted_chars (Backslashed c) = 92 ∷ c ∷ []

abbrev pub quoted_text : Quoted → Text
quoted_text (Bare c) = encode_utf8 c
quoted_text (Backslashed c) = encode_utf8 c

-- the characters of a part, and those of an argument that it is
abbrev pub part_chars : Part → List ℕ
part_chars (Alone c) = c ∷ []
part_chars (Behind c) = 92 ∷ c ∷ []
part_chars (Single cs) = 39 ∷ (cs ++ 39 ∷ [])
part_chars (Double qs) = 34 ∷ (flat_map quoted_chars qs ++ 34 ∷ [])

abbrev pub part_text : Part → Text
part_text (Alone c) = encode_utf8 c
part_text (Behind c) = encode_utf8 c
part_text (Single cs) = flat_map encode_utf8 cs
part_text (Double qs) = flat_map quoted_text qs

-- the characters of an item, and its arguments
abbrev pub item_chars : Item → List ℕ
item_chars (White c) = c ∷ []
item_chars (Remark cs) = 35 ∷ (cs ++ 10 ∷ [])
item_chars (Whole first others white) = (part_chars first ++ flat_map part_chars others) ++ white ∷ []

abbrev pub item_words : Item → List Text
item_words (White c) = []
item_words (Remark cs) = []
item_words (Whole first others white) = (part_text first ++ flat_map part_text others) ∷ []

-- the characters of an end, and its arguments
abbrev pub end_chars : End → List ℕ
end_chars NoMore = []
end_chars (LastRemark cs) = 35 ∷ cs
end_chars (LastWord first others) = part_chars first ++ flat_map part_chars others

abbrev pub end_words : End → List Text
end_words NoMore = []
end_words (LastRemark cs) = []
end_words (LastWord first others) = (part_text first ++ flat_map part_text others) ∷ []

-- between two " a character as it is is neither a " nor a backslash
abbrev pub IsQuoted : Quoted → Type 0
IsQuoted (Bare c) = ((c == 34) ≡ false) × ((c == 92) ≡ false)
IsQuoted (Backslashed c) = Unit {0}

-- outside quotes a character as it is is no white space, no quote and no backslash; between two ' there is none
abbrev pub IsPart : Part → Type 0
IsPart (Alone c) = (is_white c ≡ false) × ((c == 39) ≡ false) × ((c == 34) ≡ false) × ((c == 92) ≡ false)
IsPart (Behind c) = Unit {0}
IsPart (Single cs) = AllByRecursion (λ c. (c == 39) ≡ false) cs
IsPart (Double qs) = AllByRecursion IsQuoted qs

-- an argument does not begin with a # as it is
abbrev pub IsFirst : Part → Type 0
IsFirst (Alone c) = (c == 35) ≡ false
IsFirst part = Unit {0}

abbrev pub IsWord : Part → List Part → Type 0
IsWord first others = IsPart first × IsFirst first × AllByRecursion IsPart others

-- no line ends in a comment
abbrev pub IsRemark : List ℕ → Type 0
IsRemark cs = AllByRecursion (λ c. (c == 10) ≡ false) cs

abbrev pub IsItem : Item → Type 0
IsItem (White c) = is_white c ≡ true
IsItem (Remark cs) = IsRemark cs
IsItem (Whole first others white) = IsWord first others × (is_white white ≡ true)

abbrev pub IsEnd : End → Type 0
IsEnd NoMore = Unit {0}
IsEnd (LastRemark cs) = IsRemark cs
IsEnd (LastWord first others) = IsWord first others

-- the characters of these items and of this end, and their arguments
abbrev pub written : List Item → End → List ℕ
written items end = flat_map item_chars items ++ end_chars end

abbrev pub words_written : List Item → End → List Text
words_written items end = flat_map item_words items ++ end_words end

-- these characters are written by the grammar, and stand for these arguments
pub record IsWritten (cs : List ℕ) (words : List Text) : Type 0 where
  pub items : List Item
  pub end : End
  pub are_items : AllByRecursion IsItem items
  pub is_end : IsEnd end
  pub same : cs ≡ written items end
  pub stand_for : words ≡ words_written items end
