-- How a property's line of a suite may be written, and what it says.
use Rattle.std.specs.Prelude.{◌≡◌, ◌<◌, ◌⊎◌, ◌==◌, ◌||◌, ℕ, Bool, true, false, List, [], ◌∷◌, ◌++◌, length, codes}
use Rattle.std.specs.List.{AllByRecursion, prefix_len, suffix_len}
use Rattle.config_params.specs.declared.source.Source.TheVariants.{File}
use Rattle.config_params.specs.Pairs.{is_equals_sign, begins_with_sign}
use Rattle.config_params.specs.Parameters.{Parameters, with_value}

-- a space or a tab
abbrev pub is_blank : ℕ → Bool
is_blank byte = byte == 32 || byte == 9

abbrev pub AreBlanks : List ℕ → Type 0
AreBlanks text = AllByRecursion (λ byte. is_blank byte ≡ true) text

-- a text, with what stands before and behind it
pub record Between : Type 0 where
  pub front : List ℕ
  pub text : List ℕ
  pub back : List ℕ

abbrev pub between_text : Between → List ℕ
between_text b = b.front ++ (b.text ++ b.back)

-- it stands between blanks, and neither begins nor ends with one
pub record IsBetween (b : Between) : Type 0 where
  pub front : AreBlanks b.front
  pub back : AreBlanks b.back
  pub begins : prefix_len is_blank b.text ≡ 0
  pub ends : suffix_len is_blank b.text ≡ 0

-- a key is not empty, does not begin as a comment does, and holds no equals sign
pub record IsKey (b : Between) : Type 0 where
  pub between : IsBetween b
  pub some : 0 < length b.text
  pub no_sign : begins_with_sign b.text ≡ false
  pub no_equals : AllByRecursion (λ byte. is_equals_sign byte ≡ false) b.text

-- what a property's line says: a key and its value; or nothing, with a comment or without; or nothing, and the keyword is all of it
pub data Property : Type 0 where
  Sets : (key value : Between) → Property
  Remarks : (front comment : List ℕ) → Property
  Bare : Property

-- what stands behind the keyword
abbrev pub said_text : Property → List ℕ
said_text (Sets key value) = 32 ∷ (between_text key ++ (61 ∷ between_text value))
said_text (Remarks front comment) = 32 ∷ (front ++ comment)
said_text Bare = []

-- the text of its line
abbrev pub property_text : Property → List ℕ
property_text property = codes "property" ++ said_text property

-- it may be written so
abbrev pub IsProperty : Property → Type 0
IsProperty (Sets key value) = IsKey key × IsBetween value
IsProperty (Remarks front comment) = AreBlanks front × ((comment ≡ []) ⊎ ((rest : List ℕ) × (comment ≡ 35 ∷ rest)))
IsProperty Bare = Unit {0}

-- parameters with what it says
abbrev pub said_to : Parameters → Property → Parameters
said_to params (Sets key value) = with_value params File (key.text, value.text)
said_to params (Remarks front comment) = params
said_to params Bare = params
