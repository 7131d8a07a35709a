-- What an argument `KEY=VALUE`, and a line of a text of properties, says.
use Rattle.std.specs.Prelude.{ℕ, ◌==◌, ◌||◌, not, Bool, false, List, [], ◌∷◌, length, if◌then◌else◌, Option, None, Some, Result, Ok, Err}
use Rattle.std.specs.List.{list_any, before_first, after_first}
use Rattle.config_params.specs.declared.blanks.Blanks.TheVariants.{SpacesAndTabs}
use Rattle.config_params.specs.declared.fault.ParamsFault.{ParamsFault}
use Rattle.config_params.specs.declared.fault.ParamsFault.TheVariants.{NoEquals, EmptyKey}
use Rattle.config_params.specs.declared.pair.Pair as code
use Rattle.config_params.specs.Blanks.{without_front, without_ends}

-- a key and its value
abbrev pub Pair : Type 0
Pair = List ℕ × List ℕ

-- a pair, without where its texts lie in memory
abbrev pub texts_of : code.Pair → Pair
texts_of pair = (pair.key.now, pair.value.now)

abbrev pub is_equals_sign : ℕ → Bool
is_equals_sign byte = byte == 61

-- what stands before the first equals sign, without spaces and tabs round it
abbrev pub key_of : List ℕ → List ℕ
key_of word = without_ends SpacesAndTabs (before_first is_equals_sign word)

-- what follows that sign, without spaces and tabs round it
abbrev pub value_of : List ℕ → List ℕ
value_of word = without_ends SpacesAndTabs (after_first is_equals_sign word)

-- the pair that the argument or line of this number says
abbrev pub pair_of : ℕ → List ℕ → Result Pair ParamsFault
pair_of number word =
    if not (list_any is_equals_sign word) then Err (NoEquals number)
    else (if length (key_of word) == 0 then Err (EmptyKey number) else Ok (key_of word, value_of word))

-- whether the first character is a number sign
abbrev pub begins_with_sign : List ℕ → Bool
begins_with_sign [] = false
begins_with_sign (byte ∷ bytes) = byte == 35

-- whether a line is passed over: it is blank, or a comment
abbrev pub says_nothing : List ℕ → Bool
says_nothing line = length (without_front SpacesAndTabs line) == 0 || begins_with_sign (without_front SpacesAndTabs line)

-- the pair that a line says, where it is not passed over
abbrev pub said : Result Pair ParamsFault → Result (Option Pair) ParamsFault
said (Ok pair) = Ok (Some pair)
said (Err fault) = Err fault

-- what the line of this number says: nothing where it is passed over, else its pair
abbrev pub property_of : ℕ → List ℕ → Result (Option Pair) ParamsFault
property_of number line = if says_nothing line then Ok None else said (pair_of number line)
