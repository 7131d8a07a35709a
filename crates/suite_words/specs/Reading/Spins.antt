-- Attributes that say a number, and among them `spin=N`: how far a body counts first.
use Rattle.std.specs.Prelude.{ℕ, ◌==◌, List, codes, Bool, false, Option, Some, None, Result, Ok, Err}
use Rattle.std.specs.List.{before_first, after_first}
use Rattle.std.specs.Str.{bytes_eq}
use Rattle.suite_words.specs.Numbers.{number_up_to}
use Rattle.suite_words.specs.declared.suite.words.Word.{Word}
use Rattle.suite_words.specs.declared.suite.words.Word.TheVariants.{Engine, Class, Test, Factory, Dyn}
use Rattle.suite_words.specs.declared.suite.fault.SuiteFault.{SuiteFault}
use Rattle.suite_words.specs.declared.suite.fault.SuiteFault.TheVariants.{BadLine}

abbrev pub is_equals_sign : ℕ → Bool
is_equals_sign byte = byte == 61

-- a token up to its first equals sign
abbrev pub key_of : List ℕ → List ℕ
key_of word = before_first is_equals_sign word

-- and what follows that sign
abbrev pub value_of : List ℕ → List ℕ
value_of word = after_first is_equals_sign word

-- whether a token of a test, or of a dynamic one, has the key `spin`
abbrev pub is_spin : Word → List ℕ → Bool
is_spin Engine key = false
is_spin Class key = false
is_spin Test key = bytes_eq key (codes "spin")
is_spin Factory key = false
is_spin Dyn key = bytes_eq key (codes "spin")

-- a number that is there, else a faulty line
abbrev pub or_bad_line : ℕ → Option ℕ → Result ℕ SuiteFault
or_bad_line number None = Err (BadLine number)
or_bad_line number (Some n) = Ok n

-- the number that a value says, up to the most
abbrev pub count_of : ℕ → ℕ → List ℕ → Result ℕ SuiteFault
count_of number most value = or_bad_line number (number_up_to most value)
