-- The attribute `@slow=MS`: from how many milliseconds on a body is slow.
use Rattle.std.specs.Prelude.{ℕ, ◌==◌, List, codes, Bool, false, if◌then◌else◌, Result, Ok, Err}
use Rattle.std.specs.Str.{bytes_eq}
use Rattle.suite_words.specs.declared.suite.words.Word.{Word}
use Rattle.suite_words.specs.declared.suite.words.Word.TheVariants.{Engine, Class, Test, Factory, Dyn}
use Rattle.suite_words.specs.declared.suite.fault.SuiteFault.{SuiteFault}
use Rattle.suite_words.specs.declared.suite.fault.SuiteFault.TheVariants.{BadLine}
use Rattle.unique_id.specs.Answers.{◌>>=◌}
use Rattle.suite_words.specs.Reading.Spins.{count_of}

-- whether a token of a test, or of a dynamic one, has the key `@slow`
abbrev pub is_slow : Word → List ℕ → Bool
is_slow Engine key = false
is_slow Class key = false
is_slow Test key = bytes_eq key (codes "@slow")
is_slow Factory key = false
is_slow Dyn key = bytes_eq key (codes "@slow")

-- a number that is not zero, else a faulty line
abbrev pub some_or_bad_line : ℕ → ℕ → Result ℕ SuiteFault
some_or_bad_line number n = if n == 0 then Err (BadLine number) else Ok n

-- the milliseconds that a value says: one at least, and at most 86,400,000
abbrev pub limit_of : ℕ → List ℕ → Result ℕ SuiteFault
limit_of number value = count_of number 86400000 value >>= (λ limit. some_or_bad_line number limit)
