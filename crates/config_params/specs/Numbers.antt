-- The numbers of configuration values.
use Rattle.std.specs.Prelude.{ℕ, ◌+◌, ◌-◌, ◌*◌, ◌^◌, ◌==◌, ◌&&◌, ◌||◌, nat_lt, nat_le, not, Bool, List, length, if◌then◌else◌, Option, None, Some}
use Rattle.std.specs.Char.{is_ascii_digit}
use Rattle.std.specs.List.{list_all, list_any, before_first, after_first}
use Rattle.std.specs.Str.Parse.{digits_value}

-- whether a text is one to so many ASCII digits
abbrev pub is_number : ℕ → List ℕ → Bool
is_number most text = nat_lt 0 (length text) && nat_le (length text) most && list_all is_ascii_digit text

-- a number that is not zero
abbrev pub unless_zero : ℕ → Option ℕ
unless_zero n = if n == 0 then None else Some n

-- the number of workers that a text gives: 1 to 9 digits, not zero
abbrev pub parallelism_in : List ℕ → Option ℕ
parallelism_in text = if is_number 9 text then unless_zero (digits_value 10 text) else None

-- a number from 1 to the most
abbrev pub from_one : ℕ → ℕ → Option ℕ
from_one most n = if n == 0 || nat_lt most n then None else Some n

-- the milliseconds that a text gives: 1 to 8 digits, not zero, at most 86,400,000
abbrev pub limit_in : List ℕ → Option ℕ
limit_in text = if is_number 8 text then from_one 86400000 (digits_value 10 text) else None

-- how many holders of a lock a text allows: 1 or 2 digits, not zero, at most 64
abbrev pub holders_in : List ℕ → Option ℕ
holders_in text = if is_number 2 text then from_one 64 (digits_value 10 text) else None

abbrev pub is_point : ℕ → Bool
is_point byte = byte == 46

abbrev pub whole_of : List ℕ → List ℕ
whole_of text = before_first is_point text

abbrev pub decimals_of : List ℕ → List ℕ
decimals_of text = after_first is_point text

-- whether a text is 1 to 6 digits, and then perhaps a point and 1 to 4 digits
abbrev pub is_factor : List ℕ → Bool
is_factor text = is_number 6 (whole_of text) && (not (list_any is_point text) || is_number 4 (decimals_of text))

-- the factor that a text gives, in ten-thousandths, not zero
abbrev pub factor_in : List ℕ → Option ℕ
factor_in text =
    if is_factor text then unless_zero (digits_value 10 (whole_of text) * 10000 + digits_value 10 (decimals_of text) * 10 ^ (4 - length (decimals_of text)))
    else None
