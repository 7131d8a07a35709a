-- Numbers in decimal.
use Rattle.std.specs.Prelude.{ℕ, ◌&&◌, nat_lt, nat_le, List, length, Bool, if◌then◌else◌, Option, Some, None}
use Rattle.std.specs.Char.{is_ascii_digit}
use Rattle.std.specs.List.{list_all}
use Rattle.std.specs.Str.Parse.{digits_value}

-- a number: one ASCII digit or more, with no sign; zeros may stand in front
abbrev pub is_number : List ℕ → Bool
is_number digits = nat_lt 0 (length digits) && list_all is_ascii_digit digits

-- the number of these digits, up to the most
abbrev pub number_up_to : ℕ → List ℕ → Option ℕ
number_up_to most digits = if is_number digits && nat_le (digits_value 10 digits) most then Some (digits_value 10 digits) else None
