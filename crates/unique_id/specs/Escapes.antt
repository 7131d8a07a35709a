-- What a percent escape stands for.
use Rattle.std.specs.Prelude.{ℕ, ◌+◌, ◌-◌, ◌*◌, ◌&&◌, nat_le, cond, Option, Some, None, option_map, option_and_then}

-- the value of a hexadecimal digit, in either case: 0 to 9 (48 to 57), A to F (65 to 70), a to f (97 to 102)
abbrev pub digit_of : ℕ → Option ℕ
digit_of b =
    cond (nat_le 48 b && nat_le b 57) (Some (b - 48)) (
    cond (nat_le 65 b && nat_le b 70) (Some (b - 55)) (
    cond (nat_le 97 b && nat_le b 102) (Some (b - 87)) None))

-- the byte that two hexadecimal digits stand for
abbrev pub byte_of : ℕ → ℕ → Option ℕ
byte_of high low = option_and_then (λ h. option_map (λ l. 16 * h + l) (digit_of low)) (digit_of high)
