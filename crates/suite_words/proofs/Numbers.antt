-- What std's reading of a number gives for a text of digits.
use Rattle.std.proofs.Common.{◌≡◌, ℕ, ◌<◌, ◌≤◌, ◌^◌, List, length, true, Result, Err, None, subst, inl, inr, rules, arith}
use Rattle.std.proofs.lemmas.Bool.{cases_lt}
use Rattle.std.specs.Char.{is_ascii_digit}
use Rattle.std.specs.List.{list_all}
use Rattle.std.specs.Str.Parse.{ParsesUnsigned, digits_value}
use Rattle.std.proofs.lemmas.Str.Parse.{IsNumeralModel, numerals_by_value, parse_digits}
use Rattle.suite_words.specs.Numbers.{is_number, number_up_to}

pub own : IsNumeralModel (λ ds. list_all is_ascii_digit ds ≡ true) (digits_value 10)
own = numerals_by_value _ (search rules)

pub number_parts : (ds : List ℕ) → is_number ds ≡ true → (0 < length ds) × (list_all is_ascii_digit ds ≡ true)
number_parts ds h = (grind arith, grind arith)

-- what std does not read is too large for its type
too_large : {E : Type 0} (bits : ℕ) (ds : List ℕ) (r : Result ℕ E) (e : E) → ParsesUnsigned bits 10 ds r → r ≡ Err e → (0 < length ds) × (list_all is_ascii_digit ds ≡ true) → 2 ^ bits ≤ digits_value 10 ds
too_large bits ds r e h is digits =
    let refused : (0 < length ds) × (digits_value 10 ds < 2 ^ bits) → ⊥ = parse_digits own bits ds (Err e) (subst (ParsesUnsigned bits 10 ds) is h) digits.1 in
    elim (cases_lt (digits_value 10 ds) (2 ^ bits)) [ inl lt ↦ absurd (refused (digits.0, lt)) | inr ge ↦ ge ]

-- and so it is out of range
pub not_up_to : {E : Type 0} (most : ℕ) (ds : List ℕ) (r : Result ℕ E) (e : E) → ParsesUnsigned 32 10 ds r → r ≡ Err e → is_number ds ≡ true → most < 2 ^ 32 → None ≡ number_up_to most ds
not_up_to most ds r e h is d small =
    let large : 2 ^ 32 ≤ digits_value 10 ds = too_large 32 ds r e h is (number_parts ds d) in
    grind arith
