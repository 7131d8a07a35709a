-- What std's reading of a 64-bit number gives for a text of digits.
use Rattle.std.proofs.Common.{◌≡◌, ℕ, ◌<◌, ◌^◌, List, length, true, Result, Err, None, subst, inl, inr, arith}
use Rattle.std.proofs.lemmas.Bool.{cases_lt}
use Rattle.std.specs.Str.Parse.{ParsesUnsigned, digits_value}
use Rattle.std.proofs.lemmas.Str.Parse.{parse_digits}
use Rattle.suite_words.specs.Numbers.{is_number, number_up_to}
use Rattle.suite_words.proofs.Numbers.{own, number_parts}

-- what std does not read is too large
pub unread : {E : Type 0} (ds : List ℕ) (r : Result ℕ E) (e : E) → ParsesUnsigned 64 10 ds r → r ≡ Err e → is_number ds ≡ true → None ≡ number_up_to 18446744073709551615 ds
unread ds r e h is d =
    let parts = number_parts ds d in
    let refused : (0 < length ds) × (digits_value 10 ds < 2 ^ 64) → ⊥ = parse_digits own 64 ds (Err e) (subst (ParsesUnsigned 64 10 ds) is h) parts.1 in
    elim (cases_lt (digits_value 10 ds) (2 ^ 64)) [
      | inl low ↦ absurd (refused (parts.0, low))
      | inr high ↦ grind arith
    ]
