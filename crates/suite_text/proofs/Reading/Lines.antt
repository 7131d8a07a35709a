-- From bytes to a suite or a refusal.
use Rattle.std.proofs.Common.{◌≡◌, ℕ, nat_lt, List, length, Bool, true, false, Option, Err, refl}
use Rattle.std.proofs.lemmas.Str.{IsUtf8-from_is_utf8, is_utf8-from_IsUtf8}
use Rattle.std.specs.Str.{IsUtf8, is_utf8}
use Rattle.suite_words.specs.declared.suite.fault.SuiteFault.TheVariants.{BadLine}
use Rattle.suite_text.specs.Suites.{suite_of}
use Rattle.suite_text.specs.Reading.Bytes.{suite_read, line_of_fault}
use Rattle.suite_words.specs.Limits.{byte_limit}
use Rattle.suite_words.specs.Reading.Bytes.{without_mark}

pub read_text : (most : Option ℕ) (bytes : List ℕ) → nat_lt (byte_limit most) (length bytes) ≡ false → IsUtf8 bytes → suite_read most bytes ≡ suite_of most (without_mark bytes)
read_text most bytes small text = rw (small, is_utf8-from_IsUtf8 bytes text) refl

not_utf8 : (bytes : List ℕ) → ¬ IsUtf8 bytes → (b : Bool) → is_utf8 bytes ≡ b → is_utf8 bytes ≡ false
not_utf8 bytes h true e = absurd (h (IsUtf8-from_is_utf8 bytes e))
not_utf8 bytes h false e = e

pub read_not_text : (most : Option ℕ) (bytes : List ℕ) → nat_lt (byte_limit most) (length bytes) ≡ false → ¬ IsUtf8 bytes → suite_read most bytes ≡ Err (BadLine (line_of_fault bytes))
read_not_text most bytes small text = rw (small, not_utf8 bytes text (is_utf8 bytes) refl) refl
