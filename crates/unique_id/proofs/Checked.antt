-- What the bytes of a part are refused for.
use Rattle.std.proofs.Common.{◌≡◌, ℕ, ◌<◌, ◌==◌, Bool, true, false, List, length, Result, Ok, Err, refl, ap, sym, arith}
use Rattle.std.proofs.lemmas.Bool.Decides.{nat_tests}
use Rattle.std.proofs.lemmas.Str.{IsUtf8-from_is_utf8, is_utf8-from_IsUtf8}
use Rattle.std.specs.Prelude.{is_ok, MatchResult}
use Rattle.std.specs.Str.{IsUtf8, is_utf8}
use Rattle.unique_id.specs.Reading.{checked}

some_bytes : (bytes : List ℕ) → 0 < length bytes → (length bytes == 0) ≡ false
some_bytes bytes h = grind (arith, nat_tests)

not_text : (bytes : List ℕ) → ¬ IsUtf8 bytes → (b : Bool) → is_utf8 bytes ≡ b → is_utf8 bytes ≡ false
not_text bytes h true e = absurd (h (IsUtf8-from_is_utf8 bytes e))
not_text bytes h false e = e

pub text_checked : (place : ℕ) (written bytes text : List ℕ) → 0 < length bytes → IsUtf8 bytes → text ≡ bytes → checked place written bytes ≡ Ok text
text_checked place written bytes text some utf8 same = rw (some_bytes bytes some, is_utf8-from_IsUtf8 bytes utf8) (ap Ok (sym same))

-- a reading of bytes as text tells whether they are one
pub text_told : {X E : Type 0} (r : Result X E) (bytes : List ℕ) (P : X → Type 0) (Q : E → Type 0) → MatchResult r (λ s. P s × IsUtf8 bytes) (λ e. (¬ IsUtf8 bytes) × Q e) → is_ok r ≡ is_utf8 bytes
text_told (Ok s) bytes P Q h = sym (is_utf8-from_IsUtf8 bytes h.1)
text_told (Err e) bytes P Q h = sym (not_text bytes h.0 (is_utf8 bytes) refl)
