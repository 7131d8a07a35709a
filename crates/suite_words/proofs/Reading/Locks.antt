-- The end of a lock's value, and the lock that it names.
use Rattle.std.proofs.Common.{◌≡◌, ◌≢◌, ℕ, List, ◌++◌, Bool, true, false, codes, refl}
use Rattle.std.proofs.lemmas.Bool.Decides.{Decides-eqb}
use Rattle.std.proofs.lemmas.Slice.Eq.{ends_is}
use Rattle.descriptor.specs.declared.lock_mode.LockMode.TheVariants.{ReadWrite}
use Rattle.suite_words.specs.Reading.Locks.{ends_in, lock_of}

-- a text that ends so, and one that does not
pub ends : (text front end : List ℕ) → text ≡ front ++ end → ends_in text end ≡ true
ends text front end e = (ends_is Decides-eqb text end _ refl).1 front e

pub ends_not : (text end : List ℕ) → ((front : List ℕ) → text ≢ front ++ end) → ends_in text end ≡ false
ends_not text end h = by (ends_in text end) refl
  where
    by : (b : Bool) → ends_in text end ≡ b → ends_in text end ≡ false
    by true e = absurd (h _ ((ends_is Decides-eqb text end _ refl).0 e))
    by false e = e

-- a value without a mode
pub plain_is : (value : List ℕ) → ((front : List ℕ) → value ≢ front ++ codes ":r") → ((front : List ℕ) → value ≢ front ++ codes ":rw") → record { key = value; mode = ReadWrite } ≡ lock_of value
plain_is value h k = rw (ends_not value (codes ":r") h, ends_not value (codes ":rw") k) refl
