-- What a push gives that ends a function.
use Rattle.std.specs.Prelude.{◌≡◌, ℕ, List, ◌++◌, if◌then◌else◌, Result, Ok, Err, OnOk}
use Rattle.std.specs.Result.{is_ok}

pub pushed : {T E : Type 0} (r : Result T E) (new old piece : List ℕ) → new ≡ (if is_ok r then old ++ piece else old) → OnOk r (new ≡ old ++ piece)
pushed (Ok x) new old piece is = is
pushed (Err e) new old piece is = tt
