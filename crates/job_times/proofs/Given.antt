-- What holds of a result's value holds of the option that is made of it.
use Rattle.std.proofs.Common.{◌≡◌, Result, Ok, Err, IfOk, Option, IfSome, sym, subst}
use Rattle.std.specs.Result.{result_ok}

pub given : {X E : Type 0} (r : Result X E) (o : Option X) (P : X → Type 0) → o ≡ result_ok r → IfOk r P → IfSome o P
given {X} {E} (Ok x) o P is holds = subst (λ (v : Option X). IfSome v P) (sym is) holds
given {X} {E} (Err e) o P is holds = subst (λ (v : Option X). IfSome v P) (sym is) tt
