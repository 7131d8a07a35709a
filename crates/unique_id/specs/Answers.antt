-- What a call answers, held against the definition of it, whatever its faults are.
use Rattle.std.specs.Prelude.{◌≡◌, ◌≢◌, ℕ, List, map, Result, Ok, Err}
use denote.Ref.{Bor}

-- a second step after a first without a fault
infixl 10 ◌>>=◌
abbrev pub ◌>>=◌ : {A B F : Type 0} → Result A F → (A → Result B F) → Result B F
(Ok x) >>= f = f x
(Err fault) >>= f = Err fault

-- what a call answers, seen by `view`, is what the definition gives
abbrev pub Answers : {X Y F : Type 0} → (X → Y) → Result X F → Result Y F → Type 0
Answers view (Ok x) read = read ≡ Ok (view x)
Answers view (Err fault) read = read ≡ Err fault

-- what a call answers, seen by `view`, is what the definition gives, unless memory ran out, which the fault `no_memory` tells
abbrev pub Gives : {X Y F : Type 0} → F → (X → Y) → Result X F → Result Y F → Type 0
Gives no_memory view (Ok x) read = read ≡ Ok (view x)
Gives no_memory view (Err fault) read = fault ≢ no_memory → read ≡ Err fault

-- the texts that a list of references points to
abbrev pub texts : List (Bor (List ℕ)) → List (List ℕ)
texts xs = map (λ x. x.now) xs
