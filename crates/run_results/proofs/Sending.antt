-- One more write of what is left.
use Rattle.std.proofs.Common.{ℕ, List, Option, ◌-◌, ◌+◌, ◌≤◌, ◌++◌, length, take, drop, sym, ap, subst, ◌∙◌, arith, length-take}
use Rattle.std.specs.Io.KnownBytes.{Appends}
use Rattle.std.proofs.KnownBytes.{Appends-trans}
use lib.Seq.{take-add, take-take}

pub send_more : (a b c : Option (List ℕ)) (xs : List ℕ) (done n : ℕ) → done ≤ length xs → n ≤ length (take (length xs - done) (drop done xs))
    → Appends a b (take done xs) → Appends b c (take n (take (length xs - done) (drop done xs)))
    → (done + n ≤ length xs) × Appends a c (take (done + n) xs)
send_more a b c xs done n inside fits before now =
    let most = length-take (length xs - done) (drop done xs) in
    let joined = ap (λ l. take done xs ++ l) (take-take n (length xs - done) (drop done xs) (omega arith)) ∙ sym (take-add done n xs) in
    (omega arith, subst (Appends _ _) joined (Appends-trans _ _ _ _ _ before now))
