-- The marks of the workers that have no seat yet: one of them less.
use Rattle.std.proofs.Common.{◌≡◌, ℕ, zero, suc, ◌+◌, ◌-◌, ◌<◌, List, [], ◌∷◌, ◌++◌, length, replicate, refl, sym, ap, ◌∙◌, arith}
use Rattle.std.proofs.lemmas.List.{length-append, length-replicate}

-- the last of a list that has one value alone is that value, and so are the others
pub taken_last : {X : Type 0} (n : ℕ) (x y : X) (l : List X) → replicate n x ≡ l ++ y ∷ [] → (y ≡ x) × (l ≡ replicate (length l) x)
taken_last zero x y [] e = absurd (cc)
taken_last (suc n) x y [] e = (let same : x ≡ y = cc in sym same, refl)
taken_last zero x y (z ∷ l) e = absurd (cc)
taken_last (suc n) x y (z ∷ l) e =
    let first : x ≡ z = cc in
    let rest : replicate n x ≡ l ++ y ∷ [] = cc in
    let others = taken_last n x y l rest in
    (others.0, ap (λ head. head ∷ l) (sym first) ∙ ap (λ tail. x ∷ tail) others.1)

pub one_taken : {X : Type 0} (many dealt : ℕ) (x y : X) (old new : List X) → dealt < many → old ≡ replicate (many - dealt) x → old ≡ new ++ y ∷ [] → (y ≡ x) × (new ≡ replicate (many - (dealt + 1)) x)
one_taken many dealt x y old new low were are =
    let taken = taken_last (many - dealt) x y new (sym were ∙ are) in
    let long : length new ≡ many - (dealt + 1) =
    (let whole = ap (λ l. length l) are ∙ length-append new (y ∷ []) in
    let before = ap (λ l. length l) were ∙ length-replicate (many - dealt) x in
    omega (arith, low, whole, before)) in
    (taken.0, taken.1 ∙ ap (λ n. replicate n x) long)
