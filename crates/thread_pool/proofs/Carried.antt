-- What is so of one of two that are the same is so of the other; and the event that was read last stands at the end.
use Rattle.std.proofs.Common.{◌≡◌, List, [], ◌∷◌, ◌++◌, length, Some, refl, sym, subst, slice_get}
use Rattle.plan_events.specs.declared.event.Event.{Event}

-- the same of what is the same
pub carried : {A : Type 0} {a b : A} → b ≡ a → (P : A → Type 0) → P a → P b
carried same P p = subst P (sym same) p

pub last_stands : (xs : List Event) (x : Event) → slice_get (xs ++ x ∷ []) (length xs) ≡ Some x
last_stands [] x = refl
last_stands (y ∷ ys) x = last_stands ys x
