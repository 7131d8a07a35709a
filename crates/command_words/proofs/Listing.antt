-- A list of what an iterator gives.
use Rattle.std.proofs.Common.{◌≡◌, List, IfOk, Result, Ok, Err, map, ◌∙◌, sym, vec_items}
use Rattle.std.proofs.lemmas.List.{map-id}
use Rattle.std.specs.Prelude.{Vec}

pub items_are : {A Z E : Type 0} (r : Result (Vec A Z) E) (all : List A) → IfOk r (λ w. map (λ (y : A). y) (vec_items w) ≡ all) → IfOk r (λ w. vec_items w ≡ all)
items_are (Ok w) all is = sym (map-id (vec_items w)) ∙ is
items_are (Err e) all is = tt
