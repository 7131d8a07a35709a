-- Lists that have one place for each node of a plan.
use Rattle.std.proofs.Common.{◌≡◌, ℕ, ◌<◌, ◌+◌, Bool, List, [], length, map, get_or, sym, ap, ◌∙◌, subst, arith, add-one}
use Rattle.std.proofs.lemmas.List.{length-map, get_or-map}
use Rattle.std.proofs.lemmas.Option.{slice_get-get_or}
use Rattle.descriptor.specs.Nodes.{size, bit, count_below}
use Rattle.descriptor.specs.declared.lock.Lock.{Lock}
use Rattle.descriptor.specs.declared.lock_mode.LockMode.TheVariants.{Read}
use Rattle.resource_locks.specs.Plans.{PlanParts, IsPlan, held_of, number_of, numbers_of, key_number}
use Rattle.resource_locks.specs.Inside.PlanFields.{IsSound}

-- one more node that may be a spare
pub count_next : (q : ℕ → Bool) (n m spares : ℕ) (b : Bool) → spares ≡ count_below q n → q n ≡ b → m ≡ bit b + spares → m ≡ count_below q (n + 1)
count_next q n m spares b e f g = rw add-one (g ∙ ap (λ (x : Bool). bit x + spares) (sym f) ∙ ap (λ (x : ℕ). bit (q n) + x) e)

-- the number of a key that is held
pub number_inside : (p : PlanParts) → IsPlan p → (n place : ℕ) → place < length (held_of p n) → key_number p n place < length p.keys
number_inside p plan n place lt =
    let lock : Lock = get_or (held_of p n) place (record { key = []; mode = Read }) in
    let at = slice_get-get_or (held_of p n) place (record { key = []; mode = Read }) lt in
    subst (λ (x : ℕ). x < length p.keys) (sym (get_or-map (λ (l : Lock). number_of p.keys l.key) (held_of p n) place (record { key = []; mode = Read }) 0 lt)) (plan.numbered n lock.key lock.mode (place, at))

-- the lists of the numbers of keys
module _ {V : Type 0} (items : V → List ℕ) (p : PlanParts) (lists : List V) (sound : IsSound p (map items lists)) where
  pub as_many : length lists ≡ size p.tree
  as_many = sym (length-map lists items) ∙ ap length sound.numbers ∙ length-map p.held (numbers_of p.keys) ∙ sound.plan.held_len

  module _ (n : ℕ) (v : V) (inside : n < size p.tree) (at : v ≡ get_or lists n v) where
    pub at_node : items v ≡ numbers_of p.keys (held_of p n)
    at_node =
        ap items at ∙ sym (get_or-map items lists n v [] (let h = as_many in omega (arith, h, inside))) ∙ ap (λ (l : List (List ℕ)). get_or l n []) sound.numbers
        ∙ get_or-map (numbers_of p.keys) p.held n [] [] (let h = sound.plan.held_len in omega (arith, h, inside))

    pub as_many_at : length (items v) ≡ length (held_of p n)
    as_many_at = ap length at_node ∙ length-map (held_of p n) (λ (l : Lock). number_of p.keys l.key)
