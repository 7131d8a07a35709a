-- Each key that is held has a number.
use Rattle.std.proofs.Common.{◌≡◌, ℕ, suc, ◌+◌, ◌<◌, Bool, true, false, not, cond, ◌||◌, List, [], ◌∷◌, length, inl, inr, sym, subst, arith}
use Rattle.std.specs.List.{list_any, position_or_len}
use Rattle.std.specs.Str.{bytes_eq}
use Rattle.std.proofs.lemmas.Bool.{false≢true}
use Rattle.descriptor.specs.Nodes.{size}
use Rattle.descriptor.specs.declared.lock_mode.LockMode.{LockMode}
use Rattle.resource_locks.specs.Declarations.{Declared, IsLockTree, DeclaredWithin, IsToHold, isolated_all, global_read, first}
use Rattle.resource_locks.specs.Plans.{number_of}
use Rattle.resource_locks.specs.Keys.{keys_of}
use Rattle.resource_locks.proofs.Guarded.{no_lock}
use Rattle.resource_locks.proofs.NamedLocks.{Has, declared_has, global_has}

-- a key that a list has has a number there
place_inside : {X : Type 0} (p : X → Bool) (xs : List X) → list_any p xs ≡ true → position_or_len p xs < length xs
place_inside p [] h = absurd (false≢true h)
place_inside p (x ∷ xs) h = by (p x) (list_any p xs) (position_or_len p xs) (length xs) h (λ later. place_inside p xs later)
  where
    by : (b rest : Bool) (n many : ℕ) → (b || rest) ≡ true → (rest ≡ true → n < many) → cond (not b) (1 + n) 0 < suc many
    by true rest n many e more = omega arith
    by false rest n many e more = let lt = more e in omega (arith, lt)

module _ (d : Declared) (tree : IsLockTree d) where
  within_has : (n : ℕ) (key : List ℕ) (mode : LockMode) → DeclaredWithin d n key mode → Has (keys_of d) key
  within_has n key mode w = declared_has d (size d.tree) w.0 key mode (tree.locked w.0 (no_lock key mode (d.locks w.0) w.1.1)).inside w.1.1

  to_hold_has : (n : ℕ) (key : List ℕ) (mode : LockMode) → IsToHold d n key mode → Has (keys_of d) key
  to_hold_has n key mode (isolated_all top isolated (inl r)) = subst (Has (keys_of d)) (sym r.0) (global_has d (size d.tree))
  to_hold_has n key mode (isolated_all top isolated (inr w)) = within_has n key mode w
  to_hold_has n key mode (global_read top light e m) = subst (Has (keys_of d)) (sym e) (global_has d (size d.tree))
  to_hold_has n key mode (first c top light at is_first w) = within_has n key mode w

  pub to_hold_numbered : (n : ℕ) (key : List ℕ) (mode : LockMode) → IsToHold d n key mode → number_of (keys_of d) key < length (keys_of d)
  to_hold_numbered n key mode h = place_inside (bytes_eq key) (keys_of d) (to_hold_has n key mode h)
