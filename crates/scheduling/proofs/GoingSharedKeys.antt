-- The keys of a plan as the only worker meets them: a node has each key once, and of a key that a node and one below it hold, both read.
use Rattle.std.proofs.Common.{◌≡◌, ℕ, ◌<◌, List, length, sym, ap, ◌∙◌, subst}
use Rattle.descriptor.specs.Nodes.{Below}
use Rattle.descriptor.specs.declared.lock_mode.LockMode.TheVariants.{Read}
use Rattle.resource_locks.specs.Plans.{PlanParts, IsPlan, held_of, limit_of, limit_for}
use Rattle.resource_locks.specs.Declarations.{global}
use Rattle.resource_locks.specs.Wants.{HasLock}
use Rattle.scheduling.specs.Choices.{lock_of, key_place, key_at, mode_at, limit_at, keys_count}
use Rattle.resource_locks.proofs.Numbering.{same_number}
use Rattle.scheduling.proofs.KeysOnce.{own_key, key_placed, key_once as placed_once}

module _ (p : PlanParts) (plan : IsPlan p) where
  pub has_lock : (n i : ℕ) → i < keys_count p n → HasLock (held_of p n) (lock_of p n i).key (mode_at p n i)
  has_lock n i lt = (i, own_key p n i lt)

  pub key_inside : (n i : ℕ) → i < keys_count p n → key_at p n i < length p.keys
  key_inside n i lt = key_placed p n i plan lt

  pub one_key : (m n i j : ℕ) → i < keys_count p m → key_at p m i ≡ key_at p n j → (lock_of p m i).key ≡ (lock_of p n j).key
  unfolding key_place
  one_key m n i j lt e = (let inside = key_inside m i lt in same_number p.keys (lock_of p m i).key (lock_of p n j).key inside (subst (λ (k : ℕ). k < length p.keys) e inside) e)

  -- a node has each key once
  pub key_once : (n i j : ℕ) → i < j → j < keys_count p n → key_at p n i ≡ key_at p n j → ⊥
  key_once n i j less lt e = placed_once p n i j plan less lt e

  -- of a key that a node and one below it hold, both read
  pub both_read : (a n i j : ℕ) → Below p.tree a n → i < keys_count p a → j < keys_count p n → key_at p a i ≡ key_at p n j → (mode_at p a i ≡ Read) × (mode_at p n j ≡ Read)
  both_read a n i j below i_lt j_lt e =
      plan.lines a n (lock_of p n j).key (mode_at p a i) (mode_at p n j) below (subst (λ (k : List ℕ). HasLock (held_of p a) k (mode_at p a i)) (one_key a n i j i_lt e) (has_lock a i i_lt)) (has_lock n j j_lt)

  -- and it has no limit
  pub shared_unlimited : (a n i j : ℕ) → Below p.tree a n → i < keys_count p a → j < keys_count p n → key_at p a i ≡ key_at p n j → limit_at p n j ≡ 0
  unfolding key_place
  shared_unlimited a n i j below i_lt j_lt e =
      let is : (lock_of p a i).key ≡ global = (plan.layers a n (lock_of p a i).key (lock_of p n j).key (mode_at p a i) (mode_at p n j) below (has_lock a i i_lt) (has_lock n j j_lt)).0 in
      ap (limit_of p) (sym e) ∙ ap (limit_for p) is ∙ plan.unlimited
