-- What the fields of a plan keep, which only proofs need.
use Rattle.std.specs.Prelude.{◌≡◌, ℕ, List, map}
use Rattle.resource_locks.specs.Plans.{PlanParts, IsPlan, numbers_of}

-- it is a plan, and the lists beside it have the numbers of the keys that each node holds
pub record IsSound (p : PlanParts) (lists : List (List ℕ)) : Type 0 where
  pub plan : IsPlan p
  pub numbers : lists ≡ map (numbers_of p.keys) p.held
