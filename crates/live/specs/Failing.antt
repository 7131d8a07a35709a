-- The nodes that failed, as they are kept.
use Rattle.std.specs.Prelude.{◌≡◌, ◌⊎◌, [], ◌∷◌, ◌++◌, ℕ, ◌+◌, ◌^◌, ◌-◌, ◌<◌, List, length, Option, string_bytes}
use Rattle.std.specs.List.{filter}
use Rattle.descriptor.specs.Kinds.{is_container}
use Rattle.descriptor.specs.Nodes.{kind_of}
use Rattle.resource_locks.specs.Plans.{PlanParts}
use Rattle.run_results.specs.Feed.{id_at, text_or}
use Rattle.listeners.specs.Listeners.{Telling}
use Rattle.run_results.specs.Told.{tells_failure}
use Rattle.run_results.specs.TreeTexts.{name_at}
use Rattle.live.specs.declared.failure.Failure.{Failure}
use Rattle.live.specs.declared.failures.Failures.{Failures}

-- of these events those that tell of a failure
abbrev pub failures_in : List Telling → List Telling
failures_in ts = filter (λ t. tells_failure t.event) ts

-- what is kept of node n, which failed with this text
pub record IsFailureOf (p : PlanParts) (n : ℕ) (text : Option (List ℕ)) (f : Failure) : Type 0 where
  pub node : f.node ≡ n
  pub id : string_bytes f.id ≡ id_at p n
  pub name : string_bytes f.name ≡ name_at p.tree n
  pub text_is : string_bytes f.text ≡ text_or text
  pub holds : f.holds ≡ is_container (kind_of p.tree n)

-- each of these is of one of these events, and they stand in the order of the events
abbrev pub AreFailuresOf : PlanParts → List Telling → List Failure → Type 0
AreFailuresOf p [] [] = Unit {0}
AreFailuresOf p [] (f ∷ fs) = ⊥
AreFailuresOf p (t ∷ ts) [] = Unit {0}
AreFailuresOf p (t ∷ ts) (f ∷ fs) = (IsFailureOf p t.event.node t.text f × AreFailuresOf p ts fs) ⊎ AreFailuresOf p ts (f ∷ fs)

-- it stands behind the others, of which there were fewer than twenty
pub record Adds (failure : Failure) (old new : Failures) : Type 0 where
  pub few : length old.kept.items < 20
  pub kept : new.kept.items ≡ old.kept.items ++ failure ∷ []
  pub more : new.more ≡ old.more

-- it is counted with those that are not kept, as far as can be counted
pub record Misses (old new : Failures) : Type 0 where
  pub kept : new.kept.items ≡ old.kept.items
  pub more : old.more < 2 ^ 32 - 1 → new.more ≡ old.more + 1

-- what is kept of a node more that failed
abbrev pub Keeps : Failure → Failures → Failures → Type 0
Keeps failure old new = Adds failure old new ⊎ Misses old new

-- a node that failed is kept as it is, or counted
abbrev pub KeepsNode : PlanParts → ℕ → Option (List ℕ) → Failures → Failures → Type 0
KeepsNode p n text old new = ((failure : Failure) × IsFailureOf p n text failure × Adds failure old new) ⊎ Misses old new

-- Of these events the failures, and nothing else, were kept behind those that were kept before, in their order; and all that were not
-- kept are counted, as far as can be counted.
pub record HasKept (p : PlanParts) (first now : Failures) (ts : List Telling) : Type 0 where
  pub added : List Failure
  pub kept : now.kept.items ≡ first.kept.items ++ added
  pub are : AreFailuresOf p (failures_in ts) added
  pub counted : first.more + length (failures_in ts) < 2 ^ 32 → length added + now.more ≡ first.more + length (failures_in ts)
