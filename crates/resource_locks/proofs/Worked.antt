-- Two trees, and what their nodes hold.
use Rattle.std.proofs.Common.{◌≡◌, ℕ, Bool, true, false, List, [], ◌∷◌, get_or, refl, codes}
use Rattle.descriptor.specs.declared.lock.Lock.{Lock}
use Rattle.descriptor.specs.declared.lock_mode.LockMode.TheVariants.{Read, ReadWrite}
use Rattle.descriptor.specs.declared.mode.Mode.{Mode}
use Rattle.descriptor.specs.declared.mode.Mode.TheVariants.{SameThread, Concurrent}
use Rattle.resource_locks.specs.Declarations.{Declared, global}
use Rattle.resource_locks.specs.Held.{held, hoisted_mode}
use Rattle.resource_locks.specs.Keys.{keys_of}

-- nodes by their parents, what each declares, and which are isolated
abbrev told : List ℕ → List (List Lock) → List Bool → Declared
told parents locks isolated = record {
  tree = record { parents = parents; nodes = [] };
  locks = λ n. get_or locks n [];
  isolated = λ n. get_or isolated n false;
}

abbrev read : List ℕ → Lock
read key = record { key = key; mode = Read }

abbrev write : List ℕ → Lock
write key = record { key = key; mode = ReadWrite }

-- an engine; a class that reads log and db; in it a test that writes db, and one that declares nothing
abbrev upgraded : Declared
upgraded = told (0 ∷ 0 ∷ 1 ∷ 2 ∷ 2 ∷ []) ([] ∷ [] ∷ (read (codes "log") ∷ read (codes "db") ∷ []) ∷ (write (codes "db") ∷ []) ∷ []) []

abbrev given : List Mode
given = SameThread ∷ SameThread ∷ Concurrent ∷ Concurrent ∷ Concurrent ∷ Concurrent ∷ []

class_holds : held upgraded 2 ≡ read global ∷ write (codes "db") ∷ read (codes "log") ∷ []
class_holds = refl

keys_in_order : keys_of upgraded ≡ global ∷ codes "log" ∷ codes "db" ∷ []
keys_in_order = refl

test_holds : held upgraded 3 ≡ []
test_holds = refl

other_holds : held upgraded 4 ≡ []
other_holds = refl

test_is_forced : hoisted_mode upgraded given 3 ≡ SameThread
test_is_forced = refl

other_is_forced : hoisted_mode upgraded given 4 ≡ SameThread
other_is_forced = refl

class_is_free : hoisted_mode upgraded given 2 ≡ Concurrent
class_is_free = refl

-- an engine, a class with an isolated test, and a class with another test
abbrev shared : Declared
shared = told (0 ∷ 0 ∷ 1 ∷ 2 ∷ 1 ∷ 4 ∷ []) [] (false ∷ false ∷ false ∷ true ∷ [])

isolated_class : held shared 2 ≡ write global ∷ []
isolated_class = refl

isolated_test : held shared 3 ≡ []
isolated_test = refl

isolated_is_forced : hoisted_mode shared given 3 ≡ SameThread
isolated_is_forced = refl

other_class : held shared 4 ≡ read global ∷ []
other_class = refl

other_is_free : hoisted_mode shared given 5 ≡ Concurrent
other_is_free = refl
