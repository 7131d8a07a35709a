-- The plan that hoisting gives of a tree.
use Rattle.std.proofs.Common.{◌≡◌, ℕ, ◌<◌, ◌≤◌, List, [], length, map, get_or, Bool, false, inl, inr, refl, sym, subst}
use Rattle.std.proofs.lemmas.Bool.{cases_lt}
use Rattle.descriptor.specs.Nodes.{Nodes, IsTree, size}
use Rattle.descriptor.specs.declared.lock.Lock.{Lock}
use Rattle.descriptor.specs.declared.lock_mode.LockMode.{LockMode}
use Rattle.descriptor.specs.declared.mode.Mode.{Mode}
use Rattle.descriptor.specs.declared.mode.Mode.TheVariants.{SameThread}
use Rattle.resource_locks.specs.Wants.{HasLock}
use Rattle.resource_locks.specs.LockSets.{IsLockSet}
use Rattle.resource_locks.specs.Declarations.{Declared, declared_of}
use Rattle.resource_locks.specs.Hoisted.{IsHoisted, IsHeldFor, IsGuarded}
use Rattle.resource_locks.specs.Held.{table, held, hoisted_mode, plan_of}
use Rattle.resource_locks.specs.Keys.{keys_of}
use Rattle.resource_locks.specs.Plans.{PlanParts, number_of, numbers_of}
use Rattle.resource_locks.specs.Inside.PlanFields.{IsSound}
use Rattle.resource_locks.proofs.Walks.{table_len, table_at, table_past}
use Rattle.resource_locks.proofs.Gathering.{gathered_set}
use Rattle.resource_locks.proofs.Hoisted.{hoisted}
use Rattle.resource_locks.proofs.Guarded.{guarded}
use Rattle.resource_locks.proofs.HoistedLines.{hoisted_lines, hoisted_layers}
use Rattle.resource_locks.proofs.LockTrees.{lock_tree}
use Rattle.resource_locks.proofs.Numbered.{to_hold_numbered}

-- the fields that hoisting fills
pub plan_is : (t u : Nodes) (given modes : List Mode) (sets : List (List Lock)) (keys : List (List ℕ)) (limits : List ℕ) → u ≡ t → modes ≡ table (hoisted_mode (declared_of t) given) (size t) → sets ≡ table (held (declared_of t)) (size t) → keys ≡ keys_of (declared_of t) → limits ≡ []
    → record { tree = u; modes = modes; held = sets; keys = keys; limits = limits; fail_fast = false; tolerated = 0 } ≡ plan_of t given
plan_is t u given modes sets keys limits a b c d e = λ i. record { tree = a i; modes = b i; held = c i; keys = d i; limits = e i; fail_fast = false; tolerated = 0 }

module _ (t : Nodes) (tree : IsTree t) (given : List Mode) (len : length given ≡ size t) where
  abbrev told : Declared
  told = declared_of t

  pub plan_hoisted : IsHoisted told (λ n. get_or given n SameThread) (plan_of t given)
  plan_hoisted = hoisted told given (lock_tree t tree) len

  pub plan_guarded : IsGuarded told (plan_of t given)
  plan_guarded = guarded told (lock_tree t tree) (λ n. get_or given n SameThread) (plan_of t given) plan_hoisted

  pub plan_numbered : (n : ℕ) (key : List ℕ) (mode : LockMode) → HasLock (get_or (table (held told) (size t)) n []) key mode → number_of (keys_of told) key < length (keys_of told)
  plan_numbered n key mode h = to_hold_numbered told (lock_tree t tree) n key mode (plan_hoisted.only n key mode h)

  plan_sets : (n : ℕ) → IsLockSet (get_or (table (held told) (size t)) n [])
  plan_sets n = elim (cases_lt n (size t)) [
    | inl inside ↦ subst IsLockSet (sym (table_at (held told) [] (size t) n inside)) (gathered_set told n (size t))
    | inr past ↦ subst IsLockSet (sym (table_past (held told) [] (size t) n past)) tt
  ]

  pub plan_sound : (lists : List (List ℕ)) → length (keys_of told) ≤ 256 → lists ≡ map (numbers_of (keys_of told)) (table (held told) (size t)) → IsSound (plan_of t given) lists
  plan_sound lists few is = record {
    plan = record {
      tree = tree;
      modes_len = table_len (hoisted_mode told given) (size t);
      held_len = table_len (held told) (size t);
      sets = plan_sets;
      lines = hoisted_lines told (lock_tree t tree).rooted (λ n. get_or given n SameThread) (plan_of t given) plan_hoisted;
      layers = hoisted_layers told (lock_tree t tree).rooted (λ n. get_or given n SameThread) (plan_of t given) plan_hoisted;
      few = few;
      numbered = plan_numbered;
      unlimited = refl;
    };
    numbers = is;
  }

-- whether a plan fails fast, and after how many failures, changes no set and no mode
module _ (told : Declared) (p : PlanParts) (fail_fast : Bool) (tolerated : ℕ) where
  pub hoisted_still : (given : ℕ → Mode) → IsHoisted told given p → IsHoisted told given (record p { fail_fast = fail_fast; tolerated = tolerated })
  hoisted_still given h = record { writes = h.writes; reads = h.reads; only = h.only; one_mode = h.one_mode; forced = h.forced; free = h.free }

  held_still : (n : ℕ) (key : List ℕ) (mode : LockMode) → IsHeldFor told p n key mode → IsHeldFor told (record p { fail_fast = fail_fast; tolerated = tolerated }) n key mode
  held_still n key mode h = record { node = h.node; above = h.above; held_mode = h.held_mode; holds = h.holds; writes = h.writes }

  pub guarded_still : IsGuarded told p → IsGuarded told (record p { fail_fast = fail_fast; tolerated = tolerated })
  guarded_still h = record { holder = λ n key mode declared. held_still n key mode (h.holder n key mode declared); forced = h.forced }
