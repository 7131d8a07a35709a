-- How many nodes may hold a lock at once, by what the configuration says.
use Rattle.std.specs.Prelude.{◌≡◌, ◌≢◌, ℕ, ◌<◌, ◌&&◌, not, Bool, cond, List, [], ◌∷◌, ◌++◌, map, Option, None, Some, unwrap_or}
use Rattle.std.specs.List.{list_any}
use Rattle.std.specs.Option.{option_or}
use Rattle.std.specs.Str.{bytes_eq}
use Rattle.descriptor.specs.Nodes.{Nodes, size, locks_of}
use Rattle.descriptor.specs.declared.lock_mode.LockMode.{LockMode}
use Rattle.resource_locks.specs.declared.limits.KeyLimit.{KeyLimit}
use Rattle.resource_locks.specs.Declarations.{global, declared_of}
use Rattle.resource_locks.specs.Keys.{keys_of}
use Rattle.resource_locks.specs.Limits.{limited_by}
use Rattle.resource_locks.specs.Plans.{PlanParts}
use Rattle.resource_locks.specs.Wants.{HasLock}
use Rattle.config_params.specs.LockKeys.{holders_key, limiting_keys, lock_limited}
use Rattle.config_params.specs.Numbers.{holders_in}
use Rattle.config_params.specs.Parameters.{Parameters, answer_over}
use Rattle.config_params.specs.Settings.{Answers}
use Rattle.config_params.specs.declared.limits_fault.LimitsFault.{LimitsFault}
use Rattle.config_params.specs.declared.limits_fault.LimitsFault.TheVariants.{NoMemory, Refused}
use Rattle.config_params.specs.declared.settings_fault.SettingsFault.{SettingsFault}
use Rattle.config_params.specs.declared.settings_fault.SettingsFault.TheVariants.{BadHolders, UnknownLock}

-- how many holders a value allows, and 0, for any number, where there is none
abbrev pub holders_of : Option (List ℕ) → ℕ
holders_of None = 0
holders_of (Some value) = unwrap_or (holders_in value) 0

-- how many nodes may hold a lock at once: as many as its key says; any number, 0, where it has no value, and of the global lock
abbrev pub limit_said : Answers → List ℕ → ℕ
limit_said answers lock = cond (bytes_eq global lock) 0 (holders_of (answers (holders_key lock)))

-- the plan in which the keys have these limits
abbrev pub limited_as_said : Answers → PlanParts → PlanParts
limited_as_said answers p = limited_by p (map (limit_said answers) p.keys)

-- Each number of holders that is said is one from 1 to 64, of a lock that a node of the tree names and that is not the global one.
pub record AreLimits (answers : Answers) (tree : Nodes) : Type 0 where
  pub numbers : (lock value : List ℕ) → answers (holders_key lock) ≡ Some value → (n : ℕ) × (holders_in value ≡ Some n)
  pub limitable : (lock value : List ℕ) → answers (holders_key lock) ≡ Some value → lock ≢ global
  pub named : (lock value : List ℕ) → answers (holders_key lock) ≡ Some value → (n : ℕ) × ((n < size tree) × ((mode : LockMode) × HasLock (locks_of tree n) lock mode))

-- whether a lock can have a limit where these are the global lock and all that nodes name
abbrev pub can_limit : List (List ℕ) → List ℕ → Bool
can_limit names lock = not (bytes_eq global lock) && list_any (bytes_eq lock) names

-- what is wrong with a number of holders: it is none, or the lock can have no limit
abbrev pub number_fault : Bool → Option ℕ → Option SettingsFault
number_fault can None = Some BadHolders
number_fault can (Some most) = cond can None (Some UnknownLock)

-- and with the value of a key
abbrev pub value_fault : Bool → Option (List ℕ) → Option SettingsFault
value_fault can None = None
value_fault can (Some value) = number_fault can (holders_in value)

-- what is wrong with what a key says of a lock, if it is the key of one
abbrev pub lock_fault : Answers → List (List ℕ) → List ℕ → Option (List ℕ) → Option SettingsFault
lock_fault answers names key None = None
lock_fault answers names key (Some lock) = value_fault (can_limit names lock) (answers key)

-- the first fault of keys
abbrev pub limits_fault : Answers → List (List ℕ) → List (List ℕ) → Option SettingsFault
limits_fault answers names [] = None
limits_fault answers names (key ∷ keys) = option_or (lock_fault answers names key (lock_limited key)) (limits_fault answers names keys)

-- why the limits that parameters say, which stand over others, are refused: the first fault of their keys, and then of those of the others
abbrev pub limits_refusal : Parameters → Parameters → Nodes → Option SettingsFault
limits_refusal over under tree = limits_fault (answer_over over under) (keys_of (declared_of tree)) (limiting_keys over ++ limiting_keys under)

-- a refusal is this one; want of memory may stand in its place
abbrev pub IsRefusedAs : Option SettingsFault → LimitsFault → Type 0
IsRefusedAs refusal NoMemory = Unit {0}
IsRefusedAs refusal (Refused fault) = refusal ≡ Some fault

-- the limit that a key says, if it is the key of a lock, and those that keys say
abbrev pub limit_by : Answers → List ℕ → Option (List ℕ) → List KeyLimit
limit_by answers key None = []
limit_by answers key (Some lock) = record { key = lock; most = holders_of (answers key) } ∷ []

abbrev pub limits_by : Answers → List (List ℕ) → List KeyLimit
limits_by answers [] = []
limits_by answers (key ∷ keys) = limit_by answers key (lock_limited key) ++ limits_by answers keys
