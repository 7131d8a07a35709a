-- What a node declares of how it is executed: a mode, locks, and isolation.
use Rattle.std.specs.Prelude.{◌≡◌, ◌==◌, ◌||◌, not, Bool, false, List, [], length, Option, None}
use Rattle.std.specs.Option.{is_some}
use Rattle.descriptor.specs.declared.lock.Lock.{Lock}
use Rattle.descriptor.specs.declared.mode.Mode.{Mode}
use Rattle.descriptor.specs.declared.node.Node.{Node}

-- whether it declares a mode or a lock, or is isolated
abbrev pub declares : Node → Bool
declares node = is_some node.mode || node.isolated || not (length node.locks == 0)

-- none of the three is declared
pub record DeclaresNothing (m : Option Mode) (ls : List Lock) (i : Bool) : Type 0 where
  pub no_mode : m ≡ None
  pub no_locks : ls ≡ []
  pub not_isolated : i ≡ false
