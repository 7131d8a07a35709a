-- The locks of a list that may be shared.
use Rattle.std.specs.Prelude.{List, [], Option, Some, None}
use Rattle.std.specs.Arc.{arc_value}
use Rattle.std.specs.declared.alloc.Global.{Global}
use Rattle.std.specs.declared.sync.Arc.{Arc}
use Rattle.std.specs.declared.vec.Vec.{Vec}
use Rattle.descriptor.specs.declared.lock.Lock.{Lock}

abbrev pub locks_in : Option (Arc (Vec Lock Global) Global) → List Lock
locks_in None = []
locks_in (Some shared) = (arc_value shared).items
