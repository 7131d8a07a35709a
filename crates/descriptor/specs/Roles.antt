-- Which roles are those of factories and spares, and where they may stand.
use Rattle.std.specs.Prelude.{Bool, true, false, not, ◌||◌}
use Rattle.descriptor.specs.declared.kind.Kind.{Kind}
use Rattle.descriptor.specs.declared.role.Role.{Role}
use Rattle.descriptor.specs.declared.role.Role.TheVariants.{Plain, Factory, Spare}
use Rattle.descriptor.specs.Kinds.{is_container}

-- whether it is that of a factory
abbrev pub is_factory : Role → Bool
is_factory Plain = false
is_factory Factory = true
is_factory Spare = false

-- whether it is that of a spare
abbrev pub is_spare : Role → Bool
is_spare Plain = false
is_spare Factory = false
is_spare Spare = true

-- whether a node of this kind and role may not stand below one of the first role: a spare stands below a factory and holds no node;
-- no other node stands below a factory, and a factory may hold nodes
abbrev pub is_misplaced : Role → Kind → Role → Bool
is_misplaced above kind Plain = is_factory above
is_misplaced above kind Factory = is_factory above || not (is_container kind)
is_misplaced above kind Spare = not (is_factory above) || is_container kind
