-- Which kinds are tests, and which may hold other nodes.
use Rattle.std.specs.Prelude.{Bool, true, false}
use Rattle.descriptor.specs.declared.kind.Kind.{Kind}
use Rattle.descriptor.specs.declared.kind.Kind.TheVariants.{Test, Container, ContainerAndTest}

-- whether it is a test, as one is that may hold other nodes
abbrev pub is_test : Kind → Bool
is_test Container = false
is_test Test = true
is_test ContainerAndTest = true

-- whether it may hold other nodes, as a test may that is both
abbrev pub is_container : Kind → Bool
is_container Container = true
is_container Test = false
is_container ContainerAndTest = true
