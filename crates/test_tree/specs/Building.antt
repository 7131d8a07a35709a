-- What contracts see of tests that are built.
use Rattle.config_params.specs.Parameters.{Parameters}
use Rattle.std.specs.declared.alloc.Global.{Global}
use Rattle.test_bodies.specs.declared.body.Body.{Body}
use Rattle.test_tree.specs.declared.tests.Tests.{Tests}
use Rattle.test_tree.specs.Growing.{Built, built}

module _ {X Y : Type 0} {Z : Y → Type 0} {f : _} {g : _} where
  -- what they hold, but for the properties
  abbrev pub held : Tests X Y Z f g → Built (Body X Y Z f g)
  held tests = built tests.node_limit tests.tree tests.jobs.items tests.marks tests.body

  -- what is said of the configuration
  abbrev pub properties_of : Tests X Y Z f g → Parameters
  properties_of tests = tests.properties

  -- where they take memory from
  abbrev pub memory_of : Tests X Y Z f g → Global
  memory_of tests = tests.alloc
