-- Which node a handle stands for.
use Rattle.std.specs.Prelude.{ℕ}
use Rattle.test_tree.specs.declared.handles.ClassId.{ClassId}
use Rattle.test_tree.specs.declared.handles.EngineId.{EngineId}
use Rattle.test_tree.specs.declared.handles.FactoryId.{FactoryId}

abbrev pub engine_node : EngineId → ℕ
engine_node engine = engine.number

abbrev pub class_node : ClassId → ℕ
class_node class = class.number

abbrev pub factory_node : FactoryId → ℕ
factory_node factory = factory.number
