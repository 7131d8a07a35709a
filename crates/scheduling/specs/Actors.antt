-- Who takes a step.
use Rattle.scheduling.specs.declared.step.Actor.{Actor}
use Rattle.scheduling.specs.declared.step.Actor.TheVariants.{Worker as WorkerActor, Dispatcher}
use Rattle.scheduling.specs.declared.step.Step.{Step}
use Rattle.scheduling.specs.declared.step.Step.TheVariants.{Worker, Read}

abbrev pub actor_of : Step → Actor
actor_of (Worker k a) = WorkerActor k
actor_of Read = Dispatcher
