-- The number of a key in the list of numbers is that of the lock.
use Rattle.std.proofs.Common.{◌∙◌, []}
use Rattle.std.proofs.lemmas.List.{get_or-map}
use Rattle.descriptor.specs.declared.lock.Lock.{Lock}
use Rattle.descriptor.specs.declared.lock_mode.LockMode.TheVariants.{Read}
use Rattle.resource_locks.specs.Plans.{number_of, held_of}
use Rattle.scheduling.specs.Choices.{key_place}
use Rattle.scheduling.proofs.choices.key_at_place.Goals as goal

pub returns-clause-key : goal.returns-clause-key
unfolding key_place
returns-clause-key c = c.key_number.ensures.value ∙ get_or-map (λ (lock : Lock). number_of c.args.plan.now.keys lock.key) (held_of c.args.plan.now c.args.node) c.args.place (record { key = []; mode = Read }) 0 c.requires.place
