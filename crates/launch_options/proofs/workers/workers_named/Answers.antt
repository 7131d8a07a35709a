-- What is no number of workers is refused.
use Rattle.std.proofs.Common.{Option, Some, Bor, ◌≡◌, IfErr, subst, sym}
use Rattle.launch_options.specs.Asked.{unless_named}
use Rattle.launch_options.specs.Given.{Text, maybe_behind}
use Rattle.launch_options.specs.Workers.{crew_named, workers_named}
use Rattle.launch_options.proofs.Crew.{no_crew}
use Rattle.launch_options.proofs.workers.workers_named.Goals as goal

pub returns-in_err-crew_named-in-Some-clause-refused : goal.returns-in_err-crew_named-in-Some-clause-refused
returns-in_err-crew_named-in-Some-clause-refused c =
    subst (λ (text : Option (Bor Text)). IfErr c.from_residual.result (λ fault. unless_named (workers_named c.args.processors (maybe_behind text)) ≡ Some fault)) (sym c.in-Some.is)
    (no_crew (crew_named c.args.processors c.in-Some.text.now) c.in_err-crew_named-in-Some.field-0.0 c.from_residual.result c.from_residual.ensures.1 c.in_err-crew_named-in-Some.ensures.refused)
