-- The parameters are those of so many workers.
use Rattle.std.proofs.Common.{◌≡◌, ℕ, List, Option, subst, sym}
use Rattle.std.specs.Option.{option_or}
use Rattle.config_params.specs.Parameters.{answer}
use Rattle.launch_options.specs.Given.{values_of}
use Rattle.launch_options.specs.Workers.{params_said, usual_answer}
use Rattle.launch_options.proofs.workers.spread_given.Goals as goal

pub returns-in_ok-spread_of-in-Some : goal.returns-in_ok-spread_of-in-Some
returns-in_ok-spread_of-in-Some c =
    subst (λ (workers : Option ℕ). (key : List ℕ) → answer c.in_ok-spread_of-in-Some.field-0 key ≡ option_or (answer (params_said workers (values_of c.args.given.now)) key) (usual_answer workers key)) (sym c.in-Some.is) c.in_ok-spread_of-in-Some.ensures
