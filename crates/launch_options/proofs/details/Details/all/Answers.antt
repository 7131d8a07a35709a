-- Each one is listed.
use Rattle.launch_options.proofs.Named.{each_details}
use Rattle.launch_options.proofs.details.Details.all.Goals as goal

pub returns-clause-every : goal.returns-clause-every
returns-clause-every c = each_details
