-- The fields of the results of a run and what they keep, which only proofs need.
use Rattle.std.specs.Prelude.{◌≡◌, length}
use Rattle.descriptor.specs.Nodes.{IsTree}
use Rattle.run_results.specs.Counts.{outline_of}
use Rattle.run_results.specs.Told.{all_told}
use Rattle.run_results.specs.Results.{ResultParts}
use Rattle.run_results.specs.declared.results.Results.TheInside.{Inside}

-- the fields as contracts see them
abbrev pub results_of : Inside → ResultParts
results_of r = record { plan = r.plan.now; events = r.events.now }

-- the tally is that of the plan and the events
pub record AreSound (r : Inside) : Type 0 where
  pub tree : IsTree r.plan.now.tree
  pub outline : r.tally.outline ≡ outline_of r.plan.now.tree
  pub told : r.tally.told ≡ all_told (length r.tally.outline) r.events.now
