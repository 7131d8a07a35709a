-- The texts so far spell the selectors.
use Rattle.std.proofs.Common.{◌≡◌, take}
use Rattle.std.specs.List.{filter_map}
use Rattle.launch_options.specs.Given.{texts_of}
use Rattle.launch_options.specs.Asked.{spelled}
use Rattle.launch_options.proofs.options.selectors_of.Given as goal

abbrev pub invariant-loop-kind : goal.invariant-loop-kind
invariant-loop-kind l = l.selectors.items ≡ filter_map spelled (texts_of (take l.kind-index l.texts))
