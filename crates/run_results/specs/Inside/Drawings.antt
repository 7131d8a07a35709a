-- What a drawing draws, which only proofs need.
use Rattle.std.specs.Prelude.{List}
use Rattle.descriptor.specs.Nodes.{Nodes}
use Rattle.plan_events.specs.Texts.{TextParts}
use Rattle.run_results.specs.declared.tree_drawing.Drawing.{Drawing}
use Rattle.run_results.specs.declared.theme.Theme.{Theme}
use Rattle.run_results.specs.declared.told.NodeEvents.{NodeEvents}
use Rattle.run_results.specs.Told.{told_at}
use Rattle.run_results.specs.TreeTexts.{Drawn}

-- what the tree is drawn from in which this was told of each node
abbrev pub drawn_from : Theme → Nodes → TextParts → List NodeEvents → Drawn
drawn_from theme t texts told = record { theme = theme; tree = t; texts = texts; told = told_at told }

-- what a drawing draws
abbrev pub drawn_by : Drawing → Drawn
drawn_by d = drawn_from d.theme d.tree.now d.texts.now d.told.now
