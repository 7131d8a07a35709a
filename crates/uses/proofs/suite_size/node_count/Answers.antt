-- A suite that is read as this one has as many nodes.
use Rattle.std.proofs.Common.{◌≡◌, ℕ, Result, Ok, Err, ap, sym, ◌∙◌}
use Rattle.descriptor.specs.Nodes.{size}
use Rattle.suite_text.specs.Reading.Parts.{SuiteParts}
use Rattle.suite_words.specs.declared.suite.fault.SuiteFault.{SuiteFault}
use Rattle.uses.proofs.suite_size.node_count.Goals as goal

abbrev size_read : Result SuiteParts SuiteFault → ℕ
size_read (Ok suite) = size suite.tree
size_read (Err fault) = 0

pub returns : goal.returns
returns c suite is = c.len.ensures.len ∙ sym (ap size_read (c.in_ok-suite.ensures.reads_back suite is))
