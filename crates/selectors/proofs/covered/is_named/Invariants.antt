-- None of the selectors so far names the node.
use Rattle.std.proofs.Common.{◌≡◌, false, take}
use Rattle.std.specs.List.{list_any}
use Rattle.selectors.specs.declared.selector.Selector.{Selector}
use Rattle.selectors.specs.Names.{names}
use Rattle.selectors.proofs.covered.is_named.Given as goal

abbrev pub invariant-loop-selector : goal.invariant-loop-selector
invariant-loop-selector l = list_any (λ (selector : Selector). names l.tree selector l.node) (take l.selector-index l.selectors) ≡ false
