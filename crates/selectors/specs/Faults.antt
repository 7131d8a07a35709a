-- The numbers and the places of the refusals.
use Rattle.std.specs.Prelude.{ℕ, Option, Some, None}
use Rattle.selectors.specs.declared.selector_fault.SelectorFault.{SelectorFault}
use Rattle.selectors.specs.declared.selector_fault.SelectorFault.TheVariants as selector
use Rattle.selectors.specs.declared.select_fault.SelectFault.{SelectFault}
use Rattle.selectors.specs.declared.select_fault.SelectFault.TheVariants as select

-- the number of a text's refusal, and 0 for want of memory
abbrev pub selector_number : SelectorFault → ℕ
selector_number selector.NoMemory = 0
selector_number selector.BadSelector = 40
selector_number selector.EmptyPattern = 43

-- the number of a request's refusal, and 0 for want of memory
abbrev pub select_number : SelectFault → ℕ
select_number select.NoMemory = 0
select_number (select.NothingMatches place) = 41

-- the number of the selector that is refused, counted from 1
abbrev pub select_place : SelectFault → Option ℕ
select_place select.NoMemory = None
select_place (select.NothingMatches place) = Some place
