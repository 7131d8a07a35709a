-- What a selector's text says.
use Rattle.std.specs.Prelude.{ℕ, ◌==◌, ◌||◌, List, length, Bool, if◌then◌else◌, Option, Some, None, Result, Ok, Err}
use Rattle.std.specs.List.{before_first, after_first}
use Rattle.unique_id.specs.declared.fault.UidFault.{UidFault}
use Rattle.unique_id.specs.declared.unique_id.Segment.{Segment}
use Rattle.unique_id.specs.Reading.{id_of}
use Rattle.selectors.specs.declared.selector.Selector.{Selector}
use Rattle.selectors.specs.declared.selector.SelectorKind.{SelectorKind}
use Rattle.selectors.specs.declared.selector.SelectorKind.TheVariants as Kind
use Rattle.selectors.specs.declared.selector_fault.SelectorFault.{SelectorFault}
use Rattle.selectors.specs.declared.selector_fault.SelectorFault.TheVariants.{BadSelector, EmptyPattern}

abbrev pub is_hash : ℕ → Bool
is_hash byte = byte == 35

-- the selector of a unique id that was read
abbrev pub id_selector : Result (List Segment) UidFault → Option Selector
id_selector (Ok id) = Some (Selector.Uid id)
id_selector (Err fault) = None

-- a unique id: what reads as one
abbrev pub unique_id_of : List ℕ → Option Selector
unique_id_of text = id_selector (id_of text)

-- a class: any text but the empty one
abbrev pub class_of : List ℕ → Option Selector
class_of text = if length text == 0 then None else Some (Selector.Class text)

-- a package: any text but the empty one
abbrev pub package_of : List ℕ → Option Selector
package_of text = if length text == 0 then None else Some (Selector.Package text)

-- a method: what stands before its first hash is the class, what follows it the name, and neither is empty; without a hash nothing follows
abbrev pub method_of : List ℕ → Option Selector
method_of text =
    if length (before_first is_hash text) == 0 || length (after_first is_hash text) == 0 then None
    else Some (Selector.Method (before_first is_hash text) (after_first is_hash text))

-- a pattern of names: any text but the empty one
abbrev pub name_of : List ℕ → Option Selector
name_of text = if length text == 0 then None else Some (Selector.Name text)

-- the selector of this kind that a text spells, if any
abbrev pub selector_of : SelectorKind → List ℕ → Option Selector
selector_of Kind.UniqueId text = unique_id_of text
selector_of Kind.Class text = class_of text
selector_of Kind.Method text = method_of text
selector_of Kind.Package text = package_of text
selector_of Kind.Name text = name_of text

-- why a text of this kind spells none
abbrev pub fault_of : SelectorKind → SelectorFault
fault_of Kind.Name = EmptyPattern
fault_of kind = BadSelector
