-- What stands in the list of a node's children.
use Rattle.std.proofs.Common.{◌≡◌, ℕ, ◌<◌, Some, sym, ap, ◌∙◌, get_or, length}
use Rattle.std.proofs.lemmas.Option.{slice_get-get_or}
use Rattle.descriptor.proofs.Children.{children_listed}
use Rattle.descriptor.specs.Nodes.{Nodes, IsChild, children_of, size}

-- is a node
pub child_inside : (t : Nodes) (n i c : ℕ) → i < length (children_of t n) → c ≡ get_or (children_of t n) i c → c < size t
child_inside t n i c inside is =
    let child : IsChild t n c = children_listed t n i c (slice_get-get_or (children_of t n) i c inside ∙ ap Some (sym is)) in
    child.inside
