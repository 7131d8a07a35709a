-- The tests and factories that are selected, and the tree of those.
use Rattle.std.specs.Prelude.{ℕ, ◌==◌, ◌&&◌, ◌++◌, not, Bool, Option}
use Rattle.std.specs.Option.{option_map}
use Rattle.descriptor.specs.Nodes.{Nodes, size, kind_of, role_of}
use Rattle.descriptor.specs.Pruned.{pruned}
use Rattle.selectors.specs.declared.request.Request.{Request}
use Rattle.selectors.specs.declared.select_fault.SelectFault.{SelectFault}
use Rattle.selectors.specs.declared.select_fault.SelectFault.TheVariants.{NothingMatches}
use Rattle.selectors.specs.Covered.{truths, is_covered, is_excluded, first_unmatched}
use Rattle.selectors.specs.Filters.{keeps, tags_together}
use Rattle.selectors.specs.Keeping.{stays}
use Rattle.selectors.specs.Shards.{shard_or_all}
use Rattle.selectors.specs.Units.{is_selectable}
use Rattle.tree_orders.specs.Orders.{seeded_or_same}

-- whether a request takes node n by its place and its name: of the selectors, of the names, and of what is to be run again, one covers it or
-- there are none, and none of the exclusions covers it
abbrev pub is_asked_for : Nodes → Request → ℕ → Bool
is_asked_for t request n =
    is_covered t request.selectors.items n
    && (is_covered t request.names.items n
    && (is_covered t request.rerun.items n
    && not (is_excluded t request.exclusions.items n)))

-- whether node n is selected: it is a factory or a test that is no spare, the request takes it by its place and its name, and the tag filter keeps
-- its tags together with all above it
abbrev pub is_selected : Nodes → Request → ℕ → Bool
is_selected t request n = is_selectable (kind_of t n) (role_of t n) && (is_asked_for t request n && keeps request.include.items request.exclude.items (tags_together t n))

-- the tree of the nodes that stay, which are node 0, each node that a selected node is at or below, and the spares of a selected factory, in their order
abbrev pub selection : Nodes → Request → Nodes
selection t request = pruned t (truths (stays t (is_selected t request)) (size t))

-- whether nothing is selected: that tree is the plan alone
abbrev pub selects_nothing : Nodes → Request → Bool
selects_nothing t request = size (selection t request) == 1

-- that tree, or the shard of it that the request asks for
abbrev pub dealt : Nodes → Request → Nodes
dealt t request = shard_or_all (selection t request) request.shard

-- what discovery finds: those nodes in the order of the request's seed, so that a seed changes no shard
abbrev pub answer : Nodes → Request → Nodes
answer t request = seeded_or_same request.seed (dealt t request)

-- the refusal of a request: the first of its selectors, and then of its names, that covers no node of the whole tree, whatever else is asked for
abbrev pub refusal : Nodes → Request → Option SelectFault
refusal t request = option_map NothingMatches (first_unmatched t (request.selectors.items ++ request.names.items))
