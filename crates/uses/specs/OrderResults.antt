-- How the nodes of a tree are expected to end in a seed's order, beside those in the order of the tree.
use Rattle.std.specs.Prelude.{◌≡◌, ℕ, ◌<◌}
use Rattle.descriptor.specs.Nodes.{Nodes, size}
use Rattle.plan_events.specs.declared.outcome.Reply.{Reply}
use Rattle.junit_report.specs.Expectations.{result_at}
use Rattle.tree_orders.specs.Orders.{place_in, seeded_order}

-- each node is expected to end at its place in the seed's order as at its own, whatever the bodies answer
abbrev pub EndsAsBefore : (seed : ℕ) → Nodes → Nodes → Type 0
EndsAsBefore seed t found = (reply : ℕ → Reply) (n : ℕ) → n < size t → result_at found reply (place_in (seeded_order seed t) n) ≡ result_at t reply n
