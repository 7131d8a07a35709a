-- How many containers and tests a plan has, and what became of them.
use Rattle.std.specs.Prelude.{◌≡◌, ◌↔◌, ◌⊎◌, ℕ, zero, suc, ◌+◌, ◌<◌, ◌≤◌, ◌==◌, ◌&&◌, ◌||◌, nat_lt, not, Bool, true, false, cond, List, [], ◌∷◌, ◌++◌, length, map, slice_index_or}
use Rattle.std.specs.List.{range_with_len}
use Rattle.descriptor.specs.declared.kind.Kind.{Kind}
use Rattle.descriptor.specs.declared.kind.Kind.TheVariants.{Container}
use Rattle.descriptor.specs.Kinds.{is_container, is_test}
use Rattle.descriptor.specs.Nodes.{Nodes, Below, size, parent_of, kind_of, is_spare_at, bit, count_below}
use Rattle.plan_events.specs.declared.event.Event.{Event}
use Rattle.plan_events.specs.Statuses.{is_aborted, is_successful, is_failed}
use Rattle.resource_locks.specs.Plans.{PlanParts}
use Rattle.run_results.specs.Told.{is_skipped, is_registered, all_told, told_at, ended}
use Rattle.run_results.specs.declared.node_places.NodePlace.{NodePlace}
use Rattle.run_results.specs.declared.told.NodeEvents.{NodeEvents}
use Rattle.run_results.specs.declared.counts.SortCounts.{SortCounts}

-- what is kept of node n to count it: its parent, which for node 0 is node 0 itself, its kind, and whether it is a spare
abbrev pub place_of : Nodes → ℕ → NodePlace
place_of t n = record { parent = cond (n == 0) 0 (parent_of t n); kind = kind_of t n; spare = is_spare_at t n }

-- what is kept of a tree: a place for each node, from node 0
abbrev pub outline_of : Nodes → List NodePlace
outline_of t = map (place_of t) (range_with_len 0 (size t))

-- the place of node n; past the end, that of a container below node 0
abbrev pub place_in : List NodePlace → ℕ → NodePlace
place_in outline n = slice_index_or outline n (record { parent = 0; kind = Container; spare = false })

-- each node but node 0 stands after its parent
abbrev pub FollowParents : List NodePlace → Type 0
FollowParents outline = (n : ℕ) → 0 < n → n < length outline → (place_in outline n).parent < n

-- whether node n was skipped, or a node that it is below by so many steps at most
abbrev pub is_lost_within : List NodePlace → List NodeEvents → ℕ → ℕ → Bool
is_lost_within outline told zero n = (told_at told n).skipped
is_lost_within outline told (suc k) zero = (told_at told zero).skipped
is_lost_within outline told (suc k) (suc n) = (told_at told (suc n)).skipped || is_lost_within outline told k (place_in outline (suc n)).parent

-- whether node n was skipped, or a node that it is below; as a parent has a smaller number, n steps are enough
abbrev pub is_lost : List NodePlace → List NodeEvents → ℕ → Bool
is_lost outline told n = is_lost_within outline told n n

-- whether node n counts as skipped: a spare where it was skipped itself, any other node where it is lost
abbrev pub counts_as_skipped : List NodePlace → List NodeEvents → ℕ → Bool
counts_as_skipped outline told n = cond (place_in outline n).spare (told_at told n).skipped (is_lost outline told n)

-- a node was skipped that node n is below
abbrev pub IsBelowSkipped : Nodes → List Event → ℕ → Type 0
IsBelowSkipped t events n = (a : ℕ) × Below t a n × (is_skipped events a ≡ true)

-- node n was skipped, or it is no spare and a node was skipped that it is below
abbrev pub WasSkipped : Nodes → List Event → ℕ → Type 0
WasSkipped t events n = (is_skipped events n ≡ true) ⊎ ((is_spare_at t n ≡ false) × IsBelowSkipped t events n)

-- the nodes of a tree that count as skipped are those that were skipped and all below them, spares below them excepted
abbrev pub SkipsReachBelow : Nodes → List Event → Type 0
SkipsReachBelow t events =
    (n : ℕ) → n < size t → (counts_as_skipped (outline_of t) (all_told (length (outline_of t)) events) n ≡ true) ↔ WasSkipped t events n

-- whether node n of a tree was found by these events: it is no spare, or it was registered
abbrev pub was_found : Nodes → List Event → ℕ → Bool
was_found t events n = not (is_spare_at t n) || is_registered events n

-- whether node n is found: it is no spare, or it was registered
abbrev pub is_found : List NodePlace → List NodeEvents → ℕ → Bool
is_found outline told n = not (place_in outline n).spare || (told_at told n).registered

-- whether node n counts as one of this sort; node 0 counts nowhere
abbrev pub is_counted : (Kind → Bool) → List NodePlace → ℕ → Bool
is_counted sort outline n = nat_lt 0 n && sort (place_in outline n).kind

-- the counts of one sort among the nodes below k: a node counts once, whatever stands for it twice
abbrev pub counts_below : (Kind → Bool) → List NodePlace → List NodeEvents → ℕ → SortCounts
counts_below sort outline told k = record {
  found = count_below (λ n. is_counted sort outline n && is_found outline told n) k;
  skipped = count_below (λ n. is_counted sort outline n && counts_as_skipped outline told n) k;
  started = count_below (λ n. is_counted sort outline n && (told_at told n).started) k;
  aborted = count_below (λ n. is_counted sort outline n && ended is_aborted (told_at told n).status) k;
  successful = count_below (λ n. is_counted sort outline n && ended is_successful (told_at told n).status) k;
  failed = count_below (λ n. is_counted sort outline n && ended is_failed (told_at told n).status) k;
}

-- the counts of a sort with one more node, which is counted or not, was found or not, and counts as skipped or not
abbrev pub counts_with : SortCounts → Bool → NodeEvents → Bool → Bool → SortCounts
counts_with c counted t found lost = record {
  found = bit (counted && found) + c.found;
  skipped = bit (counted && lost) + c.skipped;
  started = bit (counted && t.started) + c.started;
  aborted = bit (counted && ended is_aborted t.status) + c.aborted;
  successful = bit (counted && ended is_successful t.status) + c.successful;
  failed = bit (counted && ended is_failed t.status) + c.failed;
}

-- none of the counts is above n
pub record AreAtMost (c : SortCounts) (n : ℕ) : Type 0 where
  pub found : c.found ≤ n
  pub skipped : c.skipped ≤ n
  pub started : c.started ≤ n
  pub aborted : c.aborted ≤ n
  pub successful : c.successful ≤ n
  pub failed : c.failed ≤ n

-- the six counts of a sort, in the order in which they are told
abbrev pub six : SortCounts → List ℕ
six c = c.found ∷ c.skipped ∷ c.started ∷ c.aborted ∷ c.successful ∷ c.failed ∷ []

-- the twelve counts of nodes with these places of which this was told: those of containers, then those of tests
abbrev pub counts_in : List NodePlace → List NodeEvents → List ℕ
counts_in outline told =
    six (counts_below is_container outline told (length outline)) ++ six (counts_below is_test outline told (length outline))

-- the twelve counts of these events on nodes with these places
abbrev pub counts_on : List NodePlace → List Event → List ℕ
counts_on outline events = counts_in outline (all_told (length outline) events)

-- the twelve counts of these events on a plan
abbrev pub counts_of : PlanParts → List Event → List ℕ
counts_of plan events = counts_on (outline_of plan.tree) events
