-- Intervals: what contains them, and what one thread puts one after the other.
use Rattle.std.proofs.Common.{◌≡◌, ℕ, ◌<◌, ◌≤◌, true, List, ◌⊎◌, inl, inr, sym, subst, arith}
use Rattle.std.proofs.lemmas.Bool.{cases_order, and_from, or_left}
use Rattle.descriptor.specs.Nodes.{Below}
use Rattle.plan_events.specs.declared.event.EventKind.TheVariants.{Started, Finished, Skipped}
use Rattle.plan_events.specs.declared.event.Event.{Event}
use Rattle.plan_events.specs.declared.outcome.Reply.{Reply}
use Rattle.resource_locks.specs.Declarations.{AtOrBelow}
use Rattle.resource_locks.specs.Plans.{PlanParts}
use Rattle.event_history.specs.Plans.{IsElder, is_same, IsPlanTree}
use Rattle.event_history.specs.Places.{StandsAt, StandsBefore, IsSettledAt, has}
use Rattle.event_history.specs.History.{IsLegal}
use Rattle.event_history.specs.Order.{goes_first, IsInOrder}
use Rattle.event_history.specs.Exclusion.{Overlaps}
use Rattle.event_history.proofs.Places.{has_at, before_more}
use Rattle.event_history.proofs.Histories.{started_unskipped, unskipped_above, finished_first}
use Rattle.event_history.proofs.Branches.{Branches}

pub overlaps_back : (h : List Event) (m n : ℕ) → Overlaps h m n → Overlaps h n m
overlaps_back h m n o = record { place = o.other_place; start = o.other_start; other_place = o.place; other_start = o.start; unended = o.other_unended; other_unended = o.unended }

module _ (p : PlanParts) (tree : IsPlanTree p.tree) (replies : ℕ → List Reply) (workers : ℕ) (h : List Event) (legal : IsLegal p replies workers h) where
  -- a node starts no later than what is below it
  pub start_of : (x m i : ℕ) → AtOrBelow p.tree x m → StandsAt h i Started m → (j : ℕ) × ((j ≤ i) × StandsAt h j Started x)
  start_of x m i (inl s) q = (i, (omega arith, subst (λ (y : ℕ). StandsAt h i Started y) (sym s) q))
  start_of x m i (inr b) q =
      let up = legal.start_above i x q.event q.here (subst (λ (y : ℕ). Below p.tree x y) (sym q.node) b) in
      let lt : up.place < i = up.before in
      (up.place, (omega (arith, lt), up.stands))

  -- and finishes no earlier
  pub finish_of : (x m f : ℕ) → AtOrBelow p.tree x m → has Started m h ≡ true → StandsBefore h f Finished x → StandsBefore h f Finished m
  finish_of x m f (inl s) q d = subst (λ (y : ℕ). StandsBefore h f Finished y) s d
  finish_of x m f (inr b) q d = let lt : d.place < f = d.before in before_more (omega (arith, lt)) (finished_first p replies workers h legal tree x m d.place b q d.stands)

  -- so where two nodes overlap, those above them do
  pub overlaps_above : (x y m n : ℕ) → AtOrBelow p.tree x m → AtOrBelow p.tree y n → Overlaps h m n → Overlaps h x y
  overlaps_above x y m n xm yn o =
      let s = start_of x m o.place xm o.start in
      let t = start_of y n o.other_place yn o.other_start in
      record {
        place = s.0;
        start = s.1.1;
        other_place = t.0;
        other_start = t.1.1;
        unended = λ d. o.unended (before_more t.1.0 (finish_of x m t.0 xm (has_at o.start) d));
        other_unended = λ d. o.other_unended (before_more s.1.0 (finish_of y n s.0 yn (has_at o.other_start) d));
      }

  -- where a node is settled, what has started at or below it has finished
  pub settled_branch : (a m i : ℕ) → AtOrBelow p.tree a m → has Started m h ≡ true → IsSettledAt h i a → StandsBefore h i Finished m
  settled_branch a m i r q (inl d) = finish_of a m i r q d
  settled_branch a m i (inl s) q (inr d) = absurd (started_unskipped p replies workers h legal d.place m q (subst (λ (y : ℕ). StandsAt h d.place Skipped y) s d.stands))
  settled_branch a m i (inr b) q (inr d) = absurd (unskipped_above p replies workers h legal d.place a m b q d.stands)

  module _ (order : IsInOrder p h) where
    -- where an elder child goes first, it is settled before what starts at or below a younger one
    pub elder_first : (a b n i : ℕ) → IsElder p.tree a b → goes_first p a b ≡ true → AtOrBelow p.tree b n → StandsAt h i Started n → IsSettledAt h i a ⊎ ((j : ℕ) × (j ≤ i) × IsSettledAt h j a)
    elder_first a b n i elder first bn s =
        let t = start_of b n i bn s in
        inr (t.0, t.1.0, order.elder_settled t.0 a t.1.1.event t.1.1.here (subst (λ (y : ℕ). IsElder p.tree a y) (sym t.1.1.node) elder) (subst (λ (y : ℕ). goes_first p a y ≡ true) (sym t.1.1.node) first))

    -- the branches of two such children never overlap
    pub serial : (a b m n : ℕ) → IsElder p.tree a b → goes_first p a b ≡ true → AtOrBelow p.tree a m → AtOrBelow p.tree b n → Overlaps h m n → ⊥
    serial a b m n elder first am bn o =
        elim (elder_first a b n o.other_place elder first bn o.other_start) [
          | inl s ↦ o.unended (settled_branch a m o.other_place am (has_at o.start) s)
          | inr s ↦ o.unended (before_more s.1 (settled_branch a m s.0 am (has_at o.start) s.2))
        ]

    -- nor do two nodes whose branches part at children of one thread
    pub serial_branches : (x m n : ℕ) → (r : Branches p.tree x m n) → is_same p r.left ≡ true → is_same p r.right ≡ true → Overlaps h m n → ⊥
    serial_branches x m n r left right o =
        elim (cases_order r.left r.right) [
          | inl s ↦ r.differ s
          | inr lt ↦ elim lt [
            | inl first ↦ serial r.left r.right m n (record { parent = r.top; elder = r.left_child; younger = r.right_child; before = first }) (goes r.left r.right left right) r.at_left r.at_right o
            | inr first ↦ serial r.right r.left n m (record { parent = r.top; elder = r.right_child; younger = r.left_child; before = first }) (goes r.right r.left right left) r.at_right r.at_left (overlaps_back h m n o)
          ]
        ]
      where
        goes : (a b : ℕ) → is_same p a ≡ true → is_same p b ≡ true → goes_first p a b ≡ true
        goes a b s t = and_from (is_same p a) _ s (or_left (is_same p b) _ t)
