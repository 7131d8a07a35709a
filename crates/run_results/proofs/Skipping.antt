-- A node counts as skipped exactly where it was, or where it is no spare and a node that it is below was.
use Rattle.std.proofs.Common.{◌≡◌, ◌⊎◌, ℕ, zero, suc, ◌<◌, ◌≤◌, ◌||◌, Bool, true, false, cond, List, length, inl, inr, refl, sym, ap, subst, ◌∙◌, arith}
use Rattle.std.proofs.lemmas.Bool.{or_right}
use Rattle.std.proofs.lemmas.List.FromFn.{get_or-map-range_with_len}
use Rattle.descriptor.specs.Nodes.{Nodes, IsTree, IsChild, Below, child, under, size, parent_of, is_spare_at}
use Rattle.plan_events.specs.declared.event.Event.{Event}
use Rattle.run_results.specs.declared.node_places.NodePlace.{NodePlace}
use Rattle.run_results.specs.declared.told.NodeEvents.{NodeEvents}
use Rattle.run_results.specs.Told.{is_skipped, all_told, told_at}
use Rattle.run_results.specs.Counts.{place_of, outline_of, place_in, is_lost_within, is_lost, counts_as_skipped, IsBelowSkipped, WasSkipped, SkipsReachBelow}
use Rattle.run_results.proofs.Places.{places_len, parent_kept}
use Rattle.run_results.proofs.ToldMore.{told_get}

or_either : (a b : Bool) → (a || b) ≡ true → (a ≡ true) ⊎ (b ≡ true)
or_either true b h = inl refl
or_either false b h = inr h

module _ (outline : List NodePlace) (told : List NodeEvents) where
  -- a node that was skipped is lost
  own : (k n : ℕ) → (told_at told n).skipped ≡ true → is_lost_within outline told k n ≡ true
  own zero n h = h
  own (suc k) zero h = h
  own (suc k) (suc n) h = ap (λ (b : Bool). b || is_lost_within outline told k (place_in outline (suc n)).parent) h

  -- so is a node whose parent is lost
  up : (k n : ℕ) → 0 < n → is_lost_within outline told k (place_in outline n).parent ≡ true → is_lost_within outline told (suc k) n ≡ true
  up k zero above h = absurd (omega (arith, above))
  up k (suc n) above h = or_right (told_at told (suc n)).skipped (is_lost_within outline told k (place_in outline (suc n)).parent) h

module _ (t : Nodes) (tree : IsTree t) (events : List Event) where
  abbrev places : List NodePlace
  places = outline_of t

  abbrev known : List NodeEvents
  known = all_told (length (outline_of t)) events

  abbrev was_skipped : ℕ → Bool
  was_skipped n = is_skipped events n

  told_is : (n : ℕ) → n < size t → (told_at known n).skipped ≡ was_skipped n
  told_is n lt = ap (λ (x : NodeEvents). x.skipped) (told_get (length (outline_of t)) events n _ (rw (places_len t tree) lt))

  parent_is : (n : ℕ) → 0 < n → n < size t → (place_in places n).parent ≡ parent_of t n
  parent_is n above lt = ap (λ (p : NodePlace). p.parent) (get_or-map-range_with_len (place_of t) 0 (size t) n n _ lt (omega arith)) ∙ parent_kept t tree n above

  -- it was skipped, or a node that it is below
  abbrev AtOrBelowSkipped : ℕ → Type 0
  AtOrBelowSkipped n = (was_skipped n ≡ true) ⊎ IsBelowSkipped t events n

  itself : (n : ℕ) → n < size t → (told_at known n).skipped ≡ true → was_skipped n ≡ true
  itself n lt h = sym (told_is n lt) ∙ h

  -- what was skipped stays so on the way down
  down : (n p : ℕ) → IsChild t p n → AtOrBelowSkipped p → IsBelowSkipped t events n
  down n p e (inl own) = (p, child e, own)
  down n p e (inr above) = (above.0, under above.1 e, above.2)

  forth : (k n : ℕ) → n < size t → is_lost_within places known k n ≡ true → AtOrBelowSkipped n
  forth zero n lt h = inl (itself n lt h)
  forth (suc k) zero lt h = inl (itself zero lt h)
  forth (suc k) (suc n) lt h =
      let is : (place_in places (suc n)).parent ≡ parent_of t (suc n) = parent_is (suc n) (omega arith) lt in
      let less : parent_of t (suc n) < suc n = tree.up (suc n) (omega arith) lt in
      elim (or_either (told_at known (suc n)).skipped (is_lost_within places known k (place_in places (suc n)).parent) h) [
        | inl own ↦ inl (itself (suc n) lt own)
        | inr lost ↦ inr (down (suc n) (place_in places (suc n)).parent (record { above_zero = omega arith; inside = lt; parent = sym is }) (forth k (place_in places (suc n)).parent (omega (arith, is, less, lt)) lost))
      ]

  reach : (a k n : ℕ) → n ≤ k → n < size t → was_skipped a ≡ true → Below t a n → is_lost_within places known k n ≡ true
  reach a zero n le lt s (child e) = absurd (omega (arith, le, e.above_zero))
  reach a zero n le lt s (under b e) = absurd (omega (arith, le, e.above_zero))
  reach a (suc k) n le lt s (child e) =
      let is : (place_in places n).parent ≡ parent_of t n = parent_is n e.above_zero lt in
      let less : parent_of t n < n = tree.up n e.above_zero lt in
      up places known k n e.above_zero (own places known k (place_in places n).parent (told_is (place_in places n).parent (omega (arith, is, less, lt)) ∙ ap was_skipped (is ∙ e.parent) ∙ s))
  reach a (suc k) n le lt s (under b e) =
      let is : (place_in places n).parent ≡ parent_of t n = parent_is n e.above_zero lt in
      let less : parent_of t n < n = tree.up n e.above_zero lt in
      up places known k n e.above_zero (reach a k (place_in places n).parent (omega (arith, is, less, le)) (omega (arith, is, less, lt)) s (subst (Below t a) (sym e.parent ∙ sym is) b))

  back : (n : ℕ) → n < size t → AtOrBelowSkipped n → is_lost places known n ≡ true
  back n lt (inl own_skip) = own places known n n (told_is n lt ∙ own_skip)
  back n lt (inr above) = reach above.0 n n (omega arith) lt above.2 above.1

  spare_is : (n : ℕ) → n < size t → (place_in places n).spare ≡ is_spare_at t n
  spare_is n lt = ap (λ (p : NodePlace). p.spare) (get_or-map-range_with_len (place_of t) 0 (size t) n n _ lt (omega arith))

  counted_is : (n : ℕ) → n < size t → counts_as_skipped places known n ≡ cond (is_spare_at t n) (told_at known n).skipped (is_lost places known n)
  counted_is n lt = ap (λ (b : Bool). cond b (told_at known n).skipped (is_lost places known n)) (spare_is n lt)

  told_by : (b : Bool) (n : ℕ) → n < size t → b ≡ is_spare_at t n → cond b (told_at known n).skipped (is_lost places known n) ≡ true → WasSkipped t events n
  told_by true n lt spare h = inl (itself n lt h)
  told_by false n lt spare h = elim (forth n n lt h) [ inl here ↦ inl here | inr above ↦ inr (sym spare, above) ]

  shown_by : (b : Bool) (n : ℕ) → n < size t → b ≡ is_spare_at t n → WasSkipped t events n → cond b (told_at known n).skipped (is_lost places known n) ≡ true
  shown_by true n lt spare (inl here) = told_is n lt ∙ here
  shown_by true n lt spare (inr above) = absurd (cc)
  shown_by false n lt spare (inl here) = back n lt (inl here)
  shown_by false n lt spare (inr above) = back n lt (inr above.1)

  pub skips_reach_below : SkipsReachBelow t events
  skips_reach_below n lt = (
    λ h. told_by (is_spare_at t n) n lt refl (sym (counted_is n lt) ∙ h),
    λ w. counted_is n lt ∙ shown_by (is_spare_at t n) n lt refl w,
  )
