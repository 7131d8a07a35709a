-- Counts of one node more, and what holds of a node as of its parent.
use Rattle.std.proofs.Common.{◌≡◌, ℕ, zero, suc, ◌+◌, ◌<◌, ◌≤◌, ◌||◌, ◌++◌, Bool, false, List, length, get_or, refl, sym, ap, ◌∙◌, arith}
use Rattle.std.proofs.lemmas.List.{get_or_default}
use Rattle.descriptor.specs.declared.kind.Kind.{Kind}
use Rattle.descriptor.specs.Kinds.{is_container, is_test}
use Rattle.descriptor.specs.Nodes.{count_below}
use Rattle.descriptor.proofs.Counts.{count_most}
use Rattle.run_results.specs.declared.node_places.NodePlace.{NodePlace}
use Rattle.run_results.specs.declared.told.NodeEvents.{NodeEvents}
use Rattle.run_results.specs.declared.counts.SortCounts.{SortCounts}
use Rattle.run_results.specs.Counts.{place_in, FollowParents, is_lost_within, is_lost, is_counted, is_found, counts_as_skipped, six, counts_in, counts_below, counts_with, AreAtMost}
use Rattle.run_results.specs.Told.{told_at}

module _ (outline : List NodePlace) (told : List NodeEvents) (follow : FollowParents outline) where
  -- so many steps up as the node's number are enough
  within_any : (j k n : ℕ) → n ≤ j → n ≤ k → n < length outline → is_lost_within outline told j n ≡ is_lost_within outline told k n
  within_any zero zero zero le le' lt = refl
  within_any zero (suc k) zero le le' lt = refl
  within_any (suc j) zero zero le le' lt = refl
  within_any (suc j) (suc k) zero le le' lt = refl
  within_any zero k (suc n) le le' lt = absurd (omega (arith, le))
  within_any (suc j) zero (suc n) le le' lt = absurd (omega (arith, le'))
  within_any (suc j) (suc k) (suc n) le le' lt =
      let up : (place_in outline (suc n)).parent < suc n = follow (suc n) (omega arith) lt in
      ap (λ (b : Bool). (told_at told (suc n)).skipped || b) (within_any j k (place_in outline (suc n)).parent (omega (arith, up, le)) (omega (arith, up, le')) (omega (arith, up, lt)))

  -- a node that was not skipped itself is lost as its parent is
  pub lost_up : (n : ℕ) → 0 < n → n < length outline → (told_at told n).skipped ≡ false → is_lost outline told n ≡ is_lost outline told (place_in outline n).parent
  lost_up zero above lt not = absurd (omega (arith, above))
  lost_up (suc n) above lt not =
      let up : (place_in outline (suc n)).parent < suc n = follow (suc n) above lt in
      ap (λ (b : Bool). b || is_lost_within outline told n (place_in outline (suc n)).parent) not
      ∙ within_any n (place_in outline (suc n)).parent (place_in outline (suc n)).parent (omega (arith, up)) (omega arith) (omega (arith, up, lt))

  -- the search goes on at the parent
  pub lost_on : (node n parent : ℕ) (p : NodePlace) → 0 < n → n < length outline → (told_at told n).skipped ≡ false → parent ≡ (get_or outline n p).parent → is_lost outline told node ≡ is_lost outline told n
      → (parent < length outline) × (parent < n) × (is_lost outline told node ≡ is_lost outline told parent)
  lost_on node n parent p above lt not is so =
      let here : (place_in outline n).parent ≡ parent = ap (λ (q : NodePlace). q.parent) (get_or_default outline n _ p lt) ∙ sym is in
      let up : (place_in outline n).parent < n = follow n above lt in
      (omega (arith, here, up, lt), omega (arith, here, up), so ∙ lost_up n above lt not ∙ ap (is_lost outline told) here)

count_small : (q : ℕ → Bool) (k n : ℕ) → k ≤ n → count_below q k ≤ n
count_small q k n le = omega (arith, count_most q k, le)

module _ (sort : Kind → Bool) (outline : List NodePlace) (told : List NodeEvents) where
  -- no count is above the number of nodes
  pub counts_small : (k n : ℕ) (c : SortCounts) → k ≤ n → c ≡ counts_below sort outline told k → AreAtMost c n
  counts_small k n c le is = rw is (record {
    found = count_small _ k n le;
    skipped = count_small _ k n le;
    started = count_small _ k n le;
    aborted = count_small _ k n le;
    successful = count_small _ k n le;
    failed = count_small _ k n le;
  })

  -- the counts of one node more
  pub counts_more : (k : ℕ) (c c' : SortCounts) (counted found lost : Bool) → c ≡ counts_below sort outline told k → counted ≡ is_counted sort outline k → found ≡ is_found outline told k → lost ≡ counts_as_skipped outline told k → c' ≡ counts_with c counted (told_at told k) found lost
      → c' ≡ counts_below sort outline told (k + 1)
  counts_more k c c' counted found lost so of_sort there up is =
      let next : suc k ≡ k + 1 = omega arith in
      is ∙ ap (λ (x : SortCounts). counts_with x counted (told_at told k) found lost) so ∙ ap (λ (x : Bool). counts_with (counts_below sort outline told k) x (told_at told k) found lost) of_sort
      ∙ ap (λ (x : Bool). counts_with (counts_below sort outline told k) (is_counted sort outline k) (told_at told k) x lost) there
      ∙ ap (λ (x : Bool). counts_with (counts_below sort outline told k) (is_counted sort outline k) (told_at told k) (is_found outline told k) x) up
      ∙ ap (counts_below sort outline told) next

-- the twelve counts, where those of each sort are known
pub twelve_are : (outline : List NodePlace) (told : List NodeEvents) (c t : SortCounts) (r : List ℕ) → c ≡ counts_below is_container outline told (length outline) → t ≡ counts_below is_test outline told (length outline) → r ≡ six c ++ six t → r ≡ counts_in outline told
twelve_are outline told c t r containers tests is =
    is ∙ ap (λ (x : SortCounts). six x ++ six t) containers ∙ ap (λ (x : SortCounts). six (counts_below is_container outline told (length outline)) ++ six x) tests
