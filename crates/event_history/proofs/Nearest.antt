-- Of the elders that go first, the nearest alone need be looked at.
use Rattle.std.proofs.Common.{◌≡◌, ℕ, zero, suc, ◌<◌, ◌≤◌, Bool, true, false, ◌&&◌, ◌||◌, List, inl, inr, sym, ◌∙◌, subst, arith}
use Rattle.std.proofs.lemmas.Bool.{and_parts, and_from, or_cases, or_left, or_right, cases_Bool, cases_eq, both_ways}
use Rattle.descriptor.specs.Nodes.{IsChild, is_child, size, parent_of}
use Rattle.plan_events.specs.declared.event.EventKind.{EventKind}
use Rattle.plan_events.specs.declared.event.EventKind.TheVariants.{Finished, Skipped}
use Rattle.plan_events.specs.declared.event.Event.{Event}
use Rattle.resource_locks.specs.Plans.{PlanParts}
use Rattle.event_history.specs.Plans.{IsElder, is_same}
use Rattle.event_history.specs.Places.{StandsAt, IsSettledAt, has}
use Rattle.event_history.specs.Order.{goes_first, is_opening, IsInOrder}
use Rattle.event_history.specs.Inside.Following.{started_by, MayGoNext}
use Rattle.event_history.proofs.Places.{has_stands, has_at}
use Rattle.event_history.proofs.Trees.{is_child_test, test_is_child}

-- the youngest of the elder children that go before b
pub record IsNearest (p : PlanParts) (a b : ℕ) : Type 0 where
  pub elder : IsElder p.tree a b
  pub first : goes_first p a b ≡ true
  pub none_between : (c : ℕ) → a < c → IsElder p.tree c b → goes_first p c b ≡ true → ⊥

-- from a number that passes on there is a last one before n
pub last_pass : (q : ℕ → Bool) (n m : ℕ) → m < n → q m ≡ true → (last : ℕ) × (m ≤ last) × (last < n) × (q last ≡ true) × ((x : ℕ) → last < x → x < n → q x ≡ false)
last_pass q zero m lt t = absurd (omega (arith, lt))
last_pass q (suc n) m lt t =
    elim (cases_Bool (q n)) [
      | inl u ↦ (n, omega (arith, lt), omega arith, u, λ x low high. absurd (omega (arith, low, high)))
      | inr u ↦ elim (cases_eq m n) [
        | inl s ↦ absurd (both_ways (q n) u (subst (λ (y : ℕ). q y ≡ true) s t))
        | inr ne ↦ (let r = last_pass q n m (omega (arith, lt, ne)) t in
            let inside : r.0 < n = r.2 in
            (r.0, r.1, omega (arith, inside), r.3, λ x low high. step x r.0 low high r.4 u))
      ]
    ]
  where
    step : (x l : ℕ) → l < x → x < suc n → ((y : ℕ) → l < y → y < n → q y ≡ false) → q n ≡ false → q x ≡ false
    step x l low high each u = elim (cases_eq x n) [ inl s ↦ subst (λ (y : ℕ). q y ≡ false) (sym s) u | inr ne ↦ each x low (omega (arith, high, ne)) ]

module _ (p : PlanParts) (h : List Event) (order : IsInOrder p h) (b : ℕ)
    (nearest : (a : ℕ) → IsNearest p a b → (has Finished a h || has Skipped a h) ≡ true) where
  settled_has : (i a : ℕ) → IsSettledAt h i a → (has Finished a h || has Skipped a h) ≡ true
  settled_has i a s = elim s [ inl d ↦ or_left (has Finished a h) (has Skipped a h) (has_at d.stands) | inr d ↦ or_right (has Finished a h) (has Skipped a h) (has_at d.stands) ]

  -- what stands for an elder shows those before it settled
  before_it : (a c i : ℕ) (k : EventKind) → StandsAt h i k c → IsElder p.tree a c → goes_first p a c ≡ true → (has Finished a h || has Skipped a h) ≡ true
  before_it a c i k s elder first =
      settled_has i a (order.elder_settled i a s.event s.here (subst (λ (x : ℕ). IsElder p.tree a x) (sym s.node) elder) (subst (λ (x : ℕ). goes_first p a x ≡ true) (sym s.node) first))

  -- where the nearest elder is settled, all are
  pub all_settled : (a : ℕ) → IsElder p.tree a b → goes_first p a b ≡ true → (has Finished a h || has Skipped a h) ≡ true
  all_settled a elder first =
      let q : ℕ → Bool = λ x. is_child p.tree elder.parent x && goes_first p x b in
      let l = last_pass q b a elder.before (and_from (is_child p.tree elder.parent a) (goes_first p a b) (test_is_child p.tree elder.parent a elder.elder) first) in
      let low : a ≤ l.0 = l.1 in
      let high : l.0 < b = l.2 in
      let inside : b < size p.tree = elder.younger.inside in
      let t = and_parts (is_child p.tree elder.parent l.0) (goes_first p l.0 b) l.3 in
      let ch : IsChild p.tree elder.parent l.0 = is_child_test p.tree elder.parent l.0 (omega (arith, high, inside)) t.0 in
      let near = nearest l.0 (record {
        elder = record { parent = elder.parent; elder = ch; younger = elder.younger; before = high };
        first = t.1;
        none_between = λ c lt between goes. both_ways (q c) (l.4 c lt between.before)
            (and_from (is_child p.tree elder.parent c) (goes_first p c b)
            (test_is_child p.tree elder.parent c (subst (λ (x : ℕ). IsChild p.tree x c) (sym between.younger.parent ∙ elder.younger.parent) between.elder)) goes);
      }) in
      elim (cases_eq a l.0) [
        | inl s ↦ subst (λ (x : ℕ). (has Finished x h || has Skipped x h) ≡ true) (sym s) near
        | inr ne ↦ (let between : IsElder p.tree a l.0 = record { parent = elder.parent; elder = elder.elder; younger = ch; before = omega (arith, low, ne) } in
            let goes : goes_first p a l.0 ≡ true = and_from (is_same p a) _ (and_parts (is_same p a) _ first).0 (or_left (is_same p l.0) _ (and_parts (is_same p l.0) _ t.1).0) in
            elim (or_cases (has Finished l.0 h) (has Skipped l.0 h) near) [
              | inl u ↦ (let s = has_stands Finished l.0 h u in before_it a l.0 s.0 Finished s.1 between goes)
              | inr u ↦ (let s = has_stands Skipped l.0 h u in before_it a l.0 s.0 Skipped s.1 between goes)
            ])
      ]

-- So an event may go next where its node's nearest elder is settled.
pub next_by_nearest : (p : PlanParts) (h : List Event) (e : Event) → IsInOrder p h → (is_opening e.kind ≡ true → (a : ℕ) → IsNearest p a e.node → (has Finished a h || has Skipped a h) ≡ true)
    → (is_opening e.kind ≡ true → 0 < e.node → is_same p e.node ≡ true → started_by (parent_of p.tree e.node) e.worker h ≡ true) → MayGoNext p h e
next_by_nearest p h e order nearest by = record { elders = λ q a elder first. all_settled p h order e.node (nearest q) a elder first; by_parent = by }
