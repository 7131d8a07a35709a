-- Where nobody is about a node that waits, a node that is offered stands below it.
use Rattle.std.proofs.Common.{◌≡◌, ℕ, zero, suc, ◌-◌, ◌<◌, ◌≤◌, Bool, true, false, ◌&&◌, ◌||◌, ◌==◌, not, List, Option, inl, inr, refl, sym, ap, ◌∙◌, subst, arith}
use Rattle.std.proofs.lemmas.Bool.{cases_eq, cases_Bool, false≢true, both_ways, and_parts, and_from}
use Rattle.descriptor.specs.Nodes.{size, parent_of, IsChild, is_child, is_spare_at, bit, Below, child, under, count_below}
use Rattle.resource_locks.specs.Plans.{PlanParts}
use Rattle.resource_locks.proofs.Lines.{last_step}
use Rattle.event_history.specs.Plans.{sort_of, is_same}
use Rattle.event_history.proofs.Trees.{is_child_test, test_is_child}
use Rattle.scheduling.specs.declared.status.NodeStatus.{NodeStatus}
use Rattle.scheduling.specs.declared.status.NodeStatus.TheVariants.{Hidden, Ready, Claimed, Settled}
use Rattle.scheduling.specs.Choices.{in_batch}
use Rattle.scheduling.specs.Inside.Going.{word_of, owed}
use Rattle.scheduling.specs.Inside.Invariant.{IsCorePlan, IsNextSame}
use Rattle.scheduling.proofs.GoingBasics.{hidden_settled}

-- the last number that passes
last_one : (q : ℕ → Bool) (n : ℕ) → 0 < count_below q n → (d : ℕ) × (d < n) × (q d ≡ true) × ((x : ℕ) → d < x → x < n → q x ≡ false)
last_one q zero lt = absurd (omega (arith, lt))
last_one q (suc n) lt =
    elim (cases_Bool (q n)) [
      | inl t ↦ (n, omega arith, t, λ x a b. absurd (omega (arith, a, b)))
      | inr f ↦ (let none : bit (q n) ≡ 0 = ap bit f in
          let r = last_one q n (omega (arith, lt, none)) in
          let inside : r.0 < n = r.1 in
          (r.0, omega (arith, inside), r.2, λ x a b. elim (cases_eq x n) [ inl e ↦ ap q e ∙ f | inr ne ↦ r.3 x a (omega (arith, b, ne)) ]))
    ]

-- a child that isn't of the batch, and is no spare, comes after one on the same thread
not_batch : (a same spare none : Bool) → a ≡ true → spare ≡ false → (a && (not spare && (not same || none))) ≡ false → (same ≡ true) × (none ≡ false)
not_batch true true false false x y q = (refl, refl)
not_batch true true false true x y q = absurd (false≢true (sym q))
not_batch true false false none x y q = absurd (false≢true (sym q))
not_batch true same true none x y q = absurd (false≢true (sym y))
not_batch false same spare none x y q = absurd (false≢true x)

not_zero : (n : ℕ) → (n == 0) ≡ false → 0 < n
not_zero zero q = absurd (false≢true (sym q))
not_zero (suc n) q = omega arith

owed_hidden : (spare : Bool) → owed spare Hidden false ≡ true → spare ≡ false
owed_hidden true q = absurd (false≢true q)
owed_hidden false q = refl

-- an offered node stands below n
abbrev pub IsOfferedBelow : PlanParts → (ℕ → Type 0) → ℕ → Type 0
IsOfferedBelow p Offer n = (m : ℕ) × (Below p.tree n m × Offer m)

module _ (p : PlanParts) (core : IsCorePlan p) where
  -- of a plain child that comes after another on the same thread, the next such sibling before it
  pub elder_same : (n c : ℕ) → IsChild p.tree n c → is_spare_at p.tree c ≡ false → in_batch p n c ≡ false → (d : ℕ) × IsNextSame p d c
  elder_same n c ch plain off =
      let b = not_batch (is_child p.tree n c) (is_same p c) (is_spare_at p.tree c) (count_below (λ d. is_child p.tree n d && is_same p d) c == 0) (test_is_child p.tree n c ch) plain off in
      let last = last_one (λ d. is_child p.tree n d && is_same p d) c (not_zero (count_below (λ d. is_child p.tree n d && is_same p d) c) b.1) in
      let d : ℕ = last.0 in
      let lt : d < c = last.1 in
      let inside : c < size p.tree = ch.inside in
      let parts = and_parts (is_child p.tree n d) (is_same p d) last.2 in
      let dch : IsChild p.tree n d = is_child_test p.tree n d (omega (arith, lt, inside)) parts.0 in (
        d,
        record {
          elder = record { parent = n; elder = dch; younger = ch; before = lt };
          same = parts.1;
          plain = elim (cases_Bool (is_spare_at p.tree d)) [
            | inl y ↦ absurd (both_ways (is_spare_at p.tree c) plain (core.makers n c ch (ap (sort_of p.tree) (sym dch.parent) ∙ core.plan.spare_factory d y)))
            | inr no' ↦ no'
          ];
          next_same = b.0;
          next_plain = plain;
          between = λ x low high elder same. both_ways (is_child p.tree n x && is_same p x) (last.3 x low high)
              (and_from (is_child p.tree n x) (is_same p x) (test_is_child p.tree n x (subst (λ k. IsChild p.tree k x) (sym elder.younger.parent ∙ ch.parent) elder.elder)) same);
        },
      )

  -- Where a child that nobody came to has an elder that isn't settled, and each node that waits owes a child,
  module _ (l : List NodeStatus) (Offer : ℕ → Type 0) (offered : (n : ℕ) (o : Option ℕ) → word_of l n ≡ Ready o → Offer n)
      (elder : (n w c : ℕ) → word_of l n ≡ Claimed w → IsChild p.tree n c → is_spare_at p.tree c ≡ false → word_of l c ≡ Hidden → (d : ℕ) × (IsNextSame p d c × (word_of l d ≡ Settled → ⊥)))
      (owes_one : (n w : ℕ) → n < size p.tree → word_of l n ≡ Claimed w → (c : ℕ) × (IsChild p.tree n c × (owed (is_spare_at p.tree c) (word_of l c) false ≡ true))) where
    by_word : (n c : ℕ) (v : NodeStatus) → word_of l c ≡ v → IsChild p.tree n c → ((v : ℕ) → word_of l c ≡ Claimed v → IsOfferedBelow p Offer c) → (word_of l c ≡ Hidden → IsOfferedBelow p Offer n) → (word_of l c ≡ Settled → ⊥) → IsOfferedBelow p Offer n
    by_word n c Hidden at ch deeper hidden settled = hidden at
    by_word n c (Ready o) at ch deeper hidden settled = (c, (child ch, offered c o at))
    by_word n c (Claimed v) at ch deeper hidden settled = (let r = deeper v at in (r.0, (through n c r.0 ch r.1.0, r.1.1)))
      where
        through : (n c m : ℕ) → IsChild p.tree n c → Below p.tree c m → Below p.tree n m
        through n c m ch (child d) = under (child ch) d
        through n c m ch (under b d) = under (through n c _ ch b) d
    by_word n c Settled at ch deeper hidden settled = absurd (settled at)

    -- of a plain child that isn't settled, or of the nearest of its elders that somebody has come to
    child_open : (n w : ℕ) → word_of l n ≡ Claimed w → ((c v : ℕ) → IsChild p.tree n c → word_of l c ≡ Claimed v → IsOfferedBelow p Offer c) → (j c : ℕ) → c < j → IsChild p.tree n c → is_spare_at p.tree c ≡ false → (word_of l c ≡ Settled → ⊥) → IsOfferedBelow p Offer n
    child_open n w claimed deeper zero c lt ch plain settled = absurd (omega (arith, lt))
    child_open n w claimed deeper (suc j) c lt ch plain settled =
        by_word n c (word_of l c) refl ch (λ v. deeper c v ch)
        (λ hidden. (let e = elder n w c claimed ch plain hidden in
        let before : e.0 < c = e.1.0.elder.before in
        child_open n w claimed deeper j e.0 (omega (arith, before, lt)) (subst (λ k. IsChild p.tree k e.0) (sym e.1.0.elder.younger.parent ∙ ch.parent) e.1.0.elder.elder) e.1.0.plain e.1.1))
        settled

    waits_open : (n w : ℕ) → n < size p.tree → word_of l n ≡ Claimed w → ((c v : ℕ) → IsChild p.tree n c → word_of l c ≡ Claimed v → IsOfferedBelow p Offer c) → IsOfferedBelow p Offer n
    waits_open n w inside claimed deeper =
        let some = owes_one n w inside claimed in
        by_word n some.0 (word_of l some.0) refl some.1.0 (λ v at. deeper some.0 v some.1.0 at)
        (λ hidden. child_open n w claimed deeper (suc some.0) some.0 (omega arith) some.1.0 (owed_hidden (is_spare_at p.tree some.0) (ap (λ v. owed (is_spare_at p.tree some.0) v false) (sym hidden) ∙ some.1.1)) (λ settled. hidden_settled (sym settled ∙ hidden)))
        (λ settled. false≢true (ap (λ v. owed (is_spare_at p.tree some.0) v false) (sym settled) ∙ some.1.1))

    climb : (k n w : ℕ) → size p.tree - n ≤ k → n < size p.tree → word_of l n ≡ Claimed w → IsOfferedBelow p Offer n
    climb zero n w few inside claimed = absurd (omega (arith, few, inside))
    climb (suc k) n w few inside claimed =
        waits_open n w inside claimed (λ c v ch at.
        (let up : parent_of p.tree c < c = core.plan.rooted.up c ch.above_zero ch.inside in
        let par : parent_of p.tree c ≡ n = ch.parent in
        climb k c v (omega (arith, few, up, par, inside)) ch.inside at))

    -- each node that waits has an offered node below it;
    pub offered_below : (n w : ℕ) → n < size p.tree → word_of l n ≡ Claimed w → IsOfferedBelow p Offer n
    offered_below n w inside claimed = climb (size p.tree) n w (omega arith) inside claimed

    -- so there is one, until the plan is settled.
    pub some_offered : (word_of l 0 ≡ Hidden → ⊥) → (word_of l 0 ≡ Settled → ⊥) → (m : ℕ) × (m < size p.tree) × Offer m
    some_offered shown unsettled = go (word_of l 0) refl
      where
        go : (v : NodeStatus) → word_of l 0 ≡ v → (m : ℕ) × (m < size p.tree) × Offer m
        go Hidden at = absurd (shown at)
        go (Ready o) at = (0, core.plan.rooted.root, offered 0 o at)
        go (Claimed w) at = (let r = offered_below 0 w core.plan.rooted.root at in (r.0, (last_step p.tree 0 r.0 r.1.0).0.inside, r.1.1))
        go Settled at = absurd (unsettled at)
