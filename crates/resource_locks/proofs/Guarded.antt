-- What is declared is held at or above.
use Rattle.std.proofs.Common.{◌≡◌, ◌≢◌, ℕ, zero, suc, ◌<◌, true, List, [], ◌∷◌, slice_get, inl, inr, ◌⊎◌, refl, sym, ap, ◌∙◌, arith}
use Rattle.std.proofs.lemmas.Bool.{cases_eq, cases_lt, cases_Bool}
use Rattle.std.proofs.lemmas.Option.{none-some}
use Rattle.descriptor.specs.Nodes.{size, parent_of, IsChild, Below}
use Rattle.descriptor.specs.declared.lock.Lock.{Lock}
use Rattle.descriptor.specs.declared.lock_mode.LockMode.{LockMode}
use Rattle.descriptor.specs.declared.lock_mode.LockMode.TheVariants.{Read, ReadWrite}
use Rattle.descriptor.specs.declared.mode.Mode.{Mode}
use Rattle.resource_locks.specs.Wants.{HasLock}
use Rattle.resource_locks.specs.Declarations.{Declared, AtOrBelow, IsTop, IsLockTree, IsFirstToDeclare, IsToHold, isolated_all, global_read, first, global}
use Rattle.resource_locks.specs.Hoisted.{IsHoisted, IsHeldFor, IsGuarded}
use Rattle.resource_locks.specs.Plans.{PlanParts}
use Rattle.resource_locks.specs.Held.{is_whole}
use Rattle.resource_locks.proofs.Lines.{at_through, at_child, last_step}
use Rattle.resource_locks.proofs.Holders.{whole_use, light_use}

pub no_lock : (key : List ℕ) (mode : LockMode) (locks : List Lock) → HasLock locks key mode → locks ≢ []
no_lock key mode locks l q = none-some (record { key = key; mode = mode }) (sym (ap (λ (x : List Lock). slice_get x l.0) q) ∙ l.1)

empty_cases : (locks : List Lock) → (locks ≡ []) ⊎ (locks ≢ [])
empty_cases [] = inl refl
empty_cases (x ∷ more) = inr (λ q. none-some x (ap (λ (l : List Lock). slice_get l 0) (sym q)))

module _ (told : Declared) (tree : IsLockTree told) where
  -- a node deeper than an engine is at or below a child of an engine
  top_above : (n : ℕ) → 0 < n → n < size told.tree → parent_of told.tree n ≢ 0 → (c : ℕ) × (IsTop told.tree c × AtOrBelow told.tree c n)
  top_above n pos inside deep = climb (suc n) n (omega arith) pos inside deep
    where
      climb : (fuel m : ℕ) → m < fuel → 0 < m → m < size told.tree → parent_of told.tree m ≢ 0 → (c : ℕ) × (IsTop told.tree c × AtOrBelow told.tree c m)
      climb zero m lt pos inside deep = absurd (omega (arith, lt))
      climb (suc k) m lt pos inside deep =
          let up : parent_of told.tree m < m = tree.rooted.up m pos inside in
          let edge : IsChild told.tree (parent_of told.tree m) m = record { above_zero = pos; inside = inside; parent = refl } in
          let up_pos : 0 < parent_of told.tree m = omega (arith, deep) in
          let up_in : parent_of told.tree m < size told.tree = omega (arith, up, inside) in
          elim (cases_eq (parent_of told.tree (parent_of told.tree m)) 0) [
            | inl z ↦ (m, (record { engine = parent_of told.tree m; of_plan = record { above_zero = up_pos; inside = up_in; parent = z }; child = edge }, inl refl))
            | inr ne ↦ (let r = climb k (parent_of told.tree m) (omega (arith, lt, up)) up_pos up_in ne in (r.0, (r.1.0, inr (at_child told.tree r.0 (parent_of told.tree m) m r.1.1 edge))))
          ]

  -- at or above a node, there is a first one to declare locks, or none declares
  first_above : (n : ℕ) → ((x : ℕ) × (AtOrBelow told.tree x n × IsFirstToDeclare told x)) ⊎ ((x : ℕ) → AtOrBelow told.tree x n → told.locks x ≡ [])
  first_above n = climb (suc n) n (omega arith)
    where
      -- by what is known of the nodes above
      here : (m : ℕ) → ((x : ℕ) → Below told.tree x m → told.locks x ≡ []) → ((x : ℕ) × (AtOrBelow told.tree x m × IsFirstToDeclare told x)) ⊎ ((x : ℕ) → AtOrBelow told.tree x m → told.locks x ≡ [])
      here m none =
          elim (empty_cases (told.locks m)) [
            | inl e ↦ inr (λ x r. elim r [ inl s ↦ ap (told.locks) s ∙ e | inr b ↦ none x b ])
            | inr ne ↦ inl (m, (inl refl, record { declares = ne; none_above = none }))
          ]

      climb : (fuel m : ℕ) → m < fuel → ((x : ℕ) × (AtOrBelow told.tree x m × IsFirstToDeclare told x)) ⊎ ((x : ℕ) → AtOrBelow told.tree x m → told.locks x ≡ [])
      climb zero m lt = absurd (omega (arith, lt))
      climb (suc k) m lt =
          elim (cases_lt 0 m) [
            | inr le ↦ here m (λ x b. (let pos = (last_step told.tree x m b).0.above_zero in absurd (omega (arith, le, pos))))
            | inl pos ↦ elim (cases_lt m (size told.tree)) [
              | inr le ↦ here m (λ x b. (let inside = (last_step told.tree x m b).0.inside in absurd (omega (arith, le, inside))))
              | inl inside ↦ (let up : parent_of told.tree m < m = tree.rooted.up m pos inside in
                  let edge : IsChild told.tree (parent_of told.tree m) m = record { above_zero = pos; inside = inside; parent = refl } in
                  elim (climb k (parent_of told.tree m) (omega (arith, up, lt))) [
                    | inl r ↦ inl (r.0, (inr (at_child told.tree r.0 (parent_of told.tree m) m r.1.0 edge), r.1.1))
                    | inr none ↦ here m (λ x b. none x (last_step told.tree x m b).1)
                  ])
            ]
          ]

  module _ (given : ℕ → Mode) (h : PlanParts) (hoisted : IsHoisted told given h) where
    -- what a node is to hold, it holds
    holds_it : (x n : ℕ) (key : List ℕ) (mode : LockMode) → AtOrBelow told.tree x n → IsToHold told x key mode → IsHeldFor told h n key mode
    holds_it x n key ReadWrite above to = record { node = x; above = above; held_mode = ReadWrite; holds = hoisted.writes x key to; writes = λ q. refl }
    holds_it x n key Read above to = (let r = hoisted.reads x key to in record { node = x; above = above; held_mode = r.0; holds = r.1; writes = λ q. absurd (modes q) })
      where
        modes : Read ≡ ReadWrite → ⊥
        modes q = cc

    -- a lock of a node's own list is held by the first node to declare above it, or by the child of its engine
    own_held : (a n : ℕ) (key : List ℕ) (mode : LockMode) → AtOrBelow told.tree a n → HasLock (told.locks a) key mode → IsHeldFor told h n key mode
    own_held a n key mode an l =
        elim (first_above a) [
          | inr empty ↦ absurd (no_lock key mode (told.locks a) l (empty a (inl refl)))
          | inl x ↦ (let deep = tree.locked x.0 x.1.1.declares in
              let c = top_above x.0 deep.above_zero deep.inside deep.parent in
              let ca = at_through told.tree c.0 x.0 a c.1.1 x.1.0 in
              elim (cases_Bool (is_whole told c.0)) [
                | inl w ↦ holds_it c.0 n key mode (at_through told.tree c.0 a n ca an) (isolated_all c.1.0 (whole_use told tree c.0 c.1.0 w) (inr (a, (ca, l))))
                | inr f ↦ holds_it x.0 n key mode (at_through told.tree x.0 a n x.1.0 an) (first c.0 c.1.0 (light_use told tree c.0 c.1.0 f) c.1.1 x.1.1 (a, (x.1.0, l)))
              ])
        ]

    isolated_held : (a n : ℕ) (key : List ℕ) (mode : LockMode) → AtOrBelow told.tree a n → told.isolated a ≡ true → key ≡ global → mode ≡ ReadWrite → IsHeldFor told h n key mode
    isolated_held a n key mode an q k m =
        let deep = tree.isolated a q in
        let c = top_above a deep.above_zero deep.inside deep.parent in
        holds_it c.0 n key mode (at_through told.tree c.0 a n c.1.1 an) (isolated_all c.1.0 (a, (c.1.1, inl q)) (inl (k, m)))

    engine_held : (c n : ℕ) (key : List ℕ) (mode : LockMode) → IsTop told.tree c → AtOrBelow told.tree c n → key ≡ global → mode ≡ Read → IsHeldFor told h n key mode
    engine_held c n key mode top cn k m =
        elim (cases_Bool (is_whole told c)) [
          | inl w ↦ (let held = holds_it c n key ReadWrite cn (isolated_all top (whole_use told tree c top w) (inl (k, refl))) in
              record { node = held.node; above = held.above; held_mode = held.held_mode; holds = held.holds; writes = λ q. held.writes refl })
          | inr f ↦ holds_it c n key mode cn (global_read top (light_use told tree c top f) k m)
        ]

    -- What a node declares, itself or above it, is held at or above it.
    pub guarded : IsGuarded told h
    guarded = record {
      holder = λ n key mode d. elim d.1.1 [
        | inl l ↦ own_held d.0 n key mode d.1.0 l
        | inr r ↦ elim r [
          | inl i ↦ isolated_held d.0 n key mode d.1.0 i.0 i.1 i.2
          | inr g ↦ engine_held g.0.0 n key mode g.0.1 (at_through told.tree g.0.0 d.0 n g.0.2 d.1.0) g.1 g.2
        ]
      ];
      forced = hoisted.forced;
    }
