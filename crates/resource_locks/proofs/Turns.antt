-- The turns of loops that hoist, on plain data.
use Rattle.std.proofs.Common.{◌≡◌, ◌≢◌, ℕ, zero, suc, ◌+◌, ◌<◌, ◌≤◌, Bool, true, false, ◌&&◌, ◌||◌, eqb, ltb, cond, List, [], ◌∷◌, ◌++◌, length, get_or, inl, inr, ◌⊎◌, refl, sym, ap, ◌∙◌, subst, arith, add-one}
use Rattle.std.proofs.Math.ListN.{set}
use Rattle.std.proofs.lemmas.Bool.{cases_eq, cond-true, cond-false, eq-eqb, ne_eqb, lt-ltb, le-ltb, and_from, and_left, and_right, or_right, or_from, false_from_ne_true}
use Rattle.std.proofs.lemmas.List.{ext_get_or, get_or-set_same, get_or-set_other}
use Rattle.descriptor.specs.Nodes.{Nodes, size, parent_of}
use Rattle.descriptor.specs.declared.lock.Lock.{Lock}
use Rattle.descriptor.specs.declared.lock_mode.LockMode.TheVariants.{Read, ReadWrite}
use Rattle.resource_locks.specs.Wants.{mode_for}
use Rattle.resource_locks.specs.LockSets.{join}
use Rattle.resource_locks.specs.Declarations.{Declared, IsLockTree, global}
use Rattle.resource_locks.specs.Held.{walk, table, any_below, wants_write, top_step, top_of, isolates, is_whole, declares, holder_step, holder_of, is_top, own, gathered, writer_step, writer_at, is_forced}
use Rattle.resource_locks.proofs.Walks.{walk_stays, table_at, table_len, carried_root, carried_down}
use Rattle.resource_locks.proofs.Tops.{has_top, high, deep, top_root}
use Rattle.resource_locks.proofs.Holders.{none_at_plan}

-- one more of a walk, and of a table
pub walk_next : {A : Type 0} (t : Nodes) (step : ℕ → A → A) (start : A) (n : ℕ) (v w : List A) (x : A) → v ≡ walk t step start n → w ≡ v ++ x ∷ [] → x ≡ step n (get_or v (parent_of t n) start) → w ≡ walk t step start (n + 1)
walk_next t step start n v w x e f g = rw add-one (rw (f, g, e) refl)

pub table_next : {A : Type 0} (f : ℕ → A) (n : ℕ) (v w : List A) (x : A) → v ≡ table f n → w ≡ v ++ x ∷ [] → x ≡ f n → w ≡ table f (n + 1)
table_next f n v w x e g h = rw add-one (rw (g, h, e) refl)

-- a list is the table of what stands in it
pub table_is : {A : Type 0} (f : ℕ → A) (d : A) (n : ℕ) (v : List A) → length v ≡ n → ((k : ℕ) → k < n → get_or v k d ≡ f k) → v ≡ table f n
table_is f d n v len each = ext_get_or d v (table f n) (len ∙ sym (table_len f n)) (λ k lt. each k (omega (arith, lt, len)) ∙ sym (table_at f d n k (omega (arith, lt, len))))

module _ (told : Declared) (tree : IsLockTree told) where
  pub top_inside : (n : ℕ) → n < size told.tree → top_of told.tree n < size told.tree
  top_inside n inside =
      elim (has_top told.tree tree.rooted n inside) [
        | high z r ↦ (let root = tree.rooted.root in omega (arith, z, root))
        | deep top at ↦ top.child.inside
      ]

  pub holder_root : holder_step told 0 0 ≡ 0
  holder_root = cond-true (eqb (top_of told.tree 0) 0) 0 (cond (is_whole told (top_of told.tree 0)) (top_of told.tree 0) (cond (declares told 0) 0 0)) (eq-eqb (top_of told.tree 0) 0 (top_root told.tree tree.rooted))

  pub holder_inside : (n : ℕ) → n < size told.tree → holder_of told n < size told.tree
  holder_inside n inside = climb (suc n) n (omega arith) inside
    where
      pick : (a b : Bool) (x y z : ℕ) → x < size told.tree → y < size told.tree → z < size told.tree → cond a x (cond b y z) < size told.tree
      pick true b x y z hx hy hz = hx
      pick false true x y z hx hy hz = hy
      pick false false x y z hx hy hz = hz

      climb : (fuel m : ℕ) → m < fuel → m < size told.tree → holder_of told m < size told.tree
      climb zero m lt inside = absurd (omega (arith, lt))
      climb (suc k) m lt inside =
          let root = tree.rooted.root in
          elim (cases_eq m 0) [
            | inl z ↦ (let e : holder_of told m ≡ 0 = ap (holder_of told) z ∙ carried_root told.tree (holder_step told) 0 root ∙ holder_root in omega (arith, e, root))
            | inr nz ↦ (let up = tree.rooted.up m (omega (arith, nz)) inside in
                let above = holder_of told (parent_of told.tree m) in
                let last : cond (ltb 0 above) above (cond (declares told m) m 0) < size told.tree = pick (ltb 0 above) (declares told m) above m 0 (climb k (parent_of told.tree m) (omega (arith, lt, up)) (omega (arith, up, inside))) inside root in
                subst (λ (x : ℕ). x < size told.tree) (sym (carried_down told.tree (holder_step told) 0 m inside up)) (
                pick (eqb (top_of told.tree m) 0) (is_whole told (top_of told.tree m)) 0 (top_of told.tree m) (cond (ltb 0 above) above (cond (declares told m) m 0)) root (top_inside m inside) last
                ))
          ]

  -- the holder of a node, by what code reads
  module _ (n above top : ℕ) (tops : List ℕ) (wholes : List Bool) (inside : n < size told.tree) (tops_is : tops ≡ walk told.tree (top_step told.tree) 0 (size told.tree)) (wholes_is : wholes ≡ table (is_whole told) (size told.tree)) (top_is : top ≡ get_or tops n 0) where
    topped : top ≡ top_of told.tree n
    topped = top_is ∙ ap (λ (v : List ℕ). get_or v n 0) tops_is

    pub top_fits : top < size told.tree
    top_fits = let h = top_inside n inside in let e = topped in omega (arith, h, e)

    whole_is : get_or wholes top false ≡ is_whole told (top_of told.tree n)
    whole_is = ap (λ (v : List Bool). get_or v top false) wholes_is ∙ table_at (is_whole told) false (size told.tree) top top_fits ∙ ap (is_whole told) topped

    by_top : top ≢ 0 → holder_step told n above ≡ cond (is_whole told (top_of told.tree n)) (top_of told.tree n) (cond (ltb 0 above) above (cond (declares told n) n 0))
    by_top ne = cond-false (eqb (top_of told.tree n) 0) 0 (cond (is_whole told (top_of told.tree n)) (top_of told.tree n) (cond (ltb 0 above) above (cond (declares told n) n 0))) (ne_eqb (top_of told.tree n) 0 (λ z. ne (topped ∙ z)))

    pub holder_a : top ≡ 0 → 0 ≡ holder_step told n above
    holder_a z = sym (cond-true (eqb (top_of told.tree n) 0) 0 (cond (is_whole told (top_of told.tree n)) (top_of told.tree n) (cond (ltb 0 above) above (cond (declares told n) n 0))) (eq-eqb (top_of told.tree n) 0 (sym topped ∙ z)))

    pub holder_b : top ≢ 0 → get_or wholes top false ≡ true → top ≡ holder_step told n above
    holder_b ne w = topped ∙ sym (by_top ne ∙ cond-true (is_whole told (top_of told.tree n)) (top_of told.tree n) (cond (ltb 0 above) above (cond (declares told n) n 0)) (sym whole_is ∙ w))

    by_light : top ≢ 0 → get_or wholes top false ≡ false → holder_step told n above ≡ cond (ltb 0 above) above (cond (declares told n) n 0)
    by_light ne w = by_top ne ∙ cond-false (is_whole told (top_of told.tree n)) (top_of told.tree n) (cond (ltb 0 above) above (cond (declares told n) n 0)) (sym whole_is ∙ w)

    pub holder_c : top ≢ 0 → get_or wholes top false ≡ false → 0 < above → above ≡ holder_step told n above
    holder_c ne w pos = sym (by_light ne w ∙ cond-true (ltb 0 above) above (cond (declares told n) n 0) (lt-ltb 0 above pos))

    pub holder_d : top ≢ 0 → get_or wholes top false ≡ false → above ≤ 0 → 0 < length (told.locks n) → n ≡ holder_step told n above
    holder_d ne w le pos = sym (by_light ne w ∙ cond-false (ltb 0 above) above (cond (declares told n) n 0) (le-ltb 0 above le) ∙ cond-true (declares told n) n 0 (lt-ltb 0 (length (told.locks n)) pos))

    pub holder_e : top ≢ 0 → get_or wholes top false ≡ false → above ≤ 0 → length (told.locks n) ≤ 0 → 0 ≡ holder_step told n above
    holder_e ne w le none = sym (by_light ne w ∙ cond-false (ltb 0 above) above (cond (declares told n) n 0) (le-ltb 0 above le) ∙ cond-false (declares told n) n 0 (le-ltb 0 (length (told.locks n)) none))

-- the global lock of a child of an engine, and of no other node
pub own_then : (told : Declared) (n : ℕ) (b : Bool) (s : List Lock) → 0 < n → top_of told.tree n ≡ n → b ≡ is_whole told n → s ≡ record { key = global; mode = cond b ReadWrite Read } ∷ [] → s ≡ own told n
own_then told n b s pos e f g =
    g
    ∙ ap (λ (x : Bool). record { key = global; mode = cond x ReadWrite Read } ∷ []) f
    ∙ sym (cond-true (is_top told.tree n) (record { key = global; mode = cond (is_whole told n) ReadWrite Read } ∷ []) [] (and_from (ltb 0 n) (eqb (top_of told.tree n) n) (lt-ltb 0 n pos) (eq-eqb (top_of told.tree n) n e)))

pub own_else : (told : Declared) (n : ℕ) → (n ≤ 0) ⊎ (top_of told.tree n ≢ n) → [] ≡ own told n
own_else told n (inl le) = sym (cond-false (is_top told.tree n) (record { key = global; mode = cond (is_whole told n) ReadWrite Read } ∷ []) [] (and_left (ltb 0 n) (eqb (top_of told.tree n) n) (le-ltb 0 n le)))
own_else told n (inr ne) = sym (cond-false (is_top told.tree n) (record { key = global; mode = cond (is_whole told n) ReadWrite Read } ∷ []) [] (and_right (ltb 0 n) (eqb (top_of told.tree n) n) (ne_eqb (top_of told.tree n) n ne)))

pub either_way : {A : Type 0} (b : Bool) (x : A) → cond b x x ≡ x
either_way true x = refl
either_way false x = refl

-- what a turn adds to the test of each node
pub whole_next : (told : Declared) (n : ℕ) (v w : List Bool) → length v ≡ size told.tree → ((k : ℕ) → k < size told.tree → get_or v k false ≡ any_below (λ m. eqb (top_of told.tree m) k && isolates told m) n)
    → (isolates told n ≡ true) × (top_of told.tree n < size told.tree) × (w ≡ set v (top_of told.tree n) true) ⊎ (isolates told n ≡ false) × (w ≡ v)
    → (k : ℕ) → k < size told.tree → get_or w k false ≡ any_below (λ m. eqb (top_of told.tree m) k && isolates told m) (n + 1)
whole_next told n v w len each (inr r) k lt =
    rw add-one (
    ap (λ (x : List Bool). get_or x k false) r.1 ∙ each k lt
    ∙ sym (ap (λ (b : Bool). b || any_below (λ m. eqb (top_of told.tree m) k && isolates told m) n) (and_right (eqb (top_of told.tree n) k) (isolates told n) r.0))
    )
whole_next told n v w len each (inl r) k lt =
    rw add-one (
    elim (cases_eq (top_of told.tree n) k) [
      | inl e ↦ ap (λ (x : List Bool). get_or x k false) r.2 ∙ ap (λ (x : ℕ). get_or (set v (top_of told.tree n) true) x false) (sym e) ∙ get_or-set_same v (top_of told.tree n) true false (let h = r.1 in omega (arith, h, len))
          ∙ sym (ap (λ (b : Bool). b || any_below (λ m. eqb (top_of told.tree m) k && isolates told m) n) (and_from (eqb (top_of told.tree n) k) (isolates told n) (eq-eqb (top_of told.tree n) k e) r.0))
      | inr ne ↦ ap (λ (x : List Bool). get_or x k false) r.2 ∙ get_or-set_other v (top_of told.tree n) k true false (λ e. ne (sym e)) ∙ each k lt
          ∙ sym (ap (λ (b : Bool). b || any_below (λ m. eqb (top_of told.tree m) k && isolates told m) n) (and_left (eqb (top_of told.tree n) k) (isolates told n) (ne_eqb (top_of told.tree n) k ne)))
    ]
    )

-- the plan isolates nothing
pub whole_start : (told : Declared) (k : ℕ) → IsLockTree told → false ≡ any_below (λ m. eqb (top_of told.tree m) k && isolates told m) 1
whole_start told k tree = sym (ap (λ (b : Bool). b || false) (and_right (eqb (top_of told.tree 0) k) (isolates told 0) (or_from (told.isolated 0) (wants_write (mode_for global (told.locks 0))) shared (ap (λ (s : List Lock). wants_write (mode_for global s)) (none_at_plan told tree)))))
  where
    shared : told.isolated 0 ≡ false
    shared = false_from_ne_true (told.isolated 0) (λ t. (let pos = (tree.isolated 0 t).above_zero in omega (arith, pos)))

-- what a turn adds to what each node holds
pub gather_next : (told : Declared) (n : ℕ) (v w : List (List Lock)) → length v ≡ size told.tree → ((k : ℕ) → k < size told.tree → get_or v k [] ≡ gathered told k n)
    → (0 < holder_of told n) × (holder_of told n < size told.tree) × (w ≡ set v (holder_of told n) (join (get_or v (holder_of told n) []) (told.locks n))) ⊎ (holder_of told n ≡ 0) × (w ≡ v)
    → (k : ℕ) → k < size told.tree → get_or w k [] ≡ gathered told k (n + 1)
gather_next told n v w len each (inr r) k lt =
    rw add-one (
    ap (λ (x : List (List Lock)). get_or x k []) r.1 ∙ each k lt
    ∙ sym (cond-false (ltb 0 k && eqb (holder_of told n) k) (join (gathered told k n) (told.locks n)) (gathered told k n) (elsewhere (cases_eq k 0)))
    )
  where
    elsewhere : (k ≡ 0) ⊎ (k ≢ 0) → (ltb 0 k && eqb (holder_of told n) k) ≡ false
    elsewhere (inl z) = and_left (ltb 0 k) (eqb (holder_of told n) k) (le-ltb 0 k (omega (arith, z)))
    elsewhere (inr nz) = and_right (ltb 0 k) (eqb (holder_of told n) k) (ne_eqb (holder_of told n) k (λ e. nz (sym e ∙ r.0)))
gather_next told n v w len each (inl r) k lt =
    rw add-one (
    elim (cases_eq (holder_of told n) k) [
      | inl e ↦ ap (λ (x : List (List Lock)). get_or x k []) r.2
          ∙ ap (λ (x : ℕ). get_or (set v (holder_of told n) (join (get_or v (holder_of told n) []) (told.locks n))) x []) (sym e)
          ∙ get_or-set_same v (holder_of told n) (join (get_or v (holder_of told n) []) (told.locks n)) [] (let h = r.1 in omega (arith, h, len))
          ∙ ap (λ (x : ℕ). join (get_or v x []) (told.locks n)) e
          ∙ ap (λ (x : List Lock). join x (told.locks n)) (each k lt)
          ∙ sym (cond-true (ltb 0 k && eqb (holder_of told n) k) (join (gathered told k n) (told.locks n)) (gathered told k n) (and_from (ltb 0 k) (eqb (holder_of told n) k) (lt-ltb 0 k (let h = r.0 in omega (arith, h, e))) (eq-eqb (holder_of told n) k e)))
      | inr ne ↦ ap (λ (x : List (List Lock)). get_or x k []) r.2 ∙ get_or-set_other v (holder_of told n) k (join (get_or v (holder_of told n) []) (told.locks n)) [] (λ e. ne (sym e)) ∙ each k lt
          ∙ sym (cond-false (ltb 0 k && eqb (holder_of told n) k) (join (gathered told k n) (told.locks n)) (gathered told k n) (and_right (ltb 0 k) (eqb (holder_of told n) k) (ne_eqb (holder_of told n) k ne)))
    ]
    )

-- the plan declares nothing
pub gather_start : (told : Declared) (k : ℕ) (v : List (List Lock)) → IsLockTree told → v ≡ table (own told) (size told.tree) → k < size told.tree → get_or v k [] ≡ gathered told k 1
gather_start told k v tree e lt =
    ap (λ (x : List (List Lock)). get_or x k []) e ∙ table_at (own told) [] (size told.tree) k lt
    ∙ sym (ap (λ (s : List Lock). cond (ltb 0 k && eqb (holder_of told 0) k) (join (own told k) s) (own told k)) (none_at_plan told tree) ∙ either_way (ltb 0 k && eqb (holder_of told 0) k) (own told k))

-- a node's mode, by what the walk has given its parent
pub forced_is : (told : Declared) (n : ℕ) (v : List Bool) → 0 < n → n < size told.tree → parent_of told.tree n < n → v ≡ walk told.tree (writer_step told) false n
    → get_or v (parent_of told.tree n) false ≡ is_forced told n
forced_is told n v pos inside up e =
    ap (λ (x : List Bool). get_or x (parent_of told.tree n) false) e
    ∙ walk_stays told.tree (writer_step told) false n (size told.tree) (parent_of told.tree n) up (omega (arith, up, inside))
    ∙ sym (ap (λ (b : Bool). b && writer_at told (parent_of told.tree n)) (lt-ltb 0 n pos))

-- the step of the child of an engine, for a node that is not the plan
pub top_high : (t : Nodes) (n above : ℕ) → parent_of t n ≡ 0 → 0 ≡ top_step t n above
top_high t n above z = sym (cond-true (eqb n 0 || eqb (parent_of t n) 0) 0 (cond (eqb (parent_of t (parent_of t n)) 0) n above) (or_right (eqb n 0) (eqb (parent_of t n) 0) (eq-eqb (parent_of t n) 0 z)))

top_low : (t : Nodes) (n above : ℕ) → 0 < n → parent_of t n ≢ 0 → top_step t n above ≡ cond (eqb (parent_of t (parent_of t n)) 0) n above
top_low t n above pos ne = cond-false (eqb n 0 || eqb (parent_of t n) 0) 0 (cond (eqb (parent_of t (parent_of t n)) 0) n above) (or_from (eqb n 0) (eqb (parent_of t n) 0) (ne_eqb n 0 (λ e. omega (arith, e, pos))) (ne_eqb (parent_of t n) 0 ne))

pub top_here : (t : Nodes) (n above : ℕ) → 0 < n → parent_of t n ≢ 0 → parent_of t (parent_of t n) ≡ 0 → n ≡ top_step t n above
top_here t n above pos ne z = sym (top_low t n above pos ne ∙ cond-true (eqb (parent_of t (parent_of t n)) 0) n above (eq-eqb (parent_of t (parent_of t n)) 0 z))

pub top_above : (t : Nodes) (n above : ℕ) → 0 < n → parent_of t n ≢ 0 → parent_of t (parent_of t n) ≢ 0 → above ≡ top_step t n above
top_above t n above pos ne other = sym (top_low t n above pos ne ∙ cond-false (eqb (parent_of t (parent_of t n)) 0) n above (ne_eqb (parent_of t (parent_of t n)) 0 other))
