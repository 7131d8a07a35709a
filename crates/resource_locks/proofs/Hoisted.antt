-- The held sets and modes that the walk down gives are hoisted.
use Rattle.std.proofs.Common.{◌≡◌, ℕ, ◌<◌, ◌≤◌, Bool, true, false, eqb, ltb, cond, List, [], ◌∷◌, Some, length, get_or, inl, inr, refl, sym, ap, ◌∙◌, subst, arith}
use Rattle.std.proofs.lemmas.Bool.{cases_lt, cases_Bool, cond-true, cond-false, eq-eqb, eqb-true, ltb-true, lt-ltb, and_parts, and_from, false_from_ne_true}
use Rattle.std.proofs.lemmas.Option.{none-some}
use Rattle.std.proofs.lemmas.List.{get_or_past}
use Rattle.descriptor.specs.Nodes.{size, parent_of, Below, child, under}
use Rattle.descriptor.specs.declared.lock.Lock.{Lock}
use Rattle.descriptor.specs.declared.lock_mode.LockMode.{LockMode}
use Rattle.descriptor.specs.declared.lock_mode.LockMode.TheVariants.{Read, ReadWrite}
use Rattle.descriptor.specs.declared.mode.Mode.{Mode}
use Rattle.descriptor.specs.declared.mode.Mode.TheVariants.{SameThread}
use Rattle.resource_locks.specs.Wants.{mode_for, writes, HasLock}
use Rattle.resource_locks.specs.Declarations.{Declared, AtOrBelow, IsTop, IsLockTree, HasIsolated, IsFirstToDeclare, IsToHold, isolated_all, global_read, first, global}
use Rattle.resource_locks.specs.Hoisted.{IsHoisted}
use Rattle.resource_locks.specs.Plans.{PlanParts, held_of, mode_of}
use Rattle.resource_locks.specs.Held.{top_of, is_whole, is_top, holder_of, own, held, writer_at, is_forced, hoisted_mode, plan_by}
use Rattle.resource_locks.proofs.Wants.{AtLeast, at_least_write, at_least_read, has_wanted, first_or_later, writes_use, writes_from}
use Rattle.resource_locks.proofs.SetLaws.{wants_exactly, one_mode}
use Rattle.resource_locks.proofs.Lines.{at_through, at_child}
use Rattle.resource_locks.proofs.Marked.{mark_above, mark_use}
use Rattle.resource_locks.proofs.Walks.{table_at, table_past}
use Rattle.resource_locks.proofs.Tops.{below_inside, below_above_zero, has_top, high, deep, top_of_top}
use Rattle.resource_locks.proofs.Holders.{whole_use, whole_from, light_use, holder_high, holder_whole, none, some, has_holder, whole_holds, light_holds}
use Rattle.resource_locks.proofs.Gathering.{gathered_set, gathers_own, gathers, gathered_from}

-- the one lock of a list of one
only_lock : (l : Lock) (key : List ℕ) (mode : LockMode) → HasLock (l ∷ []) key mode → l ≡ record { key = key; mode = mode }
only_lock l key mode h = elim (first_or_later l [] key mode h) [ inl e ↦ e | inr r ↦ absurd (none-some (record { key = key; mode = mode }) r.1) ]

module _ (told : Declared) (given : List Mode) (tree : IsLockTree told) where
  -- what the walk gives
  abbrev the_hoisting : PlanParts
  the_hoisting = plan_by told given

  held_is : (n : ℕ) → n < size told.tree → held_of the_hoisting n ≡ held told n
  held_is n inside = table_at (held told) [] (size told.tree) n inside

  nothing_past : (n : ℕ) (key : List ℕ) (mode : LockMode) → size told.tree ≤ n → HasLock (held_of the_hoisting n) key mode → ⊥
  nothing_past n key mode past h =
      let l = subst (λ (s : List Lock). HasLock s key mode) (table_past (held told) [] (size told.tree) n past) h in
      none-some (record { key = key; mode = mode }) l.1

  own_of_top : (n : ℕ) → IsTop told.tree n → own told n ≡ record { key = global; mode = cond (is_whole told n) ReadWrite Read } ∷ []
  own_of_top n top =
      cond-true (is_top told.tree n) (record { key = global; mode = cond (is_whole told n) ReadWrite Read } ∷ []) [] (
      and_from (ltb 0 n) (eqb (top_of told.tree n) n) (lt-ltb 0 n top.child.above_zero) (eq-eqb (top_of told.tree n) n (top_of_top told.tree tree.rooted n top))
      )

  top_of_own : (n : ℕ) → n < size told.tree → is_top told.tree n ≡ true → IsTop told.tree n
  top_of_own n inside e =
      let b = and_parts (ltb 0 n) (eqb (top_of told.tree n) n) e in
      let pos = ltb-true 0 n b.0 in
      let is = eqb-true (top_of told.tree n) n b.1 in
      elim (has_top told.tree tree.rooted n inside) [
        | high z r ↦ absurd (omega (arith, z, is, pos))
        | deep top at ↦ subst (IsTop told.tree) is top
      ]

  -- a child of an engine gathers the global lock
  own_mode : (n : ℕ) (b : Bool) → IsTop told.tree n → is_whole told n ≡ b → mode_for global (own told n) ≡ Some (cond b ReadWrite Read)
  own_mode n b top e = ap (mode_for global) (own_of_top n top) ∙ ap (λ (x : Bool). Some (cond x ReadWrite Read)) e

  light_test : (c : ℕ) → IsTop told.tree c → (HasIsolated told c → ⊥) → is_whole told c ≡ false
  light_test c top light = false_from_ne_true (is_whole told c) (λ e. light (whole_use told tree c top e))

  wanted : (n : ℕ) (key : List ℕ) (mode : LockMode) → IsToHold told n key mode → (n < size told.tree) × AtLeast mode (mode_for key (held told n))
  wanted n key mode (isolated_all top isolated (inl r)) = (
    top.child.inside,
    gathers_own told n key mode (size told.tree) (
        subst (λ (k : List ℕ). AtLeast mode (mode_for k (own told n))) (sym r.0) (
        subst (λ (m : LockMode). AtLeast m (mode_for global (own told n))) (sym r.1) (
        subst (AtLeast ReadWrite) (sym (own_mode n true top (whole_from told tree n top isolated))) tt
        )
        )
        ),
  )
  wanted n key mode (isolated_all top isolated (inr r)) =
      (top.child.inside, gathers told n key mode (size told.tree) r.0 (within_inside n r.0 top.child.inside r.1.0) top.child.above_zero (whole_holds told tree n r.0 top isolated r.1.0) r.1.1)
    where
      within_inside : (n m : ℕ) → n < size told.tree → AtOrBelow told.tree n m → m < size told.tree
      within_inside n m inside (inl e) = omega (arith, e, inside)
      within_inside n m inside (inr b) = below_inside told.tree n m b
  wanted n key mode (global_read top light k m) = (
    top.child.inside,
    gathers_own told n key mode (size told.tree) (
        subst (λ (x : List ℕ). AtLeast mode (mode_for x (own told n))) (sym k) (
        subst (λ (x : LockMode). AtLeast x (mode_for global (own told n))) (sym m) (
        subst (AtLeast Read) (sym (own_mode n false top (light_test n top light))) tt
        )
        )
        ),
  )
  wanted n key mode (first c top light at is_first r) =
      let inside : n < size told.tree = elim at [ inl e ↦ (let h = top.child.inside in omega (arith, e, h)) | inr b ↦ below_inside told.tree c n b ] in
      let pos : 0 < n = elim at [ inl e ↦ (let h = top.child.above_zero in omega (arith, e, h)) | inr b ↦ below_above_zero told.tree c n b ] in
      let m_inside : r.0 < size told.tree = elim r.1.0 [ inl e ↦ omega (arith, e, inside) | inr b ↦ below_inside told.tree n r.0 b ] in
      let above : AtOrBelow told.tree c r.0 = at_through told.tree c n r.0 at r.1.0 in
      (inside, gathers told n key mode (size told.tree) r.0 m_inside pos (light_holds told tree c n r.0 top light above r.1.0 is_first) r.1.1)

  -- what a node's own list says it is to hold
  own_to_hold : (n : ℕ) (key : List ℕ) (mode : LockMode) → n < size told.tree → mode_for key (own told n) ≡ Some mode → IsToHold told n key mode
  own_to_hold n key mode inside e =
      elim (cases_Bool (is_top told.tree n)) [
        | inr f ↦ absurd (none-some mode (sym (ap (mode_for key) (cond-false (is_top told.tree n) (record { key = global; mode = cond (is_whole told n) ReadWrite Read } ∷ []) [] f)) ∙ e))
        | inl b ↦ (let top = top_of_own n inside b in
            let l = only_lock (record { key = global; mode = cond (is_whole told n) ReadWrite Read }) key mode (
            has_wanted (record { key = global; mode = cond (is_whole told n) ReadWrite Read } ∷ []) key mode (sym (ap (mode_for key) (own_of_top n top)) ∙ e)
            ) in
            let k : key ≡ global = sym (ap (λ (x : Lock). x.key) l) in
            let m : mode ≡ cond (is_whole told n) ReadWrite Read = sym (ap (λ (x : Lock). x.mode) l) in
            elim (cases_Bool (is_whole told n)) [
              | inl w ↦ isolated_all top (whole_use told tree n top w) (inl (k, m ∙ cond-true (is_whole told n) ReadWrite Read w))
              | inr w ↦ global_read top (light_use told tree n top w) k (m ∙ cond-false (is_whole told n) ReadWrite Read w)
            ])
      ]

  -- a node holds for another what it is to hold
  holder_to_hold : (n m : ℕ) (key : List ℕ) (mode : LockMode) → m < size told.tree → 0 < n → holder_of told m ≡ n → HasLock (told.locks m) key mode → IsToHold told n key mode
  holder_to_hold n m key mode inside pos e l =
      elim (has_top told.tree tree.rooted m inside) [
        | high z r ↦ absurd (let h = holder_high told tree m inside z in omega (arith, h, e, pos))
        | deep top at ↦ elim (cases_Bool (is_whole told (top_of told.tree m))) [
          | inl w ↦ (let top_pos = top.child.above_zero in
              let same : top_of told.tree m ≡ n = sym (holder_whole told tree m inside (λ z. omega (arith, z, top_pos)) w) ∙ e in
              isolated_all (subst (IsTop told.tree) same top) (subst (HasIsolated told) same (whole_use told tree (top_of told.tree m) top w)) (inr (m, (subst (λ (x : ℕ). AtOrBelow told.tree x m) same at, l))))
          | inr w ↦ elim (has_holder told tree m inside (inr w)) [
            | none z clear ↦ absurd (omega (arith, z, e, pos))
            | some up above is_first tops ↦ (let n_inside : holder_of told m < size told.tree = elim above [ inl s ↦ omega (arith, s, inside) | inr b ↦ up_inside (holder_of told m) m b inside ] in
                elim (has_top told.tree tree.rooted (holder_of told m) n_inside) [
                  | high z r ↦ absurd (let top_pos = top.child.above_zero in omega (arith, z, tops, top_pos))
                  | deep other_top other_at ↦ first (top_of told.tree m) top (light_use told tree (top_of told.tree m) top w) (subst (AtOrBelow told.tree (top_of told.tree m)) e (subst (λ (x : ℕ). AtOrBelow told.tree x (holder_of told m)) tops other_at)) (subst (IsFirstToDeclare told) e is_first) (m, (subst (λ (x : ℕ). AtOrBelow told.tree x m) e above, l))
                ])
          ]
        ]
      ]
    where
      up_inside : (a m : ℕ) → Below told.tree a m → m < size told.tree → a < size told.tree
      up_inside a m (child c) inside = (let up = tree.rooted.up m c.above_zero c.inside in let p = c.parent in omega (arith, up, p, inside))
      up_inside a m (under {c = d} b c) inside = up_inside a d b (let up = tree.rooted.up m c.above_zero c.inside in let p = c.parent in omega (arith, up, p, inside))

  held_to_hold : (n : ℕ) (key : List ℕ) (mode : LockMode) → n < size told.tree → HasLock (held told n) key mode → IsToHold told n key mode
  held_to_hold n key mode inside l =
      elim (gathered_from told n key mode (size told.tree) (wants_exactly (held told n) key mode (gathered_set told n (size told.tree)) l)) [
        | inl e ↦ own_to_hold n key mode inside e
        | inr r ↦ holder_to_hold n r.0 key mode r.1.0 r.1.1 r.1.2 r.1.3
      ]

  in_hoisting : (n : ℕ) (key : List ℕ) (mode : LockMode) → n < size told.tree → HasLock (held told n) key mode → HasLock (held_of the_hoisting n) key mode
  in_hoisting n key mode inside l = subst (λ (s : List Lock). HasLock s key mode) (sym (held_is n inside)) l

  of_hoisting : (n : ℕ) (key : List ℕ) (mode : LockMode) → HasLock (held_of the_hoisting n) key mode → (n < size told.tree) × HasLock (held told n) key mode
  of_hoisting n key mode l =
      elim (cases_lt n (size told.tree)) [
        | inl inside ↦ (inside, subst (λ (s : List Lock). HasLock s key mode) (held_is n inside) l)
        | inr past ↦ absurd (nothing_past n key mode past l)
      ]

  -- a writer above a node is carried to its parent, and what is carried there has a writer
  writer_above : (a n : ℕ) → a < size told.tree → writes (held told a) ≡ true → Below told.tree a n → writer_at told (parent_of told.tree n) ≡ true
  writer_above = mark_above told.tree tree.rooted (λ n. writes (held told n))

  writer_use : (n : ℕ) → n < size told.tree → writer_at told n ≡ true → (a : ℕ) × ((a < size told.tree) × AtOrBelow told.tree a n × (writes (held told a) ≡ true))
  writer_use = mark_use told.tree tree.rooted (λ n. writes (held told n))

  mode_is : (n : ℕ) → n < size told.tree → mode_of the_hoisting n ≡ hoisted_mode told given n
  mode_is n inside = table_at (hoisted_mode told given) SameThread (size told.tree) n inside

  mode_forced : (a n : ℕ) (key : List ℕ) → HasLock (held_of the_hoisting a) key ReadWrite → Below told.tree a n → mode_of the_hoisting n ≡ SameThread
  mode_forced a n key l b =
      let r = of_hoisting a key ReadWrite l in
      mode_is n (below_inside told.tree a n b)
      ∙ cond-true (is_forced told n) SameThread (get_or given n SameThread) (
      and_from (ltb 0 n) (writer_at told (parent_of told.tree n)) (lt-ltb 0 n (below_above_zero told.tree a n b)) (writer_above a n r.0 (writes_from (held told a) key r.1) b)
      )

  mode_free : length given ≡ size told.tree → (n : ℕ) → ((a : ℕ) (key : List ℕ) → HasLock (held_of the_hoisting a) key ReadWrite → Below told.tree a n → ⊥) → mode_of the_hoisting n ≡ get_or given n SameThread
  mode_free len n free =
      elim (cases_lt n (size told.tree)) [
        | inr past ↦ table_past (hoisted_mode told given) SameThread (size told.tree) n past ∙ sym (get_or_past given n SameThread (omega (arith, len, past)))
        | inl inside ↦ (let unforced : is_forced told n ≡ false = false_from_ne_true (is_forced told n) (λ e. (
            let b = and_parts (ltb 0 n) (writer_at told (parent_of told.tree n)) e in
            let pos = ltb-true 0 n b.0 in
            let up = tree.rooted.up n pos inside in
            let r = writer_use (parent_of told.tree n) (omega (arith, up, inside)) b.1 in
            let w = writes_use (held told r.0) r.1.2 in
            free r.0 w.0 (in_hoisting r.0 w.0 ReadWrite r.1.0 w.1) (at_child told.tree r.0 (parent_of told.tree n) n r.1.1 (record { above_zero = pos; inside = inside; parent = refl }))
            )) in
            mode_is n inside ∙ cond-false (is_forced told n) SameThread (get_or given n SameThread) unforced)
      ]

  -- What the walk gives is hoisted.
  pub hoisted : length given ≡ size told.tree → IsHoisted told (λ n. get_or given n SameThread) (plan_by told given)
  hoisted len = record {
    writes = λ n key h. (let r = wanted n key ReadWrite h in in_hoisting n key ReadWrite r.0 (has_wanted (held told n) key ReadWrite (at_least_write (mode_for key (held told n)) r.1)));
    reads = λ n key h. (let r = wanted n key Read h in let m = at_least_read (mode_for key (held told n)) r.1 in (m.0, in_hoisting n key m.0 r.0 (has_wanted (held told n) key m.0 m.1)));
    only = λ n key mode l. (let r = of_hoisting n key mode l in held_to_hold n key mode r.0 r.1);
    one_mode = λ n key a b l k. (let r = of_hoisting n key a l in let s = of_hoisting n key b k in one_mode (held told n) key a b (gathered_set told n (size told.tree)) r.1 s.1);
    forced = mode_forced;
    free = mode_free len;
  }
