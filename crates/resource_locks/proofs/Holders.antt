-- The node that holds what a node declares.
use Rattle.std.proofs.Common.{◌≡◌, ◌≢◌, ℕ, zero, suc, ◌<◌, true, false, ◌&&◌, eqb, ltb, cond, List, [], ◌∷◌, Option, Some, None, length, inl, inr, ◌⊎◌, refl, sym, ap, ◌∙◌, subst, arith}
use Rattle.std.proofs.lemmas.Bool.{cases_eq, cases_Bool, cond-true, cond-false, eq-eqb, eqb-true, ne_eqb, and_parts, and_from, or_cases, or_left, or_right, lt-ltb, le-ltb, false≢true}
use Rattle.descriptor.specs.Nodes.{size, parent_of}
use Rattle.descriptor.specs.declared.lock.Lock.{Lock}
use Rattle.descriptor.specs.declared.lock_mode.LockMode.{LockMode}
use Rattle.descriptor.specs.declared.lock_mode.LockMode.TheVariants.{Read, ReadWrite}
use Rattle.resource_locks.specs.Wants.{mode_for, HasLock}
use Rattle.resource_locks.specs.Declarations.{Declared, AtOrBelow, IsTop, IsLockTree, HasIsolated, IsFirstToDeclare, global}
use Rattle.resource_locks.specs.Held.{top_of, wants_write, isolates, is_whole, declares, holder_step, holder_of}
use Rattle.resource_locks.proofs.Wants.{has_wanted, wants_all, at_least_write}
use Rattle.resource_locks.proofs.Lines.{at_child, last_step}
use Rattle.resource_locks.proofs.Walks.{carried_down, carried_step, below_use, below_from}
use Rattle.resource_locks.proofs.Tops.{line, below_inside, below_above_zero, edge, top_root, top_engine, top_deeper, has_top, high, deep, top_is}

no_locks : (s : List Lock) → ltb 0 (length s) ≡ false → s ≡ []
no_locks [] f = refl
no_locks (l ∷ s) f = absurd (false≢true (sym f ∙ lt-ltb 0 (length (l ∷ s)) (omega arith)))

some_locks : (s : List Lock) → ltb 0 (length s) ≡ true → s ≢ []
some_locks s t e = false≢true (ap (λ (x : List Lock). ltb 0 (length x)) (sym e) ∙ t)

empty_cases : (s : List Lock) → (s ≡ []) ⊎ (s ≢ [])
empty_cases s = elim (cases_Bool (ltb 0 (length s))) [ inl t ↦ inr (some_locks s t) | inr f ↦ inl (no_locks s f) ]

write_use : (o : Option LockMode) → wants_write o ≡ true → o ≡ Some ReadWrite
write_use None t = absurd (false≢true t)
write_use (Some Read) t = absurd (false≢true t)
write_use (Some ReadWrite) t = refl

module _ (told : Declared) (tree : IsLockTree told) where
  isolates_use : (m : ℕ) → isolates told m ≡ true → (told.isolated m ≡ true) ⊎ HasLock (told.locks m) global ReadWrite
  isolates_use m t =
      elim (or_cases (told.isolated m) (wants_write (mode_for global (told.locks m))) t) [
        | inl i ↦ inl i
        | inr w ↦ inr (has_wanted (told.locks m) global ReadWrite (write_use (mode_for global (told.locks m)) w))
      ]

  isolates_from : (m : ℕ) → (told.isolated m ≡ true) ⊎ HasLock (told.locks m) global ReadWrite → isolates told m ≡ true
  isolates_from m (inl i) = or_left (told.isolated m) (wants_write (mode_for global (told.locks m))) i
  isolates_from m (inr l) = or_right (told.isolated m) (wants_write (mode_for global (told.locks m))) (ap wants_write (at_least_write (mode_for global (told.locks m)) (wants_all (told.locks m) global ReadWrite l)))

  at_inside : (c m : ℕ) → IsTop told.tree c → AtOrBelow told.tree c m → m < size told.tree
  at_inside c m top (inl e) = let h = top.child.inside in omega (arith, e, h)
  at_inside c m top (inr b) = below_inside told.tree c m b

  -- the test and what it tests
  pub whole_use : (c : ℕ) → IsTop told.tree c → is_whole told c ≡ true → HasIsolated told c
  whole_use c top t =
      let r = below_use (λ m. eqb (top_of told.tree m) c && isolates told m) (size told.tree) t in
      let b = and_parts (eqb (top_of told.tree r.0) c) (isolates told r.0) r.1.1 in
      let e = eqb-true (top_of told.tree r.0) c b.0 in
      elim (has_top told.tree tree.rooted r.0 r.1.0) [
        | high z w ↦ absurd (let pos = top.child.above_zero in omega (arith, z, e, pos))
        | deep other at ↦ (r.0, (subst (λ (x : ℕ). AtOrBelow told.tree x r.0) e at, isolates_use r.0 b.1))
      ]

  pub whole_from : (c : ℕ) → IsTop told.tree c → HasIsolated told c → is_whole told c ≡ true
  whole_from c top h =
      below_from (λ m. eqb (top_of told.tree m) c && isolates told m) (size told.tree) h.0 (at_inside c h.0 top h.1.0) (
      and_from (eqb (top_of told.tree h.0) c) (isolates told h.0) (eq-eqb (top_of told.tree h.0) c (top_is told.tree tree.rooted c h.0 top h.1.0)) (isolates_from h.0 h.1.1)
      )

  light_from : (c : ℕ) → IsTop told.tree c → (HasIsolated told c → ⊥) → is_whole told c ≡ false
  light_from c top none = elim (cases_Bool (is_whole told c)) [ inl t ↦ absurd (none (whole_use c top t)) | inr f ↦ f ]

  pub light_use : (c : ℕ) → IsTop told.tree c → is_whole told c ≡ false → HasIsolated told c → ⊥
  light_use c top f h = false≢true (sym f ∙ whole_from c top h)

  -- the cases of the step
  pub holder_high : (n : ℕ) → n < size told.tree → top_of told.tree n ≡ 0 → holder_of told n ≡ 0
  holder_high n inside e =
      let r = carried_step told.tree (holder_step told) 0 n inside in
      r.1 ∙ cond-true (eqb (top_of told.tree n) 0) 0 (cond (is_whole told (top_of told.tree n)) (top_of told.tree n) (cond (ltb 0 r.0) r.0 (cond (declares told n) n 0))) (eq-eqb (top_of told.tree n) 0 e)

  pub holder_whole : (n : ℕ) → n < size told.tree → top_of told.tree n ≢ 0 → is_whole told (top_of told.tree n) ≡ true → holder_of told n ≡ top_of told.tree n
  holder_whole n inside ne t =
      let r = carried_step told.tree (holder_step told) 0 n inside in
      let light : ℕ = cond (ltb 0 r.0) r.0 (cond (declares told n) n 0) in
      r.1
      ∙ cond-false (eqb (top_of told.tree n) 0) 0 (cond (is_whole told (top_of told.tree n)) (top_of told.tree n) light) (ne_eqb (top_of told.tree n) 0 ne)
      ∙ cond-true (is_whole told (top_of told.tree n)) (top_of told.tree n) light t

  holder_light : (n : ℕ) → 0 < n → n < size told.tree → top_of told.tree n ≢ 0 → is_whole told (top_of told.tree n) ≡ false
      → holder_of told n ≡ cond (ltb 0 (holder_of told (parent_of told.tree n))) (holder_of told (parent_of told.tree n)) (cond (declares told n) n 0)
  holder_light n pos inside ne f =
      let above = holder_of told (parent_of told.tree n) in
      let light : ℕ = cond (ltb 0 above) above (cond (declares told n) n 0) in
      carried_down told.tree (holder_step told) 0 n inside (tree.rooted.up n pos inside)
      ∙ cond-false (eqb (top_of told.tree n) 0) 0 (cond (is_whole told (top_of told.tree n)) (top_of told.tree n) light) (ne_eqb (top_of told.tree n) 0 ne)
      ∙ cond-false (is_whole told (top_of told.tree n)) (top_of told.tree n) light f

  pub none_at_plan : told.locks 0 ≡ []
  none_at_plan = elim (empty_cases (told.locks 0)) [ inl e ↦ e | inr ne ↦ absurd (let pos = (tree.locked 0 ne).above_zero in omega (arith, pos)) ]

  none_at_root : (a n : ℕ) → n ≡ 0 → AtOrBelow told.tree a n → told.locks a ≡ []
  none_at_root a n z (inl e) = ap (told.locks) (e ∙ z) ∙ none_at_plan
  none_at_root a n z (inr b) = absurd (let pos = below_above_zero told.tree a n b in omega (arith, pos, z))

  none_at_engine : (n : ℕ) → parent_of told.tree n ≡ 0 → told.locks n ≡ []
  none_at_engine n z = elim (empty_cases (told.locks n)) [ inl e ↦ e | inr ne ↦ absurd ((tree.locked n ne).parent z) ]

  -- What the holder of a node is, where nothing is isolated at or below its child of an engine.
  pub data HasHolder (n : ℕ) : Type 0 where
    none : holder_of told n ≡ 0 → ((a : ℕ) → AtOrBelow told.tree a n → told.locks a ≡ []) → HasHolder n
    some : 0 < holder_of told n → AtOrBelow told.tree (holder_of told n) n → IsFirstToDeclare told (holder_of told n) → top_of told.tree (holder_of told n) ≡ top_of told.tree n → HasHolder n

  pub has_holder : (n : ℕ) → n < size told.tree → (top_of told.tree n ≡ 0) ⊎ (is_whole told (top_of told.tree n) ≡ false) → HasHolder n
  has_holder n inside light = climb (suc n) n (omega arith) inside light
    where
      here : (m : ℕ) → 0 < m → m < size told.tree → parent_of told.tree m ≢ 0 → top_of told.tree m ≢ 0 → is_whole told (top_of told.tree m) ≡ false → HasHolder (parent_of told.tree m) → HasHolder m
      here m pos inside ne topped light (some up_pos at first same) =
          let up = tree.rooted.up m pos inside in
          let is = holder_light m pos inside topped light ∙ cond-true (ltb 0 (holder_of told (parent_of told.tree m))) (holder_of told (parent_of told.tree m)) (cond (declares told m) m 0) (lt-ltb 0 (holder_of told (parent_of told.tree m)) up_pos) in
          let e = edge told.tree tree.rooted m pos inside in
          let tops : top_of told.tree (holder_of told (parent_of told.tree m)) ≡ top_of told.tree m =
          elim (cases_eq (parent_of told.tree (parent_of told.tree m)) 0) [
            | inl z ↦ absurd (let h = holder_high (parent_of told.tree m) (omega (arith, up, inside)) (top_engine told.tree tree.rooted (parent_of told.tree m) (omega (arith, up, inside)) z) in omega (arith, h, up_pos))
            | inr other ↦ same ∙ sym (top_deeper told.tree tree.rooted m pos inside ne other)
          ] in
          some (subst (λ (x : ℕ). 0 < x) (sym is) up_pos) (subst (λ (x : ℕ). AtOrBelow told.tree x m) (sym is) (inr (at_child told.tree (holder_of told (parent_of told.tree m)) (parent_of told.tree m) m at e))) (subst (IsFirstToDeclare told) (sym is) first) (ap (top_of told.tree) is ∙ tops)
      here m pos inside ne topped light (none zero_above clear) =
          let is = holder_light m pos inside topped light ∙ cond-false (ltb 0 (holder_of told (parent_of told.tree m))) (holder_of told (parent_of told.tree m)) (cond (declares told m) m 0) (le-ltb 0 (holder_of told (parent_of told.tree m)) (omega (arith, zero_above))) in
          elim (cases_Bool (declares told m)) [
            | inl t ↦ (let itself : holder_of told m ≡ m = is ∙ cond-true (declares told m) m 0 t in
                let first : IsFirstToDeclare told m = record { declares = some_locks (told.locks m) t; none_above = λ a b. clear a (last_step told.tree a m b).1 } in
                some (omega (arith, itself, pos)) (inl itself) (subst (IsFirstToDeclare told) (sym itself) first) (ap (top_of told.tree) itself))
            | inr f ↦ none (is ∙ cond-false (declares told m) m 0 f) (λ a r. elim r [
              | inl e ↦ ap (told.locks) e ∙ no_locks (told.locks m) f
              | inr b ↦ clear a (last_step told.tree a m b).1
            ])
          ]

      climb : (fuel m : ℕ) → m < fuel → m < size told.tree → (top_of told.tree m ≡ 0) ⊎ (is_whole told (top_of told.tree m) ≡ false) → HasHolder m
      climb zero m lt inside light = absurd (omega (arith, lt))
      climb (suc k) m lt inside light =
          elim (cases_eq m 0) [
            | inl z ↦ none (holder_high m inside (ap (top_of told.tree) z ∙ top_root told.tree tree.rooted)) (λ a r. none_at_root a m z r)
            | inr nz ↦ (let pos : 0 < m = omega (arith, nz) in
                let up = tree.rooted.up m pos inside in
                elim (cases_eq (parent_of told.tree m) 0) [
                  | inl e ↦ none (holder_high m inside (top_engine told.tree tree.rooted m inside e)) (λ a r. elim r [
                    | inl s ↦ ap (told.locks) s ∙ none_at_engine m e
                    | inr b ↦ none_at_root a (parent_of told.tree m) e (last_step told.tree a m b).1
                  ])
                  | inr ne ↦ elim (has_top told.tree tree.rooted m inside) [
                    | high z r ↦ absurd (elim r [ inl a ↦ nz a | inr a ↦ ne a ])
                    | deep top at ↦ (let top_pos = top.child.above_zero in
                        let is_light : is_whole told (top_of told.tree m) ≡ false = elim light [ inl z ↦ absurd (omega (arith, z, top_pos)) | inr f ↦ f ] in
                        let up_light : (top_of told.tree (parent_of told.tree m) ≡ 0) ⊎ (is_whole told (top_of told.tree (parent_of told.tree m)) ≡ false) =
                        elim (cases_eq (parent_of told.tree (parent_of told.tree m)) 0) [
                          | inl z ↦ inl (top_engine told.tree tree.rooted (parent_of told.tree m) (omega (arith, up, inside)) z)
                          | inr other ↦ inr (ap (is_whole told) (sym (top_deeper told.tree tree.rooted m pos inside ne other)) ∙ is_light)
                        ] in
                        here m pos inside ne (λ z. omega (arith, z, top_pos)) is_light (climb k (parent_of told.tree m) (omega (arith, lt, up)) (omega (arith, up, inside)) up_light))
                  ]
                ])
          ]

  -- the first node to declare at or above another holds for it
  pub first_holds : (x n : ℕ) → n < size told.tree → (top_of told.tree n ≡ 0) ⊎ (is_whole told (top_of told.tree n) ≡ false) → AtOrBelow told.tree x n → IsFirstToDeclare told x → holder_of told n ≡ x
  first_holds x n inside light at first =
      elim (has_holder n inside light) [
        | none z clear ↦ absurd (first.declares (clear x at))
        | some pos other found same ↦ elim (line told.tree x (holder_of told n) n at other) [
          | inl r ↦ elim r [ inl e ↦ sym e | inr b ↦ absurd (first.declares (found.none_above x b)) ]
          | inr r ↦ elim r [ inl e ↦ e | inr b ↦ absurd (found.declares (first.none_above (holder_of told n) b)) ]
        ]
      ]

  -- so does a child of an engine where something is isolated at or below it
  pub whole_holds : (c n : ℕ) → IsTop told.tree c → HasIsolated told c → AtOrBelow told.tree c n → holder_of told n ≡ c
  whole_holds c n top h at =
      let e = top_is told.tree tree.rooted c n top at in
      let pos = top.child.above_zero in
      holder_whole n (at_inside c n top at) (λ z. omega (arith, z, e, pos)) (ap (is_whole told) e ∙ whole_from c top h) ∙ e

  pub light_holds : (c x n : ℕ) → IsTop told.tree c → (HasIsolated told c → ⊥) → AtOrBelow told.tree c n → AtOrBelow told.tree x n → IsFirstToDeclare told x → holder_of told n ≡ x
  light_holds c x n top light above at first = first_holds x n (at_inside c n top above) (inr (ap (is_whole told) (top_is told.tree tree.rooted c n top above) ∙ light_from c top light)) at first
