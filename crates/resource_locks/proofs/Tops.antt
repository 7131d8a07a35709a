-- The child of an engine that a node is at or below.
use Rattle.std.proofs.Common.{◌≡◌, ◌≢◌, ℕ, zero, suc, ◌<◌, false, eqb, cond, inl, inr, ◌⊎◌, refl, sym, ap, ◌∙◌, subst, arith}
use Rattle.std.proofs.lemmas.Bool.{cases_eq, cond-true, cond-false, eq-eqb, ne_eqb, or_right, or_from}
use Rattle.descriptor.specs.Nodes.{Nodes, size, parent_of, is_high, IsChild, Below, child, under}
use Rattle.resource_locks.specs.Declarations.{AtOrBelow, IsTop, IsRooted}
use Rattle.resource_locks.proofs.Lines.{at_child, last_step}
use Rattle.resource_locks.specs.Held.{top_step, top_of}
use Rattle.resource_locks.proofs.Walks.{carried_root, carried_down, carried_step}

-- two nodes at or above one node
pub line : (t : Nodes) (x y n : ℕ) → AtOrBelow t x n → AtOrBelow t y n → AtOrBelow t x y ⊎ AtOrBelow t y x
line t x y n (inl e) r = inr (subst (AtOrBelow t y) (sym e) r)
line t x y n (inr b) (inl e) = inl (subst (AtOrBelow t x) (sym e) (inr b))
line t x y n (inr (child c)) (inr d) = inr (subst (AtOrBelow t y) c.parent (last_step t y n d).1)
line t x y n (inr (under {c = m} b c)) (inr d) = line t x y m (inr b) (subst (AtOrBelow t y) c.parent (last_step t y n d).1)

pub below_inside : (t : Nodes) (a n : ℕ) → Below t a n → n < size t
below_inside t a n b = (last_step t a n b).0.inside

pub below_above_zero : (t : Nodes) (a n : ℕ) → Below t a n → 0 < n
below_above_zero t a n b = (last_step t a n b).0.above_zero

module _ (t : Nodes) (tree : IsRooted t) where
  -- one step up
  pub edge : (n : ℕ) → 0 < n → n < size t → IsChild t (parent_of t n) n
  edge n pos inside = record { above_zero = pos; inside = inside; parent = refl }

  pub top_root : top_of t 0 ≡ 0
  top_root = carried_root t (top_step t) 0 tree.root

  pub top_engine : (n : ℕ) → n < size t → parent_of t n ≡ 0 → top_of t n ≡ 0
  top_engine n inside e =
      let r = carried_step t (top_step t) 0 n inside in
      r.1 ∙ cond-true (is_high t n) 0 (cond (eqb (parent_of t (parent_of t n)) 0) n r.0) (or_right (eqb n 0) (eqb (parent_of t n) 0) (eq-eqb (parent_of t n) 0 e))

  low : (n : ℕ) → 0 < n → parent_of t n ≢ 0 → is_high t n ≡ false
  low n pos ne = or_from (eqb n 0) (eqb (parent_of t n) 0) (ne_eqb n 0 (λ e. omega (arith, e, pos))) (ne_eqb (parent_of t n) 0 ne)

  -- a child of an engine is its own
  pub top_itself : (n : ℕ) → 0 < n → n < size t → parent_of t n ≢ 0 → parent_of t (parent_of t n) ≡ 0 → top_of t n ≡ n
  top_itself n pos inside ne e =
      let r = carried_step t (top_step t) 0 n inside in
      r.1
      ∙ cond-false (is_high t n) 0 (cond (eqb (parent_of t (parent_of t n)) 0) n r.0) (low n pos ne)
      ∙ cond-true (eqb (parent_of t (parent_of t n)) 0) n r.0 (eq-eqb (parent_of t (parent_of t n)) 0 e)

  -- a deeper node has that of its parent
  pub top_deeper : (n : ℕ) → 0 < n → n < size t → parent_of t n ≢ 0 → parent_of t (parent_of t n) ≢ 0 → top_of t n ≡ top_of t (parent_of t n)
  top_deeper n pos inside ne other =
      let above = top_of t (parent_of t n) in
      carried_down t (top_step t) 0 n inside (tree.up n pos inside)
      ∙ cond-false (is_high t n) 0 (cond (eqb (parent_of t (parent_of t n)) 0) n above) (low n pos ne)
      ∙ cond-false (eqb (parent_of t (parent_of t n)) 0) n above (ne_eqb (parent_of t (parent_of t n)) 0 other)

  -- what the number of a node's child of an engine says of it
  pub data HasTop (n : ℕ) : Type 0 where
    high : top_of t n ≡ 0 → (n ≡ 0) ⊎ (parent_of t n ≡ 0) → HasTop n
    deep : IsTop t (top_of t n) → AtOrBelow t (top_of t n) n → HasTop n

  pub has_top : (n : ℕ) → n < size t → HasTop n
  has_top n inside = climb (suc n) n (omega arith) inside
    where
      climb : (fuel m : ℕ) → m < fuel → m < size t → HasTop m
      climb zero m lt inside = absurd (omega (arith, lt))
      climb (suc k) m lt inside =
          elim (cases_eq m 0) [
            | inl z ↦ high (ap (top_of t) z ∙ top_root) (inl z)
            | inr nz ↦ (let pos : 0 < m = omega (arith, nz) in
                let up = tree.up m pos inside in
                elim (cases_eq (parent_of t m) 0) [
                  | inl e ↦ high (top_engine m inside e) (inr e)
                  | inr ne ↦ (let up_pos : 0 < parent_of t m = omega (arith, ne) in
                      let up_in : parent_of t m < size t = omega (arith, up, inside) in
                      elim (cases_eq (parent_of t (parent_of t m)) 0) [
                        | inl e ↦ (let is = top_itself m pos inside ne e in
                            let top : IsTop t m = record { engine = parent_of t m; of_plan = record { above_zero = up_pos; inside = up_in; parent = e }; child = edge m pos inside } in
                            deep (subst (IsTop t) (sym is) top) (inl is))
                        | inr other ↦ (let is = top_deeper m pos inside ne other in
                            elim (climb k (parent_of t m) (omega (arith, lt, up)) up_in) [
                              | high z r ↦ absurd (elim r [ inl a ↦ ne a | inr a ↦ other a ])
                              | deep top at ↦ deep (subst (IsTop t) (sym is) top) (subst (λ (x : ℕ). AtOrBelow t x m) (sym is) (inr (at_child t (top_of t (parent_of t m)) (parent_of t m) m at (edge m pos inside))))
                            ])
                      ])
                ])
          ]

  pub top_of_top : (c : ℕ) → IsTop t c → top_of t c ≡ c
  top_of_top c top =
      let engine : parent_of t c ≡ top.engine = top.child.parent in
      let above = top.of_plan.above_zero in
      top_itself c top.child.above_zero top.child.inside (λ e. omega (arith, e, engine, above)) (ap (parent_of t) engine ∙ top.of_plan.parent)

  -- a node below a child of an engine is neither the plan nor an engine, nor a child of one
  pub below_top : (c d : ℕ) → IsTop t c → AtOrBelow t c d → (0 < d) × (parent_of t d ≢ 0)
  below_top c d top (inl e) =
      let engine : parent_of t c ≡ top.engine = top.child.parent in
      let above = top.of_plan.above_zero in
      let pos = top.child.above_zero in
      (omega (arith, pos, e), λ z. (let up : parent_of t c ≡ 0 = ap (parent_of t) e ∙ z in omega (arith, up, engine, above)))
  below_top c d top (inr b) =
      let r = last_step t c d b in
      let pos = top.child.above_zero in (
        r.0.above_zero,
        λ z. elim r.1 [
          | inl e ↦ omega (arith, e, z, pos)
          | inr bb ↦ (let p = below_above_zero t c (parent_of t d) bb in omega (arith, p, z))
        ],
      )

  pub top_below : (c n : ℕ) → IsTop t c → Below t c n → top_of t n ≡ c
  top_below c n top (child e) =
      let r = below_top c n top (inr (child e)) in
      let up = below_top c c top (inl refl) in
      top_deeper n e.above_zero e.inside r.1 (λ z. up.1 (sym (ap (parent_of t) e.parent) ∙ z)) ∙ ap (top_of t) e.parent ∙ top_of_top c top
  top_below c n top (under {c = m} b e) =
      let r = below_top c n top (inr (under b e)) in
      let up = below_top c m top (inr b) in
      top_deeper n e.above_zero e.inside r.1 (λ z. up.1 (sym (ap (parent_of t) e.parent) ∙ z)) ∙ ap (top_of t) e.parent ∙ top_below c m top b

  pub top_is : (c n : ℕ) → IsTop t c → AtOrBelow t c n → top_of t n ≡ c
  top_is c n top (inl e) = ap (top_of t) (sym e) ∙ top_of_top c top
  top_is c n top (inr b) = top_below c n top b
