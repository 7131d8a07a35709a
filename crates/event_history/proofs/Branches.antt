-- How two nodes of a tree lie to each other.
use Rattle.std.proofs.Common.{◌≢◌, ℕ, zero, suc, ◌<◌, inl, inr, ◌⊎◌, refl, sym, subst, arith}
use Rattle.std.proofs.lemmas.Bool.{cases_eq, cases_lt}
use Rattle.descriptor.specs.Nodes.{Nodes, size, parent_of, IsChild, Below, child, under}
use Rattle.resource_locks.specs.Declarations.{AtOrBelow}
use Rattle.resource_locks.proofs.Lines.{at_child, last_step}
use Rattle.resource_locks.specs.Plans.{PlanParts}
use Rattle.event_history.specs.Plans.{IsPlanTree}
use Rattle.event_history.specs.Exclusion.{AreApart}

-- two nodes lie at or below two children of one node, which is at or below x
pub record Branches (t : Nodes) (x m n : ℕ) : Type 0 where
  pub top : ℕ
  pub left : ℕ
  pub right : ℕ
  pub left_child : IsChild t top left
  pub right_child : IsChild t top right
  pub differ : left ≢ right
  pub at_left : AtOrBelow t left m
  pub at_right : AtOrBelow t right n
  pub within : AtOrBelow t x top

-- the first step to a node
pub first_step : (t : Nodes) (a n : ℕ) → Below t a n → (b : ℕ) × (IsChild t a b × AtOrBelow t b n)
first_step t a n (child c) = (n, (c, inl refl))
first_step t a n (under {c = m} b c) = let r = first_step t a m b in (r.0, (r.1.0, inr (at_child t r.0 m n r.1.1 c)))

module _ (p : PlanParts) (tree : IsPlanTree p.tree) where
  -- whether a node is below another can be told
  pub below_cases : (a n : ℕ) → Below p.tree a n ⊎ (Below p.tree a n → ⊥)
  below_cases a n = climb (suc n) n (omega arith)
    where
      climb : (fuel m : ℕ) → m < fuel → Below p.tree a m ⊎ (Below p.tree a m → ⊥)
      climb zero m lt = absurd (omega (arith, lt))
      climb (suc k) m lt =
          elim (cases_lt 0 m) [
            | inr le ↦ inr (λ b. (let pos = (last_step p.tree a m b).0.above_zero in omega (arith, le, pos)))
            | inl pos ↦ elim (cases_lt m (size p.tree)) [
              | inr le ↦ inr (λ b. (let inside = (last_step p.tree a m b).0.inside in omega (arith, le, inside)))
              | inl inside ↦ (let up : parent_of p.tree m < m = tree.rooted.up m pos inside in
                  let edge : IsChild p.tree (parent_of p.tree m) m = record { above_zero = pos; inside = inside; parent = refl } in
                  elim (cases_eq a (parent_of p.tree m)) [
                    | inl s ↦ inl (at_child p.tree a (parent_of p.tree m) m (inl s) edge)
                    | inr ne ↦ elim (climb k (parent_of p.tree m) (omega (arith, up, lt))) [
                      | inl b ↦ inl (under b edge)
                      | inr none ↦ inr (λ b. elim (last_step p.tree a m b).1 [ inl s ↦ ne s | inr d ↦ none d ])
                    ]
                  ])
            ]
          ]

  pub at_cases : (a n : ℕ) → AtOrBelow p.tree a n ⊎ (AtOrBelow p.tree a n → ⊥)
  at_cases a n =
      elim (cases_eq a n) [
        | inl s ↦ inl (inl s)
        | inr ne ↦ elim (below_cases a n) [ inl b ↦ inl (inr b) | inr none ↦ inr (λ r. elim r [ inl s ↦ ne s | inr b ↦ none b ]) ]
      ]

  -- two nodes below x of which neither is at or below the other lie below two children of one node
  pub branches : (x m n : ℕ) → Below p.tree x m → Below p.tree x n → AreApart p.tree m n → Branches p.tree x m n
  branches x m n (child c) b apart =
      let r = first_step p.tree x n b in
      record {
        top = x;
        left = m;
        right = r.0;
        left_child = c;
        right_child = r.1.0;
        differ = λ s. apart.one (subst (λ (y : ℕ). AtOrBelow p.tree y n) (sym s) r.1.1);
        at_left = inl refl;
        at_right = r.1.1;
        within = inl refl;
      }
  branches x m n (under {c = d} bd c) b apart =
      elim (at_cases d n) [
        | inl r ↦ elim r [
          | inl s ↦ absurd (apart.other (inr (child (subst (λ (y : ℕ). IsChild p.tree y m) s c))))
          | inr dn ↦ (let f = first_step p.tree d n dn in
              record {
                top = d;
                left = m;
                right = f.0;
                left_child = c;
                right_child = f.1.0;
                differ = λ s. apart.one (subst (λ (y : ℕ). AtOrBelow p.tree y n) (sym s) f.1.1);
                at_left = inl refl;
                at_right = f.1.1;
                within = inr bd;
              })
        ]
        | inr none ↦ (let r = branches x d n bd b (record { one = none; other = λ q. apart.other (inr (at_child p.tree n d m q c)) }) in
            record {
              top = r.top;
              left = r.left;
              right = r.right;
              left_child = r.left_child;
              right_child = r.right_child;
              differ = r.differ;
              at_left = inr (at_child p.tree r.left d m r.at_left c);
              at_right = r.at_right;
              within = r.within;
            })
      ]

  -- every node but node 0 lies below it
  pub below_root : (n : ℕ) → 0 < n → n < size p.tree → Below p.tree 0 n
  below_root n pos inside = climb (suc n) n (omega arith) pos inside
    where
      climb : (fuel m : ℕ) → m < fuel → 0 < m → m < size p.tree → Below p.tree 0 m
      climb zero m lt pos inside = absurd (omega (arith, lt))
      climb (suc k) m lt pos inside =
          let up : parent_of p.tree m < m = tree.rooted.up m pos inside in
          elim (cases_eq (parent_of p.tree m) 0) [
            | inl e ↦ child (record { above_zero = pos; inside = inside; parent = e })
            | inr ne ↦ under (climb k (parent_of p.tree m) (omega (arith, lt, up)) (omega (arith, ne)) (omega (arith, up, inside))) (record { above_zero = pos; inside = inside; parent = refl })
          ]

  -- a node below another has a greater number
  pub below_less : (a n : ℕ) → Below p.tree a n → a < n
  below_less a n (child c) = (let up : parent_of p.tree n < n = tree.rooted.up n c.above_zero c.inside in omega (arith, up, c.parent))
  below_less a n (under {c = m} b c) = (let up : parent_of p.tree n < n = tree.rooted.up n c.above_zero c.inside in let lt = below_less a m b in omega (arith, up, c.parent, lt))
