-- Where two nodes branch, and that they take turns just where the elder branch goes first.
use Rattle.std.proofs.Common.{◌≡◌, ◌≢◌, ℕ, zero, suc, ◌+◌, ◌<◌, true, inl, inr, refl, sym, ap, ◌∙◌, subst, arith}
use Rattle.std.proofs.lemmas.Bool.{cases_eq, cases_lt, and_from, or_left}
use Rattle.descriptor.specs.declared.lock_mode.LockMode.TheVariants.{Read, ReadWrite}
use Rattle.descriptor.specs.Nodes.{Nodes, IsTree, size, parent_of, IsChild, Below, child}
use Rattle.resource_locks.specs.Declarations.{AtOrBelow, global}
use Rattle.resource_locks.specs.Plans.{PlanParts, IsPlan, held_of, limit_for}
use Rattle.resource_locks.proofs.Conflicts.{conflict_back}
use Rattle.resource_locks.proofs.Lines.{at_child, at_through, last_step}
use Rattle.resource_locks.proofs.Tops.{line}
use Rattle.event_history.specs.Exclusion.{AreApart}
use Rattle.event_history.specs.Order.{goes_first}
use Rattle.event_history.specs.Plans.{IsElder, is_same}
use Rattle.event_history.proofs.Branches.{Branches, branches, below_root, below_less}
use Rattle.event_history.proofs.Spares.{plan_tree}
use Rattle.termination.specs.Conflicts.{TakeTurns, AreInTheWay, AreKeptApart, IsFreeOfConflict, IsOnOneThread}
use Rattle.termination.specs.Inside.Branches.{IsBranch, IsKeptApartFrom, AreAllKeptApart}

write_read : ReadWrite ≡ Read → ⊥
write_read q = cc

pub turn_back : (p : PlanParts) (m n : ℕ) → TakeTurns p m n → TakeTurns p n m
turn_back p m n t = record { elder = t.elder; younger = t.younger; siblings = t.siblings; first = t.first; at = elim t.at [ inl z ↦ inr z | inr z ↦ inl z ] }

pub way_back : (p : PlanParts) (m n : ℕ) → AreInTheWay p m n → AreInTheWay p n m
way_back p m n (inl c) = inl (conflict_back (held_of p m) (held_of p n) c)
way_back p m n (inr s) = inr (record { key = s.key; limited = s.limited; mode = s.other_mode; here = s.there; other_mode = s.mode; there = s.here })

module _ (t : Nodes) where
  -- one of two branches above a node is no higher
  no_higher : (m n x y : ℕ) → IsBranch t m n x → IsBranch t m n y → Below t x y → ⊥
  no_higher m n x y a b below = a.off (at_through t x (parent_of t y) n (last_step t x y below).1 b.above)

  pub one_branch : (m n x y : ℕ) → IsBranch t m n x → IsBranch t m n y → x ≡ y
  one_branch m n x y a b =
      elim (line t x y m a.at b.at) [
        | inl r ↦ elim r [ inl same ↦ same | inr below ↦ absurd (no_higher m n x y a b below) ]
        | inr r ↦ elim r [ inl same ↦ sym same | inr below ↦ absurd (no_higher m n y x b a below) ]
      ]

-- node 0 is at or above each node
pub root_over : (t : Nodes) → IsTree t → (a n : ℕ) → a ≡ 0 → n < size t → AtOrBelow t a n
root_over t tree a n e inside = climb (suc n) n (omega arith) inside
  where
    climb : (fuel m : ℕ) → m < fuel → m < size t → AtOrBelow t a m
    climb zero m lt low = absurd (omega (arith, lt))
    climb (suc k) m lt low =
        elim (cases_eq m 0) [
          | inl z ↦ inl (e ∙ sym z)
          | inr ne ↦ (let up : parent_of t m < m = tree.up m (omega (arith, ne)) low in
              inr (at_child t a (parent_of t m) m (climb k (parent_of t m) (omega (arith, lt, up)) (omega (arith, up, low))) (record { above_zero = omega (arith, ne); inside = low; parent = refl })))
        ]

module _ (p : PlanParts) (plan : IsPlan p) where
  -- two children of one node
  not_below : (top x y : ℕ) → IsChild p.tree top x → IsChild p.tree top y → Below p.tree x y → ⊥
  not_below top x y a b below =
      let up : AtOrBelow p.tree x top = subst (AtOrBelow p.tree x) b.parent (last_step p.tree x y below).1 in
      let less = below_less p (plan_tree p.tree plan.tree) top x (child a) in
      elim up [
        | inl same ↦ omega (arith, same, less)
        | inr under_it ↦ (let more = below_less p (plan_tree p.tree plan.tree) x top under_it in omega (arith, less, more))
      ]

  -- above two nodes they are where these branch
  pub child_branch : (top x y m n : ℕ) → IsChild p.tree top x → IsChild p.tree top y → x ≢ y → AtOrBelow p.tree x m → AtOrBelow p.tree y n → IsBranch p.tree m n x
  child_branch top x y m n a b ne at_x at_y = record {
    above_zero = a.above_zero;
    inside = a.inside;
    at = at_x;
    off = λ both. elim (line p.tree x y n both at_y) [
      | inl r ↦ elim r [ inl same ↦ ne same | inr below ↦ not_below top x y a b below ]
      | inr r ↦ elim r [ inl same ↦ ne (sym same) | inr below ↦ not_below top y x b a below ]
    ];
    above = subst (λ (k : ℕ). AtOrBelow p.tree k n) (sym a.parent) (at_through p.tree top y n (inr (child b)) at_y);
  }

  -- nodes in the way of one another lie apart
  pub conflict_apart : (m n : ℕ) → m ≢ n → AreInTheWay p m n → AreApart p.tree m n
  conflict_apart m n ne c = record { one = λ r. over m n ne c r; other = λ r. over n m (λ e. ne (sym e)) (way_back p m n c) r }
    where
      over : (a b : ℕ) → a ≢ b → AreInTheWay p a b → AtOrBelow p.tree a b → ⊥
      over a b differ way (inl same) = differ same
      over a b differ (inl k) (inr below) =
          let both = plan.lines a b k.key k.mode k.other_mode below k.here k.there in
          elim k.writes [ inl w ↦ write_read (sym w ∙ both.0) | inr w ↦ write_read (sym w ∙ both.1) ]
      over a b differ (inr k) (inr below) =
          let is : k.key ≡ global = (plan.layers a b k.key k.key k.mode k.other_mode below k.here k.there).0 in
          let none : limit_for p k.key ≡ 0 = ap (limit_for p) is ∙ plan.unlimited in
          let some = k.limited in
          omega (arith, some, none)

  -- two nodes that lie apart branch
  branch_apart : (m n : ℕ) → m < size p.tree → n < size p.tree → AreApart p.tree m n → Branches p.tree 0 m n
  branch_apart m n m_in n_in apart =
      let m_pos : 0 < m = elim (cases_eq m 0) [ inl e ↦ absurd (apart.one (root_over p.tree plan.tree m n e n_in)) | inr ne ↦ omega (arith, ne) ] in
      let n_pos : 0 < n = elim (cases_eq n 0) [ inl e ↦ absurd (apart.other (root_over p.tree plan.tree n m e m_in)) | inr ne ↦ omega (arith, ne) ] in
      let tree = plan_tree p.tree plan.tree in
      branches p tree 0 m n (below_root p tree m m_pos m_in) (below_root p tree n n_pos n_in) apart

  -- where all are executed in their parents' threads, nodes that lie apart take turns
  pub free_on_one : IsOnOneThread p → IsFreeOfConflict p
  free_on_one same m n m_in n_in ne c =
      let b = branch_apart m n m_in n_in (conflict_apart m n ne c) in
      elim (cases_lt b.left b.right) [
        | inl lt ↦ record { elder = b.left; younger = b.right; siblings = record { parent = b.top; elder = b.left_child; younger = b.right_child; before = lt }; first = first b.left b.right b.left_child.inside b.right_child.inside; at = inl (b.at_left, b.at_right) }
        | inr ge ↦ (let differ = b.differ in record {
          elder = b.right;
          younger = b.left;
          siblings = record { parent = b.top; elder = b.right_child; younger = b.left_child; before = omega (arith, ge, differ) };
          first = first b.right b.left b.right_child.inside b.left_child.inside;
          at = inr (b.at_right, b.at_left);
        })
      ]
    where
      first : (elder younger : ℕ) → elder < size p.tree → younger < size p.tree → goes_first p elder younger ≡ true
      first elder younger elder_in younger_in = and_from (is_same p elder) _ (same elder elder_in) (or_left (is_same p younger) _ (same younger younger_in))

  module _ (m n left right : ℕ) (m_in : m < size p.tree) (n_in : n < size p.tree) (apart : AreApart p.tree m n) (at_left : IsBranch p.tree m n left) (at_right : IsBranch p.tree n m right) where
    -- the nodes where they branch are children of one node
    pub siblings : (left < right → IsElder p.tree left right) × (right < left → IsElder p.tree right left) × (left ≢ right)
    siblings =
        let b = branch_apart m n m_in n_in apart in
        let l = one_branch p.tree m n left b.left at_left (child_branch b.top b.left b.right m n b.left_child b.right_child b.differ b.at_left b.at_right) in
        let r = one_branch p.tree n m right b.right at_right (child_branch b.top b.right b.left n m b.right_child b.left_child (λ e. b.differ (sym e)) b.at_right b.at_left) in
        let left_child : IsChild p.tree b.top left = subst (IsChild p.tree b.top) (sym l) b.left_child in
        let right_child : IsChild p.tree b.top right = subst (IsChild p.tree b.top) (sym r) b.right_child in (
          λ lt. record { parent = b.top; elder = left_child; younger = right_child; before = lt },
          λ lt. record { parent = b.top; elder = right_child; younger = left_child; before = lt },
          λ e. b.differ (sym l ∙ e ∙ r),
        )

    -- they take turns where the elder of these goes first
    pub turns_so : (left < right → goes_first p left right ≡ true) → (right < left → goes_first p right left ≡ true) → TakeTurns p m n
    turns_so a b =
        let s = siblings in
        elim (cases_lt left right) [
          | inl lt ↦ record { elder = left; younger = right; siblings = s.0 lt; first = a lt; at = inl (at_left.at, at_right.at) }
          | inr ge ↦ (let lt : right < left = (let ne = s.2 in omega (arith, ge, ne)) in record { elder = right; younger = left; siblings = s.1 lt; first = b lt; at = inr (at_right.at, at_left.at) })
        ]

    pub so_turns : TakeTurns p m n → (left < right → goes_first p left right ≡ true) × (right < left → goes_first p right left ≡ true)
    so_turns t =
        let s : IsElder p.tree t.elder t.younger = t.siblings in
        let before = s.before in
        elim t.at [
          | inl z ↦ (
              let l = one_branch p.tree m n left t.elder at_left (child_branch s.parent t.elder t.younger m n s.elder s.younger (λ e. omega (arith, before, e)) z.0 z.1) in
              let r = one_branch p.tree n m right t.younger at_right (child_branch s.parent t.younger t.elder n m s.younger s.elder (λ e. omega (arith, before, e)) z.1 z.0) in
              (λ lt. subst (λ (k : ℕ). goes_first p k right ≡ true) (sym l) (subst (λ (k : ℕ). goes_first p t.elder k ≡ true) (sym r) t.first), λ lt. absurd (omega (arith, lt, l, r, before))))
          | inr z ↦ (
              let l = one_branch p.tree m n left t.younger at_left (child_branch s.parent t.younger t.elder m n s.younger s.elder (λ e. omega (arith, before, e)) z.1 z.0) in
              let r = one_branch p.tree n m right t.elder at_right (child_branch s.parent t.elder t.younger n m s.elder s.younger (λ e. omega (arith, before, e)) z.0 z.1) in
              (λ lt. absurd (omega (arith, lt, l, r, before)), λ lt. subst (λ (k : ℕ). goes_first p k left ≡ true) (sym r) (subst (λ (k : ℕ). goes_first p t.elder k ≡ true) (sym l) t.first)))
        ]

-- One more node.
pub next_apart : (p : PlanParts) (n m : ℕ) → IsKeptApartFrom p n m → AreKeptApart p n m → IsKeptApartFrom p n (m + 1)
next_apart p n m before here k lt = elim (cases_eq k m) [
  | inl e ↦ subst (AreKeptApart p n) (sym e) here
  | inr ne ↦ before k (omega (arith, lt, ne))
]

pub next_all : (p : PlanParts) (m : ℕ) → AreAllKeptApart p m → IsKeptApartFrom p m m → AreAllKeptApart p (m + 1)
next_all p m before here n lt = elim (cases_eq n m) [
  | inl e ↦ subst (λ (k : ℕ). IsKeptApartFrom p k k) (sym e) here
  | inr ne ↦ before n (omega (arith, lt, ne))
]

pub free_is : (p : PlanParts) → AreAllKeptApart p (size p.tree) → IsFreeOfConflict p
free_is p all m n m_in n_in ne c =
    elim (cases_lt m n) [
      | inl less ↦ turn_back p n m (all n n_in m less (way_back p m n c))
      | inr ge ↦ all m m_in n (omega (arith, ge, ne)) c
    ]

pub free_all : (p : PlanParts) (n : ℕ) → n < size p.tree → IsFreeOfConflict p → IsKeptApartFrom p n n
free_all p n inside free m lt = free n m inside (omega (arith, lt, inside)) (λ e. omega (arith, lt, e))
