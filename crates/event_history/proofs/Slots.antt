-- Where all nodes run on one thread, the tree tells which of two events comes first.
use Rattle.std.proofs.Common.{◌≡◌, ◌≢◌, ℕ, ◌<◌, ◌≤◌, true, List, Some, slice_get, inl, inr, ◌⊎◌, refl, sym, ap, ◌∙◌, subst, arith}
use Rattle.std.proofs.lemmas.Option.{same_Some}
use Rattle.std.proofs.lemmas.Bool.{and_parts, and_from, or_left, cases_order, cases_lt, cases_eq}
use Rattle.descriptor.specs.Nodes.{size, parent_of, Below, is_spare_at}
use Rattle.plan_events.specs.declared.event.EventKind.{EventKind}
use Rattle.plan_events.specs.declared.event.EventKind.TheVariants.{Started, Finished, Skipped, Registered}
use Rattle.plan_events.specs.declared.event.Event.{Event}
use Rattle.plan_events.specs.declared.outcome.Reply.{Reply}
use Rattle.resource_locks.specs.Declarations.{AtOrBelow}
use Rattle.resource_locks.specs.Plans.{PlanParts}
use Rattle.event_history.specs.Plans.{pulls_job, IsElder, is_same, IsPlanTree}
use Rattle.event_history.specs.Places.{StandsAt, IsSettledAt}
use Rattle.event_history.specs.History.{IsLegal}
use Rattle.event_history.specs.Order.{goes_first, IsInOrder}
use Rattle.event_history.proofs.Branches.{Branches, branches, below_cases, below_root, below_less, first_step}

-- a node is registered, then started or skipped, then finished
abbrev pub slot : EventKind → ℕ
slot Registered = 0
slot Started = 1
slot Skipped = 1
slot Finished = 2

-- what stands for m in slot a comes before what stands for n in slot b
pub data Before (p : PlanParts) (a m b n : ℕ) : Type 0 where
  same : m ≡ n → a < b → Before p a m b n
  above : Below p.tree m n → a < 2 → Before p a m b n
  below : Below p.tree n m → 2 ≤ b → Before p a m b n
  beside : (x y : ℕ) → IsElder p.tree x y → AtOrBelow p.tree x m → AtOrBelow p.tree y n → Before p a m b n

module _ (p : PlanParts) (tree : IsPlanTree p.tree) where
  -- of two that differ, one comes before the other
  pub before_cases : (a m b n : ℕ) → m < size p.tree → n < size p.tree → ((a ≡ b) × (m ≡ n)) ⊎ (Before p a m b n ⊎ Before p b n a m)
  before_cases a m b n inm inn =
      elim (cases_eq m n) [
        | inl s ↦ elim (cases_order a b) [ inl q ↦ inl (q, s) | inr r ↦ elim r [ inl lt ↦ inr (inl (same s lt)) | inr lt ↦ inr (inr (same (sym s) lt)) ] ]
        | inr differ ↦ elim (below_cases p tree m n) [
          | inl d ↦ elim (cases_lt a 2) [ inl lt ↦ inr (inl (above d lt)) | inr le ↦ inr (inr (below d le)) ]
          | inr no_down ↦ elim (below_cases p tree n m) [
            | inl d ↦ elim (cases_lt b 2) [ inl lt ↦ inr (inr (above d lt)) | inr le ↦ inr (inl (below d le)) ]
            | inr no_up ↦ inr (parted (branches p tree 0 m n (at_root m n inm inn differ no_down) (at_root n m inn inm (λ s. differ (sym s)) no_up)
                (record { one = λ r. elim r [ inl s ↦ differ s | inr d ↦ no_down d ]; other = λ r. elim r [ inl s ↦ differ (sym s) | inr d ↦ no_up d ] })))
          ]
        ]
      ]
    where
      -- node 0 is above all others
      at_root : (x y : ℕ) → x < size p.tree → y < size p.tree → x ≢ y → (Below p.tree x y → ⊥) → Below p.tree 0 x
      at_root x y inx iny ne none =
          elim (cases_lt 0 x) [
            | inl pos ↦ below_root p tree x pos inx
            | inr le ↦ (let z : x ≡ 0 = omega (arith, le) in absurd (none (subst (λ (w : ℕ). Below p.tree w y) (sym z) (below_root p tree y (omega (arith, ne, z)) iny))))
          ]

      parted : Branches p.tree 0 m n → Before p a m b n ⊎ Before p b n a m
      parted r =
          elim (cases_order r.left r.right) [
            | inl s ↦ absurd (r.differ s)
            | inr lt ↦ elim lt [
              | inl first ↦ inl (beside r.left r.right (record { parent = r.top; elder = r.left_child; younger = r.right_child; before = first }) r.at_left r.at_right)
              | inr first ↦ inr (beside r.right r.left (record { parent = r.top; elder = r.right_child; younger = r.left_child; before = first }) r.at_right r.at_left)
            ]
          ]

module _ (p : PlanParts) (tree : IsPlanTree p.tree) (replies : ℕ → List Reply) (workers : ℕ) (h : List Event) (legal : IsLegal p replies workers h) where
  stands : (i n : ℕ) (e : Event) (k : EventKind) → slice_get h i ≡ Some e → e.node ≡ n → e.kind ≡ k → StandsAt h i k n
  stands i n e k q node kind = record { event = e; here = q; kind = kind; node = node }

  -- the events of one node
  own_order : (i j n : ℕ) (k l : EventKind) → StandsAt h i k n → StandsAt h j l n → slot k < slot l → i < j
  own_order i j n Registered Registered s t lt = absurd (omega (arith, lt))
  own_order i j n Registered l s t lt =
      let spare = (and_parts (is_spare_at p.tree n) (pulls_job p (parent_of p.tree n)) (legal.registered i n s)).0 in
      elim (legal.after_registered j t.event t.here (subst (λ (x : ℕ). is_spare_at p.tree x ≡ true) (sym t.node) spare)) [
        | inl q ↦ (let z : slot l ≡ 0 = ap slot (sym t.kind ∙ q) in absurd (omega (arith, lt, z)))
        | inr r ↦ (let at : r.place ≡ i = legal.once r.place i n Registered (subst (λ (x : ℕ). StandsAt h r.place Registered x) t.node r.stands) s in let b : r.place < j = r.before in omega (arith, at, b))
      ]
  own_order i j n Started Finished s t lt = (let r = legal.after_start j n t in let at : r.place ≡ i = legal.once r.place i n Started r.stands s in let b : r.place < j = r.before in omega (arith, at, b))
  own_order i j n Skipped Finished s t lt = (let r = legal.after_start j n t in absurd (legal.apart r.place i n r.stands s))
  own_order i j n Started Started s t lt = absurd (omega (arith, lt))
  own_order i j n Started Skipped s t lt = absurd (omega (arith, lt))
  own_order i j n Started Registered s t lt = absurd (omega (arith, lt))
  own_order i j n Skipped Started s t lt = absurd (omega (arith, lt))
  own_order i j n Skipped Skipped s t lt = absurd (omega (arith, lt))
  own_order i j n Skipped Registered s t lt = absurd (omega (arith, lt))
  own_order i j n Finished Started s t lt = absurd (omega (arith, lt))
  own_order i j n Finished Finished s t lt = absurd (omega (arith, lt))
  own_order i j n Finished Skipped s t lt = absurd (omega (arith, lt))
  own_order i j n Finished Registered s t lt = absurd (omega (arith, lt))

  -- what is below a node stands before its finish
  before_finish : (i j n : ℕ) (e : Event) → slice_get h i ≡ Some e → Below p.tree n e.node → StandsAt h j Finished n → i < j
  before_finish i j n e q d t =
      elim (cases_order i j) [
        | inr r ↦ elim r [ inl lt ↦ lt | inr lt ↦ absurd (legal.open_above i n e q d (record { place = j; before = lt; stands = t })) ]
        | inl s ↦ (let one : e ≡ t.event = same_Some e t.event (sym q ∙ ap (slice_get h) s ∙ t.here) in
            let less = below_less p tree n e.node d in
            let node : e.node ≡ n = ap (λ (x : Event). x.node) one ∙ t.node in
            absurd (omega (arith, less, node)))
      ]

  after_opening : (i j m : ℕ) (k : EventKind) (f : Event) → StandsAt h i k m → slice_get h j ≡ Some f → Below p.tree m f.node → slot k < 2 → i < j
  after_opening i j m Started f s q d lt = (let r = legal.start_above j m f q d in let at : r.place ≡ i = legal.once r.place i m Started r.stands s in let b : r.place < j = r.before in omega (arith, at, b))
  after_opening i j m Skipped f s q d lt = absurd (legal.below_skipped i j m f s q d)
  after_opening i j m Registered f s q d lt =
      let spare = (and_parts (is_spare_at p.tree m) (pulls_job p (parent_of p.tree m)) (legal.registered i m s)).0 in
      let c = first_step p.tree m f.node d in
      absurd (tree.leaf m c.0 c.1.0 (tree.spare_leaf m spare))
  after_opening i j m Finished f s q d lt = absurd (omega (arith, lt))

  -- what stands for a node, or below it, stands before its settling is seen
  before_settled : (i j x : ℕ) (e : Event) → slice_get h i ≡ Some e → AtOrBelow p.tree x e.node → IsSettledAt h j x → i < j
  before_settled i j x e q (inr d) (inl r) = (let lt = before_finish i r.place x e q d r.stands in let b : r.place < j = r.before in omega (arith, lt, b))
  before_settled i j x e q (inr d) (inr r) = absurd (legal.below_skipped r.place i x e r.stands q d)
  before_settled i j x e q (inl s) (inl r) = at_finish e.kind (stands i x e e.kind q (sym s) refl)
    where
      at_finish : (k : EventKind) → StandsAt h i k x → i < j
      at_finish Finished t = (let at : i ≡ r.place = legal.once i r.place x Finished t r.stands in let b : r.place < j = r.before in omega (arith, at, b))
      at_finish Started t = (let lt = own_order i r.place x Started Finished t r.stands (omega arith) in let b : r.place < j = r.before in omega (arith, lt, b))
      at_finish Registered t = (let lt = own_order i r.place x Registered Finished t r.stands (omega arith) in let b : r.place < j = r.before in omega (arith, lt, b))
      at_finish Skipped t = (let u = legal.after_start r.place x r.stands in absurd (legal.apart u.place i x u.stands t))
  before_settled i j x e q (inl s) (inr r) = at_skip e.kind (stands i x e e.kind q (sym s) refl)
    where
      at_skip : (k : EventKind) → StandsAt h i k x → i < j
      at_skip Skipped t = (let at : i ≡ r.place = legal.once i r.place x Skipped t r.stands in let b : r.place < j = r.before in omega (arith, at, b))
      at_skip Registered t = (let lt = own_order i r.place x Registered Skipped t r.stands (omega arith) in let b : r.place < j = r.before in omega (arith, lt, b))
      at_skip Started t = absurd (legal.apart i r.place x t r.stands)
      at_skip Finished t = (let u = legal.after_start i x t in absurd (legal.apart u.place r.place x u.stands r.stands))

  module _ (order : IsInOrder p h) (all : (n : ℕ) → 0 < n → n < size p.tree → is_same p n ≡ true) where
    elder_goes : (x y : ℕ) → IsElder p.tree x y → goes_first p x y ≡ true
    elder_goes x y e = and_from (is_same p x) _ (all x e.elder.above_zero e.elder.inside) (or_left (is_same p y) _ (all y e.younger.above_zero e.younger.inside))

    settled_at : (j x : ℕ) (f : Event) → slice_get h j ≡ Some f → IsElder p.tree x f.node → IsSettledAt h j x
    settled_at j x f q e = order.elder_settled j x f q e (elder_goes x f.node e)

    -- what the tree puts first comes first
    pub comes_first : (i j : ℕ) (e f : Event) → slice_get h i ≡ Some e → slice_get h j ≡ Some f → Before p (slot e.kind) e.node (slot f.kind) f.node → i < j
    comes_first i j e f q r (same s lt) = own_order i j f.node e.kind f.kind (stands i f.node e e.kind q s refl) (stands j f.node f f.kind r refl refl) lt
    comes_first i j e f q r (above d lt) = after_opening i j e.node e.kind f (stands i e.node e e.kind q refl refl) r d lt
    comes_first i j e f q r (below d le) = before_finish i j f.node e q d (stands j f.node f Finished r refl (finished f.kind le))
      where
        finished : (k : EventKind) → 2 ≤ slot k → k ≡ Finished
        finished Finished le = refl
        finished Started le = absurd (omega (arith, le))
        finished Skipped le = absurd (omega (arith, le))
        finished Registered le = absurd (omega (arith, le))
    comes_first i j e f q r (beside x y elder at_x at_y) =
        elim at_y [
          | inl s ↦ before_settled i j x e q at_x (settled_at j x f r (subst (λ (z : ℕ). IsElder p.tree x z) s elder))
          | inr d ↦ (let up = legal.start_above j y f r d in
              let lt = before_settled i up.place x e q at_x (settled_at up.place x up.stands.event up.stands.here (subst (λ (z : ℕ). IsElder p.tree x z) (sym up.stands.node) elder)) in
              let b : up.place < j = up.before in
              omega (arith, lt, b))
        ]
