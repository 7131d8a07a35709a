-- In a seed's order each node is expected to end as it was in the order of the tree.
use Rattle.std.proofs.Common.{◌≡◌, ℕ, zero, suc, ◌+◌, ◌-◌, ◌<◌, ◌≤◌, ◌&&◌, Bool, true, false, cond, eqb, List, [], ◌∷◌, length, get_or, Option, None, Result, Ok, Err, IfOk, refl, sym, ap, ap₂, ◌∙◌, arith, inl, inr, ◌⊎◌, subst}
use Rattle.std.proofs.lemmas.Bool.{lt-ltb, true≢false}
use Rattle.std.proofs.lemmas.Bool.Decides.{Decides-eqb}
use Rattle.std.specs.Option.{is_some}
use Rattle.std.specs.Prelude.{◌||◌, insert, nat_lt}
use Rattle.descriptor.specs.declared.node.Node.{Node}
use Rattle.descriptor.specs.Nodes.{Nodes, IsTree, IsChild, Below, size, parent_of, kind_or, role_or, body_or, after_or, reason_or, body_of, after_of, is_child, is_disabled, is_spare_at, count_below, bit}
use Rattle.descriptor.specs.Roles.{is_spare}
use Rattle.event_history.specs.Expected.{Expected, Silent, Skips, expected_by, below_result, own_result, result_by, is_closed, is_stopped_by, leaves}
use Rattle.event_history.specs.Plans.{has_child, is_spare_of, spare_count, rank, sort_of, sort_by}
use Rattle.event_history.specs.Results.{Jobs, jobs_by, jobs_of}
use Rattle.plan_events.specs.declared.outcome.Reply.{Reply}
use Rattle.junit_report.specs.Expectations.{plan_on}
use Rattle.selectors.proofs.Marks.{and_parts}
use Rattle.selectors.proofs.Truths.{never, same_truth}
use Rattle.tree_orders.specs.Draws.{draw}
use Rattle.tree_orders.specs.Orders.{order_to, place_in, seeded, seeded_order, slot}
use Rattle.tree_orders.specs.Listed.{IsOrder}
use Rattle.tree_orders.proofs.Orders.{seeded_is_order}
use Rattle.tree_orders.proofs.Placing.{size_same, plan_place, above_place, parent_placed, told_placed}
use Rattle.tree_orders.proofs.SeededTree.{seeded_tree}
use Rattle.tree_orders.proofs.Uppers.{below_factory}
use Rattle.uses.proofs.PrunedResults.{step_is}
use Rattle.uses.specs.OrderResults.{EndsAsBefore}

-- how many in a list pass
abbrev count_in : (ℕ → Bool) → List ℕ → ℕ
count_in q [] = 0
count_in q (x ∷ xs) = bit (q x) + count_in q xs

count_inserted : (q : ℕ → Bool) (n i : ℕ) (xs : List ℕ) → count_in q (insert xs i n) ≡ bit (q n) + count_in q xs
count_inserted q n zero xs = refl
count_inserted q n (suc i) [] = refl
count_inserted q n (suc i) (x ∷ xs) = let rest : count_in q (insert xs i n) ≡ bit (q n) + count_in q xs = count_inserted q n i xs in omega arith

-- as many pass in an order as below
count_to : (q : ℕ → Bool) (t : Nodes) (drawn : ℕ → ℕ) (n : ℕ) → count_in q (order_to t drawn n) ≡ count_below q (suc n)
count_to q t drawn zero = refl
count_to q t drawn (suc n) = count_inserted q (suc n) (slot t (drawn (suc n)) (suc n) (order_to t drawn n)) (order_to t drawn n) ∙ ap (λ k. bit (q (suc n)) + k) (count_to q t drawn n)

count_first : (r : ℕ → Bool) (n : ℕ) → count_below r (suc n) ≡ bit (r 0) + count_below (λ k. r (suc k)) n
count_first r zero = refl
count_first r (suc n) = let rest : count_below r (suc n) ≡ bit (r 0) + count_below (λ k. r (suc k)) n = count_first r n in omega arith

count_places : (q : ℕ → Bool) (xs : List ℕ) → count_below (λ k. q (get_or xs k 0)) (length xs) ≡ count_in q xs
count_places q [] = refl
count_places q (x ∷ xs) = count_first (λ k. q (get_or (x ∷ xs) k 0)) (length xs) ∙ ap (λ k. bit (q x) + k) (count_places q xs)

count_alike : (q r : ℕ → Bool) (n : ℕ) → ((k : ℕ) → k < n → q k ≡ r k) → count_below q n ≡ count_below r n
count_alike q r zero same = refl
count_alike q r (suc n) same = ap₂ (λ b k. bit b + k) (same n (omega arith)) (count_alike q r n (λ k h. same k (omega arith)))

count_none : (q : ℕ → Bool) (n : ℕ) → ((k : ℕ) → k < n → q k ≡ false) → count_below q n ≡ 0
count_none q zero none = refl
count_none q (suc n) none = ap₂ (λ b k. bit b + k) (none n (omega arith)) (count_none q n (λ k h. none k (omega arith)))

last_one : (n : ℕ) → 0 < n → suc (n - 1) ≡ n
last_one n some = omega arith

module _ (t : Nodes) (tree : IsTree t) (seed : ℕ) where
  abbrev order : List ℕ
  order = seeded_order seed t

  abbrev u : Nodes
  u = seeded seed t

  abbrev p : ℕ → ℕ
  p n = place_in (seeded_order seed t) n

  abbrev at : ℕ → ℕ
  at k = get_or (seeded_order seed t) k 0

  is : IsOrder t (seeded_order seed t)
  is = seeded_is_order t tree seed

  one_place : (m n : ℕ) → m < size t → n < size t → p m ≡ p n → m ≡ n
  one_place m n low also same = sym (is.listed.here m low) ∙ ap at same ∙ is.listed.here n also

  same_parent : (a f : ℕ) → a < size t → f < size t → eqb (p a) (p f) ≡ eqb a f
  same_parent a f low also = same_truth (eqb (p a) (p f)) (eqb a f)
      (λ h. (Decides-eqb a f).1 (one_place a f low also ((Decides-eqb (p a) (p f)).0 h)))
      (λ h. (Decides-eqb (p a) (p f)).1 (ap p ((Decides-eqb a f).0 h)))

  parent_low : (m : ℕ) → suc m < size t → parent_of t (suc m) < size t
  parent_low m inside = (let less : parent_of t (suc m) < suc m = tree.up (suc m) (omega arith) inside in omega arith)

  -- a child is a child
  child_same : (f m : ℕ) → f < size t → m < size t → is_child u (p f) (p m) ≡ is_child t f m
  child_same f zero low inside = ap (is_child u (p f)) (ap p (sym is.listed.first) ∙ is.listed.once 0 tree.root)
  child_same f (suc m) low inside =
      ap₂ (λ a b. a && b) (lt-ltb 0 (p (suc m)) (above_place t tree order is (suc m) (omega arith) inside) ∙ sym (lt-ltb 0 (suc m) (omega arith)))
      (ap (λ x. eqb x (p f)) (parent_placed t tree order is (suc m) (omega arith) inside) ∙ same_parent (parent_of t (suc m)) f (parent_low m inside) low)

  spare_same : (f m : ℕ) → f < size t → m < size t → is_spare_of (plan_on u) (p f) (p m) ≡ is_spare_of (plan_on t) f m
  spare_same f m low inside = ap₂ (λ a b. a && b) (child_same f m low inside) (ap (λ (o : Option Node). is_spare (role_or o)) (told_placed t tree order is m inside))

  -- as many pass in the order as in the tree
  count_same : (q r : ℕ → Bool) → ((m : ℕ) → m < size t → r (p m) ≡ q m) → count_below r (size u) ≡ count_below q (size t)
  count_same q r same =
      ap (count_below r) (size_same t tree order is ∙ sym is.listed.counted)
      ∙ count_alike r (λ k. q (get_or order k 0)) (length order) (λ k h.
      let low : k < size t = omega (arith, h, is.listed.counted) in
      ap r (sym (is.listed.once k low)) ∙ same (at k) (is.listed.low k low))
      ∙ count_places q order ∙ count_to q t (draw t seed) (size t - 1) ∙ ap (count_below q) (last_one (size t) tree.root)

  same_children : (n : ℕ) → n < size t → has_child (plan_on u) (p n) ≡ has_child (plan_on t) n
  same_children n low = ap (nat_lt 0) (count_same (is_child t n) (is_child u (p n)) (λ m inside. child_same n m low inside))

  same_spares : (f : ℕ) → f < size t → spare_count (plan_on u) (p f) ≡ spare_count (plan_on t) f
  same_spares f low = count_same (is_spare_of (plan_on t) f) (is_spare_of (plan_on u) (p f)) (λ m inside. spare_same f m low inside)

  same_jobs : (n : ℕ) → n < size t → jobs_of (plan_on u) (p n) ≡ jobs_of (plan_on t) n
  same_jobs n low =
      ap (λ (o : Option Node). jobs_by (sort_by (kind_or o) (role_or o)) (body_or o) (cond (has_child (plan_on u) (p n)) (after_or o) None) (spare_count (plan_on u) (p n))) (told_placed t tree order is n low)
      ∙ ap₂ (λ some count. jobs_by (sort_of t n) (body_of t n) (cond some (after_of t n) None) count) (same_children n low) (same_spares n low)

  same_own : (reply : ℕ → Reply) (n : ℕ) → n < size t → own_result (plan_on u) reply (p n) ≡ own_result (plan_on t) reply n
  same_own reply n low =
      ap (λ (o : Option Node). cond (is_some (reason_or o)) Skips (result_by reply (jobs_of (plan_on u) (p n)))) (told_placed t tree order is n low)
      ∙ ap (λ jobs. cond (is_disabled t n) Skips (result_by reply jobs)) (same_jobs n low)

  -- before the first dynamic test of a factory there is none
  none_before : (v : Nodes) → IsTree v → (f m : ℕ) → m ≤ suc f → m ≤ size v → count_below (is_spare_of (plan_on v) f) m ≡ 0
  none_before v whole f m most inside = count_none (is_spare_of (plan_on v) f) m (λ k h. never (is_spare_of (plan_on v) f k) (λ yes.
      let both = and_parts (is_child v f k) (is_spare_at v k) yes in
      let parts = and_parts (nat_lt 0 k) (eqb (parent_of v k) f) both.0 in
      let same : parent_of v k ≡ f = (Decides-eqb (parent_of v k) f).0 parts.1 in
      let some : 0 < k = positive k parts.0 in
      let less : parent_of v k < k = whole.up k some (omega arith) in
      omega arith))
    where
      positive : (n : ℕ) → nat_lt 0 n ≡ true → 0 < n
      positive zero h = absurd (true≢false (sym h))
      positive (suc n) h = omega arith

  low_of : (n : ℕ) → n < size t → p n < size u
  low_of n low = subst (λ (k : ℕ). p n < k) (sym (size_same t tree order is)) (is.listed.inside n low)

  -- a dynamic test stands right behind the node before it
  spare_placed : (m : ℕ) → suc m < size t → is_spare_at t (suc m) ≡ true → p (suc m) ≡ suc (p m)
  spare_placed m low spare = by (p (suc m)) refl
    where
      by : (k : ℕ) → p (suc m) ≡ k → p (suc m) ≡ suc (p m)
      by zero same = absurd (let some : 0 < p (suc m) = above_place t tree order is (suc m) (omega arith) low in omega arith)
      by (suc j) same =
          let within : p (suc m) < size t = is.listed.inside (suc m) low in
          let here : at (suc j) ≡ suc m = ap at (sym same) ∙ is.listed.here (suc m) low in
          let next : at (suc j) ≡ suc (at j) = (is.follows j (omega arith)).spare (ap (is_spare_at t) here ∙ spare) in
          let before : at j ≡ m = omega arith in
          let place : p m ≡ j = ap p (sym before) ∙ is.listed.once j (omega arith) in
          omega arith

  -- the next dynamic test has as many before it as it had, if that holds of the one before it
  rank_next : (m f : ℕ) → suc m < size t → is_spare_at t (suc m) ≡ true → parent_of t (suc m) ≡ f → (is_spare_at t m ≡ true → parent_of t m ≡ f → count_below (is_spare_of (plan_on u) (p f)) (p m) ≡ count_below (is_spare_of (plan_on t) f) m)
      → count_below (is_spare_of (plan_on u) (p f)) (p (suc m)) ≡ count_below (is_spare_of (plan_on t) f) (suc m)
  rank_next m f low spare parent so_far = by (tree.preorder (suc m) (omega arith) low)
    where
      before : suc m - 1 ≡ m
      before = omega arith

      stands : IsChild t f (suc m)
      stands = record { above_zero = omega arith; inside = low; parent = parent }

      inside : m < size t
      inside = omega arith

      f_low : f < size t
      f_low = (let less : parent_of t (suc m) < suc m = tree.up (suc m) (omega arith) low in omega arith)

      next : p (suc m) ≡ suc (p m)
      next = spare_placed m low spare

      first : f ≡ m → count_below (is_spare_of (plan_on u) (p f)) (p (suc m)) ≡ count_below (is_spare_of (plan_on t) f) (suc m)
      first same =
          let here : p f ≡ p m = ap p same in
          none_before u (seeded_tree t tree seed) (p f) (p (suc m)) (omega (arith, next, here)) (let within : p (suc m) < size u = low_of (suc m) low in omega arith)
          ∙ sym (none_before t tree f (suc m) (omega (arith, same)) (omega (arith, low)))

      later : IsChild t f m → count_below (is_spare_of (plan_on u) (p f)) (p (suc m)) ≡ count_below (is_spare_of (plan_on t) f) (suc m)
      later e =
          let is_one : is_spare_at t m ≡ true = tree.spares f m e ∙ sym (tree.spares f (suc m) stands) ∙ spare in
          ap (count_below (is_spare_of (plan_on u) (p f))) next
          ∙ ap₂ (λ b k. bit b + k) (spare_same f m f_low inside) (so_far is_one e.parent)

      by : (parent_of t (suc m) ≡ suc m - 1) ⊎ Below t (parent_of t (suc m)) (suc m - 1) → count_below (is_spare_of (plan_on u) (p f)) (p (suc m)) ≡ count_below (is_spare_of (plan_on t) f) (suc m)
      by (inl here) = first (sym parent ∙ here ∙ before)
      by (inr below) = later (below_factory t tree f m (sym (tree.spares f (suc m) stands) ∙ spare) (subst (λ (k : ℕ). Below t f k) before (subst (λ (k : ℕ). Below t k (suc m - 1)) parent below)))

  -- a dynamic test has as many before it as it had
  rank_of : (n f : ℕ) → n < size t → is_spare_at t n ≡ true → parent_of t n ≡ f → count_below (is_spare_of (plan_on u) (p f)) (p n) ≡ count_below (is_spare_of (plan_on t) f) n
  rank_of zero f low spare parent = absurd (cc)
  rank_of (suc m) f low spare parent = rank_next m f low spare parent (λ also same. rank_of m f (omega arith) also same)

  same_leaves : (reply : ℕ → Reply) (jobs : Jobs) (n : ℕ) → n < size t → (is_spare_at u (p n) && leaves reply jobs (rank (plan_on u) (p n))) ≡ (is_spare_at t n && leaves reply jobs (rank (plan_on t) n))
  same_leaves reply jobs n low = ap (λ (o : Option Node). is_spare (role_or o) && leaves reply jobs (rank (plan_on u) (p n))) (told_placed t tree order is n low) ∙ by (is_spare_at t n) refl
    where
      by : (b : Bool) → is_spare_at t n ≡ b → (is_spare_at t n && leaves reply jobs (rank (plan_on u) (p n))) ≡ (is_spare_at t n && leaves reply jobs (rank (plan_on t) n))
      by true spare =
          let some : 0 < n = above n spare in
          ap (λ k. is_spare_at t n && leaves reply jobs k)
          (ap (λ f. count_below (is_spare_of (plan_on u) f) (p n)) (parent_placed t tree order is n some low) ∙ rank_of n (parent_of t n) low spare refl)
        where
          above : (n : ℕ) → is_spare_at t n ≡ true → 0 < n
          above zero spare = absurd (cc)
          above (suc n) spare = omega arith
      by false plain = ap (λ b. b && leaves reply jobs (rank (plan_on u) (p n))) plain ∙ sym (ap (λ b. b && leaves reply jobs (rank (plan_on t) n)) plain)

  same_below : (reply : ℕ → Reply) (n : ℕ) → 0 < n → n < size t → (over : Expected) → below_result (plan_on u) reply (p n) over ≡ below_result (plan_on t) reply n over
  same_below reply n some low over =
      let f = parent_of t n in
      let within : f < size t = (let less : parent_of t n < n = tree.up n some low in omega arith) in
      let jobs : jobs_of (plan_on u) (parent_of u (p n)) ≡ jobs_of (plan_on t) f = ap (jobs_of (plan_on u)) (parent_placed t tree order is n some low) ∙ same_jobs f within in
      ap (λ j. cond (is_closed over || is_stopped_by reply j || (is_spare_at u (p n) && leaves reply j (rank (plan_on u) (p n)))) Silent (own_result (plan_on u) reply (p n))) jobs
      ∙ ap₂ (λ left own. cond (is_closed over || is_stopped_by reply (jobs_of (plan_on t) f) || left) Silent own) (same_leaves reply (jobs_of (plan_on t) f) n low) (same_own reply n low)

  same_levels : (reply : ℕ → Reply) (k l n : ℕ) → n < k → p n < l → n < size t → expected_by (plan_on u) reply l (p n) ≡ expected_by (plan_on t) reply k n
  same_levels reply zero l n enough levels low = absurd (omega arith)
  same_levels reply (suc k) zero n enough levels low = absurd (omega arith)
  same_levels reply (suc k) (suc l) zero enough levels low =
      let root : p 0 ≡ 0 = plan_place t tree order is in
      ap (expected_by (plan_on u) reply (suc l)) root ∙ ap (own_result (plan_on u) reply) (sym root) ∙ same_own reply 0 low
  same_levels reply (suc k) (suc l) (suc m) enough levels low =
      let up : parent_of t (suc m) < suc m = tree.up (suc m) (omega arith) low in
      let placed : parent_of u (p (suc m)) ≡ p (parent_of t (suc m)) = parent_placed t tree order is (suc m) (omega arith) low in
      let some : 0 < p (suc m) = above_place t tree order is (suc m) (omega arith) low in
      let lower : parent_of u (p (suc m)) < p (suc m) = (seeded_tree t tree seed).up (p (suc m)) some (low_of (suc m) low) in
      step_is (plan_on u) reply l (p (suc m)) some
      ∙ ap (λ x. below_result (plan_on u) reply (p (suc m)) (expected_by (plan_on u) reply l x)) placed
      ∙ ap (below_result (plan_on u) reply (p (suc m))) (same_levels reply k l (parent_of t (suc m)) (omega arith) (omega arith) (omega arith))
      ∙ same_below reply (suc m) (omega arith) low (expected_by (plan_on t) reply k (parent_of t (suc m)))

  ends_as_before : EndsAsBefore seed t (seeded seed t)
  ends_as_before reply n low = same_levels reply (suc n) (suc (p n)) n (omega arith) (omega arith) low

  pub ends_alike : {E : Type 0} (result : Result Nodes E) → IfOk result (λ found. found ≡ seeded seed t) → IfOk result (λ found. EndsAsBefore seed t found)
  ends_alike (Ok found) same = subst (EndsAsBefore seed t) (sym same) ends_as_before
  ends_alike (Err e) same = same
