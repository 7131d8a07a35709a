-- The tree of the kept nodes, one node at a time.
use Rattle.std.proofs.Common.{◌≡◌, ℕ, zero, suc, ◌-◌, ◌<◌, ◌≤◌, ◌&&◌, not, Bool, true, false, cond, eqb, ltb, ltb, List, [], ◌∷◌, ◌++◌, length, map, get_or, refl, ap, sym, ◌∙◌, arith, inl, inr, ◌⊎◌, subst, Option, Some, None}
use Rattle.std.specs.Prelude.{slice_get, ◌||◌}
use Rattle.std.specs.List.{filter_map, cons_option}
use Rattle.std.specs.Str.{bytes_eq}
use Rattle.std.proofs.lemmas.List.{append-nil, map-append, length-map}
use Rattle.std.proofs.lemmas.List.Elements.{filter_map-append}
use Rattle.std.proofs.lemmas.Bool.{ne_eqb, le-ltb}
use Rattle.std.proofs.lemmas.Slice.Eq.{bytes_eq-Decides}
use Rattle.unique_id.specs.Spelling.{spelling}
use Rattle.descriptor.specs.declared.node.Node.{Node}
use Rattle.descriptor.specs.Nodes.{Nodes, IsTree, IsChild, Below, child, under, MayTake, size, parent_of, node_at, text_or, text_of, body_or, body_of, after_or, after_of, kind_or, role_or, role_of, mode_or, locks_or, isolated_or, is_leaf_at, is_factory_at, is_spare_at, depth_of, steps_up, numbers_where, count_below, appended, plan_alone}
use Rattle.descriptor.specs.Kinds.{is_container}
use Rattle.descriptor.specs.Bodies.{is_body, is_same_body}
use Rattle.descriptor.specs.Declarations.{declares}
use Rattle.descriptor.specs.Refusals.{refusal, has_text, has_body, uses_body}
use Rattle.descriptor.specs.Roles.{is_factory, is_spare, is_misplaced}
use Rattle.descriptor.specs.Pruned.{is_kept, is_kept_node, new_number, IsClosed, KeepsNodes, tree_of, pruned_below, pruned}
use Rattle.descriptor.proofs.Accepted.{IsPlaced, node_before, node_last, pass_by, not_misplaced, nothing_declared, after_is_placed, tree_grown}
use Rattle.descriptor.proofs.Between.{between}
use Rattle.descriptor.proofs.Children.{counted}
use Rattle.descriptor.proofs.Counts.{cases_bool, above_zero, count_most, count_increases, count_last, count_reached, count_without_first}
use Rattle.descriptor.proofs.Grown.{steps_enough, get_before, get_last, below_or_last}
use Rattle.descriptor.proofs.Sets.{has_text_grown, has_body_grown}

pub nodes_same : (p q : List ℕ) (m n : List Node) → p ≡ q → m ≡ n → (let left : Nodes = record { parents = p; nodes = m } in let right : Nodes = record { parents = q; nodes = n } in left ≡ right)
nodes_same p q m n e d = cc

and_no : (a b : Bool) → b ≡ false → (a && b) ≡ false
and_no true b e = e
and_no false b e = refl

get_some : (xs : List Node) (i : ℕ) → i < length xs → (x : Node) × (slice_get xs i ≡ Some x)
get_some [] i h = absurd (omega arith)
get_some (x ∷ xs) zero h = (x, refl)
get_some (x ∷ xs) (suc i) h = get_some xs i (omega arith)

zero_or_more : (n : ℕ) → (n ≡ 0) ⊎ (0 < n)
zero_or_more zero = inl refl
zero_or_more (suc n) = inr (omega arith)

step_up : (ps : List ℕ) (i j x : ℕ) → j ≡ suc i → 0 < x → steps_up ps j x ≡ suc (steps_up ps i (get_or ps x 0))
step_up ps i zero x e h = absurd (omega arith)
step_up ps i (suc j) zero e h = absurd (omega arith)
step_up ps i (suc j) (suc x) e h = let same : j ≡ i = omega arith in ap (λ y. suc (steps_up ps y (get_or ps (suc x) 0))) same

no_step : (ps : List ℕ) (j : ℕ) → steps_up ps j 0 ≡ 0
no_step ps zero = refl
no_step ps (suc j) = refl

body_from : (b : ℕ) (body : Option ℕ) → is_body b body ≡ true → body ≡ Some b
body_from b None e = absurd (cc)
body_from b (Some other) e = let same : other ≡ b = grind (arith, e) in ap Some same

either : (a b : Bool) → (a || b) ≡ true → (a ≡ true) ⊎ (b ≡ true)
either true b e = inl refl
either false b e = inr e

none_of : (a b c : Bool) → a ≡ false → b ≡ false → c ≡ false → (a || b || c) ≡ false
none_of a b c e d f = rw (e, d, f) refl

less_eqb : (m n : ℕ) → m < n → eqb m n ≡ false
less_eqb m n h = ne_eqb m n (λ e. omega arith)

less_one : (m n : ℕ) → suc m ≡ n → m ≡ n - 1
less_one m n e = omega arith

cond_no : (b c : Bool) → b ≡ false → c ≡ false → cond b true c ≡ false
cond_no true c e d = absurd (cc)
cond_no false c e d = d

no_text_alone : (m : ℕ) (text : List ℕ) → text_of plan_alone m ≡ Some text → ⊥
no_text_alone zero text e = cc
no_text_alone (suc m) text e = cc

no_body_alone : (m b : ℕ) → body_of plan_alone m ≡ Some b → ⊥
no_body_alone zero b e = cc
no_body_alone (suc m) b e = cc

no_after_alone : (m b : ℕ) → after_of plan_alone m ≡ Some b → ⊥
no_after_alone zero b e = cc
no_after_alone (suc m) b e = cc

no_factory_alone : (m : ℕ) → is_factory_at plan_alone m ≡ true → ⊥
no_factory_alone zero e = cc
no_factory_alone (suc m) e = cc

no_spare_alone : (m : ℕ) → is_spare_at plan_alone m ≡ true → ⊥
no_spare_alone zero e = cc
no_spare_alone (suc m) e = cc

no_node_alone : (m : ℕ) (node : Node) → node_at plan_alone m ≡ Some node → ⊥
no_node_alone zero node e = cc
no_node_alone (suc m) node e = cc

shallow_alone : (n : ℕ) → n < 1 → depth_of plan_alone n ≤ 64
shallow_alone zero h = omega arith
shallow_alone (suc n) h = absurd (omega arith)

no_child_alone : (n c : ℕ) → IsChild plan_alone n c → ⊥
no_child_alone n c e = let inside : c < 1 = e.inside in omega (arith, e.above_zero)

plan_tree : IsTree plan_alone
plan_tree = record {
  root = omega arith;
  few = omega arith;
  nodes_len = refl;
  up = λ n above h. absurd (omega arith);
  preorder = λ n above h. absurd (omega arith);
  shallow = shallow_alone;
  leaf = λ n c e. absurd (no_child_alone n c e);
  ids = λ m n text d e. absurd (no_text_alone m text d);
  bodies = λ m n b d e. absurd (no_body_alone m b d);
  afters = λ m n b d e. absurd (no_after_alone m b d);
  apart = λ m n b d e. no_body_alone m b d;
  after_placed = λ n b e. absurd (no_after_alone n b e);
  spares = λ n c e. absurd (no_child_alone n c e);
  spare_tests = λ n e. absurd (no_spare_alone n e);
  factories = λ n e. absurd (no_factory_alone n e);
  engines = λ n e. absurd (no_child_alone 0 n e);
  short = λ n node e. absurd (no_node_alone n node e);
}

module _ (t : Nodes) (keep : List Bool) where
  tree_more : (ns : List ℕ) (n : ℕ) (node : Node) → node_at t n ≡ Some node → tree_of t keep (ns ++ n ∷ []) ≡ appended (tree_of t keep ns) (new_number keep (parent_of t n)) node
  tree_more ns n node e =
      nodes_same _ _ _ _ (ap (λ x. 0 ∷ x) (map-append (λ (m : ℕ). new_number keep (parent_of t m)) ns (n ∷ [])))
      (filter_map-append (node_at t) ns (n ∷ []) ∙ ap (λ (o : Option Node). filter_map (node_at t) ns ++ cons_option o []) e)

  -- one node more that is kept
  pub step_kept : (n : ℕ) (node : Node) → 0 < n → is_kept keep n ≡ true → node_at t n ≡ Some node → pruned_below t keep (suc n) ≡ appended (pruned_below t keep n) (new_number keep (parent_of t n)) node
  step_kept n node above kept told =
      let passes : is_kept_node keep n ≡ true = above_zero n (is_kept keep n) above ∙ kept in
      ap (λ b. tree_of t keep (numbers_where (is_kept_node keep) n ++ cond b (n ∷ []) [])) passes ∙ tree_more (numbers_where (is_kept_node keep) n) n node told

  -- one node more that is not
  pub step_left : (n : ℕ) → is_kept keep n ≡ false → pruned_below t keep (suc n) ≡ pruned_below t keep n
  step_left n left =
      ap (λ b. tree_of t keep (numbers_where (is_kept_node keep) n ++ cond b (n ∷ []) [])) (and_no (ltb 0 n) (is_kept keep n) left)
      ∙ ap (tree_of t keep) (append-nil (numbers_where (is_kept_node keep) n))

  pub at_start : pruned_below t keep 1 ≡ plan_alone
  at_start = refl

  pub size_is : (n : ℕ) → is_kept keep 0 ≡ true → 0 < n → size (pruned_below t keep n) ≡ new_number keep n
  size_is n root above =
      let mapped : length (map (λ (m : ℕ). new_number keep (parent_of t m)) (numbers_where (is_kept_node keep) n)) ≡ length (numbers_where (is_kept_node keep) n) = length-map (numbers_where (is_kept_node keep) n) (λ (m : ℕ). new_number keep (parent_of t m)) in
      let as_many : length (numbers_where (is_kept_node keep) n) ≡ count_below (is_kept_node keep) n = counted (is_kept_node keep) n in
      let fewer : new_number keep n ≡ suc (count_below (is_kept_node keep) n) = count_without_first (is_kept keep) n root above in
      omega arith

  module _ (tree : IsTree t) (closed : IsClosed t keep) where
    told_of : (n : ℕ) → 0 < n → n < size t → (node : Node) × (node_at t n ≡ Some node)
    told_of zero above inside = absurd (omega arith)
    told_of (suc n) above inside = get_some t.nodes n (omega (arith, tree.nodes_len))

    depth_down : (n : ℕ) → 0 < n → n < size t → depth_of t n ≡ suc (depth_of t (parent_of t n))
    depth_down zero above inside = absurd (omega arith)
    depth_down (suc n) above inside =
        let less : parent_of t (suc n) < suc n = tree.up (suc n) above inside in
        ap suc (steps_enough t.parents tree.up n (parent_of t (suc n)) (parent_of t (suc n)) (omega arith) (omega arith) (omega arith))

    -- a node stands where its role and kind let it
    placed_so : (n : ℕ) (node : Node) → IsChild t (parent_of t n) n → node_at t n ≡ Some node → IsPlaced (role_of t (parent_of t n)) node.kind node.role
    placed_so n node stands told = record {
      spare = ap (λ x. is_spare (role_or x)) (sym told) ∙ tree.spares (parent_of t n) n stands;
      spare_test = λ e. ap (λ x. not (is_container (kind_or x))) (sym told) ∙ tree.spare_tests n (ap (λ x. is_spare (role_or x)) told ∙ e);
      factory = λ e. ap (λ x. not (is_container (kind_or x))) (sym told) ∙ tree.factories n (ap (λ x. is_factory (role_or x)) told ∙ e);
    }

    -- what holds of the tree of the kept nodes below n
    pub record Upto (n : ℕ) : Type 0 where
      pub grown : IsTree (pruned_below t keep n)
      pub told : (m : ℕ) → m < n → is_kept keep m ≡ true → node_at (pruned_below t keep n) (new_number keep m) ≡ node_at t m
      pub parent : (m : ℕ) → 0 < m → m < n → is_kept keep m ≡ true → parent_of (pruned_below t keep n) (new_number keep m) ≡ new_number keep (parent_of t m)

    -- no node before has this text
    no_text : (i : ℕ) (text : List ℕ) → i < size t → text_of t i ≡ Some text → (n : ℕ) → 0 < n → n ≤ i → has_text (pruned_below t keep n) text ≡ false
    no_text i text inside is zero above h = absurd (omega arith)
    no_text i text inside is (suc zero) above h = refl
    no_text i text inside is (suc (suc n)) above h =
        let before : has_text (pruned_below t keep (suc n)) text ≡ false = no_text i text inside is (suc n) (omega arith) (omega arith) in
        elim (cases_bool (is_kept keep (suc n))) [
          | inr left ↦ ap (λ (u : Nodes). has_text u text) (step_left (suc n) left) ∙ before
          | inl kept ↦
              let node = told_of (suc n) (omega arith) (omega arith) in
              let other : bytes_eq (spelling node.0.id) text ≡ false = elim (cases_bool (bytes_eq (spelling node.0.id) text)) [
                | inr fails ↦ fails
                | inl passes ↦
                    let same : spelling node.0.id ≡ text = (bytes_eq-Decides (spelling node.0.id) text).0 passes in
                    let one : suc n ≡ i = tree.ids (suc n) i text (ap text_or node.1 ∙ ap Some same) is in
                    absurd (omega arith)
              ] in
              ap (λ (u : Nodes). has_text u text) (step_kept (suc n) node.0 (omega arith) kept node.1)
              ∙ has_text_grown (pruned_below t keep (suc n)) (new_number keep (parent_of t (suc n))) node.0 text ∙ cond_no _ _ other before
        ]

    -- whether b is a body or an after-body of a node is told by the tree
    used : (m b : ℕ) (node : Node) → node_at t m ≡ Some node → uses_body b node ≡ true → (body_of t m ≡ Some b) ⊎ (after_of t m ≡ Some b)
    used m b node told passes = elim (either (is_body b node.body) (is_body b node.after) passes) [
      | inl body ↦ inl (ap body_or told ∙ body_from b node.body body)
      | inr after ↦ inr (ap after_or told ∙ body_from b node.after after)
    ]

    -- no node before has this body, where only node i may have it
    no_body : (i b : ℕ) → ((m : ℕ) → m < i → body_of t m ≡ Some b → ⊥) → ((m : ℕ) → m < i → after_of t m ≡ Some b → ⊥) → i < size t → (n : ℕ) → 0 < n → n ≤ i → has_body (pruned_below t keep n) (Some b) ≡ false
    no_body i b never nor inside zero above h = absurd (omega arith)
    no_body i b never nor inside (suc zero) above h = refl
    no_body i b never nor inside (suc (suc n)) above h =
        let before : has_body (pruned_below t keep (suc n)) (Some b) ≡ false = no_body i b never nor inside (suc n) (omega arith) (omega arith) in
        elim (cases_bool (is_kept keep (suc n))) [
          | inr left ↦ ap (λ (u : Nodes). has_body u (Some b)) (step_left (suc n) left) ∙ before
          | inl kept ↦
              let node = told_of (suc n) (omega arith) (omega arith) in
              let other : uses_body b node.0 ≡ false = elim (cases_bool (uses_body b node.0)) [
                | inr fails ↦ fails
                | inl passes ↦ absurd (elim (used (suc n) b node.0 node.1 passes) [ inl body ↦ never (suc n) (omega arith) body | inr after ↦ nor (suc n) (omega arith) after ])
              ] in
              ap (λ (u : Nodes). has_body u (Some b)) (step_kept (suc n) node.0 (omega arith) kept node.1)
              ∙ has_body_grown (pruned_below t keep (suc n)) (new_number keep (parent_of t (suc n))) node.0 b ∙ cond_no _ _ other before
        ]

    not_here : (m i : ℕ) → m < i → m ≡ i → ⊥
    not_here m i h e = omega arith

    no_body_or : (i : ℕ) (body : Option ℕ) → 0 < i → i < size t → body_of t i ≡ body → has_body (pruned_below t keep i) body ≡ false
    no_body_or i None above inside is = refl
    no_body_or i (Some b) above inside is = no_body i b (λ m h e. not_here m i h (tree.bodies m i b e is)) (λ m h e. tree.apart i m b is e) inside i above (omega arith)

    no_after_or : (i : ℕ) (body : Option ℕ) → 0 < i → i < size t → after_of t i ≡ body → has_body (pruned_below t keep i) body ≡ false
    no_after_or i None above inside is = refl
    no_after_or i (Some b) above inside is = no_body i b (λ m h e. tree.apart m i b e is) (λ m h e. not_here m i h (tree.afters m i b e is)) inside i above (omega arith)

    -- a node's body is not its after-body
    own_body : (n : ℕ) (body after : Option ℕ) → body_of t n ≡ body → after_of t n ≡ after → is_same_body body after ≡ false
    own_body n None after d e = refl
    own_body n (Some b) after d e = elim (cases_bool (is_body b after)) [
      | inr fails ↦ fails
      | inl passes ↦ absurd (tree.apart n n b d (e ∙ body_from b after passes))
    ]

    module _ (n : ℕ) (above : 0 < n) (most : n ≤ size t) (upto : Upto n) where
      size_so_far : size (pruned_below t keep n) ≡ new_number keep n
      size_so_far = size_is n closed.root above

      child_kept : (a c : ℕ) → IsChild t a c → c < n → is_kept keep c ≡ true → IsChild (pruned_below t keep n) (new_number keep a) (new_number keep c)
      child_kept a c e h kept = record {
        above_zero = count_increases (is_kept keep) 0 c e.above_zero closed.root;
        inside = rw size_so_far (count_increases (is_kept keep) c n h kept);
        parent = upto.parent c e.above_zero h kept ∙ ap (new_number keep) e.parent;
      }

      -- a node below another is below it in the tree of the kept, too
      below_kept : (a b : ℕ) → Below t a b → b < n → is_kept keep b ≡ true → Below (pruned_below t keep n) (new_number keep a) (new_number keep b)
      below_kept a b (child e) h kept = child (child_kept a b e h kept)
      below_kept a b (under {c} d e) h kept =
          let less : parent_of t b < b = tree.up b e.above_zero e.inside in
          let is : parent_of t b ≡ c = e.parent in
          let also : is_kept keep c ≡ true = subst (λ (x : ℕ). is_kept keep x ≡ true) is (closed.up b e.above_zero e.inside kept) in
          under (below_kept a c d (omega arith) also) (child_kept c b e h kept)

      -- as many steps lead up as did
      steps_kept : (k j m : ℕ) → m ≤ k → new_number keep m ≤ j → m < n → is_kept keep m ≡ true → steps_up (pruned_below t keep n).parents j (new_number keep m) ≡ steps_up t.parents k m
      steps_kept k j zero kk jj h kept = no_step (pruned_below t keep n).parents j ∙ sym (no_step t.parents k)
      steps_kept zero j (suc m) kk jj h kept = absurd (omega arith)
      steps_kept (suc k) zero (suc m) kk jj h kept = absurd (omega (arith, count_increases (is_kept keep) 0 (suc m) (omega arith) closed.root))
      steps_kept (suc k) (suc j) (suc m) kk jj h kept =
          let some : 0 < new_number keep (suc m) = count_increases (is_kept keep) 0 (suc m) (omega arith) closed.root in
          let less : parent_of t (suc m) < suc m = tree.up (suc m) (omega arith) (omega arith) in
          let also : is_kept keep (parent_of t (suc m)) ≡ true = closed.up (suc m) (omega arith) (omega arith) kept in
          let fewer : new_number keep (parent_of t (suc m)) < new_number keep (suc m) = count_increases (is_kept keep) (parent_of t (suc m)) (suc m) less also in
          step_up (pruned_below t keep n).parents j (suc j) (new_number keep (suc m)) refl some
          ∙ ap (λ x. suc (steps_up (pruned_below t keep n).parents j x)) (upto.parent (suc m) (omega arith) h kept)
          ∙ ap suc (steps_kept k j (parent_of t (suc m)) (omega arith) (omega arith) (omega arith) also)

      pub depth_kept : (m : ℕ) → m < n → is_kept keep m ≡ true → depth_of (pruned_below t keep n) (new_number keep m) ≡ depth_of t m
      depth_kept m h kept = steps_kept m (new_number keep m) m (omega arith) (omega arith) h kept

    module _ (n : ℕ) (above : 0 < n) (inside : n < size t) (upto : Upto n) (kept : is_kept keep n ≡ true) where
      parent_kept : is_kept keep (parent_of t n) ≡ true
      parent_kept = closed.up n above inside kept

      parent_inside : new_number keep (parent_of t n) < size (pruned_below t keep n)
      parent_inside = rw (size_is n closed.root above) (count_increases (is_kept keep) (parent_of t n) n (tree.up n above inside) parent_kept)

      -- the next kept node may be a child of its parent
      pub may_take : MayTake (pruned_below t keep n) (new_number keep (parent_of t n))
      may_take =
          let is : size (pruned_below t keep n) ≡ new_number keep n = size_is n closed.root above in
          let smaller : parent_of t n < n = tree.up n above inside in
          let last = count_last (is_kept keep) n (parent_of t n) smaller parent_kept in
          let same : new_number keep last.0 ≡ size (pruned_below t keep n) - 1 = less_one _ _ (last.1.3 ∙ sym is) in (
            parent_inside,
            elim (between t tree last.0 n above inside last.1.2 last.1.0) [
              | inl here ↦ inl (ap (new_number keep) here ∙ same)
              | inr below ↦ inr (subst (Below (pruned_below t keep n) (new_number keep (parent_of t n))) same (below_kept n above (omega arith) upto (parent_of t n) last.0 below last.1.0 last.1.1))
            ],
          )

      -- as a child of the plan it declares nothing
      no_engine : (node : Node) → node_at t n ≡ Some node → (eqb (new_number keep (parent_of t n)) 0 && declares node) ≡ false
      no_engine node told = elim (zero_or_more (parent_of t n)) [
        | inr more ↦ ap (λ x. x && declares node) (ne_eqb (new_number keep (parent_of t n)) 0 (λ e. omega (arith, count_increases (is_kept keep) 0 (parent_of t n) more closed.root)))
        | inl top ↦
            let was = tree.engines n (record { above_zero = above; inside = inside; parent = top }) in
            and_no _ _ (nothing_declared node (record { no_mode = ap mode_or (sym told) ∙ was.no_mode; no_locks = ap locks_or (sym told) ∙ was.no_locks; not_isolated = ap isolated_or (sym told) ∙ was.not_isolated }))
      ]

      -- and nothing refuses it
      pub no_refusal : (node : Node) → node_at t n ≡ Some node → refusal 16383 (pruned_below t keep n) (new_number keep (parent_of t n)) node ≡ None
      no_refusal node told =
          let is : size (pruned_below t keep n) ≡ new_number keep n = size_is n closed.root above in
          let most : new_number keep n ≤ n = count_most (is_kept keep) n in
          let smaller : parent_of t n < n = tree.up n above inside in
          let few : ltb 16383 (size (pruned_below t keep n)) ≡ false = le-ltb 16383 _ (rw is (omega (arith, tree.few))) in
          let deeper : depth_of t n ≡ suc (depth_of t (parent_of t n)) = depth_down n above inside in
          let deep : depth_of (pruned_below t keep n) (new_number keep (parent_of t n)) ≡ depth_of t (parent_of t n) = depth_kept n above (omega arith) upto (parent_of t n) smaller parent_kept in
          let shallow : eqb (depth_of (pruned_below t keep n) (new_number keep (parent_of t n))) 64 ≡ false = less_eqb _ _ (rw deep (omega (arith, tree.shallow n inside))) in
          let stands : IsChild t (parent_of t n) n = record { above_zero = above; inside = inside; parent = refl } in
          let parent_told : node_at (pruned_below t keep n) (new_number keep (parent_of t n)) ≡ node_at t (parent_of t n) = upto.told (parent_of t n) smaller parent_kept in
          let container : is_leaf_at (pruned_below t keep n) (new_number keep (parent_of t n)) ≡ false = ap (λ x. not (is_container (kind_or x))) parent_told ∙ tree.leaf (parent_of t n) n stands in
          let body = none_of _ _ _ (no_body_or n node.body above inside (ap body_or told)) (no_after_or n node.after above inside (ap after_or told)) (own_body n node.body node.after (ap body_or told) (ap after_or told)) in
          let misplaced : is_misplaced (role_of (pruned_below t keep n) (new_number keep (parent_of t n))) node.kind node.role ≡ false =
          ap (λ x. is_misplaced (role_or x) node.kind node.role) parent_told ∙ not_misplaced _ _ _ (placed_so n node stands told) in
          let after = after_is_placed node.kind node.role node.after (λ b e. (let was = tree.after_placed n b (ap after_or told ∙ e) in (ap (λ x. not (is_container (kind_or x))) (sym told) ∙ was.0, ap (λ x. is_factory (role_or x)) (sym told) ∙ was.1))) in
          pass_by _ _ _ few (pass_by _ _ _ shallow (pass_by _ _ _ (no_text n (spelling node.id) inside (ap text_or told) n above (omega arith)) (
          pass_by _ _ _ container (pass_by _ _ _ (no_engine node told) (pass_by _ _ _ body (pass_by _ _ _ misplaced (
          pass_by _ _ _ (tree.short n node told) (pass_by _ _ _ after refl))))))))

      one_more : (node : Node) → node_at t n ≡ Some node → Upto (suc n)
      one_more node told =
          let is : size (pruned_below t keep n) ≡ new_number keep n = size_is n closed.root above in
          let same : appended (pruned_below t keep n) (new_number keep (parent_of t n)) node ≡ pruned_below t keep (suc n) = sym (step_kept n node above kept told) in
          record {
            grown = subst IsTree same (tree_grown (pruned_below t keep n) (new_number keep (parent_of t n)) node upto.grown may_take (no_refusal node told));
            told = λ m h also. subst (λ (u : Nodes). node_at u (new_number keep m) ≡ node_at t m) same (elim (below_or_last m n h) [
              | inl old ↦ node_before (pruned_below t keep n) (new_number keep (parent_of t n)) node (new_number keep m) upto.grown.nodes_len (rw is (count_increases (is_kept keep) m n old also)) ∙ upto.told m old also
              | inr new ↦ node_last (pruned_below t keep n) (new_number keep (parent_of t n)) node (new_number keep m) upto.grown.nodes_len (ap (new_number keep) new ∙ sym is) ∙ sym told ∙ ap (node_at t) (sym new)
            ]);
            parent = λ m more h also. subst (λ (u : Nodes). parent_of u (new_number keep m) ≡ new_number keep (parent_of t m)) same (elim (below_or_last m n h) [
              | inl old ↦ get_before (pruned_below t keep n).parents (new_number keep (parent_of t n)) 0 (new_number keep m) (rw is (count_increases (is_kept keep) m n old also)) ∙ upto.parent m more old also
              | inr new ↦ get_last (pruned_below t keep n).parents (new_number keep (parent_of t n)) 0 (new_number keep m) (ap (new_number keep) new ∙ sym is) ∙ ap (λ x. new_number keep (parent_of t x)) (sym new)
            ]);
          }

    not_last : (n : ℕ) → is_kept keep n ≡ false → (m : ℕ) → m < suc n → is_kept keep m ≡ true → m < n
    not_last n left m h also = elim (below_or_last m n h) [
      | inl old ↦ old
      | inr new ↦ absurd (let one : is_kept keep m ≡ false = ap (is_kept keep) new ∙ left in cc)
    ]

    one_left : (n : ℕ) → Upto n → is_kept keep n ≡ false → Upto (suc n)
    one_left n upto left =
        let same : pruned_below t keep n ≡ pruned_below t keep (suc n) = sym (step_left n left) in
        record {
          grown = subst IsTree same upto.grown;
          told = λ m h also. subst (λ (u : Nodes). node_at u (new_number keep m) ≡ node_at t m) same (upto.told m (not_last n left m h also) also);
          parent = λ m more h also. subst (λ (u : Nodes). parent_of u (new_number keep m) ≡ new_number keep (parent_of t m)) same (upto.parent m more (not_last n left m h also) also);
        }

    told_first : (m : ℕ) → m < 1 → is_kept keep m ≡ true → node_at plan_alone (new_number keep m) ≡ node_at t m
    told_first zero h also = refl
    told_first (suc m) h also = absurd (omega arith)

    pub upto_all : (n : ℕ) → 0 < n → n ≤ size t → Upto n
    upto_all zero above most = absurd (omega arith)
    upto_all (suc zero) above most = record { grown = plan_tree; told = told_first; parent = λ m more h also. absurd (omega arith) }
    upto_all (suc (suc n)) above most =
        let before : Upto (suc n) = upto_all (suc n) (omega arith) (omega arith) in
        elim (cases_bool (is_kept keep (suc n))) [
          | inr left ↦ one_left (suc n) before left
          | inl kept ↦ let node = told_of (suc n) (omega arith) (omega arith) in one_more (suc n) (omega arith) (omega arith) before kept node.0 node.1
        ]

    -- the tree of the kept nodes is a tree
    pub pruned_tree : IsTree (pruned t keep)
    pruned_tree = (upto_all (size t) tree.root (omega arith)).grown

    -- and has the kept nodes as they stood
    pub keeps_nodes : KeepsNodes t keep (pruned t keep)
    keeps_nodes =
        let all : Upto (size t) = upto_all (size t) tree.root (omega arith) in
        let is : size (pruned t keep) ≡ new_number keep (size t) = size_is (size t) closed.root tree.root in
        record {
          counted = is;
          each = λ k h. count_reached (is_kept keep) (size t) k (subst (λ (x : ℕ). k < x) is h);
          ordered = λ m n. count_increases (is_kept keep) m n;
          told = all.told;
          parent = all.parent;
          depth = depth_kept (size t) tree.root (omega arith) all;
        }
