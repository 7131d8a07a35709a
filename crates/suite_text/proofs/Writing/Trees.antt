-- A node of a tree is one that the nodes before it take.
use borrow.Author.Tests.{tests}
use Rattle.std.proofs.Common.{rules, ◌≡◌, ℕ, zero, suc, ◌+◌, ◌<◌, ◌≤◌, ◌||◌, ◌&&◌, ◌==◌, ◌⊎◌, inl, inr, not, nat_lt, Bool, true, false, cond, List, [], ◌∷◌, ◌++◌, length, Option, Some, None, refl, ap, sym, subst, ◌∙◌, arith, length-append, append-nil}
use Rattle.std.specs.Prelude.{slice_get, slice_index_or}
use Rattle.std.specs.List.{list_any, AllByRecursion}
use Rattle.std.specs.Option.{is_none}
use Rattle.std.specs.Str.{bytes_eq}
use Rattle.std.proofs.lemmas.Bool.{ne_eqb, eqb-true, le-ltb}
use Rattle.std.proofs.lemmas.List.{append_assoc}
use Rattle.std.proofs.lemmas.Slice.Eq.{bytes_eq-Decides}
use Rattle.unique_id.specs.declared.unique_id.Segment.{Segment}
use Rattle.unique_id.specs.declared.fault.UidFault.TheVariants.{EmptyPart, TooLong}
use Rattle.unique_id.specs.Spelling.{spelling}
use Rattle.unique_id.specs.Spelling as ids
use Rattle.descriptor.specs.declared.node.Node.{Node}
use Rattle.descriptor.specs.Bodies.{is_body, is_same_body, repeats_itself, has_misplaced_after, takes_after, may_get_after_or, may_get_after_at, given_after_at, with_after}
use Rattle.descriptor.specs.Declarations.{declares}
use Rattle.descriptor.specs.Kinds.{is_container}
use Rattle.descriptor.specs.Roles.{is_factory, is_spare}
use Rattle.descriptor.specs.Nodes.{Nodes, IsTree, IsChild, size, parent_of, node_at, depth_of, steps_up, is_leaf_at, kind_or, role_or, role_of, mode_or, locks_or, isolated_or, body_or, after_or, body_of, after_of, text_or, appended}
use Rattle.descriptor.specs.Refusals.{refusal, has_id, has_body, uses_body, after_refusal}
use Rattle.descriptor.specs.declared.fault.TreeFault.TheVariants.{AfterMisplaced}
use Rattle.descriptor.specs.Limits.{is_over_limit}
use Rattle.descriptor.proofs.Accepted.{IsPlaced, pass_by, not_misplaced, nothing_declared, after_is_placed}
use Rattle.descriptor.proofs.AfterBodies.{length_given}
use Rattle.suite_text.specs.Writing.Suites.{IsShortId}

-- a node without its after-body
abbrev pub without_after : Node → Node
without_after node = record node { after = None }

-- a node is as it was, but that it may have got an after-body
pub record Became (x y : Node) : Type 0 where
  pub same : without_after y ≡ without_after x
  pub kept : (b : ℕ) → x.after ≡ Some b → y.after ≡ Some b

-- nodes are as they were so, with more behind them
abbrev pub Grew : List Node → List Node → Type 0
Grew [] ys = Unit {0}
Grew (x ∷ xs) [] = ⊥
Grew (x ∷ xs) (y ∷ ys) = Became x y × Grew xs ys

grew_more : (xs ys : List Node) → Grew xs (xs ++ ys)
grew_more [] ys = tt
grew_more (x ∷ xs) ys = (record { same = refl; kept = λ b e. e }, grew_more xs ys)

grew_then : (xs ys zs : List Node) → Grew xs ys → Grew ys zs → Grew xs zs
grew_then [] ys zs h k = tt
grew_then (x ∷ xs) [] zs h k = absurd h
grew_then (x ∷ xs) (y ∷ ys) [] h k = absurd k
grew_then (x ∷ xs) (y ∷ ys) (z ∷ zs) h k = (record { same = k.0.same ∙ h.0.same; kept = λ b e. k.0.kept b (h.0.kept b e) }, grew_then xs ys zs h.1 k.1)

-- what may get an after-body has none
none_if : (o : Option ℕ) (c : Bool) → (is_none o && c) ≡ true → o ≡ None
none_if None c e = refl
none_if (Some x) c e = absurd (cc)

grew_given : (b i : ℕ) (xs : List Node) → may_get_after_or (slice_get xs i) ≡ true → Grew xs (given_after_at b i xs)
grew_given b i [] e = tt
grew_given b zero (x ∷ xs) e =
    let none : x.after ≡ None = none_if x.after (takes_after x.kind x.role) e in
    (record { same = refl; kept = λ c is. absurd (cc) }, subst (λ (ys : List Node). Grew xs ys) (append-nil xs) (grew_more xs []))
grew_given b (suc i) (x ∷ xs) e = (record { same = refl; kept = λ c is. is }, grew_given b i xs e)

-- u is t with more behind it, and perhaps with after-bodies that t lacks
pub record Extends (t u : Nodes) : Type 0 where
  pub more_parents : List ℕ
  pub parents : u.parents ≡ t.parents ++ more_parents
  pub nodes : Grew t.nodes u.nodes

pub extends_self : (t : Nodes) → Extends t t
extends_self t = record { more_parents = []; parents = sym (append-nil t.parents); nodes = subst (λ (ys : List Node). Grew t.nodes ys) (append-nil t.nodes) (grew_more t.nodes []) }

pub extends_one : (t : Nodes) (a : ℕ) (node : Node) → Extends t (appended t a node)
extends_one t a node = record { more_parents = a ∷ []; parents = refl; nodes = grew_more t.nodes (node ∷ []) }

pub extends_then : (t u v : Nodes) → Extends t u → Extends u v → Extends t v
extends_then t u v first second = record {
  more_parents = first.more_parents ++ second.more_parents;
  parents = second.parents ∙ ap (λ l. l ++ second.more_parents) first.parents ∙ append_assoc t.parents first.more_parents second.more_parents;
  nodes = grew_then t.nodes u.nodes v.nodes first.nodes second.nodes;
}

pub extends_after : (t : Nodes) (n b : ℕ) → may_get_after_at t n ≡ true → Extends t (with_after t n b)
extends_after t zero b may = extends_self t
extends_after t (suc i) b may = record { more_parents = []; parents = sym (append-nil t.parents); nodes = grew_given b i t.nodes may }

-- what has nothing to do with after-bodies is as it was
told_same : {V : Type 0} (g : Option Node → V) → ((x y : Node) → without_after y ≡ without_after x → g (Some y) ≡ g (Some x)) → (xs ys : List Node) → Grew xs ys → (n : ℕ) → n < length xs → g (slice_get ys n) ≡ g (slice_get xs n)
told_same g alike [] ys h n k = absurd (omega (arith, k))
told_same g alike (x ∷ xs) [] h n k = absurd h
told_same g alike (x ∷ xs) (y ∷ ys) h zero k = alike x y h.0.same
told_same g alike (x ∷ xs) (y ∷ ys) h (suc n) k = told_same g alike xs ys h.1 n (omega (arith, k))

-- and an after-body stays
after_stays : (xs ys : List Node) → Grew xs ys → (n b : ℕ) → after_or (slice_get xs n) ≡ Some b → after_or (slice_get ys n) ≡ Some b
after_stays [] ys h n b e = absurd (cc)
after_stays (x ∷ xs) [] h n b e = absurd h
after_stays (x ∷ xs) (y ∷ ys) h zero b e = h.0.kept b e
after_stays (x ∷ xs) (y ∷ ys) h (suc n) b e = after_stays xs ys h.1 n b e

-- what stands at a place of a list
index_early : (xs ys : List ℕ) (n : ℕ) → n < length xs → slice_index_or (xs ++ ys) n 0 ≡ slice_index_or xs n 0
index_early [] ys n h = absurd (omega (arith, h))
index_early (x ∷ xs) ys zero h = refl
index_early (x ∷ xs) ys (suc n) h = index_early xs ys n (omega (arith, h))

index_next : (xs ys : List ℕ) (y : ℕ) → slice_index_or (xs ++ y ∷ ys) (length xs) 0 ≡ y
index_next [] ys y = refl
index_next (x ∷ xs) ys y = index_next xs ys y

get_early : (xs ys : List Node) (n : ℕ) → n < length xs → slice_get (xs ++ ys) n ≡ slice_get xs n
get_early [] ys n h = absurd (omega (arith, h))
get_early (x ∷ xs) ys zero h = refl
get_early (x ∷ xs) ys (suc n) h = get_early xs ys n (omega (arith, h))

get_next : (xs ys : List Node) (y : Node) → slice_get (xs ++ y ∷ ys) (length xs) ≡ Some y
get_next [] ys y = refl
get_next (x ∷ xs) ys y = get_next xs ys y

get_inside : (xs : List Node) (n : ℕ) (x : Node) → slice_get xs n ≡ Some x → n < length xs
get_inside [] n x e = absurd (cc)
get_inside (y ∷ xs) zero x e = omega arith
get_inside (y ∷ xs) (suc n) x e = let less = get_inside xs n x e in omega (arith, less)

none_of : (q : Node → Bool) (xs : List Node) → ((n : ℕ) (x : Node) → slice_get xs n ≡ Some x → q x ≡ false) → list_any q xs ≡ false
none_of q [] h = refl
none_of q (x ∷ xs) h = ap (λ b. b || list_any q xs) (h 0 x refl) ∙ none_of q xs (λ n y e. h (suc n) y e)

not_true : (b : Bool) → (b ≡ true → ⊥) → b ≡ false
not_true true h = absurd (h refl)
not_true false h = refl

body_from : (b : ℕ) (body : Option ℕ) → is_body b body ≡ true → body ≡ Some b
body_from b None e = absurd (cc)
body_from b (Some other) e = ap Some (eqb-true other b e)

either : (a b : Bool) → (a || b) ≡ true → (a ≡ true) ⊎ (b ≡ true)
either true b e = inl refl
either false b e = inr e

none_of_three : (a b c : Bool) → a ≡ false → b ≡ false → c ≡ false → (a || b || c) ≡ false
none_of_three a b c first second third = rw (first, second, third) refl

not_both : (x : ℕ) (d : Bool) → (x ≡ 0 → d ≡ false) → ((x == 0) && d) ≡ false
not_both zero d h = h refl
not_both (suc x) d h = ap (λ b. b && d) (ne_eqb (suc x) 0 (λ e. omega (arith, e)))

once_of : (body after : Option ℕ) → ((b : ℕ) → body ≡ Some b → after ≡ Some b → ⊥) → is_same_body body after ≡ false
once_of None after h = refl
once_of (Some b) after h = not_true (is_body b after) (λ same. h b refl (body_from b after same))

no_step : (ps : List ℕ) (j : ℕ) → steps_up ps j 0 ≡ 0
no_step ps zero = refl
no_step ps (suc j) = refl

-- whether a node's limits are passed; where there is none, they are not
abbrev over_or : Option Node → Bool
over_or None = false
over_or (Some node) = is_over_limit node

not_over : (o : Option Node) → ((node : Node) → o ≡ Some node → is_over_limit node ≡ false) → over_or o ≡ false
not_over None h = refl
not_over (Some node) h = h node refl

module _ (t u : Nodes) (a : ℕ) (node : Node) (len : length t.nodes + 1 ≡ size t) (more : Extends (appended t a node) u) where
  abbrev As : {V : Type 0} → (Option Node → V) → Type 0
  As g = (x y : Node) → without_after y ≡ without_after x → g (Some y) ≡ g (Some x)

  row : u.parents ≡ t.parents ++ a ∷ more.more_parents
  row = more.parents ∙ append_assoc t.parents (a ∷ []) more.more_parents

  parent_before : (n : ℕ) → n < size t → parent_of u n ≡ parent_of t n
  parent_before n h = ap (λ ps. slice_index_or ps n 0) row ∙ index_early t.parents (a ∷ more.more_parents) n h

  parent_here : parent_of u (size t) ≡ a
  parent_here = ap (λ ps. slice_index_or ps (size t) 0) row ∙ index_next t.parents more.more_parents a

  inside_row : (n : ℕ) → n < length t.nodes → n < length (t.nodes ++ node ∷ [])
  inside_row n h = let all = length-append t.nodes (node ∷ []) in omega (arith, h, all)

  told : {V : Type 0} (g : Option Node → V) → As g → (n : ℕ) → n < size t → g (node_at u n) ≡ g (node_at t n)
  told g alike zero h = refl
  told g alike (suc n) h =
      let less : n < length t.nodes = omega (arith, h, len) in
      told_same g alike (t.nodes ++ node ∷ []) u.nodes more.nodes n (inside_row n less) ∙ ap g (get_early t.nodes (node ∷ []) n less)

  next : size t ≡ suc (length t.nodes)
  next = omega (arith, len)

  told_here : {V : Type 0} (g : Option Node → V) → As g → g (node_at u (size t)) ≡ g (Some node)
  told_here g alike =
      let all = length-append t.nodes (node ∷ []) in
      ap (λ n. g (node_at u n)) next
      ∙ told_same g alike (t.nodes ++ node ∷ []) u.nodes more.nodes (length t.nodes) (omega (arith, all))
      ∙ ap g (get_next t.nodes [] node)

  after_before : (n b : ℕ) (x : Node) → slice_get t.nodes n ≡ Some x → x.after ≡ Some b → after_of u (suc n) ≡ Some b
  after_before n b x e is =
      let less = get_inside t.nodes n x e in
      after_stays (t.nodes ++ node ∷ []) u.nodes more.nodes n b (ap after_or (get_early t.nodes (node ∷ []) n less ∙ e) ∙ is)

  after_here : (b : ℕ) → node.after ≡ Some b → after_of u (size t) ≡ Some b
  after_here b is = ap (after_of u) next ∙ after_stays (t.nodes ++ node ∷ []) u.nodes more.nodes (length t.nodes) b (ap after_or (get_next t.nodes [] node) ∙ is)

  as_text : As text_or
  as_text x y e = ap (λ m. text_or (Some m)) e

  as_body : As body_or
  as_body x y e = ap (λ m. body_or (Some m)) e

  as_kind : As kind_or
  as_kind x y e = ap (λ m. kind_or (Some m)) e

  as_role : As role_or
  as_role x y e = ap (λ m. role_or (Some m)) e

  module _ (tree : IsTree u) where
    inside : size t < size u
    inside = let all = length-append t.parents (a ∷ more.more_parents) in omega (arith, all, ap (λ (l : List ℕ). length l) row)

    parent_less : a < size t
    parent_less = let up = tree.up (size t) (omega (arith, len)) inside in omega (arith, up, parent_here)

    same_steps : (k j x : ℕ) → x ≤ k → x ≤ j → x < size t → steps_up u.parents k x ≡ steps_up t.parents j x
    same_steps zero j zero h i l = sym (no_step t.parents j)
    same_steps zero j (suc x) h i l = absurd (omega (arith, h))
    same_steps (suc k) zero zero h i l = refl
    same_steps (suc k) zero (suc x) h i l = absurd (omega (arith, i))
    same_steps (suc k) (suc j) zero h i l = refl
    same_steps (suc k) (suc j) (suc x) h i l =
        let less = tree.up (suc x) (omega arith) (omega (arith, l, inside)) in
        let same = parent_before (suc x) l in
        ap suc (same_steps k j (parent_of u (suc x)) (omega (arith, less, h)) (omega (arith, less, i)) (omega (arith, less, l)) ∙ ap (steps_up t.parents j) same)

    depth_here : depth_of u (size t) ≡ suc (depth_of t a)
    depth_here =
        ap (λ n. steps_up u.parents n n) next
        ∙ ap (λ p. suc (steps_up u.parents (length t.nodes) p)) (ap (parent_of u) (sym next) ∙ parent_here)
        ∙ ap suc (same_steps (length t.nodes) a a (omega (arith, parent_less, len)) (omega arith) parent_less)

    early : (n : ℕ) (x : Node) → slice_get t.nodes n ≡ Some x → suc n < size t
    early n x e = let less = get_inside t.nodes n x e in omega (arith, less, len)

    other : (n : ℕ) (x : Node) → slice_get t.nodes n ≡ Some x → suc n ≡ size t → ⊥
    other n x e same = let less = get_inside t.nodes n x e in omega (arith, less, len, same)

    body_before : (b n : ℕ) (x : Node) → slice_get t.nodes n ≡ Some x → x.body ≡ Some b → body_of u (suc n) ≡ Some b
    body_before b n x e is = told body_or as_body (suc n) (early n x e) ∙ ap body_or e ∙ is

    new_id : has_id t node.id ≡ false
    new_id = none_of (λ x. bytes_eq (spelling x.id) (spelling node.id)) t.nodes (λ n x e. not_true _ (λ same.
        other n x e (tree.ids (suc n) (size t) (spelling node.id) (told text_or as_text (suc n) (early n x e) ∙ ap text_or e ∙ ap Some ((bytes_eq-Decides (spelling x.id) (spelling node.id)).0 same)) (told_here text_or as_text))))

    -- what is a body or an after-body before is neither here
    clash_body : (b n : ℕ) (x : Node) → slice_get t.nodes n ≡ Some x → node.body ≡ Some b → (is_body b x.body ≡ true) ⊎ (is_body b x.after ≡ true) → ⊥
    clash_body b n x e is (inl same) = other n x e (tree.bodies (suc n) (size t) b (body_before b n x e (body_from b x.body same)) (told_here body_or as_body ∙ is))
    clash_body b n x e is (inr same) = tree.apart (size t) (suc n) b (told_here body_or as_body ∙ is) (after_before n b x e (body_from b x.after same))

    clash_after : (b n : ℕ) (x : Node) → slice_get t.nodes n ≡ Some x → node.after ≡ Some b → (is_body b x.body ≡ true) ⊎ (is_body b x.after ≡ true) → ⊥
    clash_after b n x e is (inl same) = tree.apart (suc n) (size t) b (body_before b n x e (body_from b x.body same)) (after_here b is)
    clash_after b n x e is (inr same) = other n x e (tree.afters (suc n) (size t) b (after_before n b x e (body_from b x.after same)) (after_here b is))

    new_body : (body : Option ℕ) → node.body ≡ body → has_body t body ≡ false
    new_body None is = refl
    new_body (Some b) is = none_of (uses_body b) t.nodes (λ n x e. not_true _ (λ used. clash_body b n x e is (either (is_body b x.body) (is_body b x.after) used)))

    new_after : (after : Option ℕ) → node.after ≡ after → has_body t after ≡ false
    new_after None is = refl
    new_after (Some b) is = none_of (uses_body b) t.nodes (λ n x e. not_true _ (λ used. clash_after b n x e is (either (is_body b x.body) (is_body b x.after) used)))

    once : repeats_itself node ≡ false
    once = once_of node.body node.after (λ b is too. tree.apart (size t) (size t) b (told_here body_or as_body ∙ is) (after_here b too))

    child : IsChild u a (size t)
    child = record { above_zero = omega (arith, len); inside = inside; parent = parent_here }

    kind_here : kind_or (node_at u (size t)) ≡ node.kind
    kind_here = told_here kind_or as_kind

    role_here : role_or (node_at u (size t)) ≡ node.role
    role_here = told_here role_or as_role

    container : is_leaf_at t a ≡ false
    container = sym (ap (λ k. not (is_container k)) (told kind_or as_kind a parent_less)) ∙ tree.leaf a (size t) child

    declared : a ≡ 0 → declares node ≡ false
    declared is =
        let at_plan : IsChild u 0 (size t) = record { above_zero = omega (arith, len); inside = inside; parent = parent_here ∙ is } in
        let none = tree.engines (size t) at_plan in
        nothing_declared node (record {
          no_mode = sym (told_here mode_or (λ x y e. ap (λ m. mode_or (Some m)) e)) ∙ none.no_mode;
          no_locks = sym (told_here locks_or (λ x y e. ap (λ m. locks_or (Some m)) e)) ∙ none.no_locks;
          not_isolated = sym (told_here isolated_or (λ x y e. ap (λ m. isolated_or (Some m)) e)) ∙ none.not_isolated;
        })

    placed : IsPlaced (role_of t a) node.kind node.role
    placed = record {
      spare = sym (ap is_spare role_here) ∙ tree.spares a (size t) child ∙ ap is_factory (told role_or as_role a parent_less);
      spare_test = λ h. sym (ap (λ k. not (is_container k)) kind_here) ∙ tree.spare_tests (size t) (ap is_spare role_here ∙ h);
      factory = λ h. sym (ap (λ k. not (is_container k)) kind_here) ∙ tree.factories (size t) (ap is_factory role_here ∙ h);
    }

    after_placed : has_misplaced_after node ≡ false
    after_placed = after_is_placed node.kind node.role node.after (λ b e.
        let was = tree.after_placed (size t) b (after_here b e) in
        (sym (ap (λ k. not (is_container k)) kind_here) ∙ was.0, sym (ap is_factory role_here) ∙ was.1))

    short : is_over_limit node ≡ false
    short = sym (told_here over_or (λ x y e. ap (λ m. over_or (Some m)) e)) ∙ not_over (node_at u (size t)) (tree.short (size t))

    takes_next : (limit : ℕ) → size u ≤ limit + 1 → refusal limit t a node ≡ None
    takes_next limit few =
        let shallow = tree.shallow (size t) inside in
        pass_by _ _ _ (le-ltb limit (size t) (omega (arith, few, inside))) (
        pass_by _ _ _ (ne_eqb (depth_of t a) 64 (λ e. omega (arith, e, shallow, depth_here))) (
        pass_by _ _ _ new_id (
        pass_by _ _ _ container (
        pass_by _ _ _ (not_both a (declares node) declared) (
        pass_by _ _ _ (none_of_three (has_body t node.body) (has_body t node.after) (repeats_itself node) (new_body node.body refl) (new_after node.after refl) once) (
        pass_by _ _ _ (not_misplaced (role_of t a) node.kind node.role placed) (
        pass_by _ _ _ short (
        pass_by _ _ _ after_placed refl))))))))

pub taken_next : (limit : ℕ) (t u : Nodes) (a : ℕ) (node : Node) → length t.nodes + 1 ≡ size t → Extends (appended t a node) u → IsTree u → size u ≤ limit + 1 → refusal limit t a node ≡ None
taken_next limit t u a node len more tree few = takes_next t u a node len more tree limit few

-- an after-body of a tree is one that the nodes before it take
given_there : (b i : ℕ) (xs : List Node) → may_get_after_or (slice_get xs i) ≡ true → after_or (slice_get (given_after_at b i xs) i) ≡ Some b
given_there b i [] e = absurd (cc)
given_there b zero (x ∷ xs) e = refl
given_there b (suc i) (x ∷ xs) e = given_there b i xs e

module _ (t u : Nodes) (i b : ℕ) (may : may_get_after_at t (suc i) ≡ true) (more : Extends (with_after t (suc i) b) u) (tree : IsTree u) where
  from_start : Grew t.nodes u.nodes
  from_start = grew_then t.nodes (given_after_at b i t.nodes) u.nodes (grew_given b i t.nodes may) more.nodes

  has_it : after_of u (suc i) ≡ Some b
  has_it = after_stays (given_after_at b i t.nodes) u.nodes more.nodes i b (given_there b i t.nodes may)

  had_none : (x : Node) → slice_get t.nodes i ≡ Some x → x.after ≡ Some b → ⊥
  had_none x e is =
      let none : x.after ≡ None = none_if x.after (takes_after x.kind x.role) (sym (ap may_get_after_or e) ∙ may) in
      cc

  clash_given : (n : ℕ) (x : Node) → slice_get t.nodes n ≡ Some x → (is_body b x.body ≡ true) ⊎ (is_body b x.after ≡ true) → ⊥
  clash_given n x e (inl same) =
      tree.apart (suc n) (suc i) b (told_same body_or (λ y z d. ap (λ m. body_or (Some m)) d) t.nodes u.nodes from_start n (get_inside t.nodes n x e) ∙ ap body_or e ∙ body_from b x.body same) has_it
  clash_given n x e (inr same) =
      let is = body_from b x.after same in
      let here : suc n ≡ suc i = tree.afters (suc n) (suc i) b (after_stays t.nodes u.nodes from_start n b (ap after_or e ∙ is)) has_it in
      let place : n ≡ i = omega (arith, here) in
      had_none x (sym (ap (slice_get t.nodes) place) ∙ e) is

  unused : has_body t (Some b) ≡ false
  unused = none_of (uses_body b) t.nodes (λ n x e. not_true _ (λ used. clash_given n x e (either (is_body b x.body) (is_body b x.after) used)))

  takes_after_body : after_refusal t (suc i) b ≡ None
  takes_after_body = pass_by _ _ _ unused (ap (λ c. cond c None (Some AfterMisplaced)) may)

pub taken_given : (t u : Nodes) (n b : ℕ) → may_get_after_at t n ≡ true → Extends (with_after t n b) u → IsTree u → after_refusal t n b ≡ None
taken_given t u zero b may more tree = absurd (cc)
taken_given t u (suc i) b may more tree = takes_after_body t u i b may more tree

-- it adds no node
pub counted_given : (t : Nodes) (n b : ℕ) → length t.nodes + 1 ≡ size t → length (with_after t n b).nodes + 1 ≡ size (with_after t n b)
counted_given t zero b h = h
counted_given t (suc i) b h = ap (λ k. k + 1) (length_given b i t.nodes) ∙ h

short_next : (xs ys : List Node) (x : Node) → Grew (xs ++ x ∷ []) ys → AllByRecursion (λ (node : Node). IsShortId node.id) ys → IsShortId x.id
short_next [] [] x h all = absurd h
short_next [] (y ∷ ys) x h all = subst IsShortId (ap (λ (m : Node). m.id) h.0.same) all.0
short_next (z ∷ xs) [] x h all = absurd h
short_next (z ∷ xs) (y ∷ ys) x h all = short_next xs ys x h.1 all.1

-- and its unique id is within the limits
pub id_next : (t u : Nodes) (a : ℕ) (node : Node) → Extends (appended t a node) u → AllByRecursion (λ (n : Node). IsShortId n.id) u.nodes → IsShortId node.id
id_next t u a node more all = short_next t.nodes u.nodes node more.nodes all

pub id_short : (segments : List Segment) (kind value : List ℕ) → (length kind == 0) ≡ false → (length value == 0) ≡ false → IsShortId (segments ++ record { kind = kind; value = value } ∷ []) → ids.refusal segments kind value ≡ None
id_short segments kind value some named short =
    let last : Segment = record { kind = kind; value = value } in
    let all = length-append segments (last ∷ []) in
    let few : length segments + 1 ≤ 64 = omega (arith, all, short.0) in
    let long : nat_lt 64 (length segments + 1) ≡ false = search (rules, tests) in
    let text : nat_lt 1024 (length (spelling (segments ++ last ∷ []))) ≡ false = search (rules, tests) in
    ap (λ b. cond b (Some (EmptyPart 0)) (cond (length value == 0) (Some (EmptyPart 1)) (cond (nat_lt 64 (length segments + 1) || nat_lt 1024 (length (spelling (segments ++ last ∷ [])))) (Some TooLong) None))) some
    ∙ ap (λ b. cond b (Some (EmptyPart 1)) (cond (nat_lt 64 (length segments + 1) || nat_lt 1024 (length (spelling (segments ++ last ∷ [])))) (Some TooLong) None)) named
    ∙ ap (λ b. cond (b || nat_lt 1024 (length (spelling (segments ++ last ∷ [])))) (Some TooLong) None) long
    ∙ ap (λ b. cond b (Some TooLong) None) text
