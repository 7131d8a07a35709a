-- A tree in which a node was given an after-body is a tree.
use Rattle.std.proofs.Common.{◌≡◌, ℕ, zero, suc, ◌+◌, ◌<◌, ◌&&◌, ◌||◌, not, Bool, true, false, cond, List, [], ◌∷◌, length, get_or, refl, ap, sym, ◌∙◌, arith, inl, inr, ◌⊎◌, Option, Some, None}
use Rattle.std.specs.Prelude.{slice_get, slice_set}
use Rattle.std.specs.List.{list_any}
use Rattle.std.specs.Option.{is_none}
use Rattle.std.specs.Str.{bytes_eq}
use Rattle.std.proofs.lemmas.Option.{same_Some}
use Rattle.unique_id.specs.Spelling.{spelling}
use Rattle.descriptor.specs.declared.node.Node.{Node}
use Rattle.descriptor.specs.Bodies.{is_body, takes_after, may_get_after_or, may_get_after_at, given_after, given_after_at, with_after}
use Rattle.descriptor.specs.Declarations.{DeclaresNothing}
use Rattle.descriptor.specs.Inside.Fields.{IsKept}
use Rattle.descriptor.specs.Kinds.{is_container}
use Rattle.descriptor.specs.Limits.{is_over_limit}
use Rattle.descriptor.specs.Nodes.{Nodes, IsTree, IsChild, Below, child, under, MayTake, size, node_at, kind_or, role_or, mode_or, locks_or, isolated_or, body_or, after_or, text_or, body_of, after_of, mode_of, locks_of, is_isolated_at, is_leaf_at, is_factory_at}
use Rattle.descriptor.specs.Refusals.{has_text, has_body, uses_body, after_refusal}
use Rattle.descriptor.specs.Roles.{is_factory, is_spare}
use Rattle.descriptor.specs.declared.fault.TreeFault.{TreeFault}
use Rattle.descriptor.proofs.Accepted.{both_fit}
use Rattle.descriptor.proofs.Distinct.{body_found, after_found}

and_true : (a b : Bool) → (a && b) ≡ true → (a ≡ true) × (b ≡ true)
and_true true b e = (refl, e)
and_true false b e = absurd (cc)

-- what a pair of tests says that answers nothing
not_refused : (b c : Bool) (x y : TreeFault) → cond b (Some x) (cond c None (Some y)) ≡ None → (b ≡ false) × (c ≡ true)
not_refused true c x y e = absurd (cc)
not_refused false true x y e = (refl, refl)
not_refused false false x y e = absurd (cc)

pub taken_after : (t : Nodes) (n b : ℕ) → after_refusal t n b ≡ None → (has_body t (Some b) ≡ false) × (may_get_after_at t n ≡ true)
taken_after t n b e = not_refused _ _ _ _ e

is_none_None : {X : Type 0} (o : Option X) → is_none o ≡ true → o ≡ None
is_none_None None e = refl
is_none_None (Some x) e = absurd (cc)

-- the list with one element in place of another
pub set_given : (b : ℕ) (xs : List Node) (i : ℕ) (x : Node) → i < length xs → x ≡ get_or xs i x → slice_set xs i (given_after b x) ≡ given_after_at b i xs
set_given b [] i x h e = absurd (omega arith)
set_given b (y ∷ xs) zero x h e = ap (λ z. given_after b z ∷ xs) e
set_given b (y ∷ xs) (suc i) x h e = ap (λ zs. y ∷ zs) (set_given b xs i x (omega arith) e)

module _ (b : ℕ) where
  -- it adds no node
  pub length_given : (i : ℕ) (xs : List Node) → length (given_after_at b i xs) ≡ length xs
  length_given i [] = refl
  length_given zero (x ∷ xs) = refl
  length_given (suc i) (x ∷ xs) = ap suc (length_given i xs)

  -- what has nothing to do with the after-body is as it was
  told_same : {V : Type 0} (g : Option Node → V) → ((node : Node) → g (Some (given_after b node)) ≡ g (Some node)) → (i j : ℕ) (xs : List Node) → g (slice_get (given_after_at b i xs) j) ≡ g (slice_get xs j)
  told_same g same i j [] = refl
  told_same g same zero zero (x ∷ xs) = same x
  told_same g same zero (suc j) (x ∷ xs) = refl
  told_same g same (suc i) zero (x ∷ xs) = refl
  told_same g same (suc i) (suc j) (x ∷ xs) = told_same g same i j xs

  any_same : (q : Node → Bool) → ((node : Node) → q (given_after b node) ≡ q node) → (i : ℕ) (xs : List Node) → list_any q (given_after_at b i xs) ≡ list_any q xs
  any_same q same i [] = refl
  any_same q same zero (x ∷ xs) = ap (λ y. y || list_any q xs) (same x)
  any_same q same (suc i) (x ∷ xs) = ap (λ y. q x || y) (any_same q same i xs)

  -- an after-body is one of before or the new one
  after_split : (i j c : ℕ) (xs : List Node) → after_or (slice_get (given_after_at b i xs) j) ≡ Some c → (after_or (slice_get xs j) ≡ Some c) ⊎ ((j ≡ i) × (b ≡ c))
  after_split i j c [] e = inl e
  after_split zero zero c (x ∷ xs) e = inr (refl, same_Some b c e)
  after_split zero (suc j) c (x ∷ xs) e = inl e
  after_split (suc i) zero c (x ∷ xs) e = inl e
  after_split (suc i) (suc j) c (x ∷ xs) e = elim (after_split i j c xs e) [ inl old ↦ inl old | inr new ↦ inr (ap suc new.0, new.1) ]

  here : (p q eq : Bool) → q ≡ false → (rest : Bool) → ((p || eq) || rest) ≡ cond eq true ((p || q) || rest)
  here p true eq e rest = absurd (cc)
  here true false true e rest = refl
  here true false false e rest = refl
  here false false true e rest = refl
  here false false false e rest = refl

  later : (p eq rest : Bool) → (p || cond eq true rest) ≡ cond eq true (p || rest)
  later true true rest = refl
  later true false rest = refl
  later false true rest = refl
  later false false rest = refl

  -- the bodies and after-bodies are those of before and the new one
  bodies_given : (i c : ℕ) (xs : List Node) → may_get_after_or (slice_get xs i) ≡ true → list_any (uses_body c) (given_after_at b i xs) ≡ cond (is_body c (Some b)) true (list_any (uses_body c) xs)
  bodies_given i c [] e = absurd (cc)
  bodies_given zero c (x ∷ xs) e =
      let none : x.after ≡ None = is_none_None x.after (and_true (is_none x.after) (takes_after x.kind x.role) e).0 in
      here (is_body c x.body) (is_body c x.after) (is_body c (Some b)) (ap (is_body c) none) (list_any (uses_body c) xs)
  bodies_given (suc i) c (x ∷ xs) e = ap (λ y. uses_body c x || y) (bodies_given i c xs e) ∙ later (uses_body c x) (is_body c (Some b)) (list_any (uses_body c) xs)

module _ (t : Nodes) (b : ℕ) where
  -- the ids of a tree in which a node was given an after-body
  pub texts_with_after : (n : ℕ) (text : List ℕ) → has_text (with_after t n b) text ≡ has_text t text
  texts_with_after zero text = refl
  texts_with_after (suc i) text = any_same b (λ (node : Node). bytes_eq (spelling node.id) text) (λ node. refl) i t.nodes

  -- its bodies
  pub bodies_with_after : (n c : ℕ) → may_get_after_at t n ≡ true → has_body (with_after t n b) (Some c) ≡ cond (is_body c (Some b)) true (has_body t (Some c))
  bodies_with_after zero c e = absurd (cc)
  bodies_with_after (suc i) c e = bodies_given b i c t.nodes e

  module _ (i : ℕ) where
    abbrev given : Nodes
    given = with_after t (suc i) b

    same_at : {V : Type 0} (g : Option Node → V) → ((node : Node) → g (Some (given_after b node)) ≡ g (Some node)) → (m : ℕ) → g (node_at given m) ≡ g (node_at t m)
    same_at g same zero = refl
    same_at g same (suc j) = told_same b g same i j t.nodes

    split_at : (m c : ℕ) → after_of given m ≡ Some c → (after_of t m ≡ Some c) ⊎ ((m ≡ suc i) × (b ≡ c))
    split_at zero c e = absurd (cc)
    split_at (suc j) c e = elim (after_split b i j c t.nodes e) [ inl old ↦ inl old | inr new ↦ inr (ap suc new.0, new.1) ]

    child_was : (a c : ℕ) → IsChild given a c → IsChild t a c
    child_was a c e = record { above_zero = e.above_zero; inside = e.inside; parent = e.parent }

    child_is : (a c : ℕ) → IsChild t a c → IsChild given a c
    child_is a c e = record { above_zero = e.above_zero; inside = e.inside; parent = e.parent }

    below_is : (a c : ℕ) → Below t a c → Below given a c
    below_is a c (child e) = child (child_is _ _ e)
    below_is a c (under d e) = under (below_is _ _ d) (child_is _ _ e)

    abbrev is_leaf_or : Option Node → Bool
    is_leaf_or o = not (is_container (kind_or o))

    abbrev is_factory_or : Option Node → Bool
    is_factory_or o = is_factory (role_or o)

    abbrev is_spare_or : Option Node → Bool
    is_spare_or o = is_spare (role_or o)

    abbrev is_over_or : Option Node → Bool
    is_over_or None = false
    is_over_or (Some node) = is_over_limit node

    not_over : (o : Option Node) → ((told : Node) → o ≡ Some told → is_over_limit told ≡ false) → is_over_or o ≡ false
    not_over None h = refl
    not_over (Some node) h = h node refl

    -- a body that no node has is none
    is_new : has_body t (Some b) ≡ false → list_any (uses_body b) t.nodes ≡ true → ⊥
    is_new none is = cc

    no_body : (m c : ℕ) → has_body t (Some b) ≡ false → b ≡ c → body_of t m ≡ Some c → ⊥
    no_body zero c none is e = cc
    no_body (suc j) c none is e = is_new none (body_found t.nodes j b (e ∙ ap Some (sym is)))

    no_after : (m c : ℕ) → has_body t (Some b) ≡ false → b ≡ c → after_of t m ≡ Some c → ⊥
    no_after zero c none is e = cc
    no_after (suc j) c none is e = is_new none (after_found t.nodes j b (e ∙ ap Some (sym is)))

    module _ (tree : IsTree t) (none : has_body t (Some b) ≡ false) (may : may_get_after_at t (suc i) ≡ true) where
      afters : (m n c : ℕ) → after_of given m ≡ Some c → after_of given n ≡ Some c → m ≡ n
      afters m n c d e = elim (split_at m c d) [
        | inl old ↦ elim (split_at n c e) [ inl also ↦ tree.afters m n c old also | inr new ↦ absurd (no_after m c none new.1 old) ]
        | inr first ↦ elim (split_at n c e) [ inl also ↦ absurd (no_after n c none first.1 also) | inr new ↦ first.0 ∙ sym new.0 ]
      ]

      apart : (m n c : ℕ) → body_of given m ≡ Some c → after_of given n ≡ Some c → ⊥
      apart m n c d e =
          let was : body_of t m ≡ Some c = sym (same_at body_or (λ node. refl) m) ∙ d in
          elim (split_at n c e) [ inl old ↦ tree.apart m n c was old | inr new ↦ no_body m c none new.1 was ]

      fits_or : (o : Option Node) → may_get_after_or o ≡ true → (is_leaf_or o ≡ false) × (is_factory_or o ≡ false)
      fits_or None e = absurd (cc)
      fits_or (Some node) e = both_fit (is_container node.kind) (is_factory node.role) (and_true (is_none node.after) (takes_after node.kind node.role) e).1

      was_placed : (n c : ℕ) → after_of given n ≡ Some c → (is_leaf_at t n ≡ false) × (is_factory_at t n ≡ false)
      was_placed n c e = elim (split_at n c e) [
        | inl old ↦ tree.after_placed n c old
        | inr new ↦ fits_or (node_at t n) (ap (may_get_after_at t) new.0 ∙ may)
      ]

      engines : (n : ℕ) → IsChild given 0 n → DeclaresNothing (mode_of given n) (locks_of given n) (is_isolated_at given n)
      engines n e =
          let was = tree.engines n (child_was _ _ e) in
          record {
            no_mode = same_at mode_or (λ node. refl) n ∙ was.no_mode;
            no_locks = same_at locks_or (λ node. refl) n ∙ was.no_locks;
            not_isolated = same_at isolated_or (λ node. refl) n ∙ was.not_isolated;
          }

      tree_given : IsTree given
      tree_given = record {
        root = tree.root;
        few = tree.few;
        nodes_len = ap (λ x. x + 1) (length_given b i t.nodes) ∙ tree.nodes_len;
        up = tree.up;
        preorder = λ n above h. elim (tree.preorder n above h) [ inl e ↦ inl e | inr d ↦ inr (below_is _ _ d) ];
        shallow = tree.shallow;
        leaf = λ n c e. same_at is_leaf_or (λ node. refl) n ∙ tree.leaf n c (child_was n c e);
        ids = λ m n text d e. tree.ids m n text (sym (same_at text_or (λ node. refl) m) ∙ d) (sym (same_at text_or (λ node. refl) n) ∙ e);
        bodies = λ m n c d e. tree.bodies m n c (sym (same_at body_or (λ node. refl) m) ∙ d) (sym (same_at body_or (λ node. refl) n) ∙ e);
        afters = afters;
        apart = apart;
        after_placed = λ n c e. (let was = was_placed n c e in (same_at is_leaf_or (λ node. refl) n ∙ was.0, same_at is_factory_or (λ node. refl) n ∙ was.1));
        spares = λ n c e. same_at is_spare_or (λ node. refl) c ∙ tree.spares n c (child_was n c e) ∙ sym (same_at is_factory_or (λ node. refl) n);
        spare_tests = λ n e. same_at is_leaf_or (λ node. refl) n ∙ tree.spare_tests n (sym (same_at is_spare_or (λ node. refl) n) ∙ e);
        factories = λ n e. same_at is_leaf_or (λ node. refl) n ∙ tree.factories n (sym (same_at is_factory_or (λ node. refl) n) ∙ e);
        engines = engines;
        short = λ n told e. sym (ap is_over_or e) ∙ same_at is_over_or (λ node. refl) n ∙ not_over (node_at t n) (tree.short n);
      }

      kept_given : (ds : List ℕ) (cs : List (List ℕ)) → IsKept t ds cs → IsKept given ds cs
      kept_given ds cs k = record { tree = tree_given; plan = k.plan; depths_len = k.depths_len; children_len = k.children_len; depths = k.depths; children = k.children }

-- the lists beside the nodes stay those of the tree
pub kept_with_after : (t : Nodes) (n b : ℕ) (ds : List ℕ) (cs : List (List ℕ)) → IsKept t ds cs → after_refusal t n b ≡ None → IsKept (with_after t n b) ds cs
kept_with_after t zero b ds cs k e = k
kept_with_after t (suc i) b ds cs k e = let may = taken_after t (suc i) b e in kept_given t b i k.tree may.0 may.1 ds cs k

nodes_as : (p q : List ℕ) (m n : List Node) → p ≡ q → m ≡ n → (let left : Nodes = record { parents = p; nodes = m } in let right : Nodes = record { parents = q; nodes = n } in left ≡ right)
nodes_as p q m n e d = cc

-- and the nodes are those with the after-body at its place
pub with_after_is : (t u : Nodes) (n i b : ℕ) (x : Node) → IsTree t → n < size t → suc i ≡ n → x ≡ get_or t.nodes i x → t.parents ≡ u.parents → u.nodes ≡ slice_set t.nodes i (given_after b x) → with_after t n b ≡ u
with_after_is t u zero i b x tree inside place at ps ns = absurd (omega arith)
with_after_is t u (suc n) i b x tree inside place at ps ns =
    let same : i ≡ n = omega arith in
    let is : slice_set t.nodes i (given_after b x) ≡ given_after_at b i t.nodes = set_given b t.nodes i x (omega (arith, tree.nodes_len)) at in
    nodes_as _ _ _ _ ps (ap (λ j. given_after_at b j t.nodes) (sym same) ∙ sym is ∙ sym ns)

-- for callers: what has nothing to do with after-bodies is as it was
pub told_as_before : {V : Type 0} (g : Option Node → V) (t : Nodes) (n b : ℕ) → ((node : Node) → g (Some (given_after b node)) ≡ g (Some node)) → (m : ℕ) → g (node_at (with_after t n b) m) ≡ g (node_at t m)
told_as_before g t zero b same m = refl
told_as_before g t (suc i) b same m = same_at t b i g same m

-- what was below a node is below it
pub below_as_before : (t : Nodes) (n b a c : ℕ) → Below t a c → Below (with_after t n b) a c
below_as_before t zero b a c e = e
below_as_before t (suc i) b a c e = below_is t b i a c e

-- and a node that could take the next one can
pub may_take_as_before : (t : Nodes) (n b a : ℕ) → MayTake t a → MayTake (with_after t n b) a
may_take_as_before t zero b a m = m
may_take_as_before t (suc i) b a m = (m.0, elim m.1 [ inl last ↦ inl last | inr below ↦ inr (below_is t b i _ _ below) ])

given_there : (b i : ℕ) (xs : List Node) → i < length xs → after_or (slice_get (given_after_at b i xs) i) ≡ Some b
given_there b i [] h = absurd (omega arith)
given_there b zero (x ∷ xs) h = refl
given_there b (suc i) (x ∷ xs) h = given_there b i xs (omega arith)

-- the node has the after-body that it was given
pub after_given : (t : Nodes) (n b : ℕ) → IsTree t → 0 < n → n < size t → after_of (with_after t n b) n ≡ Some b
after_given t zero b tree above inside = absurd (omega arith)
after_given t (suc i) b tree above inside = given_there b i t.nodes (omega (arith, tree.nodes_len))
