-- A tree with one more node that is not refused is a tree.
use Rattle.std.proofs.Common.{◌≡◌, ◌≢◌, ℕ, zero, suc, ◌+◌, ◌-◌, ◌<◌, ◌≤◌, ◌&&◌, not, Bool, true, false, cond, eqb, ltb, List, [], ◌∷◌, ◌++◌, length, refl, ap, sym, ◌∙◌, arith, inl, inr, ◌⊎◌, subst, Option, Some, None}
use Rattle.std.specs.Prelude.{slice_get, ◌||◌}
use Rattle.std.specs.Option.{is_some}
use Rattle.std.proofs.lemmas.Bool.{ne_eqb, ltb-false, le-ltb}
use Rattle.std.proofs.lemmas.Option.{same_Some}
use Rattle.descriptor.specs.declared.kind.Kind.{Kind}
use Rattle.descriptor.specs.declared.lock.Lock.{Lock}
use Rattle.descriptor.specs.declared.node.Node.{Node}
use Rattle.descriptor.specs.declared.role.Role.{Role}
use Rattle.descriptor.specs.declared.role.Role.TheVariants.{Plain, Factory, Spare}
use Rattle.descriptor.specs.declared.fault.TreeFault.TheVariants.{TooMany, TooDeep, DoubleId, ParentIsTest, EngineLock, BodyTwice, SpareOutsideFactory, OverLimit, AfterMisplaced}
use Rattle.descriptor.specs.Bodies.{takes_after, repeats_itself, has_misplaced_after}
use Rattle.descriptor.specs.Declarations.{declares, DeclaresNothing}
use Rattle.descriptor.specs.Kinds.{is_container}
use Rattle.descriptor.specs.Limits.{is_over_limit}
use Rattle.descriptor.specs.Nodes.{Nodes, IsTree, IsChild, Below, child, under, MayTake, size, parent_of, depth_of, appended, node_at, is_leaf_at, is_factory_at, is_spare_at, role_of, mode_or, locks_or, isolated_or, kind_or, role_or, after_or, mode_of, locks_of, is_isolated_at}
use Rattle.descriptor.specs.Refusals.{refusal, has_id, has_body, repeats_body}
use Rattle.descriptor.specs.Roles.{is_factory, is_spare, is_misplaced}
use Rattle.descriptor.proofs.Distinct.{ids_once, bodies_once, afters_once, still_apart}
use Rattle.descriptor.proofs.Grown.{length_more, get_before, get_last, depth_before, depth_last, below_or_last}

-- the first of two tests in a row, where neither passed
passed_by : {X : Type 0} (b : Bool) (x : X) (rest : Option X) → cond b (Some x) rest ≡ None → (b ≡ false) × (rest ≡ None)
passed_by true x rest e = absurd (cc)
passed_by false x rest e = (refl, e)

-- the converse
pub pass_by : {X : Type 0} (b : Bool) (x : X) (rest : Option X) → b ≡ false → rest ≡ None → cond b (Some x) rest ≡ None
pass_by true x rest b e = absurd (cc)
pass_by false x rest b e = e

neither : (a b : Bool) → (a || b) ≡ false → (a ≡ false) × (b ≡ false)
neither true b e = absurd (cc)
neither false b e = (refl, e)

not_false : (b : Bool) → not b ≡ false → b ≡ true
not_false true e = refl
not_false false e = absurd (cc)

not_true : (b : Bool) → not b ≡ true → b ≡ false
not_true true e = absurd (cc)
not_true false e = refl

-- what a node's role and kind have to do with the role above, where they are not misplaced
pub record IsPlaced (above : Role) (sort : Kind) (own : Role) : Type 0 where
  pub spare : is_spare own ≡ is_factory above
  pub spare_test : is_spare own ≡ true → not (is_container sort) ≡ true
  pub factory : is_factory own ≡ true → not (is_container sort) ≡ false

pub is_placed : (above : Role) (sort : Kind) (own : Role) → is_misplaced above sort own ≡ false → IsPlaced above sort own
is_placed above sort Plain e = record { spare = sym e; spare_test = λ h. absurd (cc); factory = λ h. absurd (cc) }
is_placed above sort Factory e =
    let both = neither (is_factory above) (not (is_container sort)) e in
    record { spare = sym both.0; spare_test = λ h. absurd (cc); factory = λ h. both.1 }
is_placed above sort Spare e =
    let both = neither (not (is_factory above)) (is_container sort) e in
    record { spare = sym (not_false (is_factory above) both.0); spare_test = λ h. ap not both.1; factory = λ h. absurd (cc) }

pub not_misplaced : (above : Role) (sort : Kind) (own : Role) → IsPlaced above sort own → is_misplaced above sort own ≡ false
not_misplaced above sort Plain p = sym p.spare
not_misplaced above sort Factory p = ap (λ b. b || not (is_container sort)) (sym p.spare) ∙ p.factory refl
not_misplaced above sort Spare p = ap (λ b. not b || is_container sort) (sym p.spare) ∙ not_true (is_container sort) (p.spare_test refl)

no_locks : (locks : List Lock) → not (eqb (length locks) 0) ≡ false → locks ≡ []
no_locks [] e = refl
no_locks (lock ∷ locks) e = absurd (let some : not (eqb (suc (length locks)) 0) ≡ true = ap not (ne_eqb (suc (length locks)) 0 (λ h. omega arith)) in cc)

no_option : {X : Type 0} (o : Option X) → is_some o ≡ false → o ≡ None
no_option None e = refl
no_option (Some x) e = absurd (cc)

pub declares_nothing : (node : Node) → declares node ≡ false → DeclaresNothing node.mode node.locks node.isolated
declares_nothing node e =
    let last = neither (is_some node.mode || node.isolated) (not (eqb (length node.locks) 0)) e in
    let first = neither (is_some node.mode) node.isolated last.0 in
    record { no_mode = no_option node.mode first.0; no_locks = no_locks node.locks last.1; not_isolated = first.1 }

pub nothing_declared : (node : Node) → DeclaresNothing node.mode node.locks node.isolated → declares node ≡ false
nothing_declared node d = rw (d.no_mode, d.not_isolated, d.no_locks) refl

pub both_fit : (a b : Bool) → (a && not b) ≡ true → (not a ≡ false) × (b ≡ false)
both_fit true true e = absurd (cc)
both_fit true false e = (refl, refl)
both_fit false b e = absurd (cc)

fit_both : (a b : Bool) → not a ≡ false → b ≡ false → not (a && not b) ≡ false
fit_both true true e d = absurd (cc)
fit_both true false e d = refl
fit_both false b e d = absurd (cc)

-- an after-body that is not misplaced
pub after_fits : (node : Node) (b : ℕ) → has_misplaced_after node ≡ false → node.after ≡ Some b → (not (is_container node.kind) ≡ false) × (is_factory node.role ≡ false)
after_fits node b e is =
    let fits : takes_after node.kind node.role ≡ true = not_false (takes_after node.kind node.role) (ap (λ o. is_some o && not (takes_after node.kind node.role)) (sym is) ∙ e) in
    both_fit (is_container node.kind) (is_factory node.role) fits

pub after_is_placed : (sort : Kind) (own : Role) (after : Option ℕ) → ((b : ℕ) → after ≡ Some b → (not (is_container sort) ≡ false) × (is_factory own ≡ false)) → (is_some after && not (takes_after sort own)) ≡ false
after_is_placed sort own None h = refl
after_is_placed sort own (Some b) h = let is = h b refl in fit_both (is_container sort) (is_factory own) is.0 is.1

pub record IsAccepted (t : Nodes) (a : ℕ) (node : Node) : Type 0 where
  pub few : size t ≤ 16383
  pub shallow : depth_of t a ≢ 64
  pub new_id : has_id t node.id ≡ false
  pub container : is_leaf_at t a ≡ false
  pub engine : (eqb a 0 && declares node) ≡ false
  pub new_body : has_body t node.body ≡ false
  pub new_after : has_body t node.after ≡ false
  pub once : repeats_itself node ≡ false
  pub placed : is_misplaced (role_of t a) node.kind node.role ≡ false
  pub short : is_over_limit node ≡ false
  pub after : has_misplaced_after node ≡ false

pub accepted : (t : Nodes) (a : ℕ) (node : Node) → refusal 16383 t a node ≡ None → IsAccepted t a node
accepted t a node e =
    let few = passed_by (ltb 16383 (size t)) TooMany _ e in
    let shallow = passed_by (eqb (depth_of t a) 64) TooDeep _ few.1 in
    let id = passed_by (has_id t node.id) DoubleId _ shallow.1 in
    let container = passed_by (is_leaf_at t a) ParentIsTest _ id.1 in
    let engine = passed_by (eqb a 0 && declares node) EngineLock _ container.1 in
    let body = passed_by (repeats_body t node) BodyTwice _ engine.1 in
    let misplaced = passed_by (is_misplaced (role_of t a) node.kind node.role) SpareOutsideFactory _ body.1 in
    let long = passed_by (is_over_limit node) OverLimit _ misplaced.1 in
    let after = passed_by (has_misplaced_after node) AfterMisplaced None long.1 in
    let own = neither (has_body t node.body || has_body t node.after) (repeats_itself node) body.0 in
    let others = neither (has_body t node.body) (has_body t node.after) own.0 in
    record {
      few = ltb-false 16383 (size t) few.0;
      shallow = grind (arith, shallow.0);
      new_id = id.0;
      container = container.0;
      engine = engine.0;
      new_body = others.0;
      new_after = others.1;
      once = own.1;
      placed = misplaced.0;
      short = long.0;
      after = after.0;
    }

-- what is accepted below a limit is accepted below the greatest
pub accepted_by_most : (limit : ℕ) (t : Nodes) (a : ℕ) (node : Node) → limit ≤ 16383 → refusal limit t a node ≡ None → refusal 16383 t a node ≡ None
accepted_by_most limit t a node low e =
    let few = passed_by (ltb limit (size t)) TooMany _ e in
    pass_by (ltb 16383 (size t)) TooMany _ (le-ltb 16383 (size t) (let within = ltb-false limit (size t) few.0 in omega (arith, within, low))) few.1

pub get_early : {X : Type 0} (xs : List X) (x : X) (n : ℕ) → n < length xs → slice_get (xs ++ x ∷ []) n ≡ slice_get xs n
get_early [] x n h = absurd (grind arith)
get_early (y ∷ xs) x zero h = refl
get_early (y ∷ xs) x (suc n) h = get_early xs x n (grind arith)

get_end : (xs : List Node) (x : Node) (i : ℕ) → i ≡ length xs → slice_get (xs ++ x ∷ []) i ≡ Some x
get_end [] x zero e = refl
get_end [] x (suc i) e = absurd (omega arith)
get_end (y ∷ xs) x zero e = absurd (omega arith)
get_end (y ∷ xs) x (suc i) e = get_end xs x i (omega arith)

-- what holds of each element, of one more, and of what is missing holds of each element of the list with one more
each_grown : {X : Type 0} (P : Option X → Type 0) (xs : List X) (x : X) → P None → ((i : ℕ) → P (slice_get xs i)) → P (Some x) → (i : ℕ) → P (slice_get (xs ++ x ∷ []) i)
each_grown P [] x none each last zero = last
each_grown P [] x none each last (suc i) = none
each_grown P (y ∷ xs) x none each last zero = each zero
each_grown P (y ∷ xs) x none each last (suc i) = each_grown P xs x none (λ j. each (suc j)) last i

module _ (t : Nodes) (a : ℕ) (node : Node) where
  pub node_before : (n : ℕ) → length t.nodes + 1 ≡ size t → n < size t → node_at (appended t a node) n ≡ node_at t n
  node_before zero len h = refl
  node_before (suc n) len h = get_early t.nodes node n (omega arith)

  pub node_last : (n : ℕ) → length t.nodes + 1 ≡ size t → n ≡ size t → node_at (appended t a node) n ≡ Some node
  node_last zero len e = absurd (omega arith)
  node_last (suc n) len e = get_end t.nodes node n (omega arith)

  -- what holds of each node and of what is told of the plan holds of each node of the grown tree, if it holds of the new one
  told_grown : (P : Option Node → Type 0) → ((n : ℕ) → P (node_at t n)) → P (Some node) → (n : ℕ) → P (node_at (appended t a node) n)
  told_grown P each last zero = each zero
  told_grown P each last (suc n) = each_grown P t.nodes node (each zero) (λ i. each (suc i)) last n

  child_grown : (b c : ℕ) → IsChild t b c → IsChild (appended t a node) b c
  child_grown b c e =
      let more : length (t.parents ++ a ∷ []) ≡ suc (length t.parents) = length_more t.parents a in
      let inside : c < length t.parents = e.inside in
      record { above_zero = e.above_zero; inside = omega arith; parent = get_before t.parents a 0 c e.inside ∙ e.parent }

  below_grown : (b c : ℕ) → Below t b c → Below (appended t a node) b c
  below_grown b c (child e) = child (child_grown _ _ e)
  below_grown b c (under d e) = under (below_grown _ _ d) (child_grown _ _ e)

  module _ (tree : IsTree t) (may : MayTake t a) (ok : refusal 16383 t a node ≡ None) where
    yes : IsAccepted t a node
    yes = accepted t a node ok

    more : length (t.parents ++ a ∷ []) ≡ suc (length t.parents)
    more = length_more t.parents a

    split : (n : ℕ) → n < size (appended t a node) → (n < size t) ⊎ (n ≡ size t)
    split n h = let is : length (t.parents ++ a ∷ []) ≡ suc (length t.parents) = more in below_or_last n (size t) (omega arith)

    up : (n : ℕ) → 0 < n → n < size (appended t a node) → parent_of (appended t a node) n < n
    up n above h = elim (split n h) [
      | inl old ↦ rw (get_before t.parents a 0 n old) (tree.up n above old)
      | inr new ↦ rw (get_last t.parents a 0 n new) (omega (arith, may.0))
    ]

    preorder : (n : ℕ) → 0 < n → n < size (appended t a node) → (parent_of (appended t a node) n ≡ n - 1) ⊎ Below (appended t a node) (parent_of (appended t a node) n) (n - 1)
    preorder n above h = elim (split n h) [
      | inl old ↦ rw (get_before t.parents a 0 n old) (elim (tree.preorder n above old) [ inl e ↦ inl e | inr b ↦ inr (below_grown _ _ b) ])
      | inr new ↦ rw (get_last t.parents a 0 n new) (rw new (elim (may.1) [ inl e ↦ inl e | inr b ↦ inr (below_grown _ _ b) ]))
    ]

    shallow : (n : ℕ) → n < size (appended t a node) → depth_of (appended t a node) n ≤ 64
    shallow n h = elim (split n h) [
      | inl old ↦ rw (depth_before t a node may.0 tree n old) (tree.shallow n old)
      | inr new ↦ rw (depth_last t a node may.0 tree n new) (omega (arith, tree.shallow a may.0, yes.shallow))
    ]

    same_before : {V : Type 0} (g : Option Node → V) (n : ℕ) → n < size t → g (node_at (appended t a node) n) ≡ g (node_at t n)
    same_before g n h = ap g (node_before n tree.nodes_len h)

    same_last : {V : Type 0} (g : Option Node → V) (n : ℕ) → n ≡ size t → g (node_at (appended t a node) n) ≡ g (Some node)
    same_last g n e = ap g (node_last n tree.nodes_len e)

    -- a child in the grown tree is one of the tree, or the new node below its parent
    which_child : (n c : ℕ) → IsChild (appended t a node) n c → (IsChild t n c × (n < size t)) ⊎ ((c ≡ size t) × (a ≡ n))
    which_child n c e = elim (split c e.inside) [
      | inl old ↦
          let is : parent_of t c ≡ n = sym (get_before t.parents a 0 c old) ∙ e.parent in
          let less : parent_of t c < c = tree.up c e.above_zero old in
          inl (record { above_zero = e.above_zero; inside = old; parent = is }, omega arith)
      | inr new ↦ inr (new, sym (get_last t.parents a 0 c new) ∙ e.parent)
    ]

    abbrev is_leaf_or : Option Node → Bool
    is_leaf_or o = not (is_container (kind_or o))

    leaf : (n c : ℕ) → IsChild (appended t a node) n c → is_leaf_at (appended t a node) n ≡ false
    leaf n c e = elim (which_child n c e) [
      | inl old ↦ same_before is_leaf_or n old.1 ∙ tree.leaf n c old.0
      | inr new ↦ subst (λ (x : ℕ). is_leaf_at (appended t a node) x ≡ false) new.1 (same_before is_leaf_or a may.0 ∙ yes.container)
    ]

    spares : (n c : ℕ) → IsChild (appended t a node) n c → is_spare_at (appended t a node) c ≡ is_factory_at (appended t a node) n
    spares n c e = elim (which_child n c e) [
      | inl old ↦ same_before (λ o. is_spare (role_or o)) c old.0.inside ∙ tree.spares n c old.0 ∙ sym (same_before (λ o. is_factory (role_or o)) n old.1)
      | inr new ↦
          same_last (λ o. is_spare (role_or o)) c new.0 ∙ (is_placed _ _ _ yes.placed).spare
          ∙ subst (λ (x : ℕ). is_factory_at t a ≡ is_factory_at (appended t a node) x) new.1 (sym (same_before (λ o. is_factory (role_or o)) a may.0))
    ]

    engines : (n : ℕ) → IsChild (appended t a node) 0 n → DeclaresNothing (mode_of (appended t a node) n) (locks_of (appended t a node) n) (is_isolated_at (appended t a node) n)
    engines n e = elim (which_child 0 n e) [
      | inl old ↦ subst (λ (o : Option Node). DeclaresNothing (mode_or o) (locks_or o) (isolated_or o)) (sym (node_before n tree.nodes_len old.0.inside)) (tree.engines n old.0)
      | inr new ↦
          let top : (eqb a 0 && declares node) ≡ declares node = ap (λ x. eqb x 0 && declares node) new.1 in
          subst (λ (o : Option Node). DeclaresNothing (mode_or o) (locks_or o) (isolated_or o)) (sym (node_last n tree.nodes_len new.0)) (declares_nothing node (sym top ∙ yes.engine))
    ]

    abbrev IsShort : Option Node → Type 0
    IsShort o = (told : Node) → o ≡ Some told → is_over_limit told ≡ false

    pub tree_grown : IsTree (appended t a node)
    tree_grown =
        let is : length (t.parents ++ a ∷ []) ≡ suc (length t.parents) = more in
        let nodes : length (t.nodes ++ node ∷ []) ≡ suc (length t.nodes) = length_more t.nodes node in
        record {
          root = omega arith;
          few = omega (arith, tree.few, yes.few);
          nodes_len = omega (arith, tree.nodes_len);
          up = up;
          preorder = preorder;
          shallow = shallow;
          leaf = leaf;
          ids = ids_once t a node tree.ids yes.new_id;
          bodies = bodies_once t a node tree.bodies yes.new_body;
          afters = afters_once t a node tree.afters yes.new_after;
          apart = still_apart t a node tree.apart yes.new_body yes.new_after yes.once;
          after_placed = told_grown (λ o. (b : ℕ) → after_or o ≡ Some b → (is_leaf_or o ≡ false) × (is_factory (role_or o) ≡ false)) tree.after_placed (λ b e. after_fits node b yes.after e);
          spares = spares;
          spare_tests = told_grown (λ o. is_spare (role_or o) ≡ true → is_leaf_or o ≡ true) tree.spare_tests (is_placed _ _ _ yes.placed).spare_test;
          factories = told_grown (λ o. is_factory (role_or o) ≡ true → is_leaf_or o ≡ false) tree.factories (is_placed _ _ _ yes.placed).factory;
          engines = engines;
          short = told_grown IsShort tree.short (λ told e. subst (λ (x : Node). is_over_limit x ≡ false) (same_Some node told e) yes.short);
        }
