-- Unique ids follow the tree, also after one more node.
use Rattle.std.proofs.Common.{◌≡◌, ℕ, zero, suc, ◌+◌, ◌<◌, ◌&&◌, ◌==◌, nat_lt, if◌then◌else◌, List, [], ◌∷◌, ◌++◌, length, Some, None, refl, ap, sym, ◌∙◌, subst, arith, inl, inr}
use Rattle.std.specs.Prelude.{slice_get}
use Rattle.std.proofs.lemmas.Bool.{cases_order}
use Rattle.descriptor.specs.declared.node.Node.{Node}
use Rattle.descriptor.specs.Nodes.{Nodes, IsTree, size, node_at, parent_of, is_child, numbers_where, appended}
use Rattle.descriptor.specs.Roles.{is_spare}
use Rattle.descriptor.proofs.Grown.{numbers_same}
use Rattle.suite_text.specs.Reading.Ids.{IsNamed, IdsFollow, place_among, value_at}
use Rattle.suite_words.specs.Reading.Nodes.{id_at, id_or_none, next_place, value_of_dyn}
use Rattle.suite_words.proofs.Lists.{get_before, get_last}

early : (xs : List Node) (x : Node) (n : ℕ) → n < length xs → slice_get (xs ++ x ∷ []) n ≡ slice_get xs n
early [] x n h = absurd (omega arith)
early (y ∷ xs) x zero h = refl
early (y ∷ xs) x (suc n) h = early xs x n (omega arith)

last : (xs : List Node) (x : Node) (n : ℕ) → n ≡ length xs → slice_get (xs ++ x ∷ []) n ≡ Some x
last [] x zero h = refl
last [] x (suc n) h = absurd (omega arith)
last (y ∷ xs) x zero h = absurd (omega arith)
last (y ∷ xs) x (suc n) h = last xs x n (omega arith)

late : (xs : List Node) (x : Node) (n : ℕ) → length xs < n → slice_get (xs ++ x ∷ []) n ≡ None
late [] x zero h = absurd (omega arith)
late [] x (suc n) h = refl
late (y ∷ xs) x zero h = absurd (omega arith)
late (y ∷ xs) x (suc n) h = late xs x n (omega arith)

module _ (t : Nodes) (a : ℕ) (new : Node) (tree : IsTree t) where
  node_before : (n : ℕ) → n < size t → node_at (appended t a new) n ≡ node_at t n
  node_before zero h = refl
  node_before (suc n) h = early t.nodes new n (omega (arith, tree.nodes_len))

  node_new : (n : ℕ) → n ≡ size t → node_at (appended t a new) n ≡ Some new
  node_new zero h = absurd (omega (arith, tree.root))
  node_new (suc n) h = last t.nodes new n (omega (arith, tree.nodes_len))

  node_after : (n : ℕ) → size t < n → node_at (appended t a new) n ≡ None
  node_after zero h = refl
  node_after (suc n) h = late t.nodes new n (omega (arith, tree.nodes_len))

  id_before : (n : ℕ) → n < size t → id_at (appended t a new) n ≡ id_at t n
  id_before n h = ap id_or_none (node_before n h)

  parent_before : (n : ℕ) → n < size t → parent_of (appended t a new) n ≡ parent_of t n
  parent_before n h = get_before t.parents a n h

  parent_inside : (n : ℕ) (node : Node) → node_at t n ≡ Some node → n < size t → parent_of t n < size t
  parent_inside zero node e h = absurd (cc)
  parent_inside (suc n) node e h = let less : parent_of t (suc n) < suc n = tree.up (suc n) (omega arith) h in omega arith

  child_before : (p c : ℕ) → c < size t → is_child (appended t a new) p c ≡ is_child t p c
  child_before p c h = ap (λ x. nat_lt 0 c && (x == p)) (parent_before c h)

  place_before : (n : ℕ) → n < size t → place_among (appended t a new) n ≡ place_among t n
  place_before n h =
      ap (λ p. length (numbers_where (is_child (appended t a new) p) n) + 1) (parent_before n h)
      ∙ ap (λ l. length l + 1) (numbers_same (is_child (appended t a new) (parent_of t n)) (is_child t (parent_of t n)) n (λ c k. child_before (parent_of t n) c (omega (arith, k, h))))

  place_new : (n : ℕ) → n ≡ size t → parent_of (appended t a new) n ≡ a → place_among (appended t a new) n ≡ next_place t a
  place_new n h e =
      ap (λ p. length (numbers_where (is_child (appended t a new) p) n) + 1) e
      ∙ ap (λ m. length (numbers_where (is_child (appended t a new) a) m) + 1) h
      ∙ ap (λ l. length l + 1) (numbers_same (is_child (appended t a new) a) (is_child t a) (size t) (λ c k. child_before a c k))

  abbrev value_with : ℕ → Node → List ℕ
  value_with k node = if is_spare node.role then value_of_dyn k else node.name

  old : (n : ℕ) (node : Node) → IdsFollow t → n < size t → node_at (appended t a new) n ≡ Some node → IsNamed (appended t a new) n node
  old n node ids h e =
      let at : node_at t n ≡ Some node = sym (node_before n h) ∙ e in
      let named = ids n node at in
      record {
        kind = named.kind;
        id = named.id
            ∙ ap (λ l. l ++ record { kind = named.kind; value = value_at t n node } ∷ []) (sym (ap (id_at (appended t a new)) (parent_before n h) ∙ id_before (parent_of t n) (parent_inside n node at h)))
            ∙ ap (λ k. id_at (appended t a new) (parent_of (appended t a new) n) ++ record { kind = named.kind; value = value_with k node } ∷ []) (sym (place_before n h));
      }

  added : (n : ℕ) (node : Node) (kind : List ℕ) → a < size t → new.id ≡ id_at t a ++ record { kind = kind; value = value_with (next_place t a) new } ∷ [] → n ≡ size t → node_at (appended t a new) n ≡ Some node → IsNamed (appended t a new) n node
  added n node kind inside id h e =
      let same : new ≡ node = let is : Some new ≡ Some node = sym (node_new n h) ∙ e in cc in
      let parent : parent_of (appended t a new) n ≡ a = ap (parent_of (appended t a new)) h ∙ get_last t.parents a in
      subst (IsNamed (appended t a new) n) same (record {
        kind = kind;
        id = id
            ∙ ap (λ l. l ++ record { kind = kind; value = value_with (next_place t a) new } ∷ []) (sym (ap (id_at (appended t a new)) parent ∙ id_before a inside))
            ∙ ap (λ k. id_at (appended t a new) (parent_of (appended t a new) n) ++ record { kind = kind; value = value_with k new } ∷ []) (sym (place_new n h parent));
      })

  pub ids_next : (kind : List ℕ) → IdsFollow t → a < size t → new.id ≡ id_at t a ++ record { kind = kind; value = value_with (next_place t a) new } ∷ [] → IdsFollow (appended t a new)
  ids_next kind ids inside id n node e =
      elim (cases_order n (size t)) [
        | inl new_one ↦ added n node kind inside id new_one e
        | inr other ↦ elim other [
          | inl before ↦ old n node ids before e
          | inr after ↦ absurd (let none : None ≡ Some node = sym (node_after n after) ∙ e in cc)
        ]
      ]
