-- What the parts say of one more node is what the whole says of it.
use Rattle.std.proofs.Common.{◌≡◌, ℕ, List, ◌∷◌, ◌++◌, [], Option, true, None, option_map, Result, Ok, Err, OnOk, OnErr, refl, sym, ap₂, subst}
use Rattle.descriptor.specs.declared.node.Node.{Node}
use Rattle.descriptor.specs.Nodes.{Nodes, appended, size}
use Rattle.descriptor.specs.Bodies.{with_after}
use Rattle.suite_words.specs.Reading.After.{after_body}
use Rattle.suite_words.specs.Reading.Nodes.{id_at}
use Rattle.test_tree.specs.declared.marks.Marks.{Marks}
use Rattle.test_tree.specs.declared.sort.Sort.{Sort}
use Rattle.test_tree.specs.declared.sort.Sort.TheVariants.{Dynamic}
use Rattle.test_tree.specs.Growing.{Built, IsDynamicAdded, IsNodeTaken, built, grown, job_of, with_after_body, with_body, with_changed}
use Rattle.test_tree.specs.Marks.{is_unmarked, marked, no_marks}
use Rattle.test_tree.specs.Sorts.{type_of, value_below}

-- what holds of the one holds of the other
pub carried : {A : Type 0} {x y : A} → x ≡ y → (P : A → Type 0) → P x → P y
carried e P p = subst P e p

-- what holds of the old and, where all went well, of the next, holds of the new, which is one of them
pub either_way : {X E A : Type 0} (r : Result X E) (old next new : A) → OnOk r (new ≡ next) → OnErr r (new ≡ old) → (P : A → Type 0) → P old → OnOk r (P next) → P new
either_way (Ok x) old next new ok err P p q = subst P (sym ok) q
either_way (Err e) old next new ok err P p q = subst P (sym err) p

pub if_ok : {X E : Type 0} (r : Result X E) (P Q : Type 0) → OnOk r P → (P → Q) → OnOk r Q
if_ok (Ok x) P Q p f = f p
if_ok (Err e) P Q p f = tt

pub always : {X E : Type 0} (r : Result X E) (P : Type 0) → P → OnOk r P
always (Ok x) P p = p
always (Err e) P p = tt

module _ {B : Type 0} where
  pub grown_is : (limit : ℕ) (t seen u : Nodes) (jobs kept more : List (ℕ × B)) (marks cleared : Marks) (body taken : Option B) (a : ℕ) (sort : Sort) (name : List ℕ) (node : Node) (number : Option ℕ)
      → seen ≡ t → kept ≡ jobs → number ≡ option_map (λ _. size seen) body
      → node ≡ marked marks sort (id_at seen a ++ record { kind = type_of sort; value = value_below seen a sort name } ∷ []) name number
      → u ≡ appended t a node → more ≡ kept ++ job_of (size t) body → cleared ≡ no_marks → taken ≡ None
      → built limit u more cleared taken ≡ grown (built limit t jobs marks body) a sort name
  grown_is limit t seen u jobs kept more marks cleared body taken a sort name node number h1 h2 h3 h4 h5 h6 h7 h8 = rw (h7, h8, h6, h5, h4, h3, h2, h1) refl

  -- a dynamic test was added, and counted
  pub dynamic_added : (change : B → B) (P : B → Type 0) (old new : Built B) (a n : ℕ) (name : List ℕ) (body : B) → n ≡ a → is_unmarked old.marks ≡ true → old.body ≡ None → P body → IsNodeTaken (with_body old body) n Dynamic name
      → new ≡ with_changed change n (grown (with_body old body) n Dynamic name) → IsDynamicAdded change P old new a name
  dynamic_added change P old new a n name body same unmarked none right taken next = carried same (λ k. IsDynamicAdded change P old new k name) (record {
    unmarked = unmarked;
    between = grown (with_body old body) n Dynamic name;
    added = record { body = body; right = right; none = none; added = record { taken = taken; next = refl } };
    counted = next;
  })

  -- an after-body was given, or nothing
  pub given_both : {X E : Type 0} (r : Result X E) (b : Built B) (n : ℕ) (body : B) (t : Nodes) (jobs : List (ℕ × B)) → OnOk r (t ≡ with_after b.tree n (after_body n)) → OnOk r (jobs ≡ b.jobs ++ (after_body n, body) ∷ []) → OnOk r (built b.node_limit t jobs b.marks b.body ≡ with_after_body b n body)
  given_both (Ok x) b n body t jobs p q = ap₂ (λ (u : Nodes) (js : List (ℕ × B)). built b.node_limit u js b.marks b.body) p q
  given_both (Err e) b n body t jobs p q = tt

  pub kept_both : {X E : Type 0} (r : Result X E) (b : Built B) (t : Nodes) (jobs : List (ℕ × B)) → OnErr r (t ≡ b.tree) → OnErr r (jobs ≡ b.jobs) → OnErr r (built b.node_limit t jobs b.marks b.body ≡ b)
  kept_both (Ok x) b t jobs p q = tt
  kept_both (Err e) b t jobs p q = ap₂ (λ (u : Nodes) (js : List (ℕ × B)). built b.node_limit u js b.marks b.body) p q
