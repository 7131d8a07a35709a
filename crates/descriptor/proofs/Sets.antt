-- The ids and the bodies of a builder beside the tree's nodes.
use Rattle.std.proofs.Common.{◌≡◌, ◌<◌, ℕ, Bool, true, false, cond, eq-eqb, ne_eqb, List, [], ◌∷◌, length, set, get_or, replicate, refl, ap, sym, ◌∙◌, Option, Some, nat_eq}
use Rattle.std.specs.Prelude.{◌||◌}
use Rattle.std.specs.Str.{bytes_eq}
use Rattle.std.proofs.lemmas.List.{get_or-replicate, get_or-set_other}
use Rattle.std.proofs.lemmas.List.Folds.{list_any-append}
use Rattle.std.proofs.lemmas.Grind.{get_or-set_at}
use mathlib.Core.Logic.{dite}
use native.Mathlib.Decide.{ℕ_discrete}
use Rattle.std.proofs.lemmas.Slice.Eq.{bytes_eq-Decides}
use Rattle.std.specs.HashSet.{HashSet, contains}
use Rattle.unique_id.specs.Spelling.{spelling}
use Rattle.descriptor.specs.declared.node.Node.{Node}
use Rattle.descriptor.specs.Nodes.{Nodes, appended}
use Rattle.descriptor.specs.Bodies.{is_body, may_get_after_at, with_after}
use Rattle.descriptor.specs.Refusals.{has_text, has_body, uses_body}
use Rattle.descriptor.specs.Inside.Hashes.{hash_of}
use Rattle.descriptor.proofs.AfterBodies.{texts_with_after, bodies_with_after}

or_cond : (a b : Bool) → (a || (b || false)) ≡ cond b true a
or_cond true true = refl
or_cond true false = refl
or_cond false true = refl
or_cond false false = refl

-- one more node has its id besides
pub has_text_grown : (t : Nodes) (a : ℕ) (node : Node) (key : List ℕ) → has_text (appended t a node) key ≡ cond (bytes_eq (spelling node.id) key) true (has_text t key)
has_text_grown t a node key =
    list_any-append (λ (n : Node). bytes_eq (spelling n.id) key) t.nodes (node ∷ []) ∙ or_cond (has_text t key) (bytes_eq (spelling node.id) key)

-- and its body and its after-body
pub has_body_grown : (t : Nodes) (a : ℕ) (node : Node) (b : ℕ) → has_body (appended t a node) (Some b) ≡ cond (uses_body b node) true (has_body t (Some b))
has_body_grown t a node b =
    list_any-append (uses_body b) t.nodes (node ∷ []) ∙ or_cond (has_body t (Some b)) (uses_body b node)

cond_or : (a b c : Bool) → cond b true (cond a true c) ≡ cond (a || b) true c
cond_or true true c = refl
cond_or true false c = refl
cond_or false true c = refl
cond_or false false c = refl

picked : (same one old two : Bool) → (same ≡ true → one ≡ true) → (old ≡ true → two ≡ true) → cond same true old ≡ true → cond one true two ≡ true
picked true one old two a b h = rw (a refl) refl
picked false true old two a b h = refl
picked false false old two a b h = b h

module _ {S : Type 0} where
  -- the set has the hash of each unique id of the tree
  abbrev pub HasHashes : Nodes → HashSet ℕ S → Type 0
  HasHashes t s = (key : List ℕ) → has_text t key ≡ true → contains nat_eq s (hash_of key) ≡ true

  -- a set in another order
  pub hashes_kept : (t : Nodes) (s n : HashSet ℕ S) → HasHashes t s → ((q : ℕ) → contains nat_eq n q ≡ contains nat_eq s q) → HasHashes t n
  hashes_kept t s n was same key has = same (hash_of key) ∙ was key has

  -- a set with one more hash, as the tree has one more node
  pub hashes_grown : (t u : Nodes) (a : ℕ) (node : Node) (hash : ℕ) (s n : HashSet ℕ S) → u ≡ appended t a node → hash ≡ hash_of (spelling node.id) → HasHashes t s → ((q : ℕ) → contains nat_eq n q ≡ cond (nat_eq hash q) true (contains nat_eq s q)) → HasHashes u n
  hashes_grown t u a node hash s n grown hashed was updates key has =
      updates (hash_of key) ∙ picked (bytes_eq (spelling node.id) key) (nat_eq hash (hash_of key)) (has_text t key) (contains nat_eq s (hash_of key))
      (λ same. eq-eqb hash (hash_of key) (hashed ∙ ap hash_of ((bytes_eq-Decides (spelling node.id) key).0 same)))
      (was key) (sym (has_text_grown t a node key) ∙ ap (λ x. has_text x key) (sym grown) ∙ has)

  -- the hashes stay those of the tree, as a node of it was given an after-body
  pub hashes_with_after : (t u : Nodes) (n b : ℕ) (s : HashSet ℕ S) → u ≡ with_after t n b → HasHashes t s → HasHashes u s
  hashes_with_after t u n b s given was key has = was key (sym (texts_with_after t b n key) ∙ ap (λ x. has_text x key) (sym given) ∙ has)

  -- the hashes of a tree are those of an equal tree
  pub hashes_as : (t u : Nodes) (s : HashSet ℕ S) → t ≡ u → HasHashes t s → HasHashes u s
  hashes_as t u s same was key has = was key (ap (λ x. has_text x key) same ∙ has)

-- at the place of each number, whether it is that of a body of the tree
abbrev pub HasBodies : Nodes → List Bool → Type 0
HasBodies t row = (b : ℕ) → b < 65536 → get_or row b false ≡ has_body t (Some b)

-- a row with a body, if there is one
abbrev pub PutsBody : Option ℕ → List Bool → List Bool → Type 0
PutsBody body old new = (b : ℕ) → b < 65536 → get_or new b false ≡ cond (is_body b body) true (get_or old b false)

pub no_bodies : (row : List Bool) → row ≡ replicate 65536 false → (b : ℕ) → b < 65536 → get_or row b false ≡ false
no_bodies row is b low = ap (λ (r : List Bool). get_or r b false) is ∙ get_or-replicate 65536 b false false low

pub body_put : (row : List Bool) (i body : ℕ) → i ≡ body → i < length row → PutsBody (Some body) row (set row i true)
body_put row i body same low b small = dite (ℕ_discrete body b)
    (λ e. get_or-set_at row i b true false (sym (same ∙ e)) low ∙ ap (λ c. cond c true (get_or row b false)) (sym (eq-eqb body b e)))
    (λ ne. get_or-set_other row i b true false (λ q. ne (sym same ∙ sym q)) ∙ ap (λ c. cond c true (get_or row b false)) (sym (ne_eqb body b ne)))

pub bodies_grown : (t u : Nodes) (a : ℕ) (node : Node) (row one two : List Bool) → u ≡ appended t a node → HasBodies t row → PutsBody node.body row one → PutsBody node.after one two → HasBodies u two
bodies_grown t u a node row one two grown was body after b low =
    after b low ∙ ap (cond (is_body b node.after) true) (body b low ∙ ap (cond (is_body b node.body) true) (was b low))
    ∙ cond_or (is_body b node.body) (is_body b node.after) (has_body t (Some b))
    ∙ sym (has_body_grown t a node b) ∙ ap (λ x. has_body x (Some b)) (sym grown)

-- one body more, as a node of the tree was given an after-body
pub put_with_after : (t u : Nodes) (n b : ℕ) (row more : List Bool) → u ≡ with_after t n b → may_get_after_at t n ≡ true → HasBodies t row → PutsBody (Some b) row more → HasBodies u more
put_with_after t u n b row more given may was put c low =
    put c low ∙ ap (cond (is_body c (Some b)) true) (was c low) ∙ sym (bodies_with_after t b n c may) ∙ ap (λ x. has_body x (Some c)) (sym given)

-- the bodies of a tree are those of an equal tree
pub bodies_as : (t u : Nodes) (row : List Bool) → t ≡ u → HasBodies t row → HasBodies u row
bodies_as t u row same was b low = was b low ∙ ap (λ x. has_body x (Some b)) same
