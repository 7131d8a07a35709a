-- No two nodes have one unique id, and no two bodies and after-bodies are one.
use Rattle.std.proofs.Common.{◌≡◌, ℕ, zero, suc, Bool, true, false, List, [], ◌∷◌, ◌++◌, length, refl, ap, sym, ◌∙◌, arith, inl, inr, ◌⊎◌, Option, Some, None}
use Rattle.std.specs.Prelude.{slice_get, ◌||◌}
use Rattle.std.specs.List.{list_any}
use Rattle.std.specs.Str.{bytes_eq}
use Rattle.std.proofs.lemmas.Option.{same_Some}
use Rattle.std.proofs.lemmas.Slice.Eq.{bytes_eq-Decides}
use Rattle.unique_id.specs.Spelling.{spelling}
use Rattle.descriptor.specs.declared.node.Node.{Node}
use Rattle.descriptor.specs.Bodies.{is_body, is_same_body, repeats_itself}
use Rattle.descriptor.specs.Nodes.{Nodes, text_or, body_or, after_or, text_of, body_of, after_of, appended}
use Rattle.descriptor.specs.Refusals.{has_id, has_body, uses_body}

-- what g reads of an element stands at one place only
module _ {X V : Type 0} (g : Option X → Option V) where
  abbrev pub Once : List X → Type 0
  Once xs = (i j : ℕ) (v : V) → g (slice_get xs i) ≡ Some v → g (slice_get xs j) ≡ Some v → i ≡ j

  split : (xs : List X) (z : X) (i : ℕ) (v : V) → g (slice_get (xs ++ z ∷ []) i) ≡ Some v → (g (slice_get xs i) ≡ Some v) ⊎ ((i ≡ length xs) × (g (Some z) ≡ Some v))
  split [] z zero v e = inr (refl, e)
  split [] z (suc i) v e = inl e
  split (x ∷ xs) z zero v e = inl e
  split (x ∷ xs) z (suc i) v e = elim (split xs z i v e) [ inl old ↦ inl old | inr new ↦ inr (ap suc new.0, new.1) ]

  pub once_grown : (xs : List X) (z : X) → Once xs → ((i : ℕ) (v : V) → g (slice_get xs i) ≡ Some v → g (Some z) ≡ Some v → ⊥) → Once (xs ++ z ∷ [])
  once_grown xs z once new i j v a b = elim (split xs z i v a) [
    | inl old ↦ elim (split xs z j v b) [ inl also ↦ once i j v old also | inr last ↦ absurd (new i v old last.1) ]
    | inr first ↦ elim (split xs z j v b) [ inl also ↦ absurd (new j v also first.1) | inr last ↦ first.0 ∙ sym last.0 ]
  ]

suc_same : (k l : ℕ) → suc k ≡ suc l → k ≡ l
suc_same k l e = omega arith

or_left : (a b : Bool) → a ≡ true → (a || b) ≡ true
or_left true b e = refl
or_left false b e = absurd (cc)

or_right : (a b : Bool) → b ≡ true → (a || b) ≡ true
or_right true b e = refl
or_right false b e = e

text_found : (xs : List Node) (i : ℕ) (text : List ℕ) → text_or (slice_get xs i) ≡ Some text → list_any (λ (node : Node). bytes_eq (spelling node.id) text) xs ≡ true
text_found [] i text e = absurd (cc)
text_found (x ∷ xs) zero text e = or_left _ _ ((bytes_eq-Decides (spelling x.id) text).1 (same_Some (spelling x.id) text e))
text_found (x ∷ xs) (suc i) text e = or_right (bytes_eq (spelling x.id) text) _ (text_found xs i text e)

pub body_is : (b : ℕ) (body : Option ℕ) → body ≡ Some b → is_body b body ≡ true
body_is b None e = absurd (cc)
body_is b (Some other) e = let same : other ≡ b = same_Some other b e in grind (arith, same)

pub body_found : (xs : List Node) (i b : ℕ) → body_or (slice_get xs i) ≡ Some b → list_any (uses_body b) xs ≡ true
body_found [] i b e = absurd (cc)
body_found (x ∷ xs) zero b e = or_left _ _ (or_left _ _ (body_is b x.body e))
body_found (x ∷ xs) (suc i) b e = or_right (uses_body b x) _ (body_found xs i b e)

pub after_found : (xs : List Node) (i b : ℕ) → after_or (slice_get xs i) ≡ Some b → list_any (uses_body b) xs ≡ true
after_found [] i b e = absurd (cc)
after_found (x ∷ xs) zero b e = or_left _ _ (or_right (is_body b x.body) _ (body_is b x.after e))
after_found (x ∷ xs) (suc i) b e = or_right (uses_body b x) _ (after_found xs i b e)

module _ (t : Nodes) (a : ℕ) (node : Node) where
  pub ids_once : ((m n : ℕ) (text : List ℕ) → text_of t m ≡ Some text → text_of t n ≡ Some text → m ≡ n) → has_id t node.id ≡ false → (m n : ℕ) (text : List ℕ) → text_of (appended t a node) m ≡ Some text → text_of (appended t a node) n ≡ Some text → m ≡ n
  ids_once were new zero n text d e = absurd (cc)
  ids_once were new (suc i) zero text d e = absurd (cc)
  ids_once were new (suc i) (suc j) text d e = ap suc (once_grown text_or t.nodes node (λ k l v x y. suc_same k l (were (suc k) (suc l) v x y)) (λ k v x y. (let is : spelling node.id ≡ v = same_Some (spelling node.id) v y in let found : has_id t node.id ≡ true = rw is (text_found t.nodes k v x) in cc)) i j text d e)

  -- a body that no node of the tree has is none of another node
  new_one : (body : Option ℕ) (b : ℕ) → has_body t body ≡ false → body ≡ Some b → list_any (uses_body b) t.nodes ≡ true → ⊥
  new_one body b none is found = let some : has_body t body ≡ true = rw is found in cc

  pub bodies_once : ((m n b : ℕ) → body_of t m ≡ Some b → body_of t n ≡ Some b → m ≡ n) → has_body t node.body ≡ false → (m n b : ℕ) → body_of (appended t a node) m ≡ Some b → body_of (appended t a node) n ≡ Some b → m ≡ n
  bodies_once were new zero n b d e = absurd (cc)
  bodies_once were new (suc i) zero b d e = absurd (cc)
  bodies_once were new (suc i) (suc j) b d e = ap suc (once_grown body_or t.nodes node (λ k l v x y. suc_same k l (were (suc k) (suc l) v x y)) (λ k v x y. new_one node.body v new y (body_found t.nodes k v x)) i j b d e)

  pub afters_once : ((m n b : ℕ) → after_of t m ≡ Some b → after_of t n ≡ Some b → m ≡ n) → has_body t node.after ≡ false → (m n b : ℕ) → after_of (appended t a node) m ≡ Some b → after_of (appended t a node) n ≡ Some b → m ≡ n
  afters_once were new zero n b d e = absurd (cc)
  afters_once were new (suc i) zero b d e = absurd (cc)
  afters_once were new (suc i) (suc j) b d e = ap suc (once_grown after_or t.nodes node (λ k l v x y. suc_same k l (were (suc k) (suc l) v x y)) (λ k v x y. new_one node.after v new y (after_found t.nodes k v x)) i j b d e)

  -- a body of the grown tree is no after-body of it
  pub still_apart : ((m n b : ℕ) → body_of t m ≡ Some b → after_of t n ≡ Some b → ⊥) → has_body t node.body ≡ false → has_body t node.after ≡ false → repeats_itself node ≡ false
      → (m n b : ℕ) → body_of (appended t a node) m ≡ Some b → after_of (appended t a node) n ≡ Some b → ⊥
  still_apart were new also own zero n b d e = absurd (cc)
  still_apart were new also own (suc i) zero b d e = absurd (cc)
  still_apart were new also own (suc i) (suc j) b d e = elim (split body_or t.nodes node i b d) [
    | inl old ↦ elim (split after_or t.nodes node j b e) [
      | inl too ↦ were (suc i) (suc j) b old too
      | inr last ↦ new_one node.after b also last.1 (body_found t.nodes i b old)
    ]
    | inr first ↦ elim (split after_or t.nodes node j b e) [
      | inl too ↦ new_one node.body b new first.1 (after_found t.nodes j b too)
      | inr last ↦ (let same : repeats_itself node ≡ true = ap (λ x. is_same_body x node.after) first.1 ∙ body_is b node.after last.1 in cc)
    ]
  ]
