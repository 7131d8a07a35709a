-- A tree with one more node: what its depths and lists of children are.
use Rattle.std.proofs.Common.{◌≡◌, ◌≢◌, ℕ, zero, suc, ◌<◌, ◌≤◌, ◌&&◌, Bool, false, cond, eqb, ltb, List, [], ◌∷◌, ◌++◌, length, get_or, refl, ap, sym, ◌∙◌, arith, map, inl, inr, ◌⊎◌, ⊎_elim, subst}
use Rattle.std.proofs.Math.ListN.{set, length-set}
use Rattle.std.proofs.lemmas.List.{map-set, map-append}
use Rattle.std.proofs.lemmas.Grind.{common_steps}
use Rattle.descriptor.specs.declared.node.Node.{Node}
use Rattle.descriptor.specs.Nodes.{Nodes, IsTree, size, children_of, depth_of, numbers_where, steps_up, appended}
use Rattle.descriptor.specs.Inside.Fields.{IsKept}

module _ {X : Type 0} where
  pub length_more : (xs : List X) (x : X) → length (xs ++ x ∷ []) ≡ suc (length xs)
  length_more xs x = grind (arith, common_steps)

  pub get_before : (xs : List X) (x d : X) (n : ℕ) → n < length xs → get_or (xs ++ x ∷ []) n d ≡ get_or xs n d
  get_before xs x d n inside = grind (arith, common_steps)

  pub get_last : (xs : List X) (x d : X) (n : ℕ) → n ≡ length xs → get_or (xs ++ x ∷ []) n d ≡ x
  get_last xs x d n e = grind (arith, common_steps)

-- the test of a list of children
abbrev is_child : List ℕ → ℕ → ℕ → Bool
is_child parents a c = ltb 0 c && eqb (get_or parents c 0) a

-- numbers that pass one test pass another
pub numbers_same : (q r : ℕ → Bool) (n : ℕ) → ((c : ℕ) → c < n → q c ≡ r c) → numbers_where q n ≡ numbers_where r n
numbers_same q r zero same = refl
numbers_same q r (suc n) same =
    let before : numbers_where q n ≡ numbers_where r n = numbers_same q r n (λ c h. same c (omega arith)) in
    let here : q n ≡ r n = same n (omega arith) in
    cc

pub numbers_none : (q : ℕ → Bool) (n : ℕ) → ((c : ℕ) → c < n → q c ≡ false) → numbers_where q n ≡ []
numbers_none q zero none = refl
numbers_none q (suc n) none =
    let before : numbers_where q n ≡ [] = numbers_none q n (λ c h. none c (omega arith)) in
    let here : q n ≡ false = none n (omega arith) in
    rw (before, here) refl

module _ (ps : List ℕ) (up : (n : ℕ) → 0 < n → n < length ps → get_or ps n 0 < n) where
  pub steps_enough : (k m n : ℕ) → n < length ps → n ≤ k → n ≤ m → steps_up ps k n ≡ steps_up ps m n
  steps_enough zero zero n inside kk mm = refl
  steps_enough zero (suc m) zero inside kk mm = refl
  steps_enough zero (suc m) (suc n) inside kk mm = absurd (omega arith)
  steps_enough (suc k) zero zero inside kk mm = refl
  steps_enough (suc k) zero (suc n) inside kk mm = absurd (omega arith)
  steps_enough (suc k) (suc m) zero inside kk mm = refl
  steps_enough (suc k) (suc m) (suc n) inside kk mm =
      let less : get_or ps (suc n) 0 < suc n = up (suc n) (omega arith) inside in
      ap suc (steps_enough k m (get_or ps (suc n) 0) (omega arith) (omega arith) (omega arith))

  steps_before : (a k n : ℕ) → n < length ps → steps_up (ps ++ a ∷ []) k n ≡ steps_up ps k n
  steps_before a zero n inside = refl
  steps_before a (suc k) zero inside = refl
  steps_before a (suc k) (suc n) inside =
      let less : get_or ps (suc n) 0 < suc n = up (suc n) (omega arith) inside in
      let same : get_or (ps ++ a ∷ []) (suc n) 0 ≡ get_or ps (suc n) 0 = get_before ps a 0 (suc n) inside in
      ap suc (rw same (steps_before a k (get_or ps (suc n) 0) (omega arith)))

zero_or_more : (c : ℕ) → (c ≡ 0) ⊎ (0 < c)
zero_or_more zero = inl refl
zero_or_more (suc c) = inr (omega arith)

pub below_or_last : (n m : ℕ) → n < suc m → (n < m) ⊎ (n ≡ m)
below_or_last n m h = grind arith

same_or_not : (a n : ℕ) → (a ≡ n) ⊎ (a ≢ n)
same_or_not a n = grind arith

-- the lists of children as vectors: one at i has gained a number, and an empty one is added
pub lists_grown : {X : Type 0} (f : X → List ℕ) (xs ys zs : List X) (i j n : ℕ) (v w : X) → ys ≡ xs → zs ≡ set ys i v ++ w ∷ [] → i ≡ j → f v ≡ get_or (map f xs) j [] ++ n ∷ [] → f w ≡ [] → set (map f xs) j (get_or (map f xs) j [] ++ n ∷ []) ++ [] ∷ [] ≡ map f zs
lists_grown f xs ys zs i j n v w a b e p q =
    let one : map f (set ys i v ++ w ∷ []) ≡ map f (set ys i v) ++ f w ∷ [] = map-append f (set ys i v) (w ∷ []) in
    let two : map f (set ys i v) ≡ set (map f ys) i (f v) = map-set f ys i v in
    cc

pub kept_as : (t u : Nodes) (ds es : List ℕ) (cs fs : List (List ℕ)) → IsKept t ds cs → t ≡ u → ds ≡ es → cs ≡ fs → IsKept u es fs
kept_as t u ds es cs fs k a b c =
    subst (λ (x : Nodes). IsKept x es fs) a (subst (λ (x : List ℕ). IsKept t x fs) b (subst (λ (x : List (List ℕ)). IsKept t ds x) c k))

module _ (t : Nodes) (a : ℕ) (node : Node) (inside : a < size t) (tree : IsTree t) where
  pub depth_before : (n : ℕ) → n < size t → depth_of (appended t a node) n ≡ depth_of t n
  depth_before n h = steps_before t.parents tree.up a n n h

  pub depth_last : (n : ℕ) → n ≡ size t → depth_of (appended t a node) n ≡ suc (depth_of t a)
  depth_last zero e = absurd (omega arith)
  depth_last (suc n) e =
      let last : get_or (t.parents ++ a ∷ []) (suc n) 0 ≡ a = get_last t.parents a 0 (suc n) e in
      let more : length (t.parents ++ a ∷ []) ≡ suc (length t.parents) = length_more t.parents a in
      ap suc (rw last (steps_before t.parents tree.up a n a inside ∙ steps_enough t.parents tree.up n a a inside (omega arith) (omega arith)))

module _ (t : Nodes) (a : ℕ) (node : Node) (inside : a < size t) (tree : IsTree t) (grown : IsTree (appended t a node)) where
  children_before : (n : ℕ) → numbers_where (is_child (t.parents ++ a ∷ []) n) (size t) ≡ children_of t n
  children_before n =
      numbers_same (is_child (t.parents ++ a ∷ []) n) (is_child t.parents n) (size t) (λ c h. ap (λ p. ltb 0 c && eqb p n) (get_before t.parents a 0 c h))

  test_last : (n : ℕ) → is_child (t.parents ++ a ∷ []) n (size t) ≡ eqb a n
  test_last n =
      let last : get_or (t.parents ++ a ∷ []) (size t) 0 ≡ a = get_last t.parents a 0 (size t) refl in
      let root : 0 < size t = tree.root in
      grind (arith, common_steps)

  -- the list of children of n: one more where n is the parent
  children_grown : (n : ℕ) → children_of (appended t a node) n ≡ children_of t n ++ cond (eqb a n) (size t ∷ []) []
  children_grown n = rw (length_more t.parents a) (rw (children_before n, test_last n) refl)

  no_children : (n : ℕ) → n ≡ size t → children_of (appended t a node) n ≡ []
  no_children n e =
      numbers_none (is_child (t.parents ++ a ∷ []) n) (length (t.parents ++ a ∷ [])) (λ c h. ⊎_elim (λ (zero_is : c ≡ 0). grind arith) (λ (above : 0 < c). let less : get_or (t.parents ++ a ∷ []) c 0 < c = grown.up c above h in let more : length (t.parents ++ a ∷ []) ≡ suc (length t.parents) = length_more t.parents a in grind arith) (zero_or_more c))

  kept_depths : (ds : List ℕ) → length ds ≡ size t → ((n : ℕ) → n < size t → get_or ds n 0 ≡ depth_of t n) → (d : ℕ) → d ≡ suc (get_or ds a 0) → (n : ℕ) → n < size (appended t a node) → get_or (ds ++ d ∷ []) n 0 ≡ depth_of (appended t a node) n
  kept_depths ds len depths d is n h =
      let more : length (t.parents ++ a ∷ []) ≡ suc (length t.parents) = length_more t.parents a in
      elim (below_or_last n (size t) (omega arith)) [
        | inl old ↦ get_before ds d 0 n (omega arith) ∙ depths n old ∙ sym (depth_before t a node inside tree n old)
        | inr new ↦ get_last ds d 0 n (new ∙ sym len) ∙ is ∙ ap suc (depths a inside) ∙ sym (depth_last t a node inside tree n new)
      ]

  child_set : (cs : List (List ℕ)) → length cs ≡ size t → ((n : ℕ) → n < size t → get_or cs n [] ≡ children_of t n) → (n : ℕ) → n < size t → get_or (set cs a (get_or cs a [] ++ size t ∷ [])) n [] ≡ children_of (appended t a node) n
  child_set cs len children n h =
      let small : a < length cs = omega arith in
      elim (same_or_not a n) [
        | inl same ↦ grind (arith, common_steps, children_grown n, children a inside)
        | inr other ↦ grind (arith, common_steps, children_grown n, children n h)
      ]

  kept_children : (cs : List (List ℕ)) → length cs ≡ size t → ((n : ℕ) → n < size t → get_or cs n [] ≡ children_of t n) → (n : ℕ) → n < size (appended t a node) → get_or (set cs a (get_or cs a [] ++ size t ∷ []) ++ [] ∷ []) n [] ≡ children_of (appended t a node) n
  kept_children cs len children n h =
      let more : length (t.parents ++ a ∷ []) ≡ suc (length t.parents) = length_more t.parents a in
      let kept : length (set cs a (get_or cs a [] ++ size t ∷ [])) ≡ length cs = simp length-set in
      elim (below_or_last n (size t) (omega arith)) [
        | inl old ↦ get_before (set cs a (get_or cs a [] ++ size t ∷ [])) [] [] n (omega arith) ∙ child_set cs len children n old
        | inr new ↦ get_last (set cs a (get_or cs a [] ++ size t ∷ [])) [] [] n (new ∙ sym len ∙ sym kept) ∙ sym (no_children n new)
      ]

  pub kept : (ds : List ℕ) (cs : List (List ℕ)) → IsKept t ds cs → (d : ℕ) → d ≡ suc (get_or ds a 0) → IsKept (appended t a node) (ds ++ d ∷ []) (set cs a (get_or cs a [] ++ size t ∷ []) ++ [] ∷ [])
  kept ds cs k d is = record {
    tree = grown;
    plan = get_before t.parents a 0 0 tree.root ∙ k.plan;
    depths_len = length_more ds d ∙ ap suc k.depths_len ∙ sym (length_more t.parents a);
    children_len = length_more (set cs a (get_or cs a [] ++ size t ∷ [])) [] ∙ ap suc (simp length-set k.children_len) ∙ sym (length_more t.parents a);
    depths = kept_depths ds k.depths_len k.depths d is;
    children = kept_children cs k.children_len k.children;
  }
