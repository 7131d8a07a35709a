-- Marks that go up from the nodes that pass, each node after its children.
use Rattle.std.proofs.Common.{◌≡◌, ◌≢◌, ℕ, suc, ◌<◌, ◌≤◌, Bool, true, false, cond, List, ◌++◌, length, take, drop, get_or, refl, sym, ap, ◌∙◌, arith, inl, inr, ◌⊎◌, subst, eqb}
use Rattle.std.proofs.Math.ListN.{set, length-set}
use Rattle.std.proofs.lemmas.Bool.Decides.{Decides-eqb}
use Rattle.std.proofs.lemmas.List.{get_or-set_other, ext_get_or}
use Rattle.std.proofs.lemmas.Grind.{get_or-set_at, common_steps}
use Rattle.std.specs.Prelude.{◌&&◌}
use Rattle.descriptor.specs.Nodes.{Nodes, IsTree, IsChild, size, parent_of}
use Rattle.selectors.specs.Covered.{truths}
use Rattle.selectors.specs.Keeping.{has_selected, is_above, HasSelected}
use Rattle.selectors.specs.Lineages.{is_at_or_below}
use Rattle.selectors.proofs.AtOrBelows.{child_at_or_above, first_step, told, tells}
use Rattle.selectors.proofs.Truths.{or_left, or_right, or_cases, any_at, any_found, same_truth, length_truths, truth_at}

pub and_both : (a b : Bool) → a ≡ true → b ≡ true → (a && b) ≡ true
and_both true b h g = g
and_both false b h g = h

pub and_parts : (a b : Bool) → (a && b) ≡ true → (a ≡ true) × (b ≡ true)
and_parts true b h = (refl, h)
and_parts false b h = (h, absurd (cc))

same_or_not : (a n : ℕ) → (a ≡ n) ⊎ (a ≢ n)
same_or_not a n = grind arith

pub is_or_is_not : (a : Bool) → (a ≡ true) ⊎ (a ≡ false)
is_or_is_not true = inl refl
is_or_is_not false = inr refl

-- a vector whose part in use was written as a slice of that length
pub written_back : (n : ℕ) (new old : List Bool) → length old ≡ n → length new ≡ n → take n (new ++ drop (length new) old) ≡ new
written_back n new old was is = grind (arith, common_steps)

pub length_marked : (b : Bool) (marks : List Bool) (p : ℕ) → length (cond b (set marks p true) marks) ≡ length marks
length_marked true marks p = length-set marks p true
length_marked false marks p = refl

-- node m is selected, or a child of it from number i on has a selected node at or below it
abbrev pub Marked : Nodes → (ℕ → Bool) → ℕ → ℕ → Type 0
Marked t q i m = (q m ≡ true) ⊎ ((c : ℕ) × IsChild t m c × (i ≤ c) × HasSelected t q c)

-- the marks where each node from number i on has marked its parent
pub record AreMarks (t : Nodes) (q : ℕ → Bool) (marks : List Bool) (i : ℕ) : Type 0 where
  pub len : length marks ≡ size t
  pub sound : (m : ℕ) → m < size t → get_or marks m false ≡ true → Marked t q i m
  pub whole : (m : ℕ) → m < size t → Marked t q i m → get_or marks m false ≡ true

module _ (t : Nodes) (tree : IsTree t) (q : ℕ → Bool) where
  -- a node with a selected one at or below it is selected itself, or has such a child
  parted : (m : ℕ) → HasSelected t q m → (q m ≡ true) ⊎ ((c : ℕ) × IsChild t m c × HasSelected t q c)
  parted m (n, inside, here, at) = elim at [
    | inl same ↦ inl (ap q (sym same) ∙ here)
    | inr below ↦ let first = first_step t m n below in inr (first.0, first.1, (n, inside, here, first.2))
  ]

  by_child : (m c : ℕ) → IsChild t m c → HasSelected t q c → HasSelected t q m
  by_child m c e (n, inside, here, at) = (n, inside, here, child_at_or_above t m c n e at)

  up_of : (m c : ℕ) → IsChild t m c → m < c
  up_of m c e = let less : parent_of t c < c = tree.up c e.above_zero e.inside in omega (arith, e.parent)

  has : (i m : ℕ) → m < size t → Marked t q i m → HasSelected t q m
  has i m inside (inl here) = (m, inside, here, inl refl)
  has i m inside (inr (c, e, from, some)) = by_child m c e some

  marked : (m : ℕ) → HasSelected t q m → Marked t q (suc m) m
  marked m some = elim (parted m some) [
    | inl here ↦ inl here
    | inr (c, e, more) ↦ inr (c, e, (let less : m < c = up_of m c e in omega arith), more)
  ]

  earlier : (i m : ℕ) → Marked t q (suc i) m → Marked t q i m
  earlier i m (inl here) = inl here
  earlier i m (inr (c, e, from, some)) = inr (c, e, omega arith, some)

  -- node i is marked: so is its parent then
  pass_on : (marks : List Bool) (i p : ℕ) → IsChild t p i → AreMarks t q marks (suc i) → get_or marks i false ≡ true → AreMarks t q (set marks p true) i
  pass_on marks i p e were here =
      let less : p < i = up_of p i e in
      let some : HasSelected t q i = has (suc i) i e.inside (were.sound i e.inside here) in
      let room : p < length marks = omega (arith, were.len, e.inside) in
      record {
        len = simp length-set were.len;
        sound = λ m inside yes_m. elim (same_or_not m p) [
          | inl same ↦ inr (i, subst (λ (x : ℕ). IsChild t x i) (sym same) e, omega arith, some)
          | inr other ↦ earlier i m (were.sound m inside (sym (get_or-set_other marks p m true false other) ∙ yes_m))
        ];
        whole = λ m inside told_m. elim (same_or_not m p) [
          | inl same ↦ get_or-set_at marks p m true false same room
          | inr other ↦ get_or-set_other marks p m true false other ∙ were.whole m inside (later m p i e other told_m)
        ];
      }
    where
      later : (m p i : ℕ) → IsChild t p i → m ≢ p → Marked t q i m → Marked t q (suc i) m
      later m p i e other (inl is) = inl is
      later m p i e other (inr (c, f, from, more)) = elim (same_or_not c i) [
        | inl same ↦ absurd (other (sym f.parent ∙ ap (parent_of t) same ∙ e.parent))
        | inr different ↦ inr (c, f, grind arith, more)
      ]

  -- node i is not marked: nothing at or below it is selected then
  pass_none : (marks : List Bool) (i : ℕ) → i < size t → AreMarks t q marks (suc i) → get_or marks i false ≡ false → AreMarks t q marks i
  pass_none marks i inside were none = record {
    len = were.len;
    sound = λ m h yes_m. earlier i m (were.sound m h yes_m);
    whole = λ m h told_m. were.whole m h (later m told_m);
  }
    where
      later : (m : ℕ) → Marked t q i m → Marked t q (suc i) m
      later m (inl is) = inl is
      later m (inr (c, f, from, more)) = elim (same_or_not c i) [
        | inl same ↦ let on : get_or marks i false ≡ true = were.whole i inside (marked i (subst (HasSelected t q) same more)) in absurd (cc)
        | inr different ↦ inr (c, f, grind arith, more)
      ]

  pub passed : (marks new : List Bool) (i : ℕ) → 0 < i → i < size t → AreMarks t q marks (suc i) → new ≡ cond (get_or marks i false) (set marks (parent_of t i) true) marks → AreMarks t q new i
  passed marks new i above inside were is = elim (is_or_is_not (get_or marks i false)) [
    | inl on ↦ subst (λ (x : List Bool). AreMarks t q x i) (sym (is ∙ ap (λ b. cond b (set marks (parent_of t i) true) marks) on)) (pass_on marks i (parent_of t i) (record { above_zero = above; inside = inside; parent = refl }) were on)
    | inr off ↦ subst (λ (x : List Bool). AreMarks t q x i) (sym (is ∙ ap (λ b. cond b (set marks (parent_of t i) true) marks) off)) (pass_none marks i inside were off)
  ]

  -- the tests and what they tell
  pub selected_told : (n : ℕ) → has_selected t q n ≡ true → HasSelected t q n
  selected_told n some =
      let at = any_found (λ (m : ℕ). q m && is_at_or_below t n m) (size t) some in
      let both = and_parts (q at.0) (is_at_or_below t n at.0) at.2 in
      (at.0, at.1, both.0, told t tree n at.0 at.1 both.1)

  pub selected_as : (n : ℕ) → HasSelected t q n → has_selected t q n ≡ true
  selected_as n (m, inside, here, at) = any_at (λ (m : ℕ). q m && is_at_or_below t n m) (size t) m inside (and_both (q m) (is_at_or_below t n m) here (tells t tree n m inside at))

  pub above_told : (n : ℕ) → is_above t q n ≡ true → (n ≡ 0) ⊎ HasSelected t q n
  above_told n h = elim (or_cases (eqb n 0) (has_selected t q n) h) [
    | inl root ↦ inl ((Decides-eqb n 0).0 root)
    | inr some ↦ inr (selected_told n some)
  ]

  pub above_as : (n : ℕ) → (n ≡ 0) ⊎ HasSelected t q n → is_above t q n ≡ true
  above_as n (inl root) = or_left (eqb n 0) (has_selected t q n) ((Decides-eqb n 0).1 root)
  above_as n (inr some) = or_right (eqb n 0) (has_selected t q n) (selected_as n some)

  from_first : (i m : ℕ) → i ≤ 1 → HasSelected t q m → Marked t q i m
  from_first i m first some = elim (parted m some) [
    | inl here ↦ inl here
    | inr (c, e, more) ↦ inr (c, e, (let above : 0 < c = e.above_zero in omega arith), more)
  ]

  last : (marks : List Bool) (i m : ℕ) → i ≤ 1 → AreMarks t q marks i → m < size t → get_or (set marks 0 true) m false ≡ is_above t q m
  last marks i m first were inside = elim (same_or_not m 0) [
    | inl root ↦ get_or-set_at marks 0 m true false root (omega (arith, were.len)) ∙ sym (above_as m (inl root))
    | inr other ↦
        get_or-set_other marks 0 m true false other
        ∙ same_truth (get_or marks m false) (is_above t q m)
        (λ h. above_as m (inr (has i m inside (were.sound m inside h))))
        (λ h. elim (above_told m h) [
          | inl root ↦ absurd (other root)
          | inr some ↦ were.whole m inside (from_first i m first some)
        ])
  ]

  pub finished : (marks : List Bool) (i : ℕ) → i ≤ 1 → AreMarks t q marks i → set marks 0 true ≡ truths (is_above t q) (size t)
  finished marks i first were =
      let len : length (set marks 0 true) ≡ size t = simp length-set were.len in
      ext_get_or false (set marks 0 true) (truths (is_above t q) (size t)) (len ∙ sym (length_truths (is_above t q) (size t)))
      (λ m h. let inside : m < size t = omega arith in last marks i m first were inside ∙ sym (truth_at (is_above t q) (size t) m false inside))

pub begun : (t : Nodes) (marks : List Bool) → length marks ≡ size t → AreMarks t (λ m. get_or marks m false) marks (size t)
begun t marks len = record {
  len = len;
  sound = λ m inside h. inl h;
  whole = λ m inside h. elim h [
    | inl here ↦ here
    | inr (c, e, from, some) ↦ absurd (let inside : c < size t = e.inside in omega arith)
  ];
}

pub above_up : (t : Nodes) (tree : IsTree t) (q : ℕ → Bool) (p n : ℕ) → IsChild t p n → is_above t q n ≡ true → is_above t q p ≡ true
above_up t tree q p n e h = elim (above_told t tree q n h) [
  | inl root ↦ absurd (let above : 0 < n = e.above_zero in omega arith)
  | inr some ↦ above_as t tree q p (inr (by_child t tree q p n e some))
]
