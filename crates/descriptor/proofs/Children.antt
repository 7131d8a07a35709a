-- What a caller needs of the lists of children: each child stands in its parent's list, once.
use Rattle.std.proofs.Common.{◌≡◌, ℕ, zero, suc, ◌+◌, ◌<◌, Bool, true, false, cond, List, [], ◌∷◌, ◌++◌, length, refl, ap, sym, ◌∙◌, arith, inl, inr, ◌⊎◌, subst, Some}
use Rattle.std.specs.Prelude.{slice_get}
use Rattle.std.proofs.lemmas.Option.{slice_get_within}
use Rattle.std.proofs.lemmas.Grind.{common_steps}
use Rattle.descriptor.specs.Children.{ListsChildren}
use Rattle.descriptor.specs.Nodes.{Nodes, IsChild, size, children_of, numbers_where, is_child, count_below, bit}

get_if : (b : Bool) (xs : List ℕ) (n i c : ℕ) → slice_get (xs ++ cond b (n ∷ []) []) i ≡ Some c → (slice_get xs i ≡ Some c) ⊎ ((b ≡ true) × (i ≡ length xs) × (c ≡ n))
get_if true [] n zero c e = inr (refl, refl, cc)
get_if true [] n (suc i) c e = absurd (cc)
get_if false [] n i c e = absurd (cc)
get_if b (x ∷ xs) n zero c e = inl e
get_if b (x ∷ xs) n (suc i) c e = elim (get_if b xs n i c e) [ inl old ↦ inl old | inr new ↦ inr (new.0, ap suc new.1, new.2) ]

get_early : (xs ys : List ℕ) (i c : ℕ) → slice_get xs i ≡ Some c → slice_get (xs ++ ys) i ≡ Some c
get_early [] ys i c e = absurd (cc)
get_early (x ∷ xs) ys zero c e = e
get_early (x ∷ xs) ys (suc i) c e = get_early xs ys i c e

get_last : (b : Bool) (xs : List ℕ) (n : ℕ) → b ≡ true → slice_get (xs ++ cond b (n ∷ []) []) (length xs) ≡ Some n
get_last true [] n e = refl
get_last false [] n e = absurd (cc)
get_last b (x ∷ xs) n e = get_last b xs n e

length_if : (b : Bool) (xs : List ℕ) (n : ℕ) → length (xs ++ cond b (n ∷ []) []) ≡ bit b + length xs
length_if true xs n = grind (arith, common_steps)
length_if false xs n = grind (arith, common_steps)

last_or_before : (n c : ℕ) → c < suc n → (c < n) ⊎ (c ≡ n)
last_or_before n c h = grind arith

module _ (q : ℕ → Bool) where
  passes : (n i c : ℕ) → slice_get (numbers_where q n) i ≡ Some c → (c < n) × (q c ≡ true)
  passes zero i c e = absurd (cc)
  passes (suc n) i c e = elim (get_if (q n) (numbers_where q n) n i c e) [
    | inl old ↦ let before = passes n i c old in (omega (arith, before.0), before.1)
    | inr new ↦ (omega (arith, new.2), subst (λ (x : ℕ). q x ≡ true) (sym new.2) new.0)
  ]

  found : (n c : ℕ) → c < n → q c ≡ true → (i : ℕ) × (slice_get (numbers_where q n) i ≡ Some c)
  found zero c h e = absurd (omega arith)
  found (suc n) c h e = elim (last_or_before n c h) [
    | inl old ↦ let at = found n c old e in (at.0, get_early (numbers_where q n) (cond (q n) (n ∷ []) []) at.0 c at.1)
    | inr new ↦ (length (numbers_where q n), subst (λ (x : ℕ). slice_get (numbers_where q (suc n)) (length (numbers_where q n)) ≡ Some x) (sym new) (get_last (q n) (numbers_where q n) n (subst (λ (x : ℕ). q x ≡ true) new e)))
  ]

  once : (n i j c : ℕ) → slice_get (numbers_where q n) i ≡ Some c → slice_get (numbers_where q n) j ≡ Some c → i ≡ j
  once zero i j c a b = absurd (cc)
  once (suc n) i j c a b = elim (get_if (q n) (numbers_where q n) n i c a) [
    | inl old ↦ elim (get_if (q n) (numbers_where q n) n j c b) [
      | inl also ↦ once n i j c old also
      | inr new ↦ let small = passes n i c old in absurd (omega (arith, small.0, new.2))
    ]
    | inr last ↦ elim (get_if (q n) (numbers_where q n) n j c b) [
      | inl also ↦ let small = passes n j c also in absurd (omega (arith, small.0, last.2))
      | inr new ↦ last.1 ∙ sym new.1
    ]
  ]

  within : (n i c : ℕ) → slice_get (numbers_where q n) i ≡ Some c → i < length (numbers_where q n)
  within n i c e = slice_get_within (numbers_where q n) i c e

  ordered : (n i j c d : ℕ) → i < j → slice_get (numbers_where q n) i ≡ Some c → slice_get (numbers_where q n) j ≡ Some d → c < d
  ordered zero i j c d less a b = absurd (cc)
  ordered (suc n) i j c d less a b = elim (get_if (q n) (numbers_where q n) n j d b) [
    | inl old ↦
        elim (get_if (q n) (numbers_where q n) n i c a) [
          | inl also ↦ ordered n i j c d less also old
          | inr new ↦ let inside = within n j d old in absurd (omega (arith, new.1))
        ]
    | inr last ↦ elim (get_if (q n) (numbers_where q n) n i c a) [
      | inl also ↦ let small = passes n i c also in omega (arith, small.0, last.2)
      | inr new ↦ absurd (omega (arith, last.1, new.1))
    ]
  ]

  pub counted : (n : ℕ) → length (numbers_where q n) ≡ count_below q n
  counted zero = refl
  counted (suc n) = length_if (q n) (numbers_where q n) n ∙ ap (λ x. bit (q n) + x) (counted n)

is_child_test : (t : Nodes) (a c : ℕ) → c < size t → is_child t a c ≡ true → IsChild t a c
is_child_test t a c h e = record { above_zero = grind (arith, e); inside = h; parent = grind (arith, e) }

test_is_child : (t : Nodes) (a c : ℕ) → IsChild t a c → is_child t a c ≡ true
test_is_child t a c e = grind (arith, e.above_zero, e.parent)

pub children_listed : (t : Nodes) (n i c : ℕ) → slice_get (children_of t n) i ≡ Some c → IsChild t n c
children_listed t n i c e = let at = passes (is_child t n) (size t) i c e in is_child_test t n c at.0 at.1

pub children_each : (t : Nodes) (n c : ℕ) → IsChild t n c → (i : ℕ) × (slice_get (children_of t n) i ≡ Some c)
children_each t n c e = found (is_child t n) (size t) c e.inside (test_is_child t n c e)

pub children_once : (t : Nodes) (n i j c : ℕ) → slice_get (children_of t n) i ≡ Some c → slice_get (children_of t n) j ≡ Some c → i ≡ j
children_once t n = once (is_child t n) (size t)

pub children_ordered : (t : Nodes) (n i j c d : ℕ) → i < j → slice_get (children_of t n) i ≡ Some c → slice_get (children_of t n) j ≡ Some d → c < d
children_ordered t n = ordered (is_child t n) (size t)

pub children_counted : (t : Nodes) (n : ℕ) → length (children_of t n) ≡ count_below (is_child t n) (size t)
children_counted t n = counted (is_child t n) (size t)

pub lists_children : (t : Nodes) (n : ℕ) → ListsChildren t n
lists_children t n = record {
  listed = children_listed t n;
  each = children_each t n;
  once = children_once t n;
  ordered = children_ordered t n;
  counted = children_counted t n;
}
