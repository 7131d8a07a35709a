-- Laws of sets of locks.
use Rattle.std.proofs.Common.{◌≡◌, ℕ, zero, suc, false, List, [], ◌∷◌, Option, Some, None, inl, inr, refl, sym, ap, ◌∙◌, subst}
use Rattle.std.proofs.lemmas.Bool.{cases_Bool, cond-false}
use Rattle.std.proofs.lemmas.Option.{none-some, same_Some}
use Rattle.std.proofs.lemmas.Cmp.{nat_list_cmp_total, tied_itself}
use Rattle.std.proofs.lemmas.Map.Lookups.{exact_bytes}
use Rattle.std.specs.Str.{bytes_eq}
use Rattle.std.specs.Ordering.{ordering_reverse}
use Rattle.std.specs.declared.cmp.Ordering.{Ordering}
use Rattle.std.specs.declared.cmp.Ordering.TheVariants.{Less, Equal, Greater}
use Rattle.descriptor.specs.declared.lock.Lock.{Lock}
use Rattle.descriptor.specs.declared.lock_mode.LockMode.{LockMode}
use Rattle.resource_locks.specs.Wants.{stronger, either, mode_for, HasLock, WantsBoth, WantSame}
use Rattle.resource_locks.specs.LockSets.{key_cmp, IsBelowAll, IsLockSet, put_by, put, join, of}
use Rattle.resource_locks.proofs.Wants.{AtLeast, either_comm, either_assoc, either_same, same_key, first_or_later, has_wanted, wants_all, mode_join, mode_of}

-- a key is not before and not after itself
pub not_less : (key : List ℕ) → key_cmp key key ≡ Less → ⊥
not_less key e = (let tied : key_cmp key key ≡ Equal = tied_itself nat_list_cmp_total key in less_tied (sym e ∙ tied))
  where
    less_tied : Less ≡ Equal → ⊥
    less_tied q = cc

pub not_greater : (key : List ℕ) → key_cmp key key ≡ Greater → ⊥
not_greater key e = (let tied : key_cmp key key ≡ Equal = tied_itself nat_list_cmp_total key in greater_tied (sym e ∙ tied))
  where
    greater_tied : Greater ≡ Equal → ⊥
    greater_tied q = cc

-- a key before all those of a list is in none of its locks
pub below_none : (key : List ℕ) (s : List Lock) (m : LockMode) → IsBelowAll key s → HasLock s key m → ⊥
below_none key s m below h = not_less key (below h.0 (record { key = key; mode = m }) h.1)

-- a set has no key in two modes
pub one_mode : (s : List Lock) (key : List ℕ) (a b : LockMode) → IsLockSet s → HasLock s key a → HasLock s key b → a ≡ b
one_mode [] key a b set h k = absurd (none-some (record { key = key; mode = a }) h.1)
one_mode (l ∷ s) key a b set h k =
    elim (first_or_later l s key a h) [
      | inl e ↦ elim (first_or_later l s key b k) [
        | inl f ↦ ap (λ (x : Lock). x.mode) (sym e ∙ f)
        | inr f ↦ absurd (below_none key s b (subst (λ (x : List ℕ). IsBelowAll x s) (ap (λ (x : Lock). x.key) e) set.0) f)
      ]
      | inr e ↦ elim (first_or_later l s key b k) [
        | inl f ↦ absurd (below_none key s a (subst (λ (x : List ℕ). IsBelowAll x s) (ap (λ (x : Lock). x.key) f) set.0) e)
        | inr f ↦ one_mode s key a b set.1 e f
      ]
    ]

-- a set wants a key in the mode of its lock
pub wants_exactly : (s : List Lock) (key : List ℕ) (m : LockMode) → IsLockSet s → HasLock s key m → mode_for key s ≡ Some m
wants_exactly s key m set h =
    let r = at_least_some m (mode_for key s) (wants_all s key m h) in
    r.1 ∙ ap (λ (x : LockMode). Some x) (one_mode s key r.0 m set (has_wanted s key r.0 r.1) h)
  where
    at_least_some : (m : LockMode) (o : Option LockMode) → AtLeast m o → (x : LockMode) × (o ≡ Some x)
    at_least_some m None h = absurd h
    at_least_some m (Some x) h = (x, refl)

below_by : (key : List ℕ) (l y : Lock) (s rest : List Lock) → key_cmp key l.key ≡ Less → IsBelowAll key (y ∷ s) → (IsBelowAll key s → IsBelowAll key rest) → (o : Ordering) → IsBelowAll key (put_by o l y s rest)
below_by key l y s rest less below more Less zero z f = rw (sym (same_Some l z f)) less
below_by key l y s rest less below more Less (suc j) z f = below j z f
below_by key l y s rest less below more Equal zero z f = rw (sym (same_Some (record { key = y.key; mode = stronger y.mode l.mode }) z f)) (below zero y refl)
below_by key l y s rest less below more Equal (suc j) z f = below (suc j) z f
below_by key l y s rest less below more Greater zero z f = below zero z f
below_by key l y s rest less below more Greater (suc j) z f = more (λ i x e. below (suc i) x e) j z f

-- a key below those of a list is below those of the list with a greater one put in
below_put : (key : List ℕ) (l : Lock) (s : List Lock) → key_cmp key l.key ≡ Less → IsBelowAll key s → IsBelowAll key (put l s)
below_put key l [] less below zero x e = rw (sym (same_Some l x e)) less
below_put key l [] less below (suc i) x e = absurd (none-some x e)
below_put key l (y ∷ s) less below i x e = below_by key l y s (put l s) less below (λ later. below_put key l s less later) (key_cmp l.key y.key) i x e

put_set_by : (l y : Lock) (s rest : List Lock) → IsLockSet (y ∷ s) → (key_cmp y.key l.key ≡ Less → IsBelowAll y.key rest) → IsLockSet rest → (o : Ordering) → o ≡ key_cmp l.key y.key → IsLockSet (put_by o l y s rest)
put_set_by l y s rest set below rest_set Less q = (through, set)
  where
    through : IsBelowAll l.key (y ∷ s)
    through zero x e = rw (sym (same_Some y x e)) (sym q)
    through (suc i) x e = nat_list_cmp_total.trans l.key y.key x.key (sym q) (set.0 i x e)
put_set_by l y s rest set below rest_set Equal q = (set.0, set.1)
put_set_by l y s rest set below rest_set Greater q = (below (nat_list_cmp_total.antisymm y.key l.key ∙ ap ordering_reverse (sym q)), rest_set)

-- a set with one more lock is a set
pub put_set : (l : Lock) (s : List Lock) → IsLockSet s → IsLockSet (put l s)
put_set l [] set = (λ i x e. absurd (none-some x e), tt)
put_set l (y ∷ s) set = put_set_by l y s (put l s) set (λ less. below_put y.key l s less set.0) (put_set l s set.1) (key_cmp l.key y.key) refl

pub join_set : (s locks : List Lock) → IsLockSet s → IsLockSet (join s locks)
join_set s [] set = set
join_set s (l ∷ more) set = join_set (put l s) more (put_set l s set)

pub join_comm : (a b : List Lock) → WantSame (join a b) (join b a)
join_comm a b key = mode_join key a b ∙ either_comm (mode_for key a) (mode_for key b) ∙ sym (mode_join key b a)

pub join_assoc : (a b c : List Lock) → WantSame (join (join a b) c) (join a (join b c))
join_assoc a b c key =
    mode_join key (join a b) c
    ∙ ap (λ (m : Option LockMode). either m (mode_for key c)) (mode_join key a b)
    ∙ either_assoc (mode_for key a) (mode_for key b) (mode_for key c)
    ∙ ap (either (mode_for key a)) (sym (mode_join key b c))
    ∙ sym (mode_join key a (join b c))

pub join_same : (a : List Lock) → WantSame (join a a) a
join_same a key = mode_join key a a ∙ either_same (mode_for key a)

-- a key that stands nowhere is not wanted
pub unwanted : (key : List ℕ) (s : List Lock) → IsBelowAll key s → mode_for key s ≡ None
unwanted key s below = by_mode (mode_for key s) refl
  where
    by_mode : (o : Option LockMode) → o ≡ mode_for key s → mode_for key s ≡ None
    by_mode None q = sym q
    by_mode (Some m) q = absurd (below_none key s m below (has_wanted s key m (sym q)))

-- a set that is alike an empty one is empty
alike_empty : (l : Lock) (s : List Lock) → WantSame [] (l ∷ s) → ⊥
alike_empty l s alike = absent (subst (AtLeast l.mode) (sym (alike l.key)) (wants_all (l ∷ s) l.key l.mode (zero, refl)))
  where
    absent : AtLeast l.mode None → ⊥
    absent h = h

-- a set that has a key has no list alike whose keys all come later
lesser : (l r : Lock) (s u : List Lock) → key_cmp l.key r.key ≡ Less → IsLockSet (l ∷ s) → IsLockSet (r ∷ u) → WantSame (l ∷ s) (r ∷ u) → ⊥
lesser l r s u less set other alike =
    below_none l.key (r ∷ u) l.mode under (has_wanted (r ∷ u) l.key l.mode (sym (alike l.key) ∙ wants_exactly (l ∷ s) l.key l.mode set (zero, refl)))
  where
    under : IsBelowAll l.key (r ∷ u)
    under zero x e = rw (sym (same_Some r x e)) less
    under (suc i) x e = nat_list_cmp_total.trans l.key r.key x.key less (other.0 i x e)

rest_alike : (l r : Lock) (s u : List Lock) → IsLockSet (l ∷ s) → IsLockSet (r ∷ u) → WantSame (l ∷ s) (r ∷ u) → l.key ≡ r.key → WantSame s u
rest_alike l r s u set other alike same key =
    elim (cases_Bool (bytes_eq key l.key)) [
      | inl t ↦ (let k = same_key key l.key t in
          unwanted key s (subst (λ (x : List ℕ). IsBelowAll x s) (sym k) set.0)
          ∙ sym (unwanted key u (subst (λ (x : List ℕ). IsBelowAll x u) (sym (k ∙ same)) other.0)))
      | inr f ↦ (let g : bytes_eq key r.key ≡ false = subst (λ (x : List ℕ). bytes_eq key x ≡ false) same f in
          sym (ap (λ (m : Option LockMode). either m (mode_for key s)) (cond-false (bytes_eq key l.key) (Some l.mode) None f))
          ∙ alike key
          ∙ ap (λ (m : Option LockMode). either m (mode_for key u)) (cond-false (bytes_eq key r.key) (Some r.mode) None g))
    ]

-- two sets that want each key in one mode are equal
pub alike_equal : (a b : List Lock) → IsLockSet a → IsLockSet b → WantSame a b → a ≡ b
alike_equal [] [] set other alike = refl
alike_equal [] (r ∷ u) set other alike = absurd (alike_empty r u alike)
alike_equal (l ∷ s) [] set other alike = absurd (alike_empty l s (λ key. sym (alike key)))
alike_equal (l ∷ s) (r ∷ u) set other alike = by_order (λ h. alike_equal s u set.1 other.1 h) (key_cmp l.key r.key) refl
  where
    by_order : (WantSame s u → s ≡ u) → (o : Ordering) → o ≡ key_cmp l.key r.key → (l ∷ s) ≡ (r ∷ u)
    by_order more Less q = absurd (lesser l r s u (sym q) set other alike)
    by_order more Greater q = absurd (lesser r l u s (nat_list_cmp_total.antisymm r.key l.key ∙ ap ordering_reverse (sym q)) other set (λ key. sym (alike key)))
    by_order more Equal q =
        let k : l.key ≡ r.key = exact_bytes l.key r.key (sym q) in
        let m : l.mode ≡ r.mode = same_Some l.mode r.mode (
        sym (wants_exactly (l ∷ s) l.key l.mode set (zero, refl)) ∙ alike l.key ∙ ap (λ (x : List ℕ). mode_for x (r ∷ u)) k
        ∙ wants_exactly (r ∷ u) r.key r.mode other (zero, refl)
        ) in
        let heads : l ≡ r = ap (λ (x : List ℕ). record { key = x; mode = l.mode }) k ∙ ap (λ (x : LockMode). record { key = r.key; mode = x }) m in
        ap (λ (x : Lock). x ∷ s) heads ∙ ap (λ (x : List Lock). r ∷ x) (more (rest_alike l r s u set other alike k))

-- joining sets: the order and the grouping do not matter, nor does joining a set with itself
pub join_commutes : (a b : List Lock) → IsLockSet a → IsLockSet b → join a b ≡ join b a
join_commutes a b one other = alike_equal (join a b) (join b a) (join_set a b one) (join_set b a other) (join_comm a b)

pub join_associates : (a b c : List Lock) → IsLockSet a → join (join a b) c ≡ join a (join b c)
join_associates a b c set = alike_equal (join (join a b) c) (join a (join b c)) (join_set (join a b) c (join_set a b set)) (join_set a (join b c) set) (join_assoc a b c)

pub join_itself : (a : List Lock) → IsLockSet a → join a a ≡ a
join_itself a set = alike_equal (join a a) a (join_set a a set) set (join_same a)

pub wants_both : (a b : List Lock) → WantsBoth a b (join a b)
wants_both a b key = mode_join key a b

pub wants_same : (locks : List Lock) → WantSame (of locks) locks
wants_same locks key = mode_of key locks
