-- Where a search finds a key in a set, and what that says of it.
use Rattle.std.proofs.Common.{◌≡◌, ℕ, zero, suc, ◌<◌, ◌≤◌, get_or, List, [], ◌∷◌, length, slice_get, Option, Some, None, Ok, Err, Result, inl, inr, refl, sym, ap, ◌∙◌, subst, arith}
use Rattle.std.proofs.lemmas.Option.{none-some, same_Some, slice_get-get_or, get_or_from_slice_get, slice_get_within}
use Rattle.std.proofs.lemmas.Bool.{cases_lt}
use Rattle.std.proofs.lemmas.Cmp.{nat_list_cmp_total}
use Rattle.std.proofs.lemmas.Map.Lookups.{exact_bytes}
use Rattle.std.proofs.Math.Nat.{eq-or-lt_of_le}
use Rattle.std.specs.List.Sorted.{IsBinarySearchResult, IsNonDecreasingBy, IsSearchInRange}
use Rattle.std.specs.Prelude.{IfOk, IfErr}
use Rattle.std.specs.Ordering.{ordering_index, ordering_reverse}
use Rattle.std.specs.declared.cmp.Ordering.{Ordering}
use Rattle.std.specs.declared.cmp.Ordering.TheVariants.{Less, Equal, Greater}
use Rattle.descriptor.specs.declared.lock.Lock.{Lock}
use Rattle.descriptor.specs.declared.lock_mode.LockMode.{LockMode}
use Rattle.resource_locks.specs.Wants.{mode_for, HasLock}
use Rattle.resource_locks.specs.LockSets.{key_cmp, IsLockSet}
use Rattle.resource_locks.specs.Inside.Places.{IsHere, IsBefore}
use Rattle.resource_locks.proofs.SetLaws.{wants_exactly, not_less, not_greater}
use Rattle.resource_locks.proofs.Wants.{has_wanted}

-- the comparison the other way round
pub turned : (a b : List ℕ) (o : Ordering) → key_cmp a b ≡ o → key_cmp b a ≡ ordering_reverse o
turned a b o e = nat_list_cmp_total.antisymm b a ∙ ap ordering_reverse e

-- of two locks of a set the earlier one has the lesser key
pub in_order : (s : List Lock) (i j : ℕ) (x y : Lock) → IsLockSet s → i < j → slice_get s i ≡ Some x → slice_get s j ≡ Some y → key_cmp x.key y.key ≡ Less
in_order [] i j x y set lt e f = absurd (none-some x e)
in_order (l ∷ s) zero zero x y set lt e f = absurd (omega (arith, lt))
in_order (l ∷ s) zero (suc j) x y set lt e f = subst (λ (z : Lock). key_cmp z.key y.key ≡ Less) (same_Some l x e) (set.0 j y f)
in_order (l ∷ s) (suc i) zero x y set lt e f = absurd (omega (arith, lt))
in_order (l ∷ s) (suc i) (suc j) x y set lt e f = in_order s i j x y set.1 (omega (arith, lt)) e f

-- a greater key is no less against a third
rise : (a b key : List ℕ) → key_cmp a b ≡ Less → (o : Ordering) → key_cmp a key ≡ o → ordering_index (key_cmp a key) ≤ ordering_index (key_cmp b key)
rise a b key less Less q = (let e = ap ordering_index q in omega (arith, e))
rise a b key less Equal q =
    let after : key_cmp b key ≡ Greater = subst (λ (x : List ℕ). key_cmp b x ≡ Greater) (exact_bytes a key q) (turned a b Less less) in
    let e = ap ordering_index q in
    let f = ap ordering_index after in
    omega (arith, e, f)
rise a b key less Greater q =
    let after : key_cmp b key ≡ Greater = turned key b Less (nat_list_cmp_total.trans key a b (turned a key Greater q) less) in
    let e = ap ordering_index q in
    let f = ap ordering_index after in
    omega (arith, e, f)

-- so the comparisons with a key rise along a set, as a search by halving asks
pub comparisons_rise : (s : List Lock) (key : List ℕ) → IsLockSet s → IsNonDecreasingBy (λ (l : Lock). ordering_index (key_cmp l.key key)) s
comparisons_rise s key set i j d le within =
    elim (eq-or-lt_of_le le) [
      | inl same ↦ (let e = ap (λ (k : ℕ). ordering_index (key_cmp (get_or s k d).key key)) same in omega (arith, e))
      | inr lt ↦ rise (get_or s i d).key (get_or s j d).key key (in_order s i j (get_or s i d) (get_or s j d) set lt (slice_get-get_or s i d (omega (arith, lt, within))) (slice_get-get_or s j d within)) (key_cmp (get_or s i d).key key) refl
    ]

-- what the search finds has the key
pub found_here : (s : List Lock) (key : List ℕ) (i : ℕ) → IsLockSet s → i < length s → ((d : Lock) → key_cmp (get_or s i d).key key ≡ Equal) → IsHere s key i
found_here [] key i set inside equal = absurd (omega (arith, inside))
found_here (x ∷ s) key i set inside equal =
    let at : slice_get (x ∷ s) i ≡ Some (get_or (x ∷ s) i x) = slice_get-get_or (x ∷ s) i x inside in
    let k : key ≡ (get_or (x ∷ s) i x).key = sym (exact_bytes (get_or (x ∷ s) i x).key key (equal x)) in
    record {
      lock = get_or (x ∷ s) i x;
      stands = at;
      same = turned (get_or (x ∷ s) i x).key key Equal (equal x);
      earlier = λ j l lt e. subst (λ (z : List ℕ). key_cmp z l.key ≡ Greater) (sym k) (turned l.key (get_or (x ∷ s) i x).key Less (in_order (x ∷ s) j i l (get_or (x ∷ s) i x) set lt e at));
    }

-- where it finds none, the key belongs before the place
pub missed_before : (s : List Lock) (key : List ℕ) (i : ℕ) → IsLockSet s → i ≤ length s → IsBinarySearchResult (λ (l : Lock). key_cmp l.key key) s (Err i) → IsBefore s key i
missed_before s key i set inside parted =
    let both = parted (comparisons_rise s key set) in
    record {
      inside = inside;
      earlier = λ j l lt e. turned l.key key Less (ap (λ (z : Lock). key_cmp z.key key) (sym (get_or_from_slice_get s j l l e)) ∙ both.0 j l (omega arith) lt);
      later = λ j l le e. turned l.key key Greater (ap (λ (z : Lock). key_cmp z.key key) (sym (get_or_from_slice_get s j l l e)) ∙ both.1 j l le (slice_get_within s j l e));
    }

-- the mode in which a set wants a key that stands at place n, told by what was read there
pub wanted_here : (s : List Lock) (key : List ℕ) (n : ℕ) (x : Lock) → IsLockSet s → IsHere s key n → x ≡ get_or s n x → Some x.mode ≡ mode_for key s
wanted_here s key n x set h at =
    let found : x ≡ h.lock = at ∙ get_or_from_slice_get s n h.lock x h.stands in
    ap (λ (l : Lock). Some l.mode) found ∙ sym (wants_exactly s key h.lock.mode set (n, h.stands ∙ ap (λ (k : List ℕ). Some (record { key = k; mode = h.lock.mode })) (sym (exact_bytes key h.lock.key h.same))))

-- a key that belongs before some place is wanted in no mode
pub unwanted_before : (s : List Lock) (key : List ℕ) (n : ℕ) → IsBefore s key n → None ≡ mode_for key s
unwanted_before s key n b = by_mode (mode_for key s) refl
  where
    nowhere : (m : LockMode) → HasLock s key m → ⊥
    nowhere m h = elim (cases_lt h.0 n) [
      | inl lt ↦ not_greater key (b.earlier h.0 (record { key = key; mode = m }) lt h.1)
      | inr le ↦ not_less key (b.later h.0 (record { key = key; mode = m }) le h.1)
    ]

    by_mode : (o : Option LockMode) → o ≡ mode_for key s → None ≡ mode_for key s
    by_mode None q = q
    by_mode (Some m) q = absurd (nowhere m (has_wanted s key m (sym q)))

-- what a search by halving answers of a set: s is the set as contracts see it, u its locks, v what was searched
pub search_here : (s : List Lock) (key : List ℕ) (u v : List Lock) (r : Result ℕ ℕ) → IsLockSet u → u ≡ s → v ≡ u → IsSearchInRange r (length v) → IsBinarySearchResult (λ (l : Lock). key_cmp l.key key) v r → IfOk r (IsHere s key)
search_here s key u v (Ok i) set e f inside at =
    let same : v ≡ s = f ∙ e in
    subst (λ (x : List Lock). IsHere x key i) same (found_here v key i (subst IsLockSet (sym f) set) inside at)
search_here s key u v (Err i) set e f inside at = tt

pub search_before : (s : List Lock) (key : List ℕ) (u v : List Lock) (r : Result ℕ ℕ) → IsLockSet u → u ≡ s → v ≡ u → IsSearchInRange r (length v) → IsBinarySearchResult (λ (l : Lock). key_cmp l.key key) v r → IfErr r (IsBefore s key)
search_before s key u v (Ok i) set e f inside at = tt
search_before s key u v (Err i) set e f inside at =
    let same : v ≡ s = f ∙ e in
    subst (λ (x : List Lock). IsBefore x key i) same (missed_before v key i (subst IsLockSet (sym f) set) inside at)
