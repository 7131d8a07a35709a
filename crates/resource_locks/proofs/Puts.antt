-- Where a lock is put into a set.
use Rattle.std.proofs.Common.{◌≡◌, ℕ, zero, suc, ◌+◌, ◌<◌, get_or, subst, List, [], ◌∷◌, ◌++◌, length, take, refl, sym, ap, ◌∙◌, arith}
use Rattle.std.proofs.Math.ListN.{set}
use Rattle.std.proofs.lemmas.Option.{none-some, same_Some, get_or_from_slice_get}
use Rattle.std.proofs.lemmas.Grind.{common_steps}
use Rattle.std.specs.List.{insert}
use Rattle.std.specs.declared.cmp.Ordering.{Ordering}
use Rattle.descriptor.specs.declared.lock.Lock.{Lock}
use Rattle.descriptor.specs.declared.lock_mode.LockMode.{LockMode}
use Rattle.resource_locks.specs.Wants.{stronger}
use Rattle.resource_locks.specs.LockSets.{key_cmp, put_by, put, join, IsLockSet}
use Rattle.resource_locks.specs.Inside.Places.{IsEarlier, IsHere, IsBefore}
use Rattle.resource_locks.proofs.SetLaws.{put_set}

later_earlier : (y : Lock) (s : List Lock) (key : List ℕ) (n : ℕ) → IsEarlier (y ∷ s) key (suc n) → IsEarlier s key n
later_earlier y s key n earlier i l lt e = earlier (suc i) l (omega (arith, lt)) e

-- a lock whose key stands nowhere comes at its place
pub put_insert : (l : Lock) (s : List Lock) (n : ℕ) → IsBefore s l.key n → put l s ≡ insert s n l
put_insert l [] zero b = refl
put_insert l [] (suc n) b = absurd (let h = b.inside in omega (arith, h))
put_insert l (y ∷ s) zero b = ap (λ (o : Ordering). put_by o l y s (put l s)) (b.later 0 y (omega arith) refl)
put_insert l (y ∷ s) (suc n) b =
    ap (λ (o : Ordering). put_by o l y s (put l s)) (b.earlier 0 y (omega arith) refl)
    ∙ ap (λ (x : List Lock). y ∷ x) (put_insert l s n (let h = b.inside in record {
      inside = omega (arith, h);
      earlier = later_earlier y s l.key n b.earlier;
      later = λ i x le e. b.later (suc i) x (omega (arith, le)) e;
    }))

-- a lock whose key stands there joins the one that has it
pub put_set_at : (l : Lock) (s : List Lock) (n : ℕ) (h : IsHere s l.key n) → put l s ≡ set s n (record { key = h.lock.key; mode = stronger h.lock.mode l.mode })
put_set_at l [] n h = absurd (none-some h.lock h.stands)
put_set_at l (y ∷ s) zero h =
    let same : y ≡ h.lock = same_Some y h.lock h.stands in
    ap (λ (o : Ordering). put_by o l y s (put l s)) (ap (λ (x : Lock). key_cmp l.key x.key) same ∙ h.same)
    ∙ ap (λ (x : Lock). record { key = x.key; mode = stronger x.mode l.mode } ∷ s) same
put_set_at l (y ∷ s) (suc n) h =
    ap (λ (o : Ordering). put_by o l y s (put l s)) (h.earlier 0 y (omega arith) refl)
    ∙ ap (λ (x : List Lock). y ∷ x) (put_set_at l s n (record { lock = h.lock; stands = h.stands; same = h.same; earlier = later_earlier y s l.key n h.earlier }))

-- a join with one more lock
pub join_more : (s locks : List Lock) (l : Lock) → join s (locks ++ l ∷ []) ≡ put l (join s locks)
join_more s [] l = refl
join_more s (x ∷ locks) l = join_more (put x s) locks l

-- a lock that has the key is made stronger: u is the set as it stands, x the lock at its place, and y what becomes of it
pub put_here : (u s : List Lock) (key : List ℕ) (mode : LockMode) (n : ℕ) (x y : Lock) → u ≡ s → IsHere s key n → x ≡ get_or u n x → y ≡ record { key = x.key; mode = stronger x.mode mode }
    → set u n y ≡ put (record { key = key; mode = mode }) s
put_here u s key mode n x y e h at is =
    let found : x ≡ h.lock = at ∙ ap (λ (v : List Lock). get_or v n x) e ∙ get_or_from_slice_get s n h.lock x h.stands in
    ap (λ (v : List Lock). set v n y) e
    ∙ ap (set s n) (is ∙ ap (λ (v : Lock). record { key = v.key; mode = stronger v.mode mode }) found)
    ∙ sym (put_set_at (record { key = key; mode = mode }) s n h)

-- it keeps its order
pub set_here : (u s : List Lock) (l : Lock) → IsLockSet u → u ≡ s → (v : List Lock) → v ≡ put l s → IsLockSet v
set_here u s l sound e v is = subst IsLockSet (sym is) (put_set l s (subst IsLockSet e sound))

pub put_before : (u s : List Lock) (l : Lock) (n : ℕ) → u ≡ s → IsBefore s l.key n → insert u n l ≡ put l s
put_before u s l n e b = ap (λ (v : List Lock). insert v n l) e ∙ sym (put_insert l s n b)

-- one more lock of the list
pub join_next : (s locks : List Lock) (i : ℕ) (l : Lock) (before after : List Lock) → before ≡ join s (take i locks) → i < length locks → l ≡ get_or locks i l → after ≡ put l before
    → after ≡ join s (take (i + 1) locks)
join_next s locks i l before after e lt at is =
    let more : take (i + 1) locks ≡ take i locks ++ l ∷ [] = take_more_at in
    is ∙ ap (put l) e ∙ sym (join_more s (take i locks) l) ∙ ap (join s) (sym more)
  where
    take_more_at : take (i + 1) locks ≡ take i locks ++ l ∷ []
    take_more_at = grind (arith, common_steps)
