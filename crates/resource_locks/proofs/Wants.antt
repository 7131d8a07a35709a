-- In which mode lists of locks want a key.
use Rattle.std.proofs.Common.{◌≡◌, ℕ, zero, suc, Bool, true, false, List, [], ◌∷◌, cond, Option, Some, None, slice_get, inl, inr, ◌⊎◌, refl, sym, ap, ◌∙◌, subst}
use Rattle.std.proofs.lemmas.Bool.{cond-true, false≢true, or_cases, or_left, or_right}
use Rattle.std.proofs.lemmas.Option.{none-some, same_Some, cond_some}
use Rattle.std.proofs.lemmas.Map.Lookups.{exact_bytes}
use Rattle.std.proofs.lemmas.Slice.Eq.{bytes_eq-Decides}
use Rattle.std.specs.List.{list_any}
use Rattle.std.specs.Str.{bytes_eq}
use Rattle.std.specs.declared.cmp.Ordering.{Ordering}
use Rattle.std.specs.declared.cmp.Ordering.TheVariants.{Less, Equal, Greater}
use Rattle.descriptor.specs.declared.lock.Lock.{Lock}
use Rattle.descriptor.specs.declared.lock_mode.LockMode.{LockMode}
use Rattle.descriptor.specs.declared.lock_mode.LockMode.TheVariants.{Read, ReadWrite}
use Rattle.resource_locks.specs.Wants.{is_write, writes, stronger, either, mode_by, mode_for, HasLock}
use Rattle.resource_locks.specs.LockSets.{key_cmp, put_by, put, join, of}

pub stronger_comm : (a b : LockMode) → stronger a b ≡ stronger b a
stronger_comm Read Read = refl
stronger_comm Read ReadWrite = refl
stronger_comm ReadWrite Read = refl
stronger_comm ReadWrite ReadWrite = refl

pub either_comm : (a b : Option LockMode) → either a b ≡ either b a
either_comm None None = refl
either_comm None (Some b) = refl
either_comm (Some a) None = refl
either_comm (Some a) (Some b) = ap (λ (m : LockMode). Some m) (stronger_comm a b)

pub stronger_assoc : (a b c : LockMode) → stronger (stronger a b) c ≡ stronger a (stronger b c)
stronger_assoc Read b c = refl
stronger_assoc ReadWrite b c = refl

pub either_assoc : (a b c : Option LockMode) → either (either a b) c ≡ either a (either b c)
either_assoc None b c = refl
either_assoc (Some a) None c = refl
either_assoc (Some a) (Some b) None = refl
either_assoc (Some a) (Some b) (Some c) = ap (λ (m : LockMode). Some m) (stronger_assoc a b c)

pub either_same : (a : Option LockMode) → either a a ≡ a
either_same None = refl
either_same (Some Read) = refl
either_same (Some ReadWrite) = refl

pub either_none : (a : Option LockMode) → either a None ≡ a
either_none None = refl
either_none (Some a) = refl

-- `either` is the mode of one of the two
pub either_one : (a b : Option LockMode) (m : LockMode) → either a b ≡ Some m → (a ≡ Some m) ⊎ (b ≡ Some m)
either_one None b m e = inr e
either_one (Some a) None m e = inl e
either_one (Some Read) (Some b) m e = inr e
either_one (Some ReadWrite) (Some b) m e = inl e

-- the three modes of a, b, c in another order
either_swap : (a b c : Option LockMode) → either a (either b c) ≡ either b (either a c)
either_swap a b c = sym (either_assoc a b c) ∙ ap (λ (x : Option LockMode). either x c) (either_comm a b) ∙ either_assoc b a c

-- one test on the key gives the mode of both locks
by_one : (b : Bool) (x l : LockMode) → cond b (Some (stronger x l)) None ≡ either (cond b (Some l) None) (cond b (Some x) None)
by_one true x l = ap (λ (m : LockMode). Some m) (stronger_comm x l)
by_one false x l = refl

-- where one lock's key stands already, both are joined
by_equal : (key : List ℕ) (l x : Lock) → l.key ≡ x.key → mode_by key (record { key = x.key; mode = stronger x.mode l.mode }) ≡ either (mode_by key l) (mode_by key x)
by_equal key l x e = rw e (by_one (bytes_eq key x.key) x.mode l.mode)

put_case : (key : List ℕ) (l x : Lock) (s rest : List Lock) (o : Ordering) → o ≡ key_cmp l.key x.key → mode_for key rest ≡ either (mode_by key l) (mode_for key s)
    → mode_for key (put_by o l x s rest) ≡ either (mode_by key l) (either (mode_by key x) (mode_for key s))
put_case key l x s rest Less q e = refl
put_case key l x s rest Equal q e =
    ap (λ (m : Option LockMode). either m (mode_for key s)) (by_equal key l x (exact_bytes l.key x.key (sym q))) ∙ either_assoc (mode_by key l) (mode_by key x) (mode_for key s)
put_case key l x s rest Greater q e = ap (either (mode_by key x)) e ∙ either_swap (mode_by key x) (mode_by key l) (mode_for key s)

-- a put lock's key is wanted in its mode too, every other key as before
pub mode_put : (key : List ℕ) (l : Lock) (s : List Lock) → mode_for key (put l s) ≡ either (mode_by key l) (mode_for key s)
mode_put key l [] = refl
mode_put key l (x ∷ s) = put_case key l x s (put l s) (key_cmp l.key x.key) refl (mode_put key l s)

-- a join wants each key in the stronger of the two modes
pub mode_join : (key : List ℕ) (s locks : List Lock) → mode_for key (join s locks) ≡ either (mode_for key s) (mode_for key locks)
mode_join key s [] = sym (either_none (mode_for key s))
mode_join key s (l ∷ more) =
    mode_join key (put l s) more
    ∙ ap (λ (m : Option LockMode). either m (mode_for key more)) (mode_put key l s ∙ either_comm (mode_by key l) (mode_for key s))
    ∙ either_assoc (mode_for key s) (mode_by key l) (mode_for key more)

pub mode_of : (key : List ℕ) (locks : List Lock) → mode_for key (of locks) ≡ mode_for key locks
mode_of key locks = mode_join key [] locks

-- at least as strong a mode as this one
abbrev pub AtLeast : LockMode → Option LockMode → Type 0
AtLeast m None = ⊥
AtLeast Read (Some b) = Unit {0}
AtLeast ReadWrite (Some Read) = ⊥
AtLeast ReadWrite (Some ReadWrite) = Unit {0}

pub at_least_itself : (m : LockMode) → AtLeast m (Some m)
at_least_itself Read = tt
at_least_itself ReadWrite = tt

pub at_least_left : (m : LockMode) (a b : Option LockMode) → AtLeast m a → AtLeast m (either a b)
at_least_left m None b h = absurd h
at_least_left m (Some a) None h = h
at_least_left Read (Some a) (Some b) h = tt
at_least_left ReadWrite (Some Read) (Some b) h = absurd h
at_least_left ReadWrite (Some ReadWrite) (Some b) h = tt

pub at_least_right : (m : LockMode) (a b : Option LockMode) → AtLeast m b → AtLeast m (either a b)
at_least_right m a b h = subst (AtLeast m) (either_comm b a) (at_least_left m b a h)

pub at_least_write : (o : Option LockMode) → AtLeast ReadWrite o → o ≡ Some ReadWrite
at_least_write None h = absurd h
at_least_write (Some Read) h = absurd h
at_least_write (Some ReadWrite) h = refl

pub at_least_read : (o : Option LockMode) → AtLeast Read o → (m : LockMode) × (o ≡ Some m)
at_least_read None h = absurd h
at_least_read (Some m) h = (m, refl)

pub same_key : (a b : List ℕ) → bytes_eq a b ≡ true → a ≡ b
same_key a b e = (bytes_eq-Decides a b).0 e

pub key_same : (a b : List ℕ) → a ≡ b → bytes_eq a b ≡ true
key_same a b e = (bytes_eq-Decides a b).1 e

mode_by_from : (key : List ℕ) (l : Lock) (m : LockMode) → mode_by key l ≡ Some m → l ≡ record { key = key; mode = m }
mode_by_from key l m e =
    let r = cond_some (bytes_eq key l.key) l.mode m e in
    ap (λ (x : List ℕ). record { key = x; mode = l.mode }) (sym (same_key key l.key r.0)) ∙ ap (λ (x : LockMode). record { key = key; mode = x }) r.1

mode_by_itself : (key : List ℕ) (m : LockMode) → mode_by key (record { key = key; mode = m }) ≡ Some m
mode_by_itself key m = cond-true (bytes_eq key key) (Some m) None (key_same key key refl)

here : (l : Lock) (s : List Lock) (key : List ℕ) (m : LockMode) → l ≡ record { key = key; mode = m } → HasLock (l ∷ s) key m
here l s key m e = (zero, ap (λ (x : Lock). Some x) e)

there : (l : Lock) (s : List Lock) (key : List ℕ) (m : LockMode) → HasLock s key m → HasLock (l ∷ s) key m
there l s key m h = (suc h.0, h.1)

pub first_or_later : (l : Lock) (s : List Lock) (key : List ℕ) (m : LockMode) → HasLock (l ∷ s) key m → (l ≡ record { key = key; mode = m }) ⊎ HasLock s key m
first_or_later l s key m (zero, e) = inl (same_Some l (record { key = key; mode = m }) e)
first_or_later l s key m (suc i, e) = inr (i, e)

-- a list has a lock with the key in the mode in which it wants it
pub has_wanted : (s : List Lock) (key : List ℕ) (m : LockMode) → mode_for key s ≡ Some m → HasLock s key m
has_wanted [] key m e = absurd (none-some m e)
has_wanted (l ∷ s) key m e =
    elim (either_one (mode_by key l) (mode_for key s) m e) [
      | inl a ↦ here l s key m (mode_by_from key l m a)
      | inr b ↦ there l s key m (has_wanted s key m b)
    ]

-- it wants a key at least in the mode of each of its locks
pub wants_all : (s : List Lock) (key : List ℕ) (m : LockMode) → HasLock s key m → AtLeast m (mode_for key s)
wants_all [] key m h = absurd (none-some (record { key = key; mode = m }) h.1)
wants_all (l ∷ s) key m h =
    elim (first_or_later l s key m h) [
      | inl e ↦ at_least_left m (mode_by key l) (mode_for key s) (subst (AtLeast m) (sym (ap (mode_by key) e ∙ mode_by_itself key m)) (at_least_itself m))
      | inr later ↦ at_least_right m (mode_by key l) (mode_for key s) (wants_all s key m later)
    ]

pub any_from : (q : Lock → Bool) (s : List Lock) (i : ℕ) (l : Lock) → slice_get s i ≡ Some l → q l ≡ true → list_any q s ≡ true
any_from q [] i l e t = absurd (none-some l e)
any_from q (x ∷ s) zero l e t = or_left (q x) (list_any q s) (ap q (same_Some x l e) ∙ t)
any_from q (x ∷ s) (suc i) l e t = or_right (q x) (list_any q s) (any_from q s i l e t)

pub any_use : (q : Lock → Bool) (s : List Lock) → list_any q s ≡ true → (i : ℕ) × (l : Lock) × ((slice_get s i ≡ Some l) × (q l ≡ true))
any_use q [] t = absurd (false≢true t)
any_use q (x ∷ s) t =
    elim (or_cases (q x) (list_any q s) t) [
      | inl h ↦ (zero, x, (refl, h))
      | inr later ↦ (let r = any_use q s later in (suc r.0, r.1, r.2))
    ]

pub is_write_use : (m : LockMode) → is_write m ≡ true → m ≡ ReadWrite
is_write_use Read t = absurd (false≢true t)
is_write_use ReadWrite t = refl

-- a list of locks that writes has a key in READ_WRITE
pub writes_use : (s : List Lock) → writes s ≡ true → (key : List ℕ) × HasLock s key ReadWrite
writes_use s t =
    let r = any_use (λ l. is_write l.mode) s t in
    (r.1.key, (r.0, r.2.0 ∙ ap (λ (m : LockMode). Some (record { key = r.1.key; mode = m })) (is_write_use r.1.mode r.2.1)))

pub writes_from : (s : List Lock) (key : List ℕ) → HasLock s key ReadWrite → writes s ≡ true
writes_from s key h = any_from (λ l. is_write l.mode) s h.0 (record { key = key; mode = ReadWrite }) h.1 refl
