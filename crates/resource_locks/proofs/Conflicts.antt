-- Two sets in conflict, looked for from the front of both.
use Rattle.std.proofs.Common.{◌≡◌, ℕ, zero, suc, ◌||◌, true, false, List, ◌∷◌, Some, ◌↔◌, ◌⊎◌, inl, inr, refl, sym, ap, ◌∙◌, subst}
use Rattle.std.proofs.lemmas.Bool.{or_cases, or_left, or_right, false≢true}
use Rattle.std.proofs.lemmas.Option.{same_Some}
use Rattle.std.proofs.lemmas.Cmp.{nat_list_cmp_total}
use Rattle.std.proofs.lemmas.Map.Lookups.{exact_bytes}
use Rattle.std.specs.declared.cmp.Ordering.TheVariants.{Less, Equal, Greater}
use Rattle.descriptor.specs.declared.lock.Lock.{Lock}
use Rattle.descriptor.specs.declared.lock_mode.LockMode.{LockMode}
use Rattle.descriptor.specs.declared.lock_mode.LockMode.TheVariants.{ReadWrite}
use Rattle.resource_locks.specs.Wants.{is_write, HasLock}
use Rattle.resource_locks.specs.LockSets.{key_cmp, IsBelowAll, IsLockSet}
use Rattle.resource_locks.specs.Conflicts.{AreInConflict}
use Rattle.resource_locks.proofs.Places.{turned}
use Rattle.resource_locks.proofs.SetLaws.{below_none}
use Rattle.resource_locks.proofs.Wants.{is_write_use, first_or_later}

-- the order of the two does not matter
pub conflict_back : (a b : List Lock) → AreInConflict a b → AreInConflict b a
conflict_back a b c = record {
  key = c.key;
  mode = c.other_mode;
  here = c.there;
  other_mode = c.mode;
  there = c.here;
  writes = elim c.writes [ inl w ↦ inr w | inr w ↦ inl w ];
}

some_writes : (a b : LockMode) → (is_write a || is_write b) ≡ true → (a ≡ ReadWrite) ⊎ (b ≡ ReadWrite)
some_writes a b t = elim (or_cases (is_write a) (is_write b) t) [ inl w ↦ inl (is_write_use a w) | inr w ↦ inr (is_write_use b w) ]

writes_some : (a b : LockMode) → (a ≡ ReadWrite) ⊎ (b ≡ ReadWrite) → (is_write a || is_write b) ≡ true
writes_some a b (inl w) = or_left (is_write a) (is_write b) (ap is_write w)
writes_some a b (inr w) = or_right (is_write a) (is_write b) (ap is_write w)

more : (l : Lock) (s : List Lock) (key : List ℕ) (m : LockMode) → HasLock s key m → HasLock (l ∷ s) key m
more l s key m h = (suc h.0, h.1)

-- two first locks of one key, of which one writes
pub met : (l r : Lock) (s u : List Lock) → key_cmp l.key r.key ≡ Equal → (is_write l.mode || is_write r.mode) ≡ true → AreInConflict (l ∷ s) (r ∷ u)
met l r s u same t = record {
  key = l.key;
  mode = l.mode;
  here = (zero, refl);
  other_mode = r.mode;
  there = (zero, ap (λ (k : List ℕ). Some (record { key = k; mode = r.mode })) (sym (exact_bytes l.key r.key same)));
  writes = some_writes l.mode r.mode t;
}

-- a key that is before the first of a set is not in it
before_first : (l r : Lock) (u : List Lock) → key_cmp l.key r.key ≡ Less → IsLockSet (r ∷ u) → (key : List ℕ) (m : LockMode) → l.key ≡ key → HasLock (r ∷ u) key m → ⊥
before_first l r u less set key m e h = below_none key (r ∷ u) m (subst (λ (x : List ℕ). IsBelowAll x (r ∷ u)) e under) h
  where
    under : IsBelowAll l.key (r ∷ u)
    under zero x f = subst (λ (z : Lock). key_cmp l.key z.key ≡ Less) (same_Some r x f) less
    under (suc i) x f = nat_list_cmp_total.trans l.key r.key x.key less (set.0 i x f)

-- the lesser of the first keys is in one of the sets alone
pub passed : (l r : Lock) (s u : List Lock) → key_cmp l.key r.key ≡ Less → IsLockSet (r ∷ u) → (AreInConflict (l ∷ s) (r ∷ u) ↔ AreInConflict s (r ∷ u))
passed l r s u less set = (forth, back)
  where
    forth : AreInConflict (l ∷ s) (r ∷ u) → AreInConflict s (r ∷ u)
    forth c = record {
      key = c.key;
      mode = c.mode;
      here = elim (first_or_later l s c.key c.mode c.here) [
        | inl e ↦ absurd (before_first l r u less set c.key c.other_mode (ap (λ (x : Lock). x.key) e) c.there)
        | inr h ↦ h
      ];
      other_mode = c.other_mode;
      there = c.there;
      writes = c.writes;
    }

    back : AreInConflict s (r ∷ u) → AreInConflict (l ∷ s) (r ∷ u)
    back c = record { key = c.key; mode = c.mode; here = more l s c.key c.mode c.here; other_mode = c.other_mode; there = c.there; writes = c.writes }

pub passed_back : (l r : Lock) (s u : List Lock) → key_cmp l.key r.key ≡ Greater → IsLockSet (l ∷ s) → (AreInConflict (l ∷ s) (r ∷ u) ↔ AreInConflict (l ∷ s) u)
passed_back l r s u greater set =
    let other = passed r l u s (turned l.key r.key Greater greater) set in
    (λ c. conflict_back u (l ∷ s) (other.0 (conflict_back (l ∷ s) (r ∷ u) c)), λ c. conflict_back (r ∷ u) (l ∷ s) (other.1 (conflict_back (l ∷ s) u c)))

-- two first locks of one key, of which none writes
pub both_passed : (l r : Lock) (s u : List Lock) → key_cmp l.key r.key ≡ Equal → (is_write l.mode || is_write r.mode) ≡ false → IsLockSet (l ∷ s) → IsLockSet (r ∷ u)
    → (AreInConflict (l ∷ s) (r ∷ u) ↔ AreInConflict s u)
both_passed l r s u same f set other = (forth, back)
  where
    k : l.key ≡ r.key
    k = exact_bytes l.key r.key same

    both_first : (c : AreInConflict (l ∷ s) (r ∷ u)) → l ≡ record { key = c.key; mode = c.mode } → r ≡ record { key = c.key; mode = c.other_mode } → ⊥
    both_first c e g = false≢true (sym f ∙ writes_some l.mode r.mode (elim c.writes [
      | inl w ↦ inl (ap (λ (x : Lock). x.mode) e ∙ w)
      | inr w ↦ inr (ap (λ (x : Lock). x.mode) g ∙ w)
    ]))

    mine_later : (c : AreInConflict (l ∷ s) (r ∷ u)) → HasLock s c.key c.mode
    mine_later c = elim (first_or_later l s c.key c.mode c.here) [
      | inl e ↦ elim (first_or_later r u c.key c.other_mode c.there) [
        | inl g ↦ absurd (both_first c e g)
        | inr h ↦ absurd (below_none c.key u c.other_mode (subst (λ (x : List ℕ). IsBelowAll x u) (sym k ∙ ap (λ (x : Lock). x.key) e) other.0) h)
      ]
      | inr h ↦ h
    ]

    theirs_later : (c : AreInConflict (l ∷ s) (r ∷ u)) → HasLock u c.key c.other_mode
    theirs_later c = elim (first_or_later r u c.key c.other_mode c.there) [
      | inl g ↦ absurd (below_none c.key s c.mode (subst (λ (x : List ℕ). IsBelowAll x s) (k ∙ ap (λ (x : Lock). x.key) g) set.0) (mine_later c))
      | inr h ↦ h
    ]

    forth : AreInConflict (l ∷ s) (r ∷ u) → AreInConflict s u
    forth c = record { key = c.key; mode = c.mode; here = mine_later c; other_mode = c.other_mode; there = theirs_later c; writes = c.writes }

    back : AreInConflict s u → AreInConflict (l ∷ s) (r ∷ u)
    back c = record { key = c.key; mode = c.mode; here = more l s c.key c.mode c.here; other_mode = c.other_mode; there = more r u c.key c.other_mode c.there; writes = c.writes }

-- what of two sets is still to be looked at: they conflict exactly where all of them does
abbrev pub Remains : List Lock → List Lock → List Lock → List Lock → Type 0
Remains one other mine theirs = IsLockSet mine × IsLockSet theirs × (AreInConflict one other ↔ AreInConflict mine theirs)

through : {A B C : Type 0} → (A ↔ B) → (B ↔ C) → (A ↔ C)
through first second = (λ a. second.0 (first.0 a), λ c. first.1 (second.1 c))

-- one turn: l and r are the first locks that were read, s and u what comes after them
module _ (one other mine theirs : List Lock) (l r : Lock) (s u : List Lock) (so_far : Remains one other mine theirs) (e : mine ≡ l ∷ s) (f : theirs ≡ r ∷ u) where
  as_read : Remains one other (l ∷ s) (r ∷ u)
  as_read = subst (Remains one other (l ∷ s)) f (subst (λ (x : List Lock). Remains one other x theirs) e so_far)

  pub less_remains : key_cmp l.key r.key ≡ Less → Remains one other s theirs
  less_remains less = subst (Remains one other s) (sym f) (as_read.0.1, as_read.1, through as_read.2 (passed l r s u less as_read.1))

  pub greater_remains : key_cmp l.key r.key ≡ Greater → Remains one other mine u
  greater_remains greater = subst (λ (x : List Lock). Remains one other x u) (sym e) (as_read.0, as_read.1.1, through as_read.2 (passed_back l r s u greater as_read.0))

  pub both_remain : key_cmp l.key r.key ≡ Equal → (is_write l.mode || is_write r.mode) ≡ false → Remains one other s u
  both_remain same peace = (as_read.0.1, as_read.1.1, through as_read.2 (both_passed l r s u same peace as_read.0 as_read.1))

  pub conflict_met : key_cmp l.key r.key ≡ Equal → (is_write l.mode || is_write r.mode) ≡ true → AreInConflict one other
  conflict_met same writes = as_read.2.1 (met l r s u same writes)
