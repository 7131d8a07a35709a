-- How the lists and the rooms of listeners change one listener after the other.
use Rattle.std.proofs.Common.{◌≡◌, ℕ, true, false, ltb, Some, slice_get, option_map, zero, suc, ◌+◌, ◌-◌, ◌<◌, ◌≤◌, List, [], ◌∷◌, ◌++◌, length, map, take, drop, set, get_or, refl, sym, ap, subst, ◌∙◌, arith}
use Rattle.std.specs.List.{All, AllWithin}
use Rattle.std.proofs.lemmas.Bool.{ltb-true}
use Rattle.std.proofs.lemmas.Option.{slice_get-map, slice_get_read}
use Rattle.std.proofs.Math.Seq.{map-set_same}
use Rattle.std.proofs.lemmas.List.{length-map, length-set, map-set, get_or-map, get_or-drop, get_or-append_right, length-take-le, take_all, append-nil, map-id}
use Rattle.std.proofs.lemmas.List.Edits.{map_over_more}
use Rattle.std.proofs.lemmas.List.Elements.{AllWithin-more_set, All-more, All-same}

-- m of each of the first i is changed by f, and of the others as it was
pub record AreChanged {L X : Type 0} (m : L → X) (f : X → X) (i : ℕ) (old items : List L) : Type 0 where
  pub same : length items ≡ length old
  pub each : map m items ≡ map f (take i (map m old)) ++ drop i (map m old)

drop_nil : {X : Type 0} (i : ℕ) → drop {A = X} i [] ≡ []
drop_nil zero = refl
drop_nil (suc i) = refl

drop_past : {X : Type 0} (i : ℕ) (xs : List X) → length xs ≤ i → drop i xs ≡ []
drop_past i [] le = drop_nil i
drop_past zero (x ∷ xs) le = absurd (omega (arith, le))
drop_past (suc i) (x ∷ xs) le = drop_past i xs (omega (arith, le))

module _ {L X : Type 0} (m : L → X) (f : X → X) where
  pub changed_none : (old : List L) → AreChanged m f 0 old old
  changed_none old = record { same = refl; each = refl }

  -- one more is changed
  pub changed_more : (i : ℕ) (old items : List L) (a b : L) → AreChanged m f i old items → i < length items → a ≡ get_or items i a → m b ≡ f (m a) → AreChanged m f (i + 1) old (set items i b)
  changed_more i old items a b are inside here is =
      let within : i < length (map m old) = rw (length-map old m, ← are.same) inside in
      record {
        same = length-set items i b ∙ are.same;
        each = map-set m items i b ∙ ap (λ x. set (map m items) i x) is
            ∙ map_over_more f (map m old) (map m items) i (m a) within are.each (ap m here ∙ sym (get_or-map m items i a _ inside));
      }

  -- the next is as it was
  pub changed_next : (i : ℕ) (old items : List L) (d : L) → i < length items → AreChanged m f i old items → m (get_or items i d) ≡ m (get_or old i d)
  changed_next i old items d inside are =
      let within : i < length old = rw (← are.same) inside in
      let len : length (map f (take i (map m old))) ≡ i = length-map (take i (map m old)) f ∙ length-take-le i (map m old) (rw (length-map old m) (omega (arith, within))) in
      sym (get_or-map m items i d (m d) inside) ∙ ap (λ xs. get_or xs i (m d)) are.each
      ∙ get_or-append_right (map f (take i (map m old))) (drop i (map m old)) i i (m d) len (omega arith)
      ∙ get_or-drop i (map m old) (i - i) (m d) ∙ ap (λ n. get_or (map m old) n (m d)) (omega arith) ∙ get_or-map m old i d (m d) within

  -- in the end all are
  pub changed_all : (i : ℕ) (old items : List L) → length items ≤ i → AreChanged m f i old items → map m items ≡ map f (map m old)
  changed_all i old items past are =
      let gone : length (map m old) ≤ i = rw (length-map old m, ← are.same) past in
      are.each ∙ ap (λ xs. map f xs ++ drop i (map m old)) (take_all i (map m old) gone) ∙ ap (λ xs. map f (map m old) ++ xs) (drop_past i (map m old) gone) ∙ append-nil (map f (map m old))

-- m of each is as it was, and the first i have P
pub record AreReady {L X : Type 0} (m : L → X) (P : L → Type 0) (i : ℕ) (old items : List L) : Type 0 where
  pub same : map m items ≡ map m old
  pub ready : AllWithin P items 0 i

module _ {L X : Type 0} (m : L → X) (P : L → Type 0) where
  -- one is put in place of another that m cannot tell from it
  pub ready_same : (i : ℕ) (old items : List L) (a b : L) → AreReady m P i old items → a ≡ get_or items i a → m b ≡ m a → map m (set items i b) ≡ map m old
  ready_same i old items a b are here is = map-set_same m items i b a (is ∙ ap m here) ∙ are.same

  pub ready_more : (i : ℕ) (old items : List L) (a b : L) → AreReady m P i old items → i < length items → a ≡ get_or items i a → m b ≡ m a → P b → AreReady m P (i + 1) old (set items i b)
  ready_more i old items a b are inside here is p = record {
    same = ready_same i old items a b are here is;
    ready = AllWithin-more_set items i b inside P are.ready p;
  }

module _ {L : Type 0} (items : List L) (P : L → Type 0) where
  -- one more has P
  pub all_more : (seen : List L) (i : ℕ) (b : L) → seen ≡ items → i < length items → b ≡ get_or seen i b → P b → All P (take i items) → All P (take (i + 1) items)
  all_more seen i b same inside is p all = All-more P items i b inside all (subst P (is ∙ ap (λ xs. get_or xs i b) same) p)

  -- in the end all have
  pub all_of : (i : ℕ) → length items ≤ i → All P (take i items) → All P items
  all_of i past all = All-same P items (take i items) (sym (take_all i items past)) all

-- the next has room, as it had at first
pub next_has_room : {L : Type 0} (old items : List L) (m : L → ℕ) (f : ℕ → ℕ) (i : ℕ) (b : L) → AreChanged m f i old items → i < length items → b ≡ get_or items i b → All (λ l. 1 ≤ m l) old → 0 < m b
next_has_room old items m f i b are inside is all =
    let here : m (get_or items i b) ≡ m (get_or old i b) = changed_next m f i old items b inside are in
    let first : 1 ≤ m (get_or old i b) = all i b (rw (← are.same) inside) in
    let same : m b ≡ m (get_or items i b) = ap m is in
    omega (arith, here, first, same)

-- lists of the same m, changed alike, have as many elements
same_len : {L X : Type 0} (m : L → X) (f : X → X) (old new : List L) → map m new ≡ map f (map m old) → length new ≡ length old
same_len m f old new same = sym (length-map new m) ∙ ap length same ∙ length-map (map m old) f ∙ length-map old m

-- m of each of the new is that of the old, changed
each_changed : {L X : Type 0} (m : L → X) (f : X → X) (old new : List L) (k : ℕ) (d : L) → map m new ≡ map f (map m old) → k < length new → m (get_or new k d) ≡ f (m (get_or old k d))
each_changed m f old new k d same lt =
    let inside : k < length old = rw (← same_len m f old new same) lt in
    let within : k < length (map m old) = rw (length-map old m) inside in
    sym (get_or-map m new k d (m d) lt) ∙ ap (λ xs. get_or xs k (m d)) same ∙ get_or-map f (map m old) k (m d) (m d) within ∙ ap f (get_or-map m old k d (m d) inside)

-- where m of all was the same, it is the same changed
pub all_changed : {L X : Type 0} (old new : List L) (m : L → X) (f : X → X) (x : X) → map m new ≡ map f (map m old) → All (λ l. m l ≡ x) old → All (λ l. m l ≡ f x) new
all_changed old new m f x same all k d lt = each_changed m f old new k d same lt ∙ ap f (all k d (rw (← same_len m f old new same) lt))

-- where all had room for one more, all have room for the others
pub all_with_room : {L : Type 0} (old new : List L) (m : L → ℕ) (n : ℕ) → map m new ≡ map (λ r. r - 1) (map m old) → All (λ l. n + 1 ≤ m l) old → All (λ l. n ≤ m l) new
all_with_room old new m n same all k d lt =
    let now : m (get_or new k d) ≡ m (get_or old k d) - 1 = each_changed m (λ r. r - 1) old new k d same lt in
    let was : n + 1 ≤ m (get_or old k d) = all k d (rw (← same_len m (λ r. r - 1) old new same) lt) in
    omega (arith, now, was)

-- m of each is as it was
pub all_kept : {L X : Type 0} (old new : List L) (m : L → X) (x : X) → map m new ≡ map m old → All (λ l. m l ≡ x) old → All (λ l. m l ≡ x) new
all_kept old new m x same all = all_changed old new m (λ y. y) x (same ∙ sym (map-id (map m old))) all

pub kept_len : {L X : Type 0} (old new : List L) (m : L → X) → map m new ≡ map m old → length new ≡ length old
kept_len old new m same = sym (length-map new m) ∙ ap length same ∙ length-map old m

-- what the one at this place was told
pub found_there : {L X : Type 0} (v : L → X) (all seen : List L) (i : ℕ) (l : L) (told : X) → seen ≡ all → true ≡ ltb i (length seen) → l ≡ get_or seen i l → told ≡ v l → slice_get (map v all) i ≡ Some told
found_there {L} v all seen i l told same inside at is =
    let lt : i < length seen = ltb-true i (length seen) (sym inside) in
    slice_get-map v all i
    ∙ ap (option_map v) (slice_get_read all (length all) i l refl (omega (arith, lt, ap length same)) (at ∙ ap (λ (ls : List L). get_or ls i l) same))
    ∙ ap Some (sym is)

pub is_inside : {L : Type 0} (all seen : List L) (i : ℕ) → seen ≡ all → true ≡ ltb i (length seen) → (true ≡ false → length all ≤ i) × (length all ≤ i → true ≡ false)
is_inside all seen i same inside =
    let lt : i < length seen = ltb-true i (length seen) (sym inside) in
    (λ e. cc, λ past. absurd (omega (arith, lt, past, ap length same)))
