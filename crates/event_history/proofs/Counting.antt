-- The registered spares of a factory are its first ones, so their number tells which they are.
use Rattle.std.proofs.Common.{◌≡◌, ℕ, zero, suc, ◌<◌, ◌≤◌, Bool, true, false, ◌&&◌, ltb, min, List, [], ◌∷◌, take, Some, slice_get, inl, inr, refl, sym, ap, ◌∙◌, subst, arith}
use Rattle.std.proofs.lemmas.Option.{none-some}
use Rattle.std.proofs.lemmas.Bool.{cases_Bool, cases_lt, cases_eq, and_parts, and_from, lt-ltb, le-ltb}
use Rattle.descriptor.specs.Nodes.{size, IsChild, is_child, bit, count_below, is_spare_at}
use Rattle.descriptor.proofs.Counts.{count_grows}
use Rattle.plan_events.specs.declared.event.EventKind.{EventKind}
use Rattle.plan_events.specs.declared.event.EventKind.TheVariants.{Registered}
use Rattle.plan_events.specs.declared.event.Event.{Event}
use Rattle.plan_events.specs.declared.outcome.Reply.{Reply}
use Rattle.resource_locks.specs.Plans.{PlanParts}
use Rattle.event_history.specs.Plans.{IsElder, is_spare_of, spare_count, rank}
use Rattle.event_history.specs.Inside.Following.{registered_in}
use Rattle.event_history.specs.Places.{StandsBefore, has}
use Rattle.event_history.specs.History.{IsLegal, registered_before}
use Rattle.event_history.proofs.Places.{has_stands, stands_has, before_more}
use Rattle.event_history.proofs.Trees.{is_child_test, test_is_child}

-- where each number that passes one test passes another, as many pass
pub count_le : (q r : ℕ → Bool) (n : ℕ) → ((m : ℕ) → m < n → q m ≡ true → r m ≡ true) → count_below q n ≤ count_below r n
count_le q r zero each = omega arith
count_le q r (suc n) each =
    let less = count_le q r n (λ m lt. each m (omega (arith, lt))) in
    elim (cases_Bool (q n)) [
      | inl t ↦ (let a : bit (q n) ≡ 1 = ap bit t in let b : bit (r n) ≡ 1 = ap bit (each n (omega arith) t) in omega (arith, less, a, b))
      | inr f ↦ (let a : bit (q n) ≡ 0 = ap bit f in omega (arith, less, a))
    ]

-- where none passes from a number on, the count stays
pub count_stays : (q : ℕ → Bool) (m n : ℕ) → m ≤ n → ((x : ℕ) → m ≤ x → x < n → q x ≡ false) → count_below q n ≡ count_below q m
count_stays q m zero le none = let is : m ≡ 0 = omega (arith, le) in rw is refl
count_stays q m (suc n) le none =
    elim (cases_eq m (suc n)) [
      | inl s ↦ rw s refl
      | inr ne ↦ (let a : bit (q n) ≡ 0 = ap bit (none n (omega (arith, le, ne)) (omega arith)) in
          let less = count_stays q m n (omega (arith, le, ne)) (λ x low lt. none x low (omega (arith, lt))) in omega (arith, less, a))
    ]

-- an element of a beginning
pub get_take : {X : Type 0} (h : List X) (i j : ℕ) (e : X) → slice_get (take i h) j ≡ Some e → (j < i) × (slice_get h j ≡ Some e)
get_take h zero j e q = absurd (none-some e q)
get_take [] (suc i) j e q = absurd (none-some e q)
get_take (x ∷ h) (suc i) zero e q = (omega arith, q)
get_take (x ∷ h) (suc i) (suc j) e q = (let r = get_take h i j e q in (omega (arith, r.0), r.1))

pub take_get : {X : Type 0} (h : List X) (i j : ℕ) (e : X) → j < i → slice_get h j ≡ Some e → slice_get (take i h) j ≡ Some e
take_get h zero j e lt q = absurd (omega (arith, lt))
take_get [] (suc i) j e lt q = absurd (none-some e q)
take_get (x ∷ h) (suc i) zero e lt q = q
take_get (x ∷ h) (suc i) (suc j) e lt q = take_get h i j e (omega (arith, lt)) q

pub has_front : (k : EventKind) (n i : ℕ) (h : List Event) → has k n (take i h) ≡ true → StandsBefore h i k n
has_front k n i h q =
    let s = has_stands k n (take i h) q in
    let r = get_take h i s.0 s.1.event s.1.here in
    record { place = s.0; before = r.0; stands = record { event = s.1.event; here = r.1; kind = s.1.kind; node = s.1.node } }

pub front_has : (k : EventKind) (n i : ℕ) (h : List Event) → StandsBefore h i k n → has k n (take i h) ≡ true
front_has k n i h s = stands_has k n (take i h) s.place s.stands.event (take_get h i s.place s.stands.event s.before s.stands.here) s.stands.kind s.stands.node

module _ (p : PlanParts) (replies : ℕ → List Reply) (workers : ℕ) (h : List Event) (legal : IsLegal p replies workers h) (f i : ℕ) where
  -- whether spare c of f is registered before place i
  abbrev is_in : ℕ → Bool
  is_in c = is_spare_of p f c && has Registered c (take i h)

  child_of : (c : ℕ) → c < size p.tree → is_spare_of p f c ≡ true → IsChild p.tree f c
  child_of c lt q = is_child_test p.tree f c lt (and_parts (is_child p.tree f c) (is_spare_at p.tree c) q).0

  -- with a spare that is registered, so are its elders
  downward : (c d : ℕ) → c < d → d < size p.tree → is_spare_of p f c ≡ true → is_in d ≡ true → is_in c ≡ true
  downward c d lt inside q r =
      let t = and_parts (is_spare_of p f d) (has Registered d (take i h)) r in
      let s = has_front Registered d i h t.1 in
      let elder : IsElder p.tree c d = record { parent = f; elder = child_of c (omega (arith, lt, inside)) q; younger = child_of d inside t.0; before = lt } in
      let before : s.place < i = s.before in
      and_from (is_spare_of p f c) (has Registered c (take i h)) q (front_has Registered c i h (before_more (omega (arith, before)) (legal.elder_registered s.place c d s.stands elder)))

  -- a spare that is registered has a smaller rank than their number
  pub rank_less : (c : ℕ) → is_spare_at p.tree c ≡ true → IsChild p.tree f c → StandsBefore h i Registered c → rank p c < registered_before p h i f
  rank_less c spare ch s =
      let same : rank p c ≡ count_below (is_spare_of p f) c = ap (λ (x : ℕ). count_below (is_spare_of p x) c) ch.parent in
      let is : is_spare_of p f c ≡ true = and_from (is_child p.tree f c) (is_spare_at p.tree c) (test_is_child p.tree f c ch) spare in
      let here : is_in c ≡ true = and_from (is_spare_of p f c) (has Registered c (take i h)) is (front_has Registered c i h s) in
      let less : count_below (is_spare_of p f) c ≤ count_below is_in c = count_le (is_spare_of p f) is_in c (λ m lt q. downward m c lt ch.inside q here) in
      let one : bit (is_in c) ≡ 1 = ap bit here in
      omega (arith, same, less, one, count_grows is_in (suc c) (size p.tree) (suc_le c ch.inside))
    where
      suc_le : (m : ℕ) → m < size p.tree → suc m ≤ size p.tree
      suc_le m lt = omega (arith, lt)

  -- and one that is not has no smaller one
  pub rank_most : (c : ℕ) → is_spare_at p.tree c ≡ true → IsChild p.tree f c → (StandsBefore h i Registered c → ⊥) → registered_before p h i f ≤ rank p c
  rank_most c spare ch none =
      let same : rank p c ≡ count_below (is_spare_of p f) c = ap (λ (x : ℕ). count_below (is_spare_of p x) c) ch.parent in
      let stays : count_below is_in (size p.tree) ≡ count_below is_in c = count_stays is_in c (size p.tree) (le ch.inside) later in
      let less : count_below is_in c ≤ count_below (is_spare_of p f) c = count_le is_in (is_spare_of p f) c (λ m lt q. (and_parts (is_spare_of p f m) (has Registered m (take i h)) q).0) in
      omega (arith, same, stays, less)
    where
      le : c < size p.tree → c ≤ size p.tree
      le lt = omega (arith, lt)

      is : is_spare_of p f c ≡ true
      is = and_from (is_child p.tree f c) (is_spare_at p.tree c) (test_is_child p.tree f c ch) spare

      unseen : is_in c ≡ true → ⊥
      unseen q = none (has_front Registered c i h (and_parts (is_spare_of p f c) (has Registered c (take i h)) q).1)

      later : (x : ℕ) → c ≤ x → x < size p.tree → is_in x ≡ false
      later x low lt =
          elim (cases_Bool (is_in x)) [
            | inr f' ↦ f'
            | inl t ↦ elim (cases_eq c x) [
              | inl s ↦ absurd (unseen (subst (λ (y : ℕ). is_in y ≡ true) (sym s) t))
              | inr ne ↦ absurd (unseen (downward c x (omega (arith, low, ne)) lt is t))
            ]
          ]

  -- there are no more than all
  pub registered_most : registered_before p h i f ≤ spare_count p f
  registered_most = count_le is_in (is_spare_of p f) (size p.tree) (λ m lt q. (and_parts (is_spare_of p f m) (has Registered m (take i h)) q).0)

-- a spare's rank is below the number of all
pub rank_below : (p : PlanParts) (f c : ℕ) → is_spare_at p.tree c ≡ true → IsChild p.tree f c → rank p c < spare_count p f
rank_below p f c spare ch =
    let same : rank p c ≡ count_below (is_spare_of p f) c = ap (λ (x : ℕ). count_below (is_spare_of p x) c) ch.parent in
    let one : bit (is_spare_of p f c) ≡ 1 = ap bit (and_from (is_child p.tree f c) (is_spare_at p.tree c) (test_is_child p.tree f c ch) spare) in
    let inside : c < size p.tree = ch.inside in
    omega (arith, same, one, count_grows (is_spare_of p f) (suc c) (size p.tree) (omega (arith, inside)))

-- where the numbers that pass a test are the first k of those that pass another, they are k
first_ones : (s r : ℕ → Bool) (k n : ℕ) → ((c : ℕ) → c < n → s c ≡ true → r c ≡ ltb (count_below s c) k) → count_below (λ c. s c && r c) n ≡ min (count_below s n) k
first_ones s r k zero each = omega arith
first_ones s r k (suc n) each =
    let less = first_ones s r k n (λ c lt. each c (omega (arith, lt))) in
    elim (cases_Bool (s n)) [
      | inr f ↦ (let a : bit (s n) ≡ 0 = ap bit f in let b : bit (s n && r n) ≡ 0 = ap (λ (x : Bool). bit (x && r n)) f in omega (arith, less, a, b))
      | inl t ↦ (let a : bit (s n) ≡ 1 = ap bit t in
          let b : bit (s n && r n) ≡ bit (r n) = ap (λ (x : Bool). bit (x && r n)) t in
          elim (cases_lt (count_below s n) k) [
            | inl lt ↦ (let c : bit (r n) ≡ 1 = ap bit (each n (omega arith) t ∙ lt-ltb (count_below s n) k lt) in omega (arith, less, a, b, c, lt))
            | inr le ↦ (let c : bit (r n) ≡ 0 = ap bit (each n (omega arith) t ∙ le-ltb (count_below s n) k le) in omega (arith, less, a, b, c, le))
          ])
    ]

-- a factory whose spares of rank below k are registered, and no others, has k registered spares
pub registered_is : (p : PlanParts) (h : List Event) (f k : ℕ) → k ≤ spare_count p f → ((c : ℕ) → IsChild p.tree f c → is_spare_at p.tree c ≡ true → has Registered c h ≡ ltb (rank p c) k) → registered_in p h f ≡ k
registered_is p h f k le each =
    let all = first_ones (is_spare_of p f) (λ c. has Registered c h) k (size p.tree) (λ c lt q.
    let t = and_parts (is_child p.tree f c) (is_spare_at p.tree c) q in
    let ch = is_child_test p.tree f c lt t.0 in
    each c ch t.1 ∙ ap (λ (x : ℕ). ltb (count_below (is_spare_of p x) c) k) ch.parent) in
    omega (arith, all, le)
