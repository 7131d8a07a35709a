-- A factory's spares: with the next one to be registered all before it are.
use Rattle.std.proofs.Common.{◌≡◌, ℕ, zero, suc, ◌<◌, Bool, true, false, ◌&&◌, List, length, ap, refl, inl, inr, arith}
use Rattle.std.proofs.Math.Seq.{take-length}
use Rattle.std.proofs.lemmas.Bool.{cases_Bool, both_ways, and_from, and_left, and_right}
use Rattle.descriptor.specs.Nodes.{size, IsChild, is_child, is_spare_at, bit, count_below}
use Rattle.descriptor.proofs.Counts.{count_grows}
use Rattle.plan_events.specs.declared.event.EventKind.TheVariants.{Registered}
use Rattle.plan_events.specs.declared.event.Event.{Event}
use Rattle.plan_events.specs.declared.outcome.Reply.{Reply}
use Rattle.resource_locks.specs.Plans.{PlanParts}
use Rattle.event_history.specs.Plans.{is_spare_of, rank}
use Rattle.event_history.specs.Places.{has}
use Rattle.event_history.specs.History.{IsLegal, registered_before}
use Rattle.event_history.specs.Inside.Following.{registered_in}
use Rattle.event_history.proofs.Places.{has_at}
use Rattle.event_history.proofs.Trees.{test_is_child, is_child_test}
use Rattle.event_history.proofs.Counting.{rank_most}

pub rank_grows : (p : PlanParts) (f a c : ℕ) → a < c → IsChild p.tree f a → IsChild p.tree f c → is_spare_at p.tree a ≡ true → rank p a < rank p c
rank_grows p f a c lt cha chc spare =
    let ra : rank p a ≡ count_below (is_spare_of p f) a = ap (λ (x : ℕ). count_below (is_spare_of p x) a) cha.parent in
    let rc : rank p c ≡ count_below (is_spare_of p f) c = ap (λ (x : ℕ). count_below (is_spare_of p x) c) chc.parent in
    let one : bit (is_spare_of p f a) ≡ 1 = ap bit (and_from (is_child p.tree f a) (is_spare_at p.tree a) (test_is_child p.tree f a cha) spare) in
    let grows = count_grows (is_spare_of p f) (suc a) c (omega (arith, lt)) in
    omega (arith, ra, rc, one, grows)

pub elder_is_registered : (p : PlanParts) (replies : ℕ → List Reply) (workers : ℕ) (h : List Event) → IsLegal p replies workers h → (f a c : ℕ) → a < c → IsChild p.tree f a → IsChild p.tree f c → is_spare_at p.tree a ≡ true → rank p c ≡ registered_in p h f → has Registered a h ≡ true
elder_is_registered p replies workers h legal f a c lt cha chc spare next =
    elim (cases_Bool (has Registered a h)) [
      | inl t ↦ t
      | inr no' ↦ absurd (let most = rank_most p replies workers h legal f (length h) a spare cha (λ s. both_ways (has Registered a h) no' (has_at s.stands)) in
          let same : registered_before p h (length h) f ≡ registered_in p h f = ap (λ (l : List Event). count_below (λ x. is_spare_of p f x && has Registered x l) (size p.tree)) (take-length h) in
          let less = rank_grows p f a c lt cha chc spare in
          omega (arith, most, same, less, next))
    ]

pub count_zero : (q : ℕ → Bool) (n : ℕ) → ((k : ℕ) → k < n → q k ≡ false) → count_below q n ≡ 0
count_zero q zero each = refl
count_zero q (suc n) each = (let a : bit (q n) ≡ 0 = ap bit (each n (omega arith)) in let b = count_zero q n (λ k lt. each k (omega (arith, lt))) in omega (arith, a, b))

pub none_registered : (p : PlanParts) (h : List Event) (f : ℕ) → ((c : ℕ) → IsChild p.tree f c → has Registered c h ≡ false) → registered_in p h f ≡ 0
none_registered p h f none =
    count_zero (λ c. is_spare_of p f c && has Registered c h) (size p.tree) (λ c lt.
    elim (cases_Bool (is_child p.tree f c)) [
      | inl t ↦ and_right (is_spare_of p f c) (has Registered c h) (none c (is_child_test p.tree f c lt t))
      | inr no' ↦ and_left (is_spare_of p f c) (has Registered c h) (and_left (is_child p.tree f c) (is_spare_at p.tree c) no')
    ])
