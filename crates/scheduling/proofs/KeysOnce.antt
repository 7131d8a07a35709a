-- A node holds each of its keys once, so no key has more holders than there are nodes.
use Rattle.std.proofs.Common.{◌≡◌, ℕ, zero, suc, ◌<◌, ◌≤◌, Bool, true, false, ◌==◌, List, [], length, get_or, Some, slice_get, inl, inr, sym, ap, ◌∙◌, subst, arith}
use Rattle.std.specs.declared.cmp.Ordering.TheVariants.{Less}
use Rattle.std.proofs.Math.Nat.{le_refl}
use Rattle.std.proofs.lemmas.Bool.{cases_Bool, false_from_ne_true, and_parts, eqb-true}
use Rattle.std.proofs.lemmas.Option.{slice_get-get_or, get_or_from_slice_get}
use Rattle.descriptor.specs.declared.lock_mode.LockMode.{LockMode}
use Rattle.descriptor.specs.declared.lock_mode.LockMode.TheVariants.{Read}
use Rattle.descriptor.specs.Nodes.{size, bit, count_below}
use Rattle.plan_events.specs.declared.event.Event.{Event}
use Rattle.plan_events.specs.declared.outcome.Reply.{Reply}
use Rattle.resource_locks.specs.LockSets.{key_cmp}
use Rattle.resource_locks.specs.Plans.{number_of, PlanParts, held_of, IsPlan}
use Rattle.resource_locks.proofs.Places.{in_order}
use Rattle.resource_locks.proofs.SetLaws.{not_less}
use Rattle.resource_locks.proofs.Numbering.{same_number}
use Rattle.scheduling.specs.declared.lock_word.LockWord.TheVariants.{Readers}
use Rattle.scheduling.specs.declared.task.Opening.{Opening}
use Rattle.scheduling.specs.declared.task.Opening.TheVariants.{Registering, RegisteredAt, Offering, Noticing, Locking, Weighed, Backing, Beginning, StartedAt, Awaiting, Admitting, Guarding}
use Rattle.scheduling.specs.declared.task.Closing.{Closing}
use Rattle.scheduling.specs.declared.task.Closing.TheVariants.{AwaitingAfter, Ending, FinishedAt, SkippedAt, Raising, Giving, Settling, Looking, Passing, CountingOff}
use Rattle.scheduling.specs.State.{State, lock_at}
use Rattle.scheduling.specs.Choices.{lock_of, key_place, key_at, mode_at, keys_count}
use Rattle.scheduling.specs.Inside.Stages.{How, Stage, Unseen, Offered, OpenedBy, InHand, Waiting, ClosedBy, Over, picture}
use Rattle.scheduling.specs.Inside.Invariant.{same_mode, is_key, keys_in, sum_below, holders, holders_by, OpeningOk, ClosingOk, ShapeOk, Holds}
use Rattle.scheduling.proofs.Spares.{count_zero}

pub own_key : (p : PlanParts) (n i : ℕ) → i < keys_count p n → slice_get (held_of p n) i ≡ Some (lock_of p n i)
own_key p n i inside = slice_get-get_or (held_of p n) i (record { key = []; mode = Read }) inside

-- Each of a node's keys has a place among those of the plan,
pub key_placed : (p : PlanParts) (n i : ℕ) → IsPlan p → i < keys_count p n → key_at p n i < length p.keys
unfolding key_place
key_placed p n i plan inside = plan.numbered n (lock_of p n i).key (lock_of p n i).mode (i, own_key p n i inside)

-- and two of them have two places.
pub key_once : (p : PlanParts) (n i j : ℕ) → IsPlan p → i < j → j < keys_count p n → key_at p n i ≡ key_at p n j → ⊥
unfolding key_place
key_once p n i j plan lt inside same =
    let before : i < keys_count p n = omega (arith, lt, inside) in
    let one = same_number p.keys (lock_of p n i).key (lock_of p n j).key (key_placed p n i plan before) (key_placed p n j plan inside) same in
    let less = in_order (held_of p n) i j (lock_of p n i) (lock_of p n j) (plan.sets n) lt (own_key p n i before) (own_key p n j inside) in
    not_less (lock_of p n j).key (subst (λ (k : List ℕ). key_cmp k (lock_of p n j).key ≡ Less) one less)

-- a test that no two numbers pass
count_once : (q : ℕ → Bool) (n : ℕ) → ((i j : ℕ) → i < j → j < n → q i ≡ true → q j ≡ true → ⊥) → count_below q n ≤ 1
count_once q zero apart = omega arith
count_once q (suc n) apart =
    elim (cases_Bool (q n)) [
      | inl t ↦ (let a : bit (q n) ≡ 1 = ap bit t in
          let b = count_zero q n (λ k lt. false_from_ne_true (q k) (λ u. apart k n lt (omega arith) u t)) in
          omega (arith, a, b))
      | inr f ↦ (let a : bit (q n) ≡ 0 = ap bit f in
          let b = count_once q n (λ i j lt inside. apart i j lt (omega (arith, inside))) in
          omega (arith, a, b))
    ]

sum_few : (f : ℕ → ℕ) (n : ℕ) → ((k : ℕ) → k < n → f k ≤ 1) → sum_below f n ≤ n
sum_few f zero each = omega arith
sum_few f (suc n) each = (let a = each n (omega arith) in let b = sum_few f n (λ k lt. each k (omega (arith, lt))) in omega (arith, a, b))

-- A node holds no more keys than are its own.
opening_keys : (p : PlanParts) (replies : ℕ → List Reply) (h : List Event) (n w : ℕ) (d : Opening) → OpeningOk p replies h n d → (picture p n (OpenedBy w d)).keys ≤ keys_count p n
opening_keys p replies h n w (Locking i) ok = (let lt = ok.0 in omega (arith, lt))
opening_keys p replies h n w (Weighed i word) ok = (let lt = ok.0 in omega (arith, lt))
opening_keys p replies h n w (Backing i) ok = ok
opening_keys p replies h n w Registering ok = omega arith
opening_keys p replies h n w (RegisteredAt i) ok = omega arith
opening_keys p replies h n w Offering ok = omega arith
opening_keys p replies h n w Noticing ok = omega arith
opening_keys p replies h n w (Beginning true) ok = omega arith
opening_keys p replies h n w (Beginning false) ok = le_refl (keys_count p n)
opening_keys p replies h n w (StartedAt i) ok = le_refl (keys_count p n)
opening_keys p replies h n w Awaiting ok = le_refl (keys_count p n)
opening_keys p replies h n w (Admitting c) ok = le_refl (keys_count p n)
opening_keys p replies h n w Guarding ok = le_refl (keys_count p n)

closing_keys : (p : PlanParts) (replies : ℕ → List Reply) (h : List Event) (n w c : ℕ) (d : Closing) (how : How) → ClosingOk p replies h n d how → (picture p n (ClosedBy w c d how)).keys ≤ keys_count p n
closing_keys p replies h n w c (Giving i) how ok = ok
closing_keys p replies h n w c AwaitingAfter how ok = le_refl (keys_count p n)
closing_keys p replies h n w c (Ending status) how ok = le_refl (keys_count p n)
closing_keys p replies h n w c (FinishedAt i status) how ok = le_refl (keys_count p n)
closing_keys p replies h n w c Raising how ok = le_refl (keys_count p n)
closing_keys p replies h n w c (SkippedAt i) how ok = omega arith
closing_keys p replies h n w c Settling how ok = omega arith
closing_keys p replies h n w c (Looking m) how ok = omega arith
closing_keys p replies h n w c (Passing m o) how ok = omega arith
closing_keys p replies h n w c CountingOff how ok = omega arith

stage_keys : (p : PlanParts) (replies : ℕ → List Reply) (h : List Event) (n : ℕ) (st : Stage) → ShapeOk p replies h n st → (picture p n st).keys ≤ keys_count p n
stage_keys p replies h n Unseen ok = omega arith
stage_keys p replies h n (Offered o) ok = omega arith
stage_keys p replies h n (OpenedBy w d) ok = opening_keys p replies h n w d ok
stage_keys p replies h n (InHand w) ok = le_refl (keys_count p n)
stage_keys p replies h n (Waiting c result) ok = le_refl (keys_count p n)
stage_keys p replies h n (ClosedBy w c d how) ok = closing_keys p replies h n w c d how ok
stage_keys p replies h n (Over how) ok = omega arith

-- so it holds a key once
held_once : (p : PlanParts) (n k : ℕ) (mode : LockMode) (many : ℕ) → IsPlan p → many ≤ keys_count p n → keys_in p k mode n many ≤ 1
unfolding keys_in
held_once p n k mode many plan few =
    count_once (is_key p k mode n) many (λ i j lt inside a b.
    let x : key_at p n i ≡ k = eqb-true (key_at p n i) k (and_parts (key_at p n i == k) (same_mode (mode_at p n i) mode) a).0 in
    let y : key_at p n j ≡ k = eqb-true (key_at p n j) k (and_parts (key_at p n j == k) (same_mode (mode_at p n j) mode) b).0 in
    key_once p n i j plan lt (omega (arith, inside, few)) (x ∙ sym y))

module _ (p : PlanParts) (plan : IsPlan p) (replies : ℕ → List Reply) (s : State) (g : ℕ → Stage) (h : Holds p replies s g) where
  -- No more nodes hold a key than there are.
  pub holders_few : (k : ℕ) (mode : LockMode) → holders p g k mode ≤ size p.tree
  unfolding holders
  holders_few k mode =
      sum_few (λ n. keys_in p k mode n (picture p n (g n)).keys) (size p.tree)
      (λ n lt. held_once p n k mode (picture p n (g n)).keys plan (stage_keys p replies s.published n (g n) (h.shapes n lt)))

  pub readers_few : (k n : ℕ) → slice_get s.locks k ≡ Some (Readers n) → n ≤ size p.tree
  readers_few k n q =
      let word : lock_at s k ≡ Readers n = get_or_from_slice_get s.locks k (Readers n) (Readers 0) q in
      let held : holders p g k Read ≡ n = h.locks.counted k Read ∙ ap (holders_by Read) word in
      let few = holders_few k Read in
      omega (arith, held, few)
