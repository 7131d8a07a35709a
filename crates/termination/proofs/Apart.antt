-- Where nodes that want a key in conflict take turns, a key that is weighed is never busy.
use Rattle.std.proofs.Common.{◌≡◌, ℕ, zero, suc, ◌<◌, ◌≤◌, true, false, List, inl, inr, ◌⊎◌, refl, sym, ap, ◌∙◌, subst, arith}
use Rattle.std.proofs.Math.Nat.{le_refl}
use Rattle.std.proofs.lemmas.Bool.{cases_eq}
use Rattle.descriptor.specs.declared.lock_mode.LockMode.{LockMode}
use Rattle.descriptor.specs.declared.lock_mode.LockMode.TheVariants.{Read, ReadWrite}
use Rattle.descriptor.specs.Nodes.{size}
use Rattle.plan_events.specs.declared.event.Event.{Event}
use Rattle.plan_events.specs.declared.outcome.Reply.{Reply}
use Rattle.resource_locks.specs.Plans.{PlanParts, IsPlan, held_of}
use Rattle.resource_locks.specs.Wants.{HasLock}
use Rattle.scheduling.specs.declared.lock_word.LockWord.{LockWord}
use Rattle.scheduling.specs.declared.lock_word.LockWord.TheVariants.{Readers, Written}
use Rattle.scheduling.specs.declared.task.Opening.{Opening}
use Rattle.scheduling.specs.declared.task.Opening.TheVariants.{Registering, RegisteredAt, Offering, Noticing, Locking, Weighed, Backing, Beginning, StartedAt, Awaiting, Admitting, Guarding}
use Rattle.scheduling.specs.declared.task.Closing.{Closing}
use Rattle.scheduling.specs.declared.task.Closing.TheVariants.{AwaitingAfter, Ending, FinishedAt, SkippedAt, Raising, Giving, Settling, Looking, Passing, CountingOff}
use Rattle.scheduling.specs.State.{State, lock_at}
use Rattle.scheduling.specs.Choices.{lock_of, key_at, mode_at, limit_at, keys_count, admits, admits_at}
use Rattle.scheduling.specs.Inside.Stages.{How, Stage, Unseen, Offered, OpenedBy, InHand, Waiting, ClosedBy, Over, picture}
use Rattle.scheduling.specs.Inside.Invariant.{IsCorePlan, holders, holders_by, OpeningOk, ClosingOk, ShapeOk, Holds}
use Rattle.scheduling.proofs.GoingLocks.{some_holder}
use Rattle.scheduling.proofs.Holding.{place_limit, free_admits}
use Rattle.scheduling.proofs.GoingSharedKeys.{has_lock, one_key, key_once}
use Rattle.termination.specs.Conflicts.{AreInTheWay, IsFreeOfConflict}
use Rattle.termination.proofs.TakingTurns.{IsAtWork, holds_at_work, not_both}

-- A node has taken no more keys than are its own.
opening_keys : (p : PlanParts) (replies : ℕ → List Reply) (h : List Event) (n w : ℕ) (d : Opening) → OpeningOk p replies h n d → (picture p n (OpenedBy w d)).keys ≤ keys_count p n
opening_keys p replies h n w (Locking i) ok = (let lt = ok.0 in omega (arith, lt))
opening_keys p replies h n w (Weighed i word) ok = (let lt = ok.0 in omega (arith, lt))
opening_keys p replies h n w (Backing i) ok = ok
opening_keys p replies h n w Registering ok = omega arith
opening_keys p replies h n w (RegisteredAt i) ok = omega arith
opening_keys p replies h n w Offering ok = omega arith
opening_keys p replies h n w Noticing ok = omega arith
opening_keys p replies h n w (Beginning true) ok = omega arith
opening_keys p replies h n w (Beginning false) ok = le_refl (keys_count p n)
opening_keys p replies h n w (StartedAt i) ok = le_refl (keys_count p n)
opening_keys p replies h n w Awaiting ok = le_refl (keys_count p n)
opening_keys p replies h n w (Admitting c) ok = le_refl (keys_count p n)
opening_keys p replies h n w Guarding ok = le_refl (keys_count p n)

closing_keys : (p : PlanParts) (replies : ℕ → List Reply) (h : List Event) (n w c : ℕ) (d : Closing) (how : How) → ClosingOk p replies h n d how → (picture p n (ClosedBy w c d how)).keys ≤ keys_count p n
closing_keys p replies h n w c (Giving i) how ok = ok
closing_keys p replies h n w c AwaitingAfter how ok = le_refl (keys_count p n)
closing_keys p replies h n w c (Ending status) how ok = le_refl (keys_count p n)
closing_keys p replies h n w c (FinishedAt i status) how ok = le_refl (keys_count p n)
closing_keys p replies h n w c Raising how ok = le_refl (keys_count p n)
closing_keys p replies h n w c (SkippedAt i) how ok = omega arith
closing_keys p replies h n w c Settling how ok = omega arith
closing_keys p replies h n w c (Looking m) how ok = omega arith
closing_keys p replies h n w c (Passing m o) how ok = omega arith
closing_keys p replies h n w c CountingOff how ok = omega arith

stage_keys : (p : PlanParts) (replies : ℕ → List Reply) (h : List Event) (n : ℕ) (st : Stage) → ShapeOk p replies h n st → (picture p n st).keys ≤ keys_count p n
stage_keys p replies h n Unseen ok = omega arith
stage_keys p replies h n (Offered o) ok = omega arith
stage_keys p replies h n (OpenedBy w d) ok = opening_keys p replies h n w d ok
stage_keys p replies h n (InHand w) ok = le_refl (keys_count p n)
stage_keys p replies h n (Waiting c result) ok = le_refl (keys_count p n)
stage_keys p replies h n (ClosedBy w c d how) ok = closing_keys p replies h n w c d how ok
stage_keys p replies h n (Over how) ok = omega arith

module _ (p : PlanParts) (plan : IsPlan p) (apart : IsFreeOfConflict p) (core : IsCorePlan p) (replies : ℕ → List Reply) (s : State) (g : ℕ → Stage) (h : Holds p replies s g) where
  -- a node has come to this place of its keys, and another holder of the key would be in its way
  none_holds : (w n i : ℕ) → n < size p.tree → g n ≡ OpenedBy w (Locking i) → i < keys_count p n → (mode : LockMode) → 0 < holders p g (key_at p n i) mode → (mode ≡ ReadWrite) ⊎ ((mode_at p n i ≡ ReadWrite) ⊎ (0 < limit_at p n i)) → ⊥
  none_holds w n i inside at few mode some why =
      let f = some_holder p g (key_at p n i) mode some in
      let holder = f.2 in
      let taken = stage_keys p replies s.published f.0 (g f.0) (h.shapes f.0 holder.inside) in
      let held = holder.held in
      let place_few : f.1 < keys_count p f.0 = omega (arith, taken, held) in
      elim (cases_eq f.0 n) [
        | inl same ↦ (
            let here : (picture p f.0 (g f.0)).keys ≡ i = ap (λ (x : ℕ). (picture p x (g x)).keys) same ∙ ap (λ (x : Stage). (picture p n x).keys) at in
            key_once p plan n f.1 i (omega (arith, here, held)) few (ap (λ (x : ℕ). key_at p x f.1) (sym same) ∙ holder.key))
        | inr ne ↦ not_both p core replies s g h f.0 n (apart f.0 n holder.inside inside ne (way f.0 f.1 place_few holder.key (elim why [ inl z ↦ inl (holder.in_mode ∙ z) | inr z ↦ inr z ]))) (holds_at_work p f.0 f.1 (g f.0) held) (subst IsAtWork (sym at) (refl, refl))
      ]
    where
      way : (m j : ℕ) → j < keys_count p m → key_at p m j ≡ key_at p n i → (mode_at p m j ≡ ReadWrite) ⊎ ((mode_at p n i ≡ ReadWrite) ⊎ (0 < limit_at p n i)) → AreInTheWay p m n
      way m j j_few key reason =
          let here = subst (λ (k : List ℕ). HasLock (held_of p m) k (mode_at p m j)) (one_key p plan m n j i j_few key) (has_lock p plan m j j_few) in
          let there = has_lock p plan n i few in
          elim reason [
            | inl z ↦ inl (record { key = (lock_of p n i).key; mode = mode_at p m j; here = here; other_mode = mode_at p n i; there = there; writes = inl z })
            | inr (inl z) ↦ inl (record { key = (lock_of p n i).key; mode = mode_at p m j; here = here; other_mode = mode_at p n i; there = there; writes = inr z })
            | inr (inr z) ↦ (let same = place_limit p (lock_of p n i).key in inr (record { key = (lock_of p n i).key; limited = omega (arith, z, same); mode = mode_at p m j; here = here; other_mode = mode_at p n i; there = there }))
          ]

  pub never_busy : (w n i : ℕ) → n < size p.tree → g n ≡ OpenedBy w (Locking i) → i < keys_count p n → admits_at p n i (lock_at s (key_at p n i)) ≡ true
  never_busy w n i inside at few = go (limit_at p n i) (mode_at p n i) (lock_at s (key_at p n i)) refl refl refl
    where
      written : lock_at s (key_at p n i) ≡ Written → ⊥
      written word =
          let one : holders p g (key_at p n i) ReadWrite ≡ 1 = h.locks.counted (key_at p n i) ReadWrite ∙ ap (holders_by ReadWrite) word in
          none_holds w n i inside at few ReadWrite (omega (arith, one)) (inl refl)

      read : (m : ℕ) → lock_at s (key_at p n i) ≡ Readers (suc m) → (mode_at p n i ≡ ReadWrite) ⊎ (0 < limit_at p n i) → ⊥
      read m word why =
          let some : holders p g (key_at p n i) Read ≡ suc m = h.locks.counted (key_at p n i) Read ∙ ap (holders_by Read) word in
          none_holds w n i inside at few Read (omega (arith, some)) (inr why)

      go : (limit : ℕ) (mode : LockMode) (word : LockWord) → limit_at p n i ≡ limit → mode_at p n i ≡ mode → lock_at s (key_at p n i) ≡ word → admits limit mode word ≡ true
      go zero Read (Readers m) at_limit at_mode at_word = refl
      go (suc limit) Read (Readers zero) at_limit at_mode at_word = free_admits (suc limit)
      go (suc limit) Read (Readers (suc m)) at_limit at_mode at_word = absurd (read m at_word (inr (omega (arith, at_limit))))
      go limit Read Written at_limit at_mode at_word = absurd (written at_word)
      go limit ReadWrite Written at_limit at_mode at_word = absurd (written at_word)
      go limit ReadWrite (Readers zero) at_limit at_mode at_word = refl
      go limit ReadWrite (Readers (suc m)) at_limit at_mode at_word = absurd (read m at_word (inl at_mode))
