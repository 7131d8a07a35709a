-- The fixed schedule: where its only worker is free and has no factory in hand, each node that waits has an open node below it.
use Rattle.std.proofs.Common.{◌≡◌, ℕ, ◌<◌, true, false, List, Option, Some, None, slice_index_or, inl, inr, refl, ap, ◌∙◌, arith}
use Rattle.std.proofs.lemmas.Bool.{cases_Bool, and_parts, eq-eqb}
use Rattle.descriptor.specs.Nodes.{size, IsChild, is_child, is_spare_at, count_below}
use Rattle.resource_locks.specs.Plans.{PlanParts}
use Rattle.event_history.proofs.Trees.{is_child_test, count_some}
use Rattle.scheduling.specs.declared.status.NodeStatus.{NodeStatus}
use Rattle.scheduling.specs.declared.status.NodeStatus.TheVariants.{Hidden, Ready, Claimed, Settled}
use Rattle.scheduling.specs.declared.task.Task.TheVariants.{Free}
use Rattle.scheduling.specs.Choices.{in_batch}
use Rattle.scheduling.specs.Schedule.{is_open}
use Rattle.scheduling.specs.Inside.Going.{word_of, WordsGo, TurnsGo, CountsGo, owed, owes}
use Rattle.scheduling.specs.Inside.Invariant.{IsCorePlan, IsNextSame}
use Rattle.scheduling.proofs.WaitingBelow.{elder_same, IsOfferedBelow, offered_below, some_offered}

module _ (p : PlanParts) (core : IsCorePlan p) (l : List NodeStatus) (words : WordsGo p l) where
  pub ready_open : (n : ℕ) (o : Option ℕ) → word_of l n ≡ Ready o → is_open (word_of l n) ≡ true
  ready_open n None at = ap is_open at
  ready_open n (Some w) at = ap is_open at ∙ eq-eqb w 0 (words.offered n w at)

  module _ (turns : TurnsGo p l Free) where
    -- where the worker is free, a plain child of a node that was claimed and to which nobody has come has an elder that isn't settled
    pub waits_elder : (n w c : ℕ) → word_of l n ≡ Claimed w → IsChild p.tree n c → is_spare_at p.tree c ≡ false → word_of l c ≡ Hidden → (d : ℕ) × (IsNextSame p d c × (word_of l d ≡ Settled → ⊥))
    waits_elder n w c claimed ch plain hidden =
        elim (cases_Bool (in_batch p n c)) [
          | inl y ↦ absurd (turns.batch n c w ch.inside y claimed (record { hidden = hidden; apart = refl }))
          | inr off ↦ (let e = elder_same p core n c ch plain off in (e.0, (e.1, λ settled. turns.siblings e.0 c e.1 settled (record { hidden = hidden; apart = refl }))))
        ]

    module _ (counters : List ℕ) (counts : CountsGo p l counters Free None) where
      owes_one : (n w : ℕ) → n < size p.tree → word_of l n ≡ Claimed w → (c : ℕ) × (IsChild p.tree n c × (owed (is_spare_at p.tree c) (word_of l c) false ≡ true))
      owes_one n w inside claimed =
          let is_owed = counts n w inside claimed refl refl in
          let positive : 0 < slice_index_or counters n 0 = is_owed.some in
          let exact : slice_index_or counters n 0 ≡ count_below (owes p l Free n) (size p.tree) = is_owed.exact in
          let some = count_some (owes p l Free n) (size p.tree) (omega (arith, positive, exact)) in
          let parts = and_parts (is_child p.tree n some.0) (owed (is_spare_at p.tree some.0) (word_of l some.0) false) some.2 in
          (some.0, (is_child_test p.tree n some.0 some.1 parts.0, parts.1))

      -- Each node that waits has an open node below it.
      pub open_below : (n w : ℕ) → n < size p.tree → word_of l n ≡ Claimed w → IsOfferedBelow p (λ m. is_open (word_of l m) ≡ true) n
      open_below = offered_below p core l (λ m. is_open (word_of l m) ≡ true) ready_open waits_elder owes_one

      -- So there is one, until the plan is settled.
      pub some_open : (word_of l 0 ≡ Settled → ⊥) → (m : ℕ) × (m < size p.tree) × (is_open (word_of l m) ≡ true)
      some_open = some_offered p core l (λ m. is_open (word_of l m) ≡ true) ready_open waits_elder owes_one words.root
