-- Held locks exclude each other still, where a start finds none of its own held.
use Rattle.std.proofs.Common.{◌≡◌, ℕ, ◌<◌, List, [], ◌∷◌, ◌++◌, length, inl, inr, sym, ◌∙◌, subst, arith}
use Rattle.std.proofs.lemmas.Bool.{false_from_ne_true}
use Rattle.std.proofs.lemmas.Option.{none-some}
use Rattle.descriptor.specs.declared.lock_mode.LockMode.{LockMode}
use Rattle.plan_events.specs.declared.event.EventKind.TheVariants.{Started, Finished}
use Rattle.plan_events.specs.declared.event.Event.{Event}
use Rattle.resource_locks.specs.Plans.{PlanParts}
use Rattle.event_history.specs.Places.{StandsAt, StandsBefore, has}
use Rattle.event_history.specs.Inside.Following.{MayHold}
use Rattle.event_history.specs.Exclusion.{Excludes, HeldConflict, IsExclusive}
use Rattle.event_history.proofs.Places.{has_at, has_before, before_later, before_front, stands_later, stands_within, stands_added}

pub conflict_back : (p : PlanParts) (m n : ℕ) → HeldConflict p m n → HeldConflict p n m
conflict_back p m n c = record { key = c.key; mode = c.other_mode; here = c.there; other_mode = c.mode; there = c.here; writes = swap c.writes }
  where
    swap : {a b : LockMode} → Excludes a b → Excludes b a
    swap (inl q) = inr q
    swap (inr q) = inl q

module _ (p : PlanParts) (h : List Event) (e : Event) (exclusive : IsExclusive p h) (may : MayHold p h e) where
  -- the new event starts n, while m runs
  new_start : (m n i : ℕ) → StandsAt h i Started m → e.kind ≡ Started → e.node ≡ n → (StandsBefore (h ++ e ∷ []) (length h) Finished m → ⊥) → HeldConflict p m n → ⊥
  new_start m n i s k q unended c =
      may k m (has_at s) (false_from_ne_true (has Finished m h) (λ t. unended (before_later (e ∷ []) (has_before Finished m h t)))) (subst (λ (x : ℕ). HeldConflict p m x) (sym q) c)

  -- Held locks exclude each other still.
  pub exclusive_added : IsExclusive p (h ++ e ∷ [])
  exclusive_added m n differ c o =
      elim (stands_added h e o.place Started m o.start) [
        | inl s ↦ elim (stands_added h e o.other_place Started n o.other_start) [
          | inl t ↦ exclusive m n differ c (record {
            place = o.place;
            start = s;
            other_place = o.other_place;
            other_start = t;
            unended = λ d. o.unended (before_later (e ∷ []) d);
            other_unended = λ d. o.other_unended (before_later (e ∷ []) d);
          })
          | inr t ↦ new_start m n o.place s t.1 t.2 (subst (λ (j : ℕ). StandsBefore (h ++ e ∷ []) j Finished m → ⊥) t.0 o.unended) c
        ]
        | inr s ↦ elim (stands_added h e o.other_place Started n o.other_start) [
          | inl t ↦ new_start n m o.other_place t s.1 s.2 (subst (λ (j : ℕ). StandsBefore (h ++ e ∷ []) j Finished n → ⊥) s.0 o.other_unended) (conflict_back p m n c)
          | inr t ↦ differ (sym s.2 ∙ t.2)
        ]
      ]

pub exclusive_nil : (p : PlanParts) → IsExclusive p []
exclusive_nil p m n differ c o = none-some o.start.event o.start.here

-- and in a beginning they exclude each other as in the whole
pub exclusive_front : (p : PlanParts) (g r : List Event) → IsExclusive p (g ++ r) → IsExclusive p g
exclusive_front p g r exclusive m n differ c o =
    let i : o.place < length g = stands_within o.start in
    let j : o.other_place < length g = stands_within o.other_start in
    exclusive m n differ c (record {
      place = o.place;
      start = stands_later r o.start;
      other_place = o.other_place;
      other_start = stands_later r o.other_start;
      unended = λ d. o.unended (before_front g r o.other_place Finished m (omega (arith, j)) d);
      other_unended = λ d. o.other_unended (before_front g r o.place Finished n (omega (arith, i)) d);
    })
