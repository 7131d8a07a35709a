-- The machine's fields at the start are those of the opening state, and it is sound.
use Rattle.std.proofs.Common.{◌≡◌, ◌∙◌, ℕ, zero, suc, ◌<◌, ◌≤◌, Bool, false, List, [], set, length, replicate, take, None, refl, sym, ap, subst, arith, length-set, inl, inr}
use Rattle.std.proofs.lemmas.List.{length-replicate, get_or-replicate, get_or-set_other}
use Rattle.std.proofs.lemmas.Grind.{get_or-set_at}
use Rattle.std.proofs.lemmas.Bool.{cases_eq}
use Rattle.descriptor.specs.Nodes.{IsTree, size}
use Rattle.plan_events.specs.declared.event.Event.{Event}
use Rattle.plan_events.specs.declared.outcome.Reply.{Reply}
use Rattle.plan_events.specs.declared.status.Status.{Status}
use Rattle.plan_events.specs.declared.status.Status.TheVariants.{Successful}
use Rattle.resource_locks.specs.Held.{table}
use Rattle.resource_locks.specs.Plans.{PlanParts, IsPlan}
use Rattle.resource_locks.proofs.Turns.{table_is}
use Rattle.scheduling.specs.declared.status.NodeStatus.{NodeStatus}
use Rattle.scheduling.specs.declared.status.NodeStatus.TheVariants.{Hidden, Ready}
use Rattle.scheduling.specs.declared.lock_word.LockWord.{LockWord}
use Rattle.scheduling.specs.declared.lock_word.LockWord.TheVariants.{Readers}
use Rattle.scheduling.specs.declared.seat.Seat.{Seat}
use Rattle.scheduling.specs.Runs.{first_status, opening}
use Rattle.scheduling.specs.State.{State}
use Rattle.scheduling.proofs.Headline.{core_plan}
use Rattle.scheduling.proofs.Counters.{counters_are}
use Rattle.never_stuck.specs.Inside.Live.{IsLive}
use Rattle.never_stuck.proofs.Reach.{live_opening}
use Rattle.sched_core.specs.declared.machine.Machine.{Machine}
use Rattle.sched_core.specs.Replies.{reply_of, replies_of}
use Rattle.sched_core.specs.Inside.Fields.{state_of, HasRoom, IsSound}
use Rattle.scheduling.specs.Inside.Start.{guard_and_children, free_seat}

statuses_are : (n : ℕ) → 0 < n → set (replicate n Hidden) 0 (Ready None) ≡ table first_status n
statuses_are n above =
    table_is first_status Hidden n (set (replicate n Hidden) 0 (Ready None)) (length-set (replicate n Hidden) 0 (Ready None) ∙ length-replicate n Hidden)
    (λ k lt. elim (cases_eq k 0) [
      | inl first ↦ get_or-set_at (replicate n Hidden) 0 k (Ready None) Hidden first (omega (arith, above, length-replicate n Hidden)) ∙ ap first_status (sym first)
      | inr other ↦ get_or-set_other (replicate n Hidden) 0 k (Ready None) Hidden other ∙ get_or-replicate n k Hidden Hidden lt ∙ later k other
    ])
  where
    later : (k : ℕ) → (k ≡ 0 → ⊥) → Hidden ≡ first_status k
    later zero no' = absurd (no' refl)
    later (suc k) no' = refl

same_for_all : {X : Type 0} (n : ℕ) (x : X) → replicate n x ≡ table (λ k. x) n
same_for_all n x = table_is (λ k. x) x n (replicate n x) (length-replicate n x) (λ k lt. get_or-replicate n k x x lt)

pub starts : (p : PlanParts) → IsTree p.tree → (workers : ℕ) (statuses : List NodeStatus) (counters : List ℕ) (results : List Status) (locks : List LockWord) (seats : List Seat) (published : List Event) (shown : List Bool)
    → statuses ≡ set (replicate (size p.tree) Hidden) 0 (Ready None) → counters ≡ table (guard_and_children p.tree) (size p.tree) → results ≡ replicate (size p.tree) Successful → locks ≡ replicate (length p.keys) (Readers 0)
    → seats ≡ replicate workers free_seat → published ≡ [] → shown ≡ []
    → record { statuses = statuses; counters = counters; results = results; locks = locks; cancel = 0; seats = seats; published = published; shown = shown; given = take 0 published } ≡ opening p workers
starts p tree workers statuses counters results locks seats published shown a b c d f g h =
    alike (a ∙ statuses_are (size p.tree) tree.root) (b ∙ counters_are p tree) (c ∙ same_for_all (size p.tree) Successful) d f g h
  where
    alike : statuses ≡ (opening p workers).statuses → counters ≡ (opening p workers).counters → results ≡ (opening p workers).results → locks ≡ (opening p workers).locks → seats ≡ (opening p workers).seats → published ≡ [] → shown ≡ []
        → record { statuses = statuses; counters = counters; results = results; locks = locks; cancel = 0; seats = seats; published = published; shown = shown; given = take 0 published } ≡ opening p workers
    alike q1 q2 q3 q4 q5 q6 q7 = λ j. record { statuses = q1 j; counters = q2 j; results = q3 j; locks = q4 j; cancel = 0; seats = q5 j; published = q6 j; shown = q7 j; given = [] }

pub sound_start : (p : PlanParts) (answers : List (ℕ × Reply)) (m : Machine) (workers : ℕ) → IsPlan p → 0 < workers → workers ≤ 64 → m.workers ≡ workers → m.given ≡ 0 → state_of m ≡ opening p workers → HasRoom p m → IsSound p answers m
sound_start p answers m workers plan some few count none is room = record {
  plan = plan;
  workers = ap (λ (s : State). length s.seats) is ∙ length-replicate workers free_seat ∙ sym count;
  live = subst (IsLive p (replies_of answers) (reply_of answers)) (sym is) (live_opening p (core_plan p plan.tree) (replies_of answers) (reply_of answers) (λ job. refl) workers some few);
  given = omega (arith, none);
  room = room;
}
