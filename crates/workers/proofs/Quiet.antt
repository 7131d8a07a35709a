-- Tasks that wait for no job and start none; and that a worker that goes on to one stays steady.
use Rattle.std.proofs.Common.{◌≡◌, ◌≢◌, ℕ, zero, suc, ◌+◌, ◌⊎◌, inl, inr, Bool, true, false, cond, List, Option, Some, None, refl, sym, ap, ◌∙◌, subst}
use Rattle.std.proofs.lemmas.Option.{none-some}
use Rattle.std.proofs.lemmas.Bool.{false≢true}
use Rattle.plan_events.specs.declared.status.Status.{Status}
use Rattle.resource_locks.specs.Plans.{PlanParts}
use Rattle.scheduling.specs.declared.seat.Seat.{Seat}
use Rattle.scheduling.specs.declared.task.Opening.{Opening}
use Rattle.scheduling.specs.declared.task.Opening.TheVariants.{Registering, StartedAt, Awaiting, Locking, Beginning, Weighed, Backing, Noticing}
use Rattle.scheduling.specs.declared.task.Closing.TheVariants.{AwaitingAfter, Giving, Raising}
use Rattle.scheduling.specs.declared.task.Task.{Task}
use Rattle.scheduling.specs.declared.task.Task.TheVariants.{Free, Opens, Closes}
use Rattle.scheduling.specs.declared.lock_word.LockWord.{LockWord}
use Rattle.scheduling.specs.Choices.{admit_next, lock_from, begins, claims, notices, keys_count, giving, after_finish, admits_at}
use Rattle.descriptor.specs.Nodes.{is_disabled}
use Rattle.scheduling.specs.Rows.{with_task, weighed}
use Rattle.table_rule.specs.declared.view.SlotState.{SlotState}
use Rattle.workers.specs.Inside.Steady.{Phase, AtNodes, AtTests, opened_by, registering, HandKept, IsSteady}

abbrev pub is_quiet : Task → Bool
is_quiet (Opens n Registering) = false
is_quiet (Opens n (StartedAt i)) = false
is_quiet (Opens n Awaiting) = false
is_quiet (Closes n AwaitingAfter) = false
is_quiet (Closes n (Giving zero)) = false
is_quiet _ = true

not_quiet : (t u : Task) → is_quiet u ≡ false → is_quiet t ≡ true → t ≢ u
not_quiet t u loud quiet is = false≢true (sym loud ∙ (ap is_quiet (sym is) ∙ quiet))

pub none_registering : (t : Task) → is_quiet t ≡ true → registering t ≡ 0
none_registering (Opens n Registering) quiet = absurd (false≢true quiet)
none_registering _ quiet = refl

-- a seat whose task is quiet is steady, if what is in its hand is kept
pub steady_quiet : (p : PlanParts) (phase : Phase) (seat : Seat) (made : List (ℕ × SlotState)) → is_quiet seat.task ≡ true → HandKept p phase seat made → IsSteady p phase seat made
steady_quiet p phase seat made quiet hand = record {
  gives = λ n. not_quiet seat.task (Closes n (Giving 0)) refl quiet;
  plain = λ n is. absurd (not_quiet seat.task (Opens n Awaiting) refl quiet is);
  starts = λ n i is. absurd (not_quiet seat.task (Opens n (StartedAt i)) refl quiet is);
  waits = λ n is. absurd (not_quiet seat.task (Opens n Awaiting) refl quiet is);
  after = λ n is. absurd (not_quiet seat.task (Closes n AwaitingAfter) refl quiet is);
  hand = hand;
}

-- the node that the next task opens, if any, is the one of the task before
abbrev pub OpensNoOther : (old new : Task) → Type 0
OpensNoOther old new = (opened_by new ≡ None) ⊎ (opened_by new ≡ opened_by old)

-- what is in hand is kept where the task changes
pub hand_to : (p : PlanParts) (phase : Phase) (old : Seat) (made : List (ℕ × SlotState)) → HandKept p phase old made → old.task ≢ Free → (t : Task) → registering old.task ≡ registering t → OpensNoOther old.task t → HandKept p phase (with_task old t) made
hand_to p AtNodes old made kept busy t same no_other = λ hand is. absurd (busy (kept hand is).free)
hand_to p (AtTests factory asked) old made kept busy t same no_other = record {
  hand = kept.hand;
  held = kept.held;
  is_it = kept.is_it;
  inside = kept.inside;
  counted = ap (λ k. kept.hand.registered + k) (sym same) ∙ kept.counted;
  pulls = kept.pulls;
  left = kept.left;
  about = λ n is. elim no_other [ inl none ↦ absurd (none-some n (sym none ∙ is)) | inr same_node ↦ kept.about n (sym same_node ∙ is) ];
}

-- a step to a quiet task
pub quietly : (p : PlanParts) (phase : Phase) (old : Seat) (made : List (ℕ × SlotState)) → HandKept p phase old made → (u : Task) → old.task ≡ u → u ≢ Free → registering u ≡ 0 → (t : Task) → is_quiet t ≡ true → OpensNoOther u t
    → IsSteady p phase (with_task old t) made
quietly p phase old made kept u is busy none t quiet no_other =
    steady_quiet p phase (with_task old t) made quiet
    (hand_to p phase old made kept (λ free. busy (sym is ∙ free)) t (ap registering is ∙ (none ∙ sym (none_registering t quiet))) (subst (λ (x : Task). OpensNoOther x t) (sym is) no_other))

-- The tasks that the plan decides are quiet.
pub quiet_admit : (n : ℕ) (c : Option ℕ) → is_quiet (Opens n (admit_next c)) ≡ true
quiet_admit n None = refl
quiet_admit n (Some c) = refl

quiet_key : (n i : ℕ) (b : Bool) → is_quiet (Opens n (cond b (Locking i) (Beginning false))) ≡ true
quiet_key n i true = refl
quiet_key n i false = refl

pub quiet_lock : (p : PlanParts) (n i : ℕ) → is_quiet (Opens n (lock_from p n i)) ≡ true
quiet_lock p n i = quiet_key n i _

quiet_or : (n : ℕ) (d e : Opening) (b : Bool) → is_quiet (Opens n d) ≡ true → is_quiet (Opens n e) ≡ true → is_quiet (Opens n (cond b d e)) ≡ true
quiet_or n d e true left right = left
quiet_or n d e false left right = right

pub quiet_begins : (p : PlanParts) (n : ℕ) (skip : Bool) → is_quiet (Opens n (begins p n skip)) ≡ true
quiet_begins p n skip = quiet_or n (Beginning true) (lock_from p n 0) skip refl (quiet_lock p n 0)

pub quiet_claims : (p : PlanParts) (n : ℕ) → is_quiet (Opens n (claims p n)) ≡ true
quiet_claims p n = quiet_or n Noticing (begins p n (is_disabled p.tree n)) (notices p n) refl (quiet_begins p n (is_disabled p.tree n))

pub quiet_weighed : (p : PlanParts) (n i : ℕ) (word : LockWord) → is_quiet (Opens n (weighed p n i word)) ≡ true
quiet_weighed p n i word = quiet_or n (Weighed i word) (Backing i) (admits_at p n i word) refl refl

pub quiet_tried : (p : PlanParts) (n i : ℕ) (hit : Bool) → is_quiet (Opens n (cond hit (lock_from p n (suc i)) (Locking i))) ≡ true
quiet_tried p n i hit = quiet_or n (lock_from p n (suc i)) (Locking i) hit (quiet_lock p n (suc i)) refl

pub quiet_giving : (n k : ℕ) → is_quiet (Closes n (giving k)) ≡ true
quiet_giving n zero = refl
quiet_giving n (suc k) = refl

pub quiet_finish : (p : PlanParts) (n : ℕ) (status : Status) → is_quiet (Closes n (after_finish p n status)) ≡ true
quiet_finish p n status = by _
  where
    by : (b : Bool) → is_quiet (Closes n (cond b Raising (giving (keys_count p n)))) ≡ true
    by true = refl
    by false = quiet_giving n (keys_count p n)
