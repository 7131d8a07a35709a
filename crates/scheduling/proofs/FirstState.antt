-- The opening state keeps the invariant.
use Rattle.std.proofs.Common.{◌≤◌, ◌≡◌, ℕ, zero, suc, ◌<◌, false, ◌&&◌, not, List, [], ◌∷◌, ◌++◌, length, get_or, replicate, Some, None, slice_get, ◌⊎◌, inl, inr, refl, sym, ap, ◌∙◌, subst, arith, length-append, Option}
use Rattle.std.proofs.lemmas.Option.{same_Some, none-some}
use Rattle.std.proofs.lemmas.Bool.{cases_eq, cases_lt, false≢true}
use Rattle.std.proofs.lemmas.List.{length-replicate}
use Rattle.descriptor.specs.declared.lock_mode.LockMode.{LockMode}
use Rattle.descriptor.specs.declared.lock_mode.LockMode.TheVariants.{Read, ReadWrite}
use Rattle.descriptor.specs.Nodes.{size, is_child, is_spare_at, count_below, bit}
use Rattle.plan_events.specs.declared.event.EventKind.{EventKind}
use Rattle.plan_events.specs.declared.event.EventKind.TheVariants.{Started, Finished, Skipped, Registered}
use Rattle.plan_events.specs.declared.outcome.Reply.{Reply}
use Rattle.plan_events.specs.declared.status.Status.{Status}
use Rattle.plan_events.specs.declared.status.Status.TheVariants.{Successful}
use Rattle.resource_locks.specs.Held.{table}
use Rattle.resource_locks.specs.Plans.{PlanParts}
use Rattle.event_history.proofs.Published.{published_nil}
use Rattle.scheduling.specs.declared.status.NodeStatus.{NodeStatus}
use Rattle.scheduling.specs.declared.status.NodeStatus.TheVariants.{Hidden, Ready}
use Rattle.scheduling.specs.declared.lock_word.LockWord.TheVariants.{Readers}
use Rattle.scheduling.specs.declared.task.Task.TheVariants.{Free}
use Rattle.scheduling.specs.declared.seat.Seat.{Seat}
use Rattle.scheduling.specs.Runs.{first_status, first_counter, opening}
use Rattle.scheduling.specs.Inside.Going.{word_of}
use Rattle.scheduling.specs.Inside.Stages.{Stage, Unseen, Offered, Waiting, Mark, Blank, Known, has_mark, picture, is_unseen, is_pending, raises}
use Rattle.scheduling.specs.Inside.Invariant.{IsCorePlan, pends_at, pending, keys_in, sum_below, holders, holders_by, SeatOk, Holds, IsKept, still_raising, raising_at, raising_in}
use Rattle.scheduling.proofs.Basics.{count_same}
use Rattle.scheduling.proofs.Drawn.{blank_none}

-- node 0 is offered
first_stage : ℕ → Stage
first_stage zero = Offered None
first_stage (suc n) = Unseen

pub each_length : {X : Type 0} (f : ℕ → X) (n : ℕ) → length (table f n) ≡ n
each_length f zero = refl
each_length f (suc n) = (let a = each_length f n in omega (arith, a, length-append (table f n) (f n ∷ [])))

get_last : {X : Type 0} (l : List X) (x d : X) (n : ℕ) → n ≡ length l → get_or (l ++ x ∷ []) n d ≡ x
get_last [] x d n q = subst (λ k. get_or (x ∷ []) k d ≡ x) (sym q) refl
get_last (y ∷ l) x d zero q = absurd (omega (arith, q))
get_last (y ∷ l) x d (suc n) q = get_last l x d n (omega (arith, q))

get_before : {X : Type 0} (l : List X) (x d : X) (n : ℕ) → n < length l → get_or (l ++ x ∷ []) n d ≡ get_or l n d
get_before [] x d n lt = absurd (omega (arith, lt))
get_before (y ∷ l) x d zero lt = refl
get_before (y ∷ l) x d (suc n) lt = get_before l x d n (omega (arith, lt))

pub each_at : {X : Type 0} (f : ℕ → X) (d : X) (m n : ℕ) → n < m → get_or (table f m) n d ≡ f n
each_at f d zero n lt = absurd (omega (arith, lt))
each_at f d (suc m) n lt =
    let len = each_length f m in
    elim (cases_eq n m) [
      | inl q ↦ get_last (table f m) (f m) d n (omega (arith, q, len)) ∙ ap f (sym q)
      | inr ne ↦ get_before (table f m) (f m) d n (omega (arith, lt, ne, len)) ∙ each_at f d m n (omega (arith, lt, ne))
    ]

all_same : {X : Type 0} (n k : ℕ) (x : X) → get_or (replicate n x) k x ≡ x
all_same zero k x = refl
all_same (suc n) zero x = refl
all_same (suc n) (suc k) x = all_same n k x

pub get_replicate : {X : Type 0} (n : ℕ) (x y : X) (i : ℕ) → slice_get (replicate n x) i ≡ Some y → x ≡ y
get_replicate zero x y i q = absurd (none-some y q)
get_replicate (suc n) x y zero q = same_Some x y q
get_replicate (suc n) x y (suc i) q = get_replicate n x y i q

first_words : (p : PlanParts) (n : ℕ) → first_status n ≡ (picture p n (first_stage n)).word
unfolding first_stage
first_words p zero = refl
first_words p (suc n) = refl

first_pending : (p : PlanParts) (n : ℕ) → pending p first_stage n ≡ count_below (λ c. is_child p.tree n c && not (is_spare_at p.tree c)) (size p.tree)
unfolding first_stage pending
first_pending p n = count_same (pends_at p first_stage n) (λ c. is_child p.tree n c && not (is_spare_at p.tree c)) (size p.tree) (λ c lt. same c)
  where
    same : (c : ℕ) → (is_child p.tree n c && is_pending (is_spare_at p.tree c) (first_stage c)) ≡ (is_child p.tree n c && not (is_spare_at p.tree c))
    same zero = refl
    same (suc c) = refl

first_guard : (p : PlanParts) (n : ℕ) → (picture p n (first_stage n)).guard ≡ 1
unfolding first_stage
first_guard p zero = refl
first_guard p (suc n) = refl

sum_zero : (f : ℕ → ℕ) (n : ℕ) → ((k : ℕ) → f k ≡ 0) → sum_below f n ≡ 0
sum_zero f zero each = refl
sum_zero f (suc n) each = (let a = each n in let b = sum_zero f n each in omega (arith, a, b))

first_holders : (p : PlanParts) (k : ℕ) (mode : LockMode) → holders p first_stage k mode ≡ 0
unfolding first_stage holders keys_in
first_holders p k mode = sum_zero (λ n. keys_in p k mode n (picture p n (first_stage n)).keys) (size p.tree) each
  where
    each : (n : ℕ) → keys_in p k mode n (picture p n (first_stage n)).keys ≡ 0
    each zero = refl
    each (suc n) = refl

free_word : (mode : LockMode) → holders_by mode (Readers 0) ≡ 0
free_word Read = refl
free_word ReadWrite = refl

first_flags : (p : PlanParts) (k : EventKind) (n : ℕ) → false ≡ has_mark (is_spare_at p.tree n) k (picture p n (first_stage n)).mark
unfolding first_stage
first_flags p Started zero = refl
first_flags p Finished zero = refl
first_flags p Skipped zero = refl
first_flags p Registered zero = refl
first_flags p k (suc n) = sym (blank_none (is_spare_at p.tree (suc n)) k)

first_raising : (workers : ℕ) → still_raising (replicate workers (record { task = Free; hand = None })) ≡ 0
unfolding still_raising
first_raising workers = sum_zero (raising_at (replicate workers (record { task = Free; hand = None }))) (length (replicate workers (record { task = Free; hand = None }))) (λ w. one w (slice_get (replicate workers (record { task = Free; hand = None })) w) refl)
  where
    one : (w : ℕ) (o : Option Seat) → slice_get (replicate workers (record { task = Free; hand = None })) w ≡ o → raising_in o ≡ 0
    one w None q = refl
    one w (Some seat) q = ap (λ (o : Seat). bit (raises o.task)) (sym (get_replicate workers (record { task = Free; hand = None }) seat w q))

pub opening_is : (p : PlanParts) → IsCorePlan p → (replies : ℕ → List Reply) (workers : ℕ) → workers ≤ 64 → IsKept p replies (opening p workers)
unfolding first_stage
opening_is p core replies workers few = (
  first_stage,
  record {
    workers_few = (let same = length-replicate {A = Seat} workers (record { task = Free; hand = None }) in omega (arith, same, few));
    statuses_len = each_length first_status (size p.tree);
    counters_len = each_length (first_counter p) (size p.tree);
    results_len = each_length (λ n. Successful) (size p.tree);
    shown_len = refl;
    words = λ n lt. each_at first_status Hidden (size p.tree) n lt ∙ first_words p n;
    counters = λ n lt. (let a = each_at (first_counter p) 0 (size p.tree) n lt in let b = first_pending p n in let c = first_guard p n in omega (arith, a, b, c));
    results = λ n c r lt q. absurd (none_waits n c r q);
    locks = record {
      counted = λ k mode. first_holders p k mode ∙ sym (ap (holders_by mode) (all_same _ k (Readers 0)) ∙ free_word mode);
      limited = λ k some. (let none : holders_by Read (get_or (opening p workers).locks k (Readers 0)) ≡ 0 = ap (holders_by Read) (all_same _ k (Readers 0)) ∙ free_word Read in omega (arith, none));
    };
    flags = λ k n lt. first_flags p k n;
    starters = λ n c lt q. absurd (none_started n c q);
    shapes = λ n lt. shape n;
    edges = λ a c ch. edge a c ch.above_zero;
    elders = λ a b elder goes seen. absurd (unseen_above b elder.younger.above_zero seen);
    seats = λ w seat q. subst (λ y. SeatOk p first_stage [] w y) (get_replicate workers (record { task = Free; hand = None }) seat w q) (record { task = tt; hand = tt; brought = tt; failed = λ r. absurd (false≢true r); quits = λ ff b. absurd (false≢true b) });
    held = λ n lt. held n;
    raised = λ ff. (let none = first_raising workers in omega (arith, none));
    published = published_nil p replies (length (replicate workers (record { task = Free; hand = None })));
    given = record { rest = []; front = refl; shown = λ i lt. absurd (omega (arith, lt)) };
  },
)
  where
    none_waits : (n c : ℕ) (r : Status) → first_stage n ≡ Waiting c r → ⊥
    none_waits zero c r q = cc
    none_waits (suc n) c r q = cc

    none_started : (n c : ℕ) → Rattle.scheduling.specs.Inside.Stages.starter_of (picture p n (first_stage n)) ≡ Some c → ⊥
    none_started zero c q = none-some c q
    none_started (suc n) c q = none-some c q

    shape : (n : ℕ) → Rattle.scheduling.specs.Inside.Invariant.ShapeOk p replies [] n (first_stage n)
    shape zero = tt
    shape (suc n) = tt

    edge : (a c : ℕ) → 0 < c → Rattle.scheduling.specs.Inside.Invariant.Fits p (picture p a (first_stage a)).below a c (first_stage c)
    edge a zero pos = absurd (omega (arith, pos))
    edge zero (suc c) pos = refl
    edge (suc a) (suc c) pos = refl

    unseen_above : (b : ℕ) → 0 < b → is_unseen (first_stage b) ≡ false → ⊥
    unseen_above zero pos q = omega (arith, pos)
    unseen_above (suc b) pos q = false≢true (sym q)

    held : (n : ℕ) → Rattle.scheduling.specs.Inside.Invariant.HeldBy (replicate workers (record { task = Free; hand = None })) n (first_stage n)
    held zero = tt
    held (suc n) = tt

-- At the opening the plan is offered to all,
pub opening_root : (p : PlanParts) → 0 < size p.tree → word_of (table first_status (size p.tree)) 0 ≡ Ready None
opening_root p root = each_at first_status Hidden (size p.tree) 0 root

-- and each other node is hidden.
pub opening_word : (p : PlanParts) → 0 < size p.tree → (n : ℕ) → (word_of (table first_status (size p.tree)) n ≡ Ready None) ⊎ (word_of (table first_status (size p.tree)) n ≡ Hidden)
opening_word p root zero = inl (opening_root p root)
opening_word p root (suc n) =
    elim (cases_lt (suc n) (size p.tree)) [
      | inl lt ↦ inr (each_at first_status Hidden (size p.tree) (suc n) lt)
      | inr ge ↦ (let len = each_length first_status (size p.tree) in inr (past (table first_status (size p.tree)) (suc n) (omega (arith, ge, len))))
    ]
  where
    past : (l : List NodeStatus) (n : ℕ) → length l ≤ n → word_of l n ≡ Hidden
    past [] n le = refl
    past (v ∷ l) zero le = absurd (omega (arith, le))
    past (v ∷ l) (suc n) le = past l n (omega (arith, le))
