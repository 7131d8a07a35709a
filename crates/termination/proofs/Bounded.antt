-- Each step leaves fewer steps, but for one by which a worker is turned back: after it a try's steps more are left at most.
use Rattle.std.proofs.Common.{◌≡◌, ℕ, zero, suc, ◌+◌, ◌*◌, ◌<◌, ◌≤◌, Bool, true, false, not, cond, List, [], ◌∷◌, length, set, Some, slice_get, ◌⊎◌, inl, inr, refl, sym, ap, ◌∙◌, subst, arith}
use Rattle.std.proofs.lemmas.Option.{get_or_from_slice_get}
use Rattle.std.proofs.lemmas.Bool.{false≢true, cond-true, cond-false}
use Rattle.std.proofs.Math.Nat.{suc-mul}
use Rattle.descriptor.specs.Nodes.{size, bit}
use Rattle.plan_events.specs.declared.outcome.Reply.{Reply}
use Rattle.resource_locks.specs.Plans.{PlanParts, IsPlan}
use Rattle.scheduling.specs.declared.lock_word.LockWord.{LockWord}
use Rattle.scheduling.specs.declared.lock_word.LockWord.TheVariants.{Readers}
use Rattle.scheduling.specs.declared.status.NodeStatus.TheVariants.{Ready}
use Rattle.scheduling.specs.declared.task.Opening.{Opening}
use Rattle.scheduling.specs.declared.task.Opening.TheVariants.{Locking, Weighed, Backing}
use Rattle.scheduling.specs.declared.task.Task.{Task}
use Rattle.scheduling.specs.declared.task.Task.TheVariants.{Free, Opens}
use Rattle.scheduling.specs.declared.seat.Seat.{Seat}
use Rattle.scheduling.specs.declared.step.Action.{Action}
use Rattle.scheduling.specs.State.{State, status_at, lock_at}
use Rattle.scheduling.specs.Choices.{keys_count, key_at, mode_at, admits_at, same_word, given_back, decided}
use Rattle.scheduling.specs.Rows.{with_task, goes, weighed, back_to, row, decided_seat, Step, Works, Dispatches, after}
use Rattle.scheduling.specs.Runs.{opening, IsReplied, AllReplied, or_stays, next}
use Rattle.scheduling.specs.Inside.Stages.{Stage, OpenedBy, picture}
use Rattle.scheduling.specs.Inside.Invariant.{IsCorePlan, TaskOk, OpeningOk, ShapeOk, Holds, IsKept}
use Rattle.scheduling.proofs.Headline.{core_plan}
use Rattle.scheduling.proofs.FirstState.{opening_is}
use Rattle.scheduling.proofs.Steps.{after_keeps}
use Rattle.never_stuck.proofs.Able.{is_trying}
use Rattle.termination.specs.Bounds.{most_keys, if_fast, steps_of_a_try}
use Rattle.termination.specs.Endings.{IsBounded}
use Rattle.termination.specs.Inside.Accounts.{if_skippable, status_steps, task_steps, steps_left}
use Rattle.termination.specs.Steps.{IsTaken, AllTaken, is_turned_back, turns_seat_back, turns_back, times_turned_back}
use Rattle.termination.proofs.Payments.{task_moves, status_moves, task_no_higher, read_pays}
use Rattle.termination.proofs.Paying.{row_pays}
use Rattle.termination.proofs.Prices.{keys_few, bit_few, decided_steps}
use Rattle.termination.proofs.StepKinds.{decided_no_higher, Plain, Weighs, Misses, Backs, GivesUp, Kind, AsFree, AsPlain, AsWeigh, AsMiss, AsBack, AsGivenUp}
use Rattle.termination.proofs.Acting.{decides, Acts, acts_so, free_same, no_look}
use Rattle.termination.proofs.Opening.{steps_at_start}

-- who takes no keys is not turned back
calm_turned : (p : PlanParts) (locks : List LockWord) (t : Task) (a : Action) → is_trying t ≡ false → is_turned_back p locks t a ≡ false
calm_turned p locks (Opens n (Locking i)) a q = absurd (false≢true (sym q))
calm_turned p locks (Opens n (Weighed i word)) a q = absurd (false≢true (sym q))
calm_turned p locks _ a q = refl

-- what a try takes, where there is one
abbrev pub try_if : PlanParts → Bool → ℕ
try_if p b = cond b (steps_of_a_try p) 0

decided_turned : (p : PlanParts) (reply : Reply) (locks : List LockWord) (t : Task) (a : Action) → try_if p (is_turned_back p locks (decided p reply t) a) ≤ try_if p (is_turned_back p locks t a)
decided_turned p reply locks t a = decided_no_higher p reply (λ (x : Task). try_if p (is_turned_back p locks x a)) (λ x calm. ap (try_if p) (calm_turned p locks x a calm)) t

-- what the reply decides leaves no more
pub decided_left : (p : PlanParts) (s : State) (w : ℕ) (reply : Reply) (seat : Seat) → slice_get s.seats w ≡ Some seat → steps_left p (decides p s w reply seat) ≤ steps_left p s
decided_left p s w reply seat is = task_no_higher p s w seat is (decided_seat p reply seat) (decided_steps p reply seat.task)

module _ (p : PlanParts) (core : IsCorePlan p) (replies : ℕ → List Reply) (s : State) (g : ℕ → Stage) (h : Holds p replies s g) (w : ℕ) (seat : Seat) (is : slice_get s.seats w ≡ Some seat) (a : Action) where
  abbrev Falls : State → Type 0
  Falls t = steps_left p t < steps_left p s + try_if p (is_turned_back p s.locks seat.task a)

  -- a step of which the words, the counters and the history say nothing
  moved : (locks : List LockWord) (old new : Task) → seat.task ≡ old → task_steps p new < task_steps p old + try_if p (is_turned_back p s.locks seat.task a) → Falls (record s { locks = locks; seats = set s.seats w (with_task seat new) })
  moved locks old new e less =
      let moves = task_moves p s w seat is locks s.cancel s.shown (with_task seat new) in
      plain _ _ (task_steps p seat.task) (task_steps p old) (task_steps p new) _ moves (ap (task_steps p) e) less
    where
      plain : (after before seat old new more : ℕ) → after + seat ≡ before + new → seat ≡ old → new < old + more → after < before + more
      plain after before seat old new more a b less = omega (arith, a, b, less)

  pub plain_lowers : (reply : Reply) (t : State) → row p s w seat reply a ≡ Some t → Plain p s w seat.task a t → steps_left p t < steps_left p s
  plain_lowers reply t q k = row_pays p core replies s g h w seat is reply a (no_look p s w seat.task a t k) k.clear t q

  plain_falls : (reply : Reply) (t : State) → row p s w seat reply a ≡ Some t → Plain p s w seat.task a t → Falls t
  plain_falls reply t q k = (let lower = plain_lowers reply t q k in plain (steps_left p t) (steps_left p s) _ lower)
    where
      plain : (after before more : ℕ) → after < before → after < before + more
      plain after before more lower = omega (arith, lower)

  opens : (n : ℕ) (d : Opening) → seat.task ≡ Opens n d → (n < size p.tree) × (g n ≡ OpenedBy w d)
  opens n d e = subst (TaskOk p g w) e (h.seats w seat is).task

  opened : (n : ℕ) (d : Opening) → seat.task ≡ Opens n d → OpeningOk p replies s.published n d
  opened n d e = (let at = opens n d e in subst (ShapeOk p replies s.published n) at.1 (h.shapes n at.0))

  turned_so : (b : Bool) → is_turned_back p s.locks seat.task a ≡ b → try_if p (is_turned_back p s.locks seat.task a) ≡ try_if p b
  turned_so b e = ap (try_if p) e

  weigh_falls : (t : State) → Weighs p s w seat seat.task a t → Falls t
  weigh_falls t k = subst Falls (sym k.is) (go (admits_at p k.node k.place word) refl)
    where
      word : LockWord
      word = lock_at s (key_at p k.node k.place)

      inside : k.place < keys_count p k.node
      inside = (opened k.node (Locking k.place) k.task).0

      goes_on : (d : Opening) → weighed p k.node k.place word ≡ d → task_steps p (Opens k.node d) < task_steps p (Opens k.node (Locking k.place)) + try_if p (is_turned_back p s.locks seat.task a) → Falls (goes s w seat (Opens k.node (weighed p k.node k.place word)))
      goes_on d e less = subst (λ (x : Opening). Falls (goes s w seat (Opens k.node x))) (sym e) (moved s.locks (Opens k.node (Locking k.place)) (Opens k.node d) k.task less)

      go : (free : Bool) → admits_at p k.node k.place word ≡ free → Falls (goes s w seat (Opens k.node (weighed p k.node k.place word)))
      go true e = goes_on (Weighed k.place word) (cond-true (admits_at p k.node k.place word) (Weighed k.place word) (Backing k.place) e) (omega arith)
      go false e =
          let busy : is_turned_back p s.locks seat.task a ≡ true = ap (λ (x : Task). is_turned_back p s.locks x a) k.task ∙ ap (is_turned_back p s.locks (Opens k.node (Locking k.place))) k.action ∙ ap not e in
          let more = turned_so true busy in
          let few = keys_few p k.node in
          let low = inside in
          goes_on (Backing k.place) (cond-false (admits_at p k.node k.place word) (Weighed k.place word) (Backing k.place) e) (omega (arith, more, few, low))

  miss_falls : (t : State) → Misses p s w seat seat.task a t → Falls t
  miss_falls t k =
      let word : lock_at s (key_at p k.node k.place) ≡ k.word = get_or_from_slice_get s.locks (key_at p k.node k.place) k.word (Readers 0) k.found in
      let missed : is_turned_back p s.locks seat.task a ≡ true = ap (λ (x : Task). is_turned_back p s.locks x a) k.task ∙ ap (is_turned_back p s.locks (Opens k.node (Weighed k.place k.seen))) k.action ∙ ap (λ (x : LockWord). not (same_word x k.seen)) word ∙ ap not k.changed in
      let more = turned_so true missed in
      let few = keys_few p k.node in
      let low : k.place < keys_count p k.node = (opened k.node (Weighed k.place k.seen) k.task).0 in
      subst Falls (sym k.is) (moved s.locks (Opens k.node (Weighed k.place k.seen)) (Opens k.node (Locking k.place)) k.task (omega (arith, more, few, low)))

  back_falls : (t : State) → Backs p s w seat seat.task t → Falls t
  back_falls t k = subst Falls (sym k.is) (moved (set s.locks (key_at p k.node k.place) (given_back (mode_at p k.node k.place) k.word)) (Opens k.node (Backing (suc k.place))) (Opens k.node (Backing k.place)) k.task (omega arith))

  given_up_falls : (t : State) → GivesUp p s w seat seat.task t → Falls t
  given_up_falls t k = subst Falls (sym k.is) (
      let at = opens k.node (Backing zero) k.task in
      let claimed : status_steps p k.node (status_at s k.node) ≡ if_fast p + keys_count p k.node = ap (status_steps p k.node) (h.words k.node at.0) ∙ ap (λ (x : Stage). status_steps p k.node (picture p k.node x).word) at.1 in
      let moves = status_moves p s w seat is k.node (Ready (back_to p w k.node)) (with_task seat Free) at.0 h.statuses_len in
      plain _ _ (status_steps p k.node (status_at s k.node)) (task_steps p seat.task) (keys_count p k.node) (if_fast p) (if_skippable p k.node) (most_keys p) _ moves claimed (ap (task_steps p) k.task) (bit_few _))
    where
      plain : (after before was seat keys fast skip most more : ℕ) → after + was + seat ≡ before + (skip + fast + 3 * keys) + (2 + most) → was ≡ fast + keys → seat ≡ 4 + 2 * keys + 0 + most → skip ≤ 1 → after < before + more
      plain after before was seat keys fast skip most more a b c d = omega (arith, a, b, c, d)

  -- who is on the way back is not turned back
  lowers : (t : State) (i n : ℕ) → seat.task ≡ Opens n (Backing i) → Falls t → steps_left p t < steps_left p s
  lowers t i n e falls = (let none = turned_so false (ap (λ (x : Task). is_turned_back p s.locks x a) e) in omega (arith, falls, none))

  pub back_lowers : (t : State) → Backs p s w seat seat.task t → steps_left p t < steps_left p s
  back_lowers t k = lowers t (suc k.place) k.node k.task (back_falls t k)

  pub given_up_lowers : (t : State) → GivesUp p s w seat seat.task t → steps_left p t < steps_left p s
  given_up_lowers t k = lowers t zero k.node k.task (given_up_falls t k)

  -- the step leaves less, or it changed nothing
  pub kind_falls : (reply : Reply) (t : State) → row p s w seat reply a ≡ Some t → Kind p s w seat seat.task a t → ((seat.task ≡ Free) × (t ≡ s)) ⊎ Falls t
  kind_falls reply t q (AsFree look free same) = inl (free, same)
  kind_falls reply t q (AsPlain k) = inr (plain_falls reply t q k)
  kind_falls reply t q (AsWeigh k) = inr (weigh_falls t k)
  kind_falls reply t q (AsMiss k) = inr (miss_falls t k)
  kind_falls reply t q (AsBack k) = inr (back_falls t k)
  kind_falls reply t q (AsGivenUp k) = inr (given_up_falls t k)

module _ (p : PlanParts) (core : IsCorePlan p) (replies : ℕ → List Reply) where
  step_falls : (s t : State) (a : Step) → IsKept p replies s → IsReplied p replies s a → after p s a ≡ Some t → (t ≡ s) ⊎ (steps_left p t < steps_left p s + try_if p (turns_back p s a))
  step_falls s t Dispatches kept replied q = (let falls = read_pays p s t q in inr (omega (arith, falls)))
  step_falls s t (Works w a reply) kept replied q = go (acts_so p core replies s t w a reply kept replied q)
    where
      go : Acts p replies s w a reply t → (t ≡ s) ⊎ (steps_left p t < steps_left p s + try_if p (turns_back p s (Works w a reply)))
      go x = elim (kind_falls p core replies (decides p s w reply x.seat) x.kept.0 x.kept.1 w (decided_seat p reply x.seat) x.here a reply t x.makes x.kind) [
        | inl same ↦ inl (same.1 ∙ free_same p s w reply x.seat x.is same.0)
        | inr falls ↦ inr (
            let no_more = decided_left p s w reply x.seat x.is in
            let turned = decided_turned p reply s.locks x.seat.task a in
            let flag : turns_back p s (Works w a reply) ≡ is_turned_back p s.locks x.seat.task a = ap (turns_seat_back p s a) x.is in
            let same = ap (try_if p) flag in
            plain _ _ _ _ _ _ falls no_more turned same)
      ]
        where
          plain : (all here before more2 more more3 : ℕ) → all < here + more2 → here ≤ before → more2 ≤ more → more3 ≡ more → all < before + more3
          plain all here before more2 more more3 a b c d = omega (arith, a, b, c, d)

  -- one more step of a list
  counted : (b : Bool) (times each : ℕ) → (bit b + times) * each ≡ cond b each 0 + times * each
  counted true times each =
      let one : bit true + times ≡ suc times = omega arith in
      let more = ap (λ (k : ℕ). k * each) one ∙ suc-mul times each in
      omega (arith, more)
  counted false times each =
      let none : bit false + times ≡ times = omega arith in
      let same = ap (λ (k : ℕ). k * each) none in
      omega (arith, same)

  -- A list of taken steps is no longer than what is left, and the tries that it takes more.
  pub list_falls : (s : State) (list : List Step) → IsKept p replies s → AllReplied p replies s list → AllTaken p s list → length list ≤ steps_left p s + times_turned_back p s list * (steps_of_a_try p)
  list_falls s [] kept replied taken = omega arith
  list_falls s (a ∷ list) kept replied taken =
      let first : IsTaken p s a = taken.0 in
      let goes : next p s a ≡ first.made = ap (or_stays s) first.is in
      let kept2 : IsKept p replies (next p s a) = subst (IsKept p replies) (sym goes) (after_keeps p core replies s first.made a kept replied.0 first.is) in
      let rest = list_falls (next p s a) list kept2 replied.1 taken.1 in
      let same = ap (steps_left p) goes in
      let times = counted (turns_back p s a) (times_turned_back p (next p s a) list) (steps_of_a_try p) in
      elim (step_falls s first.made a kept replied.0 first.is) [
        | inl stays ↦ absurd (first.other stays)
        | inr falls ↦ plain (length list) (steps_left p (next p s a)) (steps_left p first.made) (steps_left p s) (try_if p (turns_back p s a)) _ _ rest same falls times
      ]
    where
      plain : (len after made before once rest all : ℕ) → len ≤ after + rest → after ≡ made → made < before + once → all ≡ once + rest → suc len ≤ before + all
      plain len after made before once rest all a b c d = omega (arith, a, b, c, d)

pub bounded : (p : PlanParts) → IsPlan p → IsBounded p
bounded p plan replies workers few list replied taken =
    let core = core_plan p plan.tree in
    let falls = list_falls p core replies (opening p workers) list (opening_is p core replies workers few) replied taken in
    let most = steps_at_start p plan workers in
    plain _ _ _ _ falls most
  where
    plain : (len left tries most : ℕ) → len ≤ left + tries → left ≤ most → len ≤ most + tries
    plain len left tries most a b = omega (arith, a, b)
