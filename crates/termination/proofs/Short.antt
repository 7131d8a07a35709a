-- Where nodes that want a key in conflict take turns each step leaves less: a weigh is no progress but for the key's turn, a missed take costs
-- the turn that a changed word gave, and a word changes only by a step of progress.
use Rattle.std.proofs.Common.{◌≡◌, ℕ, suc, ◌+◌, ◌*◌, ◌<◌, ◌≤◌, Bool, true, false, cond, List, [], ◌∷◌, length, set, sum_by, Some, slice_get, slice_index_or, ◌⊎◌, inl, inr, refl, sym, ap, ◌∙◌, subst, arith, length-set}
use Rattle.std.proofs.lemmas.Option.{get_or_from_slice_get}
use Rattle.std.proofs.lemmas.Bool.{false≢true, cond-true, cond-false}
use Rattle.std.proofs.lemmas.List.{length-replicate}
use Rattle.std.proofs.Math.Nat.{mul-le-mul_right}
use Rattle.descriptor.specs.Nodes.{size}
use Rattle.plan_events.specs.declared.outcome.Reply.{Reply}
use Rattle.resource_locks.specs.Plans.{PlanParts, IsPlan}
use Rattle.scheduling.specs.declared.lock_word.LockWord.{LockWord}
use Rattle.scheduling.specs.declared.lock_word.LockWord.TheVariants.{Readers}
use Rattle.scheduling.specs.declared.task.Opening.{Opening}
use Rattle.scheduling.specs.declared.task.Opening.TheVariants.{Locking, Weighed, Backing}
use Rattle.scheduling.specs.declared.task.Task.{Task}
use Rattle.scheduling.specs.declared.task.Task.TheVariants.{Free, Opens}
use Rattle.scheduling.specs.declared.seat.Seat.{Seat}
use Rattle.scheduling.specs.declared.step.Action.{Action}
use Rattle.scheduling.specs.State.{State, lock_at}
use Rattle.scheduling.specs.Choices.{key_at, mode_at, admits_at, same_word}
use Rattle.scheduling.specs.Rows.{with_task, goes, weighed, row, decided_seat, Step, Works, Dispatches, after}
use Rattle.scheduling.specs.Runs.{opening, IsReplied, AllReplied, or_stays, next}
use Rattle.scheduling.specs.Inside.Stages.{Stage, OpenedBy}
use Rattle.scheduling.specs.Inside.Invariant.{IsCorePlan, TaskOk, OpeningOk, ShapeOk, Holds, IsKept}
use Rattle.scheduling.specs.Inside.Start.{free_seat}
use Rattle.scheduling.proofs.Headline.{core_plan}
use Rattle.scheduling.proofs.FirstState.{opening_is}
use Rattle.scheduling.proofs.GoingTurns.{word_is}
use Rattle.scheduling.proofs.Steps.{after_keeps}
use Rattle.never_stuck.proofs.Able.{is_trying}
use Rattle.termination.specs.Bounds.{most_steps}
use Rattle.termination.specs.Conflicts.{IsFreeOfConflict}
use Rattle.termination.specs.Endings.{IsShort}
use Rattle.termination.specs.Inside.Accounts.{task_steps, steps_left}
use Rattle.termination.specs.Steps.{IsTaken, AllTaken}
use Rattle.termination.proofs.Apart.{never_busy}
use Rattle.termination.proofs.Bounded.{decided_left, plain_lowers, back_lowers, given_up_lowers}
use Rattle.termination.proofs.Payments.{task_moves, read_pays}
use Rattle.termination.proofs.StepKinds.{is_midway, decided_no_higher, Plain, Weighs, Misses, Backs, GivesUp, Kind, AsFree, AsPlain, AsWeigh, AsMiss, AsBack, AsGivenUp}
use Rattle.termination.proofs.Opening.{steps_at_start, sum_replicate}
use Rattle.termination.proofs.Sums.{sum_moves, sum_no_higher, sum_few, times_lower, times_no_higher}
use Rattle.termination.proofs.Acting.{decides, Acts, acts_so, free_same, read_same}

-- A worker that has weighed a key has come no farther than one that is to weigh it.
abbrev pub weighed_rank : Task → ℕ
weighed_rank (Opens n (Weighed i word)) = 1
weighed_rank _ = 0

-- Its turn at the key: to weigh it; then to take it, which is none where the key has still the word, and two where it has another.
abbrev pub turn_rank : PlanParts → List LockWord → Task → ℕ
turn_rank p locks (Opens n (Locking i)) = 1
turn_rank p locks (Opens n (Weighed i word)) = cond (same_word (slice_index_or locks (key_at p n i) (Readers 0)) word) 0 2
turn_rank p locks _ = 0

abbrev pub seat_weighed : Seat → ℕ
seat_weighed seat = weighed_rank seat.task

abbrev pub seat_turn : PlanParts → List LockWord → Seat → ℕ
seat_turn p locks seat = turn_rank p locks seat.task

-- what is left to progress, and then the turns
abbrev pub progress_left : PlanParts → State → ℕ
progress_left p s = steps_left p s + sum_by seat_weighed s.seats

abbrev pub turns_left : PlanParts → State → ℕ
turns_left p s = sum_by (seat_turn p s.locks) s.seats

abbrev pub all_left : PlanParts → ℕ → State → ℕ
all_left p workers s = progress_left p s * (2 * workers + 1) + turns_left p s

ahead_weighed : (t : Task) → is_midway t ≡ false → weighed_rank t ≡ 0
ahead_weighed (Opens n (Weighed i word)) q = absurd (false≢true (sym q))
ahead_weighed _ q = refl

calm_weighed : (t : Task) → is_trying t ≡ false → weighed_rank t ≡ 0
calm_weighed (Opens n (Weighed i word)) q = absurd (false≢true (sym q))
calm_weighed _ q = refl

calm_turn : (p : PlanParts) (locks : List LockWord) (t : Task) → is_trying t ≡ false → turn_rank p locks t ≡ 0
calm_turn p locks (Opens n (Locking i)) q = absurd (false≢true (sym q))
calm_turn p locks (Opens n (Weighed i word)) q = absurd (false≢true (sym q))
calm_turn p locks _ q = refl

pub turn_few : (p : PlanParts) (locks : List LockWord) (t : Task) → turn_rank p locks t ≤ 2
turn_few p locks (Opens n (Locking i)) = omega arith
turn_few p locks (Opens n (Weighed i word)) = by_word (same_word (slice_index_or locks (key_at p n i) (Readers 0)) word)
  where
    by_word : (b : Bool) → cond b 0 2 ≤ 2
    by_word true = omega arith
    by_word false = omega arith
turn_few p locks _ = omega arith

-- one of so many workers has made the state t
pub record Shortens (p : PlanParts) (workers : ℕ) (s t : State) : Type 0 where
  pub less : all_left p workers t < all_left p workers s
  pub crew : length t.seats ≡ workers

-- what the states of such a run have
pub record IsUndisturbed (p : PlanParts) (replies : ℕ → List Reply) (workers : ℕ) (s : State) : Type 0 where
  pub kept : IsKept p replies s
  pub crew : length s.seats ≡ workers

-- and a step of it
pub record Goes (p : PlanParts) (replies : ℕ → List Reply) (workers : ℕ) (s t : State) : Type 0 where
  pub less : all_left p workers t < all_left p workers s
  pub then_so : IsUndisturbed p replies workers t

-- what the reply decides leaves no more
decided_all : (p : PlanParts) (workers : ℕ) (s : State) (w : ℕ) (reply : Reply) (seat : Seat) → slice_get s.seats w ≡ Some seat → all_left p workers (decides p s w reply seat) ≤ all_left p workers s
decided_all p workers s w reply seat is =
    let lower = decided_left p s w reply seat is in
    let sums = sum_no_higher seat_weighed s.seats w seat (decided_seat p reply seat) is (decided_no_higher p reply weighed_rank calm_weighed seat.task) in
    let turns = sum_no_higher (seat_turn p s.locks) s.seats w seat (decided_seat p reply seat) is (decided_no_higher p reply (turn_rank p s.locks) (calm_turn p s.locks) seat.task) in
    times_no_higher (2 * workers + 1) (progress_left p (decides p s w reply seat)) (progress_left p s) (turns_left p (decides p s w reply seat)) (turns_left p s)
    (plain (steps_left p (decides p s w reply seat)) (steps_left p s) _ _ lower sums) turns
  where
    plain : (after before sum2 sum : ℕ) → after ≤ before → sum2 ≤ sum → after + sum2 ≤ before + sum
    plain after before sum2 sum a b = omega (arith, a, b)

module _ (p : PlanParts) (plan : IsPlan p) (apart : IsFreeOfConflict p) (core : IsCorePlan p) (replies : ℕ → List Reply) (workers : ℕ) where
  module _ (s : State) (g : ℕ → Stage) (h : Holds p replies s g) (w : ℕ) (seat : Seat) (is : slice_get s.seats w ≡ Some seat) (crew : length s.seats ≡ workers) where
    -- less is left, and nobody has weighed a key
    lower_shortens : (t : State) (new : Seat) → t.seats ≡ set s.seats w new → steps_left p t < steps_left p s → weighed_rank new.task ≡ 0 → Shortens p workers s t
    lower_shortens t new seats falls ahead =
        let sums = sum_no_higher seat_weighed s.seats w seat new is (omega (arith, ahead)) in
        let same = ap (sum_by seat_weighed) seats in
        let count : length t.seats ≡ workers = ap length seats ∙ length-set s.seats w new ∙ crew in
        let few = sum_few (seat_turn p t.locks) 2 (λ o. turn_few p t.locks o.task) t.seats in
        record {
          less = times_lower (2 * workers + 1) (progress_left p t) (progress_left p s) (turns_left p t) (turns_left p s) (plain (steps_left p t) (steps_left p s) _ _ _ falls sums same) (omega (arith, few, count));
          crew = count;
        }
      where
        plain : (after before sum2 set_sum sum : ℕ) → after < before → set_sum ≤ sum → sum2 ≡ set_sum → after + sum2 < before + sum
        plain after before sum2 set_sum sum a b c = omega (arith, a, b, c)

    plain_shortens : (reply : Reply) (a : Action) (t : State) → row p s w seat reply a ≡ Some t → Plain p s w seat.task a t → Shortens p workers s t
    plain_shortens reply a t q k = lower_shortens t k.new k.seats (plain_lowers p core replies s g h w seat is a reply t q k) (ahead_weighed k.new.task k.ahead)

    back_shortens : (a : Action) (t : State) → Backs p s w seat seat.task t → Shortens p workers s t
    back_shortens a t k = lower_shortens t (with_task seat (Opens k.node (Backing k.place))) (ap (λ (x : State). x.seats) k.is) (back_lowers p core replies s g h w seat is a t k) refl

    given_up_shortens : (a : Action) (t : State) → GivesUp p s w seat seat.task t → Shortens p workers s t
    given_up_shortens a t k = lower_shortens t (with_task seat Free) (ap (λ (x : State). x.seats) k.is) (given_up_lowers p core replies s g h w seat is a t k) refl

    -- no progress, but the worker's turn goes down
    turned : (old new : Task) → seat.task ≡ old → task_steps p new + weighed_rank new ≡ task_steps p old + weighed_rank old → turn_rank p s.locks new < turn_rank p s.locks old → Shortens p workers s (goes s w seat new)
    turned old new e same less =
        let moves = task_moves p s w seat is s.locks s.cancel s.shown (with_task seat new) in
        let sums = sum_moves seat_weighed s.seats w seat (with_task seat new) is in
        let turn = sum_moves (seat_turn p s.locks) s.seats w seat (with_task seat new) is in
        let ranks : task_steps p new + weighed_rank new ≡ task_steps p seat.task + weighed_rank seat.task = same ∙ ap (λ (x : Task). task_steps p x + weighed_rank x) (sym e) in
        let turn_is = ap (turn_rank p s.locks) e in
        let progress : progress_left p (goes s w seat new) ≡ progress_left p s = plain _ _ _ _ (task_steps p seat.task) (task_steps p new) (weighed_rank seat.task) (weighed_rank new) moves sums ranks in
        let times = ap (λ (k : ℕ). k * (2 * workers + 1)) progress in
        record {
          less = least _ _ _ _ (turn_rank p s.locks seat.task) (turn_rank p s.locks old) (turn_rank p s.locks new) times turn turn_is less;
          crew = length-set s.seats w (with_task seat new) ∙ crew;
        }
      where
        plain : (after before sum2 sum steps new_steps mark new_mark : ℕ) → after + steps ≡ before + new_steps → sum2 + mark ≡ sum + new_mark → new_steps + new_mark ≡ steps + mark → after + sum2 ≡ before + sum
        plain after before sum2 sum steps new_steps mark new_mark a b c = omega (arith, a, b, c)

        least : (times2 times sum2 sum turn old_turn new_turn : ℕ) → times2 ≡ times → sum2 + turn ≡ sum + new_turn → turn ≡ old_turn → new_turn < old_turn → times2 + sum2 < times + sum
        least times2 times sum2 sum turn old_turn new_turn a b c d = omega (arith, a, b, c, d)

    weigh_shortens : (a : Action) (t : State) → Weighs p s w seat seat.task a t → Shortens p workers s t
    weigh_shortens a t k =
        let at : (k.node < size p.tree) × (g k.node ≡ OpenedBy w (Locking k.place)) = subst (TaskOk p g w) k.task (h.seats w seat is).task in
        let ok : OpeningOk p replies s.published k.node (Locking k.place) = subst (ShapeOk p replies s.published k.node) at.1 (h.shapes k.node at.0) in
        let word : LockWord = lock_at s (key_at p k.node k.place) in
        let free = never_busy p plan apart core replies s g h w k.node k.place at.0 at.1 ok.0 in
        let next : weighed p k.node k.place word ≡ Weighed k.place word = cond-true (admits_at p k.node k.place word) (Weighed k.place word) (Backing k.place) free in
        let fresh : turn_rank p s.locks (Opens k.node (Weighed k.place word)) ≡ 0 = cond-true (same_word word word) 0 2 (word_is word) in
        subst (Shortens p workers s) (sym k.is) (subst (λ (d : Opening). Shortens p workers s (goes s w seat (Opens k.node d))) (sym next)
        (turned (Opens k.node (Locking k.place)) (Opens k.node (Weighed k.place word)) k.task (omega arith) (omega (arith, fresh))))

    miss_shortens : (a : Action) (t : State) → Misses p s w seat seat.task a t → Shortens p workers s t
    miss_shortens a t k =
        let word : lock_at s (key_at p k.node k.place) ≡ k.word = get_or_from_slice_get s.locks (key_at p k.node k.place) k.word (Readers 0) k.found in
        let stale : turn_rank p s.locks (Opens k.node (Weighed k.place k.seen)) ≡ 2 = cond-false (same_word (lock_at s (key_at p k.node k.place)) k.seen) 0 2 (ap (λ (x : LockWord). same_word x k.seen) word ∙ k.changed) in
        subst (Shortens p workers s) (sym k.is) (turned (Opens k.node (Weighed k.place k.seen)) (Opens k.node (Locking k.place)) k.task (omega arith) (omega (arith, stale)))

    pub kind_shortens : (reply : Reply) (a : Action) (t : State) → row p s w seat reply a ≡ Some t → Kind p s w seat seat.task a t → ((seat.task ≡ Free) × (t ≡ s)) ⊎ Shortens p workers s t
    kind_shortens reply a t q (AsFree look free same) = inl (free, same)
    kind_shortens reply a t q (AsPlain k) = inr (plain_shortens reply a t q k)
    kind_shortens reply a t q (AsWeigh k) = inr (weigh_shortens a t k)
    kind_shortens reply a t q (AsMiss k) = inr (miss_shortens a t k)
    kind_shortens reply a t q (AsBack k) = inr (back_shortens a t k)
    kind_shortens reply a t q (AsGivenUp k) = inr (given_up_shortens a t k)

  -- A possible step leaves less, or it is a free worker's look.
  pub step_shortens : (s t : State) (a : Step) → IsUndisturbed p replies workers s → IsReplied p replies s a → after p s a ≡ Some t → (t ≡ s) ⊎ Goes p replies workers s t
  step_shortens s t Dispatches so replied q =
      let falls = read_pays p s t q in
      let same = read_same s t q in
      let sums = ap (sum_by seat_weighed) same.0 in
      let count : length t.seats ≡ workers = ap length same.0 ∙ so.crew in
      let few = sum_few (seat_turn p t.locks) 2 (λ o. turn_few p t.locks o.task) t.seats in
      inr (record {
        less = times_lower (2 * workers + 1) (progress_left p t) (progress_left p s) (turns_left p t) (turns_left p s) (plain _ _ _ _ falls sums) (omega (arith, few, count));
        then_so = record { kept = after_keeps p core replies s t Dispatches so.kept replied q; crew = count };
      })
    where
      plain : (after before sum2 sum : ℕ) → after < before → sum2 ≡ sum → after + sum2 < before + sum
      plain after before sum2 sum a b = omega (arith, a, b)
  step_shortens s t (Works w a reply) so replied q = go (acts_so p core replies s t w a reply so.kept replied q)
    where
      go : Acts p replies s w a reply t → (t ≡ s) ⊎ Goes p replies workers s t
      go x =
          elim (kind_shortens (decides p s w reply x.seat) x.kept.0 x.kept.1 w (decided_seat p reply x.seat) x.here (length-set s.seats w (decided_seat p reply x.seat) ∙ so.crew) reply a t x.makes x.kind) [
            | inl same ↦ inl (same.1 ∙ free_same p s w reply x.seat x.is same.0)
            | inr falls ↦ inr (record {
              less = (let first = falls.less in let no_higher = decided_all p workers s w reply x.seat x.is in omega (arith, first, no_higher));
              then_so = record { kept = after_keeps p core replies s t (Works w a reply) so.kept replied q; crew = falls.crew };
            })
          ]

  -- A list of taken steps is no longer than what is left.
  pub list_shortens : (s : State) (list : List Step) → IsUndisturbed p replies workers s → AllReplied p replies s list → AllTaken p s list → length list ≤ all_left p workers s
  list_shortens s [] so replied taken = omega arith
  list_shortens s (a ∷ list) so replied taken =
      let first : IsTaken p s a = taken.0 in
      let goes_so : next p s a ≡ first.made = ap (or_stays s) first.is in
      elim (step_shortens s first.made a so replied.0 first.is) [
        | inl stays ↦ absurd (first.other stays)
        | inr less ↦ (
            let rest = list_shortens (next p s a) list (subst (IsUndisturbed p replies workers) (sym goes_so) less.then_so) replied.1 taken.1 in
            let same = ap (all_left p workers) goes_so in
            let falls = less.less in
            plain (length list) (all_left p workers (next p s a)) (all_left p workers first.made) (all_left p workers s) rest same falls)
      ]
    where
      plain : (len after made before : ℕ) → len ≤ after → after ≡ made → made < before → suc len ≤ before
      plain len after made before a b c = omega (arith, a, b, c)

pub short : (p : PlanParts) → IsPlan p → IsFreeOfConflict p → IsShort p
short p plan apart replies workers few list replied taken =
    let core = core_plan p plan.tree in
    let so : IsUndisturbed p replies workers (opening p workers) = record { kept = opening_is p core replies workers few; crew = length-replicate workers free_seat } in
    let shortens = list_shortens p plan apart core replies workers (opening p workers) list so replied taken in
    let steps = steps_at_start p plan workers in
    let weighed : sum_by seat_weighed (opening p workers).seats ≡ workers * 0 = sum_replicate seat_weighed free_seat workers in
    let turns : sum_by (seat_turn p (opening p workers).locks) (opening p workers).seats ≡ workers * 0 = sum_replicate (seat_turn p (opening p workers).locks) free_seat workers in
    let most : progress_left p (opening p workers) * (2 * workers + 1) ≤ most_steps p workers * (2 * workers + 1) = mul-le-mul_right (2 * workers + 1) (none _ _ _ steps weighed) in
    plain _ _ _ _ shortens turns most
  where
    none : (steps sum most : ℕ) → steps ≤ most → sum ≡ workers * 0 → steps + sum ≤ most
    none steps sum most a b = omega (arith, a, b)

    plain : (len times turns most : ℕ) → len ≤ times + turns → turns ≡ workers * 0 → times ≤ most → len ≤ most
    plain len times turns most a b c = omega (arith, a, b, c)
