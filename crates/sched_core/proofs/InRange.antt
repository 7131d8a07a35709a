-- What a worker's step finds in range, from what the machine keeps.
use Rattle.std.proofs.Common.{◌≡◌, ◌∙◌, ◌<◌, ◌+◌, ℕ, suc, List, Some, slice_get, refl, sym, ap, subst, arith, ◌≤◌, ◌||◌, not, length}
use Rattle.std.proofs.lemmas.Option.{same_Some, none-some, slice_get_within}
use Rattle.descriptor.specs.Nodes.{size, is_spare_at, body_of}
use Rattle.plan_events.specs.declared.event.Event.{Event}
use Rattle.plan_events.specs.declared.outcome.Reply.{Reply}
use Rattle.resource_locks.specs.Plans.{PlanParts}
use Rattle.scheduling.specs.declared.step.Action.{Action}
use Rattle.scheduling.specs.declared.task.Opening.TheVariants.{Backing, Awaiting}
use Rattle.scheduling.specs.declared.task.Closing.TheVariants.{Giving, Ending, Raising, AwaitingAfter}
use Rattle.scheduling.specs.declared.task.Task.{Task}
use Rattle.scheduling.specs.declared.task.Task.TheVariants.{Opens, Closes}
use Rattle.scheduling.specs.declared.seat.Seat.{Seat}
use Rattle.scheduling.specs.Choices.{keys_count, is_leaf, status_by, admit_from, decided}
use Rattle.scheduling.specs.Inside.Ranges.{InRange}
use Rattle.scheduling.specs.Rows.{decided_seat}
use Rattle.scheduling.specs.State.{subject}
use Rattle.scheduling.proofs.Ranges.{ranges, ranges_decided, draw_room}
use Rattle.scheduling.specs.Due.{event_due, Back, back_at, back_due}
use Rattle.scheduling.proofs.DueRows.{draw_is}
use Rattle.sched_core.specs.declared.machine.Machine.{Machine}
use Rattle.sched_core.specs.Inside.Bounds.{HasKey, HasPlace, InBounds}
use Rattle.sched_core.specs.Inside.Fields.{state_of, IsSound}
use Rattle.sched_core.specs.Replies.{replies_of}
use Rattle.sched_core.specs.Steps.{reply_for}
use Rattle.sched_core.proofs.Sound.{replied}
use Rattle.descriptor.proofs.Counts.{count_most}
use Rattle.plan_events.specs.declared.status.Status.{Status}
use Rattle.plan_events.specs.Statuses.{is_successful}
use Rattle.event_history.specs.Failures.{failures}
use Rattle.event_history.specs.Plans.{sort_of}
use Rattle.event_history.proofs.Failures.{failures_few}
use Rattle.event_history.proofs.EventBound.{legal_few}
use Rattle.scheduling.specs.declared.task.Opening.{Opening}
use Rattle.scheduling.proofs.RowsOne.{by_cond, closing_shape}
use Rattle.scheduling.proofs.Raising.{raised_few}
use Rattle.scheduling.proofs.Headline.{core_plan}

-- a key that is given back is one of the node's
back_key : (p : PlanParts) (t : Task) (b : Back) → back_due t ≡ Some b → ((n : ℕ) → subject t ≡ Some n → n < size p.tree) → ((n i : ℕ) → t ≡ Opens n (Backing (i + 1)) → i < keys_count p n) → ((n i : ℕ) → t ≡ Closes n (Giving (i + 1)) → i < keys_count p n)
    → HasKey p b.node b.place
back_key p (Opens n (Backing (suc i))) b q inside backs gives = subst (λ (x : Back). HasKey p x.node x.place) (same_Some (back_at n i) b q) (record { node = inside n refl; key = backs n i (ap (λ k. Opens n (Backing k)) (omega arith)) })
back_key p (Closes n (Giving (suc i))) b q inside backs gives = subst (λ (x : Back). HasKey p x.node x.place) (same_Some (back_at n i) b q) (record { node = inside n refl; key = gives n i (ap (λ k. Closes n (Giving k)) (omega arith)) })
back_key p _ b q inside backs gives = absurd (none-some b q)

-- no reply decides that a failure is raised
raising_stays : (p : PlanParts) (reply : Reply) (n : ℕ) (t : Task) → decided p reply t ≡ Closes n Raising → t ≡ Closes n Raising
raising_stays p reply n (Opens x Awaiting) q =
    absurd (by_cond (λ (t : Task). t ≡ Closes n Raising → ⊥) (is_leaf (sort_of p.tree x) || not (is_successful (status_by (body_of p.tree x) reply))) (Closes x (Ending (status_by (body_of p.tree x) reply))) (Opens x (admit_from p x 0))
    (λ c r. ends_apart x (status_by (body_of p.tree x) reply) r) (λ c r. opens_apart x (admit_from p x 0) r) q)
  where
    ends_apart : (x : ℕ) (status : Status) → Closes x (Ending status) ≡ Closes n Raising → ⊥
    ends_apart x status r = cc

    opens_apart : (x : ℕ) (d : Opening) → Opens x d ≡ Closes n Raising → ⊥
    opens_apart x d r = cc
raising_stays p reply n (Closes x AwaitingAfter) q = absurd (ends_apart x reply.outcome.status q)
  where
    ends_apart : (x : ℕ) (status : Status) → Closes x (Ending status) ≡ Closes n Raising → ⊥
    ends_apart x status r = cc
raising_stays p reply n _ q = q

module _ (p : PlanParts) (answers : List (ℕ × Reply)) (m : Machine) (sound : IsSound p answers m) (w : ℕ) (seat : Seat) (is : slice_get m.seats.items w ≡ Some seat) (a : Action) where
  range : InRange p (state_of m) w (decided_seat p (reply_for p answers seat) seat)
  range = ranges_decided p sound.plan (replies_of answers) (state_of m) sound.live.kept sound.live.placed w a (reply_for p answers seat) seat (replied p answers (state_of m) w a seat is) is

  has_place : (e : Event) → event_due w (decided_seat p (reply_for p answers seat) seat).task ≡ Some e → HasPlace m
  has_place e q =
      let d = decided_seat p (reply_for p answers seat) seat in
      let drawn = draw_is (state_of m) w d e d.task q in
      let room = draw_room p sound.plan (replies_of answers) (state_of m) sound.live.kept w a (reply_for p answers seat) seat (replied p answers (state_of m) w a seat is) is _ drawn in
      record {
        published = omega (arith, room, sound.room.published);
        shown = (let as_many = sound.live.kept.1.shown_len in omega (arith, room, sound.room.shown, as_many));
        given = omega (arith, sound.given);
      }

  -- a failure is raised once, and there are no more failures than events
  raises_few : (n : ℕ) → (decided_seat p (reply_for p answers seat) seat).task ≡ Closes n Raising → m.cancel < 65535
  raises_few n e =
      let kept = sound.live.kept in
      let here : seat.task ≡ Closes n Raising = raising_stays p (reply_for p answers seat) n seat.task e in
      let fast = (closing_shape p (core_plan p sound.plan.tree) (replies_of answers) (state_of m) kept.0 kept.1 w seat is n Raising here).2 in
      let some : m.cancel ≤ failures m.published.items = raised_few p (replies_of answers) (state_of m) kept.0 kept.1 fast in
      let all = failures_few m.published.items in
      let few = legal_few p (replies_of answers) (length m.seats.items) m.published.items kept.1.published.legal in
      omega (arith, some, all, few, sound.plan.tree.few, count_most (is_spare_at p.tree) (size p.tree))

  pub bounds : InBounds p m w (decided_seat p (reply_for p answers seat) seat)
  bounds = record {
    place = slice_get_within m.seats.items w seat is;
    few = (let lt = slice_get_within m.seats.items w seat is in let few = sound.live.kept.1.workers_few in omega (arith, lt, few));
    statuses = sound.live.kept.1.statuses_len;
    counters = sound.live.kept.1.counters_len;
    results = sound.live.kept.1.results_len;
    opens = λ n d e. range.inside n (ap subject e);
    closes = λ n d e. range.inside n (ap subject e);
    hand = λ h e. record { inside = range.hand h e; factory = range.factory h e; counter = subst (λ k. h.factory < k) (sym sound.live.kept.1.counters_len) (range.hand h e); few = range.counter h e };
    registered = range.registered;
    room = λ e q. has_place e q;
    shown = range.shown;
    locking = λ n i e. record { node = range.inside n (ap subject e); key = range.locking n i e };
    weighed = λ n i v e. record { node = range.inside n (ap subject e); key = range.weighed n i v e };
    backs = λ b q. back_key p (decided_seat p (reply_for p answers seat) seat).task b q range.inside range.backs range.gives;
    readers = range.readers;
    admits = λ n c d e q. range.admits n c (e ∙ ap (Opens n) q);
    passes = range.passes;
    counts = λ c e. record { above_zero = range.counts c e; inside = range.inside c (ap subject e) };
    looks = λ n k e. record { above_zero = range.looks n k e; inside = range.inside n (ap subject e) };
    raises = raises_few;
  }

  -- the task that is not decided yet is in range too
  pub undecided : InRange p (state_of m) w seat
  undecided = ranges p sound.plan (replies_of answers) (state_of m) sound.live.kept sound.live.placed w seat is
