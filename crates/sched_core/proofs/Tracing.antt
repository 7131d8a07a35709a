-- What a trace of the machine tells: each worker's part, and the headline.
use Rattle.std.proofs.Common.{◌≡◌, ◌∙◌, ◌<◌, ◌+◌, ℕ, List, [], length, Some, Result, Ok, Err, IfOk, slice_get, refl, sym, ap, subst, arith}
use Rattle.std.proofs.lemmas.Option.{same_Some, slice_get-get_or, slice_get_within}
use Rattle.plan_events.specs.declared.event.Event.{Event}
use Rattle.plan_events.specs.declared.outcome.Reply.{Reply}
use Rattle.resource_locks.specs.Plans.{PlanParts}
use Rattle.unique_id.specs.Prefixes.{IsPrefix}
use Rattle.event_history.specs.History.{IsLegal, IsComplete}
use Rattle.event_history.specs.Parts.{part_of, EndsInPlan}
use Rattle.event_history.proofs.EventBound.{legal_few}
use Rattle.event_history.proofs.Front.{prefix_legal}
use Rattle.event_history.proofs.PartsOf.{part_prefix, ends_in_plan}
use Rattle.event_history.proofs.Spares.{plan_tree}
use Rattle.event_history.proofs.Apart.{apart}
use Rattle.descriptor.specs.Nodes.{IsTree}
use Rattle.scheduling.proofs.OnlyHistory.{only_history, as_expected}
use Rattle.scheduling.specs.Runs.{opening}
use Rattle.scheduling.proofs.PlanOver.{plan_over}
use Rattle.scheduling.proofs.Scheduled.{drives_only, drives_end}
use Rattle.scheduling.specs.State.{State}
use Rattle.scheduling.specs.Runs.{IsRight as IsStateRight}
use Rattle.scheduling.specs.Shown.{IsShown}
use Rattle.scheduling.proofs.Headline.{core_plan, kept_right}
use Rattle.sched_core.specs.declared.machine.Machine.{Machine}
use Rattle.sched_core.specs.declared.trace.Trace.{Trace}
use Rattle.sched_core.specs.Replies.{reply_of, replies_of}
use Rattle.sched_core.specs.Inside.Fields.{state_of, parts_upto, IsSound}
use Rattle.sched_core.specs.Inside.Rounds.{IsOver}
use Rattle.sched_core.specs.Drives.{Drives, reply_given}
use Rattle.sched_core.specs.Runs.{IsRight}
use Rattle.sched_core.specs.Traces.{lists_of, IsTraceOf, IsRightTrace, IsDriven, IsOnlyDriven, IsShownAtEnd, IsWhole, IsOfOneWorker, KeepsApart, HasExpected, IsOnlyHistory}
use Rattle.sched_core.proofs.Parts.{parts_len, parts_at}

-- the lists of all workers are as many, and each is the worker's part
pub as_many : (lists : List (List Event)) (workers seats : ℕ) (h : List Event) → lists ≡ parts_upto workers h → seats ≡ workers → length lists ≡ seats
as_many lists workers seats h are same = ap length are ∙ parts_len workers h ∙ sym same

pub each_part : (lists : List (List Event)) (workers seats : ℕ) (h : List Event) → lists ≡ parts_upto workers h → seats ≡ workers → (w : ℕ) → w < seats → slice_get lists w ≡ Some (part_of (w + 1) h)
each_part lists workers seats h are same w lt =
    let inside : w < length (parts_upto workers h) = omega (arith, lt, same, parts_len workers h) in
    ap (λ (l : List (List Event)). slice_get l w) are ∙ slice_get-get_or (parts_upto workers h) w [] inside ∙ ap Some (parts_at workers w h (omega (arith, lt, same)))

-- the headline, of a trace of a sound machine
module _ (p : PlanParts) (answers : List (ℕ × Reply)) (m : Machine) (sound : IsSound p answers m) (workers passed : ℕ) (count : m.workers ≡ workers) (t : Trace) (is : IsTraceOf (state_of m) passed t) where
  right_state : IsStateRight p (replies_of answers) (length m.seats.items) (state_of m)
  right_state = kept_right p (core_plan p sound.plan.tree) (replies_of answers) (state_of m) sound.live.kept sound.live.placed

  given_first : IsPrefix (state_of m).given m.published.items
  given_first = right_state.given

  pub right_trace : IsRightTrace p answers workers t
  right_trace =
      let seats : length m.seats.items ≡ workers = sound.workers ∙ count in
      let legal : IsLegal p (replies_of answers) workers m.published.items = subst (λ (n : ℕ). IsLegal p (replies_of answers) n m.published.items) seats right_state.legal in
      let here : IsRight p answers workers m.published.items (state_of m).given (lists_of t.mine) = record {
        legal = legal;
        order = right_state.order;
        exclusive = right_state.exclusive;
        within = right_state.within;
        few = legal_few p (replies_of answers) workers m.published.items legal;
        given_first = given_first;
        given_legal = prefix_legal p (replies_of answers) workers (state_of m).given m.published.items given_first legal;
        lists = is.lists ∙ seats;
        parts = λ w lt. is.mine w (omega (arith, lt, seats));
        given_parts = λ w list at.
            (let inside = slice_get_within (lists_of t.mine) w list at in
            let same : part_of (w + 1) m.published.items ≡ list = same_Some (part_of (w + 1) m.published.items) list (sym (is.mine w (omega (arith, inside, is.lists))) ∙ at) in
            subst (IsPrefix (part_of (w + 1) (state_of m).given)) same (part_prefix (w + 1) (state_of m).given m.published.items given_first));
        last = right_state.last;
        complete = right_state.complete;
      } in
      subst (λ (g : List Event). IsRight p answers workers t.published.items g (lists_of t.mine)) (sym is.given)
      (subst (λ (h : List Event). IsRight p answers workers h (state_of m).given (lists_of t.mine)) (sym is.published) here)

  -- and what was given was shown
  pub shown_trace : IsShown (state_of m) t.given.items
  shown_trace = subst (IsShown (state_of m)) (sym is.given) right_state.shown

  -- where the run is over the trace is of the whole plan
  pub whole_trace : IsOver (state_of m) → IsWhole p t
  whole_trace ended =
      let over = plan_over p (core_plan p sound.plan.tree) (replies_of answers) (state_of m) sound.live.kept.0 sound.live.kept.1 sound.live.placed ended.1 ended.0 in
      record {
        complete = subst (λ (h : List Event). IsComplete p h) (sym is.published) over.1.0;
        ends = subst (λ (h : List Event). EndsInPlan h) (sym is.published) (ends_in_plan p (plan_tree p.tree sound.plan.tree) (replies_of answers) (length m.seats.items) m.published.items sound.live.kept.1.published.legal over.1.1.0 over.1.1.1);
        given = is.given ∙ over.0 ∙ sym is.published;
      }

-- a fact of what a call gives where it succeeds, from another
pub if_ok : {T E : Type 0} {P Q : T → Type 0} (r : Result T E) → ((x : T) → P x → Q x) → IfOk r P → IfOk r Q
if_ok (Ok x) f h = f x h
if_ok (Err e) f h = tt

-- the schedule ends in one state only, so what is driven is driven to each state in which it ends
pub only_driven : (p : PlanParts) (answers : List (ℕ × Reply)) (t : Trace) → IsDriven p answers t → IsOnlyDriven p answers t
only_driven p answers t driven final drives = subst (λ (s : State). IsTraceOf s 0 t) (drives_only p (reply_given p answers) (opening p 1) driven.final final driven.drives drives) driven.trace

pub shown_at_end : (p : PlanParts) (answers : List (ℕ × Reply)) (t : Trace) (s : State) → Drives p answers (opening p 1) s → IsShown s t.given.items → IsShownAtEnd p answers t
shown_at_end p answers t s drives shown final other = subst (λ (u : State). IsShown u t.given.items) (drives_only p (reply_given p answers) (opening p 1) s final drives other) shown

-- what follows of a trace that is right
module _ (p : PlanParts) (answers : List (ℕ × Reply)) (tree : IsTree p.tree) (workers : ℕ) (t : Trace) (right : IsRightTrace p answers workers t) where
  pub right_apart : KeepsApart p t
  right_apart guarded = apart p tree (replies_of answers) workers t.published.items guarded right.legal right.order right.exclusive

  pub right_expected : HasExpected p answers t
  right_expected calm complete n lt = as_expected p tree (reply_of answers) (replies_of answers) (λ job. refl) calm workers t.published.items right.legal complete n lt

pub right_only : (p : PlanParts) (answers : List (ℕ × Reply)) → IsTree p.tree → (t : Trace) → IsRightTrace p answers 1 t → IsWhole p t → IsOnlyHistory p answers t
right_only p answers tree t right whole same h legal order complete =
    only_history p tree (reply_of answers) (replies_of answers) (λ job. refl) same h t.published.items legal order complete right.legal right.order whole.complete

-- All that is said of the schedule of one worker, where it has led to the machine's state.
pub of_one_worker : (p : PlanParts) (answers : List (ℕ × Reply)) (m : Machine) → IsSound p answers m → m.workers ≡ 1 → Drives p answers (opening p 1) (state_of m) → (t : Trace) → IsTraceOf (state_of m) 0 t → IsOfOneWorker p answers t
of_one_worker p answers m sound one drives t is =
    let driven : IsDriven p answers t = record { final = state_of m; drives = drives; trace = is } in
    let whole = whole_trace p answers m sound 1 0 one t is (drives_end p (reply_given p answers) (opening p 1) (state_of m) drives) in
    record {
      driven = driven;
      only = only_driven p answers t driven;
      shown = shown_at_end p answers t (state_of m) drives (shown_trace p answers m sound 1 0 one t is);
      whole = whole;
      only_history = right_only p answers sound.plan.tree t (right_trace p answers m sound 1 0 one t is) whole;
    }
