-- A dispatcher's state whose seat dealt others is as ready as before, and of a run from there on the same is known as from before.
use Rattle.std.proofs.Common.{◌≡◌, ◌∙◌, ◌≤◌, ℕ, List, Result, IfOk, IfErr, Ok, Err, refl, sym, ap, subst, vec_capacity}
use Rattle.std.proofs.lemmas.Result.{IfOk-weaker}
use Rattle.plan_events.specs.declared.event.Event.{Event}
use Rattle.plan_events.specs.declared.outcome.Reply.{Reply}
use Rattle.resource_locks.specs.Plans.{PlanParts, most_events}
use Rattle.listeners.specs.Listeners.{Telling}
use Rattle.table_rule.specs.declared.view.View.{View}
use Rattle.table_rule.specs.Plays.{dispatcher}
use Rattle.run_table.specs.Seats.{IsOf}
use Rattle.run_table.specs.declared.dispatcher.DispatcherSeat.{DispatcherSeat}
use Rattle.thread_pool.specs.Runs.{IsReady, HasRun}
use Rattle.thread_pool.specs.Telling.{IsNoted, KeepsTexts}
use Rattle.thread_pool.specs.Seeing.{HasSeenSince}
use Rattle.thread_pool.specs.declared.running.DispatcherState.{DispatcherState}
use Rattle.thread_pool.proofs.Carried.{carried}
use Rattle.thread_pool.proofs.TextsRead.{read_alike}

-- what was read stays, and the dispatcher's texts and its list
pub record IsDealt {B : Type 0} (before dealt : DispatcherState B) : Type 0 where
  pub same : IsOf before.seat.seat dealt.seat.seat
  pub read : (dispatcher dealt.seat.seat.me.0).read ≡ (dispatcher before.seat.seat.me.0).read
  pub slots : (dispatcher dealt.seat.seat.me.0).slots ≡ (dispatcher before.seat.seat.me.0).slots
  pub texts : dealt.texts ≡ before.texts
  pub events : dealt.events ≡ before.events

-- the state whose seat dealt others
module _ {B : Type 0} (before : DispatcherState B) (seat : DispatcherSeat B) where
  abbrev pub at_seat : DispatcherState B
  at_seat = record { seat = seat; texts = before.texts; events = before.events }

  pub is_dealt : IsOf before.seat.seat seat.seat → (dispatcher seat.seat.me.0).read ≡ (dispatcher before.seat.seat.me.0).read → (dispatcher seat.seat.me.0).slots ≡ (dispatcher before.seat.seat.me.0).slots → IsDealt before at_seat
  is_dealt same read slots = record { same = same; read = read; slots = slots; texts = refl; events = refl }

  pub none_dealt : (n : ℕ) → (n ≡ 0 → seat ≡ before.seat) → n ≡ 0 → at_seat ≡ before
  none_dealt n was none = ap (λ (s : DispatcherSeat B). record { seat = s; texts = before.texts; events = before.events }) (was none)

-- where no seat was dealt nothing was changed
pub untouched : {X E A : Type 0} (r : Result X E) (n : ℕ) (a b c : A) → IfErr r (λ _. n ≡ 0) → IfErr r (λ _. a ≡ b) → (n ≡ 0 → b ≡ c) → IfErr r (λ _. a ≡ c)
untouched (Ok x) n a b c none same was = tt
untouched (Err e) n a b c none same was = same ∙ was none

-- of a view that has read as much of the same plan as another, the same is known
module _ {B : Type 0} (old new : View B) (about : new.about ≡ old.about) (read : (dispatcher new).read ≡ (dispatcher old).read) where
  pub noted_alike : (events : List Event) (wide : ℕ) → IsNoted old events wide → IsNoted new events wide
  noted_alike events wide noted = record {
    read = noted.read ∙ sym read;
    enough = carried about (λ a. most_events a.plan ≤ wide) noted.enough;
  }

module _ {B : Type 0} (answers : B → List Reply) (before dealt : DispatcherState B) (is : IsDealt before dealt) where
  pub ready_dealt : IsReady answers before → IsReady answers dealt
  ready_dealt ready =
      let old = before.seat.seat.me.0 in
      let new = dealt.seat.seat.me.0 in
      record {
        texts = carried is.texts (λ t. KeepsTexts answers new t) (read_alike answers old new before.texts is.same.about is.read is.slots ready.texts);
        noted = carried is.events (λ e. IsNoted new e.items (vec_capacity e)) (noted_alike old new is.same.about is.read before.events.items (vec_capacity before.events) ready.noted);
      }

  pub run_dealt : {O : Type 0} (saw : PlanParts → O → O → List Telling → Type 0) (after : DispatcherState B) (was now : O) → HasRun answers saw dealt after was now → HasRun answers saw before after was now
  run_dealt saw after was now run =
      let last = (dispatcher after.seat.seat.me.0).read in
      record {
        same = record { table = run.same.table ∙ is.same.table; about = run.same.about ∙ is.same.about };
        noted = run.noted;
        seen = subst (λ a. HasSeenSince saw a.plan after.texts (dispatcher before.seat.seat.me.0).read last was now) is.same.about
            (subst (λ (r : List Event). HasSeenSince saw dealt.seat.seat.me.0.about.plan after.texts r last was now) is.read run.seen);
        texts = run.texts;
        over = run.over;
      }

  pub ran_dealt : {X E O : Type 0} (ran : Result X E) (saw : PlanParts → O → O → List Telling → Type 0) (after : DispatcherState B) (was now : O) → IfOk ran (λ _. HasRun answers saw dealt after was now) → IfOk ran (λ _. HasRun answers saw before after was now)
  ran_dealt ran saw after was now run =
      IfOk-weaker ran (λ _. HasRun answers saw dealt after was now) (λ _. HasRun answers saw before after was now)
      (λ _. run_dealt saw after was now) run
