-- Each step keeps the invariant.
use Rattle.std.specs.Prelude.{option_and_then}
use Rattle.std.proofs.Common.{◌≡◌, ℕ, zero, suc, Bool, true, false, ◌||◌, not, List, [], ◌∷◌, ◌++◌, length, get_or, Option, Some, None, slice_get, slice_index_or, inl, inr, refl, sym, ap, ◌∙◌, arith, append_assoc, length-append}
use Rattle.std.proofs.lemmas.Option.{same_Some, none-some}
use Rattle.std.proofs.lemmas.Bool.{cases_eq, false≢true}
use Rattle.descriptor.specs.Nodes.{body_of}
use Rattle.plan_events.specs.declared.event.Event.{Event}
use Rattle.plan_events.specs.declared.outcome.Reply.{Reply}
use Rattle.plan_events.specs.Statuses.{is_successful}
use Rattle.resource_locks.specs.Plans.{PlanParts}
use Rattle.event_history.specs.Plans.{pulls_job, sort_of}
use Rattle.event_history.proofs.Places.{get_next}
use Rattle.scheduling.specs.declared.task.Opening.{Opening}
use Rattle.scheduling.specs.declared.task.Opening.TheVariants.{RegisteredAt, Offering, StartedAt, Awaiting}
use Rattle.scheduling.specs.declared.task.Closing.{Closing}
use Rattle.scheduling.specs.declared.task.Closing.TheVariants.{AwaitingAfter, Ending, FinishedAt, SkippedAt, Settling}
use Rattle.scheduling.specs.declared.task.Task.{Task}
use Rattle.scheduling.specs.declared.task.Task.TheVariants.{Free, Opens, Closes}
use Rattle.scheduling.specs.declared.seat.Hand.{Hand}
use Rattle.scheduling.specs.declared.seat.Seat.{Seat}
use Rattle.scheduling.specs.State.{State}
use Rattle.scheduling.specs.Choices.{admit_from, after_finish, is_leaf, status_by, decided, awaited, hand_job}
use Rattle.scheduling.specs.declared.step.Action.{Action}
use Rattle.scheduling.specs.declared.step.Action.TheVariants.{Claim, Own, Notice, Weigh, Take, Give, GiveUp, Draw, Show, Admit, AddChild, Done, Settle, Look, Raise}
use Rattle.scheduling.specs.Rows.{row, with_task, goes_to, shows, after_start, show_row, decided_seat, after_seat, after, Step, Works, Dispatches, read_event, read_row}
use Rattle.scheduling.specs.Runs.{IsReplied}
use Rattle.scheduling.specs.Inside.Stages.{Stage}
use Rattle.scheduling.specs.Inside.Invariant.{IsCorePlan, Holds, IsKept}
use Rattle.scheduling.proofs.Basics.{get_set_same}
use Rattle.scheduling.proofs.RowsOne.{by_cond, kept_some, notice_keeps, weigh_keeps, take_keeps, give_keeps, raise_keeps, look_keeps, show_registered_keeps, show_started_keeps, show_skipped_keeps, show_closing_keeps}
use Rattle.scheduling.proofs.RowsWord.{claim_keeps, own_keeps, give_up_keeps, settle_keeps}
use Rattle.scheduling.proofs.RowsBelow.{decide_keeps}
use Rattle.scheduling.proofs.RowsTwo.{show_hand_keeps}
use Rattle.scheduling.proofs.RowsEnd.{admit_keeps}
use Rattle.scheduling.proofs.RowsUp.{done_keeps, add_child_keeps}
use Rattle.scheduling.proofs.RowsDraw.{draw_keeps}

module _ (p : PlanParts) (core : IsCorePlan p) (replies : ℕ → List Reply) (s : State) (g : ℕ → Stage) (h : Holds p replies s g) (w : ℕ) (seat : Seat) (is : slice_get s.seats w ≡ Some seat) where
  show_keeps : (t0 : Task) → seat.task ≡ t0 → (t : State) → show_row p s w seat t0 ≡ Some t → IsKept p replies t
  show_keeps (Opens x (RegisteredAt i)) e t q = kept_some p replies (shows s w (with_task seat (Opens x Offering)) i) t (show_registered_keeps p core replies s g h w seat is x i e) q
  show_keeps (Opens x (StartedAt i)) e t q =
      kept_some p replies (shows s w (after_start p seat x) i) t
      (by_cond (λ other. IsKept p replies (shows s w other i)) (pulls_job p x) (record { task = Free; hand = Some (record { factory = x; registered = 0; waiting = None }) }) (with_task seat (Opens x Awaiting))
      (λ pulls. show_hand_keeps p core replies s g h w seat is x i e pulls) (λ not'. show_started_keeps p core replies s g h w seat is x i e not')) q
  show_keeps (Closes x (SkippedAt i)) e t q = kept_some p replies (shows s w (with_task seat (Closes x Settling)) i) t (show_skipped_keeps p core replies s g h w seat is x i e) q
  show_keeps (Closes x (FinishedAt i status)) e t q = kept_some p replies (shows s w (with_task seat (Closes x (after_finish p x status))) i) t (show_closing_keeps p core replies s g h w seat is x i status e) q
  show_keeps _ e t q = absurd (none-some t q)

  -- Each row keeps the invariant.
  pub row_keeps : (reply : Reply) → ((hand : Hand) (job : ℕ) → seat.task ≡ Free → seat.hand ≡ Some hand → body_of p.tree hand.factory ≡ Some job → (i : ℕ) × (slice_get (replies job) i ≡ Some reply)) → (a : Action) (t : State) → row p s w seat reply a ≡ Some t → IsKept p replies t
  row_keeps reply given (Claim n) t q = claim_keeps p core replies s g h w seat is n seat.task refl t q
  row_keeps reply given (Own n) t q = own_keeps p core replies s g h w seat is n seat.task refl t q
  row_keeps reply given Notice t q = notice_keeps p core replies s g h w seat is seat.task refl t q
  row_keeps reply given Weigh t q = weigh_keeps p core replies s g h w seat is seat.task refl t q
  row_keeps reply given Take t q = take_keeps p core replies s g h w seat is seat.task refl t q
  row_keeps reply given Give t q = give_keeps p core replies s g h w seat is seat.task refl t q
  row_keeps reply given GiveUp t q = give_up_keeps p core replies s g h w seat is seat.task refl t q
  row_keeps reply given Draw t q = draw_keeps p core replies s g h w seat is seat.task refl t q
  row_keeps reply given Show t q = show_keeps seat.task refl t q
  row_keeps reply given Admit t q = admit_keeps p core replies s g h w seat is seat.task refl t q
  row_keeps reply given AddChild t q = add_child_keeps p core replies s g h w seat is reply seat.task refl t q
  row_keeps reply given Done t q = done_keeps p core replies s g h w seat is reply given seat.task refl t q
  row_keeps reply given Settle t q = settle_keeps p core replies s g h w seat is seat.task refl t q
  row_keeps reply given Look t q = look_keeps p core replies s g h w seat is seat.task refl t q
  row_keeps reply given Raise t q = raise_keeps p core replies s g h w seat is seat.task refl t q

-- a task that is free when it is decided was free before
pub decided_free : (p : PlanParts) (reply : Reply) (t : Task) → decided p reply t ≡ Free → t ≡ Free
decided_free p reply Free q = refl
decided_free p reply (Opens n Awaiting) q =
    absurd (by_cond (λ t. t ≡ Free → ⊥) (is_leaf (sort_of p.tree n) || not (is_successful (status_by (body_of p.tree n) reply))) (Closes n (Ending (status_by (body_of p.tree n) reply))) (Opens n (admit_from p n 0))
    (λ _. closes n (Ending (status_by (body_of p.tree n) reply))) (λ _. opens n (admit_from p n 0)) q)
  where
    opens : (n : ℕ) (d : Opening) → Opens n d ≡ Free → ⊥
    opens n d q = cc

    closes : (n : ℕ) (d : Closing) → Closes n d ≡ Free → ⊥
    closes n d q = cc
decided_free p reply (Closes n AwaitingAfter) q = absurd (closes n (Ending reply.outcome.status) q)
  where
    closes : (n : ℕ) (d : Closing) → Closes n d ≡ Free → ⊥
    closes n d q = cc
decided_free p reply _ q = q

-- the dispatcher gives the next event
given_more : {X : Type 0} (given rest all : List X) (e : X) → given ++ rest ≡ all → slice_get all (length given) ≡ Some e → (more : List X) × ((given ++ e ∷ []) ++ more ≡ all)
given_more given [] all e q r = absurd (past given e (ap (λ l. slice_get l (length given)) q ∙ r))
  where
    past : {X : Type 0} (l : List X) (e : X) → slice_get (l ++ []) (length l) ≡ Some e → ⊥
    past [] e q = none-some e q
    past (x ∷ l) e q = past l e q
given_more given (x ∷ rest) all e q r =
    let same = same_Some x e (sym (get_next given x rest) ∙ ap (λ l. slice_get l (length given)) q ∙ r) in
    (rest, append_assoc given (e ∷ []) rest ∙ ap (λ y. given ++ y ∷ rest) (sym same) ∙ q)

pub shown_at : (l : List Bool) (i : ℕ) → get_or l i false ≡ true → slice_get l i ≡ Some true
shown_at [] i q = absurd (false≢true q)
shown_at (b ∷ l) zero q = ap Some q
shown_at (b ∷ l) (suc i) q = shown_at l i q

read_keeps : (p : PlanParts) (replies : ℕ → List Reply) (s : State) (g : ℕ → Stage) → Holds p replies s g → (t : State) → read_row s ≡ Some t → IsKept p replies t
read_keeps p replies s g h t q = go (slice_index_or s.shown (length s.given) false) (slice_get s.published (length s.given)) refl refl q
  where
    go : (shown : Bool) (next : Option Event) → slice_index_or s.shown (length s.given) false ≡ shown → slice_get s.published (length s.given) ≡ next → read_event s shown next ≡ Some t → IsKept p replies t
    go false next a b r = absurd (none-some t r)
    go true None a b r = absurd (none-some t r)
    go true (Some e) a b r =
        let more = given_more s.given h.given.rest s.published e h.given.front b in
        kept_some p replies (record s { given = s.given ++ e ∷ [] }) t (
          g,
          record {
            workers_few = h.workers_few;
            statuses_len = h.statuses_len;
            counters_len = h.counters_len;
            results_len = h.results_len;
            shown_len = h.shown_len;
            words = h.words;
            counters = h.counters;
            results = h.results;
            locks = h.locks;
            flags = h.flags;
            starters = h.starters;
            shapes = h.shapes;
            edges = h.edges;
            elders = h.elders;
            seats = h.seats;
            held = h.held;
            raised = h.raised;
            published = h.published;
            given = record {
              rest = more.0;
              front = more.1;
              shown = λ i lt. elim (cases_eq i (length s.given)) [
                | inl same ↦ ap (slice_get s.shown) same ∙ shown_at s.shown (length s.given) a
                | inr ne ↦ h.given.shown i (omega (arith, lt, ne, length-append s.given (e ∷ [])))
              ];
            };
          },
        ) r

-- A step keeps the invariant.
pub after_keeps : (p : PlanParts) → IsCorePlan p → (replies : ℕ → List Reply) (s t : State) (a : Step) → IsKept p replies s → IsReplied p replies s a → after p s a ≡ Some t → IsKept p replies t
after_keeps p core replies s t Dispatches kept replied q = read_keeps p replies s kept.0 kept.1 t q
after_keeps p core replies s t (Works w a reply) kept replied q = go (slice_get s.seats w) refl q
  where
    go : (found : Option Seat) → slice_get s.seats w ≡ found → option_and_then (after_seat p s w a reply) found ≡ Some t → IsKept p replies t
    go None f r = absurd (none-some t r)
    go (Some seat) f r =
        let given = replied seat f in
        let first = decide_keeps p core replies s kept.0 kept.1 w seat f reply given in
        row_keeps p core replies (record s { seats = goes_to s w (decided_seat p reply seat) }) first.0 first.1 w (decided_seat p reply seat) (get_set_same s.seats w (decided_seat p reply seat) seat f) reply
        (λ hand job free in_hand body. given job (ap (awaited p seat) (decided_free p reply seat.task free) ∙ ap (hand_job p) in_hand ∙ body)) a t r
