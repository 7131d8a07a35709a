-- The step that a worker takes in its turn is possible, leaves less to do, and leaves it its turn.
use Rattle.std.specs.Prelude.{cond}
use Rattle.std.specs.Option.{is_some}
use Rattle.std.proofs.Common.{◌≡◌, ◌∙◌, ◌<◌, ◌≤◌, ◌+◌, ℕ, suc, Bool, true, false, ◌&&◌, nat_lt, ◌==◌, List, set, Option, Some, None, slice_get, inl, inr, refl, sym, ap, subst, arith, get_or-set_other}
use Rattle.std.proofs.lemmas.Option.{same_Some, none-some, slice_get-get_or}
use Rattle.std.proofs.lemmas.Bool.{cases_Bool, cases_eq, false≢true, and_parts, and_from, eq-eqb, cond-true, cond-false}
use Rattle.descriptor.specs.Nodes.{parent_of, is_disabled, body_of}
use Rattle.plan_events.specs.declared.outcome.Reply.{Reply}
use Rattle.resource_locks.specs.Plans.{PlanParts, IsPlan}
use Rattle.event_history.specs.Expected.{HasOneReply}
use Rattle.event_history.specs.Plans.{sort_of}
use Rattle.event_history.proofs.Spares.{is_maker, pulls_sort}
use Rattle.scheduling.specs.declared.status.NodeStatus.{NodeStatus}
use Rattle.scheduling.specs.declared.status.NodeStatus.TheVariants.{Hidden, Ready, Claimed, Settled}
use Rattle.scheduling.specs.declared.lock_word.LockWord.{LockWord}
use Rattle.scheduling.specs.declared.lock_word.LockWord.TheVariants.{Readers}
use Rattle.scheduling.specs.declared.task.Opening.{Opening}
use Rattle.scheduling.specs.declared.task.Opening.TheVariants.{Registering, Noticing, Locking, Weighed, Backing, Beginning}
use Rattle.scheduling.specs.declared.task.Closing.{Closing}
use Rattle.scheduling.specs.declared.task.Task.{Task}
use Rattle.scheduling.specs.declared.task.Task.TheVariants.{Free, Opens, Closes}
use Rattle.scheduling.specs.declared.seat.Hand.{Hand}
use Rattle.scheduling.specs.declared.seat.Seat.{Seat}
use Rattle.scheduling.specs.declared.step.Action.{Action}
use Rattle.scheduling.specs.declared.step.Action.TheVariants.{Claim, Own, Notice, Weigh, Take, AddChild, Done, Look}
use Rattle.scheduling.specs.State.{State, status_at, counter_at, lock_at}
use Rattle.scheduling.specs.Choices.{keys_count, key_at, mode_at, admits_at, taken, same_word, lock_from, begins, notices, claims, next_spare, is_pulled, pulled_result, ending, awaited, hand_job}
use Rattle.scheduling.specs.Rows.{with_task, goes_to, is_free, same_offer, is_empty, is_ready_for, is_of_hand, claimed, goes, notice_row, weighed, weigh_row, puts_word, take_found, take_row, child_added, add_by_hand, add_child_hand, add_child_row, ends_or_free, guard_given, done_by_hand, done_hand, done_row, decided_seat, row, is_cancelled}
use Rattle.scheduling.specs.Schedule.{may_add, action_waiting, taking, hand_action, opening_action, closing_action}
use Rattle.scheduling.specs.Inside.Stages.{Stage}
use Rattle.scheduling.specs.Inside.Invariant.{IsCorePlan, OpeningOk, ShapeOk, IsInHand, Holds}
use Rattle.scheduling.specs.Inside.Work.{IsClear}
use Rattle.scheduling.proofs.Basics.{get_set, set_twice}
use Rattle.scheduling.proofs.Going.{decided_asks}
use Rattle.scheduling.proofs.GoingFree.{pulled_whole, spare_above}
use Rattle.scheduling.proofs.GoingRows.{is_asking}
use Rattle.scheduling.proofs.GoingSharedKeys.{key_inside, key_once}
use Rattle.scheduling.proofs.GoingTurns.{word_is}
use Rattle.scheduling.proofs.LessWorkSteps.{claim_acts, own_acts, add_acts, done_acts, opens_busy, closes_busy}
use Rattle.scheduling.proofs.RowsOne.{by_cond}
use Rattle.scheduling.proofs.Steps.{decided_free}
use Rattle.never_stuck.specs.Inside.Live.{IsLive}
use Rattle.never_stuck.specs.Inside.Progress.{HandOn}
use Rattle.never_stuck.specs.Reaching.{answer, reply_by}
use Rattle.never_stuck.proofs.Able.{is_trying, clear_calm, Able, busy_able}
use Rattle.never_stuck.proofs.Counts.{in_hand, free_hand}
use Rattle.never_stuck.proofs.Reach.{here, holds_here, on_here}
use Rattle.never_stuck.proofs.Rows.{opens}
use Rattle.termination.specs.Inside.Accounts.{steps_left}
use Rattle.termination.specs.Inside.Turns.{IsAhead, IsTurnOf, IsBetweenTurns}
use Rattle.termination.specs.Turns.{is_offered_to, AreFreeFrom, NextWaiting, NextFree, NextInTurn, takes_keys}
use Rattle.termination.proofs.Bounded.{decided_left}
use Rattle.termination.proofs.Paying.{row_pays}
use Rattle.termination.proofs.StepKinds.{decided_or}
use Rattle.termination.proofs.TaskSteps.{opens_so, closes_so}

pub trying_keys : (t : Task) → takes_keys t ≡ is_trying t
trying_keys (Opens n Noticing) = refl
trying_keys (Opens n (Locking i)) = refl
trying_keys (Opens n (Weighed i word)) = refl
trying_keys (Opens n (Backing i)) = refl
trying_keys _ = refl

calm_ahead : (p : PlanParts) (s : State) (t : Task) → takes_keys t ≡ false → IsAhead p s t
calm_ahead p s (Opens n Noticing) q = absurd (false≢true (sym q))
calm_ahead p s (Opens n (Locking i)) q = absurd (false≢true (sym q))
calm_ahead p s (Opens n (Weighed i word)) q = absurd (false≢true (sym q))
calm_ahead p s (Opens n (Backing i)) q = absurd (false≢true (sym q))
calm_ahead p s _ q = tt

-- a turn begins
pub turn_of : (p : PlanParts) (s : State) (w : ℕ) → IsBetweenTurns s → IsTurnOf p s w
turn_of p s w between v seat at = (λ _. calm_ahead p s seat.task (between v seat at), λ _. between v seat at)

-- and ends
pub turn_over : (p : PlanParts) (s : State) (w : ℕ) (seat : Seat) → slice_get s.seats w ≡ Some seat → takes_keys seat.task ≡ false → IsTurnOf p s w → IsBetweenTurns s
turn_over p s w seat is calm turn v other at = elim (cases_eq v w) [
  | inl same ↦ ap (λ (x : Seat). takes_keys x.task) (same_Some other seat (sym at ∙ ap (slice_get s.seats) same ∙ is)) ∙ calm
  | inr ne ↦ (turn v other at).1 ne
]

offer_same : (o : Option ℕ) → same_offer o o ≡ true
offer_same None = refl
offer_same (Some v) = eq-eqb v v refl

notice_look : Notice ≡ Look → ⊥
notice_look q = cc

weigh_look : Weigh ≡ Look → ⊥
weigh_look q = cc

take_look : Take ≡ Look → ⊥
take_look q = cc

module _ (p : PlanParts) (s : State) (n : ℕ) (free : AreFreeFrom p s n 0) where
  -- a node that is claimed comes to take its keys from the first on
  pub begins_ahead : (skip : Bool) → IsAhead p s (Opens n (begins p n skip))
  begins_ahead skip = by_cond (λ (d : Opening). IsAhead p s (Opens n d)) skip (Beginning true) (lock_from p n 0) (λ _. tt) (λ _. by_cond (λ (d : Opening). IsAhead p s (Opens n d)) (nat_lt 0 (keys_count p n)) (Locking 0) (Beginning false) (λ _. free) (λ _. tt))

  pub claims_ahead : IsAhead p s (Opens n (claims p n))
  claims_ahead = by_cond (λ (d : Opening). IsAhead p s (Opens n d)) (notices p n) Noticing (begins p n (is_disabled p.tree n)) (λ _. free) (λ _. begins_ahead (is_disabled p.tree n))

module _ (p : PlanParts) (plan : IsPlan p) (core : IsCorePlan p) (replies : ℕ → List Reply) (reply : ℕ → Reply) (one : HasOneReply reply replies) (s : State) (live : IsLive p replies reply s) (w : ℕ) (o : Seat) (is : slice_get s.seats w ≡ Some o) where
  abbrev R : Reply
  R = answer p reply o

  abbrev D : Seat
  D = decided_seat p R o

  abbrev U : State
  U = record s { seats = goes_to s w D }

  -- where the step leads
  pub record Goes (a : Action) : Type 0 where
    pub next : State
    pub is_row : row p U w D R a ≡ Some next
    pub turn : IsTurnOf p next w
    pub less : steps_left p next < steps_left p s

  k : (g : ℕ → Stage) × Holds p replies U g
  k = holds_here p core replies reply one s live w o is

  at : slice_get U.seats w ≡ Some D
  at = here p core replies reply one s live w o is

  opened : (n : ℕ) (d : Opening) → D.task ≡ Opens n d → OpeningOk p replies s.published n d
  opened n d e = (let z = opens p core replies reply U k.0 k.1 w D at (on_here p core replies reply one s live w o is) n d e in subst (ShapeOk p replies s.published n) z.1 (k.1.shapes n z.0))

  -- What is still to be done, with nothing in hand that it waits for; it does no more than to say so if it has nothing to do.
  pub is_free_then : (hand : Option Hand) (t : Task) → D.task ≡ t → NextInTurn p s w R hand t None → o.task ≡ Free
  is_free_then hand Free e next = decided_free p R o.task e
  is_free_then hand (Opens n d) e next = absurd (none-some (opening_action d) next)
  is_free_then hand (Closes n d) e next = absurd (none-some (closing_action d) next)

  module _ (turn : IsTurnOf p s w) where
    ahead : IsAhead p s D.task
    ahead = elim (decided_or p R o.task) [
      | inl calm ↦ calm_ahead p s D.task (trying_keys D.task ∙ calm)
      | inr same ↦ subst (IsAhead p s) (sym same) ((turn w o is).0 refl)
    ]

    ahead_at : (t : Task) → D.task ≡ t → IsAhead p s t
    ahead_at t e = subst (IsAhead p s) e ahead

    -- the others are where they were
    turn_stays : (t : State) (seat2 : Seat) → t.seats ≡ set U.seats w seat2 → IsAhead p t seat2.task → IsTurnOf p t w
    turn_stays t seat2 seats is_ahead v x at_v =
        elim (get_set s.seats w seat2 v x (ap (λ (l : List Seat). slice_get l v) (sym (seats ∙ set_twice s.seats w D seat2)) ∙ at_v)) [
          | inl a ↦ (λ _. subst (λ (y : Seat). IsAhead p t y.task) (sym a.1) is_ahead, λ ne. absurd (ne a.0))
          | inr a ↦ (λ e. absurd (a.0 e), (turn v x a.1).1)
        ]

    fewer : (a b c : ℕ) → a < b → b ≤ c → a < c
    fewer a b c less le = omega (arith, less, le)

    goes_so : (a : Action) (t : State) (seat2 : Seat) → row p U w D R a ≡ Some t → t.seats ≡ set U.seats w seat2 → IsAhead p t seat2.task → IsClear p U D.task → (a ≡ Look → D.task ≡ Free → ⊥) → Goes a
    goes_so a t seat2 q seats is_ahead clear acts = record {
      next = t;
      is_row = q;
      turn = turn_stays t seat2 seats is_ahead;
      less = (let falls = row_pays p core replies U k.0 k.1 w D at R a acts clear t q in let decides = decided_left p s w R o is in fewer _ _ _ falls decides);
    }

    -- who takes no keys
    calm_goes : (t0 : Task) → D.task ≡ t0 → is_trying t0 ≡ false → (t0 ≡ Free → ⊥) → (a : Action) → ((b : Action) (u : State) → row p U w D R b ≡ Some u → b ≡ a) → Goes a
    calm_goes t0 e calm busy a only =
        let able : Able p U w D R = busy_able p plan core replies reply U k.0 k.1 w D at (on_here p core replies reply one s live w o is) live.locks R t0 e (ap is_asking (sym e) ∙ decided_asks p R o.task) calm busy in
        let same : able.action ≡ a = only able.action able.next able.is in
        goes_so a able.next able.seat2 (ap (row p U w D R) (sym same) ∙ able.is) able.seats (calm_ahead p able.next able.seat2.task (trying_keys able.seat2.task ∙ able.calm)) (clear_calm p U D.task (ap is_trying e ∙ calm)) (λ z free. able.acts (same ∙ z) free)

    notices_goes : (n : ℕ) → D.task ≡ Opens n Noticing → Goes Notice
    notices_goes n e =
        let t : State = goes U w D (Opens n (begins p n (is_cancelled p s))) in
        goes_so Notice t (with_task D (Opens n (begins p n (is_cancelled p s)))) (ap (notice_row p U w D) e) refl (begins_ahead p t n (ahead_at (Opens n Noticing) e) (is_cancelled p s)) (subst (IsClear p U) (sym e) tt) (λ z _. notice_look z)

    key_word : (n i : ℕ) → i < keys_count p n → slice_get s.locks (key_at p n i) ≡ Some (lock_at s (key_at p n i))
    key_word n i lt = (let inside = key_inside p plan n i lt in let len = live.locks in slice_get-get_or s.locks (key_at p n i) (Readers 0) (omega (arith, inside, len)))

    weighs_goes : (n i : ℕ) → D.task ≡ Opens n (Locking i) → Goes Weigh
    weighs_goes n i e =
        let lt : i < keys_count p n = (opened n (Locking i) e).0 in
        let word : LockWord = lock_at s (key_at p n i) in
        let free : AreFreeFrom p s n i = ahead_at (Opens n (Locking i)) e in
        let may : admits_at p n i word ≡ true = free i (omega arith) lt in
        let t : State = goes U w D (Opens n (weighed p n i word)) in
        goes_so Weigh t (with_task D (Opens n (weighed p n i word))) (ap (weigh_row p U w D) e) refl
        (subst (λ (d : Opening). IsAhead p s (Opens n d)) (sym (cond-true (admits_at p n i word) (Weighed i word) (Backing i) may)) (free, key_word n i lt))
        (subst (IsClear p U) (sym e) may) (λ z _. weigh_look z)

    takes_goes : (n i : ℕ) (v : LockWord) → D.task ≡ Opens n (Weighed i v) → Goes Take
    takes_goes n i v e =
        let lt : i < keys_count p n = (opened n (Weighed i v) e).0 in
        let both : AreFreeFrom p s n i × (slice_get s.locks (key_at p n i) ≡ Some v) = ahead_at (Opens n (Weighed i v)) e in
        let key : ℕ = key_at p n i in
        let t : State = puts_word U w D (Opens n (lock_from p n (suc i))) key (taken (mode_at p n i) v) in
        let q : take_row p U w D D.task ≡ Some t = ap (take_row p U w D) e ∙ ap (take_found p U w D n i v) both.1 ∙ cond-true (same_word v v) (Some t) (Some (goes U w D (Opens n (Locking i)))) (word_is v) in
        let free : AreFreeFrom p t n (suc i) = λ j le j_lt. ap (admits_at p n j) (get_or-set_other s.locks key (key_at p n j) (taken (mode_at p n i) v) (Readers 0) (λ z. key_once p plan n i j (omega (arith, le)) j_lt (sym z))) ∙ both.0 j (omega (arith, le)) j_lt in
        goes_so Take t (with_task D (Opens n (lock_from p n (suc i)))) q refl
        (by_cond (λ (d : Opening). IsAhead p t (Opens n d)) (nat_lt (suc i) (keys_count p n)) (Locking (suc i)) (Beginning false) (λ _. free) (λ _. tt))
        (subst (IsClear p U) (sym e) both.1) (λ z _. take_look z)

    opens_goes : (n : ℕ) (d : Opening) → D.task ≡ Opens n d → Goes (opening_action d)
    opens_goes n Noticing e = notices_goes n e
    opens_goes n (Locking i) e = weighs_goes n i e
    opens_goes n (Weighed i v) e = takes_goes n i v e
    opens_goes n (Backing i) e = absurd (ahead_at (Opens n (Backing i)) e)
    opens_goes n d e = calm_goes (Opens n d) e refl (opens_busy n d) (opening_action d) (λ b u q. opens_so p U w D R u b q n d e)

    closes_goes : (n : ℕ) (d : Closing) → D.task ≡ Closes n d → Goes (closing_action d)
    closes_goes n d e = calm_goes (Closes n d) e refl (closes_busy n d) (closing_action d) (λ b u q. closes_so p U w D R u b q n d e)

    -- a node is claimed
    claims_goes : (a : Action) (n : ℕ) → D.task ≡ Free → (a ≡ Look → ⊥) → AreFreeFrom p s n 0 → row p U w D R a ≡ Some (claimed p U w D n) → Goes a
    claims_goes a n free acts keys q = goes_so a (claimed p U w D n) (with_task D (Opens n (claims p n))) q refl (claims_ahead p (claimed p U w D n) n keys) (subst (IsClear p U) (sym free) tt) (λ z _. acts z)

    node_goes : (n : ℕ) → D.task ≡ Free → D.hand ≡ None → AreFreeFrom p s n 0 → (v : NodeStatus) → status_at s n ≡ v → is_offered_to w v ≡ true → Goes (taking v n)
    node_goes n free empty keys (Ready None) ready offered =
        claims_goes (Claim n) n free (claim_acts n) keys
        (cond-true (is_free D.task && (is_empty D.hand && is_ready_for None (status_at U n))) (Some (claimed p U w D n)) None
        (and_from (is_free D.task) _ (ap is_free free) (and_from (is_empty D.hand) _ (ap is_empty empty) (ap (is_ready_for None) ready))))
    node_goes n free empty keys (Ready (Some v)) ready offered =
        claims_goes (Own n) n free (own_acts n) keys
        (cond-true (is_free D.task && (is_of_hand p D.hand n && is_ready_for (Some w) (status_at U n))) (Some (claimed p U w D n)) None
        (and_from (is_free D.task) _ (ap is_free free) (and_from (is_of_hand p D.hand n) _ (ap (λ (y : Option Hand). is_of_hand p y n) empty) (ap (is_ready_for (Some w)) ready ∙ offered))))
    node_goes n free empty keys Hidden ready offered = absurd (false≢true offered)
    node_goes n free empty keys (Claimed v) ready offered = absurd (false≢true offered)
    node_goes n free empty keys Settled ready offered = absurd (false≢true offered)

    -- who has a factory in hand
    module _ (free : D.task ≡ Free) (hand : Hand) (in_its : D.hand ≡ Some hand) where
      ok : IsInHand p k.0 s.published w hand
      ok = in_hand p core replies reply U k.0 k.1 w D at (on_here p core replies reply one s live w o is) hand in_its

      kept : HandOn p reply s.statuses w Free hand
      kept = free_hand p core replies reply U k.0 k.1 w D at (on_here p core replies reply one s live w o is) hand free in_its

      waited_goes : (c : ℕ) → hand.waiting ≡ Some c → AreFreeFrom p s c 0 → Goes (Own c)
      waited_goes c waits keys = (let z = kept.waits c waits in elim z.3 [
        | inl a ↦ claims_goes (Own c) c free (own_acts c) keys
            (cond-true (is_free D.task && (is_of_hand p D.hand c && is_ready_for (Some w) (status_at U c))) (Some (claimed p U w D c)) None
            (and_from (is_free D.task) _ (ap is_free free) (and_from (is_of_hand p D.hand c) _ (ap (λ (y : Option Hand). is_of_hand p y c) in_its ∙ and_from (nat_lt 0 c) (parent_of p.tree c == hand.factory) (spare_above p.tree c z.1) (eq-eqb (parent_of p.tree c) hand.factory z.0))
            (ap (is_ready_for (Some w)) a.0 ∙ offer_same (Some w)))))
        | inr a ↦ absurd (false≢true a.2)
      ])

      maker : (job : ℕ) × (body_of p.tree hand.factory ≡ Some job)
      maker = go (body_of p.tree hand.factory) refl (sym (pulls_sort p core.plan hand.factory) ∙ subst (ShapeOk p replies s.published hand.factory) ok.at (k.1.shapes hand.factory ok.inside))
        where
          go : (body : Option ℕ) → body_of p.tree hand.factory ≡ body → (is_maker (sort_of p.tree hand.factory) && is_some (body_of p.tree hand.factory)) ≡ true → (job : ℕ) × (body_of p.tree hand.factory ≡ Some job)
          go (Some job) of q = (job, of)
          go None of q = absurd (false≢true (sym (ap is_some of) ∙ (and_parts (is_maker (sort_of p.tree hand.factory)) (is_some (body_of p.tree hand.factory)) q).1))

      replied : R ≡ reply maker.0
      replied = ap (reply_by reply) (ap (awaited p o) (decided_free p R o.task free) ∙ ap (hand_job p) in_its ∙ maker.1)

      pulled : may_add p R hand ≡ false → is_pulled p hand.factory hand.registered R ≡ true
      pulled no_more =
          let most = kept.pulls maker.0 maker.1 in
          let same = ap (λ (x : Reply). x.pulls) replied in
          pulled_whole p hand R s.published ok.count (omega (arith, most, same)) no_more

      adds_goes : (found : Option ℕ) → next_spare p hand.factory hand.registered ≡ found → nat_lt hand.registered R.pulls ≡ true → is_some found ≡ true → hand.waiting ≡ None → Goes AddChild
      adds_goes None f more some idle = absurd (false≢true some)
      adds_goes (Some c) f more some idle =
          goes_so AddChild (record U { counters = set s.counters hand.factory (counter_at s hand.factory + 1); seats = goes_to U w (with_task D (Opens c Registering)) }) (with_task D (Opens c Registering))
          (ap (add_child_row p U w D R) free ∙ ap (add_child_hand p U w D R) in_its ∙ ap (add_by_hand p U w D R hand.factory hand.registered) idle
          ∙ cond-true (nat_lt hand.registered R.pulls) (child_added U w D hand.factory (next_spare p hand.factory hand.registered)) None more ∙ ap (child_added U w D hand.factory) f)
          refl tt (subst (IsClear p U) (sym free) tt) (λ z _. add_acts z)

      done_goes : may_add p R hand ≡ false → hand.waiting ≡ None → Goes Done
      done_goes no_more idle =
          goes_so Done (guard_given p U w None hand.factory (pulled_result hand.registered R)) (record { task = ends_or_free p hand.factory (pulled_result hand.registered R) (counter_at U hand.factory); hand = None })
          (ap (done_row p U w D R) free ∙ ap (done_hand p U w R) in_its ∙ ap (done_by_hand p U w R hand.factory hand.registered) idle
          ∙ cond-true (is_pulled p hand.factory hand.registered R) (Some (guard_given p U w None hand.factory (pulled_result hand.registered R))) None (pulled no_more))
          refl
          (by_cond (λ (t : Task). IsAhead p (guard_given p U w None hand.factory (pulled_result hand.registered R)) t) (counter_at U hand.factory == 1) (Closes hand.factory (ending p hand.factory (pulled_result hand.registered R))) Free (λ _. tt) (λ _. tt))
          (subst (IsClear p U) (sym free) tt) (λ z _. done_acts z)

      idle_goes : hand.waiting ≡ None → Goes (cond (may_add p R hand) AddChild Done)
      idle_goes idle = elim (cases_Bool (may_add p R hand)) [
        | inl may ↦ (let parts = and_parts (nat_lt hand.registered R.pulls) (is_some (next_spare p hand.factory hand.registered)) may in
            subst Goes (sym (cond-true (may_add p R hand) AddChild Done may)) (adds_goes (next_spare p hand.factory hand.registered) refl parts.0 parts.1 idle))
        | inr no_more ↦ subst Goes (sym (cond-false (may_add p R hand) AddChild Done no_more)) (done_goes no_more idle)
      ]

    by_hand : (hand : Option Hand) → D.hand ≡ hand → D.task ≡ Free → (a : Action) → NextFree p s w R hand (Some a) → Goes a
    by_hand None empty free a next = subst Goes (sym next.2) (node_goes next.0 free empty next.1.may.free (status_at s next.0) refl next.1.may.offered)
    by_hand (Some hand) in_its free a next = by_waiting hand.waiting refl next
      where
        by_waiting : (waiting : Option ℕ) → hand.waiting ≡ waiting → NextWaiting p s R hand waiting (Some a) → Goes a
        by_waiting None idle q = subst Goes (sym (same_Some a (hand_action p R hand) q ∙ ap (action_waiting p R hand) idle)) (idle_goes free hand in_its idle)
        by_waiting (Some c) waits q = subst Goes (sym q.1) (waited_goes free hand in_its c waits q.0)

    by_task : (t : Task) → D.task ≡ t → (a : Action) → NextInTurn p s w R D.hand t (Some a) → Goes a
    by_task Free e a next = by_hand D.hand refl e a next
    by_task (Opens n d) e a next = subst Goes (sym (same_Some a (opening_action d) next)) (opens_goes n d e)
    by_task (Closes n d) e a next = subst Goes (sym (same_Some a (closing_action d) next)) (closes_goes n d e)

    -- The step that is next in its turn.
    pub goes_on : (a : Action) → NextInTurn p s w R D.hand D.task (Some a) → Goes a
    goes_on a next = by_task D.task refl a next
