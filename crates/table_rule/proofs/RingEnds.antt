-- From every state that a run reaches there are steps to its end that go with the ring: whatever is drawn is shown before anything else
-- is done, the least place first, once all before it are read. So each show has room, and as each of the steps that are left draws one
-- event at most, the steps to the end that are known can be taken so.
use Rattle.std.specs.Prelude.{option_and_then}
use Rattle.std.proofs.Common.{◌≡◌, ◌⊎◌, inl, inr, ℕ, zero, suc, ◌+◌, ◌-◌, ◌<◌, ◌≤◌, Bool, true, false, List, [], ◌∷◌, ◌++◌, length, length-append, length-set, set, Option, Some, None, slice_get, slice_index_or, refl, sym, ap, ◌∙◌, subst, arith}
use Rattle.std.proofs.lemmas.Bool.{cases_eq, cases_lt, false≢true}
use Rattle.std.proofs.lemmas.Option.{none-some, same_Some, slice_get_within}
use Rattle.plan_events.specs.declared.event.Event.{Event}
use Rattle.plan_events.specs.declared.outcome.Reply.{Reply}
use Rattle.resource_locks.specs.Plans.{PlanParts, IsPlan, most_events}
use Rattle.resource_locks.specs.Spares.{HasFreeSpares}
use Rattle.event_history.proofs.EventBound.{legal_few}
use Rattle.scheduling.specs.declared.seat.Seat.{Seat}
use Rattle.scheduling.specs.declared.step.Action.TheVariants.{Show}
use Rattle.scheduling.specs.declared.task.Opening.TheVariants.{Offering, RegisteredAt, StartedAt}
use Rattle.scheduling.specs.declared.task.Closing.TheVariants.{FinishedAt, SkippedAt, Settling}
use Rattle.scheduling.specs.declared.task.Task.{Task}
use Rattle.scheduling.specs.declared.task.Task.TheVariants.{Opens, Closes}
use Rattle.scheduling.specs.State.{State}
use Rattle.scheduling.specs.Choices.{after_finish, decided}
use Rattle.scheduling.specs.Rows.{Step, Works, Dispatches, after, after_start, decided_seat, goes_to, read_event, read_row, row, show_row, shows, with_task}
use Rattle.scheduling.specs.Runs.{next, or_stays, run}
use Rattle.scheduling.specs.Shown.{named}
use Rattle.scheduling.specs.Inside.Invariant.{IsCorePlan}
use Rattle.scheduling.proofs.Basics.{get_set_same, get_set_other}
use Rattle.scheduling.proofs.Headline.{core_plan}
use Rattle.scheduling.proofs.Placing.{Moves, row_moves}
use Rattle.scheduling.proofs.Shown.{Changes, Does, Effect, Quiet, Draws, Shows}
use Rattle.never_stuck.specs.Inside.Live.{IsLive}
use Rattle.never_stuck.specs.Reaching.{AllGiven, IsEnded, IsGivenReply, answer, only}
use Rattle.never_stuck.proofs.Reach.{goes_to_after, live_step, replied_all, row_live, run_append}
use Rattle.never_stuck.proofs.Theorem.{reaches_end}
use Rattle.table_rule.specs.Endings.{HasRoomFor, AllHaveRoom}

-- all places of a list are shown, or there is a first one that is not
abbrev AllShown : List Bool → Type 0
AllShown l = (i : ℕ) → i < length l → slice_get l i ≡ Some true

record IsLeast (l : List Bool) : Type 0 where
  place : ℕ
  hidden : slice_get l place ≡ Some false
  before : (i : ℕ) → i < place → slice_get l i ≡ Some true

least : (l : List Bool) → AllShown l ⊎ IsLeast l
least [] = inl (λ i low. absurd (omega (arith, low)))
least (false ∷ l) = inr (record { place = 0; hidden = refl; before = λ i low. absurd (omega (arith, low)) })
least (true ∷ l) = elim (least l) [
  | inl all ↦ inl (first all)
  | inr x ↦ inr (record { place = suc x.place; hidden = x.hidden; before = later x })
]
  where
    first : AllShown l → AllShown (true ∷ l)
    first all zero low = refl
    first all (suc i) low = all i (omega (arith, low))

    later : (x : IsLeast l) (i : ℕ) → i < suc x.place → slice_get (true ∷ l) i ≡ Some true
    later x zero low = refl
    later x (suc i) low = x.before i (omega (arith, low))

-- how many are not shown
abbrev hidden_in : List Bool → ℕ
hidden_in [] = 0
hidden_in (true ∷ l) = hidden_in l
hidden_in (false ∷ l) = suc (hidden_in l)

one_less : (l : List Bool) (i : ℕ) → slice_get l i ≡ Some false → hidden_in l ≡ suc (hidden_in (set l i true))
one_less [] i q = absurd (none-some false q)
one_less (false ∷ l) zero q = refl
one_less (true ∷ l) zero q = absurd (false≢true (sym (same_Some true false q)))
one_less (true ∷ l) (suc i) q = one_less l i q
one_less (false ∷ l) (suc i) q = ap suc (one_less l i q)

shown_more : (l : List Bool) (i : ℕ) → AllShown l → AllShown (set l i true)
shown_more l i all j low =
    elim (cases_eq j i) [
      | inl same ↦ (let inside : j < length l = subst (λ (n : ℕ). j < n) (length-set l i true) low in
          ap (slice_get (set l i true)) same ∙ get_set_same l i true true (ap (slice_get l) (sym same) ∙ all j inside))
      | inr other ↦ get_set_other l i true j other ∙ all j (subst (λ (n : ℕ). j < n) (length-set l i true) low)
    ]

-- in the list after others were read and this one was shown
one_fewer : (l m n : List Bool) (i : ℕ) → slice_get l i ≡ Some false → m ≡ l → n ≡ set m i true → hidden_in l ≡ suc (hidden_in n)
one_fewer l m n i hidden same is = one_less l i hidden ∙ (λ k. suc (hidden_in (set (sym same k) i true))) ∙ ap (λ (x : List Bool). suc (hidden_in x)) (sym is)

by_three : (a b c d : List Event) → d ≡ c → c ≡ b → b ≡ a → d ≡ a
by_three a b c d first second third = first ∙ second ∙ third

one_longer : (k : ℕ) (a b c : List Event) → c ≡ b → length b ≡ suc (length a) → length a ≡ k → length c ≡ suc k
one_longer k a b c same more long = ap length same ∙ more ∙ ap suc long

get_there : {X : Type 0} (l : List X) (i : ℕ) → i < length l → (x : X) × (slice_get l i ≡ Some x)
get_there [] i low = absurd (omega (arith, low))
get_there (x ∷ l) zero low = (x, refl)
get_there (x ∷ l) (suc i) low = get_there l i (omega (arith, low))

index_there : (l : List Bool) (i : ℕ) → slice_get l i ≡ Some true → slice_index_or l i false ≡ true
index_there [] i q = absurd (none-some true q)
index_there (x ∷ l) zero q = same_Some x true q
index_there (x ∷ l) (suc i) q = index_there l i q

module _ (p : PlanParts) (ring : ℕ) (reply : ℕ → Reply) where
  -- there are steps from the one to the other that go with the ring
  record Goes (s t : State) : Type 0 where
    steps : List Step
    given : AllGiven p reply s steps
    room : AllHaveRoom p ring s steps
    is : run p s steps ≡ t

  -- there are steps of any workers to the end that go with the ring
  pub record Ends (s : State) : Type 0 where
    pub steps : List Step
    pub given : AllGiven p reply s steps
    pub room : AllHaveRoom p ring s steps
    pub ended : IsEnded p (run p s steps)

  given_on : (s : State) (xs ys : List Step) → AllGiven p reply s xs → AllGiven p reply (run p s xs) ys → AllGiven p reply s (xs ++ ys)
  given_on s [] ys a b = b
  given_on s (x ∷ xs) ys a b = (a.0, given_on (next p s x) xs ys a.1 b)

  room_on : (s : State) (xs ys : List Step) → AllHaveRoom p ring s xs → AllHaveRoom p ring (run p s xs) ys → AllHaveRoom p ring s (xs ++ ys)
  room_on s [] ys a b = b
  room_on s (x ∷ xs) ys a b = (a.0, room_on (next p s x) xs ys a.1 b)

  stays : (s : State) → Goes s s
  stays s = record { steps = []; given = tt; room = tt; is = refl }

  goes_one : (s t : State) (a : Step) → IsGivenReply p reply s a → HasRoomFor ring s a → after p s a ≡ Some t → Goes s t
  goes_one s t a given room q = record { steps = a ∷ []; given = (given, tt); room = (room, tt); is = ap (or_stays s) q }

  goes_on : (s t u : State) → Goes s t → Goes t u → Goes s u
  goes_on s t u a b = record {
    steps = a.steps ++ b.steps;
    given = given_on s a.steps b.steps a.given (subst (λ (z : State). AllGiven p reply z b.steps) (sym a.is) b.given);
    room = room_on s a.steps b.steps a.room (subst (λ (z : State). AllHaveRoom p ring z b.steps) (sym a.is) b.room);
    is = run_append p s a.steps b.steps ∙ ap (λ (z : State). run p z b.steps) a.is ∙ b.is;
  }

  ends_on : (s t : State) → Goes s t → Ends t → Ends s
  ends_on s t a e = record {
    steps = a.steps ++ e.steps;
    given = given_on s a.steps e.steps a.given (subst (λ (z : State). AllGiven p reply z e.steps) (sym a.is) e.given);
    room = room_on s a.steps e.steps a.room (subst (λ (z : State). AllHaveRoom p ring z e.steps) (sym a.is) e.room);
    ended = subst (IsEnded p) (sym (run_append p s a.steps e.steps ∙ ap (λ (z : State). run p z e.steps) a.is)) e.ended;
  }

  module _ (plan : IsPlan p) (some : 0 < ring) where
    core : IsCorePlan p
    core = core_plan p plan.tree

    abbrev Live : State → Type 0
    Live s = IsLive p (only reply) reply s

    lives : (s t : State) (a : Step) → Live s → IsGivenReply p reply s a → after p s a ≡ Some t → Live t
    lives s t a live given q = live_step p core (only reply) reply (λ job. refl) s t a live (replied_all p reply (only reply) (λ job. refl) s (a ∷ []) (given, tt)).0 q

    -- The places before the first one that is not shown are read.
    record IsRead (s : State) (j : ℕ) : Type 0 where
      last : State
      goes : Goes s last
      live : Live last
      seats : last.seats ≡ s.seats
      published : last.published ≡ s.published
      shown : last.shown ≡ s.shown
      read : length last.given ≡ j

    reads : (left : ℕ) (s : State) (j : ℕ) → Live s → length s.given + left ≡ j → ((i : ℕ) → i < j → slice_get s.shown i ≡ Some true) → IsRead s j
    reads zero s j live are before = record { last = s; goes = stays s; live = live; seats = refl; published = refl; shown = refl; read = omega (arith, are) }
    reads (suc left) s j live are before =
        let i : ℕ = length s.given in
        let low : i < j = omega (arith, are) in
        let marked = before i low in
        let inside = slice_get_within s.shown i true marked in
        let many = live.placed.as_many in
        let event = get_there s.published i (omega (arith, inside, many)) in
        let t : State = record s { given = s.given ++ event.0 ∷ [] } in
        let q : read_row s ≡ Some t = (λ k. read_event s (index_there s.shown i marked k) (event.1 k)) in
        let more = reads left t j (lives s t Dispatches live tt q) (let long = length-append s.given (event.0 ∷ []) in omega (arith, long, are)) before in
        record { last = more.last; goes = goes_on s t more.last (goes_one s t Dispatches tt tt q) more.goes; live = more.live; seats = more.seats; published = more.published; shown = more.shown; read = more.read }

    -- The worker that has drawn it shows the next place.
    record IsShownOne (s : State) (i : ℕ) : Type 0 where
      last : State
      goes : Goes s last
      live : Live last
      published : last.published ≡ s.published
      shown : last.shown ≡ set s.shown i true

    module _ (s : State) (live : Live s) (v : ℕ) (o : Seat) (is : slice_get s.seats v ≡ Some o) where
      abbrev R : Reply
      R = answer p reply o

      abbrev D : Seat
      D = decided_seat p R o

      abbrev U : State
      U = record s { seats = goes_to s v D }

      show_of : (i : ℕ) (e : Event) (t : Task) → o.task ≡ t → named v t ≡ Some (i, e) → (seat : Seat) × (row p U v D R Show ≡ Some (shows U v seat i))
      show_of i e (Opens n (RegisteredAt k)) task names = (with_task D (Opens n Offering), ap (λ (x : Task). show_row p U v D (decided p R x)) task ∙ ap (λ (x : ℕ × Event). Some (shows U v (with_task D (Opens n Offering)) x.0)) (same_Some _ _ names))
      show_of i e (Opens n (StartedAt k)) task names = (after_start p D n, ap (λ (x : Task). show_row p U v D (decided p R x)) task ∙ ap (λ (x : ℕ × Event). Some (shows U v (after_start p D n) x.0)) (same_Some _ _ names))
      show_of i e (Closes n (SkippedAt k)) task names = (with_task D (Closes n Settling), ap (λ (x : Task). show_row p U v D (decided p R x)) task ∙ ap (λ (x : ℕ × Event). Some (shows U v (with_task D (Closes n Settling)) x.0)) (same_Some _ _ names))
      show_of i e (Closes n (FinishedAt k status)) task names =
          (with_task D (Closes n (after_finish p n status)), ap (λ (x : Task). show_row p U v D (decided p R x)) task ∙ ap (λ (x : ℕ × Event). Some (shows U v (with_task D (Closes n (after_finish p n status))) x.0)) (same_Some _ _ names))
      show_of i e _ task names = absurd (none-some (i, e) names)

      shows_it : (i : ℕ) (e : Event) → named v o.task ≡ Some (i, e) → length s.given ≡ i → IsShownOne s i
      shows_it i e names next_one =
          let x = show_of i e o.task refl names in
          let t : State = shows U v x.0 i in
          let q = goes_to_after p core (only reply) reply (λ job. refl) s live v o is Show t x.1 in
          let given : IsGivenReply p reply s (Works v Show R) = λ other at. ap (answer p reply) (same_Some o other (sym is ∙ at)) in
          let room : HasRoomFor ring s (Works v Show R) = λ other k f at also. roomy other k f at also in
          record { last = t; goes = goes_one s t (Works v Show R) given room q; live = row_live p core (only reply) reply (λ job. refl) s live v o is Show t x.1; published = refl; shown = refl }
        where
          less_than : {k : ℕ} → i ≡ k → k < length s.given + ring
          less_than {k} place = omega (arith, place, next_one, some)

          roomy : (other : Seat) (k : ℕ) (f : Event) → slice_get s.seats v ≡ Some other → named v other.task ≡ Some (k, f) → k < length s.given + ring
          roomy other k f at also =
              let mine : o ≡ other = same_Some o other (sym is ∙ at) in
              let place : i ≡ k = ap (λ (y : ℕ × Event). y.0) (same_Some (i, e) (k, f) (sym names ∙ ap (λ (y : Seat). named v y.task) mine ∙ also)) in
              less_than place

    -- All that is drawn is shown.
    record IsShownAll (s : State) : Type 0 where
      last : State
      goes : Goes s last
      live : Live last
      published : last.published ≡ s.published
      all : AllShown last.shown

    -- the first one is not read
    unread : (s : State) → Live s → (x : IsLeast s.shown) → length s.given ≤ x.place
    unread s live x = elim (cases_lt x.place (length s.given)) [
      | inl read ↦ absurd (false≢true (same_Some false true (sym x.hidden ∙ live.kept.1.given.shown x.place read)))
      | inr not_read ↦ not_read
    ]

    -- it is shown, and then the others are
    shows_first : (s : State) → Live s → (x : IsLeast s.shown) → ((t : State) → Live t → hidden_in s.shown ≡ suc (hidden_in t.shown) → IsShownAll t) → IsShownAll s
    shows_first s live x others =
        let low = unread s live x in
        let r = reads (x.place - length s.given) s x.place live (omega (arith, low)) x.before in
        let n = live.placed.unshown x.place x.hidden in
        let one = shows_it r.last r.live n.worker n.seat (ap (λ (l : List Seat). slice_get l n.worker) r.seats ∙ n.is) x.place n.event n.names r.read in
        let more = others one.last one.live (one_fewer s.shown r.last.shown one.last.shown x.place x.hidden r.shown one.shown) in
        record { last = more.last; goes = goes_on s r.last more.last r.goes (goes_on r.last one.last more.last one.goes more.goes); live = more.live; published = by_three s.published r.last.published one.last.published more.last.published more.published one.published r.published; all = more.all }

    shows_all : (fuel : ℕ) (s : State) → Live s → hidden_in s.shown ≤ fuel → IsShownAll s
    shows_all zero s live few = elim (least s.shown) [
      | inl all ↦ record { last = s; goes = stays s; live = live; published = refl; all = all }
      | inr x ↦ absurd (let one = one_less s.shown x.place x.hidden in omega (arith, one, few))
    ]
    shows_all (suc fuel) s live few = elim (least s.shown) [
      | inl all ↦ record { last = s; goes = stays s; live = live; published = refl; all = all }
      | inr x ↦ shows_first s live x (λ t live_t less. shows_all fuel t live_t (omega (arith, less, few)))
    ]

    -- where all is shown, no task names a place, so each step has room
    any_room : (s : State) → Live s → AllShown s.shown → (a : Step) → HasRoomFor ring s a
    any_room s live all Dispatches = tt
    any_room s live all (Works w a r) = λ seat i e at names.
        (let stands = live.placed.stands w seat i e at names in
        let inside = slice_get_within s.shown i false stands.1 in
        absurd (false≢true (same_Some false true (sym stands.1 ∙ all i inside))))

    -- a step draws an event, or leaves all shown
    abbrev Drew : State → State → Type 0
    Drew s t = ((length t.published ≡ length s.published) × AllShown t.shown) ⊎ (length t.published ≡ suc (length s.published))

    moved : (s t : State) (w : ℕ) (old : Task) → AllShown s.shown → Changes s w old t → Drew s t
    moved s t w old all c = by c.effect c.does
      where
        by : (effect : Effect) → Does s t w old c.new.task effect → Drew s t
        by Quiet d = inl (ap length d.0, subst AllShown (sym d.1) all)
        by (Shows i e) d = inl (ap length d.0, subst AllShown (sym d.1) (shown_more s.shown i all))
        by (Draws e) d = inr (ap length d.0 ∙ (let long = length-append s.published (e ∷ []) in omega (arith, long)))

    drew : (s t : State) (a : Step) → AllShown s.shown → after p s a ≡ Some t → Drew s t
    drew s t Dispatches all q = by (slice_index_or s.shown (length s.given) false) (slice_get s.published (length s.given)) q
      where
        by : (shown : Bool) (found : Option Event) → read_event s shown found ≡ Some t → Drew s t
        by true (Some e) is = subst (Drew s) (same_Some (record s { given = s.given ++ e ∷ [] }) t is) (inl (refl, all))
        by true None is = absurd (none-some t is)
        by false found is = absurd (none-some t is)
    drew s t (Works w a r) all q = by (slice_get s.seats w) refl q
      where
        by : (found : Option Seat) → slice_get s.seats w ≡ found → option_and_then (λ seat. row p (record s { seats = goes_to s w (decided_seat p r seat) }) w (decided_seat p r seat) r a) found ≡ Some t → Drew s t
        by None at is = absurd (none-some t is)
        by (Some seat) at is =
            let other : Seat = decided_seat p r seat in
            let u : State = record s { seats = goes_to s w other } in
            moved u t w other.task all (subst (Moves u w other.task) is (row_moves p u w other (get_set_same s.seats w other seat at) r a))

    -- Steps that lead to the end are taken, until one draws.
    abbrev Again : ℕ → Type 0
    Again k = (s : State) → Live s → AllShown s.shown → length s.published ≡ suc k → Ends s

    -- the way on from the state after a step
    abbrev Way : ℕ → List Step → State → Type 0
    Way k steps s = Live s → AllShown s.shown → length s.published ≡ k → AllGiven p reply s steps → IsEnded p (run p s steps) → Ends s

    follow_one : (k : ℕ) → Again k → (a : Step) (steps : List Step) (s : State) → Live s → AllShown s.shown → length s.published ≡ k → IsGivenReply p reply s a → ((t : State) → Way k steps t)
        → (found : Option State) → after p s a ≡ found → AllGiven p reply (or_stays s found) steps → IsEnded p (run p (or_stays s found) steps) → Ends s
    follow_one k again a steps s live all long given way None q more over = way s live all long more over
    follow_one k again a steps s live all long given way (Some t) q more over =
        let next_live = lives s t a live given q in
        ends_on s t (goes_one s t a given (any_room s live all a) q) (elim (drew s t a all q) [
          | inl same ↦ way t next_live same.1 (same.0 ∙ long) more over
          | inr one ↦ (let r = shows_all (hidden_in t.shown) t next_live (omega arith) in ends_on t r.last r.goes (again r.last r.live r.all (one_longer k s.published t.published r.last.published r.published one long)))
        ])

    follows : (k : ℕ) → Again k → (steps : List Step) (s : State) → Way k steps s
    follows k again [] s live all long given ended = record { steps = []; given = tt; room = tt; ended = ended }
    follows k again (a ∷ steps) s live all long given ended = follow_one k again a steps s live all long given.0 (follows k again steps) (after p s a) refl given.1 ended

    follows_end : HasFreeSpares p → (s : State) → Live s → AllShown s.shown → Again (length s.published) → Ends s
    follows_end spares s live all again =
        let path = reaches_end p plan spares reply s live in
        follows (length s.published) again path.reach.steps s live all refl path.reach.given (subst (IsEnded p) (sym path.reach.is) path.ended)

    ends_by : HasFreeSpares p → (fuel : ℕ) (s : State) → Live s → AllShown s.shown → most_events p - length s.published ≤ fuel → Ends s
    ends_by spares zero s live all few = follows_end spares s live all
        (λ t live_t all_t one. absurd (let most = legal_few p (only reply) (length t.seats) t.published live_t.kept.1.published.legal in omega (arith, most, one, few)))
    ends_by spares (suc fuel) s live all few = follows_end spares s live all (λ t live_t all_t one. ends_by spares fuel t live_t all_t (omega (arith, one, few)))

    -- From every state that has what reached states have.
    pub ends_within : HasFreeSpares p → (s : State) → Live s → Ends s
    ends_within spares s live =
        let r = shows_all (hidden_in s.shown) s live (omega arith) in
        ends_on s r.last r.goes (ends_by spares (most_events p) r.last r.live r.all (omega arith))
