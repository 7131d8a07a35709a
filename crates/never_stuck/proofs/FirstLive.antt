-- Where all workers but the first ones are idle, the state with the seats of the first ones alone has what reached states have.
use Rattle.std.specs.Prelude.{take}
use Rattle.std.proofs.Common.{◌≡◌, ℕ, zero, suc, ◌<◌, ◌≤◌, Bool, true, false, ◌&&◌, ◌||◌, List, [], ◌∷◌, length, Some, None, slice_get, ◌⊎◌, inl, inr, refl, sym, ap, ◌∙◌, subst, eqb-true, arith, ◌+◌, Option, ◌≢◌}
use Rattle.std.proofs.lemmas.Bool.{cases_lt, cases_eq}
use Rattle.std.proofs.lemmas.List.{get_or_past, length-take}
use Rattle.std.proofs.lemmas.Option.{none-some, slice_get_within}
use Rattle.descriptor.specs.Nodes.{size, is_child, is_spare_at, bit}
use Rattle.plan_events.specs.declared.outcome.Reply.{Reply}
use Rattle.resource_locks.specs.Plans.{PlanParts}
use Rattle.event_history.specs.Plans.{is_same}
use Rattle.event_history.specs.Published.{IsPublished}
use Rattle.scheduling.specs.declared.status.NodeStatus.TheVariants.{Hidden, Ready}
use Rattle.scheduling.specs.declared.task.Opening.TheVariants.{Guarding}
use Rattle.scheduling.specs.declared.task.Closing.TheVariants.{Giving, Passing}
use Rattle.scheduling.specs.declared.task.Task.{Task}
use Rattle.scheduling.specs.declared.task.Task.TheVariants.{Free, Opens, Closes}
use Rattle.scheduling.specs.declared.seat.Seat.{Seat}
use Rattle.scheduling.specs.State.{State}
use Rattle.scheduling.specs.Shown.{named, IsPlaced}
use Rattle.scheduling.specs.Inside.Going.{word_of, owed, StillTo, IsPassing}
use Rattle.scheduling.specs.Inside.Stages.{Stage, Offered, OpenedBy, ClosedBy, is_live, is_owned, raises}
use Rattle.scheduling.specs.Inside.Invariant.{IsCorePlan, IsNextSame, ShapeOk, TaskOk, HeldBy, Holds, sum_below, raising_in, raising_at, still_raising}
use Rattle.scheduling.proofs.Basics.{count_same, sum_same}
use Rattle.scheduling.proofs.GoingBasics.{hidden_ready}
use Rattle.scheduling.proofs.LessWorkSteps.{opens_busy, closes_busy}
use Rattle.never_stuck.specs.Inside.Live.{IsLive}
use Rattle.never_stuck.specs.Inside.Progress.{any_seat, about_by, hand_by, owes, TaskOn, Keeps}
use Rattle.never_stuck.specs.Reaching.{AreIdleFrom}
use Rattle.never_stuck.proofs.FirstSeats.{first_seats, take_get, take_past}
use Rattle.never_stuck.proofs.Owed.{ready_stage}
use Rattle.never_stuck.proofs.Runners.{runner}
use Rattle.never_stuck.proofs.Seats.{none_of}

-- none of the other seats passes
any_take : (f : Seat → Bool) (many : ℕ) (q : List Seat) → ((w : ℕ) (o : Seat) → many ≤ w → slice_get q w ≡ Some o → f o ≡ false) → any_seat f (take many q) ≡ any_seat f q
any_take f zero q none = sym (none_of f q (λ w o at. none w o (omega arith) at))
any_take f (suc many) [] none = refl
any_take f (suc many) (x ∷ q) none = ap (λ (b : Bool). f x || b) (any_take f many q (λ w o far at. none (suc w) o (omega (arith, far)) at))

-- a sum, of which the last terms are nothing
sum_front : (f g : ℕ → ℕ) (m n : ℕ) → m ≤ n → ((k : ℕ) → k < m → g k ≡ f k) → ((k : ℕ) → m ≤ k → f k ≡ 0) → sum_below g m ≡ sum_below f n
sum_front f g m zero le same none = (let is : m ≡ 0 = omega (arith, le) in ap (sum_below g) is)
sum_front f g m (suc n) le same none =
    elim (cases_eq m (suc n)) [
      | inl e ↦ ap (sum_below g) e ∙ sum_same g f (suc n) (λ k lt. same k (omega (arith, lt, e)))
      | inr ne ↦ (let ih : sum_below g m ≡ sum_below f n = sum_front f g m n (omega (arith, le, ne)) same none in
          let last : f n ≡ 0 = none n (omega (arith, le, ne)) in
          omega (arith, ih, last))
    ]

module _ (p : PlanParts) (core : IsCorePlan p) (replies : ℕ → List Reply) (reply : ℕ → Reply) (many : ℕ) (some : 0 < many) (s : State) (live : IsLive p replies reply s) (idle : AreIdleFrom many s) where
  abbrev q : List Seat
  q = s.seats

  abbrev q2 : List Seat
  q2 = take many s.seats

  abbrev g : ℕ → Stage
  g = live.kept.0

  h : Holds p replies s g
  h = live.kept.1

  on : Keeps p reply s.statuses s.counters q
  on = live.on

  abbrev idler : Seat
  idler = record { task = Free; hand = None }

  kept_seat : (w : ℕ) (o : Seat) → slice_get q2 w ≡ Some o → (w < many) × (slice_get q w ≡ Some o)
  kept_seat w o at = elim (cases_lt w many) [ inl low ↦ (low, sym (take_get many q w low) ∙ at) | inr far ↦ absurd (none-some o (sym (take_past many q w far) ∙ at)) ]

  -- whoever isn't idle is one of the first
  stays : (w : ℕ) (o : Seat) → slice_get q w ≡ Some o → (o ≡ idler → ⊥) → slice_get q2 w ≡ Some o
  stays w o at busy = elim (cases_lt w many) [ inl low ↦ take_get many q w low ∙ at | inr far ↦ absurd (busy (idle.free w o far at)) ]

  inside : (v : ℕ) → v < many → v < length q → v < length q2
  inside v low small = (let long = length-take many q in omega (arith, low, small, long))

  any_first : (f : Seat → Bool) → f idler ≡ false → any_seat f q2 ≡ any_seat f q
  any_first f not = any_take f many q (λ w o far at. ap f (idle.free w o far at) ∙ not)

  -- to whom a node is offered, and who is to own the next sibling
  offered_first : (n v : ℕ) → word_of s.statuses n ≡ Ready (Some v) → 0 < n → is_same p n ≡ true → v < many
  offered_first n v word low same = by (cases_lt n (size p.tree))
    where
      by : (n < size p.tree) ⊎ (size p.tree ≤ n) → v < many
      by (inl small) =
          let at : g n ≡ Offered (Some v) = ready_stage p n (g n) (Some v) (sym (h.words n small) ∙ word) in
          let run = runner p core replies s g h n low small (ap is_live at) in
          let mine : v ≡ run.owner = eqb-true v run.owner (sym (ap (is_owned run.owner) at) ∙ run.owned same) in
          let drawn = idle.drawn run.place run.event run.stands in
          let draws = run.draws in
          omega (arith, mine, drawn, draws)
      by (inr far) = absurd (let long = h.statuses_len in hidden_ready (Some v) (sym word ∙ get_or_past s.statuses n Hidden (omega (arith, long, far))))

  passing_first : (w n m v : ℕ) (o : Seat) → slice_get q w ≡ Some o → o.task ≡ Closes n (Passing m v) → v < many
  passing_first w n m v o at e =
      let ok : (n < size p.tree) × ((c : ℕ) × (how : _) × (g n ≡ ClosedBy w c (Passing m v) how)) = subst (TaskOk p g w) e (h.seats w o at).task in
      let next : IsNextSame p n m = subst (ShapeOk p replies s.published n) ok.1.2 (h.shapes n ok.0) in
      let run = runner p core replies s g h n next.elder.elder.above_zero ok.0 (ap is_live ok.1.2) in
      let mine : v ≡ run.owner = eqb-true v run.owner (sym (ap (is_owned run.owner) ok.1.2) ∙ run.owned next.same) in
      let drawn = idle.drawn run.place run.event run.stands in
      let draws = run.draws in
      omega (arith, mine, drawn, draws)

  task_first : (w : ℕ) (o : Seat) → slice_get q w ≡ Some o → (t : Task) → o.task ≡ t → TaskOn p (length q) t → TaskOn p (length q2) t
  task_first w o at (Opens n Guarding) e x = x
  task_first w o at (Closes n (Giving i)) e x = x
  task_first w o at (Closes n (Passing m v)) e x = inside v (passing_first w n m v o at e) x
  task_first w o at _ e x = tt

  owes_first : (n c : ℕ) → owes p s.statuses q n c ≡ owes p s.statuses q2 n c
  owes_first n c = ap (λ (b : Bool). is_child p.tree n c && owed (is_spare_at p.tree c) (word_of s.statuses c) b) (sym (any_first (about_by c) refl))

  on_first : Keeps p reply s.statuses s.counters q2
  on_first = record {
    root = on.root;
    offered = λ n v word. (let o = on.offered n v word in (inside v (offered_first n v word o.2 o.1) o.0, o.1, o.2));
    claimed = on.claimed;
    batch = λ a c v lt b word hidden. (let z = on.batch a c v lt b word hidden in (z.0, z.1, stays z.0 z.1 z.2 (λ e. subst (λ (o : Seat). StillTo o.task a c) e z.3), z.3));
    siblings = λ a b next word hidden. (let z = on.siblings a b next word hidden in (z.0, z.1, stays z.0 z.1 z.2 (λ e. subst (λ (o : Seat). IsPassing o.task a) e z.3), z.3));
    counts = λ n v lt word apart none. (let old = on.counts n v lt word (sym (any_first (about_by n) refl) ∙ apart) (sym (any_first (hand_by n) refl) ∙ none) in
        record { some = old.some; exact = old.exact ∙ count_same (owes p s.statuses q n) (owes p s.statuses q2 n) (size p.tree) (λ c _. owes_first n c) });
    seats = λ w o at. (let k = kept_seat w o at in let old = on.seats w o k.1 in record { task = task_first w o k.1 o.task refl old.task; hand = old.hand });
  }

  published_first : IsPublished p replies (length q2) s.published
  published_first = (let old = h.published in let legal = old.legal in record {
    legal = record {
      lawful = legal.lawful;
      nodes = legal.nodes;
      by_workers = λ i e at. (let few = idle.drawn i e at in let all = legal.by_workers i e at in let long = length-take many q in omega (arith, few, all, long));
      once = legal.once;
      apart = legal.apart;
      after_start = legal.after_start;
      registered = legal.registered;
      after_registered = legal.after_registered;
      elder_registered = legal.elder_registered;
      start_above = legal.start_above;
      open_above = legal.open_above;
      skipped = legal.skipped;
      unstarted = legal.unstarted;
      below_skipped = legal.below_skipped;
      quits = legal.quits;
      settled = legal.settled;
      result = legal.result;
    };
    order = old.order;
    exclusive = old.exclusive;
    within = old.within;
  })

  held_first : (n : ℕ) (st : Stage) → HeldBy q n st → HeldBy q2 n st
  held_first n (OpenedBy w d) x = (x.0, stays w x.0 x.1 (λ e. opens_busy n d (sym x.2 ∙ ap (λ (o : Seat). o.task) e)), x.2)
  held_first n (ClosedBy w c d how) x = (x.0, stays w x.0 x.1 (λ e. closes_busy n d (sym x.2 ∙ ap (λ (o : Seat). o.task) e)), x.2)
  held_first n _ x = tt

  -- who is idle has no failure to raise
  raising_first : still_raising q2 ≡ still_raising q
  unfolding still_raising
  raising_first =
      let long = length-take many q in
      sum_front (raising_at q) (raising_at q2) (length q2) (length q) (omega (arith, long)) (λ k low. ap raising_in (take_get many q k (omega (arith, long, low)))) (λ k far. none k far (slice_get q k) refl)
    where
      none : (k : ℕ) → length q2 ≤ k → (o : Option Seat) → slice_get q k ≡ o → raising_in o ≡ 0
      none k far None at = refl
      none k far (Some o) at = elim (cases_lt k many) [
        | inl low ↦ (let long = length-take many q in let within = slice_get_within q k o at in absurd (omega (arith, long, low, within, far)))
        | inr past ↦ ap (λ (x : Seat). bit (raises x.task)) (idle.free k o past at)
      ]

  holds_first : Holds p replies (first_seats many s) g
  holds_first = record {
    workers_few = (let few = h.workers_few in let long = length-take many q in omega (arith, few, long));
    statuses_len = h.statuses_len;
    counters_len = h.counters_len;
    results_len = h.results_len;
    shown_len = h.shown_len;
    words = h.words;
    counters = h.counters;
    results = h.results;
    locks = h.locks;
    flags = h.flags;
    starters = h.starters;
    shapes = h.shapes;
    edges = h.edges;
    elders = h.elders;
    seats = λ w o at. h.seats w o (kept_seat w o at).1;
    held = λ n lt. held_first n (g n) (h.held n lt);
    raised = λ ff. ap (λ (k : ℕ). s.cancel + k) raising_first ∙ h.raised ff;
    published = published_first;
    given = record { rest = h.given.rest; front = h.given.front; shown = h.given.shown };
  }

  placed_first : IsPlaced (first_seats many s)
  placed_first = record {
    stands = λ w o i e at names. live.placed.stands w o i e (kept_seat w o at).1 names;
    unshown = λ i hidden. (let x = live.placed.unshown i hidden in
        record { worker = x.worker; seat = x.seat; is = stays x.worker x.seat x.is (λ e. none-some (i, x.event) (sym (ap (λ (o : Seat). named x.worker o.task) e) ∙ x.names)); event = x.event; names = x.names });
    as_many = live.placed.as_many;
  }

  pub first_live : IsLive p replies reply (first_seats many s)
  first_live = record { kept = (g, holds_first); on = on_first; placed = placed_first; locks = live.locks; some = inside 0 some live.some }
