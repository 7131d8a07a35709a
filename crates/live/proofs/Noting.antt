-- What was told stays as it was told, where more is noted.
use Rattle.std.proofs.Common.{◌≡◌, ◌∙◌, ℕ, ◌<◌, ◌&&◌, inl, inr, Bool, true, false, List, [], ◌∷◌, ◌++◌, length, take, get_or, Option, string_bytes, refl, sym, ap, ap₂, subst, arith}
use Rattle.std.specs.List.{All, flat_map}
use Rattle.std.specs.Io.KnownBytes.{Appends}
use Rattle.std.proofs.lemmas.Bool.{cases_lt}
use Rattle.std.proofs.lemmas.List.{get_or_past}
use Rattle.std.proofs.lemmas.List.Elements.{All-head, All-tail, All-weaker}
use Rattle.plan_events.specs.declared.event.EventKind.{EventKind}
use Rattle.plan_events.specs.declared.event.EventKind.TheVariants.{Started, Finished, Skipped, Registered}
use Rattle.plan_events.specs.declared.status.Status.{Status}
use Rattle.resource_locks.specs.Plans.{PlanParts}
use Rattle.job_times.specs.Timings.{Took, Times, is_noted, is_told, micros_of, times_asked, times_of, took_of}
use Rattle.job_times.specs.declared.timings.Noted.TheVariants.{NotYet}
use Rattle.run_results.specs.Feed.{text_or}
use Rattle.listeners.specs.Listeners.{Telling}
use Rattle.reports.specs.Json.{timed_ending_members}
use Rattle.listeners.specs.Endings.{is_finish}
use Rattle.live.specs.LiveFeeds.{IsNotedIn, IsPrinted, IsSoFar, NotesIf, output_of, shown_times, telling_line}
use Rattle.live.specs.declared.line_form.LineForm.{LineForm}
use Rattle.live.specs.declared.line_form.LineForm.TheVariants.{Feed, Json}
use Rattle.live.specs.declared.live_feed.LiveFeed.{LiveFeed}
use Rattle.live.specs.declared.live_feed.Outlet.{Outlet}
use Rattle.live.proofs.Lines.{object_ending}

-- More is noted of node n, or nothing.
module _ (n : ℕ) (old new : Took) where
  -- what is noted of a node that has finished, or has no place, is the same as before
  same_by : (b : Bool) → NotesIf b n old new → (m : ℕ) → (m < length old → is_noted old m ≡ true) → get_or new m NotYet ≡ get_or old m NotYet
  same_by true is m was = elim (cases_lt m (length old)) [
    | inl inside ↦ is.stays m (was inside)
    | inr past ↦ get_or_past new m NotYet (omega (arith, past, is.many)) ∙ sym (get_or_past old m NotYet past)
  ]
  same_by false is m was = ap (λ (took : Took). get_or took m NotYet) is

  as_many : (b : Bool) → NotesIf b n old new → length new ≡ length old
  as_many true is = is.many
  as_many false is = ap length is

  noted_here : (b : Bool) → NotesIf b n old new → b ≡ true → n < length new → is_noted new n ≡ true
  noted_here true is finish inside = is.here (omega (arith, inside, is.many))
  noted_here false is finish inside = cc

  module _ (b : Bool) (is : NotesIf b n old new) (t : Telling) (was : IsNotedIn old t) where
    -- so is its time
    same_time : is_finish t.event.kind ≡ true → took_of new t.event.node ≡ took_of old t.event.node
    same_time finish = ap micros_of (same_by b is t.event.node (was finish))

    -- and it stays noted
    still_noted : IsNotedIn new t
    still_noted finish inside =
        let before : t.event.node < length old = omega (arith, inside, as_many b is) in
        ap is_told (same_by b is t.event.node (was finish)) ∙ was finish before

-- a time is told of a node that has finished alone
members_stay : (k : EventKind) (s : Option Status) (text : List ℕ) (old new : Option ℕ) → (is_finish k ≡ true → new ≡ old) → timed_ending_members k s text new ≡ timed_ending_members k s text old
members_stay Started s text old new same = refl
members_stay Finished s text old new same = ap (timed_ending_members Finished s text) (same refl)
members_stay Skipped s text old new same = refl
members_stay Registered s text old new same = refl

module _ (p : PlanParts) (old new : Times) where
  line_stays : (form : LineForm) (t : Telling) → (is_finish t.event.kind ≡ true → took_of new.took t.event.node ≡ took_of old.took t.event.node) → telling_line form p new t ≡ telling_line form p old t
  line_stays Feed t same = refl
  line_stays Json t same =
      ap (object_ending p t.event) (members_stay t.event.kind t.event.status (text_or t.text) (took_of old.took t.event.node) (took_of new.took t.event.node) same)

  module _ (n : ℕ) (b : Bool) (is : NotesIf b n old.took new.took) where
    lines_stay : (form : LineForm) (ts : List Telling) → All (IsNotedIn old.took) ts → flat_map (telling_line form p new) ts ≡ flat_map (telling_line form p old) ts
    lines_stay form [] was = refl
    lines_stay form (t ∷ ts) was =
        ap₂ (λ (line rest : List ℕ). line ++ rest)
        (line_stays form t (same_time n old.took new.took b is t (All-head (IsNotedIn old.took) t ts was)))
        (lines_stay form ts (All-tail (IsNotedIn old.took) t ts was))

-- where no times are told none is noted
shown_by : (asked b : Bool) (n : ℕ) (old new : Times) → NotesIf (asked && b) n old.took new.took → NotesIf b n (times_asked asked old).took (times_asked asked new).took
shown_by true b n old new is = is
shown_by false true n old new is = record {
  many = refl;
  here = λ inside. (let none : ⊥ = omega (arith, inside) in absurd none);
  stays = λ m told. refl;
  others = λ m other. refl;
}
shown_by false false n old new is = refl

so_far_still : (o q : Outlet) (sent count : ℕ) (waiting pending output text : List ℕ) (ts : List Telling) → q ≡ o → count ≡ sent → pending ≡ waiting → text ≡ output → IsSoFar o sent waiting output ts → IsSoFar q count pending text ts
so_far_still o q sent count waiting pending output text ts outlet same still is so =
    subst (λ (r : Outlet). IsSoFar r count pending text ts) (sym outlet) (subst (λ (k : ℕ). IsSoFar o k pending text ts) (sym same) (subst (λ (xs : List ℕ). IsSoFar o sent xs text ts) (sym still) (subst (λ (xs : List ℕ). IsSoFar o sent waiting xs ts) (sym is) so)))

module _ {W S : Type 0} (contents : W → Option (List ℕ)) (p : PlanParts) (first : LiveFeed W S) where
  -- these events were printed, and of the next one it is noted what is to be told
  pub record IsReady (now : LiveFeed W S) (before : List Telling) (t : Telling) : Type 0 where
    pub printed : IsPrinted contents p first now before
    pub noted : IsNotedIn (shown_times now).took t

  module _ (old now : LiveFeed W S) (before : List Telling) (t : Telling) (is : IsPrinted contents p first old before)
      (writer : now.writer ≡ old.writer) (head : now.head ≡ old.head) (form : now.form ≡ old.form) (outlet : now.outlet ≡ old.outlet) (sent : now.sent ≡ old.sent) (pending : now.pending ≡ old.pending) (timed : now.timed ≡ old.timed) (same_timings : now.timings.ghost_name ≡ old.timings.ghost_name)
      (noted : NotesIf (old.timed && is_finish t.event.kind) t.event.node old.timings.now.took.items now.timings.now.took.items) where
    shown : NotesIf (is_finish t.event.kind) t.event.node (shown_times old).took (shown_times now).took
    shown =
        subst (λ (asked : Bool). NotesIf (is_finish t.event.kind) t.event.node (shown_times old).took (times_asked asked (times_of now.timings.now)).took) (sym timed)
        (shown_by old.timed (is_finish t.event.kind) t.event.node (times_of old.timings.now) (times_of now.timings.now) noted)

    output_stays : output_of first.form first.head.now p (shown_times now) before ≡ output_of first.form first.head.now p (shown_times old) before
    output_stays = ap (λ (lines : List ℕ). first.head.now ++ lines) (lines_stay p (shown_times old) (shown_times now) t.event.node (is_finish t.event.kind) shown first.form before is.noted)

    writer_stays : now.writer.now ≡ old.writer.now
    writer_stays = ap (λ w. w.now) writer

    -- what was printed is printed still
    still_printed : IsPrinted contents p first now before
    still_printed = record {
      same = ap (λ w. w.ghost_name) writer ∙ is.same;
      head = head ∙ is.head;
      form = form ∙ is.form;
      timed = timed ∙ is.timed;
      same_timings = same_timings ∙ is.same_timings;
      noted = All-weaker (IsNotedIn (shown_times old).took) (IsNotedIn (shown_times now).took) (still_noted t.event.node (shown_times old).took (shown_times now).took (is_finish t.event.kind) shown) before is.noted;
      stopped = λ shut. (let so = is.stopped shut in record { outlet = outlet ∙ so.outlet; sent = sent ∙ so.sent; writer = writer_stays ∙ so.writer });
      so_far = λ live. so_far_still old.outlet now.outlet old.sent now.sent (string_bytes old.pending.now) (string_bytes now.pending.now) _ _ before outlet sent (ap (λ waits. string_bytes waits.now) pending) output_stays (is.so_far live);
      printed = λ live.
          subst (λ (w : W). Appends (contents first.writer.now) (contents w) (take now.sent (output_of first.form first.head.now p (shown_times now) before))) (sym writer_stays)
          (subst (Appends (contents first.writer.now) (contents old.writer.now)) (ap₂ (λ (n : ℕ) (xs : List ℕ). take n xs) (sym sent) (sym output_stays)) (is.printed live));
    }

    pub ready : IsReady now before t
    ready = record { printed = still_printed; noted = noted_here t.event.node (shown_times old).took (shown_times now).took (is_finish t.event.kind) shown }
