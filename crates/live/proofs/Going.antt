-- One event more: what was printed is a front of what is printed now.
use Rattle.std.proofs.Common.{◌≡◌, ◌∙◌, ℕ, ◌<◌, ◌≤◌, ◌+◌, ◌⊎◌, inl, inr, Bool, true, false, List, [], ◌∷◌, ◌++◌, length, take, Option, string_bytes, refl, sym, ap, ap₂, subst, arith, append-nil, append_assoc, length-append}
use Rattle.std.specs.List.{All, flat_map}
use Rattle.std.specs.Io.KnownBytes.{Appends}
use Rattle.std.proofs.KnownBytes.{Appends-nil, Appends-trans}
use Rattle.std.proofs.Math.Seq.{take-append_seam, take-append-add, take-length}
use Rattle.std.proofs.lemmas.Bool.{true≢false}
use Rattle.std.proofs.lemmas.List.{take-append-le}
use Rattle.std.proofs.lemmas.List.Concat.{flat_map-append}
use Rattle.std.proofs.lemmas.List.Elements.{All-push}
use Rattle.resource_locks.specs.Plans.{PlanParts}
use Rattle.job_times.specs.Timings.{Times, times_asked, times_of}
use Rattle.listeners.specs.Listeners.{Telling}
use Rattle.listeners.specs.Endings.{ends_plan}
use Rattle.live.specs.LiveFeeds.{telling_line, output_of, has_end, front_of, IsNotedIn, IsSoFar, IsPrinted, IsHandedOn, is_stopped, shown_times}
use Rattle.live.specs.declared.line_form.LineForm.{LineForm}
use Rattle.live.specs.declared.live_feed.LiveFeed.{LiveFeed}
use Rattle.live.specs.declared.live_feed.Outlet.{Outlet}
use Rattle.live.specs.declared.live_feed.Outlet.TheVariants.{Waiting, Open, Closed, Failed}
use Rattle.live.proofs.Lines.{line_long, no_end_behind}
use Rattle.live.proofs.Noting.{IsReady}

-- What is to be printed grows by a text, and of what was to be printed all was.
module _ (a b c : Option (List ℕ)) (done text whole : List ℕ) (was now : ℕ) (grown : whole ≡ done ++ text) (all : was ≡ length done) (printed : Appends a b done) where
  wide : length whole ≡ length done + length text
  wide = ap length grown ∙ length-append done text

  all_printed : Appends b c text → now ≡ was + length text → (now ≡ length whole) × Appends a c (take now whole)
  all_printed more is =
      let count : now ≡ length whole = omega (arith, is, all, wide) in
      (count, subst (Appends a c) (sym grown ∙ sym (take-length whole) ∙ ap (λ (n : ℕ). take n whole) (sym count)) (Appends-trans a b c done text printed more))

  none_printed : Appends b c [] → now ≡ was → 0 < length text → (now < length whole) × Appends a c (take now whole)
  none_printed same is long =
      let shown : take now whole ≡ done = ap (λ (n : ℕ). take n whole) (is ∙ all) ∙ ap (take (length done)) grown ∙ take-append_seam done text in
      (omega (arith, is, all, wide, long), subst (Appends a c) (append-nil done ∙ sym shown) (Appends-trans a b c done [] printed same))

  some_printed : (n : ℕ) → n < length text → Appends b c (take n text) → now ≡ was + n → (now < length whole) × Appends a c (take now whole)
  some_printed n low more is =
      let shown : take now whole ≡ done ++ take n text = ap (λ (k : ℕ). take k whole) (is ∙ ap (λ (k : ℕ). k + n) all) ∙ ap (take (length done + n)) grown ∙ take-append-add done text n in
      (omega (arith, is, all, wide, low), subst (Appends a c) (sym shown) (Appends-trans a b c done (take n text) printed more))

  -- what was done with the text, and what is left of it
  handed_on : (o : Outlet) (left : List ℕ) (ts : List Telling) → has_end ts ≡ false → 0 < length text → IsHandedOn o b c was now text left → IsSoFar o now left whole ts × Appends a c (take now whole)
  handed_on Waiting left ts none long is = absurd is
  handed_on Open left ts none long is =
      let so = all_printed is.0 is.1 in
      ((record { done = whole; many = so.0; both = sym (ap (λ (xs : List ℕ). whole ++ xs) is.2 ∙ append-nil whole) }, none), so.1)
  handed_on Closed left ts none long is = (let so = none_printed is.0 is.1 long in (inr so.0, so.1))
  handed_on Failed left ts none long is = some_printed is.0 is.1 is.2 is.3

  -- it waits
  waits : now ≡ was → take now whole ≡ done
  waits is = ap (λ (n : ℕ). take n whole) (is ∙ all) ∙ ap (take (length done)) grown ∙ take-append_seam done text

-- what was printed stays, where no more is
stays_so_far : (o : Outlet) (a b : Option (List ℕ)) (sent : ℕ) (pending whole more : List ℕ) (ts later : List Telling) → (o ≡ Closed) ⊎ (o ≡ Failed) → IsSoFar o sent pending whole ts → Appends a b (take sent whole)
    → IsSoFar o sent pending (whole ++ more) later × Appends a b (take sent (whole ++ more))
stays_so_far o a b sent pending whole more ts later over so printed = (kept o over so, subst (Appends a b) (sym (take-append-le sent whole more (low o over so))) printed)
  where
    longer : length whole ≤ length (whole ++ more)
    longer = omega (arith, length-append whole more)

    low : (o : Outlet) → (o ≡ Closed) ⊎ (o ≡ Failed) → IsSoFar o sent pending whole ts → sent ≤ length whole
    low Waiting over so = omega (arith, so.0)
    low Open over so = elim over [ inl q ↦ cc | inr q ↦ cc ]
    low Closed over so = elim so [ inl none ↦ omega (arith, none) | inr few ↦ omega (arith, few) ]
    low Failed over so = omega (arith, so)

    kept : (o : Outlet) → (o ≡ Closed) ⊎ (o ≡ Failed) → IsSoFar o sent pending whole ts → IsSoFar o sent pending (whole ++ more) later
    kept Waiting over so = elim over [ inl q ↦ cc | inr q ↦ cc ]
    kept Open over so = elim over [ inl q ↦ cc | inr q ↦ cc ]
    kept Closed over so = elim so [ inl none ↦ inl none | inr few ↦ inr (omega (arith, few, longer)) ]
    kept Failed over so = omega (arith, so, longer)

-- The plan has not finished, and what waits and a line more are to be printed behind what was.
record IsGoing (form : LineForm) (p : PlanParts) (times : Times) (head front : List ℕ) (sent : ℕ) (a b : Option (List ℕ)) (before : List Telling) (t : Telling) : Type 0 where
  done : List ℕ
  grown : output_of form head p times (before ++ t ∷ []) ≡ done ++ (front ++ telling_line form p times t)
  all : sent ≡ length done
  printed : Appends a b done
  none : has_end before ≡ false

module _ {W S : Type 0} (contents : W → Option (List ℕ)) (p : PlanParts) (first old new : LiveFeed W S) (before : List Telling) (is : IsPrinted contents p first old before) where
  abbrev head : List ℕ
  head = first.head.now

  abbrev form : LineForm
  form = first.form

  -- the times that are told
  abbrev times : Times
  times = shown_times old

  abbrev output : List Telling → List ℕ
  output ts = output_of form head p times ts

  abbrev was : Option (List ℕ)
  was = contents first.writer.now

  abbrev waiting : List ℕ
  waiting = string_bytes old.pending.now

  more_lines : (t : Telling) → output (before ++ t ∷ []) ≡ output before ++ telling_line form p times t
  more_lines t =
      ap (λ (xs : List ℕ). head ++ xs) (flat_map-append (telling_line form p times) before (t ∷ []) ∙ ap (λ (xs : List ℕ). flat_map (telling_line form p times) before ++ xs) (append-nil (telling_line form p times t)))
      ∙ sym (append_assoc head (flat_map (telling_line form p times) before) (telling_line form p times t))

  -- no more is printed
  passed_on : (t : Telling) → IsNotedIn times.took t → (old.outlet ≡ Closed) ⊎ (old.outlet ≡ Failed) → IsPrinted contents p first old (before ++ t ∷ [])
  passed_on t noted over =
      let so = λ (live : is_stopped first.outlet ≡ false). stays_so_far old.outlet was (contents old.writer.now) old.sent waiting (output before) (telling_line form p times t) before (before ++ t ∷ []) over (is.so_far live) (is.printed live) in
      record {
        same = is.same;
        head = is.head;
        form = is.form;
        timed = is.timed;
        same_timings = is.same_timings;
        noted = All-push (IsNotedIn times.took) before t is.noted noted;
        stopped = is.stopped;
        so_far = λ live. subst (λ (xs : List ℕ). IsSoFar old.outlet old.sent waiting xs (before ++ t ∷ [])) (sym (more_lines t)) (so live).0;
        printed = λ live. subst (λ (xs : List ℕ). Appends was (contents old.writer.now) (take old.sent xs)) (sym (more_lines t)) (so live).1;
      }

  going : (t : Telling) → is_stopped first.outlet ≡ false → (o : Outlet) → o ≡ old.outlet → (o ≡ Waiting) ⊎ (o ≡ Open) → IsSoFar o old.sent waiting (output before) before
      → IsGoing form p times head (front_of o head waiting) old.sent was (contents old.writer.now) before t
  going t live Waiting same on so = record {
    done = [];
    grown = ap (λ (ts : List Telling). output (ts ++ t ∷ [])) so.1 ∙ ap (λ (xs : List ℕ). head ++ xs) (append-nil (telling_line form p times t));
    all = so.0;
    printed = subst (λ (n : ℕ). Appends was (contents old.writer.now) (take n (output before))) so.0 (is.printed live);
    none = ap has_end so.1;
  }
  going t live Open same on so = record {
    done = so.0.done;
    grown = more_lines t ∙ ap (λ (xs : List ℕ). xs ++ telling_line form p times t) so.0.both ∙ append_assoc so.0.done waiting (telling_line form p times t);
    all = so.0.many;
    printed = subst (Appends was (contents old.writer.now)) (ap (λ (n : ℕ). take n (output before)) so.0.many ∙ ap (take (length so.0.done)) so.0.both ∙ take-append_seam so.0.done waiting) (is.printed live);
    none = so.1;
  }
  going t live Closed same on so = elim on [ inl q ↦ cc | inr q ↦ cc ]
  going t live Failed same on so = elim on [ inl q ↦ cc | inr q ↦ cc ]

  module _ (on : (old.outlet ≡ Waiting) ⊎ (old.outlet ≡ Open)) (same : new.writer.ghost_name ≡ old.writer.ghost_name) (as_first : new.head ≡ old.head) (same_form : new.form ≡ old.form) (same_timings : new.timings ≡ old.timings) (as_timed : new.timed ≡ old.timed) where
    -- it goes on, so it had not stopped at first
    old_open : is_stopped old.outlet ≡ false
    old_open = elim on [ inl waits ↦ ap is_stopped waits | inr opens ↦ ap is_stopped opens ]

    not_stopped : is_stopped first.outlet ≡ true → ⊥
    not_stopped stopped = true≢false (sym stopped ∙ ap is_stopped (sym (is.stopped stopped).outlet) ∙ old_open)

    open_by : (b : Bool) → is_stopped first.outlet ≡ b → is_stopped first.outlet ≡ false
    open_by true stopped = absurd (not_stopped stopped)
    open_by false stopped = stopped

    live : is_stopped first.outlet ≡ false
    live = open_by (is_stopped first.outlet) refl

    still_times : shown_times new ≡ times
    still_times = ap₂ (λ (asked : Bool) known. times_asked asked (times_of known.now)) as_timed same_timings

    -- what is printed is printed with the times that are noted now
    printed_with : (ts : List Telling) → All (IsNotedIn times.took) ts → IsSoFar new.outlet new.sent (string_bytes new.pending.now) (output ts) ts × Appends was (contents new.writer.now) (take new.sent (output ts)) → IsPrinted contents p first new ts
    printed_with ts noted so = record {
      same = same ∙ is.same;
      head = as_first ∙ is.head;
      form = same_form ∙ is.form;
      timed = as_timed ∙ is.timed;
      same_timings = ap (λ known. known.ghost_name) same_timings ∙ is.same_timings;
      noted = subst (λ (known : Times). All (IsNotedIn known.took) ts) (sym still_times) noted;
      stopped = λ stopped. absurd (not_stopped stopped);
      so_far = λ live. subst (λ (known : Times). IsSoFar new.outlet new.sent (string_bytes new.pending.now) (output_of form head p known ts) ts) (sym still_times) so.0;
      printed = λ live. subst (λ (known : Times). Appends was (contents new.writer.now) (take new.sent (output_of form head p known ts))) (sym still_times) so.1;
    }

    module _ (t : Telling) (noted : IsNotedIn times.took t) where
      abbrev front : List ℕ
      front = front_of old.outlet head waiting

      go : IsGoing form p times head front old.sent was (contents old.writer.now) before t
      go = going t live old.outlet refl on (is.so_far live)

      text_long : 0 < length (front ++ telling_line form p times t)
      text_long = omega (arith, line_long p times form t, length-append front (telling_line form p times t))

      all_noted : All (IsNotedIn times.took) (before ++ t ∷ [])
      all_noted = All-push (IsNotedIn times.took) before t is.noted noted

      -- it ends here, and nothing was handed to the writer
      stops_at : new.outlet ≡ Closed → new.sent ≡ old.sent → new.writer.now ≡ old.writer.now → IsPrinted contents p first new (before ++ t ∷ [])
      stops_at closed sent kept =
          let so = none_printed was (contents old.writer.now) (contents new.writer.now) go.done (front ++ telling_line form p times t) (output (before ++ t ∷ [])) old.sent new.sent go.grown go.all go.printed
          (subst (λ (w : W). Appends (contents old.writer.now) (contents w) []) (sym kept) (Appends-nil _)) sent text_long in
          printed_with (before ++ t ∷ []) all_noted (subst (λ (o : Outlet). IsSoFar o new.sent (string_bytes new.pending.now) (output (before ++ t ∷ [])) (before ++ t ∷ [])) (sym closed) (inr so.0), so.1)

      -- the line waits behind the others
      waits_behind : ends_plan t.event ≡ false → new.outlet ≡ Open → new.sent ≡ old.sent → new.writer.now ≡ old.writer.now
          → string_bytes new.pending.now ≡ front_of old.outlet old.head.now waiting ++ telling_line old.form p times t → IsPrinted contents p first new (before ++ t ∷ [])
      waits_behind goes opens sent kept lines =
          let lines_are : string_bytes new.pending.now ≡ front ++ telling_line form p times t = lines ∙ ap₂ (λ h (f : LineForm). front_of old.outlet h.now waiting ++ telling_line f p times t) is.head is.form in
          printed_with (before ++ t ∷ []) all_noted (
            subst (λ (o : Outlet). IsSoFar o new.sent (string_bytes new.pending.now) (output (before ++ t ∷ [])) (before ++ t ∷ [])) (sym opens)
                (record { done = go.done; many = sent ∙ go.all; both = go.grown ∙ ap (λ (xs : List ℕ). go.done ++ xs) (sym lines_are) }, no_end_behind before t go.none goes),
            subst (λ (w : W). Appends was (contents w) (take new.sent (output (before ++ t ∷ [])))) (sym kept)
                (subst (Appends was (contents old.writer.now)) (sym (waits was (contents old.writer.now) (contents new.writer.now) go.done (front ++ telling_line form p times t) (output (before ++ t ∷ [])) old.sent new.sent go.grown go.all go.printed sent)) go.printed),
          )

    sends_by : (o : Outlet) → o ≡ Open → IsSoFar o old.sent waiting (output before) before → 0 < length waiting
        → IsHandedOn new.outlet (contents old.writer.now) (contents new.writer.now) old.sent new.sent waiting (string_bytes new.pending.now) → IsPrinted contents p first new before
    sends_by Waiting opens so long handed = cc
    sends_by Open opens so long handed =
        printed_with before is.noted (handed_on was (contents old.writer.now) (contents new.writer.now) so.0.done waiting (output before) old.sent new.sent so.0.both so.0.many
        (subst (Appends was (contents old.writer.now)) (ap (λ (n : ℕ). take n (output before)) so.0.many ∙ ap (take (length so.0.done)) so.0.both ∙ take-append_seam so.0.done waiting) (is.printed live))
        new.outlet (string_bytes new.pending.now) before so.1 long handed)
    sends_by Closed opens so long handed = cc
    sends_by Failed opens so long handed = cc

    -- what waits was handed on
    pub sends : old.outlet ≡ Open → 0 < length waiting → IsHandedOn new.outlet (contents old.writer.now) (contents new.writer.now) old.sent new.sent waiting (string_bytes new.pending.now) → IsPrinted contents p first new before
    sends opens = sends_by old.outlet opens (is.so_far live)

module _ {W S : Type 0} (contents : W → Option (List ℕ)) (p : PlanParts) (first old new : LiveFeed W S) (before : List Telling) (t : Telling) (ready : IsReady contents p first old before t) where
  -- no more is printed
  pub passed_over : (old.outlet ≡ Closed) ⊎ (old.outlet ≡ Failed) → new ≡ old → IsPrinted contents p first new (before ++ t ∷ [])
  passed_over over same = subst (λ (now : LiveFeed W S). IsPrinted contents p first now (before ++ t ∷ [])) (sym same) (passed_on contents p first old old before ready.printed t ready.noted over)

  module _ (on : (old.outlet ≡ Waiting) ⊎ (old.outlet ≡ Open)) (same : new.writer.ghost_name ≡ old.writer.ghost_name) (as_first : new.head ≡ old.head) (same_form : new.form ≡ old.form) (same_timings : new.timings ≡ old.timings) (as_timed : new.timed ≡ old.timed) where
    -- it ends here, and nothing was handed to the writer
    pub stops : new.outlet ≡ Closed → new.sent ≡ old.sent → new.writer.now ≡ old.writer.now → IsPrinted contents p first new (before ++ t ∷ [])
    stops = stops_at contents p first old new before ready.printed on same as_first same_form same_timings as_timed t ready.noted

    -- the line waits behind the others
    pub waits_on : ends_plan t.event ≡ false → new.outlet ≡ Open → new.sent ≡ old.sent → new.writer.now ≡ old.writer.now
        → string_bytes new.pending.now ≡ front_of old.outlet old.head.now (string_bytes old.pending.now) ++ telling_line old.form p (shown_times old) t → IsPrinted contents p first new (before ++ t ∷ [])
    waits_on = waits_behind contents p first old new before ready.printed on same as_first same_form same_timings as_timed t ready.noted
