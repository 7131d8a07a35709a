-- What a feed has printed of the run that it was shown is a front of what is printed of it.
use Rattle.std.proofs.Common.{◌≡◌, ◌≢◌, ◌∙◌, ℕ, ◌<◌, Bool, true, false, List, [], ◌++◌, length, take, Option, Some, None, Result, Err, refl, sym, ap, ap₂, subst, append-nil, inl, inr, arith}
use Rattle.std.specs.Prelude.{◌⊎◌, if◌then◌else◌, string_bytes}
use Rattle.std.specs.Io.KnownBytes.{Appends, Keeps}
use Rattle.std.proofs.KnownBytes.{Appends-nil}
use Rattle.std.proofs.lemmas.Bool.{true≢false}
use Rattle.std.proofs.lemmas.List.Elements.{All-nil}
use Rattle.config_params.specs.declared.settings.Settings.{Settings}
use Rattle.plan_events.specs.declared.event.Event.{Event}
use Rattle.plan_events.specs.declared.outcome.Reply.{Reply}
use Rattle.plan_events.specs.Texts.{TextParts}
use Rattle.resource_locks.specs.Plans.{PlanParts}
use Rattle.event_history.specs.Parts.{EndsInPlan}
use Rattle.scheduling.specs.declared.step.Step.{Step}
use Rattle.job_times.specs.Timings.{Times, times_asked, times_of}
use Rattle.listeners.specs.Listeners.{Telling, tellings_of}
use Rattle.listeners.specs.Observing.{HasSeenMore}
use Rattle.run_results.specs.Results.{tests_found, has_failed}
use Rattle.run_results.specs.declared.theme.Theme.{Theme}
use Rattle.live.specs.LiveFeeds.{lines_of, output_of, shown_times, IsNotedIn, IsSoFar, IsPrinted, IsFront, is_stopped}
use Rattle.live.specs.declared.line_form.LineForm.{LineForm}
use Rattle.live.specs.declared.live_feed.LiveFeed.{LiveFeed}
use Rattle.live.specs.declared.live_feed.Outlet.{Outlet}
use Rattle.live.specs.declared.live_feed.Outlet.TheVariants.{Waiting, Open, Closed, Failed}
use Rattle.live.proofs.Fronts.{IsShort, front as feed_front, front_short}
use Rattle.launch_options.specs.Asked.{Asked}
use Rattle.launch_options.specs.DetailsTexts.{prints_live}
use Rattle.launch_options.specs.Faults.{cut_by_memory, cut_by_writer}
use Rattle.launch_options.specs.declared.details.Details.{Details}
use Rattle.launch_options.specs.declared.details.Details.TheVariants as details
use Rattle.launch_options.specs.declared.fault.CutOutput.{CutOutput}
use Rattle.launch_options.specs.declared.fault.LaunchFault.{LaunchFault}
use Rattle.launch_options.specs.declared.fault.LaunchFault.TheVariants.{NoMemory, Writing}
use Rattle.run_outputs.specs.Beside.{SeesBeside}
use Rattle.run_outputs.specs.ExitStatuses.{status_of_run}
use Rattle.run_outputs.specs.Outputs.{details_of}
use Rattle.run_outputs.specs.ScheduleLines.{IsBehindRun}
use Rattle.run_outputs.specs.WarningTexts.{head_of}
use Rattle.run_outputs.specs.declared.exit_status.ExitStatus.{ExitStatus}
use Rattle.run_outputs.specs.declared.watched_feed.WatchedFeed.{WatchedFeed}
use Rattle.launcher.specs.Faults.{is_writing}
use Rattle.launcher.specs.Launches.{Fits, IsPrintedTo, IsSentSo, LacksAll}
use Rattle.launcher.specs.Programs.{IsPrintedOf}
use Rattle.launcher.specs.Watched.{HasLiveFeed, IsBrokenOff, IsRefusedBy, cut_in, form_by, outlet_by}
use Rattle.launcher.proofs.BrokenOff.{broken, quiet}
use Rattle.launcher.proofs.JobsRan.{some_line}

-- lines are printed from the first only if they are asked for, and no replay
lines_asked : (kind : Details) (replay : Option (List Step)) (drive : Option ℕ) → outlet_by kind replay drive ≡ Waiting → (prints_live kind ≡ true) × (replay ≡ None) × (drive ≡ None)
lines_asked kind (Some steps) drive is = cc
lines_asked kind None (Some workers) is = cc
lines_asked kind None None is = (open_by (prints_live kind) is, refl, refl)
  where
    open_by : (b : Bool) → (if b then Waiting else Closed) ≡ Waiting → b ≡ true
    open_by true is = refl
    open_by false is = cc

-- and else none is
open_or_closed : (kind : Details) (replay : Option (List Step)) (drive : Option ℕ) → (outlet_by kind replay drive ≡ Waiting) ⊎ (outlet_by kind replay drive ≡ Closed)
open_or_closed kind (Some steps) drive = inr refl
open_or_closed kind None (Some workers) = inr refl
open_or_closed kind None None = either_by (prints_live kind)
  where
    either_by : (b : Bool) → ((if b then Waiting else Closed) ≡ Waiting) ⊎ ((if b then Waiting else Closed) ≡ Closed)
    either_by true = inl refl
    either_by false = inr refl

-- what is printed of a history is its lines in the form that is asked for
lines_printed : (kind : Details) (theme : Theme) (p : PlanParts) (texts : TextParts) (times : Times) (h : List Event) → prints_live kind ≡ true → details_of kind theme p texts times h ≡ lines_of (form_by kind) p texts times h
lines_printed details.None theme p texts times h is = absurd (true≢false (sym is))
lines_printed details.Summary theme p texts times h is = absurd (true≢false (sym is))
lines_printed details.Tree theme p texts times h is = absurd (true≢false (sym is))
lines_printed details.Testfeed theme p texts times h is = refl
lines_printed details.Json theme p texts times h is = refl
lines_printed details.Xml theme p texts times h is = absurd (true≢false (sym is))
lines_printed details.List theme p texts times h is = absurd (true≢false (sym is))
lines_printed details.Plan theme p texts times h is = absurd (true≢false (sym is))

-- nothing was handed to the writer
record IsUnsent {W S : Type 0} (contents : W → Option (List ℕ)) (first now : LiveFeed W S) : Type 0 where
  same : now.writer.ghost_name ≡ first.writer.ghost_name
  sent : now.sent ≡ 0
  whole : now.outlet ≢ Failed
  kept : Appends (contents first.writer.now) (contents now.writer.now) []

not_failed : (o : Outlet) → (o ≡ Waiting) ⊎ (o ≡ Closed) → o ≢ Failed
not_failed Waiting is failed = cc
not_failed Open is failed = cc
not_failed Closed is failed = cc
not_failed Failed is failed = elim is [ inl q ↦ cc | inr q ↦ cc ]

-- at first nothing was printed
at_first_none : (o : Outlet) → (o ≡ Waiting) ⊎ (o ≡ Closed) → (sent : ℕ) → sent ≡ 0 → (pending output : List ℕ) → IsSoFar o sent pending output []
at_first_none Waiting is sent none pending output = (none, refl)
at_first_none Open is sent none pending output = elim is [ inl q ↦ cc | inr q ↦ cc ]
at_first_none Closed is sent none pending output = inl none
at_first_none Failed is sent none pending output = elim is [ inl q ↦ cc | inr q ↦ cc ]

module _ {W V S : Type 0} (contents : W → Option (List ℕ)) (saw : PlanParts → V → V → List Telling → Type 0) (known : Option (List (ℕ × Reply))) (asked : Asked) (settings : Settings) (p : PlanParts) (history : List Event) (texts : TextParts) (ends : EndsInPlan history) (at_first both : WatchedFeed W V S)
    (head : at_first.feed.head.now ≡ head_of asked.details settings.warnings) (form : at_first.feed.form ≡ form_by asked.details) (outlet : at_first.feed.outlet ≡ outlet_by asked.details asked.replay asked.drive) (timed : at_first.feed.timed ≡ asked.times) (none : at_first.feed.sent ≡ 0)
    (seen : HasSeenMore (SeesBeside contents saw) p (tellings_of texts history) at_first both) where
  abbrev first : LiveFeed W S
  first = at_first.feed

  abbrev now : LiveFeed W S
  now = both.feed

  abbrev noted : Times
  noted = times_of now.timings.now

  abbrev was : Option (List ℕ)
  was = contents first.writer.now

  abbrev is_now : Option (List ℕ)
  is_now = contents now.writer.now

  abbrev Prints : List ℕ → ExitStatus → Type 0
  Prints = IsPrintedOf known asked settings p history texts noted

  either : (first.outlet ≡ Waiting) ⊎ (first.outlet ≡ Closed)
  either = elim (open_or_closed asked.details asked.replay asked.drive) [ inl opens ↦ inl (outlet ∙ opens) | inr shut ↦ inr (outlet ∙ shut) ]

  nothing_yet : IsPrinted contents p first first []
  nothing_yet = record {
    same = refl;
    head = refl;
    form = refl;
    timed = refl;
    same_timings = refl;
    noted = All-nil (IsNotedIn (shown_times first).took);
    stopped = λ shut. record { outlet = refl; sent = refl; writer = refl };
    so_far = λ live. at_first_none first.outlet either first.sent none (string_bytes first.pending.now) (output_of first.form first.head.now p (shown_times first) []);
    printed = λ live. subst (λ (n : ℕ). Appends was was (take n (output_of first.form first.head.now p (shown_times first) []))) (sym none) (Appends-nil was);
  }

  beside_nothing : SeesBeside contents saw p at_first at_first []
  beside_nothing = record { printed = nothing_yet; same = refl; seen = λ who before told. subst (saw p who at_first.observer.now) (sym (append-nil before)) told }

  both_see : SeesBeside contents saw p at_first both (tellings_of texts history)
  both_see = seen at_first [] beside_nothing

  printed : IsPrinted contents p first now (tellings_of texts history)
  printed = both_see.printed

  shut_unsent : first.outlet ≡ Closed → IsUnsent contents first now
  shut_unsent shut =
      let still = printed.stopped (ap is_stopped shut) in
      record {
        same = printed.same;
        sent = still.sent ∙ none;
        whole = not_failed now.outlet (inr (still.outlet ∙ shut));
        kept = subst (λ (w : W). Appends was (contents w) []) (sym still.writer) (Appends-nil was);
      }

  unsent_front : (text : List ℕ) → IsUnsent contents first now → IsFront was is_now now.outlet now.sent text
  unsent_front text un = record {
    fits = omega (arith, un.sent);
    failed = λ failed. absurd (un.whole failed);
    printed = subst (λ (n : ℕ). Appends was is_now (take n text)) (sym un.sent) un.kept;
  }

  -- its lines tell the times that are asked for
  shown_so : times_asked asked.times noted ≡ shown_times now
  shown_so = ap (λ (b : Bool). times_asked b noted) (sym (printed.timed ∙ timed))

  whole_text : (text : List ℕ) (status : ExitStatus) (is : Prints text status) → prints_live asked.details ≡ true → text ≡ first.head.now ++ (lines_of first.form p texts (shown_times now) history ++ is.behind)
  whole_text text status is live =
      is.printed
      ∙ ap (λ (lines : List ℕ). head_of asked.details settings.warnings ++ (lines ++ is.behind)) (lines_printed asked.details asked.theme p texts (times_asked asked.times noted) history live)
      ∙ ap (λ (times : Times). head_of asked.details settings.warnings ++ (lines_of (form_by asked.details) p texts times history ++ is.behind)) shown_so
      ∙ ap₂ (λ (xs : List ℕ) (f : LineForm). xs ++ (lines_of f p texts (shown_times now) history ++ is.behind)) (sym head) (sym form)

  -- a front of what may be printed of it
  pub front : (text : List ℕ) (status : ExitStatus) → Prints text status → IsFront was is_now now.outlet now.sent text
  front text status is = elim (open_or_closed asked.details asked.replay asked.drive) [
    | inl opens ↦ feed_front texts history ends contents p first now printed (ap is_stopped (outlet ∙ opens)) is.behind text (whole_text text status is (lines_asked asked.details asked.replay asked.drive opens).0)
    | inr shut ↦ unsent_front text (shut_unsent (outlet ∙ shut))
  ]

  pub fits : (text : List ℕ) (status : ExitStatus) → Prints text status → Fits now.outlet now.sent text
  fits text status is = (let is_front = front text status is in (is_front.fits, is_front.failed))

  -- something may be printed of it, whatever memory there is
  some_behind : (behind : List ℕ) × IsBehindRun asked.details asked.schedule settings.workers p known history texts behind
  some_behind = some_line known asked.details asked.schedule settings.workers p history texts

  some_text : List ℕ
  some_text = head_of asked.details settings.warnings ++ (details_of asked.details asked.theme p texts (times_asked asked.times noted) history ++ some_behind.0)

  some_status : ExitStatus
  some_status = status_of_run asked.fail_if_no_tests (tests_found p history) (has_failed p history)

  some_print : Prints some_text some_status
  unfolding some_text some_status
  some_print = record { behind = some_behind.0; is_behind = some_behind.1; printed = refl; exits = refl }

  part_of : HasLiveFeed asked → (text : List ℕ) (status : ExitStatus) → Prints text status → IsShort now.outlet now.sent text → IsBrokenOff asked Prints now.outlet was is_now now.sent
  part_of feed text status is so = elim so [
    | inl un ↦ inl (un.0, un.1, subst (λ (n : ℕ). Appends was is_now (take n text)) un.1 (front text status is).printed)
    | inr few ↦ inr (record { text = text; status = status; output = is; short = few; written = (front text status is).printed }, feed)
  ]

  broken_off : IsBrokenOff asked Prints now.outlet was is_now now.sent
  broken_off = elim (open_or_closed asked.details asked.replay asked.drive) [
    | inl opens ↦
        (let feed = lines_asked asked.details asked.replay asked.drive opens in
        part_of feed some_text some_status some_print (front_short texts history ends contents p first now printed (ap is_stopped (outlet ∙ opens)) some_print.behind some_text (whole_text some_text some_status some_print feed.0)))
    | inr shut ↦ (let un = shut_unsent (outlet ∙ shut) in inl (un.whole, un.sent, un.kept))
  ]

  pub sent_so : IsSentSo asked Prints now.outlet now.sent was is_now
  sent_so = record { front = front; broken = broken_off }

  -- the feed, its table of times and who watches beside it are the same, and the latter has seen the run
  pub same_writer : now.writer.ghost_name ≡ first.writer.ghost_name
  same_writer = printed.same

  pub same_times : now.timings.ghost_name ≡ first.timings.ghost_name
  same_times = printed.same_timings

  pub same_watcher : both.observer.ghost_name ≡ at_first.observer.ghost_name
  same_watcher = both_see.same

  pub watcher_saw : HasSeenMore saw p (tellings_of texts history) at_first.observer.now both.observer.now
  watcher_saw = both_see.seen

pub carried : {A : Type 0} {a b : A} → b ≡ a → (P : A → Type 0) → P a → P b
carried same P p = subst P (sym same) p

-- where nothing was told of an output nothing was written
with_quiet : (asked : Asked) (Prints : List ℕ → ExitStatus → Type 0) (old new : Option (List ℕ)) (fault : LaunchFault) (cut : Option CutOutput) → IsRefusedBy asked Prints (λ f. f ≡ NoMemory) cut fault old new → (is_writing fault ≡ false → Keeps old new) → IsRefusedBy asked Prints (LacksAll old new) cut fault old new
with_quiet asked Prints old new fault (Some cut) is quiet_so = is
with_quiet asked Prints old new fault None is quiet_so = (is, quiet_so (ap is_writing is))

-- what is answered where there was no memory for what is left
pub broken_print : {asked : Asked} {Prints : List ℕ → ExitStatus → Type 0} {outlet told : Outlet} {sent count : ℕ} {old new : Option (List ℕ)} → IsSentSo asked Prints outlet sent old new → told ≡ outlet → count ≡ sent → (result : LaunchFault) → (told ≡ Failed → result ≡ Writing (cut_by_writer count)) → (told ≢ Failed → 0 < count → result ≡ Writing (cut_by_memory count))
    → (told ≢ Failed → count ≡ 0 → result ≡ NoMemory) → IsPrintedTo asked Prints old new (Err result)
broken_print {asked} {Prints} {outlet} {told} {sent} {count} {old} {new} so same many result failed some none =
    let at = subst (λ (o : Outlet). IsBrokenOff asked Prints o old new count) (sym same) (subst (λ (n : ℕ). IsBrokenOff asked Prints outlet old new n) (sym many) so.broken) in
    with_quiet asked Prints old new result (cut_in result) (broken asked Prints (λ f. f ≡ NoMemory) old new NoMemory result refl refl told count at failed some none) (λ other. quiet asked Prints old new result other told count at failed some)

-- of one plan, and with the same times
pub same_sent : {p q : PlanParts} {known : Option (List (ℕ × Reply))} {asked : Asked} {settings : Settings} {history : List Event} {texts : TextParts} {times : Times} {outlet : Outlet} {sent : ℕ} {old new : Option (List ℕ)} → p ≡ q
    → IsSentSo asked (IsPrintedOf known asked settings p history texts times) outlet sent old new → IsSentSo asked (IsPrintedOf known asked settings q history texts times) outlet sent old new
same_sent {p} {q} {known} {asked} {settings} {history} {texts} {times} {outlet} {sent} {old} {new} same is = subst (λ (r : PlanParts). IsSentSo asked (IsPrintedOf known asked settings r history texts times) outlet sent old new) same is

pub same_print : {p q : PlanParts} {t u : Times} (known : Option (List (ℕ × Reply))) (asked : Asked) (settings : Settings) (history : List Event) (texts : TextParts) (old new : Option (List ℕ)) (result : Result ExitStatus LaunchFault) → p ≡ q → t ≡ u
    → IsPrintedTo asked (IsPrintedOf known asked settings p history texts t) old new result → IsPrintedTo asked (IsPrintedOf known asked settings q history texts u) old new result
same_print {p} {q} {t} {u} known asked settings history texts old new result same also is =
    subst (λ (r : PlanParts). IsPrintedTo asked (IsPrintedOf known asked settings r history texts u) old new result) same (subst (λ (v : Times). IsPrintedTo asked (IsPrintedOf known asked settings p history texts v) old new result) also is)
