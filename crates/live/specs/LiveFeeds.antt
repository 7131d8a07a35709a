-- What a writer was given of the lines of a run that goes on.
use Rattle.std.specs.Prelude.{◌≡◌, ℕ, ◌+◌, ◌<◌, ◌≤◌, ◌⊎◌, ◌||◌, Bool, true, false, List, [], ◌∷◌, ◌++◌, codes, length, take, Option, string_bytes}
use Rattle.std.specs.List.{All, flat_map}
use Rattle.std.specs.Io.KnownBytes.{Appends}
use Rattle.plan_events.specs.declared.event.Event.{Event}
use Rattle.plan_events.specs.Texts.{TextParts}
use Rattle.resource_locks.specs.Plans.{PlanParts}
use Rattle.run_results.specs.Feed.{event_line, feed_of, id_at, text_or}
use Rattle.listeners.specs.Listeners.{Telling}
use Rattle.job_times.specs.Timings.{Took, took_of, is_noted, IsNotedWith, Times, times_of, times_asked}
use Rattle.reports.specs.Json.{event_json, timed_json_of, written}
use Rattle.listeners.specs.Endings.{ends_plan, is_finish}
use Rattle.live.specs.declared.line_form.LineForm.{LineForm}
use Rattle.live.specs.declared.line_form.LineForm.TheVariants.{Feed, Json}
use Rattle.live.specs.declared.live_feed.LiveFeed.{LiveFeed}
use Rattle.live.specs.declared.live_feed.Outlet.{Outlet}
use Rattle.live.specs.declared.live_feed.Outlet.TheVariants.{Waiting, Open, Closed, Failed}

-- the line of an event in this form, with the text that is told with it, and in JSON the time of its node
abbrev pub telling_line : LineForm → PlanParts → Times → Telling → List ℕ
telling_line Feed p times t = event_line t.event (id_at p t.event.node) (text_or t.text)
telling_line Json p times t = written (event_json p t.event (text_or t.text) (took_of times.took t.event.node)) ++ codes "\n"

-- the lines of these events in this form: the feed, or the JSON with these times
abbrev pub lines_of : LineForm → PlanParts → TextParts → Times → List Event → List ℕ
lines_of Feed p texts times events = feed_of p texts events
lines_of Json p texts times events = timed_json_of p texts times.took events

-- what is printed of these events: what stands in front, then a line for each
abbrev pub output_of : LineForm → List ℕ → PlanParts → Times → List Telling → List ℕ
output_of form head p times ts = head ++ flat_map (telling_line form p times) ts

-- one of them is the plan's finish
abbrev pub has_end : List Telling → Bool
has_end [] = false
has_end (t ∷ ts) = ends_plan t.event || has_end ts

-- what waits in front of the line that is printed next: in front of the first one the head alone
abbrev pub front_of : Outlet → (head pending : List ℕ) → List ℕ
front_of Waiting head pending = head
front_of Open head pending = pending
front_of Closed head pending = pending
front_of Failed head pending = pending

-- what was sent, so many bytes, and what waits behind it are this output
pub record AreBoth (sent : ℕ) (pending output : List ℕ) : Type 0 where
  pub done : List ℕ
  pub many : sent ≡ length done
  pub both : output ≡ done ++ pending

-- How far the printing has come of this output, which is that of these events: nothing was printed, as nothing happened; all was but what
-- waits, and the plan has not finished; or, for good, the first so many bytes were, and not all unless nothing was. The plan's finish is
-- never printed.
abbrev pub IsSoFar : Outlet → ℕ → (pending output : List ℕ) → List Telling → Type 0
IsSoFar Waiting sent pending output ts = (sent ≡ 0) × (ts ≡ [])
IsSoFar Open sent pending output ts = AreBoth sent pending output × (has_end ts ≡ false)
IsSoFar Closed sent pending output ts = (sent ≡ 0) ⊎ (sent < length output)
IsSoFar Failed sent pending output ts = sent < length output

-- whether nothing is printed any more before `finish`
abbrev pub is_stopped : Outlet → Bool
is_stopped Waiting = false
is_stopped Open = false
is_stopped Closed = true
is_stopped Failed = true

-- what is noted of node n, which has finished and whose time is told; of another nothing is
abbrev pub NotesIf : Bool → (n : ℕ) → (old new : Took) → Type 0
NotesIf true n old new = IsNotedWith n old new
NotesIf false n old new = new ≡ old

-- of a node whose finish this is the time is noted, if it has a place: so no time that was told with it changes
abbrev pub IsNotedIn : Took → Telling → Type 0
IsNotedIn took t = is_finish t.event.kind ≡ true → t.event.node < length took → is_noted took t.event.node ≡ true

module _ {W S : Type 0} where
  -- the times that stand in its lines: those that are noted, if it tells times
  abbrev pub shown_times : LiveFeed W S → Times
  shown_times feed = times_asked feed.timed (times_of feed.timings.now)

  -- nothing was printed since, and its writer was left alone
  pub record StaysAs (first now : LiveFeed W S) : Type 0 where
    pub outlet : now.outlet ≡ first.outlet
    pub sent : now.sent ≡ first.sent
    pub writer : now.writer.now ≡ first.writer.now

-- The writer is that of the feed at first, and has taken besides the first so many bytes of what is printed of these events, with the
-- times that are noted now: the table is that of the feed at first, and what was told is noted. A feed that had stopped, since it was
-- closed or its writer failed, has printed nothing.
pub record IsPrinted {W S : Type 0} (contents : W → Option (List ℕ)) (p : PlanParts) (first now : LiveFeed W S) (ts : List Telling) : Type 0 where
  pub same : now.writer.ghost_name ≡ first.writer.ghost_name
  pub head : now.head ≡ first.head
  pub form : now.form ≡ first.form
  pub timed : now.timed ≡ first.timed
  pub same_timings : now.timings.ghost_name ≡ first.timings.ghost_name
  pub noted : All (IsNotedIn (shown_times now).took) ts
  pub stopped : is_stopped first.outlet ≡ true → StaysAs first now
  pub so_far : is_stopped first.outlet ≡ false → IsSoFar now.outlet now.sent (string_bytes now.pending.now) (output_of first.form first.head.now p (shown_times now) ts) ts
  pub printed : is_stopped first.outlet ≡ false → Appends (contents first.writer.now) (contents now.writer.now) (take now.sent (output_of first.form first.head.now p (shown_times now) ts))

-- What was done with bytes that waited, and what waits still: the writer took all, or none was handed to it, or it failed behind the first
-- so many.
abbrev pub IsHandedOn : Outlet → Option (List ℕ) → Option (List ℕ) → (was now : ℕ) → (bytes left : List ℕ) → Type 0
IsHandedOn Waiting old new was now bytes left = ⊥
IsHandedOn Open old new was now bytes left = Appends old new bytes × (now ≡ was + length bytes) × (left ≡ [])
IsHandedOn Closed old new was now bytes left = Appends old new [] × (now ≡ was)
IsHandedOn Failed old new was now bytes left = (n : ℕ) × (n < length bytes) × Appends old new (take n bytes) × (now ≡ was + n)

-- The writer took the first so many bytes of the text, and not all if it failed.
pub record IsFront (old new : Option (List ℕ)) (outlet : Outlet) (sent : ℕ) (text : List ℕ) : Type 0 where
  pub fits : sent ≤ length text
  pub failed : outlet ≡ Failed → sent < length text
  pub printed : Appends old new (take sent text)
