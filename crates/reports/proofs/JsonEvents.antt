-- The objects of events are read from their lines.
use Rattle.std.proofs.Common.{◌≡◌, ℕ, ◌+◌, ◌/◌, ◌^◌, ◌<◌, ◌≤◌, ◌==◌, Bool, true, false, cond, List, [], ◌∷◌, ◌++◌, length, take, get_or, Option, Some, None, map, append-nil, codes, arith, refl, sym, ap, ◌∙◌, subst}
use Rattle.std.specs.Prelude.{IfSome}
use Rattle.std.specs.List.{AllByRecursion}
use Rattle.std.proofs.lemmas.List.{take_all, take_more}
use Rattle.json.specs.Json.{Members, no_members}
use Rattle.json.specs.Tree.{members_depth}
use Rattle.job_times.specs.Timings.{Took, took_of}
use Rattle.resource_locks.specs.Plans.{PlanParts}
use Rattle.plan_events.specs.Texts.{TextParts, text_at}
use Rattle.plan_events.specs.declared.event.Event.{Event}
use Rattle.plan_events.specs.declared.event.EventKind.{EventKind}
use Rattle.plan_events.specs.declared.event.EventKind.TheVariants.{Started, Finished, Skipped, Registered}
use Rattle.plan_events.specs.declared.status.Status.{Status}
use Rattle.plan_events.specs.declared.status.Status.TheVariants.{Successful, Aborted, Failed}
use Rattle.run_results.specs.Feed.{text_or}
use Rattle.reports.specs.Json.{ReadsAs, text_member, time_members, status_members, timed_ending_members, node_members, event_json, timed_object_told, note_json, note_line, timed_json_of}
use Rattle.reports.proofs.JsonLines.{MembersHaveDecimals, IsLine, lines_read}

-- members whose values nest nothing, each number of which is in decimal
pub record AreFlat (ms : Members) : Type 0 where
  pub decimals : MembersHaveDecimals ms
  pub flat : members_depth ms ≡ 0

pub text_more : (name text : List ℕ) (ms : Members) → AreFlat ms → AreFlat (text_member name text ms)
text_more name text ms h = record { decimals = (tt, h.decimals); flat = omega (arith, h.flat) }

pub of_none : AreFlat no_members
of_none = record { decimals = tt; flat = refl }

-- a time that is known is a number of 64 bits
abbrev pub IsTime : Option ℕ → Type 0
IsTime took = IfSome took (λ micros. micros < 2 ^ 64)

of_time : (took : Option ℕ) → IsTime took → AreFlat (time_members took)
of_time None small = of_none
of_time (Some micros) small = record { decimals = ((micros / 1000, omega arith, refl), tt); flat = refl }

of_status : (status : Status) (text : List ℕ) (took : Option ℕ) → IsTime took → AreFlat (status_members status text took)
of_status Successful text took small = text_more _ _ _ (of_time took small)
of_status Aborted text took small = text_more _ _ _ (text_more _ _ _ (of_time took small))
of_status Failed text took small = text_more _ _ _ (text_more _ _ _ (of_time took small))

of_ending : (kind : EventKind) (status : Option Status) (text : List ℕ) (took : Option ℕ) → IsTime took → AreFlat (timed_ending_members kind status text took)
of_ending Started status text took small = of_none
of_ending Registered status text took small = of_none
of_ending Skipped status text took small = text_more _ _ no_members of_none
of_ending Finished None text took small = of_none
of_ending Finished (Some status) text took small = of_status status text took small

-- either of two
pub of_either : (b : Bool) (ms more : Members) → AreFlat ms → AreFlat more → AreFlat (cond b ms more)
of_either true ms more h k = h
of_either false ms more h k = k

of_node : (plan : PlanParts) (e : Event) (text : List ℕ) (took : Option ℕ) → IsTime took → AreFlat (node_members plan e text took)
of_node plan e text took small =
    of_either (e.node == 0) _ _ (text_more _ _ no_members of_none) (text_more _ _ _ (text_more _ _ _ (text_more _ _ _ (of_ending e.kind e.status text took small))))

-- the event's worker is a byte, and its node's time a number of 64 bits
abbrev pub AreSmall : Took → Event → Type 0
AreSmall took e = (e.worker < 256) × IsTime (took_of took e.node)

-- the object of an event can be a line
event_line : (plan : PlanParts) (e : Event) (text : List ℕ) (took : Option ℕ) → e.worker < 256 → IsTime took → IsLine (event_json plan e text took)
event_line plan e text took small short = let h = of_node plan e text took short in ((tt, ((e.worker, omega arith, refl), h.decimals)), omega (arith, h.flat))

all_lines : (plan : PlanParts) (texts : TextParts) (took : Took) (es : List Event) → AllByRecursion (AreSmall took) es → AllByRecursion (λ e. IsLine (timed_object_told plan texts took e)) es
all_lines plan texts took [] h = tt
all_lines plan texts took (e ∷ es) h = (event_line plan e (text_or (text_at texts e.node)) (took_of took e.node) h.0.0 h.0.1, all_lines plan texts took es h.1)

-- Each line of the JSON of events is read as the object of its event.
events_read : (plan : PlanParts) (texts : TextParts) (took : Took) (es : List Event) → AllByRecursion (AreSmall took) es → ReadsAs (timed_json_of plan texts took es) (map (timed_object_told plan texts took) es)
events_read plan texts took es h = lines_read (timed_object_told plan texts took) es (all_lines plan texts took es h)

-- and so is each of a text that has the lines of all of them
pub text_reads : (plan : PlanParts) (texts : TextParts) (took : Took) (es : List Event) (i : ℕ) {text : List ℕ} → length es ≤ i → text ≡ timed_json_of plan texts took (take i es) → AllByRecursion (AreSmall took) (take i es)
    → ReadsAs text (map (timed_object_told plan texts took) es)
text_reads plan texts took es i all is small =
    let whole = take_all i es all in
    subst (λ (l : List ℕ). ReadsAs l (map (timed_object_told plan texts took) es)) (sym (is ∙ ap (timed_json_of plan texts took) whole))
    (events_read plan texts took es (subst (AllByRecursion (AreSmall took)) whole small))

-- And so is a line that tells of no node.
pub note_reads : (what name text : List ℕ) → ReadsAs (note_line what name text) (note_json what name text ∷ [])
note_reads what name text =
    let members = text_more (codes "event") what (text_member name text no_members) (text_more name text no_members of_none) in
    subst (λ (line : List ℕ). ReadsAs line (note_json what name text ∷ [])) (append-nil (note_line what name text))
    (lines_read (λ j. j) (note_json what name text ∷ []) ((members.decimals, omega (arith, members.flat)), tt))

behind_all : {X : Type 0} (P : X → Type 0) (xs : List X) (x : X) → AllByRecursion P xs → P x → AllByRecursion P (xs ++ x ∷ [])
behind_all P [] x h k = (k, tt)
behind_all P (y ∷ ys) x h k = (h.0, behind_all P ys x h.1 k)

-- what holds of the first elements holds of one more
pub first_more : {X : Type 0} (P : X → Type 0) (xs : List X) (i : ℕ) (d : X) → i < length xs → AllByRecursion P (take i xs) → P (get_or xs i d) → AllByRecursion P (take (i + 1) xs)
first_more P xs i d inside before this = subst (AllByRecursion P) (sym (take_more xs i d inside)) (behind_all P (take i xs) (get_or xs i d) before this)
