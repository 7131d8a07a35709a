-- Each line of the JSON of a run tells its event.
use Rattle.std.proofs.Common.{◌≡◌, ℕ, ◌+◌, ◌/◌, ◌≤◌, ◌==◌, Bool, true, false, cond, List, [], ◌∷◌, ◌++◌, length, take, map, Option, Some, None, codes, inl, inr, refl, sym, ap, ◌∙◌, arith, append-nil}
use Rattle.std.specs.List.{AllByRecursion, slice_split, count_by}
use Rattle.std.specs.Option.{option_and_then}
use Rattle.std.specs.Str.{bytes_eq}
use Rattle.std.specs.Str.Lines.{lines, lines_of_parts}
use Rattle.std.proofs.lemmas.Bool.{cases_eq, ne_eqb}
use Rattle.std.proofs.lemmas.List.{length-map}
use Rattle.std.proofs.lemmas.List.Splits.{length-slice_split}
use Rattle.std.proofs.lemmas.List.Sums.{sum_by-cons}
use Rattle.json.specs.Json.{Json, object, Members, no_members, document, max_depth}
use Rattle.json.specs.Tree.{HasNumbers, MembersHaveNumbers, depth, members_depth}
use Rattle.json.proofs.Printed.Decimals.{IsNumber-decimal}
use Rattle.json.proofs.Printed.Trees.{document-print}
use Rattle.unique_id.specs.Spelling.{spelling}
use Rattle.unique_id.specs.declared.unique_id.Segment.{Segment}
use Rattle.descriptor.specs.Nodes.{node_at, kind_of}
use Rattle.descriptor.specs.declared.kind.Kind.{Kind}
use Rattle.descriptor.specs.declared.kind.Kind.TheVariants.{Container, Test, ContainerAndTest}
use Rattle.job_times.specs.Timings.{Took, took_of}
use Rattle.resource_locks.specs.Plans.{PlanParts}
use Rattle.plan_events.specs.Texts.{TextParts, text_at}
use Rattle.plan_events.specs.Words.{fits_status, plan_may}
use Rattle.plan_events.specs.declared.event.Event.{Event}
use Rattle.plan_events.specs.declared.event.EventKind.{EventKind}
use Rattle.plan_events.specs.declared.event.EventKind.TheVariants.{Started, Finished, Skipped, Registered}
use Rattle.plan_events.specs.declared.status.Status.{Status}
use Rattle.plan_events.specs.declared.status.Status.TheVariants.{Successful, Aborted, Failed}
use Rattle.run_results.specs.Feed.{kind_word, id_at, id_or, text_or}
use Rattle.run_results.specs.TreeTexts.{name_at}
use Rattle.reports.specs.Json.{written, text_member, number_member, type_word, time_members, timed_ending_members, event_json, timed_event_object, timed_json_of}
use Rattle.reports.specs.TimeTexts.{AreTimes}
use Rattle.reports.proofs.JsonEvents.{IsTime, text_reads}
use Rattle.reports.proofs.JsonWritten.{pieces}
use Rattle.saved_runs.specs.Histories.{what_of, plan_event, segments_or, event_told, IsUid, HasUid, HasUids, IsOf, TellsFirst}
use Rattle.saved_runs.specs.FeedLines.{feed_line}
use Rattle.saved_runs.specs.JsonLines.{object_told, json_line}
use Rattle.saved_runs.specs.Lines.{is_line_feed, whole_lines, is_object, line_told, Tell}
use Rattle.saved_runs.specs.Telling.{told_of, plan_told, node_told}
use Rattle.saved_runs.specs.declared.told.Told.{Told}
use Rattle.saved_runs.specs.declared.told.Told.TheVariants.{Node as OfNode}
use Rattle.saved_runs.proofs.FeedTold.{IsLawful, lawful_parts, uid_at, each, first_of, tells_each}
use Rattle.saved_runs.proofs.IdEnds.{id_read}
use Rattle.saved_runs.proofs.Lacking.{lacks_more}
use Rattle.saved_runs.proofs.Splitting.{IsFlat, all_lines, first_lines}

-- ---- what an object tells

-- the members that tell of a node
abbrev of_node : EventKind → Kind → List ℕ → List ℕ → Option Status → List ℕ → Option ℕ → Members
of_node kind k id name status text took =
    text_member (codes "type") (type_word k) (text_member (codes "id") id (text_member (codes "name") name (timed_ending_members kind status text took)))

abbrev of_plan : Members
of_plan = text_member (codes "type") (codes "PLAN") no_members

abbrev with_event : EventKind → ℕ → Members → Json
with_event kind w more = object (text_member (codes "event") (kind_word kind) (number_member (codes "worker") w more))

plan_object : (kind : EventKind) (w : ℕ) (status : Option Status) → plan_may kind status ≡ true → object_told (with_event kind w of_plan) ≡ Some (plan_event kind)
plan_object Started w status h = refl
plan_object Finished w status h = refl
plan_object Skipped w status h = absurd (cc)
plan_object Registered w status h = absurd (cc)

not_plan : (k : Kind) → bytes_eq (type_word k) (codes "PLAN") ≡ false
not_plan Container = refl
not_plan Test = refl
not_plan ContainerAndTest = refl

-- what is told where the type is not that of the plan
told_if : (kind : EventKind) (k : Kind) (id status : List ℕ) (told : Option Told) → node_told (kind_word kind) id status ≡ told
    → cond (bytes_eq (type_word k) (codes "PLAN")) (plan_told (kind_word kind)) (node_told (kind_word kind) id status) ≡ told
told_if kind k id status told is = ap (λ t. cond t (plan_told (kind_word kind)) (node_told (kind_word kind) id status)) (not_plan k) ∙ is

-- the time that a finish tells is passed over
finished_object : (w : ℕ) (k : Kind) (name : List ℕ) (status : Status) (text : List ℕ) (took : Option ℕ) (id : List Segment) → IsUid id
    → object_told (with_event Finished w (of_node Finished k (spelling id) name (Some status) text took)) ≡ Some (OfNode id (what_of Finished (Some status)))
finished_object w k name Successful text None id uid = told_if Finished k (spelling id) (codes "SUCCESSFUL") _ (ap (told_of (what_of Finished (Some Successful))) (id_read id uid))
finished_object w k name Successful text (Some micros) id uid =
    told_if Finished k (spelling id) (codes "SUCCESSFUL") _ (ap (told_of (what_of Finished (Some Successful))) (id_read id uid))
finished_object w k name Aborted text None id uid = told_if Finished k (spelling id) (codes "ABORTED") _ (ap (told_of (what_of Finished (Some Aborted))) (id_read id uid))
finished_object w k name Aborted text (Some micros) id uid =
    told_if Finished k (spelling id) (codes "ABORTED") _ (ap (told_of (what_of Finished (Some Aborted))) (id_read id uid))
finished_object w k name Failed text None id uid = told_if Finished k (spelling id) (codes "FAILED") _ (ap (told_of (what_of Finished (Some Failed))) (id_read id uid))
finished_object w k name Failed text (Some micros) id uid =
    told_if Finished k (spelling id) (codes "FAILED") _ (ap (told_of (what_of Finished (Some Failed))) (id_read id uid))

node_object : (kind : EventKind) (w : ℕ) (k : Kind) (name : List ℕ) (status : Option Status) → fits_status kind status ≡ true → (text : List ℕ) (took : Option ℕ) (id : List Segment) → IsUid id
    → object_told (with_event kind w (of_node kind k (spelling id) name status text took)) ≡ Some (OfNode id (what_of kind status))
node_object Started w k name None h text took id uid = told_if Started k (spelling id) [] _ (ap (told_of (what_of Started None)) (id_read id uid))
node_object Started w k name (Some status) h text took id uid = absurd (cc)
node_object Registered w k name None h text took id uid = told_if Registered k (spelling id) [] _ (ap (told_of (what_of Registered None)) (id_read id uid))
node_object Registered w k name (Some status) h text took id uid = absurd (cc)
node_object Skipped w k name None h text took id uid = told_if Skipped k (spelling id) [] _ (ap (told_of (what_of Skipped None)) (id_read id uid))
node_object Skipped w k name (Some status) h text took id uid = absurd (cc)
node_object Finished w k name None h text took id uid = absurd (cc)
node_object Finished w k name (Some status) h text took id uid = finished_object w k name status text took id uid

object_by : (b : Bool) (plan : PlanParts) (e : Event) (text : List ℕ) (took : Option ℕ) → IsLawful e → (b ≡ true → plan_may e.kind e.status ≡ true) → (b ≡ false → HasUid plan.tree e.node)
    → object_told (with_event e.kind e.worker (cond b of_plan (of_node e.kind (kind_of plan.tree e.node) (id_at plan e.node) (name_at plan.tree e.node) e.status text took)))
    ≡ Some (cond b (plan_event e.kind) (OfNode (segments_or (node_at plan.tree e.node)) (what_of e.kind e.status)))
object_by true plan e text took lawful root node = plan_object e.kind e.worker e.status (root refl)
object_by false plan e text took lawful root node =
    let u = node refl in
    ap (λ o. object_told (with_event e.kind e.worker (of_node e.kind (kind_of plan.tree e.node) (id_or o) (name_at plan.tree e.node) e.status text took))) u.here
    ∙ node_object e.kind e.worker (kind_of plan.tree e.node) (name_at plan.tree e.node) e.status lawful.fits text took u.node.id u.uid
    ∙ ap (λ o. Some (OfNode (segments_or o) (what_of e.kind e.status))) (sym u.here)

-- ---- the object is read from its text

record AreRead (ms : Members) : Type 0 where
  pub numbers : MembersHaveNumbers ms
  pub flat : members_depth ms ≡ 0

text_read : (name text : List ℕ) (ms : Members) → AreRead ms → AreRead (text_member name text ms)
text_read name text ms h = record { numbers = (tt, h.numbers); flat = omega (arith, h.flat) }

none_read : AreRead no_members
none_read = record { numbers = tt; flat = refl }

time_read : (took : Option ℕ) → IsTime took → AreRead (time_members took)
time_read None small = none_read
time_read (Some micros) small = record { numbers = (IsNumber-decimal (micros / 1000) (omega arith), tt); flat = refl }

ending_read : (kind : EventKind) (status : Option Status) (text : List ℕ) (took : Option ℕ) → IsTime took → AreRead (timed_ending_members kind status text took)
ending_read Started status text took small = none_read
ending_read Registered status text took small = none_read
ending_read Skipped status text took small = text_read _ _ no_members none_read
ending_read Finished None text took small = none_read
ending_read Finished (Some Successful) text took small = text_read _ _ _ (time_read took small)
ending_read Finished (Some Aborted) text took small = text_read _ _ _ (text_read _ _ _ (time_read took small))
ending_read Finished (Some Failed) text took small = text_read _ _ _ (text_read _ _ _ (time_read took small))

either_read : (b : Bool) (ms more : Members) → AreRead ms → AreRead more → AreRead (cond b ms more)
either_read true ms more h k = h
either_read false ms more h k = k

members_read : (b : Bool) (plan : PlanParts) (e : Event) (text : List ℕ) (took : Option ℕ) → IsTime took
    → AreRead (cond b of_plan (of_node e.kind (kind_of plan.tree e.node) (id_at plan e.node) (name_at plan.tree e.node) e.status text took))
members_read b plan e text took small =
    either_read b _ _ (text_read _ _ no_members none_read) (text_read _ _ _ (text_read _ _ _ (text_read _ _ _ (ending_read e.kind e.status text took small))))

begins_object : (plan : PlanParts) (e : Event) (text : List ℕ) (took : Option ℕ) → is_object (written (event_json plan e text took)) ≡ true
begins_object plan e text took = ap is_object (pieces (event_json plan e text took))

pub json_line_tells : (plan : PlanParts) (texts : TextParts) (took : Took) → AreTimes took → HasUids plan → (e : Event) → IsOf plan e → line_told (timed_event_object plan texts took e) ≡ Some (event_told plan e)
json_line_tells plan texts took times uids e of =
    let lawful = lawful_parts e of.lawful in
    let text = text_or (text_at texts e.node) in
    let time = took_of took e.node in
    let j = event_json plan e text time in
    let inside = members_read (e.node == 0) plan e text time (times e.node) in
    let numbers : HasNumbers j = (tt, (IsNumber-decimal e.worker (omega (arith, lawful.worker)), inside.numbers)) in
    let shallow : depth j ≤ max_depth = omega (arith, inside.flat) in
    ap (λ t. cond t (json_line (written j)) (feed_line (written j))) (begins_object plan e text time) ∙ ap (option_and_then object_told) (document-print j numbers shallow)
    ∙ object_by (e.node == 0) plan e text time lawful lawful.plan (uid_at plan uids e of)

-- ---- no line feed in it, since it is one line

parts_many : (parts : List (List ℕ)) → length parts ≤ length (lines_of_parts parts) + 1
parts_many [] = omega arith
parts_many (x ∷ []) = omega arith
parts_many (x ∷ y ∷ more) = omega (arith, parts_many (y ∷ more))

count_one : (x : ℕ) (xs : List ℕ) → count_by is_line_feed (x ∷ xs) ≡ cond (is_line_feed x) 1 0 + count_by is_line_feed xs
count_one x xs = sum_by-cons (λ b. cond (is_line_feed b) 1 0) x xs

some_feed : (xs : List ℕ) → 1 ≤ count_by is_line_feed (xs ++ 10 ∷ [])
some_feed [] = omega arith
some_feed (x ∷ xs) = omega (arith, count_one x (xs ++ 10 ∷ []), some_feed xs)

flat_by_count : (xs : List ℕ) → count_by is_line_feed (xs ++ 10 ∷ []) ≤ 1 → IsFlat xs
flat_by_count [] h = refl
flat_by_count (x ∷ xs) h = elim (cases_eq x 10) [
  | inl same ↦
      let weigh : ℕ → ℕ = λ b. cond (is_line_feed b) 1 0 in
      let here : weigh x ≡ weigh 10 = ap weigh same in
      absurd (omega (arith, here, count_one x (xs ++ 10 ∷ []), some_feed xs, h))
  | inr other ↦ lacks_more 10 x xs (ne_eqb x 10 other) (flat_by_count xs (omega (arith, count_one x (xs ++ 10 ∷ []), h)))
]

one_line : (xs : List ℕ) → length (lines (xs ++ 10 ∷ [])) ≡ 1 → IsFlat xs
one_line xs h =
    let parts = slice_split is_line_feed (xs ++ 10 ∷ []) in
    flat_by_count xs (omega (arith, h, parts_many parts, length-slice_split is_line_feed (xs ++ 10 ∷ [])))

pub json_line_flat : (plan : PlanParts) (texts : TextParts) (took : Took) → AreTimes took → (e : Event) → IsOf plan e → IsFlat (timed_event_object plan texts took e)
json_line_flat plan texts took times e of =
    let lawful = lawful_parts e of.lawful in
    let line = timed_event_object plan texts took e in
    let whole : timed_json_of plan texts took (e ∷ []) ≡ line ++ 10 ∷ [] = append-nil (line ++ 10 ∷ []) in
    let read = text_reads plan texts took (e ∷ []) 1 {text = timed_json_of plan texts took (e ∷ [])} (omega arith) refl ((omega (arith, lawful.worker), times e.node), tt) in
    one_line line (ap (λ text. length (lines text)) (sym whole) ∙ sym (length-map (lines (timed_json_of plan texts took (e ∷ []))) document) ∙ ap length read)

-- ---- the whole text

module _ (plan : PlanParts) (texts : TextParts) (took : Took) (times : AreTimes took) (es : List Event) where
  abbrev line : Event → List ℕ
  line = timed_event_object plan texts took

  -- The whole lines of the JSON of a run tell its events.
  pub json_tells : HasUids plan → AllByRecursion (IsOf plan) es → Tell (whole_lines (timed_json_of plan texts took es)) (map (event_told plan) es)
  json_tells uids of =
      ap (map line_told) (all_lines line es (each (IsOf plan) (λ e. IsFlat (line e)) (json_line_flat plan texts took times) es of))
      ∙ tells_each line (event_told plan) es (each (IsOf plan) (λ e. line_told (line e) ≡ Some (event_told plan e)) (json_line_tells plan texts took times uids) es of)

  -- And those of each beginning of it the first of them.
  pub json_front_tells : (k : ℕ) → HasUids plan → AllByRecursion (IsOf plan) es → TellsFirst plan es (take k (timed_json_of plan texts took es))
  json_front_tells k uids of =
      let first = first_lines line es (each (IsOf plan) (λ e. IsFlat (line e)) (json_line_flat plan texts took times) es of) k in
      record {
        count = first.count;
        within = first.within;
        told = ap (map line_told) first.first
            ∙ tells_each line (event_told plan) (take first.count es)
            (each (IsOf plan) (λ e. line_told (line e) ≡ Some (event_told plan e)) (json_line_tells plan texts took times uids) (take first.count es) (first_of (IsOf plan) first.count es of));
      }
