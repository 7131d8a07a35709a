-- Each line of a feed tells its event.
use Rattle.std.proofs.Common.{◌≡◌, ℕ, zero, suc, ◌<◌, ◌≤◌, ◌^◌, ◌==◌, nat_lt, Bool, true, false, cond, List, [], ◌∷◌, ◌++◌, length, take, map, Option, Some, None, codes, decimal, refl, sym, ap, ap₂, ◌∙◌, arith, append_assoc}
use Rattle.std.specs.List.{AllByRecursion}
use Rattle.std.proofs.lemmas.Bool.{and_from}
use Rattle.std.proofs.lemmas.Bool.Decides.{nat_tests}
use Rattle.std.proofs.lemmas.Fmt.{digits_decimal, decimal_nonempty}
use Rattle.suite_words.proofs.Numbers.{own}
use Rattle.unique_id.specs.Spelling.{spelling}
use Rattle.unique_id.specs.declared.unique_id.Segment.{Segment}
use Rattle.descriptor.specs.Nodes.{node_at}
use Rattle.resource_locks.specs.Plans.{PlanParts}
use Rattle.plan_events.specs.Texts.{TextParts, text_at}
use Rattle.plan_events.specs.Words.{is_lawful, fits_status, plan_may}
use Rattle.plan_events.proofs.Readings.{lawful_ranges}
use Rattle.event_history.proofs.Lawful.{lawful_fits, plan_event as lawful_plan}
use Rattle.plan_events.specs.declared.event.Event.{Event}
use Rattle.plan_events.specs.declared.event.EventKind.{EventKind}
use Rattle.plan_events.specs.declared.event.EventKind.TheVariants.{Started, Finished, Skipped, Registered}
use Rattle.plan_events.specs.declared.status.Status.{Status}
use Rattle.plan_events.specs.declared.status.Status.TheVariants.{Successful, Aborted, Failed}
use Rattle.run_results.specs.Feed.{kind_word, ending, event_line, plan_line, node_line as printed_line, id_at, id_or, text_or, feed_of}
use Rattle.run_results.specs.Printed.{printed_byte, cleaned, text_after}
use Rattle.saved_runs.specs.FeedLines.{after_word, is_worker, node_ended, node_line, behind_worker, note_line}
use Rattle.saved_runs.specs.Histories.{what_of, plan_event, segments_or, event_told, IsUid, HasUid, HasUids, HasFlatIds, IsOf, TellsFirst}
use Rattle.saved_runs.specs.Lines.{whole_lines, line_told, Tell}
use Rattle.saved_runs.specs.Telling.{told_of}
use Rattle.saved_runs.specs.declared.told.Told.{Told}
use Rattle.saved_runs.specs.declared.told.Told.TheVariants.{Node as OfNode}
use Rattle.saved_runs.proofs.FirstWords.{first_is, after_is}
use Rattle.saved_runs.proofs.IdEnds.{IsBehind, id_read, node_cut}
use Rattle.saved_runs.proofs.Lacking.{lacks, lacks_both, lacks_more, lacks_each, decimal_spaceless, decimal_flat}
use Rattle.saved_runs.proofs.Splitting.{IsFlat, text_of, all_lines, first_lines}

-- ---- a line

-- the token of the worker, and what stands behind it
abbrev by_worker : ℕ → List ℕ → List ℕ
by_worker w rest = (119 ∷ decimal w) ++ 32 ∷ rest

abbrev plan_rest : EventKind → List ℕ
plan_rest kind = codes "plan" ++ 32 ∷ kind_word kind

abbrev node_rest : EventKind → Option Status → List ℕ → List ℕ → List ℕ
node_rest kind status id text = kind_word kind ++ 32 ∷ (id ++ ending kind status text)

-- the line of an event, without its line feed
abbrev line_of : Event → List ℕ → List ℕ → List ℕ
line_of e id text = by_worker e.worker (cond (e.node == 0) (plan_rest e.kind) (node_rest e.kind e.status id text))

line_by : (b : Bool) (e : Event) (id text : List ℕ) → cond b (plan_line e) (printed_line e id text) ≡ by_worker e.worker (cond b (plan_rest e.kind) (node_rest e.kind e.status id text)) ++ 10 ∷ []
line_by true e id text = simp append_assoc
line_by false e id text = simp append_assoc

line_is : (e : Event) (id text : List ℕ) → event_line e id text ≡ line_of e id text ++ 10 ∷ []
line_is e id text = line_by (e.node == 0) e id text

-- ---- what it tells

worker_is : (w : ℕ) → w < 2 ^ 64 → is_worker (119 ∷ decimal w) ≡ true
worker_is w h = and_from (nat_lt 0 (length (decimal w))) _ (lt_is (length (decimal w)) (decimal_nonempty w h)) (digits_decimal own w h)
  where
    lt_is : (n : ℕ) → 0 < n → nat_lt 0 n ≡ true
    lt_is n h = grind (arith, nat_tests, h)

-- a worker's line tells what stands behind its token
worker_line : (w : ℕ) (rest : List ℕ) → w < 2 ^ 64 → line_told (by_worker w rest) ≡ behind_worker rest
worker_line w rest h =
    let line = by_worker w rest in
    let spaceless : lacks 32 (119 ∷ decimal w) ≡ true = lacks_more 32 119 (decimal w) refl (decimal_spaceless w h) in
    ap (λ word. cond (is_worker word) (behind_worker (after_word line)) (note_line line)) (first_is (119 ∷ decimal w) rest spaceless)
    ∙ ap (λ t. cond t (behind_worker (after_word line)) (note_line line)) (worker_is w h) ∙ ap behind_worker (after_is (119 ∷ decimal w) rest spaceless)

plan_told_by : (kind : EventKind) (status : Option Status) → plan_may kind status ≡ true → behind_worker (plan_rest kind) ≡ Some (plan_event kind)
plan_told_by Started status h = refl
plan_told_by Finished status h = refl
plan_told_by Skipped status h = absurd (cc)
plan_told_by Registered status h = absurd (cc)

-- behind the id
behind_is : (kind : EventKind) (status : Option Status) (text : List ℕ) → IsBehind (ending kind status text)
behind_is Started status text = tt
behind_is Registered status text = tt
behind_is Skipped status [] = tt
behind_is Skipped status (b ∷ text) = refl
behind_is Finished None text = tt
behind_is Finished (Some Successful) text = refl
behind_is Finished (Some Aborted) text = refl
behind_is Finished (Some Failed) text = refl

-- by the id's segments
ended_by : (kind : EventKind) (status : Option Status) → fits_status kind status ≡ true → (text : List ℕ) (id : List Segment) → IsUid id
    → node_ended (kind_word kind) (spelling id) (ending kind status text) ≡ Some (OfNode id (what_of kind status))
ended_by Started None h text id uid = ap (told_of (what_of Started None)) (id_read id uid)
ended_by Started (Some status) h text id uid = absurd (cc)
ended_by Registered None h text id uid = ap (told_of (what_of Registered None)) (id_read id uid)
ended_by Registered (Some status) h text id uid = absurd (cc)
ended_by Skipped None h [] id uid = ap (told_of (what_of Skipped None)) (id_read id uid)
ended_by Skipped None h (b ∷ text) id uid = ap (told_of (what_of Skipped None)) (id_read id uid)
ended_by Skipped (Some status) h text id uid = absurd (cc)
ended_by Finished None h text id uid = absurd (cc)
ended_by Finished (Some Successful) h text id uid = ap (told_of (what_of Finished (Some Successful))) (id_read id uid)
ended_by Finished (Some Aborted) h [] id uid = ap (told_of (what_of Finished (Some Aborted))) (id_read id uid)
ended_by Finished (Some Aborted) h (b ∷ text) id uid = ap (told_of (what_of Finished (Some Aborted))) (id_read id uid)
ended_by Finished (Some Failed) h [] id uid = ap (told_of (what_of Finished (Some Failed))) (id_read id uid)
ended_by Finished (Some Failed) h (b ∷ text) id uid = ap (told_of (what_of Finished (Some Failed))) (id_read id uid)

word_first : (kind : EventKind) (rest : List ℕ) → behind_worker (kind_word kind ++ 32 ∷ rest) ≡ node_line (kind_word kind) rest
word_first Started rest = refl
word_first Finished rest = refl
word_first Skipped rest = refl
word_first Registered rest = refl

node_told_by : (kind : EventKind) (status : Option Status) → fits_status kind status ≡ true → (text : List ℕ) (id : List Segment) → IsUid id
    → behind_worker (node_rest kind status (spelling id) text) ≡ Some (OfNode id (what_of kind status))
node_told_by kind status h text id uid =
    word_first kind (spelling id ++ ending kind status text) ∙ node_cut (kind_word kind) id (ending kind status text) uid.some (behind_is kind status text) ∙ ended_by kind status h text id uid

-- ---- events

-- what is lawful of an event, in parts
pub record IsLawful (e : Event) : Type 0 where
  pub fits : fits_status e.kind e.status ≡ true
  pub worker : e.worker ≤ 64
  pub plan : (e.node == 0) ≡ true → plan_may e.kind e.status ≡ true

pub lawful_parts : (e : Event) → is_lawful e ≡ true → IsLawful e
lawful_parts e h = record { fits = lawful_fits e h; worker = omega (arith, (lawful_ranges e h).worker_below); plan = λ root. lawful_plan e h (is_zero e.node root) }
  where
    is_zero : (n : ℕ) → (n == 0) ≡ true → n ≡ 0
    is_zero n h = grind (arith, nat_tests, h)

told_by_node : (b : Bool) (plan : PlanParts) (e : Event) (text : List ℕ) → IsLawful e → (b ≡ true → plan_may e.kind e.status ≡ true) → (b ≡ false → HasUid plan.tree e.node)
    → behind_worker (cond b (plan_rest e.kind) (node_rest e.kind e.status (id_at plan e.node) text)) ≡ Some (cond b (plan_event e.kind) (OfNode (segments_or (node_at plan.tree e.node)) (what_of e.kind e.status)))
told_by_node true plan e text lawful root node = plan_told_by e.kind e.status (root refl)
told_by_node false plan e text lawful root node =
    let u = node refl in
    ap (λ o. behind_worker (node_rest e.kind e.status (id_or o) text)) u.here ∙ node_told_by e.kind e.status lawful.fits text u.node.id u.uid
    ∙ ap (λ o. Some (OfNode (segments_or o) (what_of e.kind e.status))) (sym u.here)

pub uid_at : (plan : PlanParts) → HasUids plan → (e : Event) → IsOf plan e → (e.node == 0) ≡ false → HasUid plan.tree e.node
uid_at plan uids e of below = uids e.node (above e.node below) of.inside
  where
    above : (n : ℕ) → (n == 0) ≡ false → 0 < n
    above n h = grind (arith, nat_tests, h)

-- the line of an event of the plan with its text
abbrev pub feed_line_of : PlanParts → TextParts → Event → List ℕ
feed_line_of plan texts e = line_of e (id_at plan e.node) (text_or (text_at texts e.node))

pub line_tells : (plan : PlanParts) (texts : TextParts) → HasUids plan → (e : Event) → IsOf plan e → line_told (feed_line_of plan texts e) ≡ Some (event_told plan e)
line_tells plan texts uids e of =
    let lawful = lawful_parts e of.lawful in
    worker_line e.worker _ (omega (arith, lawful.worker)) ∙ told_by_node (e.node == 0) plan e (text_or (text_at texts e.node)) lawful lawful.plan (uid_at plan uids e of)

-- ---- no line feed in it

kind_flat : (kind : EventKind) → IsFlat (kind_word kind)
kind_flat Started = refl
kind_flat Finished = refl
kind_flat Skipped = refl
kind_flat Registered = refl

byte_flat : (b : ℕ) → (printed_byte b == 10) ≡ false
byte_flat b = grind (arith, nat_tests)

cleaned_flat : (text : List ℕ) → IsFlat (cleaned text)
cleaned_flat [] = refl
cleaned_flat (b ∷ text) = lacks_more 10 (printed_byte b) (cleaned text) (byte_flat b) (cleaned_flat text)

after_flat : (text : List ℕ) → IsFlat (text_after text)
after_flat [] = refl
after_flat (b ∷ text) = lacks_more 10 32 (cleaned (b ∷ text)) refl (cleaned_flat (b ∷ text))

ending_flat : (kind : EventKind) (status : Option Status) (text : List ℕ) → IsFlat (ending kind status text)
ending_flat Started status text = refl
ending_flat Registered status text = refl
ending_flat Skipped status text = after_flat text
ending_flat Finished None text = refl
ending_flat Finished (Some Successful) text = refl
ending_flat Finished (Some Aborted) text = lacks_both 10 (codes " ABORTED") (text_after text) refl (after_flat text)
ending_flat Finished (Some Failed) text = lacks_both 10 (codes " FAILED") (text_after text) refl (after_flat text)

rest_flat : (b : Bool) (e : Event) (id text : List ℕ) → (b ≡ false → IsFlat id) → IsFlat (cond b (plan_rest e.kind) (node_rest e.kind e.status id text))
rest_flat true e id text flat = lacks_both 10 (codes "plan") (32 ∷ kind_word e.kind) refl (lacks_more 10 32 (kind_word e.kind) refl (kind_flat e.kind))
rest_flat false e id text flat =
    lacks_both 10 (kind_word e.kind) (32 ∷ (id ++ ending e.kind e.status text)) (kind_flat e.kind)
    (lacks_more 10 32 (id ++ ending e.kind e.status text) refl (lacks_both 10 id (ending e.kind e.status text) (flat refl) (ending_flat e.kind e.status text)))

id_flat : (plan : PlanParts) → HasUids plan → HasFlatIds plan → (e : Event) → IsOf plan e → (e.node == 0) ≡ false → IsFlat (id_at plan e.node)
id_flat plan uids flat e of below =
    let u = uid_at plan uids e of below in
    ap (λ o. lacks 10 (id_or o)) u.here ∙ lacks_each 10 (spelling u.node.id) (flat e.node u.node u.here)

pub line_flat : (plan : PlanParts) (texts : TextParts) → HasUids plan → HasFlatIds plan → (e : Event) → IsOf plan e → IsFlat (feed_line_of plan texts e)
line_flat plan texts uids flat e of =
    let lawful = lawful_parts e of.lawful in
    let text = text_or (text_at texts e.node) in
    let rest = cond (e.node == 0) (plan_rest e.kind) (node_rest e.kind e.status (id_at plan e.node) text) in
    lacks_both 10 (119 ∷ decimal e.worker) (32 ∷ rest) (lacks_more 10 119 (decimal e.worker) refl (decimal_flat e.worker (omega (arith, lawful.worker))))
    (lacks_more 10 32 rest refl (rest_flat (e.node == 0) e (id_at plan e.node) text (id_flat plan uids flat e of)))

-- ---- the whole feed

feed_is : (plan : PlanParts) (texts : TextParts) (es : List Event) → feed_of plan texts es ≡ text_of (feed_line_of plan texts) es
feed_is plan texts [] = refl
feed_is plan texts (e ∷ es) = ap₂ (λ a b. a ++ b) (line_is e (id_at plan e.node) (text_or (text_at texts e.node))) (feed_is plan texts es)

pub each : {X : Type 0} (P Q : X → Type 0) → ((x : X) → P x → Q x) → (xs : List X) → AllByRecursion P xs → AllByRecursion Q xs
each P Q f [] h = tt
each P Q f (x ∷ xs) h = (f x h.0, each P Q f xs h.1)

pub first_of : {X : Type 0} (P : X → Type 0) (k : ℕ) (xs : List X) → AllByRecursion P xs → AllByRecursion P (take k xs)
first_of P zero xs h = tt
first_of P (suc k) [] h = tt
first_of P (suc k) (x ∷ xs) h = (h.0, first_of P k xs h.1)

pub tells_each : {X : Type 0} (line : X → List ℕ) (told : X → Told) (xs : List X) → AllByRecursion (λ x. line_told (line x) ≡ Some (told x)) xs → Tell (map line xs) (map told xs)
tells_each line told [] h = refl
tells_each line told (x ∷ xs) h = ap₂ (λ a b. a ∷ b) h.0 (tells_each line told xs h.1)

-- The whole lines of a feed tell its events.
pub feed_tells : (plan : PlanParts) (texts : TextParts) (es : List Event) → HasUids plan → HasFlatIds plan → AllByRecursion (IsOf plan) es → Tell (whole_lines (feed_of plan texts es)) (map (event_told plan) es)
feed_tells plan texts es uids flat of =
    let line = feed_line_of plan texts in
    ap (map line_told) (ap whole_lines (feed_is plan texts es) ∙ all_lines line es (each (IsOf plan) (λ e. IsFlat (line e)) (line_flat plan texts uids flat) es of))
    ∙ tells_each line (event_told plan) es (each (IsOf plan) (λ e. line_told (line e) ≡ Some (event_told plan e)) (line_tells plan texts uids) es of)

-- And those of each beginning of it the first of them.
pub front_tells : (plan : PlanParts) (texts : TextParts) (es : List Event) (k : ℕ) → HasUids plan → HasFlatIds plan → AllByRecursion (IsOf plan) es → TellsFirst plan es (take k (feed_of plan texts es))
front_tells plan texts es k uids flat of =
    let line = feed_line_of plan texts in
    let first = first_lines line es (each (IsOf plan) (λ e. IsFlat (line e)) (line_flat plan texts uids flat) es of) k in
    record {
      count = first.count;
      within = first.within;
      told = ap (map line_told) (ap (λ text. whole_lines (take k text)) (feed_is plan texts es) ∙ first.first)
          ∙ tells_each line (event_told plan) (take first.count es)
          (each (IsOf plan) (λ e. line_told (line e) ≡ Some (event_told plan e)) (line_tells plan texts uids) (take first.count es) (first_of (IsOf plan) first.count es of));
    }
