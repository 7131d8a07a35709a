-- The lines of a form are those of what is told.
use Rattle.std.proofs.Common.{◌≡◌, ◌∙◌, ℕ, ◌<◌, ◌==◌, ◌||◌, Bool, true, false, List, [], ◌∷◌, ◌++◌, length, Option, refl, sym, ap, arith, append-nil, length-append}
use Rattle.std.specs.Prelude.{cond, codes, decimal}
use Rattle.std.specs.List.{flat_map}
use Rattle.plan_events.specs.declared.event.Event.{Event}
use Rattle.plan_events.specs.declared.event.EventKind.{EventKind}
use Rattle.plan_events.specs.declared.event.EventKind.TheVariants.{Started, Finished, Skipped, Registered}
use Rattle.plan_events.specs.declared.status.Status.{Status}
use Rattle.plan_events.specs.Texts.{TextParts, text_at}
use Rattle.resource_locks.specs.Plans.{PlanParts}
use Rattle.run_results.specs.Feed.{kind_word, ending, event_line, id_at, text_or, feed_of}
use Rattle.listeners.specs.Listeners.{Telling, text_by, telling, tellings_of}
use Rattle.run_results.specs.TreeTexts.{name_at}
use Rattle.job_times.specs.Timings.{took_of, Times}
use Rattle.json.specs.Json.{Members, no_members, object}
use Rattle.reports.specs.Json.{event_json, number_member, text_member, timed_ending_members, timed_json_of, type_word, written}
use Rattle.descriptor.specs.Nodes.{kind_of}
use Rattle.listeners.specs.Endings.{ends_plan}
use Rattle.live.specs.LiveFeeds.{lines_of, telling_line, has_end}
use Rattle.live.specs.declared.line_form.LineForm.{LineForm}
use Rattle.live.specs.declared.line_form.LineForm.TheVariants.{Feed, Json}

-- an event that shows a text is told with it
text_shown : (k : EventKind) (s : Option Status) (t : Option (List ℕ)) → ending k s (text_or (text_by k t)) ≡ ending k s (text_or t)
text_shown Started s t = refl
text_shown Finished s t = refl
text_shown Skipped s t = refl
text_shown Registered s t = refl

-- and its members in an object
members_shown : (k : EventKind) (s : Option Status) (t : Option (List ℕ)) (took : Option ℕ) → timed_ending_members k s (text_or (text_by k t)) took ≡ timed_ending_members k s (text_or t) took
members_shown Started s t took = refl
members_shown Finished s t took = refl
members_shown Skipped s t took = refl
members_shown Registered s t took = refl

-- the line of an event whose object ends in these members
abbrev pub object_ending : PlanParts → Event → Members → List ℕ
object_ending p e ending =
    written (object (text_member (codes "event") (kind_word e.kind)
    (number_member (codes "worker") e.worker
    (cond (e.node == 0)
    (text_member (codes "type") (codes "PLAN") no_members)
    (text_member (codes "type") (type_word (kind_of p.tree e.node)) (text_member (codes "id") (id_at p e.node) (text_member (codes "name") (name_at p.tree e.node) ending))))))) ++ codes "\n"

module _ (p : PlanParts) (times : Times) where
  pub line_is : (texts : TextParts) (e : Event) → telling_line Feed p times (telling texts e) ≡ event_line e (id_at p e.node) (text_or (text_at texts e.node))
  line_is texts e =
      ap (λ (shown : List ℕ). cond (e.node == 0)
      (codes "w" ++ decimal e.worker ++ codes " plan " ++ kind_word e.kind ++ codes "\n")
      (codes "w" ++ decimal e.worker ++ codes " " ++ kind_word e.kind ++ codes " " ++ id_at p e.node ++ shown ++ codes "\n"))
      (text_shown e.kind e.status (text_at texts e.node))

  pub object_is : (texts : TextParts) (e : Event) → telling_line Json p times (telling texts e) ≡ written (event_json p e (text_or (text_at texts e.node)) (took_of times.took e.node)) ++ codes "\n"
  object_is texts e = ap (λ (ending : Members). object_ending p e ending) (members_shown e.kind e.status (text_at texts e.node) (took_of times.took e.node))

  pub lines_are : (form : LineForm) (texts : TextParts) (es : List Event) → lines_of form p texts times es ≡ flat_map (telling_line form p times) (tellings_of texts es)
  lines_are Feed texts [] = refl
  lines_are Json texts [] = refl
  lines_are Feed texts (e ∷ es) = ap (λ (line : List ℕ). line ++ feed_of p texts es) (sym (line_is texts e)) ∙ ap (λ (rest : List ℕ). telling_line Feed p times (telling texts e) ++ rest) (lines_are Feed texts es)
  lines_are Json texts (e ∷ es) =
      ap (λ (line : List ℕ). line ++ timed_json_of p texts times.took es) (sym (object_is texts e)) ∙ ap (λ (rest : List ℕ). telling_line Json p times (telling texts e) ++ rest) (lines_are Json texts es)

  pub one_line : (form : LineForm) (texts : TextParts) (e : Event) → lines_of form p texts times (e ∷ []) ≡ telling_line form p times (telling texts e)
  one_line form texts e = lines_are form texts (e ∷ []) ∙ append-nil _

  long_by : (b : Bool) (xs ys : List ℕ) → 0 < length xs → 0 < length ys → 0 < length (cond b xs ys)
  long_by true xs ys some other = some
  long_by false xs ys some other = other

  -- no line is empty
  pub line_long : (form : LineForm) (t : Telling) → 0 < length (telling_line form p times t)
  line_long Feed t = long_by (t.event.node == 0) _ _ (omega arith) (omega arith)
  line_long Json t = omega (arith, length-append (written (event_json p t.event (text_or t.text) (took_of times.took t.event.node))) (codes "\n"))

end_by : (b : Bool) (xs ys : Bool) → (b || xs) ≡ false → (xs ≡ false → ys ≡ false) → (b || ys) ≡ false
end_by true xs ys none so = none
end_by false xs ys none so = so none

pub no_end_behind : (ts : List Telling) (t : Telling) → has_end ts ≡ false → ends_plan t.event ≡ false → has_end (ts ++ t ∷ []) ≡ false
no_end_behind [] t none other = ap (λ (b : Bool). b || false) other
no_end_behind (u ∷ ts) t none other = end_by (ends_plan u.event) (has_end ts) (has_end (ts ++ t ∷ [])) none (λ rest. no_end_behind ts t rest other)
