-- How the notes of a history grow with it, and which texts they give.
use Rattle.std.proofs.Common.{◌≡◌, ◌≢◌, ℕ, ◌<◌, ◌≤◌, ◌==◌, ltb, Bool, true, false, cond, if◌then◌else◌, List, [], ◌∷◌, ◌++◌, length, set, get_or, Option, Some, None, refl, sym, ap, ◌∙◌, subst, arith, inl, inr, ◌⊎◌, ◌↔◌, get_or-set_other, length-set}
use Rattle.std.specs.Option.{option_or, is_some, IsNone}
use Rattle.std.proofs.lemmas.Grind.{get_or-set_at}
use Rattle.std.proofs.lemmas.Option.{none-some}
use Rattle.std.proofs.lemmas.Bool.{and_left, and_right, both_ways, cases_eq, ne_eqb, or_right}
use Rattle.descriptor.specs.Nodes.{IsTree, size, reason_of}
use Rattle.plan_events.specs.declared.event.EventKind.{EventKind}
use Rattle.plan_events.specs.declared.event.EventKind.TheVariants.{Started, Finished, Skipped, Registered}
use Rattle.plan_events.specs.declared.event.Event.{Event}
use Rattle.plan_events.specs.declared.note.Note.{Note}
use Rattle.plan_events.specs.declared.note.Note.TheVariants.{Reason, Cancelled}
use Rattle.plan_events.specs.declared.outcome.Reply.{Reply}
use Rattle.plan_events.specs.declared.status.Status.TheVariants.{Failed}
use Rattle.plan_events.specs.Texts.{TextParts, text_of_place, text_at}
use Rattle.plan_events.proofs.Reasons.{reasons_at}
use Rattle.resource_locks.specs.Plans.{PlanParts}
use Rattle.event_history.specs.Places.{has, is_of, same_kind}
use Rattle.event_history.specs.Results.{Jobs, NoJob, Alone, Pulled, Around, jobs_of, too_many}
use Rattle.event_history.specs.History.{IsLegal, IsTextOf, reason_or_cancelled}
use Rattle.event_history.specs.Expected.{Expected, Silent, Skips, Finishes, outcome_of, result_by}
use Rattle.event_history.proofs.Expectation.{text_in}
use Rattle.event_history.proofs.Places.{is_of-from}
use Rattle.event_history.proofs.Spares.{plan_tree}
use Rattle.event_history.proofs.Texts.{text_told, text_is}
use Rattle.scheduling.proofs.Basics.{event_added, event_same}
use Rattle.sched_core.specs.Replies.{reply_of, replies_of}
use Rattle.scheduling.specs.Notes.{skip_note}
use Rattle.sched_core.specs.Texts.{note_by, jobs_note, own_note, note_of, AreTexts}

-- the text of a note that does not say that there were too many tests
plain_text : (reason : Option (List ℕ)) (x : Expected) → text_of_place reason (note_by false x) ≡ text_in x
plain_text reason Silent = refl
plain_text reason Skips = refl
plain_text reason (Finishes status None) = refl
plain_text reason (Finishes status (Some text)) = refl

-- the note of a node's jobs has the text of their result
jobs_text : (reply : ℕ → Reply) (reason : Option (List ℕ)) (jobs : Jobs) → text_of_place reason (jobs_note reply jobs) ≡ text_in (result_by reply jobs)
jobs_text reply reason NoJob = refl
jobs_text reply reason (Alone body) = refl
jobs_text reply reason (Around body after) = plain_text reason (result_by reply (Around body after))
jobs_text reply reason (Pulled body spares) = go (ltb spares (reply body).pulls)
  where
    go : (b : Bool) → text_of_place reason (note_by b (cond b (Finishes Failed (Some too_many)) (outcome_of (reply body)))) ≡ text_in (cond b (Finishes Failed (Some too_many)) (outcome_of (reply body)))
    go true = refl
    go false = refl

-- the note of a skip has the text of a skip
skip_text : (reason : Option (List ℕ)) → text_of_place reason (Some (if is_some reason then Reason else Cancelled)) ≡ Some (reason_or_cancelled reason)
skip_text None = refl
skip_text (Some reason) = refl

-- a result without a text has no note
no_note : (too_many : Bool) (x : Expected) → text_in x ≡ None → note_by too_many x ≡ None
no_note b Silent q = refl
no_note b Skips q = refl
no_note b (Finishes status None) q = refl
no_note b (Finishes status (Some text)) q = absurd (none-some text (sym q))

or_none : {X : Type 0} (a b : Option X) → b ≡ None → a ≡ option_or a b
or_none None b q = sym q
or_none (Some x) b q = refl

not_of_other : (k : EventKind) (n : ℕ) (e : Event) → e.node ≢ n → is_of k n e ≡ false
not_of_other k n e ne = and_right (same_kind e.kind k) (e.node == n) (ne_eqb e.node n ne)

not_of_kind : (k : EventKind) (n : ℕ) (e : Event) → same_kind e.kind k ≡ false → is_of k n e ≡ false
not_of_kind k n e q = and_left (same_kind e.kind k) (e.node == n) q

module _ (p : PlanParts) (answers : List (ℕ × Reply)) where
  -- a node's note, by whether its skip and its finish stand
  abbrev note_with : ℕ → Bool → Bool → Option Note
  note_with n skipped finished = if skipped then Some (skip_note p n) else (if finished then own_note p answers n else None)

  kept : (h : List Event) (e : Event) (n : ℕ) → is_of Skipped n e ≡ false → is_of Finished n e ≡ false → note_of p answers (h ++ e ∷ []) n ≡ note_of p answers h n
  kept h e n s f =
      ap (λ (b : Bool). note_with n b (has Finished n (h ++ e ∷ []))) (event_same (is_of Skipped n) h e s)
      ∙ ap (note_with n (has Skipped n h)) (event_same (is_of Finished n) h e f)

  of_kind : (h : List Event) (e : Event) (k : EventKind) → e.kind ≡ k → same_kind k Skipped ≡ false → same_kind k Finished ≡ false → note_of p answers (h ++ e ∷ []) e.node ≡ note_of p answers h e.node
  of_kind h e k is s f =
      kept h e e.node (not_of_kind Skipped e.node e (ap (λ (l : EventKind). same_kind l Skipped) is ∙ s))
      (not_of_kind Finished e.node e (ap (λ (l : EventKind). same_kind l Finished) is ∙ f))

  -- an event that is no skip and no finish tells nothing
  pub tells_nothing : (h : List Event) (e : Event) → (e.kind ≡ Started) ⊎ (e.kind ≡ Registered) → note_of p answers (h ++ e ∷ []) e.node ≡ note_of p answers h e.node
  tells_nothing h e (inl start) = of_kind h e Started start refl refl
  tells_nothing h e (inr registered) = of_kind h e Registered registered refl refl

  pub tells_skip : (h : List Event) (e : Event) → e.kind ≡ Skipped → note_of p answers (h ++ e ∷ []) e.node ≡ Some (skip_note p e.node)
  tells_skip h e kind =
      ap (λ (b : Bool). note_with e.node b (has Finished e.node (h ++ e ∷ [])))
      (event_added (is_of Skipped e.node) h e ∙ or_right (has Skipped e.node h) (is_of Skipped e.node e) (is_of-from Skipped e.node e kind refl))

  -- with a finish, the note is that of a node whose finish stands
  by_finish : (h : List Event) (e : Event) → e.kind ≡ Finished → note_of p answers (h ++ e ∷ []) e.node ≡ note_with e.node (has Skipped e.node h) true
  by_finish h e kind =
      ap (λ (b : Bool). note_with e.node b (has Finished e.node (h ++ e ∷ [])))
      (event_same (is_of Skipped e.node) h e (not_of_kind Skipped e.node e (ap (λ (k : EventKind). same_kind k Skipped) kind)))
      ∙ ap (note_with e.node (has Skipped e.node h))
      (event_added (is_of Finished e.node) h e ∙ or_right (has Finished e.node h) (is_of Finished e.node e) (is_of-from Finished e.node e kind refl))

  finish_over : (h : List Event) (e : Event) → e.kind ≡ Finished → note_of p answers h e.node ≢ None → note_of p answers (h ++ e ∷ []) e.node ≡ note_of p answers h e.node
  finish_over h e kind some = by_finish h e kind ∙ go (has Skipped e.node h) (has Finished e.node h) some
    where
      go : (s f : Bool) → note_with e.node s f ≢ None → note_with e.node s true ≡ note_with e.node s f
      go true f some = refl
      go false true some = refl
      go false false some = absurd (some refl)

  finish_first : (h : List Event) (e : Event) → e.kind ≡ Finished → note_of p answers h e.node ≡ None → note_of p answers (h ++ e ∷ []) e.node ≡ option_or (own_note p answers e.node) (note_of p answers h e.node)
  finish_first h e kind none = by_finish h e kind ∙ go (has Skipped e.node h) (has Finished e.node h) none
    where
      go : (s f : Bool) → note_with e.node s f ≡ None → note_with e.node s true ≡ option_or (own_note p answers e.node) (note_with e.node s f)
      go true f none = absurd (none-some (skip_note p e.node) (sym none))
      go false f none = or_none (own_note p answers e.node) (note_with e.node false f) none

  module _ (h : List Event) (texts : TextParts) (are : AreTexts p answers h texts) where
    -- The text of each node is that of a history in which each job has one reply.
    pub texts_told : (n : ℕ) → n < size p.tree → text_at texts n ≡ text_told p (reply_of answers) h n
    texts_told n inside =
        ap (λ (l : List (Option (List ℕ))). text_of_place (get_or l n None) (get_or texts.notes n None)) are.reasons
        ∙ ap (λ (r : Option (List ℕ)). text_of_place r (get_or texts.notes n None)) (reasons_at p.tree n)
        ∙ ap (text_of_place (reason_of p.tree n)) (are.notes n inside)
        ∙ go (has Skipped n h) (has Finished n h)
      where
        go : (s f : Bool) → text_of_place (reason_of p.tree n) (note_with n s f) ≡ cond s (Some (reason_or_cancelled (reason_of p.tree n))) (cond f (text_in (result_by (reply_of answers) (jobs_of p n))) None)
        go true f = skip_text (reason_of p.tree n)
        go false true = jobs_text (reply_of answers) (reason_of p.tree n) (jobs_of p n)
        go false false = refl

    -- where there is a text, there is a note, and else there is none
    noted : (n : ℕ) → n < size p.tree → text_at texts n ≢ None → note_of p answers h n ≢ None
    noted n inside some none = some (ap (text_of_place (get_or texts.reasons n None)) (are.notes n inside ∙ none))

    unnoted : (n : ℕ) → n < size p.tree → text_at texts n ≡ None → note_of p answers h n ≡ None
    unnoted n inside is = go (has Skipped n h) (has Finished n h) (sym (texts_told n inside) ∙ is)
      where
        go : (s f : Bool) → cond s (Some (reason_or_cancelled (reason_of p.tree n))) (cond f (text_in (result_by (reply_of answers) (jobs_of p n))) None) ≡ None → note_with n s f ≡ None
        go true f q = absurd (none-some (reason_or_cancelled (reason_of p.tree n)) (sym q))
        go false true q = no_note _ (result_by (reply_of answers) (jobs_of p n)) q
        go false false q = refl

    -- a finish tells nothing where a text stands, and else what its node's jobs say
    pub tells_over : {X : Type 0} (e : Event) (text : Option X) → e.node < size p.tree → e.kind ≡ Finished → is_some text ≡ true → (IsNone text ↔ (text_at texts e.node ≡ None)) → note_of p answers (h ++ e ∷ []) e.node ≡ note_of p answers h e.node
    tells_over e text inside kind is same = finish_over h e kind (noted e.node inside (λ none. both_ways (is_some text) (same.1 none) is))

    pub tells_first : {X : Type 0} (e : Event) (text : Option X) → e.node < size p.tree → e.kind ≡ Finished → is_some text ≡ false → (IsNone text ↔ (text_at texts e.node ≡ None)) → note_of p answers (h ++ e ∷ []) e.node ≡ option_or (own_note p answers e.node) (note_of p answers h e.node)
    tells_first e text inside kind is same = finish_first h e kind (unnoted e.node inside (same.0 is))

    texts_kept : (e : Event) → ((n : ℕ) → n < size p.tree → note_of p answers (h ++ e ∷ []) n ≡ note_of p answers h n) → AreTexts p answers (h ++ e ∷ []) texts
    texts_kept e same = record { places = are.places; notes = λ n lt. are.notes n lt ∙ sym (same n lt); reasons = are.reasons }

    note_kept : (e : Event) (n : ℕ) → e.node ≢ n → note_of p answers (h ++ e ∷ []) n ≡ note_of p answers h n
    note_kept e n ne = kept h e n (not_of_other Skipped n e ne) (not_of_other Finished n e ne)

    -- the event of a node that the plan lacks changes nothing
    pub texts_past : (e : Event) → size p.tree ≤ e.node → AreTexts p answers (h ++ e ∷ []) texts
    texts_past e past = texts_kept e (λ n lt. note_kept e n (λ q. omega (arith, q, lt, past)))

    -- nor does one that leaves the note of its node
    pub texts_same : (e : Event) → note_of p answers (h ++ e ∷ []) e.node ≡ note_of p answers h e.node → AreTexts p answers (h ++ e ∷ []) texts
    texts_same e same =
        texts_kept e (λ n lt. elim (cases_eq e.node n) [
          | inl q ↦ sym (ap (note_of p answers (h ++ e ∷ [])) q) ∙ same ∙ ap (note_of p answers h) q
          | inr ne ↦ note_kept e n ne
        ])

    -- one that gives its node a note changes that
    pub texts_more : (e : Event) (new : TextParts) (note : Note) → e.node < size p.tree → note_of p answers (h ++ e ∷ []) e.node ≡ Some note → new.notes ≡ set texts.notes e.node (Some note) → new.reasons ≡ texts.reasons → AreTexts p answers (h ++ e ∷ []) new
    texts_more e new note inside is notes reasons = record {
      places = ap length notes ∙ length-set texts.notes e.node (Some note) ∙ are.places;
      notes = λ n lt. ap (λ (l : List (Option Note)). get_or l n None) notes ∙ elim (cases_eq n e.node) [
        | inl q ↦ get_or-set_at texts.notes e.node n (Some note) None q (omega (arith, inside, are.places)) ∙ sym is ∙ ap (note_of p answers (h ++ e ∷ [])) (sym q)
        | inr ne ↦ get_or-set_other texts.notes e.node n (Some note) None ne ∙ are.notes n lt ∙ sym (note_kept e n (λ q. ne (sym q)))
      ];
      reasons = reasons ∙ are.reasons;
    }

    -- In a legal history it is the text of the reply by which the node ended.
    pub texts_decided : IsTree p.tree → (workers : ℕ) → IsLegal p (replies_of answers) workers h → (n : ℕ) → n < size p.tree → IsTextOf p (replies_of answers) h n (text_at texts n)
    texts_decided tree workers legal n inside =
        subst (IsTextOf p (replies_of answers) h n) (sym (texts_told n inside))
        (text_is p (plan_tree p.tree tree) (reply_of answers) (replies_of answers) (λ job. refl) workers h legal n)
