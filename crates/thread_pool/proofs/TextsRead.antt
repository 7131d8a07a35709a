-- One more event is read: what the texts of nodes are then.
use Rattle.std.proofs.Common.{◌≡◌, ◌≢◌, ◌⊎◌, inl, inr, ℕ, ◌+◌, ◌<◌, ◌≤◌, Bool, true, false, List, [], ◌∷◌, ◌++◌, length, set, get_or, Option, Some, None, slice_get, refl, sym, ap, ◌∙◌, subst, arith, get_or-set_other, length-set}
use Rattle.std.proofs.lemmas.Grind.{get_or-set_at}
use Rattle.std.proofs.lemmas.Option.{slice_get_within}
use Rattle.std.proofs.lemmas.Bool.{cases_eq}
use Rattle.descriptor.specs.Nodes.{size, body_of, reason_of}
use Rattle.plan_events.specs.declared.event.EventKind.{EventKind}
use Rattle.plan_events.specs.declared.event.EventKind.TheVariants.{Started, Finished, Skipped, Registered}
use Rattle.plan_events.specs.declared.event.Event.{Event}
use Rattle.plan_events.specs.declared.note.Note.{Note}
use Rattle.plan_events.specs.declared.outcome.Reply.{Reply}
use Rattle.plan_events.specs.declared.status.Status.{Status}
use Rattle.plan_events.specs.Texts.{TextParts, text_of_note, text_of_place, text_at}
use Rattle.plan_events.proofs.Reasons.{reasons_at}
use Rattle.resource_locks.specs.Plans.{PlanParts}
use Rattle.event_history.specs.Places.{StandsAt, has}
use Rattle.event_history.specs.Plans.{Sort, Leaf, Holder, Maker, sort_of, spare_count}
use Rattle.event_history.specs.Results.{Jobs, NoJob, Around, jobs_by, jobs_of, after_run, Ends}
use Rattle.event_history.specs.History.{StoppedIs, HasResult, IsLegal, IsTextOf, reason_or_cancelled}
use Rattle.event_history.proofs.Front.{stopped_front, stopped_whole, legal_front}
use Rattle.event_history.proofs.Places.{get_added, stands_has, stands_later}
use Rattle.event_history.proofs.AddedEvent.{registered_front}
use Rattle.table_rule.specs.declared.view.SlotState.{SlotState}
use Rattle.table_rule.specs.Slots.{after_slot, made_of, IsNoteDue, WentOn}
use Rattle.run_table.specs.Notes.{IsNoteOf, IsTakenOf}
use Rattle.table_rule.specs.declared.view.About.{About}
use Rattle.table_rule.specs.declared.view.View.{View}
use Rattle.table_rule.specs.Picture.{replies_of}
use Rattle.table_rule.specs.Plays.{dispatcher}
use Rattle.thread_pool.specs.Telling.{AreTextsRead, IsTextDue, KeepsTexts}
use Rattle.thread_pool.proofs.Carried.{last_stands}

-- A node for which no note is due ends without a text.
no_text : (replies : ℕ → List Reply) (jobs : Jobs) (sort : Sort) (after : Option ℕ) (spares : ℕ) → jobs ≡ jobs_by sort None after spares → ((last : ℕ) → jobs ≡ Around None (Some last) → ⊥)
    → (stopped : Bool) (registered : ℕ) (status : Status) (text : Option (List ℕ)) → Ends replies jobs stopped registered status text → text ≡ None
no_text replies jobs sort after spares is none stopped registered status text ends = by sort after is (subst (λ (j : Jobs). Ends replies j stopped registered status text) is ends)
  where
    silent : (stopped : Bool) → Ends replies NoJob stopped registered status text → text ≡ None
    silent true x = absurd x
    silent false x = x.1

    around : (stopped : Bool) → Ends replies (Around None None) stopped registered status text → text ≡ None
    around true x = absurd x
    around false x = x.1.1

    by : (sort : Sort) (after : Option ℕ) → jobs ≡ jobs_by sort None after spares → Ends replies (jobs_by sort None after spares) stopped registered status text → text ≡ None
    by Leaf after is x = silent stopped x
    by Maker after is x = silent stopped x
    by Holder None is x = around stopped x
    by Holder (Some last) is x = absurd (none last is)

-- a finish of a node of which no note is due has none
pub bare_finish : (p : PlanParts) (replies : ℕ → List Reply) (h : List Event) (i : ℕ) (e : Event) (made : List (ℕ × SlotState)) → ((slot : ℕ) → IsNoteDue p made e.node slot → ⊥) → (text : Option (List ℕ)) → HasResult p replies h i e text → text ≡ None
bare_finish p replies h i e made none text result = by (body_of p.tree e.node) refl
  where
    by : (body : Option ℕ) → body_of p.tree e.node ≡ body → text ≡ None
    by (Some body) is = absurd (none e.node (inl (record { slot = refl; body = body; has_body = is })))
    by None is = no_text replies (jobs_of p e.node) (sort_of p.tree e.node) (after_run p e.node) (spare_count p e.node) (ap (λ (b : Option ℕ). jobs_by (sort_of p.tree e.node) b (after_run p e.node) (spare_count p e.node)) is)
        (λ after jobs. none (after_slot p e.node) (inr (record { slot = refl; body = None; after = after; jobs = jobs; went_on = tt })))
        result.stopped _ result.status text result.lawful

-- What was made of other slots leaves what is known of a node's text.
module _ (p : PlanParts) (made next : List (ℕ × SlotState)) (n : ℕ) (body : made_of next n ≡ made_of made n) (after : made_of next (after_slot p n) ≡ made_of made (after_slot p n)) where
  due_later : (k : ℕ) → IsNoteDue p made n k → IsNoteDue p next n k
  due_later k due = elim due [ inl x ↦ inl x | inr x ↦ inr (record { slot = x.slot; body = x.body; after = x.after; jobs = x.jobs; went_on = went x.body x.went_on }) ]
    where
      went : (b : Option ℕ) → WentOn made n b → WentOn next n b
      went None x = tt
      went (Some b) x = (x.0, body ∙ x.1, x.2)

  due_before : (k : ℕ) → IsNoteDue p next n k → IsNoteDue p made n k
  due_before k due = elim due [ inl x ↦ inl x | inr x ↦ inr (record { slot = x.slot; body = x.body; after = x.after; jobs = x.jobs; went_on = went x.body x.went_on }) ]
    where
      went : (b : Option ℕ) → WentOn next n b → WentOn made n b
      went None x = tt
      went (Some b) x = (x.0, sym body ∙ x.1, x.2)

  alike : (k : ℕ) → IsNoteDue p made n k → made_of next k ≡ made_of made k
  alike k due = elim due [
    | inl x ↦ ap (made_of next) x.slot ∙ (body ∙ sym (ap (made_of made) x.slot))
    | inr x ↦ ap (made_of next) x.slot ∙ (after ∙ sym (ap (made_of made) x.slot))
  ]

  taken_later : (text other : Option (List ℕ)) → other ≡ text → IsTextDue p made n text → IsTextDue p next n other
  taken_later text other same was = elim was [
    | inl x ↦ inl (record {
      note = x.note;
      taken = record { slot = x.taken.slot; due = due_later x.taken.slot x.taken.due; reply = x.taken.reply; taken = alike x.taken.slot x.taken.due ∙ x.taken.taken; last = x.taken.last; note_is = x.taken.note_is };
      text_is = same ∙ x.text_is;
    })
    | inr none ↦ inr (λ k due. none k (due_before k due))
  ]

-- a note that is put into a node's place leaves the texts of the others
pub text_other : (m : ℕ) (old new : TextParts) (note : Note) → new.notes ≡ set old.notes m (Some note) → new.reasons ≡ old.reasons → (n : ℕ) → n ≢ m → text_at new n ≡ text_at old n
text_other m old new note notes reasons n other =
    ap (λ (l : List (Option (List ℕ))). text_of_place (get_or l n None) (get_or new.notes n None)) reasons
    ∙ ap (λ (l : List (Option Note)). text_of_place (get_or old.reasons n None) (get_or l n None)) notes
    ∙ ap (text_of_place (get_or old.reasons n None)) (get_or-set_other old.notes m n (Some note) None other)

module _ (p : PlanParts) (replies : ℕ → List Reply) (h : List Event) (e : Event) where
  abbrev now : List Event
  now = h ++ e ∷ []

  module _ (workers : ℕ) (legal : IsLegal p replies workers now) where
    last : (k : EventKind) → e.kind ≡ k → StandsAt now (length h) k e.node
    last k kind = record { event = e; here = last_stands h e; kind = kind; node = refl }

    -- a finish that was lawful stays so
    later_stops : (i a : ℕ) (b : Bool) → StandsAt h i Finished a → StoppedIs p h a b → StoppedIs p now a b
    later_stops i a true f s = stopped_whole p replies workers h (e ∷ []) legal a s
    later_stops i a false f s = λ t. s (stopped_front p replies workers h (e ∷ []) legal i a f t)

    later_result : (i : ℕ) (f : Event) (text : Option (List ℕ)) → slice_get h i ≡ Some f → f.kind ≡ Finished → HasResult p replies h i f text → HasResult p replies now i f text
    later_result i f text q kind s =
        let low = slice_get_within h i f q in
        record {
          status = s.status;
          here = s.here;
          stopped = s.stopped;
          stops = later_stops i f.node s.stopped (record { event = f; here = q; kind = kind; node = refl }) s.stops;
          lawful = subst (λ (x : ℕ). Ends replies (jobs_of p f.node) s.stopped x s.status text) (sym (registered_front p h (e ∷ []) i f.node (omega (arith, low)))) s.lawful;
        }

    -- the text of a node stays, where the event neither skips nor finishes it
    stays : (n : ℕ) (text : Option (List ℕ)) → IsTextOf p replies h n text → (e.kind ≡ Skipped → e.node ≡ n → ⊥) → (e.kind ≡ Finished → e.node ≡ n → ⊥) → IsTextOf p replies now n text
    stays n text was unskipped unfinished = record {
      of_skip = λ i s. elim (get_added h e s.event i s.here) [
        | inl here ↦ was.of_skip i (record { event = s.event; here = here; kind = s.kind; node = s.node })
        | inr x ↦ absurd (unskipped (sym (ap (λ (f : Event). f.kind) x.1) ∙ s.kind) (sym (ap (λ (f : Event). f.node) x.1) ∙ s.node))
      ];
      of_finish = λ i f q kind node. elim (get_added h e f i q) [
        | inl here ↦ later_result i f text here kind (was.of_finish i f here kind node)
        | inr x ↦ absurd (unfinished (sym (ap (λ (g : Event). g.kind) x.1) ∙ kind) (sym (ap (λ (g : Event). g.node) x.1) ∙ node))
      ];
      of_none = λ skip finish. was.of_none (λ i s. skip i (stands_later (e ∷ []) s)) (λ i s. finish i (stands_later (e ∷ []) s));
    }

    apart : (i j n : ℕ) → StandsAt now i Skipped n → StandsAt now j Finished n → ⊥
    apart i j n s f = (let start = legal.after_start j n f in legal.apart start.place i n start.stands s)

    of_skip : e.kind ≡ Skipped → IsTextOf p replies now e.node (Some (reason_or_cancelled (reason_of p.tree e.node)))
    of_skip kind = record {
      of_skip = λ i s. refl;
      of_finish = λ i f q finished node. absurd (apart (length h) i e.node (last Skipped kind) (record { event = f; here = q; kind = finished; node = node }));
      of_none = λ skip finish. absurd (skip (length h) (last Skipped kind));
    }

    of_finish : (text : Option (List ℕ)) → e.kind ≡ Finished → HasResult p replies now (length h) e text → IsTextOf p replies now e.node text
    of_finish text kind result = record {
      of_skip = λ i s. absurd (apart i (length h) e.node s (last Finished kind));
      of_finish = λ i f q finished node. elim (get_added h e f i q) [
        | inl here ↦ (let at = slice_get_within h i f here in
            let same = legal.once i (length h) e.node Finished (record { event = f; here = q; kind = finished; node = node }) (last Finished kind) in absurd (omega (arith, at, same)))
        | inr x ↦ subst (λ (g : Event). HasResult p replies now i g text) (sym x.1) (subst (λ (j : ℕ). HasResult p replies now j e text) (sym x.0) result)
      ];
      of_none = λ skip finish. absurd (finish (length h) (last Finished kind));
    }

    -- the note that was taken gives the text of the finish
    noted : (note : Note) (reason : Option (List ℕ)) → e.kind ≡ Finished → IsNoteOf p replies now e.node note → IsTextOf p replies now e.node (text_of_note reason note)
    noted note reason kind is =
        let result = (legal.result (length h) e (last_stands h e) kind).1 in
        of_finish (text_of_note reason note) kind (is result.status (record { place = length h; event = e; stands = last_stands h e; kind = kind; node = refl; ends = result.here }) reason)

    -- where no note is due, there is no text
    unnoted : (made : List (ℕ × SlotState)) → e.kind ≡ Finished → ((slot : ℕ) → IsNoteDue p made e.node slot → ⊥) → IsTextOf p replies now e.node None
    unnoted made kind none =
        let x = legal.result (length h) e (last_stands h e) kind in
        of_finish None kind (subst (HasResult p replies now (length h) e) (bare_finish p replies now (length h) e made none x.0 x.1) x.1)

    -- a finish that is not this event was read before
    earlier : (n i : ℕ) → StandsAt now i Finished n → (e.kind ≡ Finished → e.node ≡ n → ⊥) → StandsAt h i Finished n
    earlier n i f other = elim (get_added h e f.event i f.here) [
      | inl here ↦ record { event = f.event; here = here; kind = f.kind; node = f.node }
      | inr x ↦ absurd (other (sym (ap (λ (g : Event). g.kind) x.1) ∙ f.kind) (sym (ap (λ (g : Event). g.node) x.1) ∙ f.node))
    ]

    -- the node had none before
    none_before : (text : Option (List ℕ)) → e.kind ≡ Finished → IsTextOf p replies h e.node text → text ≡ None
    none_before text kind was = was.of_none
        (λ i s. apart i (length h) e.node (stands_later (e ∷ []) s) (last Finished kind))
        (λ i s. (let low = slice_get_within h i s.event s.here in let same = legal.once i (length h) e.node Finished (stands_later (e ∷ []) s) (last Finished kind) in omega (arith, low, same)))

  module _ (made : List (ℕ × SlotState)) (texts : TextParts) (are : AreTextsRead p replies made h texts) where
    before : (workers : ℕ) → IsLegal p replies workers now → (n : ℕ) → n < size p.tree → IsTextOf p replies h n (text_at texts n)
    before workers legal n low = are.texts_are workers (legal_front p replies workers h (e ∷ []) legal) n low

    -- what is known of a node stays, if the event is another's finish, or none
    taken_before : (workers : ℕ) → IsLegal p replies workers now → (n : ℕ) → n < size p.tree → (i : ℕ) → StandsAt now i Finished n → (e.kind ≡ Finished → e.node ≡ n → ⊥) → IsTextDue p made n (text_at texts n)
    taken_before workers legal n low i f other = are.taken_are workers (legal_front p replies workers h (e ∷ []) legal) n low i (earlier workers legal n i f other)

    -- no text is kept by this event
    pub texts_past : size p.tree ≤ e.node → AreTextsRead p replies made now texts
    texts_past past = record {
      places = are.places;
      reasons = are.reasons;
      texts_are = λ workers legal n low. (let inside = legal.nodes (length h) e (last_stands h e) in absurd (omega (arith, past, inside)));
      taken_are = λ workers legal n low i f. (let inside = legal.nodes (length h) e (last_stands h e) in absurd (omega (arith, past, inside)));
    }

    pub texts_same : (e.kind ≡ Started) ⊎ (e.kind ≡ Registered) → AreTextsRead p replies made now texts
    texts_same kind = record {
      places = are.places;
      reasons = are.reasons;
      texts_are = λ workers legal n low. stays workers legal n (text_at texts n) (before workers legal n low)
          (λ is node. elim kind [ inl x ↦ (let y : Started ≡ Skipped = sym x ∙ is in cc) | inr x ↦ (let y : Registered ≡ Skipped = sym x ∙ is in cc) ])
          (λ is node. elim kind [ inl x ↦ (let y : Started ≡ Finished = sym x ∙ is in cc) | inr x ↦ (let y : Registered ≡ Finished = sym x ∙ is in cc) ]);
      taken_are = λ workers legal n low i f. taken_before workers legal n low i f
          (λ is node. elim kind [ inl x ↦ (let y : Started ≡ Finished = sym x ∙ is in cc) | inr x ↦ (let y : Registered ≡ Finished = sym x ∙ is in cc) ]);
    }

    pub texts_none : e.kind ≡ Finished → ((slot : ℕ) → IsNoteDue p made e.node slot → ⊥) → AreTextsRead p replies made now texts
    texts_none kind none = record {
      places = are.places;
      reasons = are.reasons;
      texts_are = λ workers legal n low. elim (cases_eq e.node n) [
        | inl same ↦ subst (λ (m : ℕ). IsTextOf p replies now m (text_at texts m)) same
            (let inside : e.node < size p.tree = subst (λ (m : ℕ). m < size p.tree) (sym same) low in
            subst (IsTextOf p replies now e.node) (sym (none_before workers legal (text_at texts e.node) kind (before workers legal e.node inside))) (unnoted workers legal made kind none))
        | inr other ↦ stays workers legal n (text_at texts n) (before workers legal n low) (λ is node. other node) (λ is node. other node)
      ];
      taken_are = λ workers legal n low i f. elim (cases_eq e.node n) [
        | inl same ↦ subst (λ (m : ℕ). IsTextDue p made m (text_at texts m)) same (inr none)
        | inr other ↦ taken_before workers legal n low i f (λ is node. other node)
      ];
    }

    -- this note is kept
    module _ (new : TextParts) (note : Note) (inside : e.node < size p.tree) (notes : new.notes ≡ set texts.notes e.node (Some note)) (reasons : new.reasons ≡ texts.reasons) where
      here : text_at new e.node ≡ text_of_note (reason_of p.tree e.node) note
      here =
          ap (λ (l : List (Option Note)). text_of_place (get_or new.reasons e.node None) (get_or l e.node None)) notes
          ∙ ap (text_of_place (get_or new.reasons e.node None)) (get_or-set_at texts.notes e.node e.node (Some note) None refl (omega (arith, inside, are.places)))
          ∙ ap (λ (l : List (Option (List ℕ))). text_of_note (get_or l e.node None) note) (reasons ∙ are.reasons)
          ∙ ap (λ (r : Option (List ℕ)). text_of_note r note) (reasons_at p.tree e.node)

      -- what was made of slots of other nodes is as it was
      abbrev pub OthersAlike : List (ℕ × SlotState) → Type 0
      OthersAlike next = (k : ℕ) → k ≢ e.node → k ≢ after_slot p e.node → made_of next k ≡ made_of made k

      taken_else : (next : List (ℕ × SlotState)) → OthersAlike next → (workers : ℕ) → IsLegal p replies workers now → (n : ℕ) → n < size p.tree → n ≢ e.node → (i : ℕ) → StandsAt now i Finished n → IsTextDue p next n (text_at new n)
      taken_else next others workers legal n low other i f =
          let not_after : n ≢ after_slot p e.node = λ q. (let q2 : n ≡ size p.tree + e.node = q in absurd (omega (arith, q2, low))) in
          let after_not : after_slot p n ≢ e.node = λ q. (let q2 : size p.tree + n ≡ e.node = q in absurd (omega (arith, q2, inside))) in
          let afters : after_slot p n ≢ after_slot p e.node = λ q. (let q2 : size p.tree + n ≡ size p.tree + e.node = q in other (omega (arith, q2))) in
          taken_later p made next n (others n other not_after) (others (after_slot p n) after_not afters) (text_at texts n) (text_at new n) (text_other e.node texts new note notes reasons n other)
          (taken_before workers legal n low i f (λ is node. other (sym node)))

      kept : (next : List (ℕ × SlotState)) → OthersAlike next → ((workers : ℕ) → IsLegal p replies workers now → (i : ℕ) → StandsAt now i Finished e.node → IsTextDue p next e.node (text_of_note (reason_of p.tree e.node) note))
          → ((workers : ℕ) → IsLegal p replies workers now → IsTextOf p replies now e.node (text_of_note (reason_of p.tree e.node) note)) → AreTextsRead p replies next now new
      kept next others mine is = record {
        taken_are = λ workers legal n low i f. elim (cases_eq n e.node) [
          | inl same ↦ subst (λ (m : ℕ). IsTextDue p next m (text_at new m)) (sym same) (subst (IsTextDue p next e.node) (sym here) (mine workers legal i (subst (λ (m : ℕ). StandsAt now i Finished m) same f)))
          | inr other ↦ taken_else next others workers legal n low other i f
        ];
        places = ap length notes ∙ length-set texts.notes e.node (Some note) ∙ are.places;
        reasons = reasons ∙ are.reasons;
        texts_are = λ workers legal n low. elim (cases_eq n e.node) [
          | inl same ↦ subst (λ (m : ℕ). IsTextOf p replies now m (text_at new m)) (sym same) (subst (IsTextOf p replies now e.node) (sym here) (is workers legal))
          | inr other ↦ subst (IsTextOf p replies now n) (sym (text_other e.node texts new note notes reasons n other)) (stays workers legal n (text_at texts n) (before workers legal n low) (λ is node. other (sym node)) (λ is node. other (sym node)))
        ];
      }

      pub texts_skip : e.kind ≡ Skipped → text_of_note (reason_of p.tree e.node) note ≡ Some (reason_or_cancelled (reason_of p.tree e.node)) → AreTextsRead p replies made now new
      texts_skip kind is = kept made (λ k _ _. refl) (λ workers legal i f. absurd (apart workers legal (length h) i e.node (last workers legal Skipped kind) f)) (λ workers legal. subst (IsTextOf p replies now e.node) (sym is) (of_skip workers legal kind))

      pub texts_note : (next : List (ℕ × SlotState)) → e.kind ≡ Finished → IsNoteOf p replies now e.node note → IsTakenOf p next e.node note → OthersAlike next → AreTextsRead p replies next now new
      texts_note next kind is taken others = kept next others (λ workers legal i f. inl (record { note = note; taken = taken; text_is = refl })) (λ workers legal. noted workers legal note (reason_of p.tree e.node) kind is)

-- the finish that was read last stands
pub finish_has : (before : List Event) (e : Event) (read : List Event) → read ≡ before ++ e ∷ [] → e.kind ≡ Finished → has Finished e.node read ≡ true
finish_has before e read last kind = stands_has Finished e.node read (length before) e (ap (λ (l : List Event). slice_get l (length before)) last ∙ last_stands before e) kind refl

-- the note of a skip in another name of the plan
pub skip_is : (a b : PlanParts) (n : ℕ) (note : Note) → a ≡ b → text_of_note (reason_of a.tree n) note ≡ Some (reason_or_cancelled (reason_of a.tree n)) → text_of_note (reason_of b.tree n) note ≡ Some (reason_or_cancelled (reason_of b.tree n))
skip_is a b n note same is = subst (λ (q : PlanParts). text_of_note (reason_of q.tree n) note ≡ Some (reason_or_cancelled (reason_of q.tree n))) same is

-- a seat of the same run that has read the same
pub read_alike : {B : Type 0} (answers : B → List Reply) (a b : View B) (texts : TextParts) → b.about ≡ a.about → (dispatcher b).read ≡ (dispatcher a).read → (dispatcher b).slots ≡ (dispatcher a).slots → KeepsTexts answers a texts → KeepsTexts answers b texts
read_alike {B} answers a b texts about read slots keeps = subst (λ (z : About B × List (ℕ × SlotState) × List Event). AreTextsRead z.0.plan (replies_of answers z.0) z.1 z.2 texts) (λ k. (sym about k, sym slots k, sym read k)) keeps
