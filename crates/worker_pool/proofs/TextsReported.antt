-- What was read, once it is the report: its texts, by what the jobs gave and what those say that were used.
use Rattle.std.proofs.Common.{◌≡◌, inl, inr, ℕ, List, sym, ◌∙◌, subst}
use Rattle.descriptor.specs.Nodes.{reason_of}
use Rattle.plan_events.specs.declared.event.Event.{Event}
use Rattle.plan_events.specs.declared.note.Note.{Note}
use Rattle.plan_events.specs.declared.outcome.Outcome.{Outcome}
use Rattle.plan_events.specs.declared.outcome.Reply.{Reply}
use Rattle.plan_events.specs.Texts.{TextParts, text_at}
use Rattle.resource_locks.specs.Plans.{PlanParts}
use Rattle.event_history.specs.History.{HasResult, IsLegal, IsTextOf}
use Rattle.table_rule.specs.declared.view.SlotState.{SlotState}
use Rattle.table_rule.specs.Slots.{IsNoteDue}
use Rattle.run_table.specs.Balance.{IsUsed}
use Rattle.run_table.specs.Ended.{HasGiven}
use Rattle.run_table.specs.Notes.{IsNoteOf, IsTakenOf}
use Rattle.run_table.specs.UsedJobs.{HasSaid}
use Rattle.table_rule.specs.Reached.{IsRunOfCore}
use Rattle.worker_pool.specs.Reports.{AreTexts, IsToldAsGiven, IsToldAsSaid}
use Rattle.worker_pool.proofs.Balance.{at_the_end}
use Rattle.table_rule.specs.declared.view.About.{About}
use Rattle.table_rule.specs.declared.view.DispatcherFacts.{DispatcherFacts}
use Rattle.thread_pool.specs.Telling.{AreTextsRead, IsOver}
use Rattle.thread_pool.proofs.TextsRead.{bare_finish}

-- the texts of all that was read
pub texts_reported : (p : PlanParts) (replies : ℕ → List Reply) (workers : ℕ) (made : List (ℕ × SlotState)) (read events : List Event) (texts : TextParts) → events ≡ read → IsLegal p replies workers events → AreTextsRead p replies made read texts → AreTexts p replies events texts
texts_reported p replies workers made read events texts same legal are = subst (λ (l : List Event). IsLegal p replies workers l → AreTexts p replies l texts) (sym same) (λ legal. are.texts_are workers legal) legal

-- What was told is what the jobs gave: the texts, too, are by their replies.
pub given_texts : (p : PlanParts) (replies told : ℕ → List Reply) (workers : ℕ) (made : List (ℕ × SlotState)) (read : List Event) (texts : TextParts) → IsLegal p replies workers read → IsLegal p told workers read → AreTextsRead p replies made read texts
    → ((n : ℕ) (note : Note) → IsTakenOf p made n note → IsNoteOf p told read n note) → AreTexts p told read texts
given_texts p replies told workers made read texts legal legal_told are gives n low = record {
  of_skip = was.of_skip;
  of_finish = λ i e q kind node.
      let said = legal_told.result i e q kind in
      elim (are.taken_are workers legal n low i (record { event = e; here = q; kind = kind; node = node })) [
        | inl x ↦ subst (HasResult p told read i e) (sym x.text_is) (gives n x.note x.taken said.1.status (record { place = i; event = e; stands = q; kind = kind; node = node; ends = said.1.here }) (reason_of p.tree n))
        | inr none ↦ (let bare : (slot : ℕ) → IsNoteDue p made e.node slot → ⊥ = λ slot due. none slot (subst (λ (m : ℕ). IsNoteDue p made m slot) node due) in
            subst (HasResult p told read i e) (bare_finish p told read i e made bare said.0 said.1 ∙ sym (bare_finish p replies read i e made bare (text_at texts n) (was.of_finish i e q kind node))) said.1)
      ];
  of_none = was.of_none;
}
  where
    was : IsTextOf p replies read n (text_at texts n)
    was = are.texts_are workers legal n low

abbrev pub given_reported : {B : Type 0} (given : ℕ → Reply → Type 0) (key : About B) (replies : ℕ → List Reply) (d : DispatcherFacts) (events : List Event) (texts : TextParts) → events ≡ d.read → IsLegal key.plan replies key.workers events → AreTextsRead key.plan replies d.slots d.read texts
    → IsOver d.read → HasGiven given replies key d → IsToldAsGiven given replies key.plan key.workers events texts
given_reported given key replies d events texts same legal are over has = record {
  ran = record {
    told = has.told;
    given_so = has.given_so;
    among = has.among;
    once = has.once;
    of_core = subst (λ (l : List Event). IsRunOfCore key.plan key.workers has.told l) (sym same) (at_the_end d.read over (IsRunOfCore key.plan key.workers has.told d.read) has.ran);
  };
  legal = subst (λ (l : List Event). IsLegal key.plan has.told key.workers l) (sym same) has.legal;
  texts_are = subst (λ (l : List Event). AreTexts key.plan has.told l texts) (sym same)
      (given_texts key.plan replies has.told key.workers d.slots d.read texts (subst (λ (l : List Event). IsLegal key.plan replies key.workers l) same legal) has.legal are has.texts);
}

-- and what the jobs say that come back used
pub said_reported : {B : Type 0} (says : B → Outcome → Type 0) (given : ℕ → Reply → Type 0) (key : About B) (replies : ℕ → List Reply) (d : DispatcherFacts) (events : List Event) (texts : TextParts) (used : List (ℕ × B)) → events ≡ d.read → IsLegal key.plan replies key.workers events → AreTextsRead key.plan replies d.slots d.read texts
    → IsOver d.read → HasSaid says given replies key d used → IsToldAsSaid says given replies key.plan key.workers events texts used
said_reported says given key replies d events texts used same legal are over has = record {
  is = given_reported given key replies d events texts same legal are over has.is;
  says_so = has.says_so;
  alone = λ i number job at. subst (λ (l : List Event). IsUsed key.plan l number) (sym same) (has.alone i number job at);
  few = has.few;
  each = λ number ran. has.each number (subst (λ (l : List Event). IsUsed key.plan l number) same ran);
}
