-- The notes in slots: those of a row with one slot more, and where an answer's note is among them.
use Rattle.std.proofs.Common.{◌≡◌, ℕ, zero, suc, ◌+◌, List, [], ◌∷◌, ◌++◌, length, Some, slice_get, sym, ap, ◌∙◌, append_assoc, arith}
use mathlib.Core.Option.{some, some-injective, some-ne-none}
use lib.ListN.{get_elem?, take}
use Rattle.std.proofs.lemmas.List.{append-nil}
use Rattle.plan_events.specs.declared.note.Note.{Note}
use Rattle.plan_events.specs.declared.status.Status.{Status}
use Rattle.table_rule.specs.declared.view.Slot.{Slot}
use Rattle.table_rule.specs.declared.view.Slot.TheVariants.{Empty, Body, Answered, Used}
use Rattle.table_contents.specs.Remains.{note_at, notes_from}
use Rattle.table_contents.proofs.Filled.{one_taken, so_many}

module _ {B : Type 0} where
  notes_more : (k : ℕ) (slots : List (Slot B)) (slot : Slot B) → notes_from k (slots ++ slot ∷ []) ≡ notes_from k slots ++ note_at (k + length slots) slot
  notes_more k [] slot = append-nil (note_at k slot) ∙ ap (λ (i : ℕ). note_at i slot) (let e : k ≡ k + 0 = omega arith in e)
  notes_more k (x ∷ slots) slot =
      ap (λ l. note_at k x ++ l) (notes_more (suc k) slots slot ∙ ap (λ (i : ℕ). notes_from (suc k) slots ++ note_at i slot) (let e : suc k + length slots ≡ k + suc (length slots) = omega arith in e))
      ∙ sym (append_assoc (note_at k x) (notes_from (suc k) slots) (note_at (k + suc (length slots)) slot))

  -- with one more slot taken out of a row
  pub notes_taken : (slots : List (Slot B)) (i : ℕ) (slot : Slot B) → get_elem? slots i ≡ some slot → notes_from 0 (take (i + 1) slots) ≡ notes_from 0 (take i slots) ++ note_at i slot
  notes_taken slots i slot q =
      ap (λ (n : ℕ). notes_from 0 (take n slots)) (let e : i + 1 ≡ suc i = omega arith in e)
      ∙ (ap (notes_from 0) (one_taken slots i slot q) ∙ (notes_more 0 (take i slots) slot ∙ ap (λ (n : ℕ). notes_from 0 (take i slots) ++ note_at n slot) (let many = so_many slots i slot q in let e : 0 + length (take i slots) ≡ i = omega (arith, many) in e)))

  -- the note in a slot is one of them
  note_among : (slots : List (Slot B)) (k j pulls : ℕ) (status : Status) (note : Note) (job : B) → get_elem? slots j ≡ some (Answered pulls status note job) → (i : ℕ) × (slice_get (notes_from k slots) i ≡ Some (k + j, note))
  note_among [] k j pulls status note job q = absurd (some-ne-none (Answered pulls status note job) (sym q))
  note_among (x ∷ slots) k zero pulls status note job q = (
    0,
    ap (λ y. slice_get (note_at k y ++ notes_from (suc k) slots) 0) (some-injective x (Answered pulls status note job) q) ∙ ap (λ (n : ℕ). Some (n, note)) (let e : k ≡ k + 0 = omega arith in e),
  )
  note_among (x ∷ slots) k (suc j) pulls status note job q = behind x (note_among slots (suc k) j pulls status note job q)
    where
      at : ℕ → ℕ × Note
      at n = (n, note)

      on : Some (at (suc k + j)) ≡ Some (at (k + suc j))
      on = ap (λ (n : ℕ). Some (at n)) (let e : suc k + j ≡ k + suc j = omega arith in e)

      behind : (y : Slot B) → (i : ℕ) × (slice_get (notes_from (suc k) slots) i ≡ Some (suc k + j, note)) → (i : ℕ) × (slice_get (note_at k y ++ notes_from (suc k) slots) i ≡ Some (k + suc j, note))
      behind Empty found = (found.0, found.1 ∙ on)
      behind (Body last) found = (found.0, found.1 ∙ on)
      behind (Used last) found = (found.0, found.1 ∙ on)
      behind (Answered more other first last) found = (suc found.0, found.1 ∙ on)

  pub note_there : (slots : List (Slot B)) (k pulls : ℕ) (status : Status) (note : Note) (job : B) → get_elem? slots k ≡ some (Answered pulls status note job) → (i : ℕ) × (slice_get (notes_from 0 slots) i ≡ Some (k, note))
  note_there slots k pulls status note job q =
      let found = note_among slots 0 k pulls status note job q in
      let at : ℕ → ℕ × Note = λ n. (n, note) in
      (found.0, found.1 ∙ ap (λ (n : ℕ). Some (at n)) (let e : 0 + k ≡ k = omega arith in e))
