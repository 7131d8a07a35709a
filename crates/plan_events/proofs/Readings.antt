-- The parts of a word, read back from it.
use Rattle.std.proofs.Common.{◌≡◌, ℕ, ◌+◌, ◌*◌, ◌/◌, ◌%◌, ◌<◌, ◌≤◌, ◌^◌, true, Option, Some, None, cond, eqb, refl, sym, ◌∙◌, ap, arith}
use Rattle.std.proofs.lemmas.Bool.Decides.{nat_tests}
use Rattle.plan_events.specs.declared.status.Status.{Status}
use Rattle.plan_events.specs.declared.status.Status.TheVariants.{Successful, Aborted, Failed}
use Rattle.plan_events.specs.declared.event.EventKind.{EventKind}
use Rattle.plan_events.specs.declared.event.EventKind.TheVariants.{Started, Finished, Skipped, Registered}
use Rattle.plan_events.specs.declared.event.Event.{Event}
use Rattle.plan_events.specs.Words.{is_lawful, kind_code, status_code, word_of}

-- the four numbers that a word holds, read from their bits
pub record AreParts (k s w n word : ℕ) : Type 0 where
  pub kind : word % 256 ≡ k
  pub status : word / 256 % 256 ≡ s
  pub worker : word / 65536 % 256 ≡ w
  pub node : word / 4294967296 ≡ n

pub parts_of_sum : (k s w n : ℕ) → k < 256 → s < 256 → w < 256 → AreParts k s w n (k + 256 * s + 65536 * w + 4294967296 * n)
parts_of_sum k s w n hk hs hw = record {
  kind = omega arith;
  status = omega arith;
  worker = omega arith;
  node = omega arith;
}

pub kind_in_byte : (kind : EventKind) → (0 < kind_code kind) × (kind_code kind < 256)
kind_in_byte Started = (omega arith, omega arith)
kind_in_byte Finished = (omega arith, omega arith)
kind_in_byte Skipped = (omega arith, omega arith)
kind_in_byte Registered = (omega arith, omega arith)

pub status_in_byte : (status : Option Status) → status_code status < 256
status_in_byte None = omega arith
status_in_byte (Some Successful) = omega arith
status_in_byte (Some Aborted) = omega arith
status_in_byte (Some Failed) = omega arith

-- the ranges of a lawful event's numbers
pub record IsInRange (e : Event) : Type 0 where
  pub worker_above : 0 < e.worker
  pub worker_below : e.worker ≤ 64
  pub node_below : e.node ≤ 16383

pub lawful_ranges : (e : Event) → is_lawful e ≡ true → IsInRange e
lawful_ranges e h = record {
  worker_above = grind (arith, nat_tests);
  worker_below = grind (arith, nat_tests);
  node_below = grind (arith, nat_tests);
}

-- no event has the word 0
pub word_above_zero : (e : Event) → 0 < word_of e
word_above_zero e = omega (arith, kind_in_byte e.kind)

-- the word of a lawful event is below 2 ^ 46
pub lawful_word_fits : (e : Event) → is_lawful e ≡ true → word_of e < 2 ^ 46
lawful_word_fits e h = omega (arith, kind_in_byte e.kind, status_in_byte e.status, lawful_ranges e h)

pub parts_of_word : (e : Event) → is_lawful e ≡ true → AreParts (kind_code e.kind) (status_code e.status) e.worker e.node (word_of e)
parts_of_word e h =
    let r = lawful_ranges e h in
    parts_of_sum _ _ _ _ (kind_in_byte e.kind).1 (status_in_byte e.status) (omega arith)

-- the kind with a number, and any kind for a number that none has
kind_at : ℕ → EventKind
kind_at code = cond (eqb code 1) Started (cond (eqb code 2) Finished (cond (eqb code 3) Skipped Registered))

kind_at-kind_code : (kind : EventKind) → kind_at (kind_code kind) ≡ kind
unfolding kind_at
kind_at-kind_code Started = refl
kind_at-kind_code Finished = refl
kind_at-kind_code Skipped = refl
kind_at-kind_code Registered = refl

-- the status with a number, and any status for a number that none has
status_at : ℕ → Option Status
status_at code = cond (eqb code 0) None (cond (eqb code 1) (Some Successful) (cond (eqb code 2) (Some Aborted) (Some Failed)))

status_at-status_code : (status : Option Status) → status_at (status_code status) ≡ status
unfolding status_at
status_at-status_code None = refl
status_at-status_code (Some Successful) = refl
status_at-status_code (Some Aborted) = refl
status_at-status_code (Some Failed) = refl

-- no two lawful events have one word
pub same_word_same_event : (e f : Event) → is_lawful e ≡ true → is_lawful f ≡ true → word_of e ≡ word_of f → e ≡ f
same_word_same_event e f he hf same =
    let p = parts_of_word e he in
    let q = parts_of_word f hf in
    let codes : kind_code e.kind ≡ kind_code f.kind = cc in
    let statuses : status_code e.status ≡ status_code f.status = cc in
    let kinds : e.kind ≡ f.kind = sym (kind_at-kind_code e.kind) ∙ ap kind_at codes ∙ kind_at-kind_code f.kind in
    let ends : e.status ≡ f.status = sym (status_at-status_code e.status) ∙ ap status_at statuses ∙ status_at-status_code f.status in
    let workers : e.worker ≡ f.worker = cc in
    let nodes : e.node ≡ f.node = cc in
    λ i. record { kind = kinds i; node = nodes i; status = ends i; worker = workers i }
