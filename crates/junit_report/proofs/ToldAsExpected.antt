-- What a complete legal history tells of a node, where nothing fails fast, is what is expected of the node.
use Rattle.std.proofs.Common.{◌≡◌, ℕ, zero, suc, ◌<◌, ◌==◌, ◌&&◌, ◌||◌, Bool, true, false, List, [], ◌∷◌, Option, Some, None, slice_get, get_or, inl, inr, ◌⊎◌, refl, sym, ap, ◌∙◌, arith}
use Rattle.std.specs.Option.{option_or, is_some}
use Rattle.std.proofs.lemmas.Bool.{cases_Bool, cond-true, cond-false, eqb-true, eq-eqb, both_ways}
use Rattle.std.proofs.lemmas.List.FromFn.{get_or-map-range_with_len}
use Rattle.std.proofs.lemmas.Option.{same_Some, none-some}
use Rattle.descriptor.specs.Nodes.{IsTree, size, parent_of, is_spare_at, is_disabled, reason_of}
use Rattle.plan_events.specs.declared.event.EventKind.{EventKind}
use Rattle.plan_events.specs.declared.event.EventKind.TheVariants.{Started, Finished, Skipped, Registered}
use Rattle.plan_events.specs.declared.event.Event.{Event}
use Rattle.plan_events.specs.declared.note.Note.{Note}
use Rattle.plan_events.specs.declared.outcome.Reply.{Reply}
use Rattle.plan_events.specs.declared.status.Status.{Status}
use Rattle.plan_events.specs.Texts.{TextParts, reasons_of, text_of_place, text_at}
use Rattle.plan_events.proofs.Reasons.{reasons_at}
use Rattle.resource_locks.specs.Plans.{PlanParts}
use Rattle.event_history.specs.Expected.{Expected, Silent, Skips, Finishes, HasOneReply, below_result, expected_by, expected, IsAsExpected}
use Rattle.event_history.specs.History.{IsLegal, IsComplete, IsTextOf, reason_or_cancelled}
use Rattle.event_history.specs.Places.{same_kind, StandsAt, has}
use Rattle.event_history.proofs.Expectation.{as_expected}
use Rattle.event_history.proofs.Flags.{flag_by}
use Rattle.event_history.proofs.Spares.{plan_tree}
use Rattle.event_history.proofs.Told.{told, text_expected}
use Rattle.run_results.specs.declared.told.NodeEvents.{NodeEvents}
use Rattle.run_results.specs.Told.{is_start, is_skip, is_registration, status_by, status_told, status_of, is_started, is_skipped, is_registered, told_of}
use Rattle.junit_report.specs.Expectations.{plan_on, result_at, told_by, expected_told, note_by, expected_texts}

-- of a plan the tree alone counts
by_tree : (p : PlanParts) (reply : ℕ → Reply) (k n : ℕ) → expected_by p reply k n ≡ expected_by (plan_on p.tree) reply k n
by_tree p reply zero n = refl
by_tree p reply (suc k) zero = refl
by_tree p reply (suc k) (suc n) = ap (below_result p reply (suc n)) (by_tree p reply k (parent_of p.tree (suc n)))

pub expected_on : (p : PlanParts) (reply : ℕ → Reply) (n : ℕ) → expected p reply n ≡ result_at p.tree reply n
expected_on p reply n = by_tree p reply (suc n) n

-- the tests of the listeners are those of histories
swapped : (a b : Bool) → (a && b) ≡ (b && a)
swapped true true = refl
swapped true false = refl
swapped false true = refl
swapped false false = refl

started_is : (n : ℕ) (h : List Event) → is_started h n ≡ has Started n h
started_is n [] = refl
started_is n (e ∷ h) = rw (started_is n h) (ap (λ (b : Bool). b || has Started n h) (swapped (e.node == n) (is_start e.kind) ∙ ap (λ (b : Bool). b && (e.node == n)) (by_kind e.kind)))
  where
    by_kind : (k : EventKind) → is_start k ≡ same_kind k Started
    by_kind Started = refl
    by_kind Finished = refl
    by_kind Skipped = refl
    by_kind Registered = refl

skipped_is : (n : ℕ) (h : List Event) → is_skipped h n ≡ has Skipped n h
skipped_is n [] = refl
skipped_is n (e ∷ h) = rw (skipped_is n h) (ap (λ (b : Bool). b || has Skipped n h) (swapped (e.node == n) (is_skip e.kind) ∙ ap (λ (b : Bool). b && (e.node == n)) (by_kind e.kind)))
  where
    by_kind : (k : EventKind) → is_skip k ≡ same_kind k Skipped
    by_kind Started = refl
    by_kind Finished = refl
    by_kind Skipped = refl
    by_kind Registered = refl

registered_is : (n : ℕ) (h : List Event) → is_registered h n ≡ has Registered n h
registered_is n [] = refl
registered_is n (e ∷ h) = rw (registered_is n h) (ap (λ (b : Bool). b || has Registered n h) (swapped (e.node == n) (is_registration e.kind) ∙ ap (λ (b : Bool). b && (e.node == n)) (by_kind e.kind)))
  where
    by_kind : (k : EventKind) → is_registration k ≡ same_kind k Registered
    by_kind Started = refl
    by_kind Finished = refl
    by_kind Skipped = refl
    by_kind Registered = refl

-- an event says nothing of how a node ended, or it is its finish
by_kind : (k : EventKind) (s : Option Status) → (status_by k s ≡ None) ⊎ ((k ≡ Finished) × (status_by k s ≡ s))
by_kind Started s = inl refl
by_kind Finished s = inr (refl, refl)
by_kind Skipped s = inl refl
by_kind Registered s = inl refl

told_cases : (n : ℕ) (e : Event) → (status_told n e ≡ None) ⊎ ((e.kind ≡ Finished) × (e.node ≡ n) × (status_told n e ≡ e.status))
told_cases n e =
    elim (cases_Bool (e.node == n)) [
      | inl t ↦ elim (by_kind e.kind e.status) [
        | inl q ↦ inl (cond-true (e.node == n) (status_by e.kind e.status) None t ∙ q)
        | inr q ↦ inr (q.0, eqb-true e.node n t, cond-true (e.node == n) (status_by e.kind e.status) None t ∙ q.1)
      ]
      | inr f ↦ inl (cond-false (e.node == n) (status_by e.kind e.status) None f)
    ]

-- what a finish of the node says
told_finish : (n : ℕ) (e : Event) → e.kind ≡ Finished → e.node ≡ n → status_told n e ≡ e.status
told_finish n e kind node = cond-true (e.node == n) (status_by e.kind e.status) None (eq-eqb e.node n node) ∙ ap (λ (k : EventKind). status_by k e.status) kind

-- every finish of the node in the list has this status
abbrev AllEndSo : List Event → ℕ → Status → Type 0
AllEndSo h n status = (i : ℕ) (e : Event) → slice_get h i ≡ Some e → e.kind ≡ Finished → e.node ≡ n → e.status ≡ Some status

-- a node without a finish has no status
status_none : (h : List Event) (n : ℕ) → ((i : ℕ) → StandsAt h i Finished n → ⊥) → status_of h n ≡ None
status_none [] n none = refl
status_none (e ∷ h) n none =
    elim (told_cases n e) [
      | inl q ↦ ap (λ (s : Option Status). option_or s (status_of h n)) q ∙ status_none h n (λ i s. none (suc i) (record { event = s.event; here = s.here; kind = s.kind; node = s.node }))
      | inr q ↦ absurd (none 0 (record { event = e; here = refl; kind = q.0; node = q.1 }))
    ]

-- one whose finishes all have this status has it
status_all : (h : List Event) (n : ℕ) (status : Status) (i : ℕ) → StandsAt h i Finished n → AllEndSo h n status → status_of h n ≡ Some status
status_all [] n status i s all = absurd (none-some s.event s.here)
status_all (e ∷ h) n status zero s all =
    let same : e ≡ s.event = same_Some e s.event s.here in
    let kind : e.kind ≡ Finished = ap (λ (x : Event). x.kind) same ∙ s.kind in
    let node : e.node ≡ n = ap (λ (x : Event). x.node) same ∙ s.node in
    ap (λ (x : Option Status). option_or x (status_of h n)) (told_finish n e kind node ∙ all 0 e refl kind node)
status_all (e ∷ h) n status (suc i) s all =
    elim (told_cases n e) [
      | inl q ↦ ap (λ (x : Option Status). option_or x (status_of h n)) q
          ∙ status_all h n status i (record { event = s.event; here = s.here; kind = s.kind; node = s.node }) (λ j f here kind node. all (suc j) f here kind node)
      | inr q ↦ ap (λ (x : Option Status). option_or x (status_of h n)) (q.2 ∙ all 0 e refl q.0 q.1)
    ]

same_told : (a b c : Bool) (s : Option Status) (x : NodeEvents) → a ≡ x.started → b ≡ x.skipped → c ≡ x.registered → s ≡ x.status → record { started = a; skipped = b; registered = c; status = s } ≡ x
same_told a b c s x p q r u = rw (p, q, r, u) refl

disabled_reason : (reason : Option (List ℕ)) → is_some reason ≡ true → reason ≡ Some (reason_or_cancelled reason)
disabled_reason (Some r) some = refl
disabled_reason None some = cc

-- the text that a note gives beside the node's reason
noted : (p : PlanParts) (n : ℕ) (x : Expected) → (x ≡ Skips → is_disabled p.tree n ≡ true) → text_of_place (reason_of p.tree n) (note_by x) ≡ text_expected p n x
noted p n Silent disabled = refl
noted p n Skips disabled = disabled_reason (reason_of p.tree n) (disabled refl)
noted p n (Finishes status None) disabled = refl
noted p n (Finishes status (Some text)) disabled = refl

module _ (p : PlanParts) (replies : ℕ → List Reply) (workers : ℕ) (h : List Event) (legal : IsLegal p replies workers h) where
  -- a node's finishes are one
  ends_so : (i n : ℕ) (status : Status) → (s : StandsAt h i Finished n) → s.event.status ≡ Some status → AllEndSo h n status
  ends_so i n status s is j e here kind node =
      let same : i ≡ j = legal.once i j n Finished s (record { event = e; here = here; kind = kind; node = node }) in
      ap (λ (x : Event). x.status) (same_Some e s.event (sym here ∙ ap (slice_get h) (sym same) ∙ s.here)) ∙ is

  status_as : (n : ℕ) (x : Expected) → IsAsExpected p replies h n x → status_of h n ≡ (told_by (is_spare_at p.tree n) x).status
  status_as n Silent none = status_none h n (λ i s. none i s.event s.here s.node)
  status_as n Skips skip = status_none h n (λ i s. (let start = legal.after_start i n s in legal.apart start.place skip.0 n start.stands skip.1))
  status_as n (Finishes status text) e =
      let s : StandsAt h e.place Finished n = record { event = e.event; here = e.here; kind = e.kind; node = e.node } in
      status_all h n status e.place s (ends_so e.place n status s e.status_is)

  -- what is told of a node that is as it is expected to be
  told_as : (n : ℕ) (x : Expected) → IsAsExpected p replies h n x → told_of h n ≡ told_by (is_spare_at p.tree n) x
  told_as n Silent e =
      same_told _ _ _ _ (told_by (is_spare_at p.tree n) Silent) (started_is n h ∙ flag_by p replies workers h legal n Started Silent e) (skipped_is n h ∙ flag_by p replies workers h legal n Skipped Silent e)
      (registered_is n h ∙ flag_by p replies workers h legal n Registered Silent e) (status_as n Silent e)
  told_as n Skips e =
      same_told _ _ _ _ (told_by (is_spare_at p.tree n) Skips) (started_is n h ∙ flag_by p replies workers h legal n Started Skips e) (skipped_is n h ∙ flag_by p replies workers h legal n Skipped Skips e)
      (registered_is n h ∙ flag_by p replies workers h legal n Registered Skips e) (status_as n Skips e)
  told_as n (Finishes status text) e =
      same_told _ _ _ _ (told_by (is_spare_at p.tree n) (Finishes status text)) (started_is n h ∙ flag_by p replies workers h legal n Started (Finishes status text) e)
      (skipped_is n h ∙ flag_by p replies workers h legal n Skipped (Finishes status text) e) (registered_is n h ∙ flag_by p replies workers h legal n Registered (Finishes status text) e)
      (status_as n (Finishes status text) e)

  -- where nothing fails fast a skipped node is disabled
  skips_disabled : p.fail_fast ≡ false → (n : ℕ) (x : Expected) → IsAsExpected p replies h n x → x ≡ Skips → is_disabled p.tree n ≡ true
  skips_disabled calm n Silent e is = cc
  skips_disabled calm n Skips e is = elim (legal.skipped e.0 n e.1) [ inl q ↦ q | inr q ↦ absurd (both_ways p.fail_fast calm q.0) ]
  skips_disabled calm n (Finishes status text) e is = cc

module _ (p : PlanParts) (tree : IsTree p.tree) (reply : ℕ → Reply) (replies : ℕ → List Reply) (one : HasOneReply reply replies) (calm : p.fail_fast ≡ false) (workers : ℕ) (h : List Event)
    (legal : IsLegal p replies workers h) (complete : IsComplete p h) where
  as_it_is : (n : ℕ) → n < size p.tree → IsAsExpected p replies h n (expected p reply n)
  as_it_is n inside = as_expected p (plan_tree p.tree tree) reply replies one workers h legal calm complete n inside

  -- What is told of each node is what is expected.
  pub told_is : (n : ℕ) → n < size p.tree → told_of h n ≡ expected_told p.tree reply n
  told_is n inside = told_as p replies workers h legal n (expected p reply n) (as_it_is n inside) ∙ ap (told_by (is_spare_at p.tree n)) (expected_on p reply n)

  note_at : (n : ℕ) → n < size p.tree → text_at (expected_texts p.tree reply) n ≡ text_of_place (reason_of p.tree n) (note_by (result_at p.tree reply n))
  note_at n inside =
      ap (λ (note : Option Note). text_of_place (get_or (reasons_of p.tree) n None) note) (get_or-map-range_with_len (λ m. note_by (result_at p.tree reply m)) 0 (size p.tree) n n None inside (omega arith))
      ∙ ap (λ (reason : Option (List ℕ)). text_of_place reason (note_by (result_at p.tree reply n))) (reasons_at p.tree n)

  -- And its text is the one that is expected.
  pub text_is : (texts : TextParts) (n : ℕ) → n < size p.tree → IsTextOf p replies h n (text_at texts n) → text_at texts n ≡ text_at (expected_texts p.tree reply) n
  text_is texts n inside is =
      told p (plan_tree p.tree tree) reply replies one workers h legal calm complete n (text_at texts n) inside is
      ∙ sym (note_at n inside ∙ ap (λ (x : Expected). text_of_place (reason_of p.tree n) (note_by x)) (sym (expected_on p reply n))
      ∙ noted p n (expected p reply n) (skips_disabled p replies workers h legal calm n (expected p reply n) (as_it_is n inside)))
