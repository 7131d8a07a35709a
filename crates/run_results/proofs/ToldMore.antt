-- What one more event tells of each node.
use Rattle.std.proofs.Common.{◌≡◌, ◌≢◌, ℕ, zero, suc, ◌+◌, ◌<◌, ◌≤◌, ◌==◌, ◌&&◌, ◌||◌, Bool, true, false, cond, List, [], ◌∷◌, ◌++◌, length, map, take, get_or, set, Option, Some, None, refl, ap, ap₂, sym, ◌∙◌, arith, inl, inr, eq-eqb, replicate, get_or-set_other, length-set}
use Rattle.std.specs.List.{list_any, range_with_len}
use Rattle.std.specs.Option.{option_or}
use Rattle.std.proofs.lemmas.Bool.{cases_eq}
use Rattle.std.proofs.lemmas.Bool.Decides.{nat_tests}
use Rattle.std.proofs.lemmas.Grind.{get_or-set_at}
use Rattle.std.proofs.lemmas.List.{same_lists, take_more}
use Rattle.std.proofs.lemmas.List.Folds.{list_any-append}
use Rattle.std.proofs.lemmas.List.FromFn.{length-map-range_with_len, get_or-map-range_with_len}
use Rattle.plan_events.specs.declared.event.Event.{Event}
use Rattle.plan_events.specs.declared.event.EventKind.{EventKind}
use Rattle.plan_events.specs.declared.status.Status.{Status}
use Rattle.run_results.specs.declared.told.NodeEvents.{NodeEvents}
use Rattle.run_results.specs.Told.{is_start, is_skip, is_registration, status_by, status_told, status_of, told_of, all_told, nothing}

or_no : (b : Bool) → (b || false) ≡ b
or_no true = refl
or_no false = refl

or_none : (s : Option Status) → option_or s None ≡ s
or_none None = refl
or_none (Some s) = refl

or_assoc : (a b c : Option Status) → option_or a (option_or b c) ≡ option_or (option_or a b) c
or_assoc None b c = refl
or_assoc (Some s) b c = refl

told_is : (x : NodeEvents) (a b c : Bool) (s : Option Status) → x.started ≡ a → x.skipped ≡ b → x.registered ≡ c → x.status ≡ s → x ≡ record { started = a; skipped = b; registered = c; status = s }
told_is x a b c s p q r u = rw (← p, ← q, ← r, ← u) refl

more_any : (p : Event → Bool) (es : List Event) (e : Event) → list_any p (es ++ e ∷ []) ≡ (list_any p es || p e)
more_any p es e = list_any-append p es (e ∷ []) ∙ ap (λ b. list_any p es || b) (or_no (p e))

more_status : (n : ℕ) (es : List Event) (e : Event) → status_of (es ++ e ∷ []) n ≡ option_or (status_of es n) (status_told n e)
more_status n [] e = or_none (status_told n e)
more_status n (x ∷ es) e = ap (λ s. option_or (status_told n x) s) (more_status n es e) ∙ or_assoc (status_told n x) (status_of es n) (status_told n e)

-- what is told with one more event, if it is of the node
abbrev pub told_plus : NodeEvents → Bool → EventKind → Option Status → NodeEvents
told_plus t b kind status = record { started = t.started || (b && is_start kind); skipped = t.skipped || (b && is_skip kind); registered = t.registered || (b && is_registration kind); status = option_or t.status (cond b (status_by kind status) None) }

told_more : (n : ℕ) (es : List Event) (e : Event) → told_of (es ++ e ∷ []) n ≡ told_plus (told_of es n) (e.node == n) e.kind e.status
told_more n es e =
    told_is (told_of (es ++ e ∷ []) n) _ _ _ _
    (more_any (λ e. (e.node == n) && is_start e.kind) es e)
    (more_any (λ e. (e.node == n) && is_skip e.kind) es e)
    (more_any (λ e. (e.node == n) && is_registration e.kind) es e)
    (more_status n es e)

plus_no : (t : NodeEvents) (kind : EventKind) (status : Option Status) → told_plus t false kind status ≡ t
plus_no t kind status = sym (told_is t _ _ _ _ (sym (or_no t.started)) (sym (or_no t.skipped)) (sym (or_no t.registered)) (sym (or_none t.status)))

-- what the event adds where it is of the node
pub record IsAfter (old new : NodeEvents) (e : Event) : Type 0 where
  pub started : new.started ≡ (old.started || is_start e.kind)
  pub skipped : new.skipped ≡ (old.skipped || is_skip e.kind)
  pub registered : new.registered ≡ (old.registered || is_registration e.kind)
  pub status : new.status ≡ option_or old.status (status_by e.kind e.status)

told_here : (es : List Event) (e : Event) (old new : NodeEvents) → old ≡ told_of es e.node → IsAfter old new e → new ≡ told_of (es ++ e ∷ []) e.node
told_here es e old new is after =
    told_is new _ _ _ _ after.started after.skipped after.registered after.status
    ∙ ap (λ (b : Bool). told_plus old b e.kind e.status) (sym (eq-eqb e.node e.node refl))
    ∙ ap (λ (t : NodeEvents). told_plus t (e.node == e.node) e.kind e.status) is
    ∙ sym (told_more e.node es e)

differ : (m n : ℕ) → n ≢ m → (m == n) ≡ false
differ m n h = grind (arith, nat_tests)

told_away : (es : List Event) (e : Event) (n : ℕ) → n ≢ e.node → told_of (es ++ e ∷ []) n ≡ told_of es n
told_away es e n h =
    told_more n es e ∙ ap (λ (b : Bool). told_plus (told_of es n) b e.kind e.status) (differ e.node n h) ∙ plus_no (told_of es n) e.kind e.status

-- without events nothing is told
none_from : (a n : ℕ) → map (told_of []) (range_with_len a n) ≡ replicate n nothing
none_from a zero = refl
none_from a (suc n) = ap (λ (ts : List NodeEvents). nothing ∷ ts) (none_from (a + 1) n)

pub none_told : (nodes : ℕ) → all_told nodes [] ≡ replicate nodes nothing
none_told nodes = none_from 0 nodes

pub told_len : (nodes : ℕ) (events : List Event) → length (all_told nodes events) ≡ nodes
told_len nodes events = length-map-range_with_len (told_of events) 0 nodes

pub told_get : (nodes : ℕ) (events : List Event) (n : ℕ) (d : NodeEvents) → n < nodes → get_or (all_told nodes events) n d ≡ told_of events n
told_get nodes events n d lt = get_or-map-range_with_len (told_of events) 0 nodes n n d lt (omega arith)

-- one more event of a node with a place
pub told_at_place : (nodes : ℕ) (events : List Event) (e : Event) (told : List NodeEvents) (place : ℕ) (old new : NodeEvents) → place ≡ e.node → place < length told → length told ≡ nodes → told ≡ all_told nodes events → old ≡ get_or told place old
    → IsAfter old new e → set told place new ≡ all_told nodes (events ++ e ∷ [])
told_at_place nodes events e told place old new same inside len so is after =
    let all = all_told nodes (events ++ e ∷ []) in
    let long : length (set told place new) ≡ length all = length-set told place new ∙ len ∙ sym (told_len nodes (events ++ e ∷ [])) in
    let was : old ≡ told_of events e.node = is ∙ ap (λ (ts : List NodeEvents). get_or ts place old) so ∙ told_get nodes events place old (omega (arith, inside, len)) ∙ ap (told_of events) same in
    same_lists (set told place new) all long (λ k d lt.
    let within : k < nodes = omega (arith, lt, length-set told place new, len) in
    elim (cases_eq k place) [
      | inl q ↦ get_or-set_at told place k new d q inside ∙ told_here events e old new was after ∙ ap (told_of (events ++ e ∷ [])) (sym (q ∙ same))
      | inr ne ↦ get_or-set_other told place k new d ne ∙ ap (λ (ts : List NodeEvents). get_or ts k d) so ∙ told_get nodes events k d within ∙ sym (told_away events e k (λ q. ne (q ∙ sym same)))
    ] ∙ sym (told_get nodes (events ++ e ∷ []) k d within))

-- one of a node past the end tells nothing
pub told_past : (nodes : ℕ) (events : List Event) (e : Event) (told : List NodeEvents) → nodes ≤ e.node → told ≡ all_told nodes events → told ≡ all_told nodes (events ++ e ∷ [])
told_past nodes events e told past so =
    so ∙ same_lists (all_told nodes events) (all_told nodes (events ++ e ∷ [])) (told_len nodes events ∙ sym (told_len nodes (events ++ e ∷ []))) (λ k d lt.
    let within : k < nodes = omega (arith, told_len nodes events, lt) in
    told_get nodes events k d within ∙ sym (told_away events e k (λ q. omega (arith, q, within, past))) ∙ sym (told_get nodes (events ++ e ∷ []) k d within))

-- of as many nodes as there are places
pub told_each : (nodes : ℕ) (events : List Event) (told : List NodeEvents) → told ≡ all_told nodes events → length told ≡ nodes
told_each nodes events told is = ap length is ∙ told_len nodes events

-- what the first events tell, with one more
pub told_next : (nodes i : ℕ) (events : List Event) (e : Event) (old new : List NodeEvents) → length old ≡ nodes → old ≡ all_told nodes (take i events) → i < length events → e ≡ get_or events i e → length new ≡ length old
    → ((before : List Event) → old ≡ all_told (length old) before → new ≡ all_told (length old) (before ++ e ∷ [])) → (length new ≡ nodes) × (new ≡ all_told nodes (take (i + 1) events))
told_next nodes i events e old new len told inside is same more =
    let next : take (i + 1) events ≡ take i events ++ e ∷ [] = take_more events i e inside ∙ ap (λ (x : Event). take i events ++ x ∷ []) (sym is) in (
      same ∙ len,
      more (take i events) (told ∙ ap (λ (n : ℕ). all_told n (take i events)) (sym len)) ∙ ap₂ (λ (n : ℕ) (es : List Event). all_told n es) len (sym next),
    )
