-- The parts of the workers: how they grow with the history.
use Rattle.std.proofs.Common.{◌≡◌, ℕ, zero, suc, ◌+◌, ◌<◌, ◌≤◌, List, [], ◌∷◌, ◌++◌, length, set, get_or, replicate, refl, sym, ap, ◌∙◌, arith, inl, inr, length-append, map, Vec, Global}
use Rattle.std.proofs.lemmas.List.{set-append_left, get_or_append_left, length-map, map-set, get_or-map}
use Rattle.std.proofs.Math.Seq.{set-append_seam, get_or-append_seam}
use Rattle.std.proofs.lemmas.Bool.{cases_eq}
use Rattle.plan_events.specs.declared.event.Event.{Event}
use Rattle.event_history.specs.Parts.{part_of}
use Rattle.scheduling.proofs.LeftAlone.{part_mine, part_other}
use Rattle.sched_core.specs.Inside.Fields.{parts_upto}

pub parts_len : (n : ℕ) (h : List Event) → length (parts_upto n h) ≡ n
parts_len zero h = refl
parts_len (suc n) h = omega (arith, length-append (parts_upto n h) (part_of (n + 1) h ∷ []), parts_len n h)

pub parts_at : (n w : ℕ) (h : List Event) → w < n → get_or (parts_upto n h) w [] ≡ part_of (w + 1) h
parts_at zero w h lt = absurd (omega arith)
parts_at (suc n) w h lt =
    elim (cases_eq w n) [
      | inl e ↦ ap (λ (i : ℕ). get_or (parts_upto n h ++ part_of (n + 1) h ∷ []) i []) (e ∙ sym (parts_len n h)) ∙ get_or-append_seam (parts_upto n h) (part_of (n + 1) h) [] [] ∙ ap (λ (i : ℕ). part_of (i + 1) h) (sym e)
      | inr ne ↦ get_or_append_left (parts_upto n h) (part_of (n + 1) h ∷ []) [] w (omega (arith, parts_len n h, lt, ne)) ∙ parts_at n w h (omega (arith, lt, ne))
    ]

-- an event of a worker that has no list changes none
parts_same : (n : ℕ) (h : List Event) (e : Event) → ((k : ℕ) → e.worker ≡ k + 1 → n ≤ k) → parts_upto n (h ++ e ∷ []) ≡ parts_upto n h
parts_same zero h e out = refl
parts_same (suc n) h e out =
    let rest : parts_upto n (h ++ e ∷ []) ≡ parts_upto n h = parts_same n h e (λ k is. omega (arith, out k is)) in
    let here : part_of (n + 1) (h ++ e ∷ []) ≡ part_of (n + 1) h = part_other (n + 1) h e (λ q. omega (arith, out n q)) in
    ap (λ (l : List (List Event)). l ++ part_of (n + 1) (h ++ e ∷ []) ∷ []) rest ∙ ap (λ (x : List Event). parts_upto n h ++ x ∷ []) here

-- one more event is last in its worker's list, and no other list changes
pub parts_more : (n w : ℕ) (h : List Event) (e : Event) → e.worker ≡ w + 1 → w < n → parts_upto n (h ++ e ∷ []) ≡ set (parts_upto n h) w (get_or (parts_upto n h) w [] ++ e ∷ [])
parts_more zero w h e is lt = absurd (omega arith)
parts_more (suc n) w h e is lt =
    elim (cases_eq w n) [
      | inl q ↦ (let at : w ≡ length (parts_upto n h) = q ∙ sym (parts_len n h) in
          let rest : parts_upto n (h ++ e ∷ []) ≡ parts_upto n h = parts_same n h e (λ k at. omega (arith, q, is, at)) in
          let here : part_of (n + 1) (h ++ e ∷ []) ≡ part_of (n + 1) h ++ e ∷ [] = part_mine (n + 1) h e (is ∙ ap (λ (i : ℕ). i + 1) q) in
          let mine : get_or (parts_upto (suc n) h) w [] ≡ part_of (n + 1) h = parts_at (suc n) w h lt ∙ ap (λ (i : ℕ). part_of (i + 1) h) q in
          ap (λ (l : List (List Event)). l ++ part_of (n + 1) (h ++ e ∷ []) ∷ []) rest
          ∙ ap (λ (x : List Event). parts_upto n h ++ x ∷ []) here
          ∙ sym (set-append_seam (parts_upto n h) (part_of (n + 1) h) [] (part_of (n + 1) h ++ e ∷ []))
          ∙ ap (λ (i : ℕ). set (parts_upto (suc n) h) i (part_of (n + 1) h ++ e ∷ [])) (sym at)
          ∙ ap (λ (x : List Event). set (parts_upto (suc n) h) w (x ++ e ∷ [])) (sym mine))
      | inr q ↦ (let less : w < n = omega (arith, lt, q) in
          let inside : w < length (parts_upto n h) = omega (arith, less, parts_len n h) in
          let rest = parts_more n w h e is less in
          let here : part_of (n + 1) (h ++ e ∷ []) ≡ part_of (n + 1) h = part_other (n + 1) h e (λ r. omega (arith, r, is, less)) in
          let mine : get_or (parts_upto (suc n) h) w [] ≡ get_or (parts_upto n h) w [] = get_or_append_left (parts_upto n h) (part_of (n + 1) h ∷ []) [] w inside in
          ap (λ (l : List (List Event)). l ++ part_of (n + 1) (h ++ e ∷ []) ∷ []) rest
          ∙ ap (λ (x : List Event). set (parts_upto n h) w (get_or (parts_upto n h) w [] ++ e ∷ []) ++ x ∷ []) here
          ∙ sym (set-append_left (parts_upto n h) (part_of (n + 1) h ∷ []) w (get_or (parts_upto n h) w [] ++ e ∷ []) inside)
          ∙ ap (λ (x : List Event). set (parts_upto (suc n) h) w (x ++ e ∷ [])) (sym mine))
    ]

replicate_last : {X : Type 0} (n : ℕ) (x : X) → replicate n x ++ x ∷ [] ≡ x ∷ replicate n x
replicate_last zero x = refl
replicate_last (suc n) x = ap (λ l. x ∷ l) (replicate_last n x)

pub parts_none : (n : ℕ) → parts_upto n [] ≡ replicate n []
parts_none zero = refl
parts_none (suc n) = ap (λ (l : List (List Event)). l ++ [] ∷ []) (parts_none n) ∙ replicate_last n []

-- lists in vectors, where an event comes of a worker that has no list
pub put_out : (n : ℕ) (h : List Event) (e : Event) (lists : List (Vec Event Global)) → ((k : ℕ) → e.worker ≡ k + 1 → length lists ≤ k) → map (λ v. v.items) lists ≡ parts_upto n h → map (λ v. v.items) lists ≡ parts_upto n (h ++ e ∷ [])
put_out n h e lists out are =
    let count : length lists ≡ n = sym (length-map lists (λ (v : Vec Event Global). v.items)) ∙ ap length are ∙ parts_len n h in
    are ∙ sym (parts_same n h e (λ k is. omega (arith, count, out k is)))

-- and an event of the worker whose list stands at place w
pub put_in : (n w : ℕ) (h : List Event) (e : Event) (lists : List (Vec Event Global)) (old new : Vec Event Global) → e.worker ≡ w + 1 → w < length lists → get_or lists w old ≡ old → new.items ≡ old.items ++ e ∷ [] → map (λ v. v.items) lists ≡ parts_upto n h → map (λ v. v.items) (set lists w new) ≡ parts_upto n (h ++ e ∷ [])
put_in n w h e lists old new is lt at more are =
    let items : Vec Event Global → List Event = λ v. v.items in
    let count : length lists ≡ n = sym (length-map lists items) ∙ ap length are ∙ parts_len n h in
    let mine : get_or (parts_upto n h) w [] ≡ old.items = ap (λ (l : List (List Event)). get_or l w []) (sym are) ∙ get_or-map items lists w old [] lt ∙ ap items at in
    map-set items lists w new
    ∙ ap (λ (l : List (List Event)). set l w new.items) are
    ∙ ap (set (parts_upto n h) w) (more ∙ ap (λ (l : List Event). l ++ e ∷ []) (sym mine))
    ∙ sym (parts_more n w h e is (omega (arith, lt, count)))
