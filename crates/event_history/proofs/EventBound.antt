-- A legal history has at most two events of each node, and one more of each spare.
use Rattle.std.specs.List.{list_any, IsDistinct}
use Rattle.std.proofs.Common.{◌≡◌, ℕ, suc, ◌+◌, ◌*◌, ◌<◌, ◌≤◌, true, List, [], ◌∷◌, length, map, get_or, eqb, option_map, Some, slice_get, inl, inr, refl, sym, ap, ◌∙◌, subst, arith}
use Rattle.std.proofs.lemmas.Option.{slice_get-map, get_or_from_slice_get}
use Rattle.std.proofs.lemmas.Bool.{or_cases, and_parts, cases_order, eqb-true, ne_eqb, false≢true}
use Rattle.std.proofs.lemmas.List.{length-map}
use Rattle.std.proofs.lemmas.Map.Keys.{IsDistinct-from_apart}
use Rattle.std.proofs.lemmas.Map.Steps.{length-le_from_distinct_below}
use Rattle.descriptor.specs.Nodes.{size, parent_of, count_below, is_spare_at}
use Rattle.descriptor.proofs.Counts.{count_increases}
use Rattle.plan_events.specs.declared.event.EventKind.{EventKind}
use Rattle.plan_events.specs.declared.event.EventKind.TheVariants.{Started, Finished, Skipped, Registered}
use Rattle.plan_events.specs.declared.event.Event.{Event}
use Rattle.plan_events.specs.declared.outcome.Reply.{Reply}
use Rattle.resource_locks.specs.Plans.{PlanParts, most_events}
use Rattle.event_history.specs.Plans.{pulls_job}
use Rattle.event_history.specs.History.{IsLegal}
use Rattle.event_history.proofs.Places.{event_at}

-- A number for each kind and node, where a start and a skip share one, since no node has both.
abbrev code_by : PlanParts → ℕ → EventKind → ℕ
code_by p n Started = 2 * n
code_by p n Skipped = 2 * n
code_by p n Finished = 2 * n + 1
code_by p n Registered = 2 * size p.tree + count_below (is_spare_at p.tree) n

abbrev code_of : PlanParts → Event → ℕ
code_of p e = code_by p e.node e.kind

codes_below : (p : PlanParts) (h : List Event) (n : ℕ) → ((i : ℕ) (e : Event) → slice_get h i ≡ Some e → code_of p e < n) → (q : ℕ) → list_any (eqb q) (map (code_of p) h) ≡ true → q < n
codes_below p [] n each q any = absurd (false≢true any)
codes_below p (e ∷ h) n each q any =
    elim (or_cases (eqb q (code_of p e)) (list_any (eqb q) (map (code_of p) h)) any) [
      | inl a ↦ subst (λ (x : ℕ). x < n) (sym (eqb-true q (code_of p e) a)) (each 0 e refl)
      | inr b ↦ codes_below p h n (λ i f s. each (suc i) f s) q b
    ]

code_at : (p : PlanParts) (h : List Event) (i d : ℕ) (e : Event) → slice_get h i ≡ Some e → get_or (map (code_of p) h) i d ≡ code_of p e
code_at p h i d e q = get_or_from_slice_get (map (code_of p) h) i (code_of p e) d (slice_get-map (code_of p) h i ∙ ap (option_map (code_of p)) q)

module _ (p : PlanParts) (replies : ℕ → List Reply) (workers : ℕ) (h : List Event) (legal : IsLegal p replies workers h) where
  -- a registered node is a spare
  spare_at : (i : ℕ) (e : Event) → slice_get h i ≡ Some e → e.kind ≡ Registered → is_spare_at p.tree e.node ≡ true
  spare_at i e q k = (and_parts (is_spare_at p.tree e.node) (pulls_job p (parent_of p.tree e.node)) (legal.registered i e.node (record { event = e; here = q; kind = k; node = refl }))).0

  code_small : (i : ℕ) (e : Event) → slice_get h i ≡ Some e → code_of p e < most_events p
  code_small i e q = go e.kind refl
    where
      inside : e.node < size p.tree
      inside = legal.nodes i e q

      go : (k : EventKind) → e.kind ≡ k → code_by p e.node k < most_events p
      go Started k = omega (arith, inside)
      go Skipped k = omega (arith, inside)
      go Finished k = omega (arith, inside)
      go Registered k = omega (arith, count_increases (is_spare_at p.tree) e.node (size p.tree) inside (spare_at i e q k))

  same_place : (i j : ℕ) (e f : Event) (k : EventKind) → slice_get h i ≡ Some e → slice_get h j ≡ Some f → e.kind ≡ k → f.kind ≡ k → e.node ≡ f.node → i ≡ j
  same_place i j e f k q r a b n = legal.once i j f.node k (record { event = e; here = q; kind = a; node = n }) (record { event = f; here = r; kind = b; node = refl })

  codes_apart : (i j : ℕ) (e f : Event) → slice_get h i ≡ Some e → slice_get h j ≡ Some f → code_of p e ≡ code_of p f → i ≡ j
  codes_apart i j e f q r same = go e.kind f.kind refl refl same
    where
      e_in : e.node < size p.tree
      e_in = legal.nodes i e q

      f_in : f.node < size p.tree
      f_in = legal.nodes j f r

      apart : e.node ≡ f.node → e.kind ≡ Started → f.kind ≡ Skipped → ⊥
      apart n a b = legal.apart i j f.node (record { event = e; here = q; kind = a; node = n }) (record { event = f; here = r; kind = b; node = refl })

      apart_back : f.node ≡ e.node → e.kind ≡ Skipped → f.kind ≡ Started → ⊥
      apart_back n a b = legal.apart j i e.node (record { event = f; here = r; kind = b; node = n }) (record { event = e; here = q; kind = a; node = refl })

      both_spares : e.kind ≡ Registered → f.kind ≡ Registered → count_below (is_spare_at p.tree) e.node ≡ count_below (is_spare_at p.tree) f.node → e.node ≡ f.node
      both_spares a b s =
          elim (cases_order e.node f.node) [
            | inl n ↦ n
            | inr r' ↦ elim r' [
              | inl lt ↦ absurd (omega (arith, s, count_increases (is_spare_at p.tree) e.node f.node lt (spare_at i e q a)))
              | inr lt ↦ absurd (omega (arith, s, count_increases (is_spare_at p.tree) f.node e.node lt (spare_at j f r b)))
            ]
          ]

      go : (k l : EventKind) → e.kind ≡ k → f.kind ≡ l → code_by p e.node k ≡ code_by p f.node l → i ≡ j
      go Started Started a b s = same_place i j e f Started q r a b (omega (arith, s))
      go Started Finished a b s = absurd (omega (arith, s))
      go Started Skipped a b s = absurd (apart (omega (arith, s)) a b)
      go Started Registered a b s = absurd (omega (arith, s, e_in))
      go Finished Started a b s = absurd (omega (arith, s))
      go Finished Finished a b s = same_place i j e f Finished q r a b (omega (arith, s))
      go Finished Skipped a b s = absurd (omega (arith, s))
      go Finished Registered a b s = absurd (omega (arith, s, e_in))
      go Skipped Started a b s = absurd (apart_back (omega (arith, s)) a b)
      go Skipped Finished a b s = absurd (omega (arith, s))
      go Skipped Skipped a b s = same_place i j e f Skipped q r a b (omega (arith, s))
      go Skipped Registered a b s = absurd (omega (arith, s, e_in))
      go Registered Started a b s = absurd (omega (arith, s, f_in))
      go Registered Finished a b s = absurd (omega (arith, s, f_in))
      go Registered Skipped a b s = absurd (omega (arith, s, f_in))
      go Registered Registered a b s = same_place i j e f Registered q r a b (both_spares a b (omega (arith, s)))

  codes_distinct : IsDistinct eqb (map (code_of p) h)
  codes_distinct = IsDistinct-from_apart eqb (map (code_of p) h) (λ i j d lt within.
      let few : j < length h = omega (arith, within, length-map h (code_of p)) in
      let e = event_at h i (omega (arith, lt, few)) in
      let f = event_at h j few in
      ne_eqb (get_or (map (code_of p) h) i d) (get_or (map (code_of p) h) j d) (λ same.
      let at : i ≡ j = codes_apart i j e.0 f.0 e.1 f.1 (sym (code_at p h i d e.0 e.1) ∙ same ∙ code_at p h j d f.0 f.1) in
      omega (arith, at, lt)))

  -- A legal history has at most two events of each node, and one more of each spare.
  pub legal_few : length h ≤ most_events p
  legal_few =
      let few = length-le_from_distinct_below (map (code_of p) h) (most_events p) codes_distinct (codes_below p h (most_events p) code_small) in
      omega (arith, few, length-map h (code_of p))
