-- A job goes into its slot, or among the unused; and all jobs are in slots or unused.
use Rattle.std.proofs.Common.{◌≡◌, ◌≢◌, ℕ, zero, suc, ◌+◌, ◌<◌, ◌≤◌, ◌==◌, ◌&&◌, not, eq-eqb, ne_eqb, cond, Bool, true, false, List, [], ◌∷◌, ◌++◌, replicate, set, get_or, get_or-set_same, get_or-set_other, length, length-set, Option, Some, None, sym, refl, ap, ◌∙◌, subst, append_assoc, arith, ◌⊎◌, inl, inr}
use Rattle.std.specs.Option.{is_some}
use Rattle.std.proofs.lemmas.List.{append-nil, length-replicate, get_or-replicate}
use Rattle.std.proofs.lemmas.Option.{none-some, same_Some}
use mathlib.Core.Option.{some, some-injective, some-ne-none}
use mathlib.Core.Logic.{dite}
use native.Mathlib.Decide.{ℕ_discrete}
use lib.ListN.{get_elem?, take}
use Rattle.atomic_table.proofs.Lists.{at_index, set_here, set_else}
use Rattle.descriptor.specs.Nodes.{IsTree}
use Rattle.resource_locks.specs.Plans.{PlanParts}
use Rattle.table_rule.specs.declared.view.Slot.{Slot}
use Rattle.table_rule.specs.declared.view.Slot.TheVariants.{Empty, Body}
use Rattle.table_rule.specs.Slots.{slot_count, job_at, job_with, slot_with, slot_for}
use Rattle.table_rule.proofs.Jobs.{one_slot_each}
use Rattle.table_contents.specs.Prepared.{is_number, slot_below, slot_of, goes_in, unused_after, job_in, jobs_from}
use Rattle.table_contents.specs.Filling.{is_bare, IsFilled, IsBare, IsLeastBare}

-- The slot of a number.
is_job : (number : ℕ) (found : Option ℕ) → is_number number found ≡ true → found ≡ Some number
is_job number None q = absurd (let h : false ≡ true = q in cc)
is_job number (Some other) q = dite (ℕ_discrete other number) (λ e. ap (λ n. Some n) e) (λ ne. absurd (let h : false ≡ true = sym (ne_eqb other number ne) ∙ q in cc))

found_below : (p : PlanParts) (number many k : ℕ) → slot_below p number many ≡ Some k → (k < many) × (job_at p k ≡ Some number)
found_below p number zero k q = absurd (none-some k q)
found_below p number (suc i) k q = go (found_below p number i k) (is_number number (job_at p i)) refl q
  where
    go : (slot_below p number i ≡ Some k → (k < i) × (job_at p k ≡ Some number)) → (b : Bool) → is_number number (job_at p i) ≡ b → cond b (Some i) (slot_below p number i) ≡ Some k → (k < suc i) × (job_at p k ≡ Some number)
    go below true e h = (let same : i ≡ k = same_Some i k h in (omega (arith, same), ap (job_at p) (sym same) ∙ is_job number (job_at p i) e))
    go below false e h = (let x = below h in let low = x.0 in (omega (arith, low), x.1))

pub slot_is : (p : PlanParts) (number k : ℕ) → slot_of p number ≡ Some k → (k < slot_count p) × (job_at p k ≡ Some number)
slot_is p number k q = found_below p number (slot_count p) k q

is_there : (number : ℕ) → is_number number (Some number) ≡ true
is_there number = eq-eqb number number refl

below_found : (p : PlanParts) → IsTree p.tree → (number many k : ℕ) → k < many → job_at p k ≡ Some number → slot_below p number many ≡ Some k
below_found p tree number zero k low at = absurd (omega (arith, low))
below_found p tree number (suc i) k low at = go (λ less. below_found p tree number i k less at) (is_number number (job_at p i)) refl
  where
    not_here : is_number number (job_at p k) ≡ false → ⊥
    not_here q = (let h : true ≡ false = sym (ap (is_number number) at ∙ is_there number) ∙ q in cc)

    go : (k < i → slot_below p number i ≡ Some k) → (b : Bool) → is_number number (job_at p i) ≡ b → cond b (Some i) (slot_below p number i) ≡ Some k
    go below true e = ap (λ (n : ℕ). Some n) (one_slot_each p tree i k number (is_job number (job_at p i) e) at)
    go below false e = below (let ne : k ≢ i = (λ same. not_here (ap (λ n. is_number number (job_at p n)) same ∙ e)) in omega (arith, low, ne))

pub slot_found : (p : PlanParts) → IsTree p.tree → (number k : ℕ) → k < slot_count p → job_at p k ≡ Some number → slot_of p number ≡ Some k
slot_found p tree number k low at = below_found p tree number (slot_count p) k low at

-- at no place is a slot yet
nothing_at : (n number : ℕ) → get_or (replicate {A = Option ℕ} n None) number None ≡ None
nothing_at zero number = refl
nothing_at (suc n) zero = refl
nothing_at (suc n) (suc number) = nothing_at n number

pub index_empty : (l : List (Option ℕ)) (n : ℕ) → l ≡ replicate n None → (length l ≡ n) × ((number : ℕ) → get_or l number None ≡ None)
index_empty l n is = (ap length is ∙ length-replicate n None, λ number. ap (λ (m : List (Option ℕ)). get_or m number None) is ∙ nothing_at n number)

-- the slots so far, each at the place of its job's number
module _ (p : PlanParts) (l : List (Option ℕ)) (i : ℕ) (so_far : (number : ℕ) → get_or l number None ≡ slot_below p number i) where
  one_below : (number : ℕ) (x : Option ℕ) → slot_below p number (suc i) ≡ x → slot_below p number (i + 1) ≡ x
  one_below number x = subst (λ (k : ℕ). slot_below p number k ≡ x) (let e : suc i ≡ i + 1 = omega arith in e)

  -- what slot i adds, by the number of its job
  with_job : (number : ℕ) (job : Option ℕ) → job_at p i ≡ job → slot_below p number (suc i) ≡ cond (is_number number job) (Some i) (slot_below p number i)
  with_job number job at = ap (λ o. cond (is_number number o) (Some i) (slot_below p number i)) at

  pub index_same : job_at p i ≡ None → (number : ℕ) → get_or l number None ≡ slot_below p number (i + 1)
  index_same none number = so_far number ∙ sym (one_below number (slot_below p number i) (with_job number None none))

  pub index_more : (job : ℕ) → job_at p i ≡ Some job → job < length l → (number : ℕ) → get_or (set l job (Some i)) number None ≡ slot_below p number (i + 1)
  index_more job at low number = dite (ℕ_discrete number job)
      (λ e. ap (λ (n : ℕ). get_or (set l job (Some i)) n None) e ∙ (get_or-set_same l job (Some i) None low
      ∙ sym (one_below number (Some i) (with_job number (Some number) (at ∙ ap (λ (n : ℕ). Some n) (sym e)) ∙ ap (λ (b : Bool). cond b (Some i) (slot_below p number i)) (is_there number)))))
      (λ ne. get_or-set_other l job number (Some i) None ne ∙ (so_far number
      ∙ sym (one_below number (slot_below p number i) (with_job number (Some job) at ∙ ap (λ (b : Bool). cond b (Some i) (slot_below p number i)) (ne_eqb job number (λ e. ne (sym e)))))))

-- one more number has its place
pub place_more : (p : PlanParts) (i old new : ℕ) → ((k number : ℕ) → k < i → job_at p k ≡ Some number → number < old) → old ≤ new → ((number : ℕ) → job_at p i ≡ Some number → number < new) → (k number : ℕ) → k < i + 1 → job_at p k ≡ Some number → number < new
place_more p i old new so_far more here k number low at = dite (ℕ_discrete k i) (λ e. here number (ap (job_at p) (sym e) ∙ at)) (λ ne. (let less = so_far k number (omega (arith, low, ne)) at in omega (arith, less, more)))

module _ {B : Type 0} where
  -- Slots with nothing in them.
  pub many_empty : (l : List (Slot B)) (n : ℕ) → l ≡ replicate n Empty → length l ≡ n
  many_empty l n is = ap length is ∙ length-replicate n Empty

  pub each_empty : (l : List (Slot B)) (n k : ℕ) → l ≡ replicate n Empty → k < n → get_elem? l k ≡ some Empty
  each_empty l n k is low = ap (λ (m : List (Slot B)). get_elem? m k) is ∙ at_index (replicate n Empty) k Empty (let long : length {A = Slot B} (replicate n Empty) ≡ n = length-replicate n Empty in omega (arith, low, long)) (sym (get_or-replicate n k Empty Empty low))

  bare_is : (slot : Slot B) → is_bare slot ≡ true → slot ≡ Empty
  bare_is Empty q = refl
  bare_is (Body job) q = absurd (let h : false ≡ true = q in cc)
  bare_is _ q = absurd (let h : false ≡ true = q in cc)

  pub empty_at : (l : List (Slot B)) (k : ℕ) (x : Slot B) → k < length l → x ≡ get_or l k x → is_bare x ≡ true → get_elem? l k ≡ some Empty
  empty_at l k x low is bare = at_index l k x low is ∙ ap (λ y. some y) (bare_is x bare)

  pub not_empty_at : (l : List (Slot B)) (k : ℕ) (x : Slot B) → k < length l → x ≡ get_or l k x → is_bare x ≡ false → get_elem? l k ≡ some Empty → ⊥
  not_empty_at l k x low is full e = (let h : true ≡ false = sym (ap is_bare (some-injective x Empty (sym (at_index l k x low is) ∙ e))) ∙ full in cc)

  pub not_past : (l : List (Slot B)) (k : ℕ) (x : Slot B) → length l ≤ k → get_elem? l k ≡ some x → ⊥
  not_past [] k x far e = absurd (some-ne-none x (sym e))
  not_past (y ∷ l) zero x far e = omega (arith, far)
  not_past (y ∷ l) (suc k) x far e = not_past l k x (omega (arith, far)) e

  -- One more job.
  pub first_counts : (before after : List (ℕ × B)) (number : ℕ) (job : B) → job_with before number ≡ Some job → job_with (before ++ after) number ≡ Some job
  first_counts [] after number job q = absurd (none-some job q)
  first_counts (x ∷ before) after number job q = go (first_counts before after number job) (x.0 == number) q
    where
      go : (job_with before number ≡ Some job → job_with (before ++ after) number ≡ Some job) → (b : Bool) → cond b (Some x.1) (job_with before number) ≡ Some job → cond b (Some x.1) (job_with (before ++ after) number) ≡ Some job
      go more true h = h
      go more false h = more h

  none_counts : (before after : List (ℕ × B)) (number : ℕ) → job_with before number ≡ None → job_with (before ++ after) number ≡ job_with after number
  none_counts [] after number q = refl
  none_counts (x ∷ before) after number q = go (none_counts before after number) (x.0 == number) q
    where
      go : (job_with before number ≡ None → job_with (before ++ after) number ≡ job_with after number) → (b : Bool) → cond b (Some x.1) (job_with before number) ≡ None → cond b (Some x.1) (job_with (before ++ after) number) ≡ job_with after number
      go more true h = absurd (none-some x.1 (sym h))
      go more false h = more h

  pub one_more : (before : List (ℕ × B)) (number : ℕ) (job : B) → job_with before number ≡ None → job_with (before ++ (number, job) ∷ []) number ≡ Some job
  one_more before number job q = none_counts before ((number, job) ∷ []) number q ∙ ap (λ (b : Bool). cond b (Some job) None) (eq-eqb number number refl)

  pub others_same : (before : List (ℕ × B)) (number other : ℕ) (job : B) → number ≢ other → job_with (before ++ (number, job) ∷ []) other ≡ job_with before other
  others_same before number other job ne = go (job_with before other) refl
    where
      go : (found : Option B) → job_with before other ≡ found → job_with (before ++ (number, job) ∷ []) other ≡ job_with before other
      go None e = none_counts before ((number, job) ∷ []) other e ∙ ap (λ (b : Bool). cond b (Some job) None) (ne_eqb number other ne) ∙ sym e
      go (Some x) e = first_counts before ((number, job) ∷ []) other x e ∙ sym e

  pub unused_more : (p : PlanParts) (front jobs : List (ℕ × B)) (job : ℕ × B) → unused_after p front (jobs ++ job ∷ []) ≡ unused_after p front jobs ++ cond (goes_in p (front ++ jobs) job.0) [] (job ∷ [])
  unused_more p front [] job = ap (λ (l : List (ℕ × B)). cond (goes_in p l job.0) [] (job ∷ [])) (sym (append-nil front))
  unused_more p front (x ∷ jobs) job = go (unused_more p (front ++ x ∷ []) jobs job ∙ ap (λ (l : List (ℕ × B)). rest ++ cond (goes_in p l job.0) [] (job ∷ [])) (append_assoc front (x ∷ []) jobs)) (goes_in p front x.0)
    where
      rest : List (ℕ × B)
      rest = unused_after p (front ++ x ∷ []) jobs

      last : List (ℕ × B)
      last = cond (goes_in p (front ++ x ∷ jobs) job.0) [] (job ∷ [])

      all : List (ℕ × B)
      all = unused_after p (front ++ x ∷ []) (jobs ++ job ∷ [])

      go : all ≡ rest ++ last → (b : Bool) → cond b all (x ∷ all) ≡ cond b rest (x ∷ rest) ++ last
      go more true = more
      go more false = ap (λ l. x ∷ l) more

  -- what stands in a slot that is empty, or is not
  pub no_job : (found : Option B) → slot_with found ≡ Empty → found ≡ None
  no_job None q = refl
  no_job (Some job) q = absurd (not_empty q)
    where
      not_empty : ◌≡◌ {A = Slot B} (Body job) Empty → ⊥
      not_empty h = cc

  pub other_slot : (p : PlanParts) → IsTree p.tree → (number j k : ℕ) (job : B) → job_at p k ≡ Some number → j ≢ k → (before : List (ℕ × B)) (o : Option ℕ) → job_at p j ≡ o → slot_for (before ++ (number, job) ∷ []) o ≡ slot_for before o
  other_slot p tree number j k job at ne before None e = refl
  other_slot p tree number j k job at ne before (Some other) e = ap slot_with (others_same before number other job (λ same. ne (one_slot_each p tree j k number (e ∙ ap (λ (n : ℕ). Some n) (sym same)) at)))

  -- a job whose slot is empty goes into it
  pub put_goes : (p : PlanParts) → IsTree p.tree → (number k : ℕ) (job : B) → slot_of p number ≡ Some k → (before : List (ℕ × B)) (slots : List (Slot B)) (unused : List (ℕ × B)) → get_elem? slots k ≡ some Empty
      → IsFilled p before slots unused → IsFilled p (before ++ (number, job) ∷ []) (set slots k (Body job)) unused
  put_goes p tree number k job is before slots unused empty filled = record {
    many = length-set slots k (Body job) ∙ filled.many;
    slots_are = each;
    unused_is = filled.unused_is ∙ (sym (append-nil (unused_after p [] before)) ∙ (ap (λ (b : Bool). unused_after p [] before ++ cond b [] ((number, job) ∷ [])) (sym goes) ∙ sym (unused_more p [] before (number, job))));
  }
    where
      at : job_at p k ≡ Some number
      at = (slot_is p number k is).1

      low : k < slot_count p
      low = (slot_is p number k is).0

      none : job_with before number ≡ None
      none = no_job (job_with before number) (some-injective _ Empty (sym (filled.slots_are k low ∙ ap (λ o. some (slot_for before o)) at) ∙ empty))

      goes : goes_in p before number ≡ true
      goes = λ i. is_some (is i) && not (is_some (none i))

      each : (j : ℕ) → j < slot_count p → get_elem? (set slots k (Body job)) j ≡ some (slot_for (before ++ (number, job) ∷ []) (job_at p j))
      each j inside = dite (ℕ_discrete j k)
          (λ e. (ap (get_elem? (set slots k (Body job))) e ∙ set_here slots k (Body job) (let long = filled.many in omega (arith, long, low))) ∙ (ap (λ o. some (slot_with o)) (sym (one_more before number job none)) ∙ ap (λ o. some (slot_for (before ++ (number, job) ∷ []) o)) (sym (ap (job_at p) e ∙ at))))
          (λ ne. set_else slots k j (Body job) ne ∙ (filled.slots_are j inside ∙ ap (λ x. some x) (sym (other_slot p tree number j k job at ne before (job_at p j) refl))))

  -- one that has no slot, or whose slot is not empty, is unused
  pub put_stays : (p : PlanParts) → IsTree p.tree → (number : ℕ) (job : B) (before : List (ℕ × B)) (slots : List (Slot B)) (unused : List (ℕ × B)) → ((k : ℕ) → slot_of p number ≡ Some k → get_elem? slots k ≡ some Empty → ⊥)
      → IsFilled p before slots unused → IsFilled p (before ++ (number, job) ∷ []) slots (unused ++ (number, job) ∷ [])
  put_stays p tree number job before slots unused full filled = record {
    many = filled.many;
    slots_are = λ j inside. filled.slots_are j inside ∙ ap (λ x. some x) (sym (same j inside (job_at p j) refl));
    unused_is = ap (λ l. l ++ (number, job) ∷ []) filled.unused_is ∙ (ap (λ (b : Bool). unused_after p [] before ++ cond b [] ((number, job) ∷ [])) (sym (stays (slot_of p number) refl)) ∙ sym (unused_more p [] before (number, job)));
  }
    where
      there : (k : ℕ) → slot_of p number ≡ Some k → (found : Option B) → job_with before number ≡ found → (job_with before number ≡ None → ⊥)
      there k is found e none = full k is (filled.slots_are k (slot_is p number k is).0 ∙ ap (λ o. some (slot_for before o)) (slot_is p number k is).1 ∙ ap (λ o. some (slot_with o)) none)

      stays : (found : Option ℕ) → slot_of p number ≡ found → goes_in p before number ≡ false
      stays None e = ap (λ (o : Option ℕ). is_some o && not (is_some (job_with before number))) e
      stays (Some k) e = by (job_with before number) refl
        where
          by : (found : Option B) → job_with before number ≡ found → goes_in p before number ≡ false
          by None q = absurd (there k e None q q)
          by (Some x) q = λ i. is_some (e i) && not (is_some (q i))

      same : (j : ℕ) → j < slot_count p → (o : Option ℕ) → job_at p j ≡ o → slot_for (before ++ (number, job) ∷ []) o ≡ slot_for before o
      same j inside None e = refl
      same j inside (Some other) e = dite (ℕ_discrete number other)
          (λ q. by q (job_with before number) refl)
          (λ ne. ap slot_with (others_same before number other job ne))
        where
          by : number ≡ other → (found : Option B) → job_with before number ≡ found → slot_for (before ++ (number, job) ∷ []) (Some other) ≡ slot_for before (Some other)
          by q None h = absurd (there j (slot_found p tree number j inside (e ∙ ap (λ (n : ℕ). Some n) (sym q))) None h h)
          by q (Some x) h = (let was : job_with before other ≡ Some x = ap (job_with before) (sym q) ∙ h in ap slot_with (first_counts before ((number, job) ∷ []) other x was ∙ sym was))

  -- The least number of a slot that is empty.
  module _ (p : PlanParts) (slots : List (Slot B)) where
    pub none_bare : IsLeastBare p slots 0 None
    none_bare number bare = (let low = bare.inside in absurd (omega (arith, low)))

    bare_before : (i number : ℕ) → IsBare p slots (i + 1) number → (IsBare p slots i number) ⊎ ((job_at p i ≡ Some number) × (get_elem? slots i ≡ some Empty))
    bare_before i number bare = dite (ℕ_discrete bare.slot i)
        (λ e. inr (ap (job_at p) (sym e) ∙ bare.is, ap (get_elem? slots) (sym e) ∙ bare.empty))
        (λ ne. inl (record { slot = bare.slot; inside = (let low = bare.inside in omega (arith, low, ne)); is = bare.is; empty = bare.empty }))

    bare_after : (i number : ℕ) → IsBare p slots i number → IsBare p slots (i + 1) number
    bare_after i number bare = record { slot = bare.slot; inside = (let low = bare.inside in omega (arith, low)); is = bare.is; empty = bare.empty }

    pub least_same : (i : ℕ) (least : Option ℕ) → IsLeastBare p slots i least → ((number : ℕ) → job_at p i ≡ Some number → get_elem? slots i ≡ some Empty → ⊥) → IsLeastBare p slots (i + 1) least
    least_same i None none full = λ number bare. elim (bare_before i number bare) [ inl x ↦ none number x | inr x ↦ full number x.0 x.1 ]
    least_same i (Some n) least full = (bare_after i n least.0, λ other bare. elim (bare_before i other bare) [ inl x ↦ least.1 other x | inr x ↦ absurd (full other x.0 x.1) ])

    pub least_more : (i number result : ℕ) (least : Option ℕ) → IsLeastBare p slots i least → job_at p i ≡ Some number → get_elem? slots i ≡ some Empty
        → ((n : ℕ) → least ≡ Some n → (result ≤ n) × (result ≤ number) × ((result ≡ n) ⊎ (result ≡ number))) → (least ≡ None → result ≡ number) → IsLeastBare p slots (i + 1) (Some result)
    least_more i number result None none at empty some_is none_is =
        let same : result ≡ number = none_is refl in (
          record { slot = i; inside = omega arith; is = at ∙ ap (λ (n : ℕ). Some n) (sym same); empty = empty },
          λ other bare. elim (bare_before i other bare) [ inl x ↦ absurd (none other x) | inr x ↦ (let e : number ≡ other = same_Some number other (sym at ∙ x.0) in omega (arith, same, e)) ],
        )
    least_more i number result (Some n) least at empty some_is none_is =
        let is = some_is n refl in let small = is.0 in let low = is.1 in (
          elim is.2 [ inl x ↦ subst (IsBare p slots (i + 1)) (sym x) (bare_after i n least.0) | inr x ↦ record { slot = i; inside = omega arith; is = at ∙ ap (λ (m : ℕ). Some m) (sym x); empty = empty } ],
          λ other bare. elim (bare_before i other bare) [ inl x ↦ (let more = least.1 other x in omega (arith, small, more)) | inr x ↦ (let e : number ≡ other = same_Some number other (sym at ∙ x.0) in omega (arith, low, e)) ],
        )

  -- The jobs in slots.
  pub jobs_more : (p : PlanParts) (k : ℕ) (slots : List (Slot B)) (slot : Slot B) → jobs_from p k (slots ++ slot ∷ []) ≡ jobs_from p k slots ++ job_in (job_at p (k + length slots)) slot
  jobs_more p k [] slot = append-nil (job_in (job_at p k) slot) ∙ ap (λ (i : ℕ). job_in (job_at p i) slot) (let e : k ≡ k + 0 = omega arith in e)
  jobs_more p k (x ∷ slots) slot =
      ap (λ l. job_in (job_at p k) x ++ l) (jobs_more p (suc k) slots slot ∙ ap (λ (i : ℕ). jobs_from p (suc k) slots ++ job_in (job_at p i) slot) (let e : suc k + length slots ≡ k + suc (length slots) = omega arith in e))
      ∙ sym (append_assoc (job_in (job_at p k) x) (jobs_from p (suc k) slots) (job_in (job_at p (k + suc (length slots))) slot))

  pub jobs_first : (p : PlanParts) (slots : List (Slot B)) (slot : Slot B) → jobs_from p 0 (slots ++ slot ∷ []) ≡ jobs_from p 0 slots ++ job_in (job_at p (length slots)) slot
  jobs_first p slots slot = jobs_more p 0 slots slot ∙ ap (λ (i : ℕ). jobs_from p 0 slots ++ job_in (job_at p i) slot) (let e : 0 + length slots ≡ length slots = omega arith in e)

  -- with one more slot taken out of a row
  pub one_taken : (slots : List (Slot B)) (i : ℕ) (slot : Slot B) → get_elem? slots i ≡ some slot → take (suc i) slots ≡ take i slots ++ slot ∷ []
  one_taken [] i slot q = absurd (some-ne-none slot (sym q))
  one_taken (x ∷ slots) zero slot q = ap (λ y. y ∷ []) (some-injective x slot q)
  one_taken (x ∷ slots) (suc i) slot q = ap (λ l. x ∷ l) (one_taken slots i slot q)

  pub so_many : (slots : List (Slot B)) (i : ℕ) (slot : Slot B) → get_elem? slots i ≡ some slot → length (take i slots) ≡ i
  so_many [] i slot q = absurd (some-ne-none slot (sym q))
  so_many (x ∷ slots) zero slot q = refl
  so_many (x ∷ slots) (suc i) slot q = ap suc (so_many slots i slot q)

  pub jobs_taken : (p : PlanParts) (slots : List (Slot B)) (i : ℕ) (slot : Slot B) → get_elem? slots i ≡ some slot → jobs_from p 0 (take (i + 1) slots) ≡ jobs_from p 0 (take i slots) ++ job_in (job_at p i) slot
  jobs_taken p slots i slot q =
      ap (λ (n : ℕ). jobs_from p 0 (take n slots)) (let e : i + 1 ≡ suc i = omega arith in e)
      ∙ (ap (jobs_from p 0) (one_taken slots i slot q) ∙ (jobs_first p (take i slots) slot ∙ ap (λ (n : ℕ). jobs_from p 0 (take i slots) ++ job_in (job_at p n) slot) (so_many slots i slot q)))
