-- Trees of which each body has a job, and jobs that were not run: with one more node, or one more after-body.
use Rattle.std.proofs.Common.{◌≡◌, ◌∙◌, ℕ, zero, suc, ◌+◌, ◌<◌, ◌==◌, cond, Bool, true, false, not, ◌&&◌, List, [], ◌∷◌, ◌++◌, length, map, take, drop, set, get_or, Option, Some, None, option_map, slice_get, refl, sym, ap, ap₂, subst, arith, inl, inr, eq-eqb}
use Rattle.std.specs.Prelude.{◌⊎◌, slice_index_or}
use Rattle.std.specs.Option.{is_some}
use Rattle.std.proofs.lemmas.Bool.{cases_lt, false≢true}
use Rattle.std.proofs.lemmas.List.Edits.{map_over_more}
use Rattle.std.proofs.lemmas.Option.{none-some, same_Some, slice_get_past}
use Rattle.descriptor.specs.Bodies.{given_after_at, with_after}
use Rattle.descriptor.specs.Nodes.{Nodes, IsChild, IsTree, size, body_or, after_or, appended, role_or, locks_or, is_spare_at, is_factory_at, locks_of}
use Rattle.descriptor.specs.Roles.{is_spare, is_factory}
use Rattle.descriptor.specs.declared.node.Node.{Node}
use Rattle.descriptor.proofs.AfterBodies.{told_as_before}
use Rattle.resource_locks.specs.Spares.{HasBareSpares}
use Rattle.suite_words.proofs.Lists.{get_before, get_last}
use Rattle.table_rule.specs.Slots.{job_with}
use Rattle.test_tree.specs.declared.sort.Sort.{Sort}
use Rattle.test_tree.specs.Growing.{Built, grown, job_of, next_node, changed}
use Rattle.test_tree.specs.Jobs.{HasJobs, are_fresh, is_fresh_or_none}

pub first_true : (a b : Bool) → (a && b) ≡ true → a ≡ true
first_true true b q = refl
first_true false b q = q

pub second_true : (a b : Bool) → (a && b) ≡ true → b ≡ true
second_true true b q = q
second_true false b q = absurd (false≢true q)

pub not_true : (a : Bool) → not a ≡ true → a ≡ false
not_true true q = absurd (false≢true q)
not_true false q = refl

-- a node of one more is one of before, or the new one, which stands last
last_or : (xs : List Node) (x : Node) (i : ℕ) → (slice_get (xs ++ x ∷ []) i ≡ slice_get xs i) ⊎ ((slice_get (xs ++ x ∷ []) i ≡ Some x) × (i ≡ length xs))
last_or [] x zero = inr (refl, refl)
last_or [] x (suc i) = inl refl
last_or (y ∷ more) x zero = inl refl
last_or (y ∷ more) x (suc i) = elim (last_or more x i) [ inl e ↦ inl e | inr e ↦ inr (e.0, ap suc e.1) ]

-- the nodes of a tree in which one was given an after-body
given : (b i : ℕ) (nodes : List Node) (n number : ℕ) → (body_or (slice_get (given_after_at b i nodes) n) ≡ Some number) ⊎ (after_or (slice_get (given_after_at b i nodes) n) ≡ Some number)
    → ((body_or (slice_get nodes n) ≡ Some number) ⊎ (after_or (slice_get nodes n) ≡ Some number)) ⊎ (number ≡ b)
given b i [] n number is = inl is
given b zero (x ∷ nodes) zero number is = elim is [ inl q ↦ inl (inl q) | inr q ↦ inr (sym (same_Some b number q)) ]
given b zero (x ∷ nodes) (suc n) number is = inl is
given b (suc i) (x ∷ nodes) zero number is = inl is
given b (suc i) (x ∷ nodes) (suc n) number is = given b i nodes n number is

module _ {B : Type 0} where
  -- a job that is there stays there
  still : (jobs more : List (ℕ × B)) (number : ℕ) → is_some (job_with jobs number) ≡ true → is_some (job_with (jobs ++ more) number) ≡ true
  still [] more number is = absurd (false≢true is)
  still (y ∷ jobs) more number is = go (y.0 == number) (still jobs more number) is
    where
      go : (b : Bool) → (is_some (job_with jobs number) ≡ true → is_some (job_with (jobs ++ more) number) ≡ true) → is_some (cond b (Some y.1) (job_with jobs number)) ≡ true → is_some (cond b (Some y.1) (job_with (jobs ++ more) number)) ≡ true
      go true rest h = h
      go false rest h = rest h

  now : (jobs : List (ℕ × B)) (number : ℕ) (body : B) → is_some (job_with (jobs ++ (number, body) ∷ []) number) ≡ true
  now [] number body = ap (λ (b : Bool). is_some (cond b (Some body) None)) (eq-eqb number number refl)
  now (y ∷ jobs) number body = go (y.0 == number) (now jobs number body)
    where
      go : (b : Bool) → is_some (job_with (jobs ++ (number, body) ∷ []) number) ≡ true → is_some (cond b (Some y.1) (job_with (jobs ++ (number, body) ∷ []) number)) ≡ true
      go true rest = refl
      go false rest = rest

  -- the job of a body's number
  owned : (jobs : List (ℕ × B)) (n : ℕ) (body : Option B) (number : ℕ) → option_map (λ _. n) body ≡ Some number → is_some (job_with (jobs ++ job_of n body) number) ≡ true
  owned jobs n None number is = absurd (none-some number is)
  owned jobs n (Some body) number is = subst (λ (k : ℕ). is_some (job_with (jobs ++ (n, body) ∷ []) k) ≡ true) (same_Some n number is) (now jobs n body)

  -- with one more node
  pub has_grown : (b : Built B) (a : ℕ) (sort : Sort) (name : List ℕ) → HasJobs b.tree b.jobs → HasJobs (grown b a sort name).tree (grown b a sort name).jobs
  has_grown b a sort name has zero number is = elim is [ inl q ↦ absurd (none-some number q) | inr q ↦ absurd (none-some number q) ]
  has_grown b a sort name has (suc n) number is = elim (last_or b.tree.nodes (next_node b a sort name) n) [
    | inl e ↦ still b.jobs (job_of (size b.tree) b.body) number (has (suc n) number (elim is [ inl q ↦ inl (sym (ap body_or e) ∙ q) | inr q ↦ inr (sym (ap after_or e) ∙ q) ]))
    | inr e ↦ elim is [
      | inl q ↦ owned b.jobs (size b.tree) b.body number (sym (ap body_or e.0) ∙ q)
      | inr q ↦ absurd (none-some number (sym (ap after_or e.0) ∙ q))
    ]
  ]

  -- with one more after-body
  pub has_after : (t : Nodes) (node b : ℕ) (jobs : List (ℕ × B)) (job : B) → HasJobs t jobs → HasJobs (with_after t node b) (jobs ++ (b, job) ∷ [])
  has_after t zero b jobs job has n number is = still jobs ((b, job) ∷ []) number (has n number is)
  has_after t (suc i) b jobs job has zero number is = elim is [ inl q ↦ absurd (none-some number q) | inr q ↦ absurd (none-some number q) ]
  has_after t (suc i) b jobs job has (suc n) number is = elim (given b i t.nodes n number is) [
    | inl old ↦ still jobs ((b, job) ∷ []) number (has (suc n) number old)
    | inr new ↦ subst (λ (k : ℕ). is_some (job_with (jobs ++ (b, job) ∷ []) k) ≡ true) (sym new) (now jobs b job)
  ]

  -- where jobs were changed
  same_there : (change : B → B) (k : ℕ) (jobs : List (ℕ × B)) (number : ℕ) → is_some (job_with (changed change k jobs) number) ≡ is_some (job_with jobs number)
  same_there change k [] number = refl
  same_there change k (y ∷ jobs) number = go (y.0 == k) (y.0 == number) (same_there change k jobs number)
    where
      go : (b c : Bool) → is_some (job_with (changed change k jobs) number) ≡ is_some (job_with jobs number)
          → is_some (cond ((cond b (y.0, change y.1) y).0 == number) (Some (cond b (y.0, change y.1) y).1) (job_with (changed change k jobs) number)) ≡ is_some (cond (y.0 == number) (Some y.1) (job_with jobs number))
      go true c rest = either (y.0 == number) rest
        where
          either : (d : Bool) → is_some (job_with (changed change k jobs) number) ≡ is_some (job_with jobs number) → is_some (cond d (Some (change y.1)) (job_with (changed change k jobs) number)) ≡ is_some (cond d (Some y.1) (job_with jobs number))
          either true rest = refl
          either false rest = rest
      go false c rest = either (y.0 == number) rest
        where
          either : (d : Bool) → is_some (job_with (changed change k jobs) number) ≡ is_some (job_with jobs number) → is_some (cond d (Some y.1) (job_with (changed change k jobs) number)) ≡ is_some (cond d (Some y.1) (job_with jobs number))
          either true rest = refl
          either false rest = rest

  pub has_changed : (change : B → B) (k : ℕ) (t : Nodes) (jobs : List (ℕ × B)) → HasJobs t jobs → HasJobs t (changed change k jobs)
  has_changed change k t jobs has n number is = same_there change k jobs number ∙ has n number is

  -- none was run
  fresh_append : (is_spent : B → Bool) (jobs more : List (ℕ × B)) → are_fresh is_spent jobs ≡ true → are_fresh is_spent more ≡ true → are_fresh is_spent (jobs ++ more) ≡ true
  fresh_append is_spent [] more each last = last
  fresh_append is_spent (y ∷ jobs) more each last = ap₂ (λ (a b : Bool). a && b) (first_true (not (is_spent y.1)) (are_fresh is_spent jobs) each) (fresh_append is_spent jobs more (second_true (not (is_spent y.1)) (are_fresh is_spent jobs) each) last)

  fresh_of : (is_spent : B → Bool) (n : ℕ) (body : Option B) → is_fresh_or_none is_spent body ≡ true → are_fresh is_spent (job_of n body) ≡ true
  fresh_of is_spent n None is = refl
  fresh_of is_spent n (Some body) is = ap (λ (a : Bool). a && true) is

  pub fresh_grown : (is_spent : B → Bool) (b : Built B) (a : ℕ) (sort : Sort) (name : List ℕ) → are_fresh is_spent b.jobs ≡ true → is_fresh_or_none is_spent b.body ≡ true → are_fresh is_spent (grown b a sort name).jobs ≡ true
  fresh_grown is_spent b a sort name each is = fresh_append is_spent b.jobs (job_of (size b.tree) b.body) each (fresh_of is_spent (size b.tree) b.body is)

  pub fresh_more : (is_spent : B → Bool) (jobs : List (ℕ × B)) (number : ℕ) (job : B) → are_fresh is_spent jobs ≡ true → is_spent job ≡ false → are_fresh is_spent (jobs ++ (number, job) ∷ []) ≡ true
  fresh_more is_spent jobs number job each is = fresh_append is_spent jobs ((number, job) ∷ []) each (ap (λ (a : Bool). not a && true) is)

  pub fresh_changed : (is_spent : B → Bool) (change : B → B) → ((job : B) → is_spent (change job) ≡ is_spent job) → (k : ℕ) (jobs : List (ℕ × B)) → are_fresh is_spent jobs ≡ true → are_fresh is_spent (changed change k jobs) ≡ true
  fresh_changed is_spent change same k [] each = refl
  fresh_changed is_spent change same k (y ∷ jobs) each = go (y.0 == k) (fresh_changed is_spent change same k jobs (second_true (not (is_spent y.1)) (are_fresh is_spent jobs) each))
    where
      go : (b : Bool) → are_fresh is_spent (changed change k jobs) ≡ true → (not (is_spent (cond b (y.0, change y.1) y).1) && are_fresh is_spent (changed change k jobs)) ≡ true
      go true rest = ap₂ (λ (a b : Bool). not a && b) (same y.1) rest ∙ ap (λ (a : Bool). a && true) (first_true (not (is_spent y.1)) (are_fresh is_spent jobs) each)
      go false rest = ap₂ (λ (a b : Bool). a && b) (first_true (not (is_spent y.1)) (are_fresh is_spent jobs) each) rest

module _ {B : Type 0} (is_spent : B → Bool) (change : B → B) (same : (job : B) → is_spent (change job) ≡ is_spent job) (k : ℕ) where
  -- where some of the first were changed
  fresh_part : (i : ℕ) (jobs : List (ℕ × B)) → are_fresh is_spent jobs ≡ true → are_fresh is_spent (changed change k (take i jobs) ++ drop i jobs) ≡ true
  fresh_part zero jobs each = each
  fresh_part (suc i) [] each = refl
  fresh_part (suc i) (y ∷ jobs) each = go (y.0 == k) (fresh_part i jobs (second_true (not (is_spent y.1)) (are_fresh is_spent jobs) each))
    where
      front : not (is_spent y.1) ≡ true
      front = first_true (not (is_spent y.1)) (are_fresh is_spent jobs) each

      go : (b : Bool) → are_fresh is_spent (changed change k (take i jobs) ++ drop i jobs) ≡ true → (not (is_spent (cond b (y.0, change y.1) y).1) && are_fresh is_spent (changed change k (take i jobs) ++ drop i jobs)) ≡ true
      go true rest = ap₂ (λ (a b : Bool). not a && b) (same y.1) rest ∙ ap (λ (a : Bool). a && true) front
      go false rest = ap₂ (λ (a b : Bool). a && b) front rest

  fresh_at : (jobs : List (ℕ × B)) (i : ℕ) (x default : ℕ × B) → are_fresh is_spent jobs ≡ true → i < length jobs → x ≡ get_or jobs i default → is_spent x.1 ≡ false
  fresh_at [] i x default each inside is = absurd (omega (arith, inside))
  fresh_at (y ∷ jobs) zero x default each inside is = ap (λ (z : ℕ × B). is_spent z.1) is ∙ not_true (is_spent y.1) (first_true (not (is_spent y.1)) (are_fresh is_spent jobs) each)
  fresh_at (y ∷ jobs) (suc i) x default each inside is = fresh_at jobs i x default (second_true (not (is_spent y.1)) (are_fresh is_spent jobs) each) (omega (arith, inside)) is

  pub fresh_next : (old jobs : List (ℕ × B)) (i : ℕ) (x default : ℕ × B) → jobs ≡ changed change k (take i old) ++ drop i old → are_fresh is_spent old ≡ true → i < length jobs → x ≡ get_or jobs i default → is_spent x.1 ≡ false
  fresh_next old jobs i x default so each inside is = fresh_at jobs i x default (subst (λ (js : List (ℕ × B)). are_fresh is_spent js ≡ true) (sym so) (fresh_part i old each)) inside is

module _ {A : Type 0} where
  -- what stands there stands there whatever stands past the end
  there : (xs : List A) (i : ℕ) (x default : A) → i < length xs → x ≡ get_or xs i default → x ≡ get_or xs i x
  there [] i x default inside is = absurd (omega (arith, inside))
  there (y ∷ xs) zero x default inside is = is
  there (y ∷ xs) (suc i) x default inside is = there xs i x default (omega (arith, inside)) is

  -- one more was changed
  pub map_further : (f : A → A) (old xs : List A) (i : ℕ) (x default new : A) → i < length old → i < length xs → xs ≡ map f (take i old) ++ drop i old → x ≡ get_or xs i default → new ≡ f x → set xs i new ≡ map f (take (i + 1) old) ++ drop (i + 1) old
  map_further f old xs i x default new inside within so is changed = ap (set xs i) changed ∙ map_over_more f old xs i x inside so (there xs i x default within is)

-- no spare declares a lock, and no engine is a factory
module _ (t : Nodes) (a : ℕ) (node : Node) (tree : IsTree t) (bare : HasBareSpares t) where
  appended_locks : (is_spare node.role ≡ true → node.locks ≡ []) → (n : ℕ) → is_spare_at (appended t a node) n ≡ true → locks_of (appended t a node) n ≡ []
  appended_locks new zero spare = absurd (false≢true spare)
  appended_locks new (suc i) spare = elim (last_or t.nodes node i) [
    | inl e ↦ ap locks_or e ∙ bare.locks (suc i) (sym (ap (λ o. is_spare (role_or o)) e) ∙ spare)
    | inr e ↦ ap locks_or e.0 ∙ new (sym (ap (λ o. is_spare (role_or o)) e.0) ∙ spare)
  ]

  appended_engines : (a ≡ 0 → is_factory node.role ≡ false) → (e : ℕ) → IsChild (appended t a node) 0 e → is_factory_at (appended t a node) e ≡ false
  appended_engines new zero child = refl
  appended_engines new (suc i) child = elim (last_or t.nodes node i) [
    | inl e ↦ ap (λ o. is_factory (role_or o)) e ∙ old
    | inr e ↦ ap (λ o. is_factory (role_or o)) e.0 ∙ new (last (let n = e.1 in let many = tree.nodes_len in omega (arith, n, many)))
  ]
    where
      last : suc i ≡ length t.parents → a ≡ 0
      last same = sym (get_last t.parents a) ∙ ap (λ k. slice_index_or (t.parents ++ a ∷ []) k 0) (sym same) ∙ child.parent

      old : is_factory_at t (suc i) ≡ false
      old = elim (cases_lt (suc i) (size t)) [
        | inl inside ↦ bare.engines (suc i) (record { above_zero = omega arith; inside = inside; parent = sym (get_before t.parents a (suc i) inside) ∙ child.parent })
        | inr past ↦ ap (λ o. is_factory (role_or o)) (slice_get_past t.nodes i (let many = tree.nodes_len in omega (arith, past, many)))
      ]

  pub bare_appended : (is_spare node.role ≡ true → node.locks ≡ []) → (a ≡ 0 → is_factory node.role ≡ false) → HasBareSpares (appended t a node)
  bare_appended locks engine = record { locks = appended_locks locks; engines = appended_engines engine }

pub bare_after : (t : Nodes) (n b : ℕ) → HasBareSpares t → HasBareSpares (with_after t n b)
bare_after t zero b bare = bare
bare_after t (suc i) b bare = record {
  locks = λ m spare. told_as_before locks_or t (suc i) b (λ x. refl) m ∙ bare.locks m (sym (told_as_before (λ o. is_spare (role_or o)) t (suc i) b (λ x. refl) m) ∙ spare);
  engines = λ e child. told_as_before (λ o. is_factory (role_or o)) t (suc i) b (λ x. refl) e ∙ bare.engines e (record { above_zero = child.above_zero; inside = child.inside; parent = child.parent });
}
