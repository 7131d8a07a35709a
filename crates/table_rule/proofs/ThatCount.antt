-- Which of the replies that a body may give count.
use Rattle.std.proofs.Common.{◌≡◌, ℕ, zero, suc, ◌<◌, ◌&&◌, nat_lt, not, cond, Bool, true, false, List, [], ◌∷◌, Some, slice_get, eq-eqb, lt-ltb, refl, sym, ap, ◌∙◌}
use Rattle.std.proofs.lemmas.Option.{none-some, same_Some}
use Rattle.std.specs.List.{filter}
use Rattle.descriptor.specs.Bodies.{is_body}
use Rattle.descriptor.specs.Nodes.{size, body_of, count_below, is_factory_at}
use Rattle.plan_events.specs.Jobs.{has_pulls, unpulled}
use Rattle.plan_events.specs.declared.outcome.Reply.{Reply}
use Rattle.resource_locks.specs.Plans.{PlanParts}
use Rattle.scheduling.proofs.Basics.{count_some}
use Rattle.table_rule.specs.declared.view.About.{About}
use Rattle.table_rule.specs.Picture.{AreAmong, is_factory_body, that_count, replies_in, replies_of}

-- what is kept of a list stands in it, and passes
kept_by : (q : Reply → Bool) (x : Reply) (xs : List Reply) (r : Reply) → ((i : ℕ) → slice_get (filter q xs) i ≡ Some r → (j : ℕ) × (slice_get xs j ≡ Some r) × (q r ≡ true)) → (b : Bool) → q x ≡ b → (i : ℕ) → slice_get (cond b (x ∷ filter q xs) (filter q xs)) i ≡ Some r
    → (j : ℕ) × (slice_get (x ∷ xs) j ≡ Some r) × (q r ≡ true)
kept_by q x xs r rest true t zero e = (0, e, ap q (sym (same_Some x r e)) ∙ t)
kept_by q x xs r rest true t (suc i) e = (let h = rest i e in (suc h.0, h.1, h.2))
kept_by q x xs r rest false t i e = (let h = rest i e in (suc h.0, h.1, h.2))

pub kept : (q : Reply → Bool) (xs : List Reply) (i : ℕ) (r : Reply) → slice_get (filter q xs) i ≡ Some r → (j : ℕ) × (slice_get xs j ≡ Some r) × (q r ≡ true)
kept q [] i r e = absurd (none-some r e)
kept q (x ∷ xs) i r e = kept_by q x xs r (λ k. kept q xs k r) (q x) refl i e

-- and what stands in it and passes is kept
stays : (q : Reply → Bool) (xs : List Reply) (j : ℕ) (r : Reply) → slice_get xs j ≡ Some r → q r ≡ true → (i : ℕ) × (slice_get (filter q xs) i ≡ Some r)
stays q [] j r e t = absurd (none-some r e)
stays q (x ∷ xs) zero r e t = (0, ap (λ b. slice_get (cond b (x ∷ filter q xs) (filter q xs)) 0) (ap q (same_Some x r e) ∙ t) ∙ e)
stays q (x ∷ xs) (suc j) r e t = by (q x) (stays q xs j r e t)
  where
    by : (b : Bool) → (i : ℕ) × (slice_get (filter q xs) i ≡ Some r) → (i : ℕ) × (slice_get (cond b (x ∷ filter q xs) (filter q xs)) i ≡ Some r)
    by true h = (suc h.0, h.1)
    by false h = h

no_pulls : (reply : Reply) → reply.pulls ≡ 0 → not (has_pulls reply) ≡ true
no_pulls reply none = ap (λ m. not (nat_lt 0 m)) none

module _ (p : PlanParts) (body : ℕ) (replies : List Reply) where
  -- a reply that counts is one that the body may give
  count_among : (i : ℕ) (reply : Reply) → slice_get (that_count p body replies) i ≡ Some reply → (j : ℕ) × (slice_get replies j ≡ Some reply)
  count_among i reply = by (is_factory_body p body)
    where
      by : (b : Bool) → slice_get (cond b replies (unpulled replies)) i ≡ Some reply → (j : ℕ) × (slice_get replies j ≡ Some reply)
      by true e = (i, e)
      by false e = (let h = kept (λ r. not (has_pulls r)) replies i reply e in (h.0, h.1))

  -- one without pulls does
  pub unpulled_counts : (j : ℕ) (reply : Reply) → slice_get replies j ≡ Some reply → reply.pulls ≡ 0 → (i : ℕ) × (slice_get (that_count p body replies) i ≡ Some reply)
  unpulled_counts j reply e none = by (is_factory_body p body)
    where
      by : (b : Bool) → (i : ℕ) × (slice_get (cond b replies (unpulled replies)) i ≡ Some reply)
      by true = (j, e)
      by false = stays (λ r. not (has_pulls r)) replies j reply e (no_pulls reply none)

  -- and of a factory's body each
  pub factory_counts : (n : ℕ) → n < size p.tree → is_factory_at p.tree n ≡ true → body_of p.tree n ≡ Some body → that_count p body replies ≡ replies
  factory_counts n low factory is =
      let here : (is_factory_at p.tree n && is_body body (body_of p.tree n)) ≡ true = (λ i. factory i && is_body body (is i)) ∙ eq-eqb body body refl in
      let some = count_some (λ m. is_factory_at p.tree m && is_body body (body_of p.tree m)) (size p.tree) n low here in
      ap (λ b. cond b replies (unpulled replies)) (lt-ltb 0 (count_below (λ m. is_factory_at p.tree m && is_body body (body_of p.tree m)) (size p.tree)) some)

-- So those of a body that count are among those that its job may give.
pub counted_among : {B : Type 0} (answers : B → List Reply) (key : About B) → AreAmong (replies_of answers key) (replies_in answers key.jobs)
counted_among answers key number i reply e = count_among key.plan number (replies_in answers key.jobs number) i reply e
