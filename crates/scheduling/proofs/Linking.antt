-- Links from one number on are those from the number before, with that one put before them.
use Rattle.std.proofs.Common.{◌≡◌, ◌≢◌, ℕ, suc, ◌-◌, ◌<◌, ◌≤◌, replicate, Bool, true, false, ◌==◌, ltb, cond, List, length, Option, Some, None, get_or, set, refl, sym, ap, ◌∙◌, arith, inl, inr, subst}
use Rattle.std.proofs.lemmas.Bool.{and_from, and_left, and_right, cases_eq, cond-true, cond-false, eq-eqb, ne_eqb, lt-ltb, le-ltb}
use Rattle.std.proofs.lemmas.List.{get_or-set_same, get_or-set_other, get_or-replicate, length-set, length-replicate}
use Rattle.descriptor.specs.Nodes.{Nodes, size, parent_of, is_child}
use Rattle.scheduling.specs.declared.links.Links.{Links}
use Rattle.scheduling.specs.Choices.{find, first_from}
use Rattle.scheduling.specs.LinkLists.{IsLinked, IsLinkedFrom, chosen_child}
use Rattle.scheduling.proofs.Finding.{first_agree, first_next}

-- where a number passes, or does not, it is the first one, or the first one is later
first_pass : (q : ℕ → Bool) (k size : ℕ) → k < size → q k ≡ true → first_from q k size ≡ Some k
first_pass q k size less e = first_next q k size less ∙ cond-true (q k) (Some k) (first_from q (suc k) size) e

first_fail : (q : ℕ → Bool) (k size : ℕ) → k < size → q k ≡ false → first_from q k size ≡ first_from q (suc k) size
first_fail q k size less e = first_next q k size less ∙ cond-false (q k) (Some k) (first_from q (suc k) size) e

-- where no node is linked yet
pub no_links : (t : Nodes) (q : ℕ → ℕ → Bool) (n : ℕ) (l : Links) → n ≡ size t → l.first.items ≡ replicate n None → l.next.items ≡ replicate n None → IsLinkedFrom t q n l
no_links t q n l all first next = record {
  first_len = ap (λ (v : List (Option ℕ)). length v) first ∙ length-replicate n None ∙ all;
  next_len = ap (λ (v : List (Option ℕ)). length v) next ∙ length-replicate n None ∙ all;
  first = λ k less. ap (λ (v : List (Option ℕ)). get_or v k None) first ∙ get_or-replicate n k None None (omega (arith, all, less)) ∙ sym (ap (find (q k) n) (let none : size t - n ≡ 0 = omega (arith, all) in none));
  next = λ c low high from. absurd (omega (arith, all, high, from));
}

module _ (t : Nodes) (chosen : List Bool) where
  abbrev q : ℕ → ℕ → Bool
  q = chosen_child t chosen

  -- node 0 is no child
  root_fails : (n : ℕ) → q n 0 ≡ false
  root_fails n = and_left (is_child t n 0) (get_or chosen 0 false) (and_left (ltb 0 0) (parent_of t 0 == n) (le-ltb 0 0 (omega arith)))

  other_fails : (n c : ℕ) → parent_of t c ≢ n → q n c ≡ false
  other_fails n c other = and_left (is_child t n c) (get_or chosen c false) (and_right (ltb 0 c) (parent_of t c == n) (ne_eqb (parent_of t c) n other))

  unchosen_fails : (n c : ℕ) → get_or chosen c false ≡ false → q n c ≡ false
  unchosen_fails n c e = and_right (is_child t n c) (get_or chosen c false) e

  child_passes : (c : ℕ) → 0 < c → get_or chosen c false ≡ true → q (parent_of t c) c ≡ true
  child_passes c low e = and_from (is_child t (parent_of t c) c) (get_or chosen c false) (and_from (ltb 0 c) (parent_of t c == parent_of t c) (lt-ltb 0 c low) (eq-eqb (parent_of t c) (parent_of t c) refl)) e

  -- the plan is put before all others
  pub links_root : (l : Links) → 0 < size t → IsLinkedFrom t q 1 l → IsLinkedFrom t q 0 l
  links_root l root linked = record {
    first_len = linked.first_len;
    next_len = linked.next_len;
    first = λ n less. linked.first n less ∙ sym (first_fail (q n) 0 (size t) root (root_fails n));
    next = λ c low high from. linked.next c low high low;
  }

  -- and each other node
  pub links_put : (l m : Links) (c : ℕ) → 0 < c → c < size t → parent_of t c < size t → IsLinkedFrom t q (suc c) l → m.next.items ≡ set l.next.items c (get_or l.first.items (parent_of t c) None) → m.first.items ≡ cond (get_or chosen c false) (set l.first.items (parent_of t c) (Some c)) l.first.items → IsLinkedFrom t q c m
  links_put l m c low high up linked nexts firsts = record {
    first_len = ap (λ (v : List (Option ℕ)). length v) firsts ∙ either_len (get_or chosen c false) ∙ linked.first_len;
    next_len = ap (λ (v : List (Option ℕ)). length v) nexts ∙ length-set l.next.items c (get_or l.first.items (parent_of t c) None) ∙ linked.next_len;
    first = λ n less. ap (λ (v : List (Option ℕ)). get_or v n None) firsts ∙ first_now n less (get_or chosen c false) refl;
    next = λ d above inside from. ap (λ (v : List (Option ℕ)). get_or v d None) nexts ∙ next_now d above inside from;
  }
    where
      either_len : (b : Bool) → length (cond b (set l.first.items (parent_of t c) (Some c)) l.first.items) ≡ length l.first.items
      either_len true = length-set l.first.items (parent_of t c) (Some c)
      either_len false = refl

      first_now : (n : ℕ) → n < size t → (b : Bool) → get_or chosen c false ≡ b → get_or (cond b (set l.first.items (parent_of t c) (Some c)) l.first.items) n None ≡ first_from (q n) c (size t)
      first_now n less false e = linked.first n less ∙ sym (first_fail (q n) c (size t) high (unchosen_fails n c e))
      first_now n less true e =
          elim (cases_eq n (parent_of t c)) [
            | inl same ↦ subst (λ (a : ℕ). get_or (set l.first.items (parent_of t c) (Some c)) a None ≡ first_from (q a) c (size t)) (sym same)
                (get_or-set_same l.first.items (parent_of t c) (Some c) None (let len = linked.first_len in omega (arith, len, up)) ∙ sym (first_pass (q (parent_of t c)) c (size t) high (child_passes c low e)))
            | inr other ↦ get_or-set_other l.first.items (parent_of t c) n (Some c) None other ∙ linked.first n less ∙ sym (first_fail (q n) c (size t) high (other_fails n c (λ h. other (sym h))))
          ]

      next_now : (d : ℕ) → 0 < d → d < size t → c ≤ d → get_or (set l.next.items c (get_or l.first.items (parent_of t c) None)) d None ≡ first_from (q (parent_of t d)) (suc d) (size t)
      next_now d above inside from =
          elim (cases_eq d c) [
            | inl same ↦ subst (λ (a : ℕ). get_or (set l.next.items c (get_or l.first.items (parent_of t c) None)) a None ≡ first_from (q (parent_of t a)) (suc a) (size t)) (sym same)
                (get_or-set_same l.next.items c (get_or l.first.items (parent_of t c) None) None (let len = linked.next_len in omega (arith, len, high)) ∙ linked.first (parent_of t c) up)
            | inr other ↦ get_or-set_other l.next.items c d (get_or l.first.items (parent_of t c) None) None other ∙ linked.next d above inside (omega (arith, from, other))
          ]

-- links by one test are those by another one that agrees with it
pub links_agree : (t : Nodes) (q r : ℕ → ℕ → Bool) (l : Links) → ((n c : ℕ) → c < size t → q n c ≡ r n c) → IsLinked t q l → IsLinked t r l
links_agree t q r l same linked = record {
  first_len = linked.first_len;
  next_len = linked.next_len;
  first = λ n less. linked.first n less ∙ first_agree (q n) (r n) 0 (size t) (λ c low high. same n c high);
  next = λ c low high. linked.next c low high ∙ first_agree (q (parent_of t c)) (r (parent_of t c)) (suc c) (size t) (λ d from inside. same (parent_of t c) d inside);
}
