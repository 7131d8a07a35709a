-- What lies below a node, and what a count says of a node's children.
use Rattle.std.proofs.Common.{◌≡◌, ℕ, zero, suc, ◌<◌, ◌≤◌, Bool, true, false, ◌==◌, ltb, inl, inr, ap, arith}
use Rattle.std.proofs.lemmas.Bool.{and_parts, and_from, cases_Bool, ltb-true, lt-ltb, eqb-true, eq-eqb}
use Rattle.descriptor.specs.Nodes.{Nodes, size, parent_of, IsChild, is_child, bit, count_below}
use Rattle.resource_locks.specs.Plans.{PlanParts}
use Rattle.event_history.specs.Plans.{has_child}

pub is_child_test : (t : Nodes) (a c : ℕ) → c < size t → is_child t a c ≡ true → IsChild t a c
is_child_test t a c h e = (let r = and_parts (ltb 0 c) (parent_of t c == a) e in record { above_zero = ltb-true 0 c r.0; inside = h; parent = eqb-true (parent_of t c) a r.1 })

pub test_is_child : (t : Nodes) (a c : ℕ) → IsChild t a c → is_child t a c ≡ true
test_is_child t a c e = and_from (ltb 0 c) (parent_of t c == a) (lt-ltb 0 c e.above_zero) (eq-eqb (parent_of t c) a e.parent)

pub bit_most : (b : Bool) → bit b ≤ 1
bit_most true = omega arith
bit_most false = omega arith

-- a count above 0 has a number that passes
pub count_some : (q : ℕ → Bool) (n : ℕ) → 0 < count_below q n → (c : ℕ) × (c < n) × (q c ≡ true)
count_some q zero lt = absurd (omega (arith, lt))
count_some q (suc n) lt =
    elim (cases_Bool (q n)) [
      | inl t ↦ (n, omega arith, t)
      | inr f ↦ (let none : bit (q n) ≡ 0 = ap bit f in let r = count_some q n (omega (arith, lt, none)) in (r.0, omega (arith, r.1), r.2))
    ]

pub some_child : (p : PlanParts) (a : ℕ) → has_child p a ≡ true → (c : ℕ) × IsChild p.tree a c
some_child p a q = (let r = count_some (is_child p.tree a) (size p.tree) (ltb-true 0 (count_below (is_child p.tree a) (size p.tree)) q) in (r.0, is_child_test p.tree a r.0 r.1 r.2))
