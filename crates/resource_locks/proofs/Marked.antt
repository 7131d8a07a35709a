-- Which nodes lie below one that passes a test, by the walk down.
use Rattle.std.proofs.Common.{◌≡◌, ℕ, zero, suc, ◌<◌, ◌+◌, Bool, true, false, ◌&&◌, ◌||◌, cond, List, [], ◌∷◌, ◌++◌, get_or, inl, inr, refl, sym, ap, ◌∙◌, arith}
use Rattle.std.proofs.lemmas.Bool.{cases_eq, lt-ltb, or_cases, or_left, or_right}
use Rattle.descriptor.specs.Nodes.{Nodes, size, parent_of, Below, child, under}
use Rattle.descriptor.specs.declared.mode.Mode.{Mode}
use Rattle.descriptor.specs.declared.mode.Mode.TheVariants.{SameThread}
use Rattle.resource_locks.specs.Declarations.{AtOrBelow, IsRooted}
use Rattle.resource_locks.specs.Held.{walk, carried, table}
use Rattle.resource_locks.specs.Limits.{marked_step, is_below_marked, mode_below}
use Rattle.resource_locks.proofs.Lines.{at_child, last_step}
use Rattle.resource_locks.proofs.Turns.{walk_next, table_next}
use Rattle.resource_locks.proofs.Walks.{walk_stays, carried_root, carried_down}

-- whether a node lies below one that passes, by what the walk has given its parent
pub below_is : (t : Nodes) (q : ℕ → Bool) (n : ℕ) (v : List Bool) → 0 < n → n < size t → parent_of t n < n → v ≡ walk t (marked_step q) false n → get_or v (parent_of t n) false ≡ is_below_marked t q n
below_is t q n v pos inside up e =
    ap (λ (x : List Bool). get_or x (parent_of t n) false) e
    ∙ walk_stays t (marked_step q) false n (size t) (parent_of t n) up (omega (arith, up, inside))
    ∙ sym (ap (λ (b : Bool). b && carried t (marked_step q) false (parent_of t n)) (lt-ltb 0 n pos))

-- one node more of the walk, and its mode
module _ (t : Nodes) (q : ℕ → Bool) (given : ℕ → Mode) (n : ℕ) (pos : 0 < n) (inside : n < size t) (up : parent_of t n < n) (v : List Bool) (walked : v ≡ walk t (marked_step q) false n) where
  pub mode_next : (modes more : List Mode) (x : Mode) → modes ≡ table (mode_below t q given) n → more ≡ modes ++ x ∷ [] → x ≡ cond (get_or v (parent_of t n) false) SameThread (given n) → more ≡ table (mode_below t q given) (n + 1)
  mode_next modes more x so made is = table_next (mode_below t q given) n modes more x so made (is ∙ ap (λ (b : Bool). cond b SameThread (given n)) (below_is t q n v pos inside up walked))

  pub mark_next : (w : List Bool) (b : Bool) → w ≡ v ++ b ∷ [] → b ≡ (get_or v (parent_of t n) false || q n) → w ≡ walk t (marked_step q) false (n + 1)
  mark_next w b made is = walk_next t (marked_step q) false n v w b walked made is

module _ (t : Nodes) (rooted : IsRooted t) (q : ℕ → Bool) where
  -- whether a node at or above n passes
  abbrev pub marked : ℕ → Bool
  marked n = carried t (marked_step q) false n

  pub mark_here : (n : ℕ) → n < size t → q n ≡ true → marked n ≡ true
  mark_here n inside w =
      elim (cases_eq n 0) [
        | inl z ↦ ap marked z ∙ carried_root t (marked_step q) false rooted.root ∙ sym (ap q z) ∙ w
        | inr nz ↦ carried_down t (marked_step q) false n inside (rooted.up n (omega (arith, nz)) inside) ∙ or_right (marked (parent_of t n)) (q n) w
      ]

  mark_below : (a n : ℕ) → marked a ≡ true → Below t a n → marked n ≡ true
  mark_below a n w (child c) =
      carried_down t (marked_step q) false n c.inside (rooted.up n c.above_zero c.inside)
      ∙ or_left (marked (parent_of t n)) (q n) (ap marked c.parent ∙ w)
  mark_below a n w (under {c = d} b c) =
      carried_down t (marked_step q) false n c.inside (rooted.up n c.above_zero c.inside)
      ∙ or_left (marked (parent_of t n)) (q n) (ap marked c.parent ∙ mark_below a d w b)

  pub mark_above : (a n : ℕ) → a < size t → q a ≡ true → Below t a n → marked (parent_of t n) ≡ true
  mark_above a n inside w b =
      elim (last_step t a n b).1 [
        | inl e ↦ ap marked (sym e) ∙ mark_here a inside w
        | inr d ↦ mark_below a (parent_of t n) (mark_here a inside w) d
      ]

  -- a node that the walk marks has one that passes at or above it
  pub mark_use : (n : ℕ) → n < size t → marked n ≡ true → (a : ℕ) × ((a < size t) × AtOrBelow t a n × (q a ≡ true))
  mark_use n inside w = climb (suc n) n (omega arith) inside w
    where
      climb : (fuel m : ℕ) → m < fuel → m < size t → marked m ≡ true → (a : ℕ) × ((a < size t) × AtOrBelow t a m × (q a ≡ true))
      climb zero m lt inside w = absurd (omega (arith, lt))
      climb (suc k) m lt inside w =
          elim (cases_eq m 0) [
            | inl z ↦ (m, (inside, inl refl, ap q z ∙ sym (carried_root t (marked_step q) false rooted.root) ∙ ap marked (sym z) ∙ w))
            | inr nz ↦ (let pos : 0 < m = omega (arith, nz) in
                let up = rooted.up m pos inside in
                elim (or_cases (marked (parent_of t m)) (q m) (sym (carried_down t (marked_step q) false m inside up) ∙ w)) [
                  | inr here ↦ (m, (inside, inl refl, here))
                  | inl above ↦ (let r = climb k (parent_of t m) (omega (arith, lt, up)) (omega (arith, up, inside)) above in
                      (r.0, (r.1.0, inr (at_child t r.0 (parent_of t m) m r.1.1 (record { above_zero = pos; inside = inside; parent = refl })), r.1.2)))
                ])
          ]
