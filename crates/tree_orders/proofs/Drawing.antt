-- The words of a seed one after the other, and the order of one node more.
use Rattle.std.proofs.Common.{◌≡◌, ℕ, suc, ◌+◌, ◌-◌, ◌%◌, ◌^◌, ◌<◌, List, [], ◌∷◌, ◌++◌, length, drop, get_or, sym, ap, ◌∙◌, arith, inl, inr, subst}
use Rattle.std.specs.Prelude.{insert}
use Rattle.std.proofs.lemmas.Bool.{cases_lt}
use Rattle.std.proofs.lemmas.List.{get_or_append_left, get_or_push}
use Rattle.rand_chacha.specs.ChaCha.{ChaCha, next_word, of_seed}
use Rattle.rand_core.specs.Pcg32Seed.{pcg32_seed}
use Rattle.descriptor.specs.Nodes.{Nodes, IsTree, size}
use Rattle.tree_orders.specs.Draws.{draw, word_of}
use Rattle.tree_orders.specs.Listed.{IsListed, IsOrder}
use Rattle.tree_orders.specs.Orders.{order_to, passed, place_behind, place_in, seeded_order, slot}
use Rattle.tree_orders.proofs.Listing.{listed_to}
use Rattle.tree_orders.proofs.Orders.{seeded_is_order}

-- the generator of a seed at a place
abbrev pub rng_at : (seed place : ℕ) → ChaCha
rng_at seed place = record (of_seed (pcg32_seed 32 seed)) { word_pos = place }

next_place : (n : ℕ) → n < 16384 → (n + 1) % 2 ^ 68 ≡ n + 1
next_place n few = omega arith

-- the next word is that of its place
pub word_drawn : (seed n x : ℕ) (rng after : ChaCha) → rng ≡ rng_at seed n → (x, after) ≡ next_word 10 rng → x ≡ word_of seed n
unfolding word_of
word_drawn seed n x rng after is step = ap (λ s. s.0) (step ∙ ap (next_word 10) is)

-- and the generator is at the next place
pub rng_moved : (seed n x : ℕ) (rng after : ChaCha) → n < 16384 → rng ≡ rng_at seed n → (x, after) ≡ next_word 10 rng → after ≡ rng_at seed (n + 1)
rng_moved seed n x rng after few is step = ap (λ s. s.1) (step ∙ ap (next_word 10) is) ∙ ap (rng_at seed) (next_place n few)

-- each word so far and one more
pub words_more : (seed x : ℕ) (xs ys : List ℕ) → ys ≡ xs ++ x ∷ [] → x ≡ word_of seed (length xs) → ((k : ℕ) → k < length xs → get_or xs k 0 ≡ word_of seed k) → (k : ℕ) → k < length xs + 1 → get_or ys k 0 ≡ word_of seed k
words_more seed x xs ys more is each k inside = ap (λ zs. get_or zs k 0) more ∙ elim (cases_lt k (length xs)) [
  | inl low ↦ get_or_append_left xs (x ∷ []) 0 k low ∙ each k low
  | inr high ↦
      let last : length xs ≡ k = omega arith in
      get_or_push xs x 0 k last ∙ is ∙ ap (word_of seed) last
]

-- a place is counted from the node's own
pub place_behind_is : (t : Nodes) (p left start more : ℕ) (order rest : List ℕ) → start ≡ place_in order p → more ≡ passed t p left rest → rest ≡ drop (start + 1) order → start + 1 + more ≡ place_behind t p left order
place_behind_is t p left start more order rest here passes behind =
    let from : start + 1 ≡ suc (place_in order p) = omega arith in
    let as_many : more ≡ passed t p left (drop (suc (place_in order p)) order) = passes ∙ ap (passed t p left) (behind ∙ ap (λ k. drop k order) from) in
    omega arith

-- the order so far lists each node before the next one
pub listed_at : (t : Nodes) (drawn : ℕ → ℕ) (n node : ℕ) (xs : List ℕ) → xs ≡ order_to t drawn n → node ≡ n + 1 → IsListed xs node
listed_at t drawn n node xs is next =
    let more : suc n ≡ node = omega arith in
    subst (λ (ys : List ℕ). IsListed ys node) (sym is) (subst (IsListed (order_to t drawn n)) more (listed_to t drawn n))

-- which is put where it is drawn
pub order_more : (t : Nodes) (drawn : ℕ → ℕ) (n node place : ℕ) (xs ys : List ℕ) → xs ≡ order_to t drawn n → node ≡ n + 1 → place ≡ slot t (drawn node) node xs → ys ≡ insert xs place node → ys ≡ order_to t drawn (n + 1)
order_more t drawn n node place xs ys is next put grown =
    let more : node ≡ suc n = omega arith in
    let up : suc n ≡ n + 1 = omega arith in
    grown ∙ ap (λ k. insert xs k node) put ∙ ap (λ zs. insert zs (slot t (drawn node) node zs) node) is
    ∙ ap (λ m. insert (order_to t drawn n) (slot t (drawn m) m (order_to t drawn n)) m) more ∙ ap (order_to t drawn) up

-- at the end all nodes are in order
pub order_end : (t : Nodes) (seed n : ℕ) (xs : List ℕ) → xs ≡ order_to t (draw t seed) n → n ≡ size t - 1 → xs ≡ seeded_order seed t
order_end t seed n xs is last = is ∙ ap (order_to t (draw t seed)) last

pub order_so : (t : Nodes) → IsTree t → (seed n : ℕ) (xs : List ℕ) → xs ≡ order_to t (draw t seed) n → n ≡ size t - 1 → IsOrder t xs
order_so t tree seed n xs is last = subst (IsOrder t) (sym (order_end t seed n xs is last)) (seeded_is_order t tree seed)
