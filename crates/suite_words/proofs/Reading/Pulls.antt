-- How many lines hang below a node.
use Rattle.std.proofs.Common.{◌≡◌, ℕ, zero, suc, ◌<◌, ◌≤◌, ◌&&◌, nat_lt, Bool, true, false, cond, [], ◌∷◌, length, refl, ap, sym, arith, length-append}
use Rattle.std.proofs.lemmas.Bool.{ne_eqb}
use Rattle.descriptor.specs.Nodes.{Nodes, IsTree, size, parent_of, is_child, numbers_where, children_of}
use Rattle.descriptor.proofs.Grown.{numbers_none}

one_at_most : (b : Bool) (n : ℕ) → length (cond b (n ∷ []) []) ≤ 1
one_at_most true n = omega arith
one_at_most false n = omega arith

shorter : (q : ℕ → Bool) (n : ℕ) → length (numbers_where q n) ≤ n
shorter q zero = omega arith
shorter q (suc n) =
    let all = length-append (numbers_where q n) (cond (q n) (n ∷ []) []) in
    let one = one_at_most (q n) n in
    let before = shorter q n in
    omega (arith, all, one, before)

pub few_children : (t : Nodes) (n : ℕ) → IsTree t → length (children_of t n) ≤ 16384
few_children t n tree = let less = shorter (is_child t n) (size t) in omega (arith, less, tree.few)

no_and : (b c : Bool) → c ≡ false → (b && c) ≡ false
no_and true c e = e
no_and false c e = refl

no_child : (t : Nodes) (n c : ℕ) → IsTree t → size t ≤ n → c < size t → is_child t n c ≡ false
no_child t n zero tree past inside = refl
no_child t n (suc c) tree past inside = let less = tree.up (suc c) (omega arith) inside in no_and (nat_lt 0 (suc c)) _ (ne_eqb (parent_of t (suc c)) n (λ e. omega (arith, less, past, inside, e)))

-- a node that the tree lacks has no children
pub no_children : (t : Nodes) (n : ℕ) → IsTree t → size t ≤ n → 0 ≡ length (children_of t n)
no_children t n tree past = ap length (sym (numbers_none (is_child t n) (size t) (λ c h. no_child t n c tree past h)))
