-- The path of open nodes, and the tree that grows at its end.
use Rattle.std.proofs.Common.{length-append, ◌≡◌, ℕ, zero, suc, ◌+◌, ◌-◌, ◌<◌, ◌≤◌, List, [], ◌∷◌, ◌++◌, length, take, get_or, refl, ap, sym, ◌∙◌, subst, arith, inl, inr, Some, Option, None}
use Rattle.std.specs.Prelude.{slice_get}
use Rattle.descriptor.specs.declared.node.Node.{Node}
use Rattle.descriptor.specs.Nodes.{Nodes, IsChild, Below, child, under, MayTake, size, appended}
use Rattle.suite_text.specs.declared.suite.builder.Opened.{Opened}
use Rattle.suite_text.specs.Reading.Parts.{above, node_of_opened}
use Rattle.suite_text.specs.Inside.Paths.{IsPath}
use Rattle.suite_words.proofs.Lists.{get_before, get_last}

below_next : (t : Nodes) (a x : ℕ) → IsChild t a x → (d : ℕ) → Below t x d → Below t a d
below_next t a x e d (child f) = under (child e) f
below_next t a x e d (under b f) = under (below_next t a x e _ b) f

-- each node of a path may take the next node
takes_from : (t : Nodes) (a : ℕ) (path : List Opened) → a < size t → IsPath t a path → MayTake t a
takes_from t a [] inside p = let last : a + 1 ≡ size t = p in (inside, inl (omega arith))
takes_from t a (x ∷ rest) inside p =
    let below = takes_from t x.node rest p.0.inside p.1 in (
      inside,
      inr (elim below.1 [
        | inl e ↦ subst (Below t a) e (child p.0)
        | inr b ↦ below_next t a x.node p.0 _ b
      ]),
    )

pub plan_inside : (t : Nodes) (a : ℕ) (path : List Opened) → IsPath t a path → 0 < size t
plan_inside t a [] p = let last : a + 1 ≡ size t = p in omega arith
plan_inside t a (x ∷ rest) p = let inside : x.node < size t = p.0.inside in omega arith

pub record IsOpen (t : Nodes) (o : Opened) : Type 0 where
  pub above_zero : 0 < o.node
  pub inside : o.node < size t
  pub takes : MayTake t o.node

open_at : (t : Nodes) (a : ℕ) (path : List Opened) → IsPath t a path → (l : ℕ) (o : Opened) → slice_get path l ≡ Some o → IsOpen t o
open_at t a [] p l o e = absurd (cc)
open_at t a (x ∷ rest) p zero o e =
    let same : x ≡ o = cc in
    subst (IsOpen t) same (record { above_zero = p.0.above_zero; inside = p.0.inside; takes = takes_from t x.node rest p.0.inside p.1 })
open_at t a (x ∷ rest) p (suc l) o e = open_at t x.node rest p.1 l o e

-- what stands at a place of a list
got : {X : Type 0} (xs : List X) (l : ℕ) (x : X) → l < length xs → x ≡ get_or xs l x → slice_get xs l ≡ Some x
got [] l x h e = absurd (omega arith)
got (y ∷ xs) zero x h e = ap (λ z. Some z) (sym e)
got (y ∷ xs) (suc l) x h e = got xs l x (omega arith) e

-- the node at a place of a path, where a line of the next level hangs
pub opened_is : (path : List Opened) (level : ℕ) (o : Opened) → 0 < level → level ≤ length path → o ≡ get_or path (level - 1) o → above path level ≡ Some o
opened_is path zero o h k e = absurd (omega arith)
opened_is path (suc l) o h k e =
    let same : suc l - 1 ≡ l = omega arith in
    got path l o (omega arith) (subst (λ (n : ℕ). o ≡ get_or path n o) same e)

pub is_open : (t : Nodes) (path : List Opened) (level : ℕ) (o : Opened) → IsPath t 0 path → above path level ≡ Some o → IsOpen t o
is_open t path zero o p e = absurd (cc)
is_open t path (suc l) o p e = open_at t 0 path p l o e

pub plan_takes : (t : Nodes) (path : List Opened) → IsPath t 0 path → MayTake t 0
plan_takes t path p = takes_from t 0 path (plan_inside t 0 path p) p

length_more : (xs : List ℕ) (x : ℕ) → length (xs ++ x ∷ []) ≡ length xs + 1
length_more xs x = simp length-append

child_grown : (t : Nodes) (p : ℕ) (node : Node) (a c : ℕ) → IsChild t a c → IsChild (appended t p node) a c
child_grown t p node a c e =
    let more : length (t.parents ++ p ∷ []) ≡ length t.parents + 1 = length_more t.parents p in
    let inside : c < length t.parents = e.inside in
    record { above_zero = e.above_zero; inside = omega arith; parent = get_before t.parents p c e.inside ∙ e.parent }

child_new : (t : Nodes) (p : ℕ) (node : Node) → 0 < size t → IsChild (appended t p node) p (size t)
child_new t p node h =
    let more : length (t.parents ++ p ∷ []) ≡ length t.parents + 1 = length_more t.parents p in
    record { above_zero = h; inside = omega arith; parent = get_last t.parents p }

-- the node that a line of a level hangs below, on a path that leads down from a
end_at : ℕ → List Opened → ℕ → ℕ
end_at a path zero = a
end_at a [] (suc l) = a
end_at a (x ∷ rest) (suc l) = end_at x.node rest l

end_is : (path : List Opened) (l a : ℕ) → l < length path → end_at a path (suc l) ≡ node_of_opened (slice_get path l)
unfolding end_at
end_is [] l a h = absurd (omega arith)
end_is (x ∷ rest) zero a h = refl
end_is (x ∷ rest) (suc l) a h = end_is rest l x.node (omega arith)

from_plan : (path : List Opened) (level : ℕ) → level ≤ length path → end_at 0 path level ≡ node_of_opened (above path level)
unfolding end_at
from_plan path zero h = refl
from_plan path (suc l) h = end_is path l 0 (omega arith)

path_grown : (t : Nodes) (node : Node) (o : Opened) (a : ℕ) (path : List Opened) (level p : ℕ) → 0 < size t → o.node ≡ size t → IsPath t a path → level ≤ length path → p ≡ end_at a path level
    → IsPath (appended t p node) a (take level path ++ o ∷ [])
unfolding end_at
path_grown t node o a path zero p some new h fits e =
    let more : length (t.parents ++ p ∷ []) ≡ length t.parents + 1 = length_more t.parents p in
    (subst (λ (n : ℕ). IsChild (appended t p node) a n) (sym new) (subst (λ (n : ℕ). IsChild (appended t p node) n (size t)) e (child_new t p node some)), omega arith)
path_grown t node o a [] (suc l) p some new h fits e = absurd (omega arith)
path_grown t node o a (x ∷ rest) (suc l) p some new h fits e = (child_grown t p node a x.node h.0, path_grown t node o x.node rest l p some new h.1 (omega arith) e)

-- the path after one more node, which a line of this level declares
pub path_next : (t : Nodes) (path : List Opened) (level : ℕ) (node : Node) (o : Opened) → IsPath t 0 path → level ≤ length path → o.node ≡ size t
    → IsPath (appended t (node_of_opened (above path level)) node) 0 (take level path ++ o ∷ [])
path_next t path level node o h fits new = path_grown t node o 0 path level (node_of_opened (above path level)) (plan_inside t 0 path h) new h fits (sym (from_plan path level fits))

above_inside : (t : Nodes) (path : List Opened) (o : Option Opened) → 0 < size t → ((x : Opened) → o ≡ Some x → x.node < size t) → node_of_opened o < size t
above_inside t path None h k = h
above_inside t path (Some x) h k = k x refl

-- the node that a line hangs below is in the tree
pub parent_inside : (t : Nodes) (path : List Opened) (level : ℕ) → IsPath t 0 path → level ≤ length path → node_of_opened (above path level) < size t
parent_inside t path level h fits = above_inside t path (above path level) (plan_inside t 0 path h) (λ x e. (is_open t path level x h e).inside)
