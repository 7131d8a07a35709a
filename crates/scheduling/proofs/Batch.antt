-- The children that a node offers itself, by the first one of those that run in its thread.
use Rattle.std.specs.Option.{option_eq}
use Rattle.std.proofs.Common.{◌≡◌, ℕ, zero, suc, ◌+◌, ◌<◌, Bool, true, false, ◌&&◌, ◌||◌, ◌==◌, not, cond, List, [], ◌∷◌, ◌++◌, length, Option, Some, None, get_or, refl, sym, ap, ◌∙◌, arith, inl, inr}
use Rattle.std.proofs.lemmas.Bool.{false≢true, cases_eq, eq-eqb, ne_eqb, and_from}
use Rattle.std.proofs.lemmas.Option.{none-some, same_Some}
use Rattle.std.proofs.Math.Bool.{and-true}
use Rattle.descriptor.specs.Nodes.{IsTree, IsChild, size, parent_of, is_child, count_below, is_spare_at}
use Rattle.resource_locks.specs.Held.{table}
use Rattle.resource_locks.specs.Plans.{PlanParts}
use Rattle.resource_locks.proofs.Walks.{table_at, table_len}
use Rattle.event_history.specs.Plans.{is_same}
use Rattle.event_history.proofs.Counting.{count_stays}
use Rattle.event_history.proofs.Trees.{is_child_test, test_is_child}
use Rattle.scheduling.specs.declared.links.Links.{Links}
use Rattle.scheduling.specs.declared.task.Closing.TheVariants.{CountingOff}
use Rattle.scheduling.specs.declared.task.Task.TheVariants.{Closes}
use Rattle.scheduling.specs.Choices.{first_from, in_batch, after_settle, pass_to}
use Rattle.scheduling.specs.LinkLists.{IsLinked, chosen_child, stays, is_same_child, is_offered}
use Rattle.scheduling.proofs.Basics.{first_some, count_none}
use Rattle.scheduling.proofs.Finding.{first_is}
use Rattle.scheduling.proofs.Linking.{links_agree}
use Rattle.scheduling.proofs.ChildLists.{and_same}

-- a list of answers with one more
pub table_more : (f : ℕ → Bool) (n : ℕ) (v : List Bool) (x : Bool) → v ≡ table f n → x ≡ f n → v ++ x ∷ [] ≡ table f (n + 1)
table_more f n v x e is = ap (λ (l : List Bool). l ++ x ∷ []) e ∙ ap (λ b. table f n ++ b ∷ []) is ∙ ap (table f) (let more : suc n ≡ n + 1 = omega arith in more)

module _ (p : PlanParts) (tree : IsTree p.tree) (n c : ℕ) (child : IsChild p.tree n c) (plain : is_spare_at p.tree c ≡ false) where
  -- whether a node runs in the thread of this parent
  abbrev same_of : ℕ → Bool
  same_of d = is_child p.tree n d && is_same p d

  -- its siblings are no spares either
  same_is : (d : ℕ) → d < size p.tree → is_same_child p n d ≡ same_of d
  same_is d less = and_same (is_child p.tree n d) (is_same p d && not (is_spare_at p.tree d)) (is_same p d) (λ e.
      ap (λ b. is_same p d && not b) (tree.spares n d (is_child_test p.tree n d less e) ∙ sym (tree.spares n c child) ∙ plain) ∙ and-true (is_same p d))

  -- it is the first one exactly where none is before it
  none_before : first_from (is_same_child p n) 0 (size p.tree) ≡ Some c → count_below same_of c ≡ 0
  none_before e =
      let first = first_some (is_same_child p n) 0 (size p.tree) c e in
      count_stays same_of 0 c (omega arith) (λ d low high. sym (same_is d (let inside = child.inside in omega (arith, inside, high))) ∙ first.none_before d low high)

  is_first : is_child p.tree n c ≡ true → is_same p c ≡ true → count_below same_of c ≡ 0 → first_from (is_same_child p n) 0 (size p.tree) ≡ Some c
  is_first here same none = first_is (is_same_child p n) 0 (size p.tree) c (record {
    passes = same_is c child.inside ∙ and_from (is_child p.tree n c) (is_same p c) here same;
    low = omega arith;
    high = child.inside;
    none_before = λ d low high. same_is d (let inside = child.inside in omega (arith, inside, high)) ∙ count_none same_of c none d high;
  })

  -- so the first one tells whether the node offers this child
  first_tells : (e : ℕ → ℕ → Bool) → ((a b : ℕ) → e a b ≡ (a == b)) → is_child p.tree n c ≡ true → is_same p c ≡ true → (found : Option ℕ) → first_from (is_same_child p n) 0 (size p.tree) ≡ found → option_eq e found (Some c) ≡ (count_below same_of c == 0)
  first_tells e is here same None q = sym (ne_eqb (count_below same_of c) 0 (λ none. none-some c (sym q ∙ is_first here same none)))
  first_tells e is here same (Some d) q = is d c ∙ elim (cases_eq d c) [
    | inl s ↦ eq-eqb d c s ∙ sym (eq-eqb (count_below same_of c) 0 (none_before (q ∙ ap Some s)))
    | inr other ↦ ne_eqb d c other ∙ sym (ne_eqb (count_below same_of c) 0 (λ none. other (same_Some d c (sym q ∙ is_first here same none))))
  ]

  pub offered_is : (e : ℕ → ℕ → Bool) → ((a b : ℕ) → e a b ≡ (a == b)) → n ≡ parent_of p.tree c → is_same p c ≡ true → (found : Option ℕ) → first_from (is_same_child p n) 0 (size p.tree) ≡ found → option_eq e found (Some c) ≡ is_offered p c
  offered_is e is up same found q =
      let here : is_child p.tree n c ≡ true = test_is_child p.tree n c child in
      first_tells e is here same found q
      ∙ sym (ap (λ a. in_batch p a c) (sym up)
      ∙ ap (λ b. b && (not (is_spare_at p.tree c) && (not (is_same p c) || (count_below same_of c == 0)))) here
      ∙ ap (λ b. not b && (not (is_same p c) || (count_below same_of c == 0))) plain
      ∙ ap (λ b. not b || (count_below same_of c == 0)) same)

-- what is read from the list of answers
chosen_is : (p : PlanParts) (f : ℕ → Bool) (chosen : List Bool) → chosen ≡ table f (size p.tree) → (n c : ℕ) → c < size p.tree → chosen_child p.tree chosen n c ≡ (is_child p.tree n c && f c)
chosen_is p f chosen e n c less = ap (λ b. is_child p.tree n c && b) (ap (λ (l : List Bool). get_or l c false) e ∙ table_at f false (size p.tree) c less)

pub table_size : (p : PlanParts) (f : ℕ → Bool) (chosen : List Bool) → chosen ≡ table f (size p.tree) → length chosen ≡ size p.tree
table_size p f chosen e = ap (λ (l : List Bool). length l) e ∙ table_len f (size p.tree)

pub same_linked : (p : PlanParts) (chosen : List Bool) (l : Links) → chosen ≡ table (stays p) (size p.tree) → IsLinked p.tree (chosen_child p.tree chosen) l → IsLinked p.tree (is_same_child p) l
same_linked p chosen l e = links_agree p.tree (chosen_child p.tree chosen) (is_same_child p) l (chosen_is p (stays p) chosen e)

-- a child of a node is offered by that node
pub batch_linked : (p : PlanParts) (chosen : List Bool) (l : Links) → chosen ≡ table (is_offered p) (size p.tree) → IsLinked p.tree (chosen_child p.tree chosen) l → IsLinked p.tree (in_batch p) l
batch_linked p chosen l e = links_agree p.tree (chosen_child p.tree chosen) (in_batch p) l (λ n c less. chosen_is p (is_offered p) chosen e n c less ∙ go n c (is_child p.tree n c) refl less)
  where
    go : (n c : ℕ) (b : Bool) → is_child p.tree n c ≡ b → c < size p.tree → (is_child p.tree n c && is_offered p c) ≡ in_batch p n c
    go n c false e less = ap (λ b. b && is_offered p c) e ∙ sym (ap (λ b. b && (not (is_spare_at p.tree c) && (not (is_same p c) || (count_below (λ d. is_child p.tree n d && is_same p d) c == 0)))) e)
    go n c true e less = ap (λ b. b && is_offered p c) e ∙ ap (λ a. in_batch p a c) (is_child_test p.tree n c less e).parent

-- a node that is settled and has no further sibling in its thread is counted off
pub settled_last : (p : PlanParts) (n : ℕ) → (n == 0) ≡ false → first_from (is_same_child p (parent_of p.tree n)) (suc n) (size p.tree) ≡ None → Closes n CountingOff ≡ after_settle p n
settled_last p zero above e = absurd (false≢true (sym above))
settled_last p (suc n) above e = ap (Closes (suc n)) (sym (ap (λ o. cond (is_same p (suc n) && not (is_spare_at p.tree (suc n))) (pass_to o) CountingOff) e ∙ either (is_same p (suc n) && not (is_spare_at p.tree (suc n)))))
  where
    either : (b : Bool) → cond b CountingOff CountingOff ≡ CountingOff
    either true = refl
    either false = refl
