-- What a tree's lists of children say of a plan: the next spare of a factory, how many it has, which after-body is run, and what
-- is run for a node.
use Rattle.std.proofs.Common.{◌≡◌, ℕ, zero, suc, ◌<◌, Bool, true, false, ◌&&◌, ◌==◌, not, ltb, cond, length, Option, Some, None, slice_get, refl, sym, ap, ◌∙◌, arith}
use Rattle.std.proofs.lemmas.Bool.{false≢true, lt-ltb, eqb-true}
use Rattle.std.proofs.lemmas.Option.{none-some}
use Rattle.descriptor.specs.declared.kind.Kind.{Kind}
use Rattle.descriptor.specs.declared.kind.Kind.TheVariants.{Test, Container, ContainerAndTest}
use Rattle.descriptor.specs.declared.role.Role.{Role}
use Rattle.descriptor.specs.declared.role.Role.TheVariants.{Plain, Factory, Spare}
use Rattle.descriptor.specs.Kinds.{is_container}
use Rattle.descriptor.specs.Nodes.{IsTree, size, children_of, is_child, parent_of, count_below, is_factory_at, is_spare_at, after_of, body_of, kind_of, role_of}
use Rattle.descriptor.specs.Roles.{is_factory}
use Rattle.descriptor.proofs.Children.{children_counted}
use Rattle.resource_locks.specs.Plans.{PlanParts}
use Rattle.event_history.specs.Plans.{Sort, Leaf, Holder, Maker, sort_by, sort_of, is_spare_of, spare_count, rank, has_child}
use Rattle.event_history.proofs.Spares.{is_maker, maker_role}
use Rattle.event_history.proofs.Trees.{is_child_test}
use Rattle.event_history.specs.Results.{jobs_by, jobs_of, after_run}
use Rattle.scheduling.specs.Choices.{is_spare_ranked, next_spare, after_job}
use Rattle.scheduling.proofs.Basics.{count_same}
use Rattle.scheduling.proofs.Finding.{first_agree}
use Rattle.scheduling.proofs.Ranked.{ranked, ranked_at}

and_under : (a b : Bool) → (a ≡ true → b ≡ true) → (a && b) ≡ a
and_under true b h = h refl
and_under false b h = refl

pub and_same : (a b c : Bool) → (a ≡ true → b ≡ c) → (a && b) ≡ (a && c)
and_same true b c h = h refl
and_same false b c h = refl

module _ (p : PlanParts) (f : ℕ) (tree : IsTree p.tree) (factory : is_factory_at p.tree f ≡ true) where
  -- the children of a factory are its spares
  spare_is : (c : ℕ) → c < size p.tree → is_spare_of p f c ≡ is_child p.tree f c
  spare_is c less = and_under (is_child p.tree f c) (is_spare_at p.tree c) (λ child. tree.spares f c (is_child_test p.tree f c less child) ∙ factory)

  pub spares_counted : length (children_of p.tree f) ≡ spare_count p f
  spares_counted = children_counted p.tree f ∙ sym (count_same (is_spare_of p f) (is_child p.tree f) (size p.tree) spare_is)

  rank_is : (c : ℕ) → c < size p.tree → parent_of p.tree c ≡ f → rank p c ≡ count_below (is_child p.tree f) c
  rank_is c less e = ap (λ (a : ℕ). count_below (is_spare_of p a) c) e ∙ count_same (is_spare_of p f) (is_child p.tree f) c (λ d before. spare_is d (omega (arith, less, before)))

  ranked_is : (k c : ℕ) → c < size p.tree → is_spare_ranked p f k c ≡ ranked (is_child p.tree f) k c
  ranked_is k c less = ap (λ (b : Bool). b && (rank p c == k)) (spare_is c less)
      ∙ and_same (is_child p.tree f c) (rank p c == k) (count_below (is_child p.tree f) c == k) (λ child. ap (λ (n : ℕ). n == k) (rank_is c less (is_child_test p.tree f c less child).parent))

  pub next_spare_is : (k : ℕ) → next_spare p f k ≡ slice_get (children_of p.tree f) k
  next_spare_is k = first_agree (is_spare_ranked p f k) (ranked (is_child p.tree f) k) 0 (size p.tree) (λ c low high. ranked_is k c high) ∙ ranked_at (is_child p.tree f) (size p.tree) k

-- only a node that may hold others, and is no factory, has an after-body
after_by : (kind : Kind) (role : Role) (body after : Option ℕ) (spares : ℕ) → ((b : ℕ) → after ≡ Some b → (not (is_container kind) ≡ false) × (is_factory role ≡ false)) → after_job (jobs_by (sort_by kind role) body after spares) ≡ after
after_by Test role None None spares placed = refl
after_by Test role (Some b) None spares placed = refl
after_by Test role body (Some a) spares placed = absurd (false≢true (sym (placed a refl).0))
after_by Container Plain body after spares placed = refl
after_by Container Spare body after spares placed = refl
after_by Container Factory None None spares placed = refl
after_by Container Factory (Some b) None spares placed = refl
after_by Container Factory body (Some a) spares placed = absurd (false≢true (sym (placed a refl).1))
after_by ContainerAndTest Plain body after spares placed = refl
after_by ContainerAndTest Spare body after spares placed = refl
after_by ContainerAndTest Factory None None spares placed = refl
after_by ContainerAndTest Factory (Some b) None spares placed = refl
after_by ContainerAndTest Factory body (Some a) spares placed = absurd (false≢true (sym (placed a refl).1))

run_own : (child : Bool) (own : Option ℕ) (b : ℕ) → cond child own None ≡ Some b → own ≡ Some b
run_own true own b e = e
run_own false own b e = absurd (none-some b e)

-- the after-body that is run is that of the plan
pub after_is : (p : PlanParts) (n : ℕ) → IsTree p.tree → after_job (jobs_of p n) ≡ after_run p n
after_is p n tree = after_by (kind_of p.tree n) (role_of p.tree n) (body_of p.tree n) (after_run p n) (spare_count p n) (λ b e. tree.after_placed n b (run_own (has_child p n) (after_of p.tree n) b e))

pub after_none : (p : PlanParts) (n : ℕ) → IsTree p.tree → (length (children_of p.tree n) == 0) ≡ true → after_job (jobs_of p n) ≡ None
after_none p n tree e = after_is p n tree ∙ ap (λ b. cond b (after_of p.tree n) None) (ap (ltb 0) (sym (children_counted p.tree n) ∙ eqb-true (length (children_of p.tree n)) 0 e))

pub after_some : (p : PlanParts) (n : ℕ) → IsTree p.tree → (length (children_of p.tree n) == 0) ≡ false → after_job (jobs_of p n) ≡ after_of p.tree n
after_some p n tree e = after_is p n tree ∙ ap (λ b. cond b (after_of p.tree n) None) (ap (ltb 0) (sym (children_counted p.tree n)) ∙ some (length (children_of p.tree n)) e)
  where
    some : (k : ℕ) → (k == 0) ≡ false → ltb 0 k ≡ true
    some zero h = absurd (false≢true (sym h))
    some (suc k) h = lt-ltb 0 (suc k) (omega arith)

-- a node's jobs are those with as many spares as it has children
pub jobs_with : (p : PlanParts) (n : ℕ) → IsTree p.tree → (k : ℕ) → k ≡ length (children_of p.tree n) → jobs_by (sort_of p.tree n) (body_of p.tree n) (after_run p n) k ≡ jobs_of p n
jobs_with p n tree k is = go (sort_of p.tree n) (body_of p.tree n) (λ made. is ∙ spares_counted p n tree (maker_role (kind_of p.tree n) (role_of p.tree n) (ap is_maker made)))
  where
    go : (s : Sort) (body : Option ℕ) → (s ≡ Maker → k ≡ spare_count p n) → jobs_by s body (after_run p n) k ≡ jobs_by s body (after_run p n) (spare_count p n)
    go Leaf None same = refl
    go Leaf (Some b) same = refl
    go Holder body same = refl
    go Maker None same = refl
    go Maker (Some b) same = ap (jobs_by Maker (Some b) (after_run p n)) (same refl)
