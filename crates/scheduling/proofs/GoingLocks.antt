-- The fixed schedule never finds a key busy: whoever holds the key that is wanted is above the node, and both read it.
use Rattle.std.proofs.Common.{◌≡◌, ◌≢◌, ℕ, zero, suc, ◌<◌, true, false, ◌==◌, List, [], ◌∷◌, Option, Some, None, slice_index_or, inl, inr, refl, sym, ap, ◌∙◌, subst, arith}
use Rattle.std.proofs.lemmas.Bool.{cases_eq, cases_lt, cases_Bool, false≢true, both_ways, and_parts, eqb-true, ne_eqb}
use Rattle.descriptor.specs.Nodes.{size, IsChild, is_child, is_spare_at, body_of, Below, child, under, count_below}
use Rattle.descriptor.specs.declared.lock_mode.LockMode.{LockMode}
use Rattle.descriptor.specs.declared.lock_mode.LockMode.TheVariants.{Read, ReadWrite}
use Rattle.plan_events.specs.declared.outcome.Reply.{Reply}
use Rattle.plan_events.specs.declared.status.Status.{Status}
use Rattle.resource_locks.specs.Declarations.{AtOrBelow}
use Rattle.resource_locks.specs.Plans.{PlanParts, IsPlan}
use Rattle.resource_locks.proofs.Lines.{last_step}
use Rattle.event_history.specs.Plans.{IsElder, sort_of, pulls_job}
use Rattle.event_history.proofs.Branches.{first_step, below_root, at_cases, branches}
use Rattle.event_history.proofs.Spares.{pulls_sort}
use Rattle.event_history.proofs.Trees.{count_some, is_child_test}
use Rattle.scheduling.specs.declared.status.NodeStatus.TheVariants.{Claimed}
use Rattle.scheduling.specs.declared.lock_word.LockWord.{LockWord}
use Rattle.scheduling.specs.declared.lock_word.LockWord.TheVariants.{Readers, Written}
use Rattle.scheduling.specs.declared.task.Opening.TheVariants.{Locking}
use Rattle.scheduling.specs.declared.task.Task.TheVariants.{Opens}
use Rattle.scheduling.specs.declared.seat.Hand.{Hand}
use Rattle.scheduling.specs.declared.seat.Seat.{Seat}
use Rattle.scheduling.specs.State.{State, status_at, lock_at}
use Rattle.scheduling.specs.Choices.{key_at, mode_at, limit_at, keys_count, admits, admits_at}
use Rattle.scheduling.specs.Inside.Stages.{Stage, Unseen, Offered, OpenedBy, InHand, Waiting, ClosedBy, Over, Shut, Runs, picture, is_live, runner_of}
use Rattle.scheduling.specs.Inside.Invariant.{IsCorePlan, same_mode, is_key, keys_in, sum_below, holders, holders_by, ShapeOk, HandOk, TaskOk, Holds}
use Rattle.scheduling.specs.Inside.Going.{is_about, is_in_hand, is_begun, owes, Goes}
use Rattle.scheduling.proofs.Parts.{fits_runs}
use Rattle.scheduling.proofs.RowsOne.{runs_is}
use Rattle.scheduling.proofs.RowsUp.{maker_is}
use Rattle.scheduling.proofs.RowsTwo.{waiting_hand}
use Rattle.scheduling.proofs.GoingBasics.{hidden_claimed, settled_claimed, claimed_stage, opened_about, closed_about, seat_ok}
use Rattle.scheduling.proofs.GoingWords.{spare_childless, maker_leaf}
use Rattle.scheduling.proofs.Holding.{free_admits}
use Rattle.scheduling.proofs.GoingSharedKeys.{key_once, both_read, shared_unlimited}

-- who holds a key
sum_some : (f : ℕ → ℕ) (n : ℕ) → 0 < sum_below f n → (k : ℕ) × (k < n) × (0 < f k)
sum_some f zero lt = absurd (omega (arith, lt))
sum_some f (suc n) lt =
    elim (cases_lt 0 (f n)) [
      | inl some ↦ (n, omega arith, some)
      | inr none ↦ (let r = sum_some f n (omega (arith, lt, none)) in (r.0, omega (arith, r.1), r.2))
    ]

same_modes : (a b : LockMode) → same_mode a b ≡ true → a ≡ b
same_modes Read Read q = refl
same_modes ReadWrite ReadWrite q = refl
same_modes Read ReadWrite q = absurd (false≢true q)
same_modes ReadWrite Read q = absurd (false≢true q)

-- node n holds the key at place k, by its lock at this place of its own, in this mode
pub record IsHolder (p : PlanParts) (g : ℕ → Stage) (k : ℕ) (mode : LockMode) (n place : ℕ) : Type 0 where
  pub inside : n < size p.tree
  pub held : place < (picture p n (g n)).keys
  pub key : key_at p n place ≡ k
  pub in_mode : mode_at p n place ≡ mode

pub some_holder : (p : PlanParts) (g : ℕ → Stage) (k : ℕ) (mode : LockMode) → 0 < holders p g k mode → (n : ℕ) × (place : ℕ) × IsHolder p g k mode n place
unfolding holders keys_in
some_holder p g k mode lt =
    let r = sum_some (λ n. keys_in p k mode n (picture p n (g n)).keys) (size p.tree) lt in
    let c = count_some (is_key p k mode r.0) (picture p r.0 (g r.0)).keys r.2 in
    let parts = and_parts (key_at p r.0 c.0 == k) (same_mode (mode_at p r.0 c.0) mode) c.2 in
    (r.0, c.0, record { inside = r.1; held = c.1; key = eqb-true (key_at p r.0 c.0) k parts.0; in_mode = same_modes (mode_at p r.0 c.0) mode parts.1 })

-- a node that was claimed is live
claimed_live : (p : PlanParts) (n : ℕ) (st : Stage) (w : ℕ) → (picture p n st).word ≡ Claimed w → is_live st ≡ true
claimed_live p n Unseen w q = absurd (hidden_claimed w (sym q))
claimed_live p n (Offered o) w q = refl
claimed_live p n (OpenedBy v d) w q = refl
claimed_live p n (InHand v) w q = refl
claimed_live p n (Waiting c r) w q = refl
claimed_live p n (ClosedBy v c d how) w q = refl
claimed_live p n (Over how) w q = absurd (settled_claimed w q)

module _ (p : PlanParts) (core : IsCorePlan p) (replies : ℕ → List Reply) (s : State) (g : ℕ → Stage) (h : Holds p replies s g) where
  -- the parent of a live node runs its children
  pub parent_runs : (a x : ℕ) → IsChild p.tree a x → is_live (g x) ≡ true → (o from : ℕ) × (((picture p a (g a)).below ≡ Runs o from) × (status_at s a ≡ Claimed o))
  parent_runs a x ch live =
      let runs = fits_runs p (picture p a (g a)).below a x (g x) live (h.edges a x ch) in
      let up = core.plan.rooted.up x ch.above_zero ch.inside in
      let lt = ch.inside in
      let par = ch.parent in
      (runs.0, runs.1, (runs.2, h.words a (omega (arith, up, lt, par)) ∙ (runs_is p a (g a) runs.0 (ap runner_of runs.2)).0))

  -- and so does each node above it
  pub above_runs : (a x : ℕ) → Below p.tree a x → is_live (g x) ≡ true → (o from : ℕ) × (((picture p a (g a)).below ≡ Runs o from) × (status_at s a ≡ Claimed o))
  above_runs a x (child ch) live = parent_runs a x ch live
  above_runs a x (under {c = q} b ch) live =
      let up = parent_runs q x ch live in
      above_runs a q b (claimed_live p q (g q) up.0 (sym (h.words q (last_step p.tree a q b).0.inside) ∙ up.2.1))

  module _ (seat : Seat) (one : s.seats ≡ seat ∷ []) (kept : Goes p replies s.statuses s.counters s.locks seat.task seat.hand) where
    -- a spare that the task isn't about wasn't claimed
    spare_idle : (n w : ℕ) → n < size p.tree → is_spare_at p.tree n ≡ true → is_about seat.task n ≡ false → status_at s n ≡ Claimed w → ⊥
    spare_idle n w lt spare apart claimed =
        elim (claimed_stage p replies s g h seat one n w lt claimed apart) [
          | inl at ↦ (let pulls : pulls_job p n ≡ true = subst (ShapeOk p replies s.published n) at (h.shapes n lt) in
              maker_leaf (sym (maker_is (sort_of p.tree n) (body_of p.tree n) (sym (pulls_sort p core.plan n) ∙ pulls)) ∙ core.plan.spare_leaf n spare))
          | inr at ↦ (let owed = kept.counts n w lt claimed apart (no_hand at.0 at.1) in
              let some : 0 < slice_index_or s.counters n 0 = owed.some in
              let exact : slice_index_or s.counters n 0 ≡ count_below (owes p s.statuses seat.task n) (size p.tree) = owed.exact in
              let c = count_some (owes p s.statuses seat.task n) (size p.tree) (omega (arith, some, exact)) in
              spare_childless p core n c.0 spare (is_child_test p.tree n c.0 c.1 (and_parts (is_child p.tree n c.0) _ c.2).0))
        ]
      where
        no_hand : (r : Status) → g n ≡ Waiting w r → is_in_hand seat.hand n ≡ false
        no_hand r at = go seat.hand (seat_ok p replies s g h seat one).hand
          where
            go : (hand : Option Hand) → HandOk p g s.published 0 hand → is_in_hand hand n ≡ false
            go None ok = refl
            go (Some hand) ok = ne_eqb hand.factory n (λ e. waiting_hand w r 0 (sym at ∙ ap g (sym e) ∙ ok.at))

    -- nodes that were claimed lie on one line down the tree, where the task is about one of them
    claimed_line : (n x v w : ℕ) → n < size p.tree → x < size p.tree → n ≢ x → is_about seat.task n ≡ false → status_at s n ≡ Claimed v → status_at s x ≡ Claimed w → (Below p.tree x n → ⊥) → Below p.tree n x
    claimed_line n x v w n_in x_in ne apart at_n at_x not_under =
        elim (at_cases p core.plan n x) [
          | inl r ↦ elim r [ inl e ↦ absurd (ne e) | inr b ↦ b ]
          | inr none ↦ absurd (elim (cases_eq n 0) [
            | inl e ↦ (let pos : 0 < x = omega (arith, e, ne) in none (inr (subst (λ k. Below p.tree k x) (sym e) (below_root p core.plan x pos x_in))))
            | inr nz ↦ elim (cases_eq x 0) [
              | inl e ↦ not_under (subst (λ k. Below p.tree k n) (sym e) (below_root p core.plan n (omega (arith, nz)) n_in))
              | inr xz ↦ apart_so n x n_in x_in apart at_n at_x (omega (arith, nz)) (omega (arith, xz)) none (λ r. elim r [ inl e ↦ ne (sym e) | inr b ↦ not_under b ])
            ]
          ])
        ]
      where
        claimed_at : (a y u : ℕ) → AtOrBelow p.tree a y → y < size p.tree → status_at s y ≡ Claimed u → (o : ℕ) × (status_at s a ≡ Claimed o)
        claimed_at a y u (inl e) lt at = (u, ap (status_at s) e ∙ at)
        claimed_at a y u (inr b) lt at = (let r = above_runs a y b (claimed_live p y (g y) u (sym (h.words y lt) ∙ at)) in (r.0, r.2.1))

        leaf_is : (a y : ℕ) → is_spare_at p.tree a ≡ true → AtOrBelow p.tree a y → a ≡ y
        leaf_is a y spare (inl e) = e
        leaf_is a y spare (inr b) = (let f = first_step p.tree a y b in absurd (spare_childless p core a f.0 spare f.1.0))

        elder_not : (a b u : ℕ) → IsElder p.tree a b → is_spare_at p.tree b ≡ false → status_at s a ≡ Claimed u → (o : ℕ) → status_at s b ≡ Claimed o → ⊥
        elder_not a b u el plain at_a o at_b = settled_claimed u (sym (kept.words.walk a b el plain (ap is_begun at_b)) ∙ at_a)

        apart_so : (n x : ℕ) → n < size p.tree → x < size p.tree → is_about seat.task n ≡ false → status_at s n ≡ Claimed v → status_at s x ≡ Claimed w → 0 < n → 0 < x → (AtOrBelow p.tree n x → ⊥) → (AtOrBelow p.tree x n → ⊥) → ⊥
        apart_so n x n_in x_in apart at_n at_x pos_n pos_x a b =
            let r = branches p core.plan 0 n x (below_root p core.plan n pos_n n_in) (below_root p core.plan x pos_x x_in) (record { one = a; other = b }) in
            let left = claimed_at r.left n v r.at_left n_in at_n in
            let right = claimed_at r.right x w r.at_right x_in at_x in
            elim (cases_Bool (is_spare_at p.tree r.left)) [
              | inl spare ↦ (let e = leaf_is r.left n spare r.at_left in spare_idle n v n_in (ap (is_spare_at p.tree) (sym e) ∙ spare) apart at_n)
              | inr plain_l ↦ (let plain_r : is_spare_at p.tree r.right ≡ false = elim (cases_Bool (is_spare_at p.tree r.right)) [
                | inl y ↦ absurd (both_ways (is_spare_at p.tree r.left) plain_l (core.makers r.top r.left r.left_child (ap (sort_of p.tree) (sym r.right_child.parent) ∙ core.plan.spare_factory r.right y)))
                | inr no' ↦ no'
              ] in
                  elim (cases_lt r.left r.right) [
                    | inl lt ↦ elder_not r.left r.right left.0 (record { parent = r.top; elder = r.left_child; younger = r.right_child; before = lt }) plain_r left.1 right.0 right.1
                    | inr ge ↦ (let ne2 = r.differ in elder_not r.right r.left right.0 (record { parent = r.top; elder = r.right_child; younger = r.left_child; before = omega (arith, ge, ne2) }) plain_l right.1 left.0 left.1)
                  ])
            ]

    -- a node that holds a key, and that the task isn't about, was claimed and holds all its keys
    holds_all : (n place : ℕ) → n < size p.tree → is_about seat.task n ≡ false → place < (picture p n (g n)).keys → (place < keys_count p n) × ((w : ℕ) × (status_at s n ≡ Claimed w))
    holds_all n place lt apart held = go (g n) refl held
      where
        go : (st : Stage) → g n ≡ st → place < (picture p n st).keys → (place < keys_count p n) × ((w : ℕ) × (status_at s n ≡ Claimed w))
        go Unseen at q = absurd (omega (arith, q))
        go (Offered o) at q = absurd (omega (arith, q))
        go (OpenedBy v d) at q = absurd (both_ways (is_about seat.task n) apart (opened_about p replies s g h seat one n v d lt at))
        go (InHand v) at q = (q, (v, h.words n lt ∙ ap (λ st. (picture p n st).word) at))
        go (Waiting v r) at q = (q, (v, h.words n lt ∙ ap (λ st. (picture p n st).word) at))
        go (ClosedBy v c d how) at q = absurd (both_ways (is_about seat.task n) apart (closed_about p replies s g h seat one n v c d how lt at))
        go (Over how) at q = absurd (omega (arith, q))

    module _ (plan : IsPlan p) (x i : ℕ) (e : seat.task ≡ Opens x (Locking i)) where
      task : TaskOk p g 0 (Opens x (Locking i))
      task = subst (TaskOk p g 0) e (seat_ok p replies s g h seat one).task

      place_ok : i < keys_count p x
      place_ok = (let ok : ShapeOk p replies s.published x (OpenedBy 0 (Locking i)) = subst (ShapeOk p replies s.published x) task.1 (h.shapes x task.0) in ok.0)

      -- whoever holds the key that is wanted reads it, and it is wanted to be read and has no limit
      holder_reads : (mode : LockMode) → 0 < holders p g (key_at p x i) mode → (mode ≡ Read) × (mode_at p x i ≡ Read) × (limit_at p x i ≡ 0)
      holder_reads mode some =
          let f = some_holder p g (key_at p x i) mode some in
          by_node f.0 f.1 f.2
        where
          keys_x : (picture p x (g x)).keys ≡ i
          keys_x = ap (λ st. (picture p x st).keys) task.1

          by_node : (n place : ℕ) → IsHolder p g (key_at p x i) mode n place → (mode ≡ Read) × (mode_at p x i ≡ Read) × (limit_at p x i ≡ 0)
          by_node n place holder =
              let held = holder.held in
              elim (cases_eq n x) [
                | inl same ↦ absurd (key_once p plan x place i (let k : (picture p n (g n)).keys ≡ i = ap (λ m. (picture p m (g m)).keys) same ∙ keys_x in omega (arith, held, k)) place_ok (ap (λ m. key_at p m place) (sym same) ∙ holder.key))
                | inr ne ↦ (let apart : is_about seat.task n ≡ false = ap (λ t. is_about t n) e ∙ ne_eqb x n (λ q. ne (sym q)) in
                    let all = holds_all n place holder.inside apart held in
                    let above = claimed_line n x all.1.0 0 holder.inside task.0 ne apart all.1.1 (h.words x task.0 ∙ ap (λ st. (picture p x st).word) task.1)
                    (λ b. not_runs ((above_runs x n b (claimed_live p n (g n) all.1.0 (sym (h.words n holder.inside) ∙ all.1.1))).0) ((above_runs x n b (claimed_live p n (g n) all.1.0 (sym (h.words n holder.inside) ∙ all.1.1))).1)
                    (sym (ap (λ st. (picture p x st).below) task.1) ∙ (above_runs x n b (claimed_live p n (g n) all.1.0 (sym (h.words n holder.inside) ∙ all.1.1))).2.0)) in
                    let r = both_read p plan n x place i above all.0 place_ok holder.key in
                    (sym holder.in_mode ∙ r.0, r.1, shared_unlimited p plan n x place i above all.0 place_ok holder.key))
              ]
            where
              not_runs : (o from : ℕ) → Shut ≡ Runs o from → ⊥
              not_runs o from q = cc

      -- So the key's word admits it.
      pub key_free : admits_at p x i (lock_at s (key_at p x i)) ≡ true
      key_free = go (limit_at p x i) (mode_at p x i) (lock_at s (key_at p x i)) refl refl refl
        where
          write_read : ReadWrite ≡ Read → ⊥
          write_read q = cc

          written : lock_at s (key_at p x i) ≡ Written → ⊥
          written word =
              let n : holders p g (key_at p x i) ReadWrite ≡ 1 = h.locks.counted (key_at p x i) ReadWrite ∙ ap (holders_by ReadWrite) word in
              write_read (holder_reads ReadWrite (omega (arith, n))).0

          read : (n : ℕ) → lock_at s (key_at p x i) ≡ Readers (suc n) → (mode_at p x i ≡ Read) × (limit_at p x i ≡ 0)
          read n word =
              let k : holders p g (key_at p x i) Read ≡ suc n = h.locks.counted (key_at p x i) Read ∙ ap (holders_by Read) word in
              let both = holder_reads Read (omega (arith, k)) in
              (both.1, both.2)

          go : (limit : ℕ) (mode : LockMode) (word : LockWord) → limit_at p x i ≡ limit → mode_at p x i ≡ mode → lock_at s (key_at p x i) ≡ word → admits limit mode word ≡ true
          go zero Read (Readers n) at_limit at_mode at_word = refl
          go (suc limit) Read (Readers zero) at_limit at_mode at_word = free_admits (suc limit)
          go (suc limit) Read (Readers (suc n)) at_limit at_mode at_word = (let none = (read n at_word).1 in absurd (omega (arith, none, at_limit)))
          go limit Read Written at_limit at_mode at_word = absurd (written at_word)
          go limit ReadWrite Written at_limit at_mode at_word = absurd (written at_word)
          go limit ReadWrite (Readers zero) at_limit at_mode at_word = refl
          go limit ReadWrite (Readers (suc n)) at_limit at_mode at_word = absurd (write_read (sym at_mode ∙ (read n at_word).0))
