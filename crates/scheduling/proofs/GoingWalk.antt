-- The fixed schedule walks the tree in the order of its numbers: what comes before the least open node among its siblings is settled.
use Rattle.std.proofs.Common.{◌≡◌, ℕ, zero, suc, ◌<◌, false, List, None, inl, inr, refl, sym, ap, ◌∙◌, subst, arith}
use Rattle.std.proofs.lemmas.Bool.{cases_eq, cases_lt, cases_Bool, both_ways}
use Rattle.descriptor.specs.Nodes.{IsTree, parent_of, IsChild, is_spare_at, Below, child, under}
use Rattle.descriptor.proofs.Between.{between, below_through}
use Rattle.resource_locks.specs.Plans.{PlanParts}
use Rattle.resource_locks.proofs.Lines.{last_step}
use Rattle.event_history.specs.Plans.{IsElder, sort_of}
use Rattle.event_history.proofs.Branches.{below_less}
use Rattle.scheduling.specs.declared.status.NodeStatus.{NodeStatus}
use Rattle.scheduling.specs.declared.status.NodeStatus.TheVariants.{Hidden, Ready, Claimed, Settled}
use Rattle.scheduling.specs.declared.task.Task.TheVariants.{Free}
use Rattle.scheduling.specs.Schedule.{is_open}
use Rattle.scheduling.specs.Inside.Going.{word_of, WordsGo, TurnsGo, CountsGo}
use Rattle.scheduling.specs.Inside.Invariant.{IsCorePlan}
use Rattle.scheduling.proofs.GoingOpen.{ready_open, waits_elder, open_below}

module _ (p : PlanParts) (core : IsCorePlan p) where
  -- a younger sibling is not below an elder
  apart : (a x : ℕ) → IsElder p.tree a x → Below p.tree a x → ⊥
  apart a x el b =
      let up : parent_of p.tree a < a = core.plan.rooted.up a el.elder.above_zero el.elder.inside in
      let same : parent_of p.tree x ≡ parent_of p.tree a = el.younger.parent ∙ sym el.elder.parent in
      elim (last_step p.tree a x b).1 [
        | inl e ↦ omega (arith, up, same, e)
        | inr deeper ↦ (let less = below_less p core.plan a (parent_of p.tree x) deeper in omega (arith, up, same, less))
      ]

  -- what is below an elder comes before a younger sibling
  pub before_sibling : IsTree p.tree → (a x m : ℕ) → IsElder p.tree a x → Below p.tree a m → m < x
  before_sibling tree a x m el (child ch) =
      let lt : a < x = el.before in
      elim (cases_lt m x) [
        | inl less ↦ less
        | inr ge ↦ elim (cases_eq m x) [
          | inl e ↦ absurd (apart a x el (subst (Below p.tree a) e (child ch)))
          | inr ne ↦ (let par : parent_of p.tree x ≡ el.parent = el.younger.parent in let up = core.plan.rooted.up a el.elder.above_zero el.elder.inside in let pm : parent_of p.tree m ≡ a = ch.parent in
              absurd (elim (between p.tree tree x m ch.above_zero ch.inside (omega (arith, pm, lt)) (omega (arith, ge, ne))) [
                | inl e ↦ omega (arith, e, pm, lt)
                | inr b ↦ apart a x el (subst (λ k. Below p.tree k x) pm b)
              ]))
        ]
      ]
  before_sibling tree a x m el (under {c = q} b ch) =
      let lt : q < x = before_sibling tree a x q el b in
      elim (cases_lt m x) [
        | inl less ↦ less
        | inr ge ↦ elim (cases_eq m x) [
          | inl e ↦ absurd (apart a x el (subst (Below p.tree a) e (under b ch)))
          | inr ne ↦ (let pm : parent_of p.tree m ≡ q = ch.parent in
              absurd (elim (between p.tree tree x m ch.above_zero ch.inside (omega (arith, pm, lt)) (omega (arith, ge, ne))) [
                | inl e ↦ omega (arith, e, pm, lt)
                | inr d ↦ apart a x el (below_through p.tree a q x b (subst (λ k. Below p.tree k x) pm d))
              ]))
        ]
      ]

  module _ (tree : IsTree p.tree) (l : List NodeStatus) (counters : List ℕ) (words : WordsGo p l) (turns : TurnsGo p l Free) (counts : CountsGo p l counters Free None) where
    -- Of the least open node each elder is settled, where it is no spare and its parent was claimed.
    pub elders_settled : (x q w : ℕ) → ((m : ℕ) → m < x → is_open (word_of l m) ≡ false) → IsChild p.tree q x → word_of l q ≡ Claimed w → is_spare_at p.tree x ≡ false → (a : ℕ) → IsElder p.tree a x → word_of l a ≡ Settled
    elders_settled x q w first ch claimed plain a el = climb (suc a) a (omega arith) el
      where
        climb : (j a : ℕ) → a < j → IsElder p.tree a x → word_of l a ≡ Settled
        climb zero a lt el = absurd (omega (arith, lt))
        climb (suc j) a lt el = by_word a el (word_of l a) refl (λ d el2 less. climb j d (omega (arith, lt, less)) el2)
          where
            by_word : (a : ℕ) → IsElder p.tree a x → (v : NodeStatus) → word_of l a ≡ v → ((d : ℕ) → IsElder p.tree d x → d < a → word_of l d ≡ Settled) → word_of l a ≡ Settled
            by_word a el Settled at before = at
            by_word a el (Ready o) at before = absurd (both_ways (is_open (word_of l a)) (first a el.before) (ready_open p core l words a o at))
            by_word a el (Claimed v) at before =
                let r = open_below p core l words turns counters counts a v el.elder.inside at in
                absurd (both_ways (is_open (word_of l r.0)) (first r.0 (before_sibling tree a x r.0 el r.1.0)) r.1.1)
            by_word a el Hidden at before =
                let cha : IsChild p.tree q a = subst (λ k. IsChild p.tree k a) (sym el.younger.parent ∙ ch.parent) el.elder in
                let plain_a : is_spare_at p.tree a ≡ false = elim (cases_Bool (is_spare_at p.tree a)) [
                  | inl y ↦ absurd (both_ways (is_spare_at p.tree x) plain (core.makers q x ch (ap (sort_of p.tree) (sym cha.parent) ∙ core.plan.spare_factory a y)))
                  | inr no' ↦ no'
                ] in
                let e = waits_elder p core l words turns q w a claimed cha plain_a at in
                let less : e.0 < a = e.1.0.elder.before in
                let lt : a < x = el.before in
                absurd (e.1.1 (before e.0 (record { parent = q; elder = subst (λ k. IsChild p.tree k e.0) (sym e.1.0.elder.younger.parent ∙ cha.parent) e.1.0.elder.elder; younger = ch; before = omega (arith, less, lt) }) less))
