-- Parts of a move: what a list of words is after one change, where the stage of node x changes from a to b.
use Rattle.std.proofs.Common.{◌≡◌, ◌≢◌, ℕ, zero, suc, ◌+◌, ◌-◌, ◌<◌, ◌≤◌, Bool, true, false, ◌&&◌, ◌==◌, not, nat_lt, ◌||◌, List, length, set, get_or, Option, Some, None, slice_get, slice_index_or, ◌⊎◌, inl, inr, refl, sym, ap, ◌∙◌, arith, length-set, get_or-set_other}
use Rattle.std.proofs.lemmas.Option.{slice_get_within, get_or_from_slice_get}
use Rattle.std.proofs.lemmas.Grind.{get_or-set_at}
use Rattle.std.proofs.lemmas.Bool.{cases_eq, cases_Bool, false≢true, both_ways, and_from, and_left, and_right, eq-eqb, ne_eqb, lt-ltb, ltb-true, eqb-true, or_cases}
use Rattle.descriptor.specs.declared.lock_mode.LockMode.{LockMode}
use Rattle.descriptor.specs.declared.lock_mode.LockMode.TheVariants.{Read, ReadWrite}
use Rattle.descriptor.specs.Nodes.{size, parent_of, IsChild, is_child, is_spare_at, bit}
use Rattle.plan_events.specs.declared.event.Event.{Event}
use Rattle.plan_events.specs.declared.status.Status.{Status}
use Rattle.resource_locks.specs.Plans.{PlanParts, limit_of}
use Rattle.event_history.specs.Plans.{IsPlanTree, is_same}
use Rattle.event_history.specs.Failures.{known, up_to}
use Rattle.scheduling.specs.declared.status.NodeStatus.{NodeStatus}
use Rattle.scheduling.specs.declared.status.NodeStatus.TheVariants.{Hidden}
use Rattle.scheduling.specs.declared.lock_word.LockWord.{LockWord}
use Rattle.scheduling.specs.declared.lock_word.LockWord.TheVariants.{Readers, Written}
use Rattle.scheduling.specs.declared.task.Task.{Task}
use Rattle.scheduling.specs.declared.seat.Hand.{Hand}
use Rattle.scheduling.specs.State.{State}
use Rattle.scheduling.specs.Choices.{admits, admits_at, taken, given_back, key_at, mode_at, limit_at}
use Rattle.scheduling.specs.Inside.Stages.{Stage, Unseen, Offered, OpenedBy, InHand, Waiting, ClosedBy, Over, Below, Shut, Runs, Past, picture, is_unseen, is_live, is_owned, is_pending, is_over, is_unsettled, raises, is_bold}
use Rattle.scheduling.specs.Inside.Invariant.{pends_at, pending, same_mode, is_key, keys_in, holders, holders_by, KeysCount, ResultsOk, Fits, HandOk}
use Rattle.scheduling.proofs.Basics.{upd, upd_same, upd_other, upd_all, count_same, count_change, count_none, sum_change}

-- Statuses
abbrev pub StatusList : PlanParts → List NodeStatus → (ℕ → Stage) → Type 0
StatusList p l g = (length l ≡ size p.tree) × ((n : ℕ) → n < size p.tree → slice_index_or l n Hidden ≡ (picture p n (g n)).word)

pub words_set : (p : PlanParts) (l : List NodeStatus) (g : ℕ → Stage) (x : ℕ) (b : Stage) → StatusList p l g → StatusList p (set l x (picture p x b).word) (upd g x b)
words_set p l g x b old = (
  length-set l x (picture p x b).word ∙ old.0,
  λ n lt.
      elim (cases_eq n x) [
        | inl e ↦ (let len = old.0 in get_or-set_at l x n (picture p x b).word Hidden e (omega (arith, len, lt, e)) ∙ ap (λ (k : ℕ). (picture p k b).word) (sym e) ∙ ap (λ (st : Stage). (picture p n st).word) (sym (upd_same g x b n e)))
        | inr ne ↦ get_or-set_other l x n (picture p x b).word Hidden ne ∙ old.1 n lt ∙ ap (λ (st : Stage). (picture p n st).word) (sym (upd_other g x b n ne))
      ],
)

pub words_keep : (p : PlanParts) (l : List NodeStatus) (g : ℕ → Stage) (x : ℕ) (a b : Stage) → g x ≡ a → (picture p x a).word ≡ (picture p x b).word → StatusList p l g → StatusList p l (upd g x b)
words_keep p l g x a b at same old = (
  old.0,
  λ n lt. upd_all (λ k st. slice_index_or l k Hidden ≡ (picture p k st).word) g x b n
      (λ e. old.1 n lt ∙ ap (λ (k : ℕ). (picture p k (g k)).word) e ∙ ap (λ (st : Stage). (picture p x st).word) at ∙ same ∙ ap (λ (k : ℕ). (picture p k b).word) (sym e)) (λ _. old.1 n lt),
)

-- Results
pub results_keep : (p : PlanParts) (s : State) (g : ℕ → Stage) (x : ℕ) (b : Stage) → ((c : ℕ) (r : Status) → b ≡ Waiting c r → ⊥) → ResultsOk p s g → ResultsOk p s (upd g x b)
results_keep p s g x b not old n c r lt at = elim (cases_eq n x) [ inl e ↦ absurd (not c r (sym (upd_same g x b n e) ∙ at)) | inr ne ↦ old n c r lt (sym (upd_other g x b n ne) ∙ at) ]

-- Counters
pends_other : (p : PlanParts) (g : ℕ → Stage) (x : ℕ) (b : Stage) (a k : ℕ) → k ≢ x → pends_at p (upd g x b) a k ≡ pends_at p g a k
pends_other p g x b a k ne = ap (λ (st : Stage). is_child p.tree a k && is_pending (is_spare_at p.tree k) st) (upd_other g x b k ne)

pub pending_keep : (p : PlanParts) (g : ℕ → Stage) (x : ℕ) (b : Stage) (a : ℕ) → is_pending (is_spare_at p.tree x) (g x) ≡ is_pending (is_spare_at p.tree x) b → pending p (upd g x b) a ≡ pending p g a
unfolding pending
pending_keep p g x b a same =
    count_same (pends_at p (upd g x b) a) (pends_at p g a) (size p.tree) (λ k lt. upd_all (λ j st. (is_child p.tree a j && is_pending (is_spare_at p.tree j) st) ≡ pends_at p g a j) g x b k
    (λ e. ap (λ (t : Bool). is_child p.tree a k && t) (ap (λ (j : ℕ). is_pending (is_spare_at p.tree j) b) e ∙ sym same ∙ ap (λ (j : ℕ). is_pending (is_spare_at p.tree j) (g j)) (sym e))) (λ _. refl))

-- for a node that is not the parent nothing changes
pub pending_elsewhere : (p : PlanParts) (g : ℕ → Stage) (x : ℕ) (b : Stage) (a : ℕ) → is_child p.tree a x ≡ false → pending p (upd g x b) a ≡ pending p g a
unfolding pending
pending_elsewhere p g x b a not =
    count_same (pends_at p (upd g x b) a) (pends_at p g a) (size p.tree) (λ k lt. upd_all (λ j st. (is_child p.tree a j && is_pending (is_spare_at p.tree j) st) ≡ pends_at p g a j) g x b k
    (λ e. (let f : is_child p.tree a k ≡ false = ap (is_child p.tree a) e ∙ not in and_left (is_child p.tree a k) _ f ∙ sym (and_left (is_child p.tree a k) _ f))) (λ _. refl))

test_child : (p : PlanParts) (a x : ℕ) → IsChild p.tree a x → is_child p.tree a x ≡ true
test_child p a x ch = and_from (nat_lt 0 x) (parent_of p.tree x == a) (lt-ltb 0 x ch.above_zero) (eq-eqb (parent_of p.tree x) a ch.parent)

-- at the parent
pub pending_change : (p : PlanParts) (g : ℕ → Stage) (x : ℕ) (b : Stage) (a : ℕ) → IsChild p.tree a x → pending p g a + bit (is_pending (is_spare_at p.tree x) b) ≡ pending p (upd g x b) a + bit (is_pending (is_spare_at p.tree x) (g x))
unfolding pending
pending_change p g x b a ch =
    let change = count_change (pends_at p g a) (pends_at p (upd g x b) a) x (size p.tree) ch.inside (λ k ne. sym (pends_other p g x b a k ne)) in
    let c : is_child p.tree a x ≡ true = test_child p a x ch in
    let u : bit (pends_at p g a x) ≡ bit (is_pending (is_spare_at p.tree x) (g x)) = ap (λ (t : Bool). bit (t && is_pending (is_spare_at p.tree x) (g x))) c in
    let v : bit (pends_at p (upd g x b) a x) ≡ bit (is_pending (is_spare_at p.tree x) b) = ap (λ (t : Bool). bit (t && is_pending (is_spare_at p.tree x) (upd g x b x))) c ∙ ap (λ (st : Stage). bit (is_pending (is_spare_at p.tree x) st)) (upd_same g x b x refl) in
    omega (arith, change, u, v)

pub pending_none : (p : PlanParts) (g : ℕ → Stage) (a c : ℕ) → pending p g a ≡ 0 → IsChild p.tree a c → is_over (is_spare_at p.tree c) (g c) ≡ true
unfolding pending
pending_none p g a c z ch =
    let off : pends_at p g a c ≡ false = count_none (pends_at p g a) (size p.tree) z c ch.inside in
    over (is_spare_at p.tree c) (g c) (elim (cases_Bool (is_pending (is_spare_at p.tree c) (g c))) [
      | inl y ↦ absurd (both_ways (pends_at p g a c) off (and_from (is_child p.tree a c) _ (test_child p a c ch) y))
      | inr n ↦ n
    ])
  where
    over : (spare : Bool) (st : Stage) → is_pending spare st ≡ false → is_over spare st ≡ true
    over true Unseen q = refl
    over false Unseen q = absurd (false≢true (sym q))
    over spare (Offered o) q = absurd (false≢true (sym q))
    over spare (OpenedBy w d) q = absurd (false≢true (sym q))
    over spare (InHand w) q = absurd (false≢true (sym q))
    over spare (Waiting d r) q = absurd (false≢true (sym q))
    over spare (ClosedBy w d e how) q = absurd (false≢true (sym q))
    over spare (Over how) q = refl

abbrev pub CounterList : PlanParts → List ℕ → (ℕ → Stage) → Type 0
CounterList p l g = (length l ≡ size p.tree) × ((n : ℕ) → n < size p.tree → slice_index_or l n 0 ≡ (picture p n (g n)).guard + pending p g n)

pub counters_keep : (p : PlanParts) (l : List ℕ) (g : ℕ → Stage) (x : ℕ) (a b : Stage) → g x ≡ a → (picture p x a).guard ≡ (picture p x b).guard → is_pending (is_spare_at p.tree x) a ≡ is_pending (is_spare_at p.tree x) b → CounterList p l g → CounterList p l (upd g x b)
counters_keep p l g x a b at guard pend old = (
  old.0,
  λ n lt.
      (let k = pending_keep p g x b n (ap (is_pending (is_spare_at p.tree x)) at ∙ pend) in
      let o = old.1 n lt in
      let v : (picture p n (upd g x b n)).guard ≡ (picture p n (g n)).guard = upd_all (λ j st. (picture p j st).guard ≡ (picture p j (g j)).guard) g x b n
      (λ e. ap (λ (j : ℕ). (picture p j b).guard) e ∙ sym guard ∙ ap (λ (st : Stage). (picture p x st).guard) (sym at) ∙ ap (λ (j : ℕ). (picture p j (g j)).guard) (sym e)) (λ _. refl) in
      omega (arith, k, o, v)),
)

-- the node's own guard is given up
pub counters_give : (p : PlanParts) (l : List ℕ) (g : ℕ → Stage) (x : ℕ) (a b : Stage) → x < size p.tree → g x ≡ a → (picture p x a).guard ≡ 1 → (picture p x b).guard ≡ 0 → is_pending (is_spare_at p.tree x) a ≡ is_pending (is_spare_at p.tree x) b
    → CounterList p l g → CounterList p (set l x (get_or l x 0 - 1)) (upd g x b)
counters_give p l g x a b inside at was is pend old = (
  length-set l x (get_or l x 0 - 1) ∙ old.0,
  λ n lt.
      (let k = pending_keep p g x b n (ap (is_pending (is_spare_at p.tree x)) at ∙ pend) in
      let o = old.1 n lt in
      let len = old.0 in
      elim (cases_eq n x) [
        | inl e ↦ (let now : get_or (set l x (get_or l x 0 - 1)) n 0 ≡ get_or l x 0 - 1 = get_or-set_at l x n (get_or l x 0 - 1) 0 e (omega (arith, len, inside)) in
            let u : (picture p n (upd g x b n)).guard ≡ 0 = ap (λ (st : Stage). (picture p n st).guard) (upd_same g x b n e) ∙ ap (λ (j : ℕ). (picture p j b).guard) e ∙ is in
            let v : (picture p n (g n)).guard ≡ 1 = ap (λ (j : ℕ). (picture p j (g j)).guard) e ∙ ap (λ (st : Stage). (picture p x st).guard) at ∙ was in
            let o2 : get_or l n 0 ≡ get_or l x 0 = ap (λ (j : ℕ). get_or l j 0) e in
            omega (arith, k, o, o2, now, u, v))
        | inr ne ↦ (let now : get_or (set l x (get_or l x 0 - 1)) n 0 ≡ get_or l n 0 = get_or-set_other l x n (get_or l x 0 - 1) 0 ne in
            let v : (picture p n (upd g x b n)).guard ≡ (picture p n (g n)).guard = ap (λ (st : Stage). (picture p n st).guard) (upd_other g x b n ne) in
            omega (arith, k, o, now, v))
      ]),
)

-- a child is counted off, or comes to be counted: the parent's counter goes from its value to v
pub counters_child : (p : PlanParts) (l : List ℕ) (g : ℕ → Stage) (par x v : ℕ) (a b : Stage) → IsPlanTree p.tree → par < size p.tree → IsChild p.tree par x → g x ≡ a → (picture p x a).guard ≡ (picture p x b).guard
    → v + bit (is_pending (is_spare_at p.tree x) a) ≡ get_or l par 0 + bit (is_pending (is_spare_at p.tree x) b) → CounterList p l g → CounterList p (set l par v) (upd g x b)
counters_child p l g par x v a b plan inside ch at guard change old = (
  length-set l par v ∙ old.0,
  λ n lt.
      (let o = old.1 n lt in
      let len = old.0 in
      let u : (picture p n (upd g x b n)).guard ≡ (picture p n (g n)).guard = upd_all (λ j st. (picture p j st).guard ≡ (picture p j (g j)).guard) g x b n
      (λ e. ap (λ (j : ℕ). (picture p j b).guard) e ∙ sym guard ∙ ap (λ (st : Stage). (picture p x st).guard) (sym at) ∙ ap (λ (j : ℕ). (picture p j (g j)).guard) (sym e)) (λ _. refl) in
      elim (cases_eq n par) [
        | inl e ↦ (let now : get_or (set l par v) n 0 ≡ v = get_or-set_at l par n v 0 e (omega (arith, len, inside)) in
            let o2 : get_or l n 0 ≡ get_or l par 0 = ap (λ (j : ℕ). get_or l j 0) e in
            let pc = pending_change p g x b par ch in
            let pa : bit (is_pending (is_spare_at p.tree x) (g x)) ≡ bit (is_pending (is_spare_at p.tree x) a) = ap (λ (st : Stage). bit (is_pending (is_spare_at p.tree x) st)) at in
            let p1 : pending p g n ≡ pending p g par = ap (pending p g) e in
            let p2 : pending p (upd g x b) n ≡ pending p (upd g x b) par = ap (pending p (upd g x b)) e in
            omega (arith, o, o2, now, pc, pa, p1, p2, u, change))
        | inr ne ↦ (let now : get_or (set l par v) n 0 ≡ get_or l n 0 = get_or-set_other l par n v 0 ne in
            let k = pending_elsewhere p g x b n (and_right (nat_lt 0 x) (parent_of p.tree x == n) (ne_eqb (parent_of p.tree x) n (λ q. ne (sym q ∙ ch.parent)))) in
            omega (arith, o, now, k, u))
      ]),
)

-- Locks
abbrev pub LockList : PlanParts → List LockWord → (ℕ → Stage) → Type 0
LockList p l g = KeysCount p l g

pub holders_change : (p : PlanParts) (g : ℕ → Stage) (x : ℕ) (a b : Stage) (k : ℕ) (mode : LockMode) → x < size p.tree → g x ≡ a
    → holders p g k mode + keys_in p k mode x (picture p x b).keys ≡ holders p (upd g x b) k mode + keys_in p k mode x (picture p x a).keys
unfolding holders
holders_change p g x a b k mode inside at =
    let change = sum_change (λ n. keys_in p k mode n (picture p n (g n)).keys) (λ n. keys_in p k mode n (picture p n (upd g x b n)).keys) x (size p.tree) inside (λ j ne. ap (λ (st : Stage). keys_in p k mode j (picture p j st).keys) (sym (upd_other g x b j ne))) in
    let u : keys_in p k mode x (picture p x (upd g x b x)).keys ≡ keys_in p k mode x (picture p x b).keys = ap (λ (st : Stage). keys_in p k mode x (picture p x st).keys) (upd_same g x b x refl) in
    let v : keys_in p k mode x (picture p x (g x)).keys ≡ keys_in p k mode x (picture p x a).keys = ap (λ (st : Stage). keys_in p k mode x (picture p x st).keys) at in
    omega (arith, change, u, v)

pub locks_keep : (p : PlanParts) (l : List LockWord) (g : ℕ → Stage) (x : ℕ) (a b : Stage) → x < size p.tree → g x ≡ a → (picture p x a).keys ≡ (picture p x b).keys → LockList p l g → LockList p l (upd g x b)
locks_keep p l g x a b inside at same old = record {
  counted = λ k mode. (let c = holders_change p g x a b k mode inside at in
      let o = old.counted k mode in
      let e : keys_in p k mode x (picture p x a).keys ≡ keys_in p k mode x (picture p x b).keys = ap (keys_in p k mode x) same in
      omega (arith, c, o, e));
  limited = old.limited;
}

-- one key more, or one less
one_key : (p : PlanParts) (k : ℕ) (mode : LockMode) (x i : ℕ) → keys_in p k mode x (suc i) ≡ bit (is_key p k mode x i) + keys_in p k mode x i
unfolding keys_in
one_key p k mode x i = refl

key_elsewhere : (p : PlanParts) (k : ℕ) (mode : LockMode) (x i : ℕ) → k ≢ key_at p x i → bit (is_key p k mode x i) ≡ 0
key_elsewhere p k mode x i ne = ap bit (and_left (key_at p x i == k) (same_mode (mode_at p x i) mode) (ne_eqb (key_at p x i) k (λ e. ne (sym e))))

key_here : (p : PlanParts) (k : ℕ) (mode : LockMode) (x i : ℕ) → k ≡ key_at p x i → bit (is_key p k mode x i) ≡ bit (same_mode (mode_at p x i) mode)
key_here p k mode x i e = ap (λ (t : Bool). bit (t && same_mode (mode_at p x i) mode)) (eq-eqb (key_at p x i) k (sym e))

taken_is : (limit : ℕ) (m mode : LockMode) (word : LockWord) → admits limit m word ≡ true → holders_by mode (taken m word) ≡ holders_by mode word + bit (same_mode m mode)
taken_is limit Read Read (Readers n) q = refl
taken_is limit Read ReadWrite (Readers n) q = refl
taken_is limit Read mode Written q = absurd (false≢true q)
taken_is limit ReadWrite Read (Readers n) q = zero_of n q
  where
    zero_of : (n : ℕ) → (n == 0) ≡ true → 0 ≡ n + 0
    zero_of n q = (let e : n ≡ 0 = eqb-true n 0 q in omega (arith, e))
taken_is limit ReadWrite ReadWrite (Readers n) q = refl
taken_is limit ReadWrite mode Written q = absurd (false≢true q)

-- of a key that has a limit no more read it than that
taken_few : (limit : ℕ) (m : LockMode) (word : LockWord) → 0 < limit → admits limit m word ≡ true → holders_by Read (taken m word) ≤ limit
taken_few limit Read (Readers n) some q =
    elim (or_cases (limit == 0) (nat_lt n limit) q) [
      | inl z ↦ (let none : limit ≡ 0 = eqb-true limit 0 z in absurd (omega (arith, none, some)))
      | inr lt ↦ (let less : n < limit = ltb-true n limit lt in omega (arith, less))
    ]
taken_few limit Read Written some q = absurd (false≢true q)
taken_few limit ReadWrite word some q = omega arith

pub locks_take : (p : PlanParts) (l : List LockWord) (g : ℕ → Stage) (x i : ℕ) (a b : Stage) (word : LockWord) → x < size p.tree → g x ≡ a → (picture p x a).keys ≡ i → (picture p x b).keys ≡ suc i → slice_get l (key_at p x i) ≡ Some word → admits_at p x i word ≡ true
    → LockList p l g → LockList p (set l (key_at p x i) (taken (mode_at p x i) word)) (upd g x b)
locks_take p l g x i a b word inside at ka kb found ok old = record { counted = taken_count; limited = taken_limit }
  where
    taken_count : (k : ℕ) (mode : LockMode) → holders p (upd g x b) k mode ≡ holders_by mode (slice_index_or (set l (key_at p x i) (taken (mode_at p x i) word)) k (Readers 0))
    taken_count k mode =
        let c = holders_change p g x a b k mode inside at in
        let o = old.counted k mode in
        let e : keys_in p k mode x (picture p x a).keys ≡ keys_in p k mode x i = ap (keys_in p k mode x) ka in
        let f : keys_in p k mode x (picture p x b).keys ≡ bit (is_key p k mode x i) + keys_in p k mode x i = ap (keys_in p k mode x) kb ∙ one_key p k mode x i in
        elim (cases_eq k (key_at p x i)) [
          | inl q ↦ (let within = slice_get_within l (key_at p x i) word found in
              let now : get_or (set l (key_at p x i) (taken (mode_at p x i) word)) k (Readers 0) ≡ taken (mode_at p x i) word = get_or-set_at l (key_at p x i) k (taken (mode_at p x i) word) (Readers 0) q within in
              let was : get_or l k (Readers 0) ≡ word = ap (λ (j : ℕ). get_or l j (Readers 0)) q ∙ get_or_from_slice_get l (key_at p x i) word (Readers 0) found in
              let u : holders_by mode (get_or (set l (key_at p x i) (taken (mode_at p x i) word)) k (Readers 0)) ≡ holders_by mode word + bit (same_mode (mode_at p x i) mode) = ap (holders_by mode) now ∙ taken_is (limit_at p x i) (mode_at p x i) mode word ok in
              let v : holders_by mode (get_or l k (Readers 0)) ≡ holders_by mode word = ap (holders_by mode) was in
              let z = key_here p k mode x i q in
              omega (arith, c, o, e, f, u, v, z))
          | inr ne ↦ (let z = key_elsewhere p k mode x i ne in
              let u : holders_by mode (get_or (set l (key_at p x i) (taken (mode_at p x i) word)) k (Readers 0)) ≡ holders_by mode (get_or l k (Readers 0)) = ap (holders_by mode) (get_or-set_other l (key_at p x i) k (taken (mode_at p x i) word) (Readers 0) ne) in
              omega (arith, c, o, e, f, u, z))
        ]

    taken_limit : (k : ℕ) → 0 < limit_of p k → holders_by Read (slice_index_or (set l (key_at p x i) (taken (mode_at p x i) word)) k (Readers 0)) ≤ limit_of p k
    taken_limit k some =
        elim (cases_eq k (key_at p x i)) [
          | inl q ↦ (let now : get_or (set l (key_at p x i) (taken (mode_at p x i) word)) k (Readers 0) ≡ taken (mode_at p x i) word = get_or-set_at l (key_at p x i) k (taken (mode_at p x i) word) (Readers 0) q (slice_get_within l (key_at p x i) word found) in
              let u : holders_by Read (get_or (set l (key_at p x i) (taken (mode_at p x i) word)) k (Readers 0)) ≡ holders_by Read (taken (mode_at p x i) word) = ap (holders_by Read) now in
              let v : limit_of p k ≡ limit_at p x i = ap (limit_of p) q in
              let few = taken_few (limit_at p x i) (mode_at p x i) word (omega (arith, some, v)) ok in
              omega (arith, u, v, few))
          | inr ne ↦ (let u : holders_by Read (get_or (set l (key_at p x i) (taken (mode_at p x i) word)) k (Readers 0)) ≡ holders_by Read (get_or l k (Readers 0)) = ap (holders_by Read) (get_or-set_other l (key_at p x i) k (taken (mode_at p x i) word) (Readers 0) ne) in
              let few = old.limited k some in
              omega (arith, u, few))
        ]

given_is : (m mode : LockMode) (word : LockWord) → 1 ≤ holders_by m word → holders_by mode (given_back m word) + bit (same_mode m mode) ≡ holders_by mode word
given_is Read Read (Readers zero) le = absurd (omega (arith, le))
given_is Read Read (Readers (suc n)) le = omega arith
given_is Read ReadWrite (Readers n) le = refl
given_is Read mode Written le = absurd (omega (arith, le))
given_is ReadWrite mode (Readers n) le = absurd (omega (arith, le))
given_is ReadWrite Read Written le = refl
given_is ReadWrite ReadWrite Written le = refl

-- and a key that is given back is read by no more
given_few : (m : LockMode) (word : LockWord) → holders_by Read (given_back m word) ≤ holders_by Read word
given_few Read (Readers zero) = omega arith
given_few Read (Readers (suc n)) = omega arith
given_few Read Written = omega arith
given_few ReadWrite word = omega arith

pub locks_give : (p : PlanParts) (l : List LockWord) (g : ℕ → Stage) (x i : ℕ) (a b : Stage) (word : LockWord) → x < size p.tree → g x ≡ a → (picture p x a).keys ≡ suc i → (picture p x b).keys ≡ i → slice_get l (key_at p x i) ≡ Some word
    → LockList p l g → LockList p (set l (key_at p x i) (given_back (mode_at p x i) word)) (upd g x b)
locks_give p l g x i a b word inside at ka kb found old = record { counted = given_count; limited = given_limit }
  where
    same_refl : (m : LockMode) → bit (same_mode m m) ≡ 1
    same_refl Read = refl
    same_refl ReadWrite = refl

    some_held : 1 ≤ holders_by (mode_at p x i) word
    some_held =
        let m = mode_at p x i in
        let c = holders_change p g x a b (key_at p x i) (mode_at p x i) inside at in
        let o = old.counted (key_at p x i) (mode_at p x i) in
        let was : holders_by (mode_at p x i) (get_or l (key_at p x i) (Readers 0)) ≡ holders_by (mode_at p x i) word = ap (holders_by (mode_at p x i)) (get_or_from_slice_get l (key_at p x i) word (Readers 0) found) in
        let e : keys_in p (key_at p x i) (mode_at p x i) x (picture p x b).keys ≡ keys_in p (key_at p x i) (mode_at p x i) x i = ap (keys_in p (key_at p x i) (mode_at p x i) x) kb in
        let f : keys_in p (key_at p x i) (mode_at p x i) x (picture p x a).keys ≡ bit (is_key p (key_at p x i) (mode_at p x i) x i) + keys_in p (key_at p x i) (mode_at p x i) x i = ap (keys_in p (key_at p x i) (mode_at p x i) x) ka ∙ one_key p (key_at p x i) (mode_at p x i) x i in
        let z = key_here p (key_at p x i) (mode_at p x i) x i refl in
        let y = same_refl (mode_at p x i) in
        omega (arith, c, o, was, e, f, z, y)

    given_count : (k : ℕ) (mode : LockMode) → holders p (upd g x b) k mode ≡ holders_by mode (slice_index_or (set l (key_at p x i) (given_back (mode_at p x i) word)) k (Readers 0))
    given_count k mode =
        let c = holders_change p g x a b k mode inside at in
        let o = old.counted k mode in
        let e : keys_in p k mode x (picture p x b).keys ≡ keys_in p k mode x i = ap (keys_in p k mode x) kb in
        let f : keys_in p k mode x (picture p x a).keys ≡ bit (is_key p k mode x i) + keys_in p k mode x i = ap (keys_in p k mode x) ka ∙ one_key p k mode x i in
        elim (cases_eq k (key_at p x i)) [
          | inl q ↦ (let within = slice_get_within l (key_at p x i) word found in
              let now : get_or (set l (key_at p x i) (given_back (mode_at p x i) word)) k (Readers 0) ≡ given_back (mode_at p x i) word = get_or-set_at l (key_at p x i) k (given_back (mode_at p x i) word) (Readers 0) q within in
              let was : get_or l k (Readers 0) ≡ word = ap (λ (j : ℕ). get_or l j (Readers 0)) q ∙ get_or_from_slice_get l (key_at p x i) word (Readers 0) found in
              let u : holders_by mode (get_or (set l (key_at p x i) (given_back (mode_at p x i) word)) k (Readers 0)) ≡ holders_by mode (given_back (mode_at p x i) word) = ap (holders_by mode) now in
              let v : holders_by mode (get_or l k (Readers 0)) ≡ holders_by mode word = ap (holders_by mode) was in
              let y = given_is (mode_at p x i) mode word some_held in
              let z = key_here p k mode x i q in
              omega (arith, c, o, e, f, u, v, y, z))
          | inr ne ↦ (let z = key_elsewhere p k mode x i ne in
              let u : holders_by mode (get_or (set l (key_at p x i) (given_back (mode_at p x i) word)) k (Readers 0)) ≡ holders_by mode (get_or l k (Readers 0)) = ap (holders_by mode) (get_or-set_other l (key_at p x i) k (given_back (mode_at p x i) word) (Readers 0) ne) in
              omega (arith, c, o, e, f, u, z))
        ]

    given_limit : (k : ℕ) → 0 < limit_of p k → holders_by Read (slice_index_or (set l (key_at p x i) (given_back (mode_at p x i) word)) k (Readers 0)) ≤ limit_of p k
    given_limit k some =
        let few = old.limited k some in
        elim (cases_eq k (key_at p x i)) [
          | inl q ↦ (let now : get_or (set l (key_at p x i) (given_back (mode_at p x i) word)) k (Readers 0) ≡ given_back (mode_at p x i) word = get_or-set_at l (key_at p x i) k (given_back (mode_at p x i) word) (Readers 0) q (slice_get_within l (key_at p x i) word found) in
              let was : get_or l k (Readers 0) ≡ word = ap (λ (j : ℕ). get_or l j (Readers 0)) q ∙ get_or_from_slice_get l (key_at p x i) word (Readers 0) found in
              let u : holders_by Read (get_or (set l (key_at p x i) (given_back (mode_at p x i) word)) k (Readers 0)) ≡ holders_by Read (given_back (mode_at p x i) word) = ap (holders_by Read) now in
              let v : holders_by Read (get_or l k (Readers 0)) ≡ holders_by Read word = ap (holders_by Read) was in
              let less = given_few (mode_at p x i) word in
              omega (arith, u, v, less, few))
          | inr ne ↦ (let u : holders_by Read (get_or (set l (key_at p x i) (given_back (mode_at p x i) word)) k (Readers 0)) ≡ holders_by Read (get_or l k (Readers 0)) = ap (holders_by Read) (get_or-set_other l (key_at p x i) k (given_back (mode_at p x i) word) (Readers 0) ne) in
              omega (arith, u, few))
        ]

-- Edges: a node that is live goes on
pub live_seen : (st : Stage) → is_live st ≡ true → is_unseen st ≡ false
live_seen Unseen q = absurd (false≢true q)
live_seen (Offered o) q = refl
live_seen (OpenedBy w d) q = refl
live_seen (InHand w) q = refl
live_seen (Waiting c r) q = refl
live_seen (ClosedBy w c d how) q = refl
live_seen (Over how) q = refl

live_over : (spare : Bool) (st : Stage) → is_live st ≡ true → is_over spare st ≡ false
live_over spare Unseen q = absurd (false≢true q)
live_over spare (Offered o) q = refl
live_over spare (OpenedBy w d) q = refl
live_over spare (InHand w) q = refl
live_over spare (Waiting c r) q = refl
live_over spare (ClosedBy w c d how) q = refl
live_over spare (Over how) q = absurd (false≢true q)

pub fits_live : (p : PlanParts) (below : Below) (a x : ℕ) (st st2 : Stage) → is_live st ≡ true → (is_same p x ≡ true → (o from : ℕ) → below ≡ Runs o from → is_owned o st ≡ true → is_owned o st2 ≡ true) → Fits p below a x st → Fits p below a x st2
fits_live p Shut a x st st2 live own old = absurd (both_ways (is_unseen st) (live_seen st live) old)
fits_live p (Runs o from) a x st st2 live own old = record { rest = λ u v. absurd (both_ways (is_unseen st) (live_seen st live) (old.rest u v)); owned = λ same. own same o from refl (old.owned same) }
fits_live p Past a x st st2 live own old = absurd (both_ways (is_over (is_spare_at p.tree x) st) (live_over (is_spare_at p.tree x) st live) old)

-- a parent of a live node runs its children
pub fits_runs : (p : PlanParts) (below : Below) (a x : ℕ) (st : Stage) → is_live st ≡ true → Fits p below a x st → (o : ℕ) × (from : ℕ) × (below ≡ Runs o from)
fits_runs p Shut a x st live old = absurd (both_ways (is_unseen st) (live_seen st live) old)
fits_runs p (Runs o from) a x st live old = (o, from, refl)
fits_runs p Past a x st live old = absurd (both_ways (is_over (is_spare_at p.tree x) st) (live_over (is_spare_at p.tree x) st live) old)

-- Seats: the worker goes on, with the same hand
pub own_hand : (p : PlanParts) (g : ℕ → Stage) (h : List Event) (w x : ℕ) (a b : Stage) (hand : Option Hand) → g x ≡ a → (a ≡ InHand w → ⊥) → (is_unsettled b ≡ true → is_unsettled a ≡ true) → HandOk p g h w hand → HandOk p (upd g x b) h w hand
own_hand p g h w x a b None at not quiet old = tt
own_hand p g h w x a b (Some hand) at not quiet old = record {
  inside = old.inside;
  at = upd_other g x b hand.factory (λ e. not (sym at ∙ ap g (sym e) ∙ old.at)) ∙ old.at;
  count = old.count;
  waits = λ c ch same unsettled. elim (cases_eq c x) [
    | inl e ↦ old.waits c ch same (ap is_unsettled (ap g e ∙ at) ∙ quiet (ap is_unsettled (sym (upd_same g x b c e)) ∙ unsettled))
    | inr nc ↦ old.waits c ch same (ap is_unsettled (sym (upd_other g x b c nc)) ∙ unsettled)
  ];
}

-- fail-fast: who starts a node without a look at the cancel word knew of few failures at its last event
abbrev pub QuitStep : PlanParts → List Event → ℕ → (t t2 : Task) → Type 0
QuitStep p h w t t2 = p.fail_fast ≡ true → (is_bold t ≡ true → known (w + 1) (up_to (w + 1) h) ≤ p.tolerated) → is_bold t2 ≡ true → known (w + 1) (up_to (w + 1) h) ≤ p.tolerated

pub quit_calm : (p : PlanParts) (h : List Event) (w : ℕ) (t t2 : Task) → is_bold t2 ≡ false → QuitStep p h w t t2
quit_calm p h w t t2 b ff old bold = absurd (both_ways (is_bold t2) b bold)

pub quit_same : (p : PlanParts) (h : List Event) (w : ℕ) (t t2 : Task) → is_bold t2 ≡ is_bold t → QuitStep p h w t t2
quit_same p h w t t2 b ff old bold = old (sym b ∙ bold)
