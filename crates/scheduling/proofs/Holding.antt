-- The keys of the nodes that run: a node that has started holds all of its keys, so with one more that starts no more nodes
-- hold a key than its limit says.
use Rattle.std.proofs.Common.{◌≡◌, ◌≢◌, ℕ, zero, suc, ◌+◌, ◌<◌, ◌≤◌, Bool, true, false, ◌&&◌, ◌||◌, ◌==◌, not, nat_lt, List, [], ◌∷◌, length, Option, Some, None, slice_get, inl, inr, refl, sym, ap, ◌∙◌, subst, arith}
use Rattle.std.proofs.lemmas.Option.{slice_get_within, get_or_from_slice_get}
use Rattle.std.proofs.lemmas.Bool.{cases_Bool, cases_eq, false≢true, and_parts, and_from, or_cases, or_left, or_right, eqb-true, eq-eqb, lt-ltb}
use Rattle.descriptor.specs.declared.lock_mode.LockMode.{LockMode}
use Rattle.descriptor.specs.declared.lock_mode.LockMode.TheVariants.{Read, ReadWrite}
use Rattle.descriptor.specs.declared.lock.Lock.{Lock}
use Rattle.descriptor.specs.Nodes.{size, is_spare_at, bit, count_below}
use Rattle.plan_events.specs.declared.event.EventKind.{EventKind}
use Rattle.plan_events.specs.declared.event.EventKind.TheVariants.{Started, Finished, Skipped, Registered}
use Rattle.plan_events.specs.declared.outcome.Reply.{Reply}
use Rattle.resource_locks.specs.Wants.{HasLock}
use Rattle.resource_locks.specs.Plans.{PlanParts, held_of, limit_of, limit_for}
use Rattle.event_history.specs.Places.{has}
use Rattle.event_history.specs.Limits.{holds_key, is_running}
use Rattle.event_history.specs.Inside.Following.{holders_with}
use Rattle.event_history.proofs.Limits.{key_held, not_false}
use Rattle.event_history.proofs.Places.{has_stands}
use Rattle.scheduling.specs.declared.lock_word.LockWord.{LockWord}
use Rattle.scheduling.specs.declared.lock_word.LockWord.TheVariants.{Readers, Written}
use Rattle.scheduling.specs.declared.task.Opening.TheVariants.{StartedAt, Beginning, Awaiting, Admitting, Guarding}
use Rattle.scheduling.specs.declared.task.Closing.{Closing}
use Rattle.scheduling.specs.declared.task.Closing.TheVariants.{AwaitingAfter, Ending, FinishedAt, SkippedAt, Raising, Giving, Settling, Looking, Passing, CountingOff}
use Rattle.scheduling.specs.State.{State, lock_at}
use Rattle.scheduling.specs.Choices.{key_place, key_at, mode_at, lock_of, keys_count, admits}
use Rattle.scheduling.specs.Inside.Stages.{How, Gave, Kept, Skips, Stage, OpenedBy, InHand, Waiting, ClosedBy, Over, Mark, Blank, Known, Begun, Ended, Passed, has_mark, picture, closing_picture, mark_of}
use Rattle.scheduling.specs.Inside.Invariant.{same_mode, is_key, keys_in, sum_below, holders, holders_by, Holds}
use Rattle.scheduling.proofs.Basics.{count_some}

-- a node that has started, and not finished, holds all of its keys
pub begun_keys : (p : PlanParts) (n : ℕ) (st : Stage) → has_mark true Started (picture p n st).mark ≡ true → has_mark true Finished (picture p n st).mark ≡ false → (picture p n st).keys ≡ keys_count p n
begun_keys p n (OpenedBy w (StartedAt i)) q r = refl
begun_keys p n (OpenedBy w Awaiting) q r = refl
begun_keys p n (OpenedBy w (Admitting c)) q r = refl
begun_keys p n (OpenedBy w Guarding) q r = refl
begun_keys p n (OpenedBy w (Beginning true)) q r = absurd (false≢true q)
begun_keys p n (OpenedBy w (Beginning false)) q r = absurd (false≢true q)
begun_keys p n (InHand w) q r = refl
begun_keys p n (Waiting c t) q r = refl
begun_keys p n (ClosedBy w c d how) q r = closed d how q r
  where
    ended : (how : How) → has_mark true Started (mark_of how) ≡ true → has_mark true Finished (mark_of how) ≡ false → ⊥
    ended Gave q r = false≢true (sym r)
    ended Kept q r = false≢true (sym r)
    ended Skips q r = false≢true q

    closed : (d : Closing) (how : How) → has_mark true Started (closing_picture p n c d how).mark ≡ true → has_mark true Finished (closing_picture p n c d how).mark ≡ false → (closing_picture p n c d how).keys ≡ keys_count p n
    closed AwaitingAfter how q r = refl
    closed (Ending s) how q r = refl
    closed (FinishedAt i s) how q r = refl
    closed (SkippedAt i) how q r = absurd (ended how q r)
    closed Raising how q r = refl
    closed (Giving i) how q r = absurd (ended how q r)
    closed Settling how q r = absurd (ended how q r)
    closed (Looking m) how q r = absurd (ended how q r)
    closed (Passing m o) how q r = absurd (ended how q r)
    closed CountingOff how q r = absurd (ended how q r)
begun_keys p n (Over Gave) q r = absurd (false≢true (sym r))
begun_keys p n (Over Kept) q r = absurd (false≢true (sym r))
begun_keys p n (Over Skips) q r = absurd (false≢true q)
begun_keys p n _ q r = absurd (false≢true q)

same_mode-refl : (m : LockMode) → same_mode m m ≡ true
same_mode-refl Read = refl
same_mode-refl ReadWrite = refl

-- a node that holds all of its keys holds each one
pub holds_one : (p : PlanParts) (n : ℕ) (key : List ℕ) (mode : LockMode) → HasLock (held_of p n) key mode → 1 ≤ keys_in p (key_place p key) mode n (keys_count p n)
unfolding keys_in
holds_one p n key mode lock =
    let is : lock_of p n lock.0 ≡ record { key = key; mode = mode } = get_or_from_slice_get (held_of p n) lock.0 (record { key = key; mode = mode }) (record { key = []; mode = Read }) lock.1 in
    count_some (is_key p (key_place p key) mode n) (keys_count p n) lock.0 (slice_get_within (held_of p n) lock.0 (record { key = key; mode = mode }) lock.1)
    (and_from (key_at p n lock.0 == key_place p key) (same_mode (mode_at p n lock.0) mode) (eq-eqb (key_at p n lock.0) (key_place p key) (ap (λ (l : Lock). key_place p l.key) is)) (ap (λ (l : Lock). same_mode l.mode mode) is ∙ same_mode-refl mode))

pub word_apart : (word : LockWord) → 1 ≤ holders_by ReadWrite word → (holders_by Read word ≡ 0) × (holders_by ReadWrite word ≡ 1)
word_apart (Readers n) le = absurd (omega (arith, le))
word_apart Written le = (refl, refl)

pub mark_any : (a b : Bool) (k : EventKind) (m : Mark) → (k ≡ Registered → ⊥) → has_mark a k m ≡ has_mark b k m
mark_any a b Started Blank ne = refl
mark_any a b Started Known ne = refl
mark_any a b Started Begun ne = refl
mark_any a b Started Ended ne = refl
mark_any a b Started Passed ne = refl
mark_any a b Finished Blank ne = refl
mark_any a b Finished Known ne = refl
mark_any a b Finished Begun ne = refl
mark_any a b Finished Ended ne = refl
mark_any a b Finished Passed ne = refl
mark_any a b Skipped Blank ne = refl
mark_any a b Skipped Known ne = refl
mark_any a b Skipped Begun ne = refl
mark_any a b Skipped Ended ne = refl
mark_any a b Skipped Passed ne = refl
mark_any a b Registered m ne = absurd (ne refl)

pub started_not : Started ≡ Registered → ⊥
started_not q = cc

pub finished_not : Finished ≡ Registered → ⊥
finished_not q = cc

-- a key that nobody has may be taken to be read
pub free_admits : (limit : ℕ) → admits limit Read (Readers 0) ≡ true
free_admits limit =
    elim (cases_eq limit 0) [
      | inl e ↦ or_left (limit == 0) (nat_lt 0 limit) (eq-eqb limit 0 e)
      | inr ne ↦ or_right (limit == 0) (nat_lt 0 limit) (lt-ltb 0 limit (omega (arith, ne)))
    ]

-- no more numbers pass a test than two sums say, if each that passes is in one of them
count_sum : (q : ℕ → Bool) (f r : ℕ → ℕ) (n : ℕ) → ((m : ℕ) → m < n → q m ≡ true → 1 ≤ f m + r m) → count_below q n ≤ sum_below f n + sum_below r n
count_sum q f r zero each = omega arith
count_sum q f r (suc n) each =
    let less = count_sum q f r n (λ m lt t. each m (omega (arith, lt)) t) in
    elim (cases_Bool (q n)) [
      | inl t ↦ (let a : bit (q n) ≡ 1 = ap bit t in let one = each n (omega arith) t in omega (arith, less, a, one))
      | inr f' ↦ (let a : bit (q n) ≡ 0 = ap bit f' in omega (arith, less, a))
    ]

-- no more hold a key than its limit says, if no more read it
word_few : (limit : ℕ) (word : LockWord) → 0 < limit → holders_by Read word ≤ limit → holders_by Read word + holders_by ReadWrite word ≤ limit
word_few limit (Readers n) some few = omega (arith, few)
word_few limit Written some few = omega (arith, some)

pub place_limit : (p : PlanParts) (key : List ℕ) → limit_of p (key_place p key) ≡ limit_for p key
unfolding key_place
place_limit p key = refl

module _ (p : PlanParts) (replies : ℕ → List Reply) (s : State) (g : ℕ → Stage) (h : Holds p replies s g) where
  -- a node that runs is one of the plan, and holds all of its keys
  pub running_keys : (m : ℕ) → has Started m s.published ≡ true → has Finished m s.published ≡ false → (m < size p.tree) × ((picture p m (g m)).keys ≡ keys_count p m)
  running_keys m started unfinished =
      let st = has_stands Started m s.published started in
      let lt = h.published.legal.nodes st.0 st.1.event st.1.here in
      let e = st.1.node in
      let inside : m < size p.tree = omega (arith, lt, e) in (
        inside,
        begun_keys p m (g m) (mark_any true (is_spare_at p.tree m) Started (picture p m (g m)).mark started_not ∙ sym (h.flags Started m inside) ∙ started) (mark_any true (is_spare_at p.tree m) Finished (picture p m (g m)).mark finished_not ∙ sym (h.flags Finished m inside) ∙ unfinished),
      )

  module _ (x : ℕ) (full : (picture p x (g x)).keys ≡ keys_count p x) (key : List ℕ) where
    full_at : (m : ℕ) → ((m == x) || is_running s.published m) ≡ true → (picture p m (g m)).keys ≡ keys_count p m
    full_at m q =
        elim (or_cases (m == x) (is_running s.published m) q) [
          | inl e ↦ subst (λ (y : ℕ). (picture p y (g y)).keys ≡ keys_count p y) (sym (eqb-true m x e)) full
          | inr r ↦ (let t = and_parts (has Started m s.published) (not (has Finished m s.published)) r in (running_keys m t.0 (not_false (has Finished m s.published) t.1)).1)
        ]

    has_one : (m : ℕ) (mode : LockMode) → HasLock (held_of p m) key mode → (picture p m (g m)).keys ≡ keys_count p m → 1 ≤ keys_in p (key_place p key) mode m (picture p m (g m)).keys
    has_one m mode lock all = subst (λ (n : ℕ). 1 ≤ keys_in p (key_place p key) mode m n) (sym all) (holds_one p m key mode lock)

    in_mode : (m : ℕ) (mode : LockMode) → HasLock (held_of p m) key mode → (picture p m (g m)).keys ≡ keys_count p m → 1 ≤ keys_in p (key_place p key) Read m (picture p m (g m)).keys + keys_in p (key_place p key) ReadWrite m (picture p m (g m)).keys
    in_mode m Read lock all = (let one = has_one m Read lock all in omega (arith, one))
    in_mode m ReadWrite lock all = (let one = has_one m ReadWrite lock all in omega (arith, one))

    -- whoever holds the key, or is to, is counted by its word
    all_counted : holders_with p key s.published x ≤ holders p g (key_place p key) Read + holders p g (key_place p key) ReadWrite
    unfolding holders
    all_counted =
        count_sum (λ m. holds_key p key m && ((m == x) || is_running s.published m)) (λ n. keys_in p (key_place p key) Read n (picture p n (g n)).keys) (λ n. keys_in p (key_place p key) ReadWrite n (picture p n (g n)).keys) (size p.tree)
        (λ m lt q. (let t = and_parts (holds_key p key m) ((m == x) || is_running s.published m) q in
        let lock = key_held key (held_of p m) t.0 in
        in_mode m lock.0 lock.1 (full_at m t.1)))

    -- With a node that has all of its keys no more nodes hold a key than its limit says.
    pub may_join : 0 < limit_for p key → holders_with p key s.published x ≤ limit_for p key
    may_join some =
        let same = place_limit p key in
        let all = all_counted in
        let reads = h.locks.counted (key_place p key) Read in
        let writes = h.locks.counted (key_place p key) ReadWrite in
        let few = word_few (limit_of p (key_place p key)) (lock_at s (key_place p key)) (omega (arith, some, same)) (h.locks.limited (key_place p key) (omega (arith, some, same))) in
        omega (arith, same, all, reads, writes, few)
