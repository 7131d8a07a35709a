-- The fixed schedule: what the words, the task and the hand of the only worker say of the stages.
use Rattle.std.proofs.Common.{◌≡◌, ℕ, zero, suc, ◌<◌, Bool, true, false, ◌&&◌, not, List, [], ◌∷◌, Option, Some, None, slice_get, ◌⊎◌, inl, inr, refl, sym, ap, ◌∙◌, subst}
use Rattle.std.proofs.lemmas.Option.{same_Some, none-some}
use Rattle.std.proofs.lemmas.Bool.{cases_Bool, false≢true, both_ways, eqb-true, eq-eqb}
use Rattle.descriptor.specs.Nodes.{size, is_child, is_spare_at, count_below}
use Rattle.plan_events.specs.declared.status.Status.{Status}
use Rattle.plan_events.specs.declared.outcome.Reply.{Reply}
use Rattle.resource_locks.specs.Plans.{PlanParts}
use Rattle.scheduling.specs.declared.status.NodeStatus.TheVariants.{Hidden, Ready, Claimed, Settled}
use Rattle.scheduling.specs.declared.task.Opening.{Opening}
use Rattle.scheduling.specs.declared.task.Opening.TheVariants.{Registering, RegisteredAt, Offering, Noticing, Locking, Weighed, Backing, Beginning, StartedAt, Awaiting, Admitting, Guarding}
use Rattle.scheduling.specs.declared.task.Closing.{Closing}
use Rattle.scheduling.specs.declared.task.Closing.TheVariants.{AwaitingAfter, Ending, FinishedAt, SkippedAt, Raising, Giving, Settling, Looking, Passing, CountingOff}
use Rattle.scheduling.specs.declared.task.Task.{Task}
use Rattle.scheduling.specs.declared.task.Task.TheVariants.{Free, Opens, Closes}
use Rattle.scheduling.specs.declared.seat.Seat.{Seat}
use Rattle.scheduling.specs.State.{State, status_at, subject}
use Rattle.scheduling.specs.Inside.Going.{is_about, IsFresh, owed, owes}
use Rattle.scheduling.specs.Inside.Stages.{How, Stage, Unseen, Offered, OpenedBy, InHand, Waiting, ClosedBy, Over, picture, is_pending, who}
use Rattle.scheduling.specs.Inside.Invariant.{pends_at, pending, TaskOk, SeatOk, HeldBy, Holds}
use Rattle.scheduling.proofs.Basics.{count_same}
use Rattle.scheduling.proofs.RowsOne.{claim_number}

pub hidden_ready : (o : Option ℕ) → Ready o ≡ Hidden → ⊥
hidden_ready o q = cc

pub hidden_claimed : (w : ℕ) → Claimed w ≡ Hidden → ⊥
hidden_claimed w q = cc

pub hidden_settled : Settled ≡ Hidden → ⊥
hidden_settled q = cc

pub ready_claimed : (o : Option ℕ) (w : ℕ) → Ready o ≡ Claimed w → ⊥
ready_claimed o w q = cc

pub settled_claimed : (w : ℕ) → Settled ≡ Claimed w → ⊥
settled_claimed w q = cc

pub ready_settled : (o : Option ℕ) → Ready o ≡ Settled → ⊥
ready_settled o q = cc

pub same_ready : (a b : Option ℕ) → Ready a ≡ Ready b → a ≡ b
same_ready a b q = cc

pub unseen_opened : (w : ℕ) (d : Opening) → Unseen ≡ OpenedBy w d → ⊥
unseen_opened w d q = cc

pub about_subject : (t : Task) (n : ℕ) → subject t ≡ Some n → is_about t n ≡ true
about_subject Free n q = absurd (none-some n q)
about_subject (Opens m d) n q = eq-eqb m n (same_Some m n q)
about_subject (Closes m d) n q = eq-eqb m n (same_Some m n q)

pub subject_about : (t : Task) (n : ℕ) → is_about t n ≡ true → subject t ≡ Some n
subject_about Free n q = absurd (false≢true q)
subject_about (Opens m d) n q = ap Some (eqb-true m n q)
subject_about (Closes m d) n q = ap Some (eqb-true m n q)

-- the only seat
pub one_seat : (seat : Seat) (v : ℕ) (other : Seat) → slice_get (seat ∷ []) v ≡ Some other → (v ≡ 0) × (other ≡ seat)
one_seat seat zero other q = (refl, sym (same_Some seat other q))
one_seat seat (suc v) other q = absurd (none-some other q)

module _ (p : PlanParts) (replies : ℕ → List Reply) (s : State) (g : ℕ → Stage) (h : Holds p replies s g) (seat : Seat) (one : s.seats ≡ seat ∷ []) where
  pub seat_is : slice_get s.seats 0 ≡ Some seat
  seat_is = ap (λ l. slice_get l 0) one

  pub seat_ok : SeatOk p g s.published 0 seat
  seat_ok = h.seats 0 seat seat_is

  -- whoever is at a node has it as the only task
  at_node : (n : ℕ) (t : Task) (v : ℕ) → (other : Seat) → slice_get s.seats v ≡ Some other → other.task ≡ t → subject t ≡ Some n → is_about seat.task n ≡ true
  at_node n t v other q e about =
      let same = one_seat seat v other (ap (λ l. slice_get l v) (sym one) ∙ q) in
      about_subject seat.task n (ap (λ (o : Seat). subject o.task) (sym same.1) ∙ ap subject e ∙ about)

  pub opened_about : (n w : ℕ) (d : Opening) → n < size p.tree → g n ≡ OpenedBy w d → is_about seat.task n ≡ true
  opened_about n w d lt at = (let held : HeldBy s.seats n (OpenedBy w d) = subst (HeldBy s.seats n) at (h.held n lt) in at_node n (Opens n d) w held.0 held.1 held.2 refl)

  pub closed_about : (n w c : ℕ) (d : Closing) (how : How) → n < size p.tree → g n ≡ ClosedBy w c d how → is_about seat.task n ≡ true
  closed_about n w c d how lt at = (let held : HeldBy s.seats n (ClosedBy w c d how) = subst (HeldBy s.seats n) at (h.held n lt) in at_node n (Closes n d) w held.0 held.1 held.2 refl)

  -- and the other way round
  pub about_who : (n : ℕ) → is_about seat.task n ≡ true → who (g n) ≡ Some 0
  about_who n about = go seat.task seat_ok.task (subject_about seat.task n about)
    where
      go : (t : Task) → TaskOk p g 0 t → subject t ≡ Some n → who (g n) ≡ Some 0
      go Free ok q = absurd (none-some n q)
      go (Opens m d) ok q = ap (λ k. who (g k)) (sym (same_Some m n q)) ∙ ap who ok.1
      go (Closes m d) ok q = ap (λ k. who (g k)) (sym (same_Some m n q)) ∙ ap who ok.1.2

  pub unseen_apart : (n : ℕ) → who (g n) ≡ None → is_about seat.task n ≡ false
  unseen_apart n none =
      elim (cases_Bool (is_about seat.task n)) [
        | inl y ↦ absurd (none-some 0 (sym none ∙ about_who n y))
        | inr q ↦ q
      ]

  -- a node to which nobody has come is unseen
  pub fresh_unseen : (n : ℕ) → n < size p.tree → IsFresh s.statuses seat.task n → g n ≡ Unseen
  fresh_unseen n lt fresh = go (g n) refl (sym (h.words n lt) ∙ fresh.hidden)
    where
      go : (st : Stage) → g n ≡ st → (picture p n st).word ≡ Hidden → g n ≡ Unseen
      go Unseen at q = at
      go (Offered o) at q = absurd (hidden_ready o q)
      go (OpenedBy w d) at q = absurd (both_ways (is_about seat.task n) fresh.apart (opened_about n w d lt at))
      go (InHand w) at q = absurd (hidden_claimed w q)
      go (Waiting c r) at q = absurd (hidden_claimed c q)
      go (ClosedBy w c d how) at q = absurd (both_ways (is_about seat.task n) fresh.apart (closed_about n w c d how lt at))
      go (Over how) at q = absurd (hidden_settled q)

  pub unseen_fresh : (n : ℕ) → n < size p.tree → g n ≡ Unseen → IsFresh s.statuses seat.task n
  unseen_fresh n lt at = record { hidden = h.words n lt ∙ ap (λ st. (picture p n st).word) at; apart = unseen_apart n (ap who at) }

  -- what is outstanding, by the words
  owed_is : (c : ℕ) → c < size p.tree → owed (is_spare_at p.tree c) (status_at s c) (is_about seat.task c) ≡ is_pending (is_spare_at p.tree c) (g c)
  owed_is c lt = ap (λ v. owed (is_spare_at p.tree c) v (is_about seat.task c)) (h.words c lt) ∙ go (is_spare_at p.tree c) (g c) refl
    where
      opens : (spare : Bool) (w : ℕ) (d : Opening) → owed spare (picture p c (OpenedBy w d)).word true ≡ true
      opens true w Registering = refl
      opens true w (RegisteredAt i) = refl
      opens true w Offering = refl
      opens false w Registering = refl
      opens false w (RegisteredAt i) = refl
      opens false w Offering = refl
      opens spare w (Beginning true) = refl
      opens spare w (Beginning false) = refl
      opens spare w Noticing = refl
      opens spare w (Locking i) = refl
      opens spare w (Weighed i v) = refl
      opens spare w (Backing i) = refl
      opens spare w (StartedAt i) = refl
      opens spare w Awaiting = refl
      opens spare w (Admitting k) = refl
      opens spare w Guarding = refl

      closes : (spare : Bool) (w e : ℕ) (d : Closing) (how : How) → owed spare (picture p c (ClosedBy w e d how)).word true ≡ true
      closes spare w e AwaitingAfter how = refl
      closes spare w e (Ending st) how = refl
      closes spare w e (FinishedAt i st) how = refl
      closes spare w e (SkippedAt i) how = refl
      closes spare w e Raising how = refl
      closes spare w e (Giving i) how = refl
      closes spare w e Settling how = refl
      closes spare w e (Looking m) how = refl
      closes spare w e (Passing m o) how = refl
      closes spare w e CountingOff how = refl

      hidden : (spare : Bool) → owed spare Hidden false ≡ not spare
      hidden true = refl
      hidden false = refl

      go : (spare : Bool) (st : Stage) → g c ≡ st → owed spare (picture p c st).word (is_about seat.task c) ≡ is_pending spare st
      go spare Unseen at = ap (owed spare Hidden) (unseen_apart c (ap who at)) ∙ hidden spare
      go spare (Offered o) at = refl
      go spare (OpenedBy w d) at = ap (owed spare (picture p c (OpenedBy w d)).word) (opened_about c w d lt at) ∙ opens spare w d
      go spare (InHand w) at = refl
      go spare (Waiting e r) at = refl
      go spare (ClosedBy w e d how) at = ap (owed spare (picture p c (ClosedBy w e d how)).word) (closed_about c w e d how lt at) ∙ closes spare w e d how
      go spare (Over how) at = unseen_apart c (ap who at)

  pub owes_is : (n : ℕ) → count_below (owes p s.statuses seat.task n) (size p.tree) ≡ pending p g n
  unfolding pending
  owes_is n = count_same (owes p s.statuses seat.task n) (pends_at p g n) (size p.tree) (λ c lt. ap (λ b. is_child p.tree n c && b) (owed_is c lt))

  -- a node that was claimed and that the task isn't about is a factory in hand, or waits
  pub claimed_stage : (n w : ℕ) → n < size p.tree → status_at s n ≡ Claimed w → is_about seat.task n ≡ false → (g n ≡ InHand w) ⊎ ((r : Status) × (g n ≡ Waiting w r))
  claimed_stage n w lt claimed apart = go (g n) refl (sym (h.words n lt) ∙ claimed)
    where
      go : (st : Stage) → g n ≡ st → (picture p n st).word ≡ Claimed w → (g n ≡ InHand w) ⊎ ((r : Status) × (g n ≡ Waiting w r))
      go Unseen at q = absurd (hidden_claimed w (sym q))
      go (Offered o) at q = absurd (ready_claimed o w q)
      go (OpenedBy v d) at q = absurd (both_ways (is_about seat.task n) apart (opened_about n v d lt at))
      go (InHand v) at q = inl (at ∙ ap InHand (claim_number v w q))
      go (Waiting v r) at q = inr (r, at ∙ ap (λ k. Waiting k r) (claim_number v w q))
      go (ClosedBy v e d how) at q = absurd (both_ways (is_about seat.task n) apart (closed_about n v e d how lt at))
      go (Over how) at q = absurd (settled_claimed w q)
