-- Whenever the rule holds, the table stands so that what the dispatcher has read is legal and the run can still end; and what a worker finds there.
use Rattle.std.specs.Prelude.{max}
use Rattle.std.proofs.Common.{◌≡◌, ◌⊎◌, inl, inr, ℕ, ◌+◌, ◌<◌, ◌≤◌, ◌==◌, Bool, true, false, MatchBool, List, [], ◌∷◌, length, length-append, get_or, Some, refl, sym, ap, ◌∙◌, subst, arith}
use mathlib.Core.Option.{some}
use lib.ListN.{get_elem?}
use Rattle.std.proofs.lemmas.Option.{none-some}
use Rattle.atomic_table.proofs.Lists.{at_map}
use Rattle.atomic_table.specs.Table.{State as TableState, Me, Allows, opening as table_opening}
use Rattle.descriptor.specs.Nodes.{size, is_spare_at}
use Rattle.descriptor.proofs.Counts.{count_most}
use Rattle.plan_events.specs.declared.event.Event.{Event}
use Rattle.plan_events.specs.declared.event.EventKind.TheVariants.{Finished}
use Rattle.plan_events.specs.declared.outcome.Outcome.{Outcome}
use Rattle.plan_events.specs.declared.outcome.Reply.{Reply}
use Rattle.plan_events.specs.Words.{is_lawful, word_of}
use Rattle.resource_locks.specs.Plans.{IsPlan, most_events}
use Rattle.event_history.specs.History.{IsLegal}
use Rattle.event_history.proofs.Apart.{apart}
use Rattle.event_history.proofs.EventBound.{legal_few}
use Rattle.event_history.proofs.Front.{prefix_legal}
use Rattle.scheduling.specs.Runs.{opening, IsRight}
use Rattle.scheduling.specs.declared.status.NodeStatus.TheVariants.{Ready, Claimed}
use Rattle.scheduling.specs.State.{State, status_at}
use Rattle.scheduling.proofs.Headline.{core_plan, kept_right}
use Rattle.never_stuck.specs.Reaching.{only}
use Rattle.never_stuck.proofs.Asked.{on_as_asked}
use Rattle.table_rule.specs.declared.view.About.{About}
use Rattle.table_rule.specs.declared.view.View.{View}
use Rattle.table_rule.specs.declared.view.Slot.{Slot}
use Rattle.table_rule.specs.declared.view.SeatOwner.{SeatOwner}
use Rattle.table_rule.specs.declared.view.SeatOwner.TheVariants.{Dispatcher}
use Rattle.table_rule.specs.Endings.{IsNotStuckWithin}
use Rattle.table_rule.specs.Picture.{Dealt, AreAmong, AnswerOnce, DispatcherFits, OwnerFits, Names, IsPictureOf, Ruled, opener, dispatcher_view, replies_of}
use Rattle.table_rule.specs.declared.view.SlotState.TheVariants.{Unmoved}
use Rattle.table_rule.specs.Rings.{mark_in, event_in, empty_ring}
use Rattle.table_rule.specs.Words.{status_word, words_of, read_place}
use Rattle.table_rule.specs.Slots.{after_slot, made_of, slot_count, fresh}
use Rattle.table_rule.specs.Plays.{dispatcher, seated, reads_on}
use Rattle.table_rule.specs.Published.{IsTold}
use Rattle.table_rule.specs.Reached.{IsReached}
use Rattle.table_rule.proofs.Leading.{opening_reached}
use Rattle.table_rule.specs.Moments.{KeepsApart, IsMoment, IsMomentOf, IsStart, IsSight, FindsWord}
use Rattle.table_rule.proofs.Owed.{found_as, sizes, word_same}
use Rattle.table_rule.proofs.Words.{read_found, status_found}
use Rattle.table_rule.proofs.Ready.{here_after}
use Rattle.table_rule.proofs.Telling.{published_told}
use Rattle.table_rule.proofs.SeatedEnds.{ends_seated, idle_from}
use Rattle.table_rule.proofs.Opening.{none_told, none_dealt, opening_picture}
use Rattle.table_rule.proofs.MoreReplies.{wide_kept}

module _ {B : Type 0} where
  -- The state of which the table is the picture is one from which a run can end, with the table's ring, and by workers that have a seat.
  pub picture_not_stuck : (told : ℕ → List Reply) (key : About B) (c : State) (dealt : Dealt) (s : TableState (Slot B) (View B)) → IsPictureOf told key c dealt s → (seats : ℕ) → dealt.many ≡ seats → IsNotStuckWithin key.plan key.ring (max 1 seats) told c
  picture_not_stuck told key c dealt s r seats many spares reply may = ends_seated key.plan key.ring (max 1 seats) reply r.plan (subst (λ (n : ℕ). 0 < n) r.size r.ring.some) (omega arith) spares c (record {
    kept = wide_kept told (only reply) (λ number i x q. (0, ap Some (may.told_is number i x q))) key.plan c r.kept;
    on = on_as_asked key.plan told c reply may r.on;
    placed = r.placed;
    locks = r.keys;
    some = subst (λ (n : ℕ). 0 < n) (sym r.workers) r.crew;
  }) (idle_from told key c dealt s r (max 1 seats) (omega (arith, many)))

  pub picture_right : (replies told : ℕ → List Reply) (key : About B) (c : State) (dealt : Dealt) (s : TableState (Slot B) (View B)) → AreAmong told replies → IsPictureOf told key c dealt s → IsRight key.plan replies key.workers c
  picture_right replies told key c dealt s among r =
      subst (λ (n : ℕ). IsRight key.plan replies n c) r.workers (kept_right key.plan (core_plan key.plan r.plan.tree) replies c (wide_kept told replies among key.plan c r.kept) r.placed)

  pub given_legal : (replies : ℕ → List Reply) (key : About B) (c : State) (read : List Event) → IsRight key.plan replies key.workers c → c.given ≡ read → IsLegal key.plan replies key.workers read
  given_legal replies key c read right given = subst (λ (l : List Event). IsLegal key.plan replies key.workers l) given (prefix_legal key.plan replies key.workers c.given c.published right.given right.legal)

  pub picture_apart : (replies told : ℕ → List Reply) (key : About B) (c : State) (dealt : Dealt) (s : TableState (Slot B) (View B)) → IsPictureOf told key c dealt s → IsRight key.plan replies key.workers c → KeepsApart key.plan c.published
  picture_apart replies told key c dealt s r right safe = apart key.plan r.plan.tree replies key.workers c.published safe right.legal right.order right.exclusive

  -- A moment, at which the table is this picture, of the dispatcher that has read so.
  abbrev pub moment_by : (replies told : ℕ → List Reply) (key : About B) (c : State) (dealt : Dealt) (s : TableState (Slot B) (View B)) → AreAmong told replies → AnswerOnce told → IsPictureOf told key c dealt s → IsReached key.plan key.workers told c
      → (seats : ℕ) → dealt.many ≡ seats → (read : List Event) → c.given ≡ read → IsTold key.plan key.ring c.seats s.words read c.published → IsMoment replies key seats read
  moment_by replies told key c dealt s among once r reached seats many read given shown = record {
    table = s;
    core = c;
    dealt = dealt;
    told = told;
    among = among;
    once = once;
    is = r;
    reached = reached;
    given = given;
    right = picture_right replies told key c dealt s among r;
    apart = picture_apart replies told key c dealt s r (picture_right replies told key c dealt s among r);
    shown = shown;
    legal = given_legal replies key c read (picture_right replies told key c dealt s among r) given;
    many = many;
    not_stuck = picture_not_stuck told key c dealt s r seats many;
  }

  -- A table that is made so is at its start.
  pub starts : (replies : ℕ → List Reply) (key : About B) (words : List ℕ) (slots : List (Slot B)) → IsPlan key.plan → 0 < key.workers → key.workers ≤ 64 → 0 < key.ring → words ≡ words_of (empty_ring key.ring) (opening key.plan key.workers) → length slots ≡ slot_count key.plan
      → ((k : ℕ) → k < slot_count key.plan → get_elem? slots k ≡ some (fresh key k)) → IsStart replies key
  starts replies key words slots plan crew few above is many jobs = record {
    moment = moment_by replies none_told key (opening key.plan key.workers) (none_dealt key) (table_opening words slots (opener key)) (λ number i reply q. absurd (none-some reply q)) (λ number i reply q. absurd (none-some reply q))
        (opening_picture key words slots plan crew few above is many jobs) (opening_reached key.plan key.workers none_told (λ job i r q. none-some r q)) 0 refl [] refl
        (published_told none_told key (opening key.plan key.workers) (none_dealt key) (table_opening words slots (opener key)) (opening_picture key words slots plan crew few above is many jobs) 0 (dispatcher (opener key)) refl);
    opens = refl;
    jobs = λ k low. at_map (λ (y : Slot B). some y) slots k (fresh key k) (jobs k low);
  }

  -- What is read at a moment is no more than a run can have.
  pub moment_few : (replies : ℕ → List Reply) (key : About B) {seats : ℕ} (read : List Event) → IsMoment replies key seats read → length read ≤ most_events key.plan
  moment_few replies key read x = legal_few key.plan replies key.workers read x.legal

  pub moment_small : (replies : ℕ → List Reply) (key : About B) {seats : ℕ} (read : List Event) → IsMoment replies key seats read → length read ≤ 49152
  moment_small replies key read x =
      let few = moment_few replies key read x in
      let spares = count_most (is_spare_at key.plan.tree) (size key.plan.tree) in
      let nodes = x.is.plan.tree.few in
      omega (arith, few, spares, nodes)

  -- what a read tells that has found the next place
  abbrev pub IsHit : Me (Slot B) (View B) → ℕ → Me (Slot B) (View B) → Type 0
  IsHit m r n = (e : Event) × (is_lawful e ≡ true) × (word_of e ≡ event_in r) × (n ≡ (seated m.0 (Dispatcher (reads_on e (dispatcher m.0))), m.1))
      × (e.kind ≡ Finished → (made_of (dispatcher m.0).slots e.node ≡ Unmoved) × (made_of (dispatcher m.0).slots (after_slot m.0.about.plan e.node) ≡ Unmoved))

  -- a dispatcher that has read as much at least
  abbrev pub HasReadOn : Me (Slot B) (View B) → Me (Slot B) (View B) → Type 0
  HasReadOn m n = (n.0.owner ≡ Dispatcher (dispatcher n.0)) × (length (dispatcher m.0).read ≤ length (dispatcher n.0).read)

  -- A look at the next place leaves the dispatcher one, with no less than it had read.
  pub after_look : (m : Me (Slot B) (View B)) (r : ℕ) (n : Me (Slot B) (View B)) → MatchBool (mark_in r == length (dispatcher m.0).read + 1) (IsHit m r n) (n ≡ m) → m.0.owner ≡ Dispatcher (dispatcher m.0) → HasReadOn m n
  after_look m r n told is = by (mark_in r == length (dispatcher m.0).read + 1) told
    where
      by : (b : Bool) → MatchBool b (IsHit m r n) (n ≡ m) → HasReadOn m n
      by true t = (
        ap (λ (u : Me (Slot B) (View B)). u.0.owner) t.3 ∙ sym (ap (λ (u : Me (Slot B) (View B)). Dispatcher (dispatcher u.0)) t.3),
        (let more = length-append (dispatcher m.0).read (t.0 ∷ []) in let now = ap (λ (u : Me (Slot B) (View B)). length (dispatcher u.0).read) t.3 in omega (arith, more, now)),
      )
      by false t = (
        ap (λ (u : Me (Slot B) (View B)). u.0.owner) t ∙ is ∙ sym (ap (λ (u : Me (Slot B) (View B)). Dispatcher (dispatcher u.0)) t),
        (let now = ap (λ (u : Me (Slot B) (View B)). length (dispatcher u.0).read) t in omega (arith, now)),
      )

  module _ {says : B → Outcome → Type 0} {given : ℕ → Reply → Type 0} (answers : B → List Reply) (key : About B) where
    pub moment_at : (s : TableState (Slot B) (View B)) → Ruled says given (replies_of answers key) key s → (id : ℕ) (v : View B) → get_elem? s.views id ≡ some v → IsMomentOf answers v
    moment_at s rule id v at d is =
        let view = rule.picture.is.views id v at in
        let about : v.about ≡ key = subst (λ (owner : SeatOwner). Names key v.about owner) is view.names in
        let fits : DispatcherFits rule.picture.core rule.picture.dealt id d = subst (λ (owner : SeatOwner). OwnerFits key.plan rule.told rule.picture.core rule.picture.dealt id owner) is view.fits in
        let whole : v ≡ dispatcher_view key d = λ k. record { about = about k; owner = is k } in
        let told = published_told rule.told key rule.picture.core rule.picture.dealt s rule.picture.is id d (subst (λ (u : View B). get_elem? s.views id ≡ some u) whole at) in
        subst (λ (a : About B). IsMoment (replies_of answers a) a d.dealt d.read) (sym about)
        (moment_by (replies_of answers key) rule.told key rule.picture.core rule.picture.dealt s rule.among rule.once rule.picture.is rule.picture.reached d.dealt (sym fits.many) d.read (sym fits.read) told)

    -- So a step that the rule allows tells it besides.
    pub allows_moment : (slots id : ℕ) (m : Me (Slot B) (View B)) (i : ℕ) (f : ℕ → ℕ) (told : ℕ → Me (Slot B) (View B) → Type 0) → Allows (Ruled says given (replies_of answers key) key) slots id m i f told
        → Allows (Ruled says given (replies_of answers key) key) slots id m i f (λ r n. told r n × IsMomentOf answers n.0)
    allows_moment slots id m i f told allows s r long at fits =
        let o = allows s r long at fits in
        (o.0, o.1, o.2, o.3, (o.4, moment_at _ o.3 id o.0 (here_after s.views id o.0 m.0 at)))

    -- A worker that is at the table where the rule holds, with what stands in a word then.
    pub sight_at : (s : TableState (Slot B) (View B)) → Ruled says given (replies_of answers key) key s → (id : ℕ) (v : View B) → get_elem? s.views id ≡ some v → (i word : ℕ) → get_or s.words i 0 ≡ word → FindsWord answers v i word
    sight_at s rule id v at i word found w is =
        let about : v.about ≡ key = subst (λ (owner : SeatOwner). Names key v.about owner) is (rule.picture.is.views id v at).names in
        subst (λ (a : About B). (x : IsSight (replies_of answers a) a v) × (get_or x.table.words i 0 ≡ word)) (sym about)
        (record { table = s; core = rule.picture.core; dealt = rule.picture.dealt; told = rule.told; among = rule.among; once = rule.once; is = rule.picture.is; reached = rule.picture.reached; id = id; here = at }, found)

    -- So a look that the rule allows tells it besides.
    pub allows_sight : (slots id : ℕ) (m : Me (Slot B) (View B)) (i : ℕ) (told : ℕ → Me (Slot B) (View B) → Type 0) → Allows (Ruled says given (replies_of answers key) key) slots id m i (λ x. x) told
        → Allows (Ruled says given (replies_of answers key) key) slots id m i (λ x. x) (λ r n. told r n × FindsWord answers n.0 i r)
    allows_sight slots id m i told allows s r long at fits =
        let o = allows s r long at fits in
        (o.0, o.1, o.2, o.3, (o.4, sight_at _ o.3 id o.0 (here_after s.views id o.0 m.0 at) i (get_or s.words i 0) (ap (λ (l : List ℕ). get_or l i 0) (word_same s.words i (get_or s.words i 0) refl))))

-- What stands in the word of a node's status, and in that of the places that are read, by the state of the moment.
module _ {B : Type 0} (replies : ℕ → List Reply) (key : About B) (v : View B) (x : IsSight replies key v) where
  pub status_then : (n word : ℕ) → n < size key.plan.tree → get_or x.table.words n 0 ≡ word → status_word (status_at x.core n) ≡ word
  status_then n word low found = sym (found_as x.told key x.core x.dealt x.table x.is n (status_word (status_at x.core n)) (status_found key.plan x.dealt.ring x.core (sizes x.told key x.core x.dealt x.table x.is) n low)) ∙ found

  pub read_then : (word : ℕ) → get_or x.table.words (read_place key.plan) 0 ≡ word → x.dealt.ring.count ≡ word
  read_then word found = sym (found_as x.told key x.core x.dealt x.table x.is (read_place key.plan) x.dealt.ring.count (read_found key.plan x.dealt.ring x.core (sizes x.told key x.core x.dealt x.table x.is))) ∙ found

  -- whoever a node is offered to, or is claimed by, is one of 64 at most
  pub owner_few : (n o : ℕ) → (status_at x.core n ≡ Ready (Some o)) ⊎ (status_at x.core n ≡ Claimed o) → o < 64
  owner_few n o is =
      let few = x.is.kept.1.workers_few in
      elim is [
        | inl a ↦ (let low = (x.is.on.offered n o a).0 in omega (arith, low, few))
        | inr a ↦ x.is.on.claimed n o a
      ]
