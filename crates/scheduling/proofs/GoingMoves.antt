-- The fixed schedule: what a step says of the words, the turns, the counters and the hand, on plain lists and tasks.
use Rattle.std.proofs.Common.{◌≡◌, ◌≢◌, ℕ, ◌<◌, true, false, ◌&&◌, List, length, set, Option, Some, None, slice_index_or, ◌⊎◌, inl, inr, refl, sym, ap, ◌∙◌, subst, arith, get_or-set_other}
use Rattle.std.proofs.lemmas.Grind.{get_or-set_at}
use Rattle.std.proofs.lemmas.Bool.{cases_eq, cases_Bool, both_ways, and_left}
use Rattle.descriptor.specs.Nodes.{size, IsChild, is_child, is_spare_at}
use Rattle.plan_events.specs.declared.outcome.Reply.{Reply}
use Rattle.resource_locks.specs.Plans.{PlanParts}
use Rattle.event_history.specs.Plans.{IsElder}
use Rattle.event_history.proofs.Trees.{is_child_test}
use Rattle.scheduling.specs.declared.status.NodeStatus.{NodeStatus}
use Rattle.scheduling.specs.declared.status.NodeStatus.TheVariants.{Hidden, Ready, Claimed, Settled}
use Rattle.scheduling.specs.declared.lock_word.LockWord.{LockWord}
use Rattle.scheduling.specs.declared.task.Task.{Task}
use Rattle.scheduling.specs.declared.seat.Hand.{Hand}
use Rattle.scheduling.specs.Choices.{in_batch}
use Rattle.scheduling.specs.Rows.{is_free}
use Rattle.scheduling.specs.Inside.Invariant.{IsNextSame}
use Rattle.scheduling.specs.Inside.Going.{is_about, is_in_hand, is_begun, word_of, IsFresh, WordsGo, StillTo, IsPassing, TurnsGo, owed, owes, IsOwed, CountsGo, KeysGo, is_registering, HandGo, Goes}
use Rattle.scheduling.proofs.Basics.{count_same}

-- the words after one change
pub word_here : (l : List NodeStatus) (x n : ℕ) (v : NodeStatus) → x < length l → n ≡ x → word_of (set l x v) n ≡ v
word_here l x n v inside e = get_or-set_at l x n v Hidden e inside

pub word_there : (l : List NodeStatus) (x n : ℕ) (v : NodeStatus) → n ≢ x → word_of (set l x v) n ≡ word_of l n
word_there l x n v ne = get_or-set_other l x n v Hidden ne

pub words_put : (p : PlanParts) (l : List NodeStatus) (x : ℕ) (v : NodeStatus) → x < length l → WordsGo p l → (v ≡ Hidden → ⊥) → ((w : ℕ) → v ≡ Ready (Some w) → w ≡ 0) → ((w : ℕ) → v ≡ Claimed w → w ≡ 0)
    → ((a : ℕ) → IsElder p.tree a x → is_spare_at p.tree x ≡ false → is_begun v ≡ true → word_of l a ≡ Settled) → (word_of l x ≡ Settled → v ≡ Settled) → WordsGo p (set l x v)
words_put p l x v inside old seen offered claimed younger elder = record {
  root = λ q. elim (cases_eq 0 x) [ inl e ↦ seen (sym (word_here l x 0 v inside e) ∙ q) | inr ne ↦ old.root (sym (word_there l x 0 v ne) ∙ q) ];
  offered = λ n w q. elim (cases_eq n x) [ inl e ↦ offered w (sym (word_here l x n v inside e) ∙ q) | inr ne ↦ old.offered n w (sym (word_there l x n v ne) ∙ q) ];
  claimed = λ n w q. elim (cases_eq n x) [ inl e ↦ claimed w (sym (word_here l x n v inside e) ∙ q) | inr ne ↦ old.claimed n w (sym (word_there l x n v ne) ∙ q) ];
  walk = λ a b el plain begun.
      (let lt : a < b = el.before in
      let was : word_of l a ≡ Settled = elim (cases_eq b x) [
        | inl e ↦ younger a (subst (λ k. IsElder p.tree a k) e el) (subst (λ k. is_spare_at p.tree k ≡ false) e plain) (ap is_begun (sym (word_here l x b v inside e)) ∙ begun)
        | inr ne ↦ old.walk a b el plain (ap is_begun (sym (word_there l x b v ne)) ∙ begun)
      ] in
      elim (cases_eq a x) [
        | inl e ↦ word_here l x a v inside e ∙ elder (ap (word_of l) (sym e) ∙ was)
        | inr ne ↦ word_there l x a v ne ∙ was
      ]);
}

-- turns
pub turns_move : (p : PlanParts) (l l2 : List NodeStatus) (t t2 : Task) → TurnsGo p l t → ((c : ℕ) → IsFresh l2 t2 c → IsFresh l t c) → ((a w : ℕ) → word_of l2 a ≡ Claimed w → ((v : ℕ) × (word_of l a ≡ Claimed v)) ⊎ ((c : ℕ) → StillTo t2 a c))
    → ((a c w : ℕ) → c < size p.tree → in_batch p a c ≡ true → word_of l2 a ≡ Claimed w → IsFresh l2 t2 c → StillTo t a c → StillTo t2 a c)
    → ((a : ℕ) → word_of l2 a ≡ Settled → (word_of l a ≡ Settled) ⊎ ((b : ℕ) → IsNextSame p a b → IsFresh l2 t2 b → IsPassing t2 a)) → ((a b : ℕ) → IsNextSame p a b → IsFresh l2 t2 b → IsPassing t a → IsPassing t2 a) → TurnsGo p l2 t2
turns_move p l l2 t t2 old fresh claimed still settled passing = record {
  batch = λ a c w lt b q f. elim (claimed a w q) [ inl was ↦ still a c w lt b q f (old.batch a c was.0 lt b was.1 (fresh c f)) | inr new ↦ new c ];
  siblings = λ a b next q f. elim (settled a q) [ inl was ↦ passing a b next f (old.siblings a b next was (fresh b f)) | inr new ↦ new b next f ];
}

-- counters
abbrev pub SameOwed : PlanParts → List NodeStatus → List NodeStatus → Task → Task → ℕ → Type 0
SameOwed p l l2 t t2 n = (c : ℕ) → IsChild p.tree n c → owed (is_spare_at p.tree c) (word_of l2 c) (is_about t2 c) ≡ owed (is_spare_at p.tree c) (word_of l c) (is_about t c)

pub record Owing (p : PlanParts) (l l2 : List NodeStatus) (counters counters2 : List ℕ) (t t2 : Task) (hand : Option Hand) (n : ℕ) : Type 0 where
  pub claimer : ℕ
  pub claimed : word_of l n ≡ Claimed claimer
  pub apart : is_about t n ≡ false
  pub no_hand : is_in_hand hand n ≡ false
  pub counter : slice_index_or counters2 n 0 ≡ slice_index_or counters n 0
  pub same : SameOwed p l l2 t t2 n

pub same_owes : (p : PlanParts) (l l2 : List NodeStatus) (t t2 : Task) (n c : ℕ) → SameOwed p l l2 t t2 n → c < size p.tree → owes p l2 t2 n c ≡ owes p l t n c
same_owes p l l2 t t2 n c same lt =
    elim (cases_Bool (is_child p.tree n c)) [
      | inl y ↦ ap (λ b. is_child p.tree n c && b) (same c (is_child_test p.tree n c lt y))
      | inr no' ↦ and_left (is_child p.tree n c) _ no' ∙ sym (and_left (is_child p.tree n c) _ no')
    ]

pub counts_move : (p : PlanParts) (l l2 : List NodeStatus) (counters counters2 : List ℕ) (t t2 : Task) (hand hand2 : Option Hand) → CountsGo p l counters t hand
    → ((n w : ℕ) → n < size p.tree → word_of l2 n ≡ Claimed w → is_about t2 n ≡ false → is_in_hand hand2 n ≡ false → IsOwed p l2 counters2 t2 n ⊎ Owing p l l2 counters counters2 t t2 hand n) → CountsGo p l2 counters2 t2 hand2
counts_move p l l2 counters counters2 t t2 hand hand2 old each n w lt claimed apart no_hand = elim (each n w lt claimed apart no_hand) [ inl q ↦ q | inr q ↦ carried q ]
  where
    carried : Owing p l l2 counters counters2 t t2 hand n → IsOwed p l2 counters2 t2 n
    carried q =
        let was = old n q.claimer lt q.claimed q.apart q.no_hand in
        let some : 0 < slice_index_or counters n 0 = was.some in
        let same : slice_index_or counters2 n 0 ≡ slice_index_or counters n 0 = q.counter in
        record { some = omega (arith, some, same); exact = q.counter ∙ was.exact ∙ sym (count_same (owes p l2 t2 n) (owes p l t n) (size p.tree) (λ c inside. same_owes p l l2 t t2 n c q.same inside)) }

-- The words stay, and the task is about the node that it was about.
pub hand_turn : (p : PlanParts) (replies : ℕ → List Reply) (l : List NodeStatus) (t t2 : Task) (hand : Option Hand) → ((n : ℕ) → is_about t2 n ≡ is_about t n) → is_free t ≡ false → is_registering t2 ≡ false → HandGo p replies l t hand → HandGo p replies l t2 hand
hand_turn p replies l t t2 None about busy quiet old = tt
hand_turn p replies l t t2 (Some hand) about busy quiet old = record {
  about = λ n q. old.about n (sym (about n) ∙ q);
  waits = λ c q. (let w = old.waits c q in (w.0, w.1, elim w.2 [ inl z ↦ absurd (both_ways (is_free t) busy z.1) | inr z ↦ inr (z.0, z.1, about c ∙ z.2) ]));
  pulls = old.pulls;
  more = λ q. absurd (both_ways (is_registering t2) quiet q);
}

pub turn_goes : (p : PlanParts) (replies : ℕ → List Reply) (l : List NodeStatus) (counters : List ℕ) (locks locks2 : List LockWord) (t t2 : Task) (hand hand2 : Option Hand) → Goes p replies l counters locks t hand → ((n : ℕ) → is_about t2 n ≡ is_about t n)
    → ((n : ℕ) → is_in_hand hand2 n ≡ is_in_hand hand n) → ((a c w : ℕ) → c < size p.tree → in_batch p a c ≡ true → word_of l a ≡ Claimed w → StillTo t a c → StillTo t2 a c) → ((a : ℕ) → IsPassing t a → IsPassing t2 a) → KeysGo p locks2 t2 → length locks2 ≡ length locks
    → HandGo p replies l t2 hand2 → Goes p replies l counters locks2 t2 hand2
turn_goes p replies l counters locks locks2 t t2 hand hand2 old about in_hand still passing keys keys_len hands = record {
  words = old.words;
  turns = turns_move p l l t t2 old.turns (λ c f. record { hidden = f.hidden; apart = sym (about c) ∙ f.apart }) (λ a w q. inl (w, q)) (λ a c w lt b q f. still a c w lt b q) (λ a q. inl q) (λ a b next f. passing a);
  counts = counts_move p l l counters counters t t2 hand hand2 old.counts (λ n w lt q apart no_hand. inr (record { claimer = w; claimed = q; apart = sym (about n) ∙ apart; no_hand = sym (in_hand n) ∙ no_hand; counter = refl; same = λ c ch. ap (owed (is_spare_at p.tree c) (word_of l c)) (about c) }));
  keys = keys;
  keys_len = keys_len ∙ old.keys_len;
  in_hand = hands;
}

-- and with the same hand
pub turn_same : (p : PlanParts) (replies : ℕ → List Reply) (l : List NodeStatus) (counters : List ℕ) (locks locks2 : List LockWord) (t t2 : Task) (hand : Option Hand) → Goes p replies l counters locks t hand → ((n : ℕ) → is_about t2 n ≡ is_about t n) → is_free t ≡ false → is_registering t2 ≡ false
    → ((a c w : ℕ) → c < size p.tree → in_batch p a c ≡ true → word_of l a ≡ Claimed w → StillTo t a c → StillTo t2 a c) → ((a : ℕ) → IsPassing t a → IsPassing t2 a) → KeysGo p locks2 t2 → length locks2 ≡ length locks → Goes p replies l counters locks2 t2 hand
turn_same p replies l counters locks locks2 t t2 hand old about busy quiet still passing keys keys_len =
    turn_goes p replies l counters locks locks2 t t2 hand hand old about (λ n. refl) still passing keys keys_len (hand_turn p replies l t t2 hand about busy quiet old.in_hand)
