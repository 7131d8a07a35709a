-- The fixed schedule goes on by each row that changes a node's word: claim and own, admit, settle.
use Rattle.std.proofs.Common.{◌≡◌, ◌≢◌, ℕ, zero, suc, ◌<◌, ◌≤◌, Bool, true, false, ◌&&◌, ◌||◌, ◌==◌, not, List, [], ◌∷◌, length, set, Option, Some, None, ◌⊎◌, inl, inr, refl, sym, ap, ◌∙◌, subst, arith}
use Rattle.std.proofs.lemmas.Option.{same_Some, none-some}
use Rattle.std.proofs.lemmas.Bool.{cases_eq, cases_lt, cases_Bool, false≢true, both_ways, and_parts, eq-eqb, ne_eqb, eqb-true, cond-true, cond-false}
use Rattle.descriptor.specs.Nodes.{size, IsChild, is_child, is_spare_at, count_below}
use Rattle.plan_events.specs.declared.outcome.Reply.{Reply}
use Rattle.resource_locks.specs.Plans.{PlanParts}
use Rattle.event_history.specs.Plans.{IsElder, Leaf, Maker, is_same}
use Rattle.event_history.proofs.Trees.{is_child_test}
use Rattle.scheduling.specs.declared.status.NodeStatus.{NodeStatus}
use Rattle.scheduling.specs.declared.status.NodeStatus.TheVariants.{Hidden, Ready, Claimed, Settled}
use Rattle.scheduling.specs.declared.lock_word.LockWord.{LockWord}
use Rattle.scheduling.specs.declared.task.Opening.{Opening}
use Rattle.scheduling.specs.declared.task.Opening.TheVariants.{Offering, Admitting, Guarding}
use Rattle.scheduling.specs.declared.task.Closing.TheVariants.{Settling, Passing, CountingOff}
use Rattle.scheduling.specs.declared.task.Task.{Task}
use Rattle.scheduling.specs.declared.task.Task.TheVariants.{Free, Opens, Closes}
use Rattle.scheduling.specs.declared.seat.Hand.{Hand}
use Rattle.scheduling.specs.Choices.{in_batch, first_from, admit_next, admit_from, offered_to, claims}
use Rattle.scheduling.specs.Rows.{waited_out, waits_no_more, waits_for}
use Rattle.scheduling.specs.Inside.Invariant.{IsCorePlan, IsNextSame}
use Rattle.scheduling.specs.Inside.Going.{is_about, is_in_hand, is_begun, word_of, IsFresh, WordsGo, OpeningTo, IsPassing, owed, KeysGo, is_registering, IsAtWork, HandGo, Goes}
use Rattle.scheduling.proofs.Basics.{first_some, first_none}
use Rattle.scheduling.proofs.RowsEnd.{not_true}
use Rattle.scheduling.proofs.RowsOne.{claim_number}
use Rattle.scheduling.proofs.GoingBasics.{hidden_ready, hidden_claimed, hidden_settled, ready_claimed, settled_claimed, ready_settled, same_ready}
use Rattle.scheduling.proofs.GoingMoves.{word_here, word_there, words_put, turns_move, counts_move}
use Rattle.scheduling.proofs.GoingTurns.{claims_calm}

pub maker_leaf : Maker ≡ Leaf → ⊥
maker_leaf q = cc

pub some_ready : (o : Option ℕ) (w : ℕ) → Ready o ≡ Ready (Some w) → o ≡ Some w
some_ready o w q = same_ready o (Some w) q

pub word_inside : (l : List NodeStatus) (x : ℕ) → (word_of l x ≡ Hidden → ⊥) → x < length l
word_inside [] x seen = absurd (seen refl)
word_inside (v ∷ l) zero seen = omega arith
word_inside (v ∷ l) (suc x) seen = (let lt = word_inside l x seen in omega (arith, lt))

-- what is owed after one word is changed
pub owed_put : (p : PlanParts) (l : List NodeStatus) (x : ℕ) (v : NodeStatus) (t t2 : Task) (c : ℕ) → x < length l → (c ≡ x → owed (is_spare_at p.tree c) v (is_about t2 c) ≡ owed (is_spare_at p.tree c) (word_of l c) (is_about t c)) → (c ≢ x → is_about t2 c ≡ is_about t c)
    → owed (is_spare_at p.tree c) (word_of (set l x v) c) (is_about t2 c) ≡ owed (is_spare_at p.tree c) (word_of l c) (is_about t c)
owed_put p l x v t t2 c inside here there =
    elim (cases_eq c x) [
      | inl e ↦ ap (λ w. owed (is_spare_at p.tree c) w (is_about t2 c)) (word_here l x c v inside e) ∙ here e
      | inr ne ↦ ap (λ w. owed (is_spare_at p.tree c) w (is_about t2 c)) (word_there l x c v ne) ∙ ap (owed (is_spare_at p.tree c) (word_of l c)) (there ne)
    ]

-- a node that is nobody's turn any more after its word is changed
fresh_put : (l : List NodeStatus) (x : ℕ) (v : NodeStatus) (t t2 : Task) → x < length l → (v ≡ Hidden → ⊥) → ((c : ℕ) → c ≢ x → is_about t2 c ≡ false → is_about t c ≡ false) → (c : ℕ) → IsFresh (set l x v) t2 c → (c ≢ x) × IsFresh l t c
fresh_put l x v t t2 inside seen apart c f =
    let ne : c ≢ x = λ e. seen (sym (word_here l x c v inside e) ∙ f.hidden) in (ne, record { hidden = sym (word_there l x c v ne) ∙ f.hidden; apart = apart c ne f.apart })

-- of all but the node whose word is changed
claimed_put : (l : List NodeStatus) (x : ℕ) (v : NodeStatus) (a w : ℕ) → x < length l → (v ≡ Claimed w → ⊥) → word_of (set l x v) a ≡ Claimed w → (a ≢ x) × (word_of l a ≡ Claimed w)
claimed_put l x v a w inside other q = (let ne : a ≢ x = λ e. other (sym (word_here l x a v inside e) ∙ q) in (ne, sym (word_there l x a v ne) ∙ q))

settled_put : (l : List NodeStatus) (x : ℕ) (v : NodeStatus) (a : ℕ) → x < length l → (v ≡ Settled → ⊥) → word_of (set l x v) a ≡ Settled → word_of l a ≡ Settled
settled_put l x v a inside other q = (let ne : a ≢ x = λ e. other (sym (word_here l x a v inside e) ∙ q) in sym (word_there l x a v ne) ∙ q)

-- a child to be admitted is a child, and no spare
pub plain_parts : (p : PlanParts) (x c : ℕ) → in_batch p x c ≡ true → (is_child p.tree x c ≡ true) × (is_spare_at p.tree c ≡ false)
plain_parts p x c b =
    let q = and_parts (is_child p.tree x c) (not (is_spare_at p.tree c) && (not (is_same p c) || (count_below (λ d. is_child p.tree x d && is_same p d) c == 0))) b in
    (q.0, not_true (is_spare_at p.tree c) (and_parts (not (is_spare_at p.tree c)) _ q.1).0)

pub spare_childless : (p : PlanParts) → IsCorePlan p → (x c : ℕ) → is_spare_at p.tree x ≡ true → IsChild p.tree x c → ⊥
spare_childless p core x c spare ch = core.plan.leaf x c ch (core.plan.spare_leaf x spare)

module _ (p : PlanParts) (core : IsCorePlan p) (replies : ℕ → List Reply) (l : List NodeStatus) (counters : List ℕ) (locks : List LockWord) (hand : Option Hand) (len : length l ≡ size p.tree) where
  -- claim, own
  pub claim_goes : (x : ℕ) (o : Option ℕ) → word_of l x ≡ Ready o → Goes p replies l counters locks Free hand → ((a : ℕ) → IsElder p.tree a x → is_spare_at p.tree x ≡ false → word_of l a ≡ Settled)
      → HandGo p replies (set l x (Claimed 0)) (Opens x (claims p x)) hand → Goes p replies (set l x (Claimed 0)) counters locks (Opens x (claims p x)) hand
  claim_goes x o ready old elders hands =
      let inside = word_inside l x (λ q. hidden_ready o (sym ready ∙ q)) in
      let calm = claims_calm p x in
      record {
        words = words_put p l x (Claimed 0) inside old.words (λ q. hidden_claimed 0 q) (λ w q. absurd (ready_claimed (Some w) 0 (sym q))) (λ w q. sym (claim_number 0 w q)) (λ a el plain begun. elders a el plain) (λ q. absurd (ready_settled o (sym ready ∙ q)));
        turns = turns_move p l (set l x (Claimed 0)) Free (Opens x (claims p x)) old.turns (λ c f. (fresh_put l x (Claimed 0) Free (Opens x (claims p x)) inside (λ q. hidden_claimed 0 q) (λ c ne q. refl) c f).1)
            (λ a w q. elim (cases_eq a x) [ inl e ↦ inr (λ c. (sym e, calm.to c)) | inr ne ↦ inl (w, sym (word_there l x a (Claimed 0) ne) ∙ q) ])
            (λ a c w lt b q f z. absurd z)
            (λ a q. inl (settled_put l x (Claimed 0) a inside (λ z. settled_claimed 0 (sym z)) q))
            (λ a b next f z. absurd z);
        counts = counts_move p l (set l x (Claimed 0)) counters counters Free (Opens x (claims p x)) hand hand old.counts (λ n w lt q apart no_hand.
            (let ne : n ≢ x = λ e. both_ways (x == n) apart (eq-eqb x n (sym e)) in
            inr (record {
              claimer = w;
              claimed = sym (word_there l x n (Claimed 0) ne) ∙ q;
              apart = refl;
              no_hand = no_hand;
              counter = refl;
              same = λ c ch. owed_put p l x (Claimed 0) Free (Opens x (claims p x)) c inside (λ e. sym (ap (λ v. owed (is_spare_at p.tree c) v false) (ap (word_of l) e ∙ ready))) (λ nc. ne_eqb x c (λ e. nc (sym e)));
            })));
        keys = calm.keys locks;
        keys_len = old.keys_len;
        in_hand = hands;
      }

  -- settle
  settled_hand : (x : ℕ) (t2 : Task) (hand : Option Hand) → ((n : ℕ) → is_about t2 n ≡ true → (x == n) ≡ true) → is_registering t2 ≡ false → HandGo p replies l (Closes x Settling) hand → HandGo p replies (set l x Settled) t2 (waits_no_more x hand)
  settled_hand x t2 None about quiet old = tt
  settled_hand x t2 (Some hand) about quiet old = record {
    about = λ n q. old.about n (about n q);
    waits = λ c q. absurd (let w = waited c hand.waiting q in none c w.1 (old.waits c w.0).2);
    pulls = old.pulls;
    more = λ q. absurd (both_ways (is_registering t2) quiet q);
  }
    where
      waited : (c : ℕ) (found : Option ℕ) → waited_out x found ≡ Some c → (found ≡ Some c) × ((c == x) ≡ false)
      waited c None q = absurd (none-some c q)
      waited c (Some d) q =
          elim (cases_Bool (d == x)) [
            | inl y ↦ absurd (none-some c (sym (cond-true (d == x) None (Some d) y) ∙ q))
            | inr no' ↦ (let same : Some d ≡ Some c = sym (cond-false (d == x) None (Some d) no') ∙ q in (same, ap (λ k. k == x) (sym (same_Some d c same)) ∙ no'))
          ]

      none : (c : ℕ) → (c == x) ≡ false → IsAtWork l (Closes x Settling) c → ⊥
      none c ne (inl z) = false≢true z.1
      none c ne (inr z) = both_ways (c == x) ne (eq-eqb c x (sym (eqb-true x c z.2)))

  hand_same : (x : ℕ) (hand : Option Hand) (n : ℕ) → is_in_hand (waits_no_more x hand) n ≡ is_in_hand hand n
  hand_same x None n = refl
  hand_same x (Some hand) n = refl

  pub settle_goes : (x w : ℕ) (t2 : Task) → x < size p.tree → word_of l x ≡ Claimed w → Goes p replies l counters locks (Closes x Settling) hand → ((c : ℕ) → 0 < c → is_about t2 c ≡ (x == c)) → ((n : ℕ) → is_about t2 n ≡ true → (x == n) ≡ true) → is_registering t2 ≡ false
      → KeysGo p locks t2 → ((b : ℕ) → IsNextSame p x b → IsPassing t2 x) → Goes p replies (set l x Settled) counters locks t2 (waits_no_more x hand)
  settle_goes x w t2 lt claimed old about about_x quiet keys passes =
      let inside : x < length l = omega (arith, lt, len) in
      record {
        words = words_put p l x Settled inside old.words hidden_settled (λ v q. absurd (ready_settled (Some v) (sym q))) (λ v q. absurd (settled_claimed v q)) (λ a el plain begun. old.words.walk a x el plain (ap is_begun claimed)) (λ q. refl);
        turns = turns_move p l (set l x Settled) (Closes x Settling) t2 old.turns (λ c f. (fresh_put l x Settled (Closes x Settling) t2 inside hidden_settled (λ c ne q. ne_eqb x c (λ e. ne (sym e))) c f).1)
            (λ a v q. inl (v, (claimed_put l x Settled a v inside (settled_claimed v) q).1))
            (λ a c v lt b q f z. absurd ((claimed_put l x Settled a v inside (settled_claimed v) q).0 (sym z)))
            (λ a q. elim (cases_eq a x) [ inl e ↦ inr (λ b next f. subst (IsPassing t2) (sym e) (passes b (subst (λ k. IsNextSame p k b) e next))) | inr ne ↦ inl (sym (word_there l x a Settled ne) ∙ q) ])
            (λ a b next f z. absurd z.1);
        counts = counts_move p l (set l x Settled) counters counters (Closes x Settling) t2 hand (waits_no_more x hand) old.counts (λ n v lt q apart no_hand.
            (let was = claimed_put l x Settled n v inside (settled_claimed v) q in
            inr (record {
              claimer = v;
              claimed = was.1;
              apart = ne_eqb x n (λ e. was.0 (sym e));
              no_hand = sym (hand_same x hand n) ∙ no_hand;
              counter = refl;
              same = λ c ch. owed_put p l x Settled (Closes x Settling) t2 c inside
                  (λ e. (about c ch.above_zero ∙ eq-eqb x c (sym e)) ∙ sym (ap (λ y. owed (is_spare_at p.tree c) y (x == c)) (ap (word_of l) e ∙ claimed))) (λ nc. about c ch.above_zero);
            })));
        keys = keys;
        keys_len = old.keys_len;
        in_hand = settled_hand x t2 hand about_x quiet old.in_hand;
      }

  -- a node is offered that was unseen
  offer_words : (c : ℕ) (o : Option ℕ) → c < length l → word_of l c ≡ Hidden → ((w : ℕ) → o ≡ Some w → w ≡ 0) → WordsGo p l → WordsGo p (set l c (Ready o))
  offer_words c o inside hidden mine old =
      words_put p l c (Ready o) inside old (hidden_ready o) (λ w q. mine w (some_ready o w q)) (λ w q. absurd (ready_claimed o w q)) (λ a el plain begun. absurd (false≢true begun)) (λ q. absurd (hidden_settled (sym q ∙ hidden)))

  pub mine_to : (c w : ℕ) → offered_to p 0 c ≡ Some w → w ≡ 0
  mine_to c w q =
      elim (cases_Bool (is_same p c)) [
        | inl y ↦ sym (same_Some 0 w (sym (cond-true (is_same p c) (Some 0) None y) ∙ q))
        | inr no' ↦ absurd (none-some w (sym (cond-false (is_same p c) (Some 0) None no') ∙ q))
      ]

  -- of a plain child, or of a spare that the task is about, as much is owed before as after
  owed_offer : (c : ℕ) (about : Bool) → word_of l c ≡ Hidden → (is_spare_at p.tree c ≡ false) ⊎ (about ≡ true) → true ≡ owed (is_spare_at p.tree c) (word_of l c) about
  owed_offer c about hidden which = sym (ap (λ v. owed (is_spare_at p.tree c) v about) hidden ∙ go (is_spare_at p.tree c) about which)
    where
      go : (spare about : Bool) → (spare ≡ false) ⊎ (about ≡ true) → owed spare Hidden about ≡ true
      go false about which = refl
      go true true which = refl
      go true false (inl q) = absurd (false≢true (sym q))
      go true false (inr q) = absurd (false≢true q)

  -- admit: a child
  pub admit_child_goes : (x c : ℕ) → c < size p.tree → word_of l c ≡ Hidden → in_batch p x c ≡ true → Goes p replies l counters locks (Opens x (Admitting c)) hand → Goes p replies (set l c (Ready (offered_to p 0 c))) counters locks (Opens x (admit_from p x (suc c))) hand
  admit_child_goes x c lt hidden batch old = go (first_from (in_batch p x) (suc c) (size p.tree)) refl
    where
      inside : c < length l
      inside = omega (arith, lt, len)

      parts : (is_child p.tree x c ≡ true) × (is_spare_at p.tree c ≡ false)
      parts = plain_parts p x c batch

      ch : IsChild p.tree x c
      ch = is_child_test p.tree x c lt parts.0

      no_hand : (l2 : List NodeStatus) (t2 : Task) (hand : Option Hand) → HandGo p replies l (Opens x (Admitting c)) hand → HandGo p replies l2 t2 hand
      no_hand l2 t2 None old = tt
      no_hand l2 t2 (Some hand) old = absurd (spare_childless p core x c (old.about x (eq-eqb x x refl)).1 ch)

      one : (d2 : Opening) → is_registering (Opens x d2) ≡ false → KeysGo p locks (Opens x d2) → ((k : ℕ) → k < size p.tree → in_batch p x k ≡ true → suc c ≤ k → OpeningTo d2 k) → Goes p replies (set l c (Ready (offered_to p 0 c))) counters locks (Opens x d2) hand
      one d2 quiet keys to = record {
        words = offer_words c (offered_to p 0 c) inside hidden (mine_to c) old.words;
        turns = turns_move p l (set l c (Ready (offered_to p 0 c))) (Opens x (Admitting c)) (Opens x d2) old.turns (λ k f. (fresh_put l c (Ready (offered_to p 0 c)) (Opens x (Admitting c)) (Opens x d2) inside (hidden_ready (offered_to p 0 c)) (λ k ne q. q) k f).1)
            (λ a v q. inl (v, (claimed_put l c (Ready (offered_to p 0 c)) a v inside (ready_claimed (offered_to p 0 c) v) q).1))
            (λ a k v k_lt b q f z. (z.0, (let ne = (fresh_put l c (Ready (offered_to p 0 c)) (Opens x (Admitting c)) (Opens x d2) inside (hidden_ready (offered_to p 0 c)) (λ k ne q. q) k f).0 in let le : c ≤ k = z.1 in to k k_lt (subst (λ y. in_batch p y k ≡ true) (sym z.0) b) (omega (arith, le, ne)))))
            (λ a q. inl (settled_put l c (Ready (offered_to p 0 c)) a inside (ready_settled (offered_to p 0 c)) q))
            (λ a b next f z. absurd z);
        counts = counts_move p l (set l c (Ready (offered_to p 0 c))) counters counters (Opens x (Admitting c)) (Opens x d2) hand hand old.counts (λ n v n_lt q apart none.
            (let was = claimed_put l c (Ready (offered_to p 0 c)) n v inside (ready_claimed (offered_to p 0 c) v) q in
            inr (record {
              claimer = v;
              claimed = was.1;
              apart = apart;
              no_hand = none;
              counter = refl;
              same = λ k chk. owed_put p l c (Ready (offered_to p 0 c)) (Opens x (Admitting c)) (Opens x d2) k inside (λ e. owed_offer k (x == k) (ap (word_of l) e ∙ hidden) (inl (ap (is_spare_at p.tree) e ∙ parts.1))) (λ nk. refl);
            })));
        keys = keys;
        keys_len = old.keys_len;
        in_hand = no_hand (set l c (Ready (offered_to p 0 c))) (Opens x d2) hand old.in_hand;
      }

      go : (found : Option ℕ) → first_from (in_batch p x) (suc c) (size p.tree) ≡ found → Goes p replies (set l c (Ready (offered_to p 0 c))) counters locks (Opens x (admit_next found)) hand
      go None f = one Guarding refl (λ leaf. core.plan.leaf x c ch leaf) (λ k k_lt b le. both_ways (in_batch p x k) (first_none (in_batch p x) (suc c) (size p.tree) f k le k_lt) b)
      go (Some m) f =
          let first = first_some (in_batch p x) (suc c) (size p.tree) m f in
          one (Admitting m) refl tt (λ k k_lt b le. elim (cases_lt k m) [ inl less ↦ absurd (both_ways (in_batch p x k) (first.none_before k le less) b) | inr ge ↦ ge ])

  -- admit: a spare that was registered
  offered_hand : (c : ℕ) (hand : Option Hand) → word_of l c ≡ Hidden → c < length l → HandGo p replies l (Opens c Offering) hand → HandGo p replies (set l c (Ready (offered_to p 0 c))) Free (waits_for p c hand)
  offered_hand c None hidden inside old = tt
  offered_hand c (Some hand) hidden inside old = record {
    about = λ n q. absurd (false≢true q);
    waits = λ k q. elim (cases_Bool (is_same p c)) [
      | inl y ↦ (let same : c ≡ k = same_Some c k (sym (cond-true (is_same p c) (Some c) hand.waiting y) ∙ q) in
          let at = old.about k (eq-eqb c k same) in (at.0, at.1, inl (word_here l c k (Ready (offered_to p 0 c)) inside (sym same) ∙ ap Ready (cond-true (is_same p c) (Some 0) None y), refl)))
      | inr no' ↦ absurd (none k (old.waits k (sym (cond-false (is_same p c) (Some c) hand.waiting no') ∙ q)).2)
    ];
    pulls = old.pulls;
    more = λ q. absurd (false≢true q);
  }
    where
      none : (k : ℕ) → IsAtWork l (Opens c Offering) k → ⊥
      none k (inl z) = false≢true z.1
      none k (inr z) = hidden_claimed z.0 (sym z.1 ∙ ap (word_of l) (sym (eqb-true c k z.2)) ∙ hidden)

  same_waits : (c : ℕ) (hand : Option Hand) (n : ℕ) → is_in_hand (waits_for p c hand) n ≡ is_in_hand hand n
  same_waits c None n = refl
  same_waits c (Some hand) n = refl

  pub offering_goes : (c : ℕ) → c < size p.tree → word_of l c ≡ Hidden → Goes p replies l counters locks (Opens c Offering) hand → Goes p replies (set l c (Ready (offered_to p 0 c))) counters locks Free (waits_for p c hand)
  offering_goes c lt hidden old =
      let inside : c < length l = omega (arith, lt, len) in
      record {
        words = offer_words c (offered_to p 0 c) inside hidden (mine_to c) old.words;
        turns = turns_move p l (set l c (Ready (offered_to p 0 c))) (Opens c Offering) Free old.turns (λ k f. (fresh_put l c (Ready (offered_to p 0 c)) (Opens c Offering) Free inside (hidden_ready (offered_to p 0 c)) (λ k ne q. ne_eqb c k (λ e. ne (sym e))) k f).1)
            (λ a v q. inl (v, (claimed_put l c (Ready (offered_to p 0 c)) a v inside (ready_claimed (offered_to p 0 c) v) q).1))
            (λ a k v k_lt b q f z. absurd ((claimed_put l c (Ready (offered_to p 0 c)) a v inside (ready_claimed (offered_to p 0 c) v) q).0 (sym z.0)))
            (λ a q. inl (settled_put l c (Ready (offered_to p 0 c)) a inside (ready_settled (offered_to p 0 c)) q))
            (λ a b next f z. absurd z);
        counts = counts_move p l (set l c (Ready (offered_to p 0 c))) counters counters (Opens c Offering) Free hand (waits_for p c hand) old.counts (λ n v n_lt q apart none.
            (let was = claimed_put l c (Ready (offered_to p 0 c)) n v inside (ready_claimed (offered_to p 0 c) v) q in
            inr (record {
              claimer = v;
              claimed = was.1;
              apart = ne_eqb c n (λ e. was.0 (sym e));
              no_hand = sym (same_waits c hand n) ∙ none;
              counter = refl;
              same = λ k chk. owed_put p l c (Ready (offered_to p 0 c)) (Opens c Offering) Free k inside (λ e. owed_offer k (c == k) (ap (word_of l) e ∙ hidden) (inr (eq-eqb c k (sym e)))) (λ nk. sym (ne_eqb c k (λ e. nk (sym e))));
            })));
        keys = tt;
        keys_len = old.keys_len;
        in_hand = offered_hand c hand hidden inside old.in_hand;
      }

  -- admit: the next sibling
  next_one : (x a b : ℕ) → IsNextSame p x a → IsNextSame p x b → a ≡ b
  next_one x a b m n =
      let low_a : x < a = m.elder.before in
      let low_b : x < b = n.elder.before in
      elim (cases_lt a b) [
        | inl lt ↦ absurd (n.between a low_a lt (record { parent = n.elder.parent; elder = subst (λ k. IsChild p.tree k a) (sym m.elder.elder.parent ∙ n.elder.elder.parent) m.elder.younger; younger = n.elder.younger; before = lt }) m.next_same)
        | inr ge ↦ elim (cases_eq a b) [
          | inl e ↦ e
          | inr ne ↦ (let lt : b < a = omega (arith, ge, ne) in
              absurd (m.between b low_b lt (record { parent = m.elder.parent; elder = subst (λ k. IsChild p.tree k b) (sym n.elder.elder.parent ∙ m.elder.elder.parent) n.elder.younger; younger = m.elder.younger; before = lt }) n.next_same))
        ]
      ]

  pub passing_goes : (x m o : ℕ) → word_of l m ≡ Hidden → IsNextSame p x m → o ≡ 0 → Goes p replies l counters locks (Closes x (Passing m o)) hand → Goes p replies (set l m (Ready (Some o))) counters locks (Closes x CountingOff) hand
  passing_goes x m o hidden next mine old =
      let lt : m < size p.tree = next.elder.younger.inside in
      let inside : m < length l = omega (arith, lt, len) in
      record {
        words = offer_words m (Some o) inside hidden (λ w q. sym (same_Some o w q) ∙ mine) old.words;
        turns = turns_move p l (set l m (Ready (Some o))) (Closes x (Passing m o)) (Closes x CountingOff) old.turns (λ k f. (fresh_put l m (Ready (Some o)) (Closes x (Passing m o)) (Closes x CountingOff) inside (hidden_ready (Some o)) (λ k ne q. q) k f).1)
            (λ a v q. inl (v, (claimed_put l m (Ready (Some o)) a v inside (ready_claimed (Some o) v) q).1))
            (λ a k v k_lt b q f z. z)
            (λ a q. inl (settled_put l m (Ready (Some o)) a inside (ready_settled (Some o)) q))
            (λ a b other f z. absurd ((fresh_put l m (Ready (Some o)) (Closes x (Passing m o)) (Closes x CountingOff) inside (hidden_ready (Some o)) (λ k ne q. q) b f).0 (next_one x b m (subst (λ k. IsNextSame p k b) (sym z.0) other) next)));
        counts = counts_move p l (set l m (Ready (Some o))) counters counters (Closes x (Passing m o)) (Closes x CountingOff) hand hand old.counts (λ n v n_lt q apart none.
            (let was = claimed_put l m (Ready (Some o)) n v inside (ready_claimed (Some o) v) q in
            inr (record {
              claimer = v;
              claimed = was.1;
              apart = apart;
              no_hand = none;
              counter = refl;
              same = λ k chk. owed_put p l m (Ready (Some o)) (Closes x (Passing m o)) (Closes x CountingOff) k inside (λ e. owed_offer k (x == k) (ap (word_of l) e ∙ hidden) (inl (ap (is_spare_at p.tree) e ∙ next.next_plain))) (λ nk. refl);
            })));
        keys = tt;
        keys_len = old.keys_len;
        in_hand = no_hand hand old.in_hand;
      }
    where
      no_hand : (hand : Option Hand) → HandGo p replies l (Closes x (Passing m o)) hand → HandGo p replies (set l m (Ready (Some o))) (Closes x CountingOff) hand
      no_hand None old = tt
      no_hand (Some hand) old = absurd (both_ways (is_spare_at p.tree x) next.plain (old.about x (eq-eqb x x refl)).1)
