-- The fixed schedule goes on by each row that takes a factory in hand, changes a counter, or decides a task.
use Rattle.std.proofs.Common.{◌≡◌, ◌≢◌, ℕ, suc, ◌+◌, ◌-◌, ◌<◌, Bool, true, false, ◌&&◌, ◌==◌, List, length, set, get_or, Option, Some, None, slice_get, slice_index_or, inl, inr, refl, sym, ap, ◌∙◌, subst, arith, get_or-set_other}
use Rattle.std.proofs.lemmas.Grind.{get_or-set_at}
use Rattle.std.proofs.lemmas.Option.{none-some}
use Rattle.std.proofs.lemmas.Bool.{cases_eq, false≢true, both_ways, eq-eqb, ne_eqb, eqb-true}
use Rattle.descriptor.specs.Nodes.{size, parent_of, IsChild, is_child, is_spare_at, body_of, bit, count_below}
use Rattle.plan_events.specs.declared.outcome.Reply.{Reply}
use Rattle.plan_events.specs.declared.status.Status.{Status}
use Rattle.resource_locks.specs.Plans.{PlanParts}
use Rattle.event_history.specs.Results.{jobs_of}
use Rattle.event_history.proofs.Trees.{is_child_test, test_is_child}
use Rattle.scheduling.specs.declared.status.NodeStatus.{NodeStatus}
use Rattle.scheduling.specs.declared.status.NodeStatus.TheVariants.{Claimed, Settled}
use Rattle.scheduling.specs.declared.lock_word.LockWord.{LockWord}
use Rattle.scheduling.specs.declared.task.Opening.TheVariants.{Registering, StartedAt, Guarding}
use Rattle.scheduling.specs.declared.task.Closing.TheVariants.{CountingOff}
use Rattle.scheduling.specs.declared.task.Task.{Task}
use Rattle.scheduling.specs.declared.task.Task.TheVariants.{Free, Opens, Closes}
use Rattle.scheduling.specs.declared.seat.Hand.{Hand}
use Rattle.scheduling.specs.Choices.{ending}
use Rattle.scheduling.specs.Rows.{ends_or_free}
use Rattle.scheduling.specs.Inside.Invariant.{IsCorePlan}
use Rattle.scheduling.specs.Inside.Going.{is_about, is_in_hand, word_of, TurnsGo, owed, owes, IsOwed, KeysGo, IsAtWork, HandGo, Goes}
use Rattle.scheduling.proofs.Basics.{count_same, count_change}
use Rattle.scheduling.proofs.RowsOne.{by_cond}
use Rattle.scheduling.proofs.RowsBelow.{ending_is}
use Rattle.scheduling.proofs.GoingBasics.{hidden_claimed, hidden_settled, settled_claimed}
use Rattle.scheduling.proofs.GoingMoves.{turns_move, Owing, counts_move, same_owes}
use Rattle.scheduling.proofs.GoingWords.{plain_parts}

-- of a node that was claimed as much is owed, whatever the task is about
owed_claimed : (spare : Bool) (v : NodeStatus) (w : ℕ) (a b : Bool) → v ≡ Claimed w → owed spare v a ≡ owed spare v b
owed_claimed spare v w a b at = ap (λ z. owed spare z a) at ∙ sym (ap (λ z. owed spare z b) at)

-- where the words stay, and the task goes from node x, which was claimed, to another that was
owed_about : (p : PlanParts) (l : List NodeStatus) (x w : ℕ) (t t2 : Task) (c : ℕ) → word_of l x ≡ Claimed w → (c ≢ x → is_about t2 c ≡ is_about t c) → owed (is_spare_at p.tree c) (word_of l c) (is_about t2 c) ≡ owed (is_spare_at p.tree c) (word_of l c) (is_about t c)
owed_about p l x w t t2 c at other =
    elim (cases_eq c x) [
      | inl e ↦ owed_claimed (is_spare_at p.tree c) (word_of l c) w (is_about t2 c) (is_about t c) (ap (word_of l) e ∙ at)
      | inr ne ↦ ap (owed (is_spare_at p.tree c) (word_of l c)) (other ne)
    ]

-- the counter of a node with one less
abbrev pub less_at : List ℕ → ℕ → List ℕ
less_at counters x = set counters x (slice_index_or counters x 0 - 1)

ending_keys : (p : PlanParts) (locks : List LockWord) (x : ℕ) (r : Status) → KeysGo p locks (Closes x (ending p x r))
ending_keys p locks x r = ending_is (λ d. KeysGo p locks (Closes x d)) tt (λ r. tt) (jobs_of p x) r

module _ (p : PlanParts) (core : IsCorePlan p) (replies : ℕ → List Reply) (l : List NodeStatus) (locks : List LockWord) where
  -- a factory with a job is taken in hand
  pub in_hand_goes : (x w i : ℕ) (counters : List ℕ) → word_of l x ≡ Claimed w → ((c : ℕ) → IsChild p.tree x c → is_spare_at p.tree c ≡ true) → Goes p replies l counters locks (Opens x (StartedAt i)) None → Goes p replies l counters locks Free (Some (record { factory = x; registered = 0; waiting = None }))
  in_hand_goes x w i counters claimed spares old = record {
    words = old.words;
    turns = turns_move p l l (Opens x (StartedAt i)) Free old.turns (λ c f. record { hidden = f.hidden; apart = ne_eqb x c (λ e. hidden_claimed w (sym claimed ∙ ap (word_of l) e ∙ f.hidden)) }) (λ a v q. inl (v, q))
        (λ a c v lt b q f z. (let parts = plain_parts p a c b in both_ways (is_spare_at p.tree c) parts.1 (spares c (is_child_test p.tree x c lt (subst (λ k. is_child p.tree k c ≡ true) (sym z.0) parts.0))))) (λ a q. inl q) (λ a b next f z. absurd z);
    counts = counts_move p l l counters counters (Opens x (StartedAt i)) Free None (Some (record { factory = x; registered = 0; waiting = None })) old.counts (λ n v lt q apart no_hand. inr (record {
      claimer = v;
      claimed = q;
      apart = no_hand;
      no_hand = refl;
      counter = refl;
      same = λ c ch. owed_about p l x w (Opens x (StartedAt i)) Free c claimed (λ ne. sym (ne_eqb x c (λ e. ne (sym e))));
    }));
    keys = tt;
    keys_len = old.keys_len;
    in_hand = record { about = λ n q. absurd (false≢true q); waits = λ c q. absurd (none-some c q); pulls = λ job i r body is. omega arith; more = λ q. absurd (false≢true q) };
  }

  -- a node gives its guard up, and waits or ends; before, its counter had the guard besides what is owed
  module _ (x w : ℕ) (counters : List ℕ) (t : Task) (hand : Option Hand) (claimed : word_of l x ≡ Claimed w) (inside : x < length counters) (guarded : slice_index_or counters x 0 ≡ suc (count_below (owes p l t x) (size p.tree))) where
    -- what nodes but x wait for
    others : (t2 : Task) → ((c : ℕ) → c ≢ x → is_about t2 c ≡ is_about t c) → (n v : ℕ) → word_of l n ≡ Claimed v → n ≢ x → is_about t n ≡ false → is_in_hand hand n ≡ false → Owing p l l counters (less_at counters x) t t2 hand n
    others t2 about n v q ne apart no_hand = record {
      claimer = v;
      claimed = q;
      apart = apart;
      no_hand = no_hand;
      counter = get_or-set_other counters x n (slice_index_or counters x 0 - 1) 0 ne;
      same = λ c ch. owed_about p l x w t t2 c claimed (about c);
    }

    waiting : (t2 : Task) → ((c : ℕ) → c ≢ x → is_about t2 c ≡ is_about t c) → (slice_index_or counters x 0 == 1) ≡ false → (n : ℕ) → n ≡ x → IsOwed p l (less_at counters x) t2 n
    waiting t2 about many n e =
        let now : get_or (less_at counters x) n 0 ≡ slice_index_or counters x 0 - 1 = get_or-set_at counters x n (slice_index_or counters x 0 - 1) 0 e inside in
        let ne : slice_index_or counters x 0 ≢ 1 = λ q. both_ways (slice_index_or counters x 0 == 1) many (eq-eqb (slice_index_or counters x 0) 1 q) in
        let same : count_below (owes p l t2 n) (size p.tree) ≡ count_below (owes p l t x) (size p.tree) =
        subst (λ k. count_below (owes p l t2 k) (size p.tree) ≡ count_below (owes p l t x) (size p.tree)) (sym e)
        (count_same (owes p l t2 x) (owes p l t x) (size p.tree) (λ c lt. same_owes p l l t t2 x c (λ c ch. owed_about p l x w t t2 c claimed (about c)) lt)) in
        record { some = omega (arith, now, guarded, ne); exact = omega (arith, now, guarded, same) }

  pub guard_goes_on : (x w : ℕ) (counters : List ℕ) (r : Status) → word_of l x ≡ Claimed w → x < length counters → slice_index_or counters x 0 ≡ suc (count_below (owes p l (Opens x Guarding) x) (size p.tree)) → Goes p replies l counters locks (Opens x Guarding) None
      → Goes p replies l (set counters x (slice_index_or counters x 0 - 1)) locks (ends_or_free p x r (slice_index_or counters x 0)) None
  guard_goes_on x w counters r claimed inside guarded old =
      by_cond (λ t. Goes p replies l (set counters x (slice_index_or counters x 0 - 1)) locks t None) (slice_index_or counters x 0 == 1) (Closes x (ending p x r)) Free
      (λ one. record {
        words = old.words;
        turns = turns_move p l l (Opens x Guarding) (Closes x (ending p x r)) old.turns (λ c f. record { hidden = f.hidden; apart = f.apart }) (λ a v q. inl (v, q)) (λ a c v lt b q f z. z.0) (λ a q. inl q) (λ a b next f z. absurd z);
        counts = counts_move p l l counters (set counters x (slice_index_or counters x 0 - 1)) (Opens x Guarding) (Closes x (ending p x r)) None None old.counts (λ n v lt q apart none.
            inr (others x w counters (Opens x Guarding) None claimed inside guarded (Closes x (ending p x r)) (λ c ne. refl) n v q (λ e. both_ways (x == n) apart (eq-eqb x n (sym e))) apart refl));
        keys = ending_keys p locks x r;
        keys_len = old.keys_len;
        in_hand = tt;
      })
      (λ many. record {
        words = old.words;
        turns = turns_move p l l (Opens x Guarding) Free old.turns (λ c f. record { hidden = f.hidden; apart = ne_eqb x c (λ e. hidden_claimed w (sym claimed ∙ ap (word_of l) e ∙ f.hidden)) }) (λ a v q. inl (v, q)) (λ a c v lt b q f z. absurd z.1) (λ a q. inl q) (λ a b next f z. absurd z);
        counts = counts_move p l l counters (set counters x (slice_index_or counters x 0 - 1)) (Opens x Guarding) Free None None old.counts (λ n v lt q apart none.
            elim (cases_eq n x) [
              | inl e ↦ inl (waiting x w counters (Opens x Guarding) None claimed inside guarded Free (λ c ne. sym (ne_eqb x c (λ z. ne (sym z)))) many n e)
              | inr ne ↦ inr (others x w counters (Opens x Guarding) None claimed inside guarded Free (λ c ne. sym (ne_eqb x c (λ z. ne (sym z)))) n v q ne (ne_eqb x n (λ z. ne (sym z))) refl)
            ]);
        keys = tt;
        keys_len = old.keys_len;
        in_hand = tt;
      })

  -- a factory in hand gives its guard up, and waits or ends
  pub hand_goes_on : (f w k : ℕ) (o : Option ℕ) (counters : List ℕ) (r : Status) → word_of l f ≡ Claimed w → f < length counters → slice_index_or counters f 0 ≡ suc (count_below (owes p l Free f) (size p.tree)) → Goes p replies l counters locks Free (Some (record { factory = f; registered = k; waiting = o }))
      → Goes p replies l (set counters f (slice_index_or counters f 0 - 1)) locks (ends_or_free p f r (slice_index_or counters f 0)) None
  hand_goes_on f w k o counters r claimed inside guarded old =
      by_cond (λ t. Goes p replies l (set counters f (slice_index_or counters f 0 - 1)) locks t None) (slice_index_or counters f 0 == 1) (Closes f (ending p f r)) Free
      (λ one. record {
        words = old.words;
        turns = turns_move p l l Free (Closes f (ending p f r)) old.turns (λ c f'. record { hidden = f'.hidden; apart = refl }) (λ a v q. inl (v, q)) (λ a c v lt b q f' z. absurd z) (λ a q. inl q) (λ a b next f' z. absurd z);
        counts = counts_move p l l counters (set counters f (slice_index_or counters f 0 - 1)) Free (Closes f (ending p f r)) (Some (record { factory = f; registered = k; waiting = o })) None old.counts (λ n v lt q apart none.
            inr (others f w counters Free (Some (record { factory = f; registered = k; waiting = o })) claimed inside guarded (Closes f (ending p f r)) (λ c ne. ne_eqb f c (λ z. ne (sym z))) n v q (λ e. both_ways (f == n) apart (eq-eqb f n (sym e))) refl apart));
        keys = ending_keys p locks f r;
        keys_len = old.keys_len;
        in_hand = tt;
      })
      (λ many. record {
        words = old.words;
        turns = old.turns;
        counts = counts_move p l l counters (set counters f (slice_index_or counters f 0 - 1)) Free Free (Some (record { factory = f; registered = k; waiting = o })) None old.counts (λ n v lt q apart none.
            elim (cases_eq n f) [
              | inl e ↦ inl (waiting f w counters Free (Some (record { factory = f; registered = k; waiting = o })) claimed inside guarded Free (λ c ne. refl) many n e)
              | inr ne ↦ inr (others f w counters Free (Some (record { factory = f; registered = k; waiting = o })) claimed inside guarded Free (λ c ne. refl) n v q ne refl (ne_eqb f n (λ z. ne (sym z))))
            ]);
        keys = tt;
        keys_len = old.keys_len;
        in_hand = tt;
      })

  -- a child is counted off at its parent
  module _ (x a w : ℕ) (counters : List ℕ) (hand : Option Hand) (ch : IsChild p.tree a x) (up : a < x) (settled : word_of l x ≡ Settled) (claimed : word_of l a ≡ Claimed w) (inside : a < length counters) (old : Goes p replies l counters locks (Closes x CountingOff) hand) where
    apart_x : (n v : ℕ) → word_of l n ≡ Claimed v → (x == n) ≡ false
    apart_x n v q = ne_eqb x n (λ e. settled_claimed v (sym settled ∙ ap (word_of l) e ∙ q))

    elsewhere : (t2 : Task) → ((c : ℕ) → c ≢ x → c ≢ a → is_about t2 c ≡ false) → (n v : ℕ) → word_of l n ≡ Claimed v → n ≢ a → is_in_hand hand n ≡ false → Owing p l l counters (less_at counters a) (Closes x CountingOff) t2 hand n
    elsewhere t2 about n v q ne no_hand = record {
      claimer = v;
      claimed = q;
      apart = apart_x n v q;
      no_hand = no_hand;
      counter = get_or-set_other counters a n (slice_index_or counters a 0 - 1) 0 ne;
      same = λ c chc. (let nx : c ≢ x = λ e. ne (sym chc.parent ∙ ap (parent_of p.tree) e ∙ ch.parent) in
          owed_about p l a w (Closes x CountingOff) t2 c claimed (λ na. about c nx na ∙ sym (ne_eqb x c (λ e. nx (sym e)))));
    }

    turns_off : (t2 : Task) → TurnsGo p l t2
    turns_off t2 = turns_move p l l (Closes x CountingOff) t2 old.turns (λ c f. record { hidden = f.hidden; apart = ne_eqb x c (λ e. hidden_settled (sym settled ∙ ap (word_of l) e ∙ f.hidden)) }) (λ n v q. inl (v, q))
        (λ n c v lt b q f z. absurd (settled_claimed v (sym settled ∙ ap (word_of l) z ∙ q))) (λ n q. inl q) (λ n b next f z. absurd z.1)

    -- what is owed at the parent
    still_owed : (slice_index_or counters a 0 == 1) ≡ false → is_in_hand hand a ≡ false → (n : ℕ) → n ≡ a → IsOwed p l (less_at counters a) Free n
    still_owed many no_hand n e =
        let was = old.counts a w (omega (arith, up, ch.inside)) claimed (apart_x a w claimed) no_hand in
        let some : 0 < slice_index_or counters a 0 = was.some in
        let exact : slice_index_or counters a 0 ≡ count_below (owes p l (Closes x CountingOff) a) (size p.tree) = was.exact in
        let now : get_or (less_at counters a) n 0 ≡ slice_index_or counters a 0 - 1 = get_or-set_at counters a n (slice_index_or counters a 0 - 1) 0 e inside in
        let ne : slice_index_or counters a 0 ≢ 1 = λ q. both_ways (slice_index_or counters a 0 == 1) many (eq-eqb (slice_index_or counters a 0) 1 q) in
        let change : count_below (owes p l (Closes x CountingOff) a) (size p.tree) + bit (owes p l Free a x) ≡ count_below (owes p l Free a) (size p.tree) + bit (owes p l (Closes x CountingOff) a x) =
        count_change (owes p l (Closes x CountingOff) a) (owes p l Free a) x (size p.tree) ch.inside (λ k nk. ap (λ b. is_child p.tree a k && owed (is_spare_at p.tree k) (word_of l k) b) (ne_eqb x k (λ z. nk (sym z)))) in
        let is : is_child p.tree a x ≡ true = test_is_child p.tree a x ch in
        let before : bit (owes p l (Closes x CountingOff) a x) ≡ 1 = ap (λ b. bit (b && owed (is_spare_at p.tree x) (word_of l x) (x == x))) is ∙ ap (λ v. bit (owed (is_spare_at p.tree x) v (x == x))) settled ∙ ap bit (eq-eqb x x refl) in
        let after : bit (owes p l Free a x) ≡ 0 = ap (λ b. bit (b && owed (is_spare_at p.tree x) (word_of l x) false)) is ∙ ap (λ v. bit (owed (is_spare_at p.tree x) v false)) settled in
        let same : count_below (owes p l Free n) (size p.tree) ≡ count_below (owes p l Free a) (size p.tree) = ap (λ k. count_below (owes p l Free k) (size p.tree)) e in
        record { some = omega (arith, some, now, ne); exact = omega (arith, now, exact, change, before, after, same, some) }

    free_hand : (hand : Option Hand) → HandGo p replies l (Closes x CountingOff) hand → HandGo p replies l Free hand
    free_hand None old = tt
    free_hand (Some hand) old = record {
      about = λ n q. absurd (false≢true q);
      waits = λ c q. absurd (none c (old.waits c q).2);
      pulls = old.pulls;
      more = λ q. absurd (false≢true q);
    }
      where
        none : (c : ℕ) → IsAtWork l (Closes x CountingOff) c → ⊥
        none c (inl z) = false≢true z.1
        none c (inr z) = settled_claimed z.0 (sym settled ∙ ap (word_of l) (eqb-true x c z.2) ∙ z.1)

    pub off_goes : (r : Status) → (slice_index_or counters a 0 ≡ 1 → hand ≡ None) → Goes p replies l (less_at counters a) locks (ends_or_free p a r (slice_index_or counters a 0)) hand
    off_goes r last =
        by_cond (λ t. Goes p replies l (less_at counters a) locks t hand) (slice_index_or counters a 0 == 1) (Closes a (ending p a r)) Free
        (λ one. record {
          words = old.words;
          turns = turns_off (Closes a (ending p a r));
          counts = counts_move p l l counters (less_at counters a) (Closes x CountingOff) (Closes a (ending p a r)) hand hand old.counts (λ n v lt q apart none. inr (elsewhere (Closes a (ending p a r)) (λ c nx na. ne_eqb a c (λ e. na (sym e))) n v q (λ e. both_ways (a == n) apart (eq-eqb a n (sym e))) none));
          keys = ending_keys p locks a r;
          keys_len = old.keys_len;
          in_hand = subst (HandGo p replies l (Closes a (ending p a r))) (sym (last (eqb-true (slice_index_or counters a 0) 1 one))) tt;
        })
        (λ many. record {
          words = old.words;
          turns = turns_off Free;
          counts = counts_move p l l counters (less_at counters a) (Closes x CountingOff) Free hand hand old.counts (λ n v lt q apart none.
              elim (cases_eq n a) [ inl e ↦ inl (still_owed many (ap (is_in_hand hand) (sym e) ∙ none) n e) | inr ne ↦ inr (elsewhere Free (λ c nx na. refl) n v q ne none) ]);
          keys = tt;
          keys_len = old.keys_len;
          in_hand = free_hand hand old.in_hand;
        })

  -- the next spare of a factory in hand is brought in
  pub add_goes : (c : ℕ) (hand : Hand) (counters : List ℕ) → IsChild p.tree hand.factory c → is_spare_at p.tree c ≡ true → hand.waiting ≡ None → ((job i : ℕ) (r : Reply) → body_of p.tree hand.factory ≡ Some job → slice_get (replies job) i ≡ Some r → hand.registered < r.pulls)
      → Goes p replies l counters locks Free (Some hand) → Goes p replies l (set counters hand.factory (slice_index_or counters hand.factory 0 + 1)) locks (Opens c Registering) (Some hand)
  add_goes c hand counters ch spare idle more old = record {
    words = old.words;
    turns = turns_move p l l Free (Opens c Registering) old.turns (λ k f. record { hidden = f.hidden; apart = refl }) (λ a v q. inl (v, q)) (λ a k v lt b q f z. absurd z) (λ a q. inl q) (λ a b next f z. absurd z);
    counts = counts_move p l l counters (set counters hand.factory (slice_index_or counters hand.factory 0 + 1)) Free (Opens c Registering) (Some hand) (Some hand) old.counts (λ n v lt q apart none.
        (let ne : n ≢ hand.factory = λ e. both_ways (hand.factory == n) none (eq-eqb hand.factory n (sym e)) in
        inr (record {
          claimer = v;
          claimed = q;
          apart = refl;
          no_hand = none;
          counter = get_or-set_other counters hand.factory n (slice_index_or counters hand.factory 0 + 1) 0 ne;
          same = λ k chk. ap (owed (is_spare_at p.tree k) (word_of l k)) (ne_eqb c k (λ e. ne (sym chk.parent ∙ ap (parent_of p.tree) (sym e) ∙ ch.parent)));
        })));
    keys = tt;
    keys_len = old.keys_len;
    in_hand = record {
      about = λ n q. (let e = eqb-true c n q in (ap (parent_of p.tree) (sym e) ∙ ch.parent, ap (is_spare_at p.tree) (sym e) ∙ spare));
      waits = λ k q. absurd (none-some k (sym idle ∙ q));
      pulls = old.in_hand.pulls;
      more = λ q. more;
    };
  }
