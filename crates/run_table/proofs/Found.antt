-- What a look has found, by the word that it read.
use Rattle.std.proofs.Common.{◌≡◌, ◌⊎◌, inl, inr, ℕ, suc, ◌+◌, ◌*◌, ◌/◌, ◌%◌, ◌<◌, ◌==◌, nat_lt, Bool, false, List, Option, Some, None, refl, sym, ap, ◌∙◌, subst, arith}
use Rattle.std.proofs.lemmas.Bool.{cond-false, ne_eqb}
use Rattle.std.proofs.lemmas.Option.{same_Some}
use Rattle.descriptor.specs.Nodes.{size}
use Rattle.plan_events.specs.declared.event.Event.{Event}
use Rattle.plan_events.specs.declared.outcome.Reply.{Reply}
use Rattle.scheduling.specs.declared.status.NodeStatus.{NodeStatus}
use Rattle.scheduling.specs.declared.status.NodeStatus.TheVariants.{Hidden, Ready, Claimed, Settled}
use Rattle.scheduling.specs.State.{status_at}
use Rattle.table_rule.specs.declared.view.View.{View}
use Rattle.table_rule.specs.declared.view.WorkerFacts.{WorkerFacts}
use Rattle.table_rule.specs.declared.view.SeatOwner.TheVariants.{Worker}
use Rattle.table_rule.specs.Moments.{HasFound, HasFoundRoom, FindsWord}
use Rattle.table_rule.specs.Picture.{replies_of}
use Rattle.table_rule.specs.Words.{status_word, read_place}
use Rattle.table_rule.proofs.Moments.{status_then, read_then, owner_few}
use Rattle.table_contents.specs.Reading.{status_by, status_read}

by_parts : (word kind owner : ℕ) → (word == 1) ≡ false → word % 4 ≡ kind → word / 4 % 256 ≡ owner → status_read word ≡ status_by kind owner
by_parts word kind owner other is_kind is_owner = cond-false (word == 1) Settled (status_by (word % 4) (word / 4 % 256)) other ∙ (λ k. status_by (is_kind k) (is_owner k))

-- The word of a status is read as that.
read_back : (s : NodeStatus) → ((o : ℕ) → (s ≡ Ready (Some o)) ⊎ (s ≡ Claimed o) → o < 64) → status_read (status_word s) ≡ s
read_back Hidden few = refl
read_back Settled few = refl
read_back (Ready None) few = refl
read_back (Ready (Some o)) few =
    let low = few o (inl refl) in
    let word : ℕ = 2 + 4 * (o + 1) in
    by_parts word 2 (suc o) (ne_eqb word 1 (λ e. omega (arith, e))) (omega arith) (omega (arith, low))
read_back (Claimed o) few =
    let low = few o (inr refl) in
    let word : ℕ = 3 + 4 * (o + 1) in
    by_parts word 3 (suc o) (ne_eqb word 1 (λ e. omega (arith, e))) (omega arith) (omega (arith, low))

module _ {B : Type 0} (answers : B → List Reply) (v : View B) (w : WorkerFacts) (is : v.owner ≡ Worker w) where
  pub status_found : (n word : ℕ) (s : NodeStatus) → s ≡ status_read word → n < size v.about.plan.tree → FindsWord answers v n word → HasFound answers v n s
  status_found n word s read low finds =
      let x = finds w is in record {
        sight = x.0;
        status_is = sym (read_back (status_at x.0.core n) (owner_few (replies_of answers v.about) v.about v x.0 n)) ∙ ap status_read (status_then (replies_of answers v.about) v.about v x.0 n word low x.1) ∙ sym read;
      }

  pub room_found : (i word : ℕ) (room : Bool) → room ≡ nat_lt i (word + v.about.ring) → FindsWord answers v (read_place v.about.plan) word → HasFoundRoom answers v i room
  room_found i word room said finds =
      let x = finds w is in record {
        sight = x.0;
        room_is = said ∙ ap (λ k. nat_lt i (k + v.about.ring)) (sym (read_then (replies_of answers v.about) v.about v x.0 word x.1));
      }

-- What a seat has drawn stands at one place.
pub room_there : {B : Type 0} (answers : B → List Reply) (v : View B) (room : Bool) (number : ℕ) (event : Event) (drawn : Option (ℕ × Event)) → drawn ≡ Some (number, event) → HasFoundRoom answers v number room
    → (i : ℕ) (e : Event) → drawn ≡ Some (i, e) → HasFoundRoom answers v i room
room_there answers v room number event drawn is found i e also = subst (λ (x : ℕ × Event). HasFoundRoom answers v x.0 room) (same_Some (number, event) (i, e) (sym is ∙ also)) found
