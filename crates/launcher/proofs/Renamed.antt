-- What is said of a run of some jobs is said of a run of what they stand for: jobs with the same numbers and the same answers.
use Rattle.std.proofs.Common.{◌≡◌, ◌∙◌, ◌==◌, ◌≤◌, ◌&&◌, ℕ, zero, suc, not, cond, Bool, true, false, List, [], ◌∷◌, ◌++◌, map, length, Option, Some, None, option_map, IsPermutation, slice_get, inl, inr, refl, sym, ap, subst, arith}
use Rattle.std.specs.Option.{is_some}
use Rattle.std.proofs.lemmas.List.{length-append, length-map, map-append}
use Rattle.std.proofs.lemmas.List.Sorted.{IsPermutation-map, length_permutation}
use Rattle.std.proofs.lemmas.Option.{none-some, same_Some, slice_get-map}
use mathlib.Core.Option.{some, none, some-injective, some-ne-none}
use mathlib.Core.Option as plain
use lib.ListN.{get_elem?}
use Rattle.plan_events.specs.declared.event.Event.{Event}
use Rattle.plan_events.specs.declared.outcome.Outcome.{Outcome}
use Rattle.plan_events.specs.declared.outcome.Reply.{Reply}
use Rattle.plan_events.specs.Texts.{TextParts}
use Rattle.resource_locks.specs.Plans.{PlanParts}
use Rattle.table_rule.specs.declared.view.DispatcherFacts.{DispatcherFacts}
use Rattle.table_rule.specs.declared.view.Slot.{Slot}
use Rattle.table_rule.specs.declared.view.Slot.TheVariants.{Empty, Body, Answered, Used}
use Rattle.table_rule.specs.declared.view.SlotState.{SlotState}
use Rattle.table_rule.specs.declared.view.SlotState.TheVariants.{Unmoved, Out, Left, Noted, Taking, Taken}
use Rattle.table_rule.specs.Picture.{AreAmong, SaysSo, given_by, that_count, replies_in, replies_of}
use Rattle.table_rule.specs.Slots.{job_at, job_with, slot_with, slot_for, IsHome}
use Rattle.table_contents.specs.Prepared.{slot_of, goes_in, unused_after, unused_of, job_in, jobs_from, IsMissing, HasAllJobs, IsRefused}
use Rattle.table_contents.specs.declared.fault.TableFault.{TableFault}
use Rattle.table_contents.specs.declared.fault.TableFault.TheVariants.{NoMemory, NoWorkers, TooManyWorkers, BadRing, JobsMissing}
use Rattle.run_table.specs.Balance.{IsBalanced}
use Rattle.run_table.specs.Ended.{HasEnded}
use Rattle.worker_pool.specs.Premises.{JobsMayAnswer}
use Rattle.worker_pool.specs.Reports.{run_of, AreTexts, EndsAsReplied, IsLeft, IsReport, IsRefusedRun, IsToldAsGiven, IsToldAsSaid}
use Rattle.worker_pool.specs.declared.report.RunCause.{RunCause}
use Rattle.worker_pool.specs.declared.report.RunCause.TheVariants.{Table, NoWorker}

abbrev lift : {X Y : Type 0} → (X → Y) → plain.Option X → plain.Option Y
lift f none = none
lift f (some x) = some (f x)

module _ {J B : Type 0} (job : J → B) where
  abbrev pub stands_for : ℕ × J → ℕ × B
  stands_for x = (x.0, job x.1)

  -- The job of a number.
  found : (jobs : List (ℕ × J)) (number : ℕ) → job_with (map stands_for jobs) number ≡ option_map job (job_with jobs number)
  found [] number = refl
  found (x ∷ xs) number = go (x.0 == number) (found xs number)
    where
      go : (b : Bool) → job_with (map stands_for xs) number ≡ option_map job (job_with xs number) → cond b (Some (job x.1)) (job_with (map stands_for xs) number) ≡ option_map job (cond b (Some x.1) (job_with xs number))
      go true rest = refl
      go false rest = rest

  found_some : (jobs : List (ℕ × J)) (number : ℕ) (j : J) → job_with jobs number ≡ Some j → job_with (map stands_for jobs) number ≡ Some (job j)
  found_some jobs number j is = found jobs number ∙ ap (option_map job) is

  none_of : (o : Option J) → option_map job o ≡ None → o ≡ None
  none_of None is = refl
  none_of (Some j) is = absurd (none-some (job j) (sym is))

  found_none : (jobs : List (ℕ × J)) (number : ℕ) → job_with (map stands_for jobs) number ≡ None → job_with jobs number ≡ None
  found_none jobs number is = none_of (job_with jobs number) (sym (found jobs number) ∙ is)

  none_found : (jobs : List (ℕ × J)) (number : ℕ) → job_with jobs number ≡ None → job_with (map stands_for jobs) number ≡ None
  none_found jobs number is = found jobs number ∙ ap (option_map job) is

  some_of : (o : Option J) → is_some (option_map job o) ≡ is_some o
  some_of None = refl
  some_of (Some j) = refl

  -- The jobs that go into no slot, and those that stand in slots.
  same_goes : (p : PlanParts) (before : List (ℕ × J)) (number : ℕ) → goes_in p (map stands_for before) number ≡ goes_in p before number
  same_goes p before number = ap (λ (b : Bool). is_some (slot_of p number) && not b) (ap is_some (found before number) ∙ some_of (job_with before number))

  unused_then : (p : PlanParts) (before jobs : List (ℕ × J)) → unused_after p (map stands_for before) (map stands_for jobs) ≡ map stands_for (unused_after p before jobs)
  unused_then p before [] = refl
  unused_then p before (x ∷ xs) =
      let behind : map stands_for (before ++ x ∷ []) ≡ map stands_for before ++ stands_for x ∷ [] = map-append stands_for before (x ∷ []) in
      let rest : unused_after p (map stands_for before ++ stands_for x ∷ []) (map stands_for xs) ≡ map stands_for (unused_after p (before ++ x ∷ []) xs) = ap (λ (l : List (ℕ × B)). unused_after p l (map stands_for xs)) (sym behind) ∙ unused_then p (before ++ x ∷ []) xs in
      ap (λ (b : Bool). cond b (unused_after p (map stands_for before ++ stands_for x ∷ []) (map stands_for xs)) (stands_for x ∷ unused_after p (map stands_for before ++ stands_for x ∷ []) (map stands_for xs))) (same_goes p before x.0)
      ∙ go (goes_in p before x.0) (unused_after p (map stands_for before ++ stands_for x ∷ []) (map stands_for xs)) (unused_after p (before ++ x ∷ []) xs) rest
    where
      go : (b : Bool) (l : List (ℕ × B)) (m : List (ℕ × J)) → l ≡ map stands_for m → cond b l (stands_for x ∷ l) ≡ map stands_for (cond b m (x ∷ m))
      go true l m is = is
      go false l m is = ap (λ (k : List (ℕ × B)). stands_for x ∷ k) is

  abbrev slot_as : Slot J → Slot B
  slot_as Empty = Empty
  slot_as (Body j) = Body (job j)
  slot_as (Answered pulls status note j) = Answered pulls status note (job j)
  slot_as (Used j) = Used (job j)

  in_slot : (number : Option ℕ) (slot : Slot J) → job_in number (slot_as slot) ≡ map stands_for (job_in number slot)
  in_slot None Empty = refl
  in_slot None (Body j) = refl
  in_slot None (Answered pulls status note j) = refl
  in_slot None (Used j) = refl
  in_slot (Some number) Empty = refl
  in_slot (Some number) (Body j) = refl
  in_slot (Some number) (Answered pulls status note j) = refl
  in_slot (Some number) (Used j) = refl

  in_slots : (p : PlanParts) (k : ℕ) (slots : List (Slot J)) → jobs_from p k (map slot_as slots) ≡ map stands_for (jobs_from p k slots)
  in_slots p k [] = refl
  in_slots p k (slot ∷ slots) = (λ i. in_slot (job_at p k) slot i ++ in_slots p (suc k) slots i) ∙ sym (map-append stands_for (job_in (job_at p k) slot) (jobs_from p (suc k) slots))

  -- What stands at home in a slot.
  slot_found : (o : Option J) → slot_with (option_map job o) ≡ slot_as (slot_with o)
  slot_found None = refl
  slot_found (Some j) = refl

  fresh_slot : (jobs : List (ℕ × J)) (number : Option ℕ) → slot_for (map stands_for jobs) number ≡ slot_as (slot_for jobs number)
  fresh_slot jobs None = refl
  fresh_slot jobs (Some number) = ap slot_with (found jobs number) ∙ slot_found (job_with jobs number)

  module _ (p : PlanParts) (workers ring : ℕ) (jobs : List (ℕ × J)) where
    at_home : (k : ℕ) (state : SlotState) (home : plain.Option (Slot J)) → IsHome (run_of p workers ring jobs) k state home → IsHome (run_of p workers ring (map stands_for jobs)) k state (lift slot_as home)
    at_home k Unmoved home is = ap (lift slot_as) is ∙ ap (λ (slot : Slot B). some slot) (sym (fresh_slot jobs (job_at p k)))
    at_home k Out home is = ap (lift slot_as) is
    at_home k Left home is = ap (lift slot_as) is
    at_home k (Noted reply) home is = (job is.0, ap (lift slot_as) is.1)
    at_home k (Taking reply) home is = ap (lift slot_as) is
    at_home k (Taken reply) home is = (job is.0, ap (lift slot_as) is.1)

  stands_as : (slots : List (Slot J)) (k : ℕ) (slot : Slot J) → get_elem? slots k ≡ some slot → get_elem? (map slot_as slots) k ≡ some (slot_as slot)
  stands_as [] k slot is = absurd (some-ne-none slot (sym is))
  stands_as (x ∷ slots) zero slot is = ap (λ (y : Slot J). some (slot_as y)) (some-injective x slot is)
  stands_as (x ∷ slots) (suc k) slot is = stands_as slots k slot is

  home_as : (o : plain.Option (Slot J)) (slots : List (Slot J)) (k : ℕ) → ((x : Slot J) → o ≡ some x → get_elem? slots k ≡ some x) → (y : Slot B) → lift slot_as o ≡ some y → get_elem? (map slot_as slots) k ≡ some y
  home_as none slots k homes y is = absurd (some-ne-none y (sym is))
  home_as (some x) slots k homes y is = stands_as slots k x (homes x refl) ∙ is

  ended : (replies : ℕ → List Reply) (p : PlanParts) (workers ring : ℕ) (jobs left : List (ℕ × J)) (d : DispatcherFacts) → HasEnded replies (run_of p workers ring jobs) d left → HasEnded replies (run_of p workers ring (map stands_for jobs)) d (map stands_for left)
  ended replies p workers ring jobs left d e = record {
    core = e.core;
    right = e.right;
    read = e.read;
    words = e.words;
    shown = e.shown;
    whole = e.whole;
    slots = map slot_as e.slots;
    many = length-map e.slots slot_as ∙ e.many;
    left = ap (map stands_for) e.left ∙ (map-append stands_for (unused_of (run_of p workers ring jobs)) (jobs_from p 0 e.slots) ∙ (λ i. sym (unused_then p [] jobs) i ++ sym (in_slots p 0 e.slots) i));
    slot_state = e.slot_state;
    homes = λ k low. (let home = e.homes k low in (lift slot_as home.0, at_home p workers ring jobs k (e.slot_state k) home.0 home.1, home_as home.0 e.slots k home.2));
    waits = e.waits;
    taken = e.taken;
    undealt = e.undealt;
    told = e.told;
    among = e.among;
    once = e.once;
    right_by = e.right_by;
    told_is = e.told_is;
    ran = e.ran;
  }

  -- Which jobs were used.
  place_as : (x : ℕ × J) (number : ℕ) (b : B) → stands_for x ≡ (number, b) → (x.0 ≡ number) × (job x.1 ≡ b)
  place_as x number b is = (ap (λ (y : ℕ × B). y.0) is, ap (λ (y : ℕ × B). y.1) is)

  record StandsFor (used : List (ℕ × J)) (i number : ℕ) (b : B) : Type 0 where
    pub of : J
    pub stands : slice_get used i ≡ Some (number, of)
    pub is : job of ≡ b

  back_by : (used : List (ℕ × J)) (i number : ℕ) (b : B) (o : Option (ℕ × J)) → slice_get used i ≡ o → option_map stands_for o ≡ Some (number, b) → StandsFor used i number b
  back_by used i number b None at is = absurd (none-some (number, b) is)
  back_by used i number b (Some x) at is =
      let same = place_as x number b (same_Some (stands_for x) (number, b) is) in
      record { of = x.1; stands = at ∙ ap (λ (n : ℕ). Some (n, x.1)) same.0; is = same.1 }

  back : (used : List (ℕ × J)) (i number : ℕ) (b : B) → slice_get (map stands_for used) i ≡ Some (number, b) → StandsFor used i number b
  back used i number b is = back_by used i number b (slice_get used i) refl (sym (slice_get-map stands_for used i) ∙ is)

  there : (used : List (ℕ × J)) (i number : ℕ) (j : J) → slice_get used i ≡ Some (number, j) → slice_get (map stands_for used) i ≡ Some (number, job j)
  there used i number j is = slice_get-map stands_for used i ∙ ap (option_map stands_for) is

  pub balanced : (p : PlanParts) (jobs left : List (ℕ × J)) (h : List Event) → IsBalanced p jobs h left → IsBalanced p (map stands_for jobs) h (map stands_for left)
  balanced p jobs left h b = record {
    used = map stands_for b.used;
    all = subst (λ (l : List (ℕ × B)). IsPermutation (map stands_for jobs) l) (map-append stands_for left b.used) (IsPermutation-map stands_for jobs (left ++ b.used) b.all);
    each = λ number is. (let x = b.each number is in (x.0, (job x.1.0, there b.used x.0 number x.1.0 x.1.1)));
    alone = λ i number y at. (let x = back b.used i number y at in let was = b.alone i number x.of x.stands in (was.0, found_some jobs number x.of was.1 ∙ ap (λ (c : B). Some c) x.is));
    once = λ i j number y z at also. (let x = back b.used i number y at in let w = back b.used j number z also in b.once i j number x.of w.of x.stands w.stands);
  }

  -- no more jobs are left than there were
  pub few_left : (p : PlanParts) (jobs left : List (ℕ × J)) (h : List Event) → IsBalanced p jobs h left → length left ≤ length jobs
  few_left p jobs left h b =
      let all = length_permutation jobs (left ++ b.used) b.all in
      let both = length-append left b.used in
      omega (arith, all, both)

  -- Why a run is refused.
  missing : (p : PlanParts) (jobs : List (ℕ × J)) (number : ℕ) → IsMissing p jobs number → IsMissing p (map stands_for jobs) number
  missing p jobs number m = record { slot = m.slot; inside = m.inside; is = m.is; none = none_found jobs number m.none }

  was_missing : (p : PlanParts) (jobs : List (ℕ × J)) (number : ℕ) → IsMissing p (map stands_for jobs) number → IsMissing p jobs number
  was_missing p jobs number m = record { slot = m.slot; inside = m.inside; is = m.is; none = found_none jobs number m.none }

  pub all_there : (p : PlanParts) (jobs : List (ℕ × J)) → HasAllJobs p jobs → HasAllJobs p (map stands_for jobs)
  all_there p jobs has number m = has number (was_missing p jobs number m)

  refused_by : (p : PlanParts) (workers ring : ℕ) (jobs : List (ℕ × J)) (fault : TableFault) → IsRefused p workers ring jobs fault → IsRefused p workers ring (map stands_for jobs) fault
  refused_by p workers ring jobs NoWorkers is = is
  refused_by p workers ring jobs TooManyWorkers is = is
  refused_by p workers ring jobs BadRing is = is
  refused_by p workers ring jobs NoMemory is = is
  refused_by p workers ring jobs (JobsMissing number) is = (is.0, is.1, record { missing = missing p jobs number is.2.missing; least = λ other m. is.2.least other (was_missing p jobs other m) })

  pub refused : (p : PlanParts) (workers ring : ℕ) (jobs : List (ℕ × J)) (cause : RunCause) → IsRefusedRun p workers ring jobs cause → IsRefusedRun p workers ring (map stands_for jobs) cause
  refused p workers ring jobs (Table fault) is = refused_by p workers ring jobs fault is
  refused p workers ring jobs NoWorker is = (is.0, is.1, all_there p jobs is.2)

  -- What is said by the replies of the jobs.
  module _ (answers : B → List Reply) where
    abbrev told : J → List Reply
    told j = answers (job j)

    same_in : (jobs : List (ℕ × J)) (number : ℕ) → replies_in told jobs number ≡ replies_in answers (map stands_for jobs) number
    same_in [] number = refl
    same_in (x ∷ xs) number = ap (λ (l : List Reply). cond (x.0 == number) (answers (job x.1)) l) (same_in xs number)

    module _ (p : PlanParts) (workers ring : ℕ) (jobs : List (ℕ × J)) where
      pub same_replies : replies_of told (run_of p workers ring jobs) ≡ replies_of answers (run_of p workers ring (map stands_for jobs))
      same_replies = λ i number. that_count p number (same_in jobs number i)

      pub may_answer : JobsMayAnswer answers (run_of p workers ring (map stands_for jobs)) → JobsMayAnswer told (run_of p workers ring jobs)
      may_answer may = record {
        factories = λ n number j pulls is at. may.factories n number (job j) pulls is (found_some jobs number j at);
        bodies = λ n number j pulls is at. may.bodies n number (job j) pulls is (found_some jobs number j at);
        after_bodies = λ n number j is at. may.after_bodies n number (job j) is (found_some jobs number j at);
      }

      as_report : (replies : ℕ → List Reply) (events : List Event) → IsReport (run_of p workers ring jobs) replies events → IsReport (run_of p workers ring (map stands_for jobs)) replies events
      as_report replies events r = record { legal = r.legal; order = r.order; exclusive = r.exclusive; within = r.within; complete = r.complete; ends = r.ends }

      pub reported : (events : List Event) → IsReport (run_of p workers ring jobs) (replies_of told (run_of p workers ring jobs)) events
          → IsReport (run_of p workers ring (map stands_for jobs)) (replies_of answers (run_of p workers ring (map stands_for jobs))) events
      reported events r = subst (λ (replies : ℕ → List Reply). IsReport (run_of p workers ring (map stands_for jobs)) replies events) same_replies (as_report (replies_of told (run_of p workers ring jobs)) events r)

      pub replied : (events : List Event) → EndsAsReplied p (replies_of told (run_of p workers ring jobs)) workers events → EndsAsReplied p (replies_of answers (run_of p workers ring (map stands_for jobs))) workers events
      replied events e = subst (λ (replies : ℕ → List Reply). EndsAsReplied p replies workers events) same_replies e

      pub texts_are : (events : List Event) (texts : TextParts) → AreTexts p (replies_of told (run_of p workers ring jobs)) events texts → AreTexts p (replies_of answers (run_of p workers ring (map stands_for jobs))) events texts
      texts_are events texts are = subst (λ (replies : ℕ → List Reply). AreTexts p replies events texts) same_replies are

      pub left_over : (events : List Event) (left : List (ℕ × J)) → IsLeft (replies_of told (run_of p workers ring jobs)) (run_of p workers ring jobs) events left
          → IsLeft (replies_of answers (run_of p workers ring (map stands_for jobs))) (run_of p workers ring (map stands_for jobs)) events (map stands_for left)
      left_over events left l = record {
        state = l.state;
        read = l.read;
        ended = subst (λ (replies : ℕ → List Reply). HasEnded replies (run_of p workers ring (map stands_for jobs)) l.state (map stands_for left)) same_replies (ended (replies_of told (run_of p workers ring jobs)) p workers ring jobs left l.state l.ended);
      }

      -- What a job gives, so does the one that it stands for.
      module _ (gives : B → Reply → Type 0) where
        abbrev given : J → Reply → Type 0
        given j = gives (job j)

        pub given_job : (number : ℕ) (reply : Reply) → given_by given (run_of p workers ring jobs) number reply → given_by gives (run_of p workers ring (map stands_for jobs)) number reply
        given_job number reply is = elim is [ inl x ↦ inl (job x.0, found_some jobs number x.0 x.1, x.2) | inr many ↦ inr many ]

        abbrev pub told_given : (events : List Event) (texts : TextParts) → IsToldAsGiven (given_by given (run_of p workers ring jobs)) (replies_of told (run_of p workers ring jobs)) p workers events texts
            → IsToldAsGiven (given_by gives (run_of p workers ring (map stands_for jobs))) (replies_of answers (run_of p workers ring (map stands_for jobs))) p workers events texts
        told_given events texts is = record {
          ran = record {
            told = is.ran.told;
            given_so = λ number i reply at. given_job number reply (is.ran.given_so number i reply at);
            among = subst (λ (replies : ℕ → List Reply). AreAmong is.ran.told replies) same_replies is.ran.among;
            once = is.ran.once;
            of_core = is.ran.of_core;
          };
          legal = is.legal;
          texts_are = is.texts_are;
        }

        -- and what the job says, so does the one that it stands for
        pub told_said : (says : B → Outcome → Type 0) (events : List Event) (texts : TextParts) (used : List (ℕ × J)) → IsToldAsSaid (λ j. says (job j)) (given_by given (run_of p workers ring jobs)) (replies_of told (run_of p workers ring jobs)) p workers events texts used
            → IsToldAsSaid says (given_by gives (run_of p workers ring (map stands_for jobs))) (replies_of answers (run_of p workers ring (map stands_for jobs))) p workers events texts (map stands_for used)
        told_said says events texts used said = record {
          is = told_given events texts said.is;
          says_so = λ i number b at. (let x = back used i number b at in let was = said.says_so i number x.of x.stands in (was.0, was.1, subst (SaysSo says p number was.0) x.is was.2));
          alone = λ i number b at. (let x = back used i number b at in said.alone i number x.of x.stands);
          few = (let few = said.few in let long = length-map used stands_for in omega (arith, few, long));
          each = λ number ran. (let x = said.each number ran in (x.0, job x.1, there used x.0 number x.1 x.2));
        }
