-- What the fixed schedule of one worker keeps besides the invariant, so that it is never stuck. Only proofs need this file.
use Rattle.std.specs.Prelude.{◌≡◌, ℕ, ◌<◌, ◌≤◌, Bool, true, false, ◌&&◌, ◌||◌, ◌==◌, not, List, [], ◌∷◌, length, Option, Some, None, slice_get, slice_index_or, ◌⊎◌}
use Rattle.descriptor.specs.Nodes.{size, parent_of, is_child, is_spare_at, body_of, count_below}
use Rattle.plan_events.specs.declared.outcome.Reply.{Reply}
use Rattle.resource_locks.specs.Plans.{PlanParts}
use Rattle.event_history.specs.Plans.{IsElder, Leaf, sort_of}
use Rattle.scheduling.specs.declared.status.NodeStatus.{NodeStatus}
use Rattle.scheduling.specs.declared.status.NodeStatus.TheVariants.{Hidden, Ready, Claimed, Settled}
use Rattle.scheduling.specs.declared.lock_word.LockWord.{LockWord}
use Rattle.scheduling.specs.declared.lock_word.LockWord.TheVariants.{Readers}
use Rattle.scheduling.specs.declared.task.Opening.{Opening}
use Rattle.scheduling.specs.declared.task.Opening.TheVariants.{Registering, Weighed, Backing, Admitting, Guarding}
use Rattle.scheduling.specs.declared.task.Closing.{Closing}
use Rattle.scheduling.specs.declared.task.Closing.TheVariants.{Giving, Looking, Passing}
use Rattle.scheduling.specs.declared.task.Task.{Task}
use Rattle.scheduling.specs.declared.task.Task.TheVariants.{Free, Opens, Closes}
use Rattle.scheduling.specs.declared.seat.Hand.{Hand}
use Rattle.scheduling.specs.declared.seat.Seat.{Seat}
use Rattle.scheduling.specs.State.{State}
use Rattle.scheduling.specs.Choices.{in_batch, key_at, keys_count}
use Rattle.scheduling.specs.Rows.{is_free}
use Rattle.scheduling.specs.Shown.{IsPlaced}
use Rattle.scheduling.specs.Inside.Stages.{Stage}
use Rattle.scheduling.specs.Inside.Invariant.{IsNextSame, Holds}

-- whether the task is about node n, and whether n is the factory in hand
abbrev pub is_about : Task → ℕ → Bool
is_about Free n = false
is_about (Opens m d) n = m == n
is_about (Closes m d) n = m == n

abbrev pub is_in_hand : Option Hand → ℕ → Bool
is_in_hand None n = false
is_in_hand (Some hand) n = hand.factory == n

abbrev pub is_begun : NodeStatus → Bool
is_begun (Claimed w) = true
is_begun Settled = true
is_begun _ = false

abbrev pub word_of : List NodeStatus → ℕ → NodeStatus
word_of l n = slice_index_or l n Hidden

-- nobody has come to the node
pub record IsFresh (l : List NodeStatus) (t : Task) (n : ℕ) : Type 0 where
  pub hidden : word_of l n ≡ Hidden
  pub apart : is_about t n ≡ false

-- Words.
pub record WordsGo (p : PlanParts) (l : List NodeStatus) : Type 0 where
  pub root : word_of l 0 ≡ Hidden → ⊥
  pub offered : (n w : ℕ) → word_of l n ≡ Ready (Some w) → w ≡ 0
  pub claimed : (n w : ℕ) → word_of l n ≡ Claimed w → w ≡ 0
  -- the nodes are claimed in their order
  pub walk : (a b : ℕ) → IsElder p.tree a b → is_spare_at p.tree b ≡ false → is_begun (word_of l b) ≡ true → word_of l a ≡ Settled

-- Turns.
-- the task comes before child c of the node that it is about, if c is to be admitted, is admitted
abbrev pub OpeningTo : Opening → ℕ → Type 0
OpeningTo Guarding c = ⊥
OpeningTo (Admitting k) c = k ≤ c
OpeningTo _ c = Unit {0}

abbrev pub StillTo : Task → ℕ → ℕ → Type 0
StillTo Free a c = ⊥
StillTo (Opens n d) a c = (n ≡ a) × OpeningTo d c
StillTo (Closes n d) a c = n ≡ a

-- node a is settled, and its next sibling is yet to be offered
abbrev pub ClosingPasses : Closing → Type 0
ClosingPasses (Looking m) = Unit {0}
ClosingPasses (Passing m o) = Unit {0}
ClosingPasses _ = ⊥

abbrev pub IsPassing : Task → ℕ → Type 0
IsPassing (Closes n d) a = (n ≡ a) × ClosingPasses d
IsPassing _ a = ⊥

pub record TurnsGo (p : PlanParts) (l : List NodeStatus) (t : Task) : Type 0 where
  pub batch : (a c w : ℕ) → c < size p.tree → in_batch p a c ≡ true → word_of l a ≡ Claimed w → IsFresh l t c → StillTo t a c
  pub siblings : (a b : ℕ) → IsNextSame p a b → word_of l a ≡ Settled → IsFresh l t b → IsPassing t a

-- Counters.
-- whether a child is still to be counted off: a spare only where it was seen
abbrev pub owed : (spare : Bool) → NodeStatus → (about : Bool) → Bool
owed spare Hidden about = not spare || about
owed spare (Ready o) about = true
owed spare (Claimed w) about = true
owed spare Settled about = about

abbrev pub owes : PlanParts → List NodeStatus → Task → ℕ → ℕ → Bool
owes p l t n c = is_child p.tree n c && owed (is_spare_at p.tree c) (word_of l c) (is_about t c)

-- a node that waits has something outstanding, and has given its guard up
pub record IsOwed (p : PlanParts) (l : List NodeStatus) (counters : List ℕ) (t : Task) (n : ℕ) : Type 0 where
  pub some : 0 < slice_index_or counters n 0
  pub exact : slice_index_or counters n 0 ≡ count_below (owes p l t n) (size p.tree)

abbrev pub CountsGo : PlanParts → List NodeStatus → List ℕ → Task → Option Hand → Type 0
CountsGo p l counters t hand = (n w : ℕ) → n < size p.tree → word_of l n ≡ Claimed w → is_about t n ≡ false → is_in_hand hand n ≡ false → IsOwed p l counters t n

-- Keys: what was seen of a key is still so, no key is given back before its node is run, and then not more than there are. And
-- no leaf comes to wait.
abbrev pub KeysGo : PlanParts → List LockWord → Task → Type 0
KeysGo p locks (Opens n (Weighed i word)) = slice_index_or locks (key_at p n i) (Readers 0) ≡ word
KeysGo p locks (Opens n (Backing i)) = ⊥
KeysGo p locks (Opens n Guarding) = sort_of p.tree n ≡ Leaf → ⊥
KeysGo p locks (Closes n (Giving i)) = (0 < i) × (i ≤ keys_count p n)
KeysGo p locks _ = Unit {0}

-- The hand.
abbrev pub is_registering : Task → Bool
is_registering (Opens n Registering) = true
is_registering _ = false

-- the spare that a factory waits for may be taken, or is at work
abbrev pub IsAtWork : List NodeStatus → Task → ℕ → Type 0
IsAtWork l t c = ((word_of l c ≡ Ready (Some 0)) × (is_free t ≡ true)) ⊎ ((w : ℕ) × (word_of l c ≡ Claimed w) × (is_about t c ≡ true))

pub record IsHandGoing (p : PlanParts) (replies : ℕ → List Reply) (l : List NodeStatus) (t : Task) (hand : Hand) : Type 0 where
  -- the task is about a spare of the factory
  pub about : (n : ℕ) → is_about t n ≡ true → (parent_of p.tree n ≡ hand.factory) × (is_spare_at p.tree n ≡ true)
  pub waits : (c : ℕ) → hand.waiting ≡ Some c → (parent_of p.tree c ≡ hand.factory) × (is_spare_at p.tree c ≡ true) × IsAtWork l t c
  -- no more spares are registered than the job pulls
  pub pulls : (job i : ℕ) (r : Reply) → body_of p.tree hand.factory ≡ Some job → slice_get (replies job) i ≡ Some r → hand.registered ≤ r.pulls
  pub more : is_registering t ≡ true → (job i : ℕ) (r : Reply) → body_of p.tree hand.factory ≡ Some job → slice_get (replies job) i ≡ Some r → hand.registered < r.pulls

abbrev pub HandGo : PlanParts → (ℕ → List Reply) → List NodeStatus → Task → Option Hand → Type 0
HandGo p replies l t None = Unit {0}
HandGo p replies l t (Some hand) = IsHandGoing p replies l t hand

-- what is kept of the words and of the worker's task and hand
pub record Goes (p : PlanParts) (replies : ℕ → List Reply) (l : List NodeStatus) (counters : List ℕ) (locks : List LockWord) (t : Task) (hand : Option Hand) : Type 0 where
  pub words : WordsGo p l
  pub turns : TurnsGo p l t
  pub counts : CountsGo p l counters t hand
  pub keys : KeysGo p locks t
  pub keys_len : length locks ≡ length p.keys
  pub in_hand : HandGo p replies l t hand

pub record IsGoing (p : PlanParts) (replies : ℕ → List Reply) (s : State) (g : ℕ → Stage) : Type 0 where
  pub holds : Holds p replies s g
  pub placed : IsPlaced s
  pub seat : Seat
  pub one : s.seats ≡ seat ∷ []
  pub goes : Goes p replies s.statuses s.counters s.locks seat.task seat.hand
