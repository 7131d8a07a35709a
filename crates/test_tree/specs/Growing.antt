-- What tests that are built hold, what one more node makes of it, and when that is refused.
use Rattle.std.specs.Prelude.{◌≡◌, ℕ, ◌<◌, ◌≤◌, cond, ◌==◌, true, false, ◌⊎◌, List, [], ◌∷◌, ◌++◌, map, Option, Some, None, option_map}
use Rattle.std.specs.Option.{is_some}
use Rattle.descriptor.specs.declared.node.Node.{Node}
use Rattle.descriptor.specs.Bodies.{with_after}
use Rattle.descriptor.specs.Nodes.{Nodes, MayTake, size, appended}
use Rattle.descriptor.specs.Refusals as trees
use Rattle.suite_words.specs.Reading.After.{after_body}
use Rattle.suite_words.specs.Reading.Nodes.{id_at}
use Rattle.unique_id.specs.declared.unique_id.Segment.{Segment}
use Rattle.unique_id.specs.declared.fault.UidFault.{UidFault}
use Rattle.unique_id.specs.Spelling as ids
use Rattle.test_tree.specs.declared.cause.BuildCause.{BuildCause}
use Rattle.test_tree.specs.declared.cause.BuildCause.TheVariants as causes
use Rattle.test_tree.specs.declared.marks.Marks.{Marks}
use Rattle.test_tree.specs.declared.sort.Sort.{Sort}
use Rattle.test_tree.specs.declared.sort.Sort.TheVariants.{Dynamic}
use Rattle.test_tree.specs.Marks.{is_unmarked, marked, no_marks}
use Rattle.test_tree.specs.Sorts.{type_of, value_below}

-- How many nodes the tree may have besides the plan, the tree, its jobs with their numbers, what is declared of the next node, and the body that it has, if any
pub record Built (B : Type 0) : Type 0 where
  pub node_limit : ℕ
  pub tree : Nodes
  pub jobs : List (ℕ × B)
  pub marks : Marks
  pub body : Option B

-- the segments of the next node, below node a
abbrev pub next_id : Nodes → ℕ → Sort → List ℕ → List Segment
next_id t a sort name = id_at t a ++ record { kind = type_of sort; value = value_below t a sort name } ∷ []

-- the next node, below node a, with a body of this number
abbrev pub node_below : Nodes → Marks → Option ℕ → ℕ → Sort → List ℕ → Node
node_below t marks number a sort name = marked marks sort (next_id t a sort name) name number

-- why no unique id can be made of it
abbrev pub id_refusal : Nodes → ℕ → Sort → List ℕ → Option UidFault
id_refusal t a sort name = ids.refusal (id_at t a) (type_of sort) (value_below t a sort name)

-- why it is refused: node a takes no more; else there is no such unique id; else the tree refuses it
abbrev pub IsRefusedOf : ℕ → Nodes → Marks → Option ℕ → ℕ → Sort → List ℕ → BuildCause → Type 0
IsRefusedOf limit t marks number a sort name causes.NoMemory = MayTake t a
IsRefusedOf limit t marks number a sort name causes.Closed = MayTake t a → ⊥
IsRefusedOf limit t marks number a sort name (causes.Name fault) = MayTake t a × (id_refusal t a sort name ≡ Some fault)
IsRefusedOf limit t marks number a sort name (causes.Node fault) =
    MayTake t a × (id_refusal t a sort name ≡ None) × (trees.refusal limit t a (node_below t marks number a sort name) ≡ Some fault)
IsRefusedOf limit t marks number a sort name cause = ⊥

-- where it is not
pub record IsTakenOf (limit : ℕ) (t : Nodes) (marks : Marks) (number : Option ℕ) (a : ℕ) (sort : Sort) (name : List ℕ) : Type 0 where
  pub parent : MayTake t a
  pub id : id_refusal t a sort name ≡ None
  pub node : trees.refusal limit t a (node_below t marks number a sort name) ≡ None

-- why class n gets no after-body: there is no such node; else the tree refuses it
abbrev pub IsAfterRefused : Nodes → ℕ → BuildCause → Type 0
IsAfterRefused t n causes.NoMemory = n < size t
IsAfterRefused t n causes.Closed = size t ≤ n
IsAfterRefused t n (causes.Node fault) = (n < size t) × (trees.after_refusal t n (after_body n) ≡ Some fault)
IsAfterRefused t n cause = ⊥

module _ {B : Type 0} where
  -- these
  abbrev pub built : ℕ → Nodes → List (ℕ × B) → Marks → Option B → Built B
  built bound t now declared next = record { node_limit = bound; tree = t; jobs = now; marks = declared; body = next }

  -- the next node, below node a; its body has its number
  abbrev pub next_node : Built B → ℕ → Sort → List ℕ → Node
  next_node b a sort name = node_below b.tree b.marks (option_map (λ _. size b.tree) b.body) a sort name

  -- a job with this number, if there is a body
  abbrev pub job_of : ℕ → Option B → List (ℕ × B)
  job_of number None = []
  job_of number (Some body) = (number, body) ∷ []

  -- with the next node, below node a, and its job; nothing is declared of the node behind it
  abbrev pub grown : Built B → ℕ → Sort → List ℕ → Built B
  grown b a sort name = record {
    node_limit = b.node_limit;
    tree = appended b.tree a (next_node b a sort name);
    jobs = b.jobs ++ job_of (size b.tree) b.body;
    marks = no_marks;
    body = None;
  }

  -- with what is declared of the next node
  abbrev pub with_marks : Built B → Marks → Built B
  with_marks b marks = record { node_limit = b.node_limit; tree = b.tree; jobs = b.jobs; marks = marks; body = b.body }

  -- where the next node has this body
  abbrev pub with_body : Built B → B → Built B
  with_body b body = record { node_limit = b.node_limit; tree = b.tree; jobs = b.jobs; marks = b.marks; body = Some body }

  -- where class n has this after-body
  abbrev pub with_after_body : Built B → ℕ → B → Built B
  with_after_body b n body = record { node_limit = b.node_limit; tree = with_after b.tree n (after_body n); jobs = b.jobs ++ (after_body n, body) ∷ []; marks = b.marks; body = b.body }

  -- the jobs with this number changed so: there is one at most
  abbrev pub changed : (B → B) → ℕ → List (ℕ × B) → List (ℕ × B)
  changed change number jobs = map (λ job. cond (job.0 == number) (job.0, change job.1) job) jobs

  -- with that job changed so
  abbrev pub with_changed : (B → B) → ℕ → Built B → Built B
  with_changed change number b = record { node_limit = b.node_limit; tree = b.tree; jobs = changed change number b.jobs; marks = b.marks; body = b.body }

  -- why the next node is refused
  abbrev pub IsNodeRefused : Built B → ℕ → Sort → List ℕ → BuildCause → Type 0
  IsNodeRefused b a sort name cause = IsRefusedOf b.node_limit b.tree b.marks (option_map (λ _. size b.tree) b.body) a sort name cause

  -- where it is not
  abbrev pub IsNodeTaken : Built B → ℕ → Sort → List ℕ → Type 0
  IsNodeTaken b a sort name = IsTakenOf b.node_limit b.tree b.marks (option_map (λ _. size b.tree) b.body) a sort name

  -- why a node is refused that has no body of its own: a body waits for a class; else as the next node
  abbrev pub IsRefused : Built B → ℕ → Sort → List ℕ → BuildCause → Type 0
  IsRefused b a sort name cause = ((cause ≡ causes.NoClass) × (is_some b.body ≡ true)) ⊎ ((b.body ≡ None) × IsRefusedOf b.node_limit b.tree b.marks None a sort name cause)

  -- why a node is refused that has a body of its own
  abbrev pub IsBodyRefused : Built B → ℕ → Sort → List ℕ → BuildCause → Type 0
  IsBodyRefused b a sort name cause = ((cause ≡ causes.NoClass) × (is_some b.body ≡ true)) ⊎ ((b.body ≡ None) × IsRefusedOf b.node_limit b.tree b.marks (Some (size b.tree)) a sort name cause)

  -- why a dynamic test is refused: something is declared of it; else as any node with a body
  abbrev pub IsDynamicRefused : Built B → ℕ → List ℕ → BuildCause → Type 0
  IsDynamicRefused b a name cause = ((cause ≡ causes.Marked) × (is_unmarked b.marks ≡ false)) ⊎ ((is_unmarked b.marks ≡ true) × IsBodyRefused b a Dynamic name cause)

  -- what is declared of a node that does not come, or the body of a class that does not
  abbrev pub IsPendingOf : Marks → Option B → BuildCause → Type 0
  IsPendingOf marks body causes.Marked = is_unmarked marks ≡ false
  IsPendingOf marks body causes.NoClass = (is_unmarked marks ≡ true) × (is_some body ≡ true)
  IsPendingOf marks body cause = ⊥

  abbrev pub IsPending : Built B → BuildCause → Type 0
  IsPending b cause = IsPendingOf b.marks b.body cause

  -- the next node was added below node a
  pub record IsAdded (old : Built B) (new : Built B) (a : ℕ) (sort : Sort) (name : List ℕ) : Type 0 where
    pub taken : IsNodeTaken old a sort name
    pub next : new ≡ grown old a sort name

  -- and its body is one of which this holds; no body waited for a class
  pub record IsAddedWith (P : B → Type 0) (old : Built B) (new : Built B) (a : ℕ) (sort : Sort) (name : List ℕ) : Type 0 where
    pub body : B
    pub right : P body
    pub none : old.body ≡ None
    pub added : IsAdded (with_body old body) new a sort name

  -- a dynamic test was added below node a, and the job of node a registers one more
  pub record IsDynamicAdded (change : B → B) (P : B → Type 0) (old : Built B) (new : Built B) (a : ℕ) (name : List ℕ) : Type 0 where
    pub unmarked : is_unmarked old.marks ≡ true
    pub between : Built B
    pub added : IsAddedWith P old between a Dynamic name
    pub counted : new ≡ with_changed change a between

  -- class n got an after-body of which this holds
  pub record IsAfterAdded (P : B → Type 0) (old : Built B) (new : Built B) (n : ℕ) : Type 0 where
    pub body : B
    pub right : P body
    pub accepted : trees.after_refusal old.tree n (after_body n) ≡ None
    pub given : new ≡ with_after_body old n body

  -- the next node got a body of which this holds; none waited
  pub record IsBodyGiven (P : B → Type 0) (old : Built B) (new : Built B) : Type 0 where
    pub body : B
    pub right : P body
    pub none : old.body ≡ None
    pub given : new ≡ with_body old body
