-- A node with too many locks is refused whichever of them are looked at.
use Rattle.std.proofs.Common.{◌≡◌, ◌≢◌, ℕ, ◌<◌, ◌==◌, ◌||◌, ◌&&◌, Bool, true, false, not, cond, List, [], ◌∷◌, ◌++◌, length, take, Option, Some, None, option_to_list, refl, ap, sym, ◌∙◌, arith}
use Rattle.std.specs.Prelude.{nat_lt}
use Rattle.std.specs.Option.{is_some}
use Rattle.std.proofs.lemmas.Option.{none-some}
use Rattle.std.proofs.lemmas.Bool.{lt-ltb, ltb-true, ltb-false, ne_eqb}
use Rattle.descriptor.specs.declared.lock.Lock.{Lock}
use Rattle.descriptor.specs.declared.node.Node.{Node}
use Rattle.descriptor.specs.declared.fault.TreeFault.{TreeFault}
use Rattle.descriptor.specs.declared.fault.TreeFault.TheVariants.{TooMany, TooDeep, DoubleId, ParentIsTest, EngineLock, BodyTwice, SpareOutsideFactory, OverLimit, AfterMisplaced}
use Rattle.descriptor.specs.Bodies.{has_misplaced_after}
use Rattle.descriptor.specs.Declarations.{declares}
use Rattle.descriptor.specs.Limits.{is_long, is_long_reason, has_long_key, is_over_limit}
use Rattle.descriptor.specs.Nodes.{Nodes, size, depth_of, is_leaf_at, role_of, appended}
use Rattle.descriptor.specs.Refusals.{has_id, repeats_body, refusal}
use Rattle.descriptor.specs.Roles.{is_misplaced}
use Rattle.suite_text.specs.Reading.Nodes.{parent_on, node_on, is_over_limit_on, refusal_on, grown}
use Rattle.suite_words.specs.Reading.Nodes.{script_declared}
use Rattle.suite_text.specs.Reading.Parts.{LinesRead}
use Rattle.suite_words.specs.Reading.Words.{Declaration}
use Rattle.suite_text.specs.Inside.FewLocks.{DoesFor, IsTakenAs}

-- the refusals of a node, where these two of its tests have these answers
abbrev judged : ℕ → Nodes → ℕ → Node → Bool → Bool → Option TreeFault
judged limit t a node declared long =
    cond (nat_lt limit (size t)) (Some TooMany) (
    cond (depth_of t a == 64) (Some TooDeep) (
    cond (has_id t node.id) (Some DoubleId) (
    cond (is_leaf_at t a) (Some ParentIsTest) (
    cond ((a == 0) && declared) (Some EngineLock) (
    cond (repeats_body t node) (Some BodyTwice) (
    cond (is_misplaced (role_of t a) node.kind node.role) (Some SpareOutsideFactory) (
    cond long (Some OverLimit) (
    cond (has_misplaced_after node) (Some AfterMisplaced) None))))))))

some_first : (b : Bool) (x : TreeFault) (rest : Option TreeFault) → rest ≢ None → cond b (Some x) rest ≢ None
some_first true x rest h e = none-some x (sym e)
some_first false x rest h e = h e

never_taken : (limit : ℕ) (t : Nodes) (a : ℕ) (node : Node) (declared : Bool) → judged limit t a node declared true ≢ None
never_taken limit t a node declared =
    some_first (nat_lt limit (size t)) TooMany _ (
    some_first (depth_of t a == 64) TooDeep _ (
    some_first (has_id t node.id) DoubleId _ (
    some_first (is_leaf_at t a) ParentIsTest _ (
    some_first ((a == 0) && declared) EngineLock _ (
    some_first (repeats_body t node) BodyTwice _ (
    some_first (is_misplaced (role_of t a) node.kind node.role) SpareOutsideFactory _ (λ e. none-some OverLimit (sym e))))))))

abbrev with_locks : Node → List Lock → Node
with_locks node locks = record node { locks = locks }

or_true : (a b : Bool) → (a || true || b) ≡ true
or_true true b = refl
or_true false b = refl

-- a node of these locks is over its limits
over : (node : Node) → 16 < length node.locks → is_over_limit node ≡ true
over node many =
    ap (λ b. is_long node.name || is_long_reason node.disabled || b || has_long_key node.locks) (lt-ltb 16 (length node.locks) many)
    ∙ or_true (is_long node.name || is_long_reason node.disabled) (has_long_key node.locks)

-- whether there is a lock is the same
same_declared : (node : Node) (few : List Lock) → 16 < length few → 16 < length node.locks → declares (with_locks node few) ≡ declares node
same_declared node few many more =
    ap (λ b. is_some node.mode || node.isolated || not b) (ne_eqb (length few) 0 (λ e. omega (arith, e, many)) ∙ sym (ne_eqb (length node.locks) 0 (λ e. omega (arith, e, more))))

refused_alike : (limit : ℕ) (t : Nodes) (a : ℕ) (node : Node) (few : List Lock) → 16 < length few → 16 < length node.locks → refusal limit t a (with_locks node few) ≡ refusal limit t a node
refused_alike limit t a node few many more =
    ap (λ b. judged limit t a node b (is_over_limit (with_locks node few))) (same_declared node few many more)
    ∙ ap (judged limit t a node (declares node)) (over (with_locks node few) many ∙ sym (over node more))

pub taken_as : (limit : ℕ) (t : Nodes) (a : ℕ) (node whole : Node) → DoesFor node whole → IsTakenAs limit t a node whole
taken_as limit t a node whole does = by (nat_lt 16 (length whole.locks)) refl
  where
    by : (b : Bool) → nat_lt 16 (length whole.locks) ≡ b → IsTakenAs limit t a node whole
    by true e =
        let more : 16 < length whole.locks = ltb-true 16 (length whole.locks) e in
        let alike : refusal limit t a node ≡ refusal limit t a whole = ap (refusal limit t a) does.rest ∙ refused_alike limit t a whole node.locks (does.locks.more more) more in
        record {
          refused = alike;
          taken = λ none. absurd (never_taken limit t a whole (declares whole) (ap (judged limit t a whole (declares whole)) (sym (over whole more)) ∙ sym alike ∙ none));
        }
    by false e =
        let same : node ≡ whole = does.rest ∙ ap (with_locks whole) (does.locks.same (ltb-false 16 (length whole.locks) e)) in
        record { refused = ap (refusal limit t a) same; taken = λ none. same }

-- a node that does for the one that a line declares, below the line's parent; `old` is what was read so far
module _ (read old : LinesRead) (level : ℕ) (d : Declaration) (parent : ℕ) (node : Node)
    (same : old ≡ read) (same_parent : parent ≡ parent_on read level) (does : DoesFor node (node_on read level d)) where
  taken : IsTakenAs read.limit read.tree (parent_on read level) node (node_on read level d)
  taken = taken_as read.limit read.tree (parent_on read level) node (node_on read level d) does

  refused_there : refusal old.limit old.tree parent node ≡ refusal read.limit read.tree (parent_on read level) node
  refused_there = ap (λ (r : LinesRead). refusal r.limit r.tree parent node) same ∙ ap (λ n. refusal read.limit read.tree n node) same_parent

  pub refused_on : is_over_limit_on read level d ≡ false → refusal_on read level d ≡ refusal old.limit old.tree parent node
  refused_on short =
      ap (λ b. cond b (Some OverLimit) (refusal read.limit read.tree (parent_on read level) (node_on read level d))) short
      ∙ sym (refused_there ∙ taken.refused)

  added : (made : Nodes) → refusal old.limit old.tree parent node ≡ None → made ≡ appended old.tree parent node → made ≡ appended read.tree (parent_on read level) (node_on read level d)
  added made none is =
      is
      ∙ ap (λ (r : LinesRead). appended r.tree parent node) same
      ∙ ap (λ n. appended read.tree n node) same_parent
      ∙ ap (appended read.tree (parent_on read level)) (taken.taken (sym refused_there ∙ none))

  -- what the line has made, part by part
  pub grown_is : (made : LinesRead) → made.limit ≡ old.limit → refusal old.limit old.tree parent node ≡ None → made.tree ≡ appended old.tree parent node
      → made.path ≡ take level read.path ++ record { node = size read.tree; word = d.word } ∷ [] → made.scripts ≡ read.scripts ++ option_to_list (script_declared d (size read.tree))
      → made.afters ≡ old.afters → made.properties ≡ old.properties → made ≡ grown read level d
  grown_is made limit none tree path scripts afters properties =
      let kept : made.afters ≡ read.afters = afters ∙ ap (λ (r : LinesRead). r.afters) same in
      let said : made.properties ≡ read.properties = properties ∙ ap (λ (r : LinesRead). r.properties) same in
      let bound : made.limit ≡ read.limit = limit ∙ ap (λ (r : LinesRead). r.limit) same in
      let all : made.tree ≡ appended read.tree (parent_on read level) (node_on read level d) = added made.tree none tree in
      λ i. record { limit = bound i; tree = all i; path = path i; scripts = scripts i; afters = kept i; properties = said i }
