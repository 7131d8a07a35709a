-- In the tree of a suite no spare declares a lock, and no engine is a factory.
use Rattle.std.proofs.Common.{length-append, ◌≡◌, ℕ, zero, suc, ◌+◌, ◌<◌, Bool, true, false, List, [], ◌∷◌, ◌++◌, length, take, Option, Some, None, Result, Ok, Err, IfOk, ◌⊎◌, inl, inr, refl, sym, ap, ◌∙◌, subst, arith}
use Rattle.std.specs.Prelude.{nat_lt, ◌==◌, slice_get, slice_index_or, if◌then◌else◌}
use Rattle.std.specs.Option.{is_some, option_map_or}
use Rattle.std.specs.Str.{is_utf8}
use Rattle.std.specs.Str.Lines.{lines}
use Rattle.std.proofs.lemmas.Bool.{cases_lt, false≢true}
use Rattle.std.proofs.lemmas.Option.{slice_get_past}
use Rattle.descriptor.specs.declared.fault.TreeFault.{TreeFault}
use Rattle.descriptor.specs.declared.node.Node.{Node}
use Rattle.descriptor.specs.Bodies.{given_after_at, with_after}
use Rattle.descriptor.specs.Nodes.{Nodes, IsChild, size, role_or, locks_or, is_spare_at, is_factory_at, locks_of, appended}
use Rattle.descriptor.specs.Refusals.{after_refusal}
use Rattle.descriptor.specs.Roles.{is_spare, is_factory}
use Rattle.descriptor.proofs.AfterBodies.{told_as_before}
use Rattle.resource_locks.specs.Spares.{HasBareSpares}
use Rattle.unique_id.specs.Answers.{◌>>=◌}
use Rattle.suite_text.specs.declared.suite.Suite.{Suite}
use Rattle.suite_words.specs.declared.suite.attributes.Attribute.TheVariants.{Spin, Slow}
use Rattle.suite_words.specs.declared.suite.attributes.Attributes.{Attributes}
use Rattle.suite_text.specs.declared.suite.builder.Opened.{Opened}
use Rattle.suite_words.specs.declared.suite.fault.SuiteFault.{SuiteFault}
use Rattle.suite_words.specs.declared.suite.words.Word.{Word}
use Rattle.suite_words.specs.declared.suite.words.Word.TheVariants.{Engine, Class, Test, Factory, Dyn}
use Rattle.suite_words.specs.Words.{words_in}
use Rattle.suite_text.specs.Suites.{with_declared, with_declaration, with_words_on, is_property_in, with_pair, with_properties, with_line, suite_from, suite_of, suite_parts}
use Rattle.suite_words.specs.Reading.After.{is_after, after_said, after_body}
use Rattle.suite_text.specs.Reading.After.{class_of, with_after_body, given_after_body, with_after_line}
use Rattle.suite_words.specs.Reading.Attributes.{no_attributes, with_attribute, attributes_from, attributes_of}
use Rattle.suite_text.specs.Reading.Bytes.{suite_read}
use Rattle.suite_words.specs.Reading.Bytes.{without_mark}
use Rattle.suite_words.specs.Reading.Faults.{Gives}
use Rattle.suite_words.specs.Limits.{node_limit, byte_limit}
use Rattle.suite_words.specs.Reading.Lines.{says_nothing, first_word, after_word, text_after_word, level_of}
use Rattle.suite_words.specs.Reading.Nodes.{role_declared}
use Rattle.suite_text.specs.Reading.Nodes.{node_on, parent_on, word_on, refusal_on, grown, unless_refused}
use Rattle.suite_text.specs.Reading.Parts.{SuiteParts, LinesRead, no_lines, parts_of, above, node_of_opened, word_of_opened}
use Rattle.suite_words.specs.Reading.Properties.{with_property}
use Rattle.suite_words.specs.Reading.Slow.{is_slow, limit_of}
use Rattle.suite_words.specs.Reading.Spins.{is_spin, key_of, value_of, count_of}
use Rattle.suite_words.specs.Reading.Verdicts.{verdict_of}
use Rattle.suite_words.specs.Reading.Words.{Declaration, word_of, may_stand, placed, with_verdict, with_attributes, with_name, declared_as}
use Rattle.suite_words.proofs.Lists.{get_before, get_last}

-- What holds of each answer of a step.
pub then_holds : {A B : Type 0} (P : A → Type 0) (Q : B → Type 0) (r : Result A SuiteFault) (f : A → Result B SuiteFault) → IfOk r P → ((x : A) → P x → IfOk (f x) Q) → IfOk (r >>= f) Q
then_holds P Q (Ok x) f h g = g x h
then_holds P Q (Err fault) f h g = tt

pub chosen : {A : Type 0} (P : A → Type 0) (b : Bool) (r s : Result A SuiteFault) → (b ≡ true → IfOk r P) → IfOk s P → IfOk (if b then r else s) P
chosen P true r s h k = h refl
chosen P false r s h k = k

pub always : {A : Type 0} (P : A → Type 0) (r : Result A SuiteFault) → ((x : A) → P x) → IfOk r P
always P (Ok x) h = h x
always P (Err fault) h = tt

-- of a step of which nothing has to be known
pub after_any : {A B : Type 0} (Q : B → Type 0) (r : Result A SuiteFault) (f : A → Result B SuiteFault) → ((x : A) → IfOk (f x) Q) → IfOk (r >>= f) Q
after_any Q (Ok x) f h = h x
after_any Q (Err fault) f h = tt

-- A dynamic test declares no lock: its line may say only how far its body counts, and from when on it is slow.
abbrev NoLocks : Attributes → Type 0
NoLocks said = said.locks ≡ []

abbrev NoneRead : Attributes × List ℕ → Type 0
NoneRead read = read.0.locks ≡ []

dyn_next : (number : ℕ) (said : Attributes) (text : List ℕ) → NoLocks said → IfOk (with_attribute number said text Spin) NoLocks
dyn_next number said text none = chosen NoLocks (is_some said.spin) _ _ (λ _. tt) (after_any NoLocks (count_of number 1000000 (value_of text)) _ (λ _. none))

dyn_slow : (number : ℕ) (said : Attributes) (text : List ℕ) → NoLocks said → IfOk (with_attribute number said text Slow) NoLocks
dyn_slow number said text none = chosen NoLocks (is_some said.slow) _ _ (λ _. tt) (after_any NoLocks (limit_of number (value_of text)) _ (λ _. none))

by_test : (number : ℕ) (said : Attributes) (text : List ℕ) (more : List (List ℕ)) (left : List ℕ) → NoLocks said → ((next : Attributes) → NoLocks next → IfOk (attributes_from number Dyn next more (after_word left)) NoneRead) → (b c : Bool)
    → IfOk (option_map_or (λ attribute. with_attribute number said text attribute >>= (λ next. attributes_from number Dyn next more (after_word left))) (if b then Some Spin else (if c then Some Slow else None)) (Ok (said, left))) NoneRead
by_test number said text more left none goes_on true c = then_holds NoLocks NoneRead (with_attribute number said text Spin) (λ next. attributes_from number Dyn next more (after_word left)) (dyn_next number said text none) goes_on
by_test number said text more left none goes_on false true = then_holds NoLocks NoneRead (with_attribute number said text Slow) (λ next. attributes_from number Dyn next more (after_word left)) (dyn_slow number said text none) goes_on
by_test number said text more left none goes_on false false = none

dyn_locks : (number : ℕ) (said : Attributes) (words : List (List ℕ)) (left : List ℕ) → NoLocks said → IfOk (attributes_from number Dyn said words left) NoneRead
dyn_locks number said [] left none = none
dyn_locks number said (text ∷ more) left none = by_test number said text more left none (λ next h. dyn_locks number next more (after_word left) h) (is_spin Dyn (key_of text)) (is_slow Dyn (key_of text))

abbrev BareRead : Word → Attributes × List ℕ → Type 0
BareRead word read = word ≡ Dyn → read.0.locks ≡ []

not_dyn : (word : Word) → (word ≡ Dyn → ⊥) → (r : Result (Attributes × List ℕ) SuiteFault) → IfOk r (BareRead word)
not_dyn word other r = always (BareRead word) r (λ x e. absurd (other e))

given_dyn : (r : Result (Attributes × List ℕ) SuiteFault) → IfOk r NoneRead → IfOk r (BareRead Dyn)
given_dyn (Ok read) h = λ e. h
given_dyn (Err fault) h = tt

attributes_bare : (number : ℕ) (word : Word) (text : List ℕ) → IfOk (attributes_of number word text) (BareRead word)
attributes_bare number Engine text = not_dyn Engine (λ e. cc) (attributes_of number Engine text)
attributes_bare number Class text = not_dyn Class (λ e. cc) (attributes_of number Class text)
attributes_bare number Test text = not_dyn Test (λ e. cc) (attributes_of number Test text)
attributes_bare number Factory text = not_dyn Factory (λ e. cc) (attributes_of number Factory text)
attributes_bare number Dyn text = given_dyn (attributes_of number Dyn text) (dyn_locks number no_attributes (words_in text) text refl)

-- what a line declares below a node of this keyword
record IsBareBelow (above : Option Word) (d : Declaration) : Type 0 where
  pub stands : may_stand above d.word ≡ true
  pub locks : d.word ≡ Dyn → d.attributes.locks ≡ []

abbrev pub Stands : Option Word → Word → Type 0
Stands above word = may_stand above word ≡ true

pub placed_stands : (number : ℕ) (above word : Option Word) → IfOk (placed number above word) (Stands above)
placed_stands number above None = tt
placed_stands number above (Some word) = chosen (Stands above) (may_stand above word) (Ok word) _ (λ e. e) tt

verdict_bare : (number : ℕ) (above : Option Word) (word : Word) (name : List ℕ) (attributes : Attributes) (rest : List ℕ) → Stands above word → (word ≡ Dyn → attributes.locks ≡ []) → IfOk (with_verdict number word name attributes rest) (IsBareBelow above)
verdict_bare number above word name attributes rest stands locks = after_any (IsBareBelow above) (verdict_of number word (first_word rest) (text_after_word rest)) _ (λ _. record { stands = stands; locks = locks })

declared_bare : (number : ℕ) (above : Option Word) (first rest : List ℕ) → IfOk (declared_as number above first rest) (IsBareBelow above)
declared_bare number above first rest =
    then_holds (Stands above) (IsBareBelow above) (placed number above (word_of first)) (λ word. with_name number word rest) (placed_stands number above (word_of first))
    (λ word stands. chosen (IsBareBelow above) (length (first_word rest) == 0) _ (with_attributes number word (first_word rest) (after_word rest)) (λ _. tt)
    (then_holds (BareRead word) (IsBareBelow above) (attributes_of number word (after_word rest)) (λ read. with_verdict number word (first_word rest) read.0 read.1) (attributes_bare number word (after_word rest))
    (λ read locks. verdict_bare number above word (first_word rest) read.0 read.1 stands locks)))

-- no open node is the plan
abbrev AllAbove : List Opened → Type 0
AllAbove [] = Unit {0}
AllAbove (o ∷ more) = (0 < o.node) × AllAbove more

above_at : (path : List Opened) (l : ℕ) (o : Opened) → AllAbove path → slice_get path l ≡ Some o → 0 < o.node
above_at [] l o all e = absurd (cc)
above_at (x ∷ more) zero o all e = subst (λ (y : Option Opened). 0 < node_of_opened y) e all.0
above_at (x ∷ more) (suc l) o all e = above_at more l o all.1 e

above_taken : (path : List Opened) (n : ℕ) (o : Opened) → AllAbove path → 0 < o.node → AllAbove (take n path ++ o ∷ [])
above_taken path zero o all new = (new, tt)
above_taken [] (suc n) o all new = (new, tt)
above_taken (x ∷ more) (suc n) o all new = (all.0, above_taken more n o all.1 new)

-- a line whose node hangs below the plan hangs below no node
plan_word : (o : Option Opened) → ((x : Opened) → o ≡ Some x → 0 < x.node) → node_of_opened o ≡ 0 → word_of_opened o ≡ None
plan_word None above e = refl
plan_word (Some x) above e = absurd (let pos = above x refl in omega (arith, pos, e))

plan_above : (path : List Opened) (level : ℕ) → AllAbove path → node_of_opened (above path level) ≡ 0 → word_of_opened (above path level) ≡ None
plan_above path zero all e = refl
plan_above path (suc l) all e = plan_word (slice_get path l) (λ x at. above_at path l x all at) e

engine_plain : (word : Word) → may_stand None word ≡ true → is_factory (role_declared word) ≡ false
engine_plain Engine e = refl
engine_plain Class e = absurd (false≢true e)
engine_plain Test e = absurd (false≢true e)
engine_plain Factory e = absurd (false≢true e)
engine_plain Dyn e = absurd (false≢true e)

spare_dyn : (word : Word) → is_spare (role_declared word) ≡ true → word ≡ Dyn
spare_dyn Engine e = absurd (false≢true e)
spare_dyn Class e = absurd (false≢true e)
spare_dyn Test e = absurd (false≢true e)
spare_dyn Factory e = absurd (false≢true e)
spare_dyn Dyn e = refl

-- so it is after each line
record IsBareRead (read : LinesRead) : Type 0 where
  pub as_many : length read.tree.nodes + 1 ≡ size read.tree
  pub bare : HasBareSpares read.tree
  pub path : AllAbove read.path

-- what stands behind a list
last_or : (nodes : List Node) (node : Node) (i : ℕ) → (slice_get (nodes ++ node ∷ []) i ≡ slice_get nodes i) ⊎ ((slice_get (nodes ++ node ∷ []) i ≡ Some node) × (i ≡ length nodes))
last_or [] node zero = inr (refl, refl)
last_or [] node (suc i) = inl refl
last_or (x ∷ more) node zero = inl refl
last_or (x ∷ more) node (suc i) = elim (last_or more node i) [ inl e ↦ inl e | inr e ↦ inr (e.0, ap suc e.1) ]

more_parents : (xs : List ℕ) (x : ℕ) → length (xs ++ x ∷ []) ≡ length xs + 1
more_parents xs x = simp length-append

more_nodes : (xs : List Node) (x : Node) → length (xs ++ x ∷ []) ≡ length xs + 1
more_nodes xs x = simp length-append

module _ (t : Nodes) (a : ℕ) (node : Node) (as_many : length t.nodes + 1 ≡ size t) (bare : HasBareSpares t) where
  appended_locks : (is_spare node.role ≡ true → node.locks ≡ []) → (n : ℕ) → is_spare_at (appended t a node) n ≡ true → locks_of (appended t a node) n ≡ []
  appended_locks new zero spare = absurd (false≢true spare)
  appended_locks new (suc i) spare = elim (last_or t.nodes node i) [
    | inl e ↦ ap locks_or e ∙ bare.locks (suc i) (sym (ap (λ o. is_spare (role_or o)) e) ∙ spare)
    | inr e ↦ ap locks_or e.0 ∙ new (sym (ap (λ o. is_spare (role_or o)) e.0) ∙ spare)
  ]

  appended_engines : (a ≡ 0 → is_factory node.role ≡ false) → (e : ℕ) → IsChild (appended t a node) 0 e → is_factory_at (appended t a node) e ≡ false
  appended_engines new zero child = refl
  appended_engines new (suc i) child = elim (last_or t.nodes node i) [
    | inl e ↦ ap (λ o. is_factory (role_or o)) e ∙ old
    | inr e ↦ ap (λ o. is_factory (role_or o)) e.0 ∙ new (last (let n = e.1 in omega (arith, n, as_many)))
  ]
    where
      last : suc i ≡ length t.parents → a ≡ 0
      last same = sym (get_last t.parents a) ∙ ap (λ k. slice_index_or (t.parents ++ a ∷ []) k 0) (sym same) ∙ child.parent

      old : is_factory_at t (suc i) ≡ false
      old = elim (cases_lt (suc i) (size t)) [
        | inl inside ↦ bare.engines (suc i) (record { above_zero = omega arith; inside = inside; parent = sym (get_before t.parents a (suc i) inside) ∙ child.parent })
        | inr past ↦ ap (λ o. is_factory (role_or o)) (slice_get_past t.nodes i (omega (arith, past, as_many)))
      ]

  appended_bare : (is_spare node.role ≡ true → node.locks ≡ []) → (a ≡ 0 → is_factory node.role ≡ false) → HasBareSpares (appended t a node)
  appended_bare locks engine = record { locks = appended_locks locks; engines = appended_engines engine }

grown_bare : (read : LinesRead) (level : ℕ) (d : Declaration) → IsBareRead read → IsBareBelow (word_on read level) d → IsBareRead (grown read level d)
grown_bare read level d so below =
    let node = node_on read level d in
    let nodes = more_nodes read.tree.nodes node in
    let parents = more_parents read.tree.parents (parent_on read level) in
    record {
      as_many = (let was = so.as_many in omega (arith, nodes, parents, was));
      bare = appended_bare read.tree (parent_on read level) node so.as_many so.bare (λ spare. below.locks (spare_dyn d.word spare))
          (λ plan. engine_plain d.word (subst (λ (w : Option Word). may_stand w d.word ≡ true) (plan_above read.path level so.path plan) below.stands));
      path = above_taken read.path level (record { node = size read.tree; word = d.word }) so.path (let was = so.as_many in omega (arith, was));
    }

as_long : (b i : ℕ) (nodes : List Node) → length (given_after_at b i nodes) ≡ length nodes
as_long b i [] = refl
as_long b zero (x ∷ more) = refl
as_long b (suc i) (x ∷ more) = ap suc (as_long b i more)

after_bare : (read : LinesRead) (n : ℕ) (b : ℕ) → length read.tree.nodes + 1 ≡ size read.tree → HasBareSpares read.tree → (length (with_after read.tree n b).nodes + 1 ≡ size (with_after read.tree n b)) × HasBareSpares (with_after read.tree n b)
after_bare read zero b as_many bare = (as_many, bare)
after_bare read (suc i) b as_many bare = (
  ap (λ k. k + 1) (as_long b i read.tree.nodes) ∙ as_many,
  record {
    locks = λ m spare. told_as_before locks_or read.tree (suc i) b (λ x. refl) m ∙ bare.locks m (sym (told_as_before (λ o. is_spare (role_or o)) read.tree (suc i) b (λ x. refl) m) ∙ spare);
    engines = λ e child. told_as_before (λ o. is_factory (role_or o)) read.tree (suc i) b (λ x. refl) e ∙ bare.engines e (record { above_zero = child.above_zero; inside = child.inside; parent = child.parent });
  },
)

refused_bare : (number : ℕ) (why : Option TreeFault) (read : LinesRead) → IsBareRead read → IfOk (unless_refused number why read) IsBareRead
refused_bare number None read so = so
refused_bare number (Some why) read so = tt

after_line_bare : (number : ℕ) (read : LinesRead) (level : ℕ) (rest : List ℕ) → IsBareRead read → IfOk (with_after_line number read level rest) IsBareRead
after_line_bare number read level rest so =
    after_any IsBareRead (class_of number read.tree (above read.path level)) (λ n. after_said number rest >>= (λ said. given_after_body number read n said))
    (λ n. after_any IsBareRead (after_said number rest) (λ said. given_after_body number read n said)
    (λ said. refused_bare number (after_refusal read.tree n (after_body n)) (with_after_body read n said)
    (let given = after_bare read n (after_body n) so.as_many so.bare in record { as_many = given.0; bare = given.1; path = so.path })))

node_line_bare : (number : ℕ) (read : LinesRead) (level : ℕ) (first rest : List ℕ) → IsBareRead read → IfOk (declared_as number (word_on read level) first rest >>= (λ d. with_declared number read level d)) IsBareRead
node_line_bare number read level first rest so =
    then_holds (IsBareBelow (word_on read level)) IsBareRead (declared_as number (word_on read level) first rest) (λ d. with_declared number read level d) (declared_bare number (word_on read level) first rest)
    (λ d below. refused_bare number (refusal_on read level d) (grown read level d) (grown_bare read level d so below))

pair_bare : (number : ℕ) (read : LinesRead) (line : List ℕ) → IsBareRead read → IfOk (with_pair number read line) IsBareRead
pair_bare number read line so =
    after_any IsBareRead (with_property number read.properties line) (λ properties. Ok (with_properties read properties)) (λ properties. record { as_many = so.as_many; bare = so.bare; path = so.path })

line_bare : (number : ℕ) (read : LinesRead) (line : List ℕ) → IsBareRead read → IfOk (with_line number read line) IsBareRead
line_bare number read line so = chosen IsBareRead (says_nothing line) _ _ (λ _. so)
    (after_any IsBareRead (level_of number (length read.path) line) (λ level. with_words_on number read level line)
    (λ level. chosen IsBareRead (is_property_in read line) _ (with_declaration number read level line) (λ _. pair_bare number read line so)
    (chosen IsBareRead (is_after line) _ _ (λ _. after_line_bare number read level (after_word line) so) (node_line_bare number read level (first_word line) (after_word line) so))))

from_bare : (number : ℕ) (read : LinesRead) (ls : List (List ℕ)) → IsBareRead read → IfOk (suite_from number read ls) IsBareRead
from_bare number read [] so = so
from_bare number read (line ∷ more) so = then_holds IsBareRead IsBareRead (with_line number read line) (λ next. suite_from (number + 1) next more) (line_bare number read line so) (λ next bare. from_bare (number + 1) next more bare)

nothing_bare : (limit : ℕ) → IsBareRead (no_lines limit)
nothing_bare limit = record {
  as_many = refl;
  bare = record { locks = nothing; engines = λ e child. absurd (let pos = child.above_zero in let inside = child.inside in omega (arith, pos, inside)) };
  path = tt;
}
  where
    nothing : (n : ℕ) → is_spare_at (no_lines limit).tree n ≡ true → locks_of (no_lines limit).tree n ≡ []
    nothing zero spare = absurd (false≢true spare)
    nothing (suc n) spare = absurd (false≢true spare)

abbrev IsBare : SuiteParts → Type 0
IsBare suite = HasBareSpares suite.tree

pub suite_bare : (most : Option ℕ) (text : List ℕ) → IfOk (suite_of most text) (λ suite. HasBareSpares suite.tree)
suite_bare most text = let start = no_lines (node_limit most) in chosen IsBare (nat_lt (byte_limit most) (length text)) _ _ (λ _. tt)
    (then_holds IsBareRead IsBare (suite_from 1 start (lines text)) (λ read. Ok (parts_of read)) (from_bare 1 start (lines text) (nothing_bare (node_limit most))) (λ read so. so.bare))

pub bytes_bare : (most : Option ℕ) (bytes : List ℕ) → IfOk (suite_read most bytes) (λ suite. HasBareSpares suite.tree)
bytes_bare most bytes =
    chosen IsBare (nat_lt (byte_limit most) (length bytes)) _ _ (λ _. tt) (chosen IsBare (is_utf8 bytes) (suite_of most (without_mark bytes)) _ (λ _. suite_bare most (without_mark bytes)) tt)

-- and of a suite that a call answers by the definition
pub given_bare : (result : Result Suite SuiteFault) (read : Result SuiteParts SuiteFault) → Gives suite_parts result read → IfOk read (λ suite. HasBareSpares suite.tree) → IfOk result (λ suite. HasBareSpares suite.tree)
given_bare (Ok suite) read is bare = subst (λ (r : Result SuiteParts SuiteFault). IfOk r (λ s. HasBareSpares s.tree)) is bare
given_bare (Err fault) read is bare = tt
