-- Each line that declares a node makes one of its kind, with its own bodies, and no other line makes one.
use Rattle.std.proofs.Common.{length-append, append-nil, ◌≡◌, ℕ, zero, suc, ◌+◌, ◌<◌, ◌≤◌, Bool, true, false, List, [], ◌∷◌, ◌++◌, length, take, codes, Option, Some, None, option_map, option_to_list, Result, Ok, Err, IfOk, ◌⊎◌, inl, inr, refl, sym, ap, ap₂, ◌∙◌, subst, arith}
use Rattle.std.specs.Prelude.{nat_lt, ◌==◌, ◌&&◌, IfSome, slice_get, slice_index_or, if◌then◌else◌}
use Rattle.std.specs.Option.{is_some, is_none}
use Rattle.std.specs.Str.{bytes_eq}
use Rattle.std.specs.Str.Lines.{lines}
use Rattle.std.proofs.lemmas.Bool.{cases_order, false≢true}
use Rattle.std.proofs.lemmas.List.{append_assoc}
use Rattle.std.proofs.lemmas.Option.{slice_get_within}
use Rattle.std.proofs.lemmas.Slice.Eq.{bytes_eq-Decides}
use Rattle.descriptor.specs.declared.fault.TreeFault.{TreeFault}
use Rattle.descriptor.specs.declared.kind.Kind.TheVariants as kinds
use Rattle.descriptor.specs.declared.node.Node.{Node}
use Rattle.descriptor.specs.declared.role.Role.TheVariants as roles
use Rattle.descriptor.specs.Bodies.{given_after, given_after_at, with_after}
use Rattle.descriptor.specs.Nodes.{Nodes, size, parent_of, after_of, appended}
use Rattle.descriptor.specs.Refusals.{after_refusal}
use Rattle.plan_events.specs.declared.status.Status.{Status}
use Rattle.unique_id.specs.Answers.{◌>>=◌}
use Rattle.suite_text.specs.declared.suite.Suite.{Suite}
use Rattle.suite_text.specs.declared.suite.builder.Opened.{Opened}
use Rattle.suite_words.specs.declared.suite.fault.SuiteFault.{SuiteFault}
use Rattle.suite_words.specs.declared.suite.verdicts.Verdict.{Verdict}
use Rattle.suite_words.specs.declared.suite.verdicts.Verdict.TheVariants.{Pass, Fail, Abort, Disabled}
use Rattle.suite_words.specs.declared.suite.words.Word.{Word}
use Rattle.suite_words.specs.declared.suite.words.Word.TheVariants.{Engine, Class, Test, Factory, Dyn}
use Rattle.suite_text.specs.Kinds.{word_in, words_of, AreNodesOf, IsA, type_by, IsKind, MayRun, HasBodies}
use Rattle.suite_text.specs.Suites.{with_declared, with_declaration, with_words, with_words_on, is_property_in, with_pair, with_properties, with_line, suite_from, suite_of, suite_parts}
use Rattle.suite_words.specs.Reading.After.{is_after, after_said, after_body}
use Rattle.suite_text.specs.Reading.After.{is_class, class_of, with_after_body, given_after_body, with_after_line}
use Rattle.suite_words.specs.Reading.Attributes.{attributes_of}
use Rattle.suite_words.specs.Reading.Faults.{Gives}
use Rattle.suite_words.specs.Limits.{node_limit, byte_limit}
use Rattle.suite_words.specs.Reading.Lines.{says_nothing, first_word, after_word, text_after_word, level_of}
use Rattle.suite_words.specs.Reading.Nodes.{segment_kind, kind_declared, role_declared, value_declared, body_declared, id_at}
use Rattle.suite_text.specs.Reading.Nodes.{place_on, parent_on, word_on, node_on, refusal_on, grown, unless_refused}
use Rattle.suite_text.specs.Reading.Parts.{SuiteParts, LinesRead, no_lines, parts_of, above, node_of_opened, word_of_opened}
use Rattle.suite_words.specs.Reading.Properties.{is_property, with_property}
use Rattle.suite_words.specs.Reading.Verdicts.{verdict_spelled, no_verdict, verdict_with, verdict_of, status_declared, reason_declared}
use Rattle.suite_words.specs.Reading.Words.{Declaration, word_of, may_stand, placed, with_verdict, with_attributes, with_name, declared_as}
use Rattle.suite_words.proofs.Lists.{get_before, get_last}
use Rattle.suite_text.proofs.Reading.Spares.{then_holds, chosen, after_any}

-- Lists that get longer at their end.
module _ {X : Type 0} where
  got_more : (xs ys : List X) (n : ℕ) (x : X) → slice_get xs n ≡ Some x → slice_get (xs ++ ys) n ≡ Some x
  got_more [] ys n x e = absurd (cc)
  got_more (y ∷ xs) ys zero x e = e
  got_more (y ∷ xs) ys (suc n) x e = got_more xs ys n x e

  got_one : (xs : List X) (n : ℕ) (x : X) → n ≡ length xs → slice_get (xs ++ x ∷ []) n ≡ Some x
  got_one [] zero x e = refl
  got_one [] (suc n) x e = absurd (omega (arith, e))
  got_one (y ∷ xs) zero x e = absurd (omega (arith, e))
  got_one (y ∷ xs) (suc n) x e = got_one xs n x (omega (arith, e))

  got_which : (xs : List X) (x y : X) (n : ℕ) → slice_get (xs ++ x ∷ []) n ≡ Some y → (slice_get xs n ≡ Some y) ⊎ ((n ≡ length xs) × (x ≡ y))
  got_which [] x y zero e = inr (refl, cc)
  got_which [] x y (suc n) e = absurd (cc)
  got_which (z ∷ xs) x y zero e = inl e
  got_which (z ∷ xs) x y (suc n) e = elim (got_which xs x y n e) [ inl h ↦ inl h | inr h ↦ inr (ap suc h.0, h.1) ]

  one_longer : (xs : List X) (x : X) → length (xs ++ x ∷ []) ≡ length xs + 1
  one_longer xs x = simp length-append

past_end : (xs : List ℕ) (n : ℕ) → length xs ≤ n → slice_index_or xs n 0 ≡ 0
past_end [] n h = refl
past_end (x ∷ xs) zero h = absurd (omega (arith, h))
past_end (x ∷ xs) (suc n) h = past_end xs n (omega (arith, h))

-- What a verdict makes of a node.
abbrev HasVerdict : Word → Option Verdict → Type 0
HasVerdict Engine v = v ≡ None
HasVerdict Class v = Unit {0}
HasVerdict word v = is_some v ≡ true

none_has : (number : ℕ) (word : Word) → IfOk (no_verdict number word) (HasVerdict word)
none_has number Engine = refl
none_has number Class = tt
none_has number Test = tt
none_has number Factory = tt
none_has number Dyn = tt

some_has : (word : Word) (v : Verdict) → (word ≡ Engine → ⊥) → HasVerdict word (Some v)
some_has Engine v h = absurd (h refl)
some_has Class v h = tt
some_has Test v h = refl
some_has Factory v h = refl
some_has Dyn v h = refl

spelled_has : (number : ℕ) (word : Word) (v : Option Verdict) (text : List ℕ) → IfOk (verdict_with number word v text) (HasVerdict word)
spelled_has number Engine v text = tt
spelled_has number Class None text = tt
spelled_has number Test None text = tt
spelled_has number Factory None text = tt
spelled_has number Dyn None text = tt
spelled_has number Class (Some Pass) text = chosen (HasVerdict Class) (length text == 0) _ _ (λ _. tt) tt
spelled_has number Test (Some Pass) text = chosen (HasVerdict Test) (length text == 0) _ _ (λ _. refl) tt
spelled_has number Factory (Some Pass) text = chosen (HasVerdict Factory) (length text == 0) _ _ (λ _. refl) tt
spelled_has number Dyn (Some Pass) text = chosen (HasVerdict Dyn) (length text == 0) _ _ (λ _. refl) tt
spelled_has number Class (Some Fail) text = tt
spelled_has number Test (Some Fail) text = refl
spelled_has number Factory (Some Fail) text = refl
spelled_has number Dyn (Some Fail) text = refl
spelled_has number Class (Some Abort) text = tt
spelled_has number Test (Some Abort) text = refl
spelled_has number Factory (Some Abort) text = refl
spelled_has number Dyn (Some Abort) text = refl
spelled_has number Class (Some Disabled) text = tt
spelled_has number Test (Some Disabled) text = refl
spelled_has number Factory (Some Disabled) text = refl
spelled_has number Dyn (Some Disabled) text = refl

verdict_has : (number : ℕ) (word : Word) (first text : List ℕ) → IfOk (verdict_of number word first text) (HasVerdict word)
verdict_has number word first text = chosen (HasVerdict word) (length first == 0) _ _ (λ _. none_has number word) (spelled_has number word (verdict_spelled first) text)

runs_by : (v : Option Verdict) (n : ℕ) (text : List ℕ) → is_some v ≡ true → is_some (body_declared v n) ≡ is_none (reason_declared v text)
runs_by None n text h = absurd (false≢true h)
runs_by (Some Pass) n text h = refl
runs_by (Some Fail) n text h = refl
runs_by (Some Abort) n text h = refl
runs_by (Some Disabled) n text h = refl

runs_so : (word : Word) (v : Option Verdict) (n : ℕ) (text : List ℕ) (node : Node) → HasVerdict word v → node.body ≡ body_declared v n → node.disabled ≡ reason_declared v text → MayRun word node
runs_so Engine v n text node h body reason = (body ∙ ap (λ w. body_declared w n) h, reason ∙ ap (λ w. reason_declared w text) h)
runs_so Class v n text node h body reason = tt
runs_so Test v n text node h body reason = ap is_some body ∙ runs_by v n text h ∙ sym (ap is_none reason)
runs_so Factory v n text node h body reason = ap is_some body ∙ runs_by v n text h ∙ sym (ap is_none reason)
runs_so Dyn v n text node h body reason = ap is_some body ∙ runs_by v n text h ∙ sym (ap is_none reason)

own_body : (status : Option Status) (n : ℕ) → IfSome (option_map (λ (s : Status). n) status) (λ b. b ≡ n)
own_body None n = tt
own_body (Some s) n = refl

-- What a line declares below a node of this keyword.
record IsDeclared (above : Option Word) (first : List ℕ) (d : Declaration) : Type 0 where
  pub stands : may_stand above d.word ≡ true
  pub word : word_of first ≡ Some d.word
  pub verdict : HasVerdict d.word d.verdict

record IsPlaced (above : Option Word) (first : List ℕ) (word : Word) : Type 0 where
  pub stands : may_stand above word ≡ true
  pub word_is : word_of first ≡ Some word

placed_so : (number : ℕ) (above : Option Word) (first : List ℕ) (word : Option Word) → word_of first ≡ word → IfOk (placed number above word) (IsPlaced above first)
placed_so number above first None e = tt
placed_so number above first (Some word) e = chosen (IsPlaced above first) (may_stand above word) (Ok word) _ (λ stands. record { stands = stands; word_is = e }) tt

declared_so : (number : ℕ) (above : Option Word) (first rest : List ℕ) → IfOk (declared_as number above first rest) (IsDeclared above first)
declared_so number above first rest =
    then_holds (IsPlaced above first) (IsDeclared above first) (placed number above (word_of first)) (λ word. with_name number word rest) (placed_so number above first (word_of first) refl)
    (λ word at. chosen (IsDeclared above first) (length (first_word rest) == 0) _ (with_attributes number word (first_word rest) (after_word rest)) (λ _. tt)
    (after_any (IsDeclared above first) (attributes_of number word (after_word rest)) (λ read. with_verdict number word (first_word rest) read.0 read.1)
    (λ read. then_holds (HasVerdict word) (IsDeclared above first) (verdict_of number word (first_word read.1) (text_after_word read.1))
    (λ verdict. Ok (record { word = word; name = first_word rest; attributes = read.0; verdict = verdict; text = text_after_word read.1 }))
    (verdict_has number word (first_word read.1) (text_after_word read.1)) (λ verdict has. record { stands = at.stands; word = at.word_is; verdict = has }))))

-- Where a node of a keyword stands: below node a, which is below node b.
abbrev Fits : Option Word → ℕ → ℕ → Type 0
Fits None a b = a ≡ 0
Fits (Some Engine) a b = (0 < a) × (b ≡ 0)
Fits (Some Class) a b = (0 < a) × (0 < b)
Fits (Some word) a b = 0 < a

fits_so : (t : Nodes) (word : Word) (n : ℕ) (node : Node) → IsA t word n node → 0 < n → Fits (Some word) n (parent_of t n)
fits_so t Engine n node is h = (h, is.2)
fits_so t Class n node is h = (h, is.2)
fits_so t Test n node is h = h
fits_so t Factory n node is h = h
fits_so t Dyn n node is h = h

engine_above : (a b : ℕ) → 0 < a → b ≡ 0 → codes "class" ≡ type_by roles.Plain kinds.Container a b
engine_above zero b h e = absurd (omega (arith, h))
engine_above (suc a) b h e = ap (type_by roles.Plain kinds.Container (suc a)) (sym e)

class_above : (a b : ℕ) → 0 < a → 0 < b → codes "nested-class" ≡ type_by roles.Plain kinds.Container a b
class_above zero b h k = absurd (omega (arith, h))
class_above (suc a) zero h k = absurd (omega (arith, k))
class_above (suc a) (suc b) h k = refl

type_so : (above : Option Word) (word : Word) (a b : ℕ) → may_stand above word ≡ true → Fits above a b → segment_kind above word ≡ type_by (role_declared word) (kind_declared word) a b
type_so None Engine a b e f = ap (λ x. type_by roles.Plain kinds.Container x b) (sym f)
type_so (Some Engine) Class a b e f = engine_above a b f.0 f.1
type_so (Some Class) Class a b e f = class_above a b f.0 f.1
type_so (Some Class) Test a b e f = refl
type_so (Some Class) Factory a b e f = refl
type_so (Some Factory) Dyn a b e f = refl
type_so above word a b e f = absurd (false≢true e)

is_so : (above : Option Word) (word : Word) (t : Nodes) (n a b : ℕ) (node : Node) → may_stand above word ≡ true → Fits above a b → parent_of t n ≡ a → node.kind ≡ kind_declared word → node.role ≡ role_declared word → IsA t word n node
is_so None Engine t n a b node e f p k r = (k, r, p ∙ f)
is_so (Some Engine) Class t n a b node e f p k r = (k, r, subst (λ (x : ℕ). 0 < x) (sym p) f.0)
is_so (Some Class) Class t n a b node e f p k r = (k, r, subst (λ (x : ℕ). 0 < x) (sym p) f.0)
is_so (Some Class) Test t n a b node e f p k r = (k, r)
is_so (Some Class) Factory t n a b node e f p k r = (k, r)
is_so (Some Factory) Dyn t n a b node e f p k r = (k, r)
is_so above word t n a b node e f p k r = absurd (false≢true e)

-- What holds of each node, and what it is once the tree has grown.
record IsEach (t : Nodes) (word : Word) (n : ℕ) (node : Node) : Type 0 where
  pub kind : IsKind t word n node
  pub bodies : HasBodies word n node

is_kept : (t u : Nodes) (word : Word) (n : ℕ) (node : Node) → parent_of u n ≡ parent_of t n → IsA t word n node → IsA u word n node
is_kept t u Engine n node p is = (is.0, is.1, p ∙ is.2)
is_kept t u Class n node p is = (is.0, is.1, subst (λ (x : ℕ). 0 < x) (sym p) is.2)
is_kept t u Test n node p is = is
is_kept t u Factory n node p is = is
is_kept t u Dyn n node p is = is

each_kept : (t u : Nodes) (word : Word) (n : ℕ) (node : Node) → parent_of u n ≡ parent_of t n → parent_of u (parent_of u n) ≡ parent_of t (parent_of t n) → IsEach t word n node → IsEach u word n node
each_kept t u word n node p q each = record {
  kind = record {
    is = is_kept t u word n node p each.kind.is;
    above = each.kind.above;
    value = each.kind.value;
    id = each.kind.id ∙ ap₂ (λ a b. each.kind.above ++ record { kind = type_by node.role node.kind a b; value = each.kind.value } ∷ []) (sym p) (sym q);
  };
  bodies = each.bodies;
}

is_given : (t : Nodes) (word : Word) (n b : ℕ) (node : Node) → IsA t word n node → IsA t word n (given_after b node)
is_given t Engine n b node is = is
is_given t Class n b node is = is
is_given t Test n b node is = is
is_given t Factory n b node is = is
is_given t Dyn n b node is = is

each_given : (t : Nodes) (n : ℕ) (node : Node) → IsEach t Class n node → IsEach t Class n (given_after (after_body n) node)
each_given t n node each = record {
  kind = record { is = is_given t Class n (after_body n) node each.kind.is; above = each.kind.above; value = each.kind.value; id = each.kind.id };
  bodies = record { runs = tt; body = each.bodies.body; after = (refl, refl) };
}

-- an open node is that of a line with its keyword
abbrev HasWord : List Word → Opened → Type 0
HasWord words o = (i : ℕ) × (o.node ≡ suc i) × (slice_get words i ≡ Some o.word)

abbrev AllHave : List Word → List Opened → Type 0
AllHave words [] = Unit {0}
AllHave words (o ∷ more) = HasWord words o × AllHave words more

have_at : (words : List Word) (path : List Opened) (l : ℕ) (o : Opened) → AllHave words path → slice_get path l ≡ Some o → HasWord words o
have_at words [] l o all e = absurd (cc)
have_at words (x ∷ more) zero o all e = let same : x ≡ o = cc in subst (HasWord words) same all.0
have_at words (x ∷ more) (suc l) o all e = have_at words more l o all.1 e

have_above : (words : List Word) (path : List Opened) (level : ℕ) (o : Opened) → AllHave words path → above path level ≡ Some o → HasWord words o
have_above words path zero o all e = absurd (cc)
have_above words path (suc l) o all e = have_at words path l o all e

have_more : (words more : List Word) (path : List Opened) → AllHave words path → AllHave (words ++ more) path
have_more words more [] all = tt
have_more words more (o ∷ path) all = ((all.0.0, all.0.1, got_more words more all.0.0 o.word all.0.2), have_more words more path all.1)

have_taken : (words : List Word) (path : List Opened) (n : ℕ) (o : Opened) → AllHave words path → HasWord words o → AllHave words (take n path ++ o ∷ [])
have_taken words path zero o all new = (new, tt)
have_taken words [] (suc n) o all new = (new, tt)
have_taken words (x ∷ more) (suc n) o all new = (all.0, have_taken words more n o all.1 new)

-- So it is after each line, if these are the keywords of the lines so far.
record IsMade (words : List Word) (read : LinesRead) : Type 0 where
  pub as_many : length read.tree.nodes ≡ length words
  pub size_is : size read.tree ≡ length words + 1
  pub inside : (n : ℕ) → parent_of read.tree n < size read.tree
  pub each : (n : ℕ) (word : Word) → slice_get words n ≡ Some word → (node : Node) × (slice_get read.tree.nodes n ≡ Some node) × IsEach read.tree word (suc n) node
  pub path : AllHave words read.path

fits_above : (words : List Word) (read : LinesRead) (o : Option Opened) → IsMade words read → ((x : Opened) → o ≡ Some x → HasWord words x) → Fits (word_of_opened o) (node_of_opened o) (parent_of read.tree (node_of_opened o))
fits_above words read None so has = refl
fits_above words read (Some x) so has =
    let is = has x refl in
    let there = so.each is.0 x.word is.2 in
    subst (λ (n : ℕ). Fits (Some x.word) n (parent_of read.tree n)) (sym is.1) (fits_so read.tree x.word (suc is.0) there.0 there.2.kind.is (omega arith))

above_in : (words : List Word) (read : LinesRead) (o : Option Opened) → IsMade words read → ((x : Opened) → o ≡ Some x → HasWord words x) → node_of_opened o < size read.tree
above_in words read None so has = let many = so.size_is in omega (arith, many)
above_in words read (Some x) so has =
    let is = has x refl in
    let within = slice_get_within words is.0 x.word is.2 in
    let many = so.size_is in
    let at = is.1 in
    omega (arith, many, within, at)

module _ (words : List Word) (read : LinesRead) (level : ℕ) (first : List ℕ) (d : Declaration) (so : IsMade words read) (is : IsDeclared (word_on read level) first d) where
  abbrev t : Nodes
  t = read.tree

  abbrev new : Node
  new = node_on read level d

  abbrev u : Nodes
  u = appended t (parent_on read level) new

  has : (x : Opened) → above read.path level ≡ Some x → HasWord words x
  has x e = have_above words read.path level x so.path e

  parent_in : parent_on read level < size t
  parent_in = above_in words read (above read.path level) so has

  before : (n : ℕ) → n < size t → parent_of u n ≡ parent_of t n
  before n h = get_before t.parents (parent_on read level) n h

  here : parent_of u (size t) ≡ parent_on read level
  here = get_last t.parents (parent_on read level)

  longer : size u ≡ size t + 1
  longer = one_longer t.parents (parent_on read level)

  inside_by : (n : ℕ) → (n ≡ size t) ⊎ ((n < size t) ⊎ (size t < n)) → parent_of u n < size u
  inside_by n (inl e) = let at = ap (parent_of u) e ∙ here in let more = longer in let within = parent_in in omega (arith, at, more, within)
  inside_by n (inr (inl h)) = let at = before n h in let more = longer in let within = so.inside n in omega (arith, at, more, within)
  inside_by n (inr (inr h)) = let more = longer in let none : parent_of u n ≡ 0 = past_end u.parents n (omega (arith, more, h)) in omega (arith, none, more)

  kept : (n : ℕ) (word : Word) (node : Node) → suc n < size t → IsEach t word (suc n) node → IsEach u word (suc n) node
  kept n word node h each =
      each_kept t u word (suc n) node (before (suc n) h) (ap (parent_of u) (before (suc n) h) ∙ before (parent_of t (suc n)) (so.inside (suc n))) each

  fits : Fits (word_on read level) (parent_on read level) (parent_of t (parent_on read level))
  fits = fits_above words read (above read.path level) so has

  made : IsEach u d.word (size t) new
  made = record {
    kind = record {
      is = is_so (word_on read level) d.word u (size t) (parent_on read level) (parent_of t (parent_on read level)) new is.stands fits here refl refl;
      above = id_at t (parent_on read level);
      value = value_declared d (place_on read level);
      id = ap (λ k. id_at t (parent_on read level) ++ record { kind = k; value = value_declared d (place_on read level) } ∷ [])
          (type_so (word_on read level) d.word (parent_on read level) (parent_of t (parent_on read level)) is.stands fits
          ∙ ap₂ (λ a b. type_by (role_declared d.word) (kind_declared d.word) a b) (sym here) (sym (ap (parent_of u) here ∙ before (parent_on read level) parent_in)));
    };
    bodies = record {
      runs = runs_so d.word d.verdict (size t) d.text new is.verdict refl refl;
      body = own_body (status_declared d.verdict) (size t);
      after = tt;
    };
  }

  each_by : (n : ℕ) (word : Word) → (slice_get words n ≡ Some word) ⊎ ((n ≡ length words) × (d.word ≡ word)) → (node : Node) × (slice_get u.nodes n ≡ Some node) × IsEach u word (suc n) node
  each_by n word (inl e) =
      let old = so.each n word e in
      let within = slice_get_within words n word e in
      let many = so.size_is in
      (old.0, got_more t.nodes (new ∷ []) n old.0 old.1, kept n word old.0 (omega (arith, within, many)) old.2)
  each_by n word (inr e) =
      let many = so.size_is in
      let at = e.0 in
      let number : size t ≡ suc n = omega (arith, many, at) in
      (new, got_one t.nodes n new (e.0 ∙ sym so.as_many), subst (λ (w : Word). IsEach u w (suc n) new) e.1 (subst (λ (m : ℕ). IsEach u d.word m new) number made))

  grown_made : IsMade (words ++ d.word ∷ []) (grown read level d)
  grown_made = record {
    as_many = one_longer t.nodes new ∙ ap (λ k. k + 1) so.as_many ∙ sym (one_longer words d.word);
    size_is = longer ∙ ap (λ k. k + 1) (so.size_is ∙ sym (one_longer words d.word));
    inside = λ n. inside_by n (cases_order n (size t));
    each = λ n word e. each_by n word (got_which words d.word word n e);
    path = have_taken (words ++ d.word ∷ []) read.path level (record { node = size t; word = d.word }) (have_more words (d.word ∷ []) read.path so.path)
        (length words, (let many = so.size_is in omega (arith, many)), got_one words (length words) d.word refl);
  }

-- An after-body.
given_which : (b i n : ℕ) (xs : List Node) (x : Node) → slice_get xs n ≡ Some x → (slice_get (given_after_at b i xs) n ≡ Some x) ⊎ ((n ≡ i) × (slice_get (given_after_at b i xs) n ≡ Some (given_after b x)))
given_which b i n [] x e = absurd (cc)
given_which b zero zero (y ∷ xs) x e = let same : y ≡ x = cc in inr (refl, ap (λ z. Some (given_after b z)) same)
given_which b zero (suc n) (y ∷ xs) x e = inl e
given_which b (suc i) zero (y ∷ xs) x e = inl e
given_which b (suc i) (suc n) (y ∷ xs) x e = elim (given_which b i n xs x e) [ inl h ↦ inl h | inr h ↦ inr (ap suc h.0, h.1) ]

as_long : (b i : ℕ) (nodes : List Node) → length (given_after_at b i nodes) ≡ length nodes
as_long b i [] = refl
as_long b zero (x ∷ more) = refl
as_long b (suc i) (x ∷ more) = ap suc (as_long b i more)

module _ (words : List Word) (read : LinesRead) (i : ℕ) (said : Status × List ℕ) (so : IsMade words read) (class : slice_get words i ≡ Some Class) where
  abbrev v : Nodes
  v = with_after read.tree (suc i) (after_body (suc i))

  same_here : (n : ℕ) (word : Word) (node : Node) → IsEach read.tree word n node → IsEach v word n node
  same_here n word node each = each_kept read.tree v word n node refl refl each

  after_by : (n : ℕ) (word : Word) (node : Node) → slice_get words n ≡ Some word → IsEach read.tree word (suc n) node
      → (slice_get v.nodes n ≡ Some node) ⊎ ((n ≡ i) × (slice_get v.nodes n ≡ Some (given_after (after_body (suc i)) node))) → (x : Node) × (slice_get v.nodes n ≡ Some x) × IsEach v word (suc n) x
  after_by n word node e each (inl at) = (node, at, same_here (suc n) word node each)
  after_by n word node e each (inr at) =
      let is : Class ≡ word = let two : Some Class ≡ Some word = sym class ∙ ap (slice_get words) (sym at.0) ∙ e in cc in
      let own : IsEach read.tree Class (suc n) node = subst (λ (w : Word). IsEach read.tree w (suc n) node) (sym is) each in (
        given_after (after_body (suc n)) node,
        at.1 ∙ ap (λ k. Some (given_after (after_body (suc k)) node)) (sym at.0),
        subst (λ (w : Word). IsEach v w (suc n) (given_after (after_body (suc n)) node)) is (same_here (suc n) Class (given_after (after_body (suc n)) node) (each_given read.tree (suc n) node own)),
      )

  after_made : IsMade words (with_after_body read (suc i) said)
  after_made = record {
    as_many = as_long (after_body (suc i)) i read.tree.nodes ∙ so.as_many;
    size_is = so.size_is;
    inside = so.inside;
    each = λ n word e. let old = so.each n word e in after_by n word old.0 e old.2 (given_which (after_body (suc i)) i n read.tree.nodes old.0 old.1);
    path = so.path;
  }

abbrev IsClassOf : List Word → ℕ → Type 0
IsClassOf words n = (i : ℕ) × (n ≡ suc i) × (slice_get words i ≡ Some Class)

class_word : (word : Word) (b : Bool) → (is_class word && b) ≡ true → word ≡ Class
class_word Class b e = refl
class_word Engine b e = absurd (false≢true e)
class_word Test b e = absurd (false≢true e)
class_word Factory b e = absurd (false≢true e)
class_word Dyn b e = absurd (false≢true e)

class_so : (number : ℕ) (words : List Word) (t : Nodes) (o : Option Opened) → ((x : Opened) → o ≡ Some x → HasWord words x) → IfOk (class_of number t o) (IsClassOf words)
class_so number words t None has = tt
class_so number words t (Some x) has = chosen (IsClassOf words) (is_class x.word && is_none (after_of t x.node)) (Ok x.node) _
    (λ e. let at = has x refl in (at.0, at.1, at.2 ∙ ap Some (class_word x.word _ e))) tt

-- Line by line.
refused_made : (words : List Word) (number : ℕ) (why : Option TreeFault) (read : LinesRead) → IsMade words read → IfOk (unless_refused number why read) (IsMade words)
refused_made words number None read so = so
refused_made words number (Some why) read so = tt

after_line_made : (words : List Word) (number : ℕ) (read : LinesRead) (level : ℕ) (rest : List ℕ) → IsMade words read → IfOk (with_after_line number read level rest) (IsMade words)
after_line_made words number read level rest so =
    then_holds (IsClassOf words) (IsMade words) (class_of number read.tree (above read.path level)) (λ n. after_said number rest >>= (λ said. given_after_body number read n said))
    (class_so number words read.tree (above read.path level) (λ x e. have_above words read.path level x so.path e))
    (λ n at. after_any (IsMade words) (after_said number rest) (λ said. given_after_body number read n said)
    (λ said. refused_made words number (after_refusal read.tree n (after_body n)) (with_after_body read n said)
    (subst (λ (m : ℕ). IsMade words (with_after_body read m said)) (sym at.1) (after_made words read at.0 said so at.2))))

node_line_made : (words : List Word) (number : ℕ) (read : LinesRead) (level : ℕ) (first rest : List ℕ) → IsMade words read
    → IfOk (declared_as number (word_on read level) first rest >>= (λ d. with_declared number read level d)) (IsMade (words ++ option_to_list (word_of first)))
node_line_made words number read level first rest so =
    then_holds (IsDeclared (word_on read level) first) (IsMade (words ++ option_to_list (word_of first))) (declared_as number (word_on read level) first rest) (λ d. with_declared number read level d)
    (declared_so number (word_on read level) first rest)
    (λ d is. refused_made (words ++ option_to_list (word_of first)) number (refusal_on read level d) (grown read level d)
    (subst (λ (w : Option Word). IsMade (words ++ option_to_list w) (grown read level d)) (sym is.word) (grown_made words read level first d so is)))

no_more : (words : List Word) (read : LinesRead) (word : Option Word) → word ≡ None → IsMade words read → IsMade (words ++ option_to_list word) read
no_more words read word none so = subst (λ (w : Option Word). IsMade (words ++ option_to_list w) read) (sym none) (subst (λ (l : List Word). IsMade l read) (sym (append-nil words)) so)

spelled_so : (first text : List ℕ) → bytes_eq first text ≡ true → first ≡ text
spelled_so first text e = (bytes_eq-Decides first text).0 e

properties_made : (words : List Word) (read : LinesRead) (line : List ℕ) (number : ℕ) → IsMade words read → IfOk (with_pair number read line) (IsMade words)
properties_made words read line number so =
    after_any (IsMade words) (with_property number read.properties line) (λ properties. Ok (with_properties read properties))
    (λ properties. record { as_many = so.as_many; size_is = so.size_is; inside = so.inside; each = so.each; path = so.path })

none_of : (words : List Word) (word : Option Word) (r : Result LinesRead SuiteFault) → word ≡ None → IfOk r (IsMade words) → IfOk r (IsMade (words ++ option_to_list word))
none_of words word (Ok read) none so = no_more words read word none so
none_of words word (Err fault) none so = tt

both_true : (a b : Bool) → (a && b) ≡ true → b ≡ true
both_true true b e = e
both_true false b e = absurd (false≢true e)

words_made : (words : List Word) (number : ℕ) (read : LinesRead) (line : List ℕ) → IsMade words read → IfOk (with_words number read line) (IsMade (words ++ option_to_list (word_of (first_word line))))
words_made words number read line so =
    let first = first_word line in
    let all = IsMade (words ++ option_to_list (word_of first)) in
    after_any all (level_of number (length read.path) line) (λ level. with_words_on number read level line)
    (λ level. chosen all (is_property_in read line) _ (with_declaration number read level line)
    (λ e. none_of words (word_of first) (with_pair number read line) (ap word_of (spelled_so first (codes "property") (both_true (length read.path == 0) (is_property line) e))) (properties_made words read line number so))
    (chosen all (is_after line) _ _
    (λ e. none_of words (word_of first) (with_after_line number read level (after_word line)) (ap word_of (spelled_so first (codes "after") e)) (after_line_made words number read level (after_word line) so))
    (node_line_made words number read level first (after_word line) so)))

line_by : (words : List Word) (number : ℕ) (read : LinesRead) (line : List ℕ) → IsMade words read → (b : Bool)
    → IfOk (if b then Ok read else with_words number read line) (IsMade (words ++ option_to_list (if b then None else word_of (first_word line))))
line_by words number read line so true = no_more words read None refl so
line_by words number read line so false = words_made words number read line so

from_made : (words : List Word) (number : ℕ) (read : LinesRead) (ls : List (List ℕ)) → IsMade words read → IfOk (suite_from number read ls) (IsMade (words ++ words_of ls))
from_made words number read [] so = subst (λ (l : List Word). IsMade l read) (sym (append-nil words)) so
from_made words number read (line ∷ more) so =
    let own = option_to_list (word_in line) in
    subst (λ (l : List Word). IfOk (suite_from number read (line ∷ more)) (IsMade l)) (append_assoc words own (words_of more))
    (then_holds (IsMade (words ++ own)) (IsMade ((words ++ own) ++ words_of more)) (with_line number read line) (λ next. suite_from (number + 1) next more) (line_by words number read line so (says_nothing line))
    (λ next got. from_made (words ++ own) (number + 1) next more got))

nothing_made : (limit : ℕ) → IsMade [] (no_lines limit)
nothing_made limit = record {
  as_many = refl;
  size_is = refl;
  inside = none_in;
  each = λ n word e. absurd (cc);
  path = tt;
}
  where
    none_in : (n : ℕ) → parent_of (no_lines limit).tree n < size (no_lines limit).tree
    none_in zero = omega arith
    none_in (suc n) = omega arith

record IsSorted (words : List Word) (t : Nodes) : Type 0 where
  pub kinds : AreNodesOf (IsKind t) t words
  pub bodies : AreNodesOf HasBodies t words

abbrev SortedBy : List Word → SuiteParts → Type 0
SortedBy words suite = IsSorted words suite.tree

sorted : (words : List Word) (read : LinesRead) → IsMade words read → IsSorted words read.tree
sorted words read so = record {
  kinds = record { many = so.size_is; each = λ n word e. let there = so.each n word e in (there.0, there.1, there.2.kind) };
  bodies = record { many = so.size_is; each = λ n word e. let there = so.each n word e in (there.0, there.1, there.2.bodies) };
}

suite_sorted : (most : Option ℕ) (text : List ℕ) → IfOk (suite_of most text) (SortedBy (words_of (lines text)))
suite_sorted most text = let words = words_of (lines text) in let start = no_lines (node_limit most) in chosen (SortedBy words) (nat_lt (byte_limit most) (length text)) _ _ (λ _. tt)
    (then_holds (IsMade words) (SortedBy words) (suite_from 1 start (lines text)) (λ read. Ok (parts_of read)) (from_made [] 1 start (lines text) (nothing_made (node_limit most))) (λ read so. sorted words read so))

-- and of a suite that a call answers by the definition
given_sorted : (words : List Word) (result : Result Suite SuiteFault) (read : Result SuiteParts SuiteFault) → Gives suite_parts result read → IfOk read (SortedBy words) → IfOk result (λ suite. IsSorted words suite.tree)
given_sorted words (Ok suite) read is sorted = subst (λ (r : Result SuiteParts SuiteFault). IfOk r (SortedBy words)) is sorted
given_sorted words (Err fault) read is sorted = tt

module _ (most : Option ℕ) (text : List ℕ) (result : Result Suite SuiteFault) (is : Gives suite_parts result (suite_of most text)) where
  all_sorted : IfOk result (λ suite. IsSorted (words_of (lines text)) suite.tree)
  all_sorted = given_sorted (words_of (lines text)) result (suite_of most text) is (suite_sorted most text)

kinds_by : (words : List Word) (result : Result Suite SuiteFault) → IfOk result (λ suite. IsSorted words suite.tree) → IfOk result (λ suite. AreNodesOf (IsKind suite.tree) suite.tree words)
kinds_by words (Ok suite) h = h.kinds
kinds_by words (Err fault) h = tt

bodies_by : (words : List Word) (result : Result Suite SuiteFault) → IfOk result (λ suite. IsSorted words suite.tree) → IfOk result (λ suite. AreNodesOf HasBodies suite.tree words)
bodies_by words (Ok suite) h = h.bodies
bodies_by words (Err fault) h = tt

pub suite_kinds : (most : Option ℕ) (text : List ℕ) (result : Result Suite SuiteFault) → Gives suite_parts result (suite_of most text) → IfOk result (λ suite. AreNodesOf (IsKind suite.tree) suite.tree (words_of (lines text)))
suite_kinds most text result is = kinds_by (words_of (lines text)) result (all_sorted most text result is)

pub suite_bodies : (most : Option ℕ) (text : List ℕ) (result : Result Suite SuiteFault) → Gives suite_parts result (suite_of most text) → IfOk result (λ suite. AreNodesOf HasBodies suite.tree (words_of (lines text)))
suite_bodies most text result is = bodies_by (words_of (lines text)) result (all_sorted most text result is)
