-- A written suite is read back.
use Rattle.std.proofs.Common.{nat_lt, ◌≡◌, ℕ, zero, suc, ◌+◌, ◌<◌, ◌≤◌, List, [], ◌∷◌, ◌++◌, length, take, Bool, true, false, cond, if◌then◌else◌, ◌||◌, ◌&&◌, ◌==◌, drop, option_map, option_to_list, Err, inl, inr, Option, Some, None, Result, Ok, refl, ap, sym, subst, ◌∙◌, arith, append-nil, length-append}
use Rattle.std.specs.Prelude.{slice_get}
use Rattle.std.specs.List.{AllByRecursion}
use Rattle.std.specs.Option.{is_some, is_none}
use Rattle.std.specs.Str.{IsUtf8}
use Rattle.std.proofs.lemmas.Bool.{ne_eqb, le-ltb}
use Rattle.std.proofs.lemmas.List.{append_assoc}
use Rattle.descriptor.specs.declared.fault.TreeFault.TheVariants.{OverLimit}
use Rattle.descriptor.specs.declared.node.Node.{Node}
use Rattle.descriptor.specs.Nodes.{Nodes, IsTree, size, node_at, after_of, after_or}
use Rattle.descriptor.specs.Bodies.{takes_after, may_get_after_or, may_get_after_at, with_after}
use Rattle.descriptor.specs.Roles.{is_spare}
use Rattle.descriptor.specs.Refusals.{after_refusal}
use Rattle.descriptor.specs.Refusals as trees
use Rattle.unique_id.specs.Spelling as ids
use Rattle.suite_text.specs.declared.suite.builder.Opened.{Opened}
use Rattle.suite_text.specs.declared.suite.Suite.{Suite}
use Rattle.suite_words.specs.declared.suite.fault.SuiteFault.{SuiteFault}
use Rattle.suite_words.specs.declared.suite.words.Word.{Word}
use Rattle.suite_words.specs.declared.suite.words.Word.TheVariants.{Engine, Class, Test, Factory, Dyn}
use Rattle.suite_text.specs.Reading.Bytes.{suite_read}
use Rattle.suite_words.specs.Limits.{node_limit, byte_limit}
use Rattle.suite_words.specs.Reading.Bytes.{without_mark}
use Rattle.suite_words.specs.Reading.Faults.{Gives}
use Rattle.unique_id.specs.Answers.{◌>>=◌}
use Rattle.suite_words.specs.Reading.Lines.{says_nothing, after_word, begins_with_sign}
use Rattle.suite_words.specs.Reading.Nodes.{id_at, segment_kind, role_declared, value_of_dyn, value_declared, next_place}
use Rattle.suite_text.specs.Reading.Nodes.{parent_on, word_on, node_on, refusal_on, grown, unless_refused}
use Rattle.suite_text.specs.Reading.After.{is_class, class_of, with_after_body, given_after_body, with_after_line}
use Rattle.suite_words.specs.Reading.After.{after_said, after_body}
use Rattle.suite_words.specs.Reading.Scripts.{ending}
use Rattle.suite_words.specs.declared.script.Script.{Script}
use Rattle.suite_words.specs.declared.suite.fault.SuiteFault.TheVariants.{BadLine}
use Rattle.suite_text.specs.Reading.Parts.{SuiteParts, Made, suite_made, LinesRead, no_lines, made_of, parts_of, above, word_of_opened, node_of_opened}
use Rattle.config_params.specs.Parameters as parameters
use Rattle.config_params.specs.Parameters.{Parameters}
use Rattle.suite_text.specs.Writing.Properties.{IsProperty, property_text, said_to}
use Rattle.suite_text.specs.Suites.{with_words_on, with_pair, with_properties, with_declared, with_node_line, with_declaration, with_words, with_line, suite_from, suite_of, suite_parts}
use Rattle.suite_text.specs.Writing.Lines.{IsWord, NodeLine, node_text, declares, IsNodeLine}
use Rattle.suite_text.specs.Writing.Suites.{Line, SaysNothing, Items, NoMore, Item, AfterItem, innermost, lines_of_items, Written, lines_of_written, text_of_written, with_item, in_item, with_items, nothing_made, PropertyLine, lines_of_properties, all_said_to, meant, node_in, IsShortId, AreItems, IsWritten, IsSuite}
use Rattle.suite_text.proofs.Reading.Lines.{read_text}
use Rattle.suite_text.proofs.Reading.Steps.{suite_small}
use Rattle.suite_text.proofs.Writing.Lines.{line_says, line_level, line_no_property, line_is_node, line_declares}
use Rattle.suite_text.specs.Writing.AfterLines.{AfterLine, after_text, IsAfterLine, with_after_item, TakesAfter}
use Rattle.suite_text.proofs.Writing.AfterLines.{behind, after_says, after_level, after_no_property, after_is_after, after_behind, after_back}
use Rattle.suite_text.proofs.Writing.Trees.{Extends, extends_self, extends_one, extends_then, extends_after, taken_next, taken_given, counted_given, id_next, id_short}
use Rattle.suite_text.proofs.Writing.Texts.{texts_of, lines_back}
use Rattle.suite_text.proofs.Writing.Properties.{property_says, property_level, property_is, property_back}
use Rattle.suite_text.proofs.Writing.Words.{all_spaces, or_true}

abbrev goes : ℕ → LinesRead → List Line → Result LinesRead SuiteFault
goes number read ls = suite_from number read (texts_of ls)

-- lines that say nothing
nothing_said : (line : Line) → SaysNothing line → says_nothing line.text ≡ true
nothing_said line (inl sign) = ap says_nothing sign.1
nothing_said line (inr spaces) = ap (λ t. begins_with_sign line.text || (length t == 0)) (all_spaces line.text spaces) ∙ or_true (begins_with_sign line.text)

passed : (number : ℕ) (read : LinesRead) (before rest : List Line) → AllByRecursion SaysNothing before → (n : ℕ) × (goes number read (before ++ rest) ≡ goes n read rest)
passed number read [] rest h = (number, refl)
passed number read (line ∷ more) rest h =
    let next = passed (number + 1) read more rest h.1 in (
      next.0,
      ap (λ b. (if b then Ok read else with_words number read line.text) >>= (λ r. goes (number + 1) r (more ++ rest))) (nothing_said line h.0) ∙ next.1,
    )

-- no limit refuses the node that a line declares in a place, where there may be so many nodes
record IsTaken (limit : ℕ) (made : Made) (place : Option Opened) (line : NodeLine) : Type 0 where
  pub id : ids.refusal (id_at made.tree (node_of_opened place)) (segment_kind (word_of_opened place) line.word) (value_declared (declares line) (next_place made.tree (node_of_opened place))) ≡ None
  pub tree : trees.refusal limit made.tree (node_of_opened place) (node_in made place line) ≡ None

some_kind : (above : Option Word) (w : Word) → (length (segment_kind above w) == 0) ≡ false
some_kind above Engine = refl
some_kind None Class = refl
some_kind (Some Engine) Class = refl
some_kind (Some Class) Class = refl
some_kind (Some Test) Class = refl
some_kind (Some Factory) Class = refl
some_kind (Some Dyn) Class = refl
some_kind above Test = refl
some_kind above Factory = refl
some_kind above Dyn = refl

some_value_by : (dyn : Bool) (name : List ℕ) (k : ℕ) → IsWord name → (length (if dyn then value_of_dyn k else name) == 0) ≡ false
some_value_by true name k is = ne_eqb (length (value_of_dyn k)) 0 (λ e. omega (arith, e))
some_value_by false name k is = ne_eqb (length name) 0 (λ e. omega (arith, e, is.0))

some_value : (line : NodeLine) (k : ℕ) → IsWord line.name → (length (value_declared (declares line) k) == 0) ≡ false
some_value line k is = some_value_by (is_spare (role_declared line.word)) line.name k is

-- what an fronts node that takes an after-body may get
may_get : (t : Nodes) (o : Option Opened) → TakesAfter t o → may_get_after_at t (node_of_opened o) ≡ true
may_get t None h = absurd h
may_get t (Some o) h = h.1

-- items are taken one by one
extends_items : (items : Items) (made : Made) (places : List Opened) → AreItems made places items → Extends made.tree (with_items made places items).tree
extends_items NoMore made places are = extends_self made.tree
extends_items (Item before line end inside after) made places are =
    let own = with_item made (innermost places) line in
    let within = with_items own (in_item made places line) inside in
    extends_then made.tree own.tree _ (extends_one made.tree (node_of_opened (innermost places)) (node_in made (innermost places) line))
    (extends_then own.tree within.tree _ (extends_items inside own (in_item made places line) are.2) (extends_items after within places are.3))
extends_items (AfterItem before level line end after) made places are =
    let n = node_of_opened (above places level) in
    let given = with_after_item made n line in
    extends_then made.tree given.tree _ (extends_after made.tree n (after_body n) (may_get made.tree (above places level) are.2)) (extends_items after given places are.4)

-- one node has no number in the list of nodes: the plan
abbrev IsCounted : Made → Type 0
IsCounted made = length made.tree.nodes + 1 ≡ size made.tree

counted_item : (made : Made) (place : Option Opened) (line : NodeLine) → IsCounted made → IsCounted (with_item made place line)
counted_item made place line h =
    let nodes = length-append made.tree.nodes (node_in made place line ∷ []) in
    let parents = length-append made.tree.parents (node_of_opened place ∷ []) in
    omega (arith, h, nodes, parents)

counted_after : (made : Made) (n : ℕ) (line : AfterLine) → IsCounted made → IsCounted (with_after_item made n line)
counted_after made n line h = counted_given made.tree n (after_body n) h

counted_items : (items : Items) (made : Made) (places : List Opened) → IsCounted made → IsCounted (with_items made places items)
counted_items NoMore made places h = h
counted_items (Item before line end inside after) made places h =
    let own = with_item made (innermost places) line in
    let within = with_items own (in_item made places line) inside in
    counted_items after within places (counted_items inside own (in_item made places line) (counted_item made (innermost places) line h))
counted_items (AfterItem before level line end after) made places h =
    let n = node_of_opened (above places level) in
    counted_items after (with_after_item made n line) places (counted_after made n line h)

taken_item : (limit : ℕ) (made : Made) (place : Option Opened) (line : NodeLine) (final : Nodes) → IsCounted made → IsWord line.name → Extends (with_item made place line).tree final → IsTree final
    → AllByRecursion (λ (node : Node). IsShortId node.id) final.nodes → size final ≤ limit + 1 → IsTaken limit made place line
taken_item limit made place line final counted name more tree ids few = record {
  id = id_short (id_at made.tree (node_of_opened place)) (segment_kind (word_of_opened place) line.word) (value_declared (declares line) (next_place made.tree (node_of_opened place)))
      (some_kind (word_of_opened place) line.word) (some_value line (next_place made.tree (node_of_opened place)) name)
      (id_next made.tree final (node_of_opened place) (node_in made place line) more ids);
  tree = taken_next limit made.tree final (node_of_opened place) (node_in made place line) counted more tree few;
}

-- no property's line
neither : {A : Type 0} (b : Bool) (x y : A) → (if b && false then x else y) ≡ y
neither true x y = refl
neither false x y = refl

-- a line that declares a node
module _ (number level : ℕ) (read : LinesRead) (line : NodeLine) (fits : level ≤ length read.path) where
  refused_not : IsTaken read.limit (made_of read) (above read.path level) line → refusal_on read level (declares line) ≡ None
  refused_not taken = ap (λ r. cond (is_some r) (Some OverLimit) (trees.refusal read.limit read.tree (parent_on read level) (node_on read level (declares line)))) taken.id ∙ taken.tree

  line_taken : IsNodeLine (word_of_opened (above read.path level)) line → IsTaken read.limit (made_of read) (above read.path level) line → with_line number read (node_text level line) ≡ Ok (grown read level (declares line))
  line_taken is taken =
      let text = node_text level line in
      ap (λ b. if b then Ok read else with_words number read text) (line_says number level line)
      ∙ ap (λ r. r >>= (λ l. with_words_on number read l text)) (line_level number level line (length read.path) fits)
      ∙ ap (λ b. if (length read.path == 0) && b then with_pair number read text else with_declaration number read level text) (line_no_property number level line)
      ∙ neither (length read.path == 0) (with_pair number read text) (with_declaration number read level text)
      ∙ ap (λ b. if b then with_after_line number read level (after_word text) else with_node_line number read level text) (line_is_node number level line)
      ∙ ap (λ r. r >>= (λ d. with_declared number read level d)) (line_declares number level line (word_on read level) is)
      ∙ ap (λ why. unless_refused number why (grown read level (declares line))) (refused_not taken)

-- a line of an after-body
class_is : (number : ℕ) (t : Nodes) (o : Option Opened) → TakesAfter t o → class_of number t o ≡ Ok (node_of_opened o)
class_is number t None h = absurd h
class_is number t (Some o) h =
    ap (λ w. if is_class w && is_none (after_of t o.node) then Ok o.node else Err (BadLine number)) h.0
    ∙ ap (λ b. if b then Ok o.node else Err (BadLine number)) (none_at (node_at t o.node) h.1) where
      none_at : (x : Option Node) → may_get_after_or x ≡ true → is_none (after_or x) ≡ true
      none_at None e = absurd (cc)
      none_at (Some node) e = front (is_none node.after) (takes_after node.kind node.role) e where
        front : (b c : Bool) → (b && c) ≡ true → b ≡ true
        front true c d = refl
        front false c d = absurd (cc)

module _ (number level : ℕ) (read : LinesRead) (line : AfterLine) (fits : level ≤ length read.path) (is : IsAfterLine line) (takes : TakesAfter read.tree (above read.path level)) where
  abbrev class_node : ℕ
  class_node = node_of_opened (above read.path level)

  after_taken : after_refusal read.tree class_node (after_body class_node) ≡ None → with_line number read (after_text level line) ≡ Ok (with_after_body read class_node (is.status, line.ending.text))
  after_taken taken =
      let text = after_text level line in
      ap (λ b. if b then Ok read else with_words number read text) (after_says level line)
      ∙ ap (λ r. r >>= (λ l. with_words_on number read l text)) (after_level level line number (length read.path) fits)
      ∙ ap (λ b. if (length read.path == 0) && b then with_pair number read text else with_declaration number read level text) (after_no_property level line)
      ∙ neither (length read.path == 0) (with_pair number read text) (with_declaration number read level text)
      ∙ ap (λ b. if b then with_after_line number read level (after_word text) else with_node_line number read level text) (after_is_after level line)
      ∙ ap (λ rest. with_after_line number read level rest) (after_behind level line)
      ∙ ap (λ r. r >>= (λ n. after_said number (drop 1 (behind level line)) >>= (λ said. given_after_body number read n said))) (class_is number read.tree (above read.path level) takes)
      ∙ ap (λ r. r >>= (λ said. given_after_body number read class_node said)) (after_back level line number is)
      ∙ ap (λ why. unless_refused number why (with_after_body read class_node (is.status, line.ending.text))) taken

  -- it makes what the line means
  after_made : made_of (with_after_body read class_node (is.status, line.ending.text)) ≡ with_after_item (made_of read) class_node line
  after_made = ap (λ s. with_afters (read.afters ++ option_to_list (option_map (λ status. ending (after_body class_node) 0 None 0 status line.ending.text) s))) (sym is.ends) where
    with_afters : List Script → Made
    with_afters l = record { tree = with_after read.tree class_node (after_body class_node); scripts = read.scripts; afters = l; properties = read.properties }

-- the nodes that are fronts on the path so far
pub above_front : (level n : ℕ) (path : List Opened) → level ≤ n → above (take n path) level ≡ above path level
above_front zero n path h = refl
above_front (suc l) n path h = get_front l n path (omega (arith, h)) where
  get_front : (l n : ℕ) (path : List Opened) → l < n → slice_get (take n path) l ≡ slice_get path l
  get_front l zero path h = absurd (omega (arith, h))
  get_front l (suc n) [] h = refl
  get_front zero (suc n) (x ∷ path) h = refl
  get_front (suc l) (suc n) (x ∷ path) h = get_front l n path (omega (arith, h))

-- places are fronts: they are the front of the path
record AreOpen (places path : List Opened) : Type 0 where
  pub fits : length places ≤ length path
  pub front : take (length places) path ≡ places

open_above : (places path : List Opened) (level : ℕ) → AreOpen places path → level ≤ length places → above path level ≡ above places level
open_above places path level fronts h = sym (above_front level (length places) path h) ∙ ap (λ p. above p level) fronts.front

open_next : (places : List Opened) (o : Opened) → AreOpen (places ++ o ∷ []) (places ++ o ∷ [])
open_next places o = record { fits = omega arith; front = take_whole (places ++ o ∷ []) } where
  take_whole : (xs : List Opened) → take (length xs) xs ≡ xs
  take_whole [] = refl
  take_whole (x ∷ xs) = ap (λ l. x ∷ l) (take_whole xs)

-- those further out stay fronts
open_before : (places more path : List Opened) → AreOpen (places ++ more) path → AreOpen places path
open_before places more path fronts =
    let all = length-append places more in
    record {
      fits = omega (arith, all, fronts.fits);
      front = shorter places more path fronts.front;
    } where
      shorter : (places more path : List Opened) → take (length (places ++ more)) path ≡ places ++ more → take (length places) path ≡ places
      shorter [] more path e = refl
      shorter (x ∷ places) more [] e = absurd (cc)
      shorter (x ∷ places) more (y ∷ path) e =
          let parts : (y ≡ x) × (take (length (places ++ more)) path ≡ places ++ more) = (cc, cc) in
          ap (λ z. z ∷ take (length places) path) parts.0 ∙ ap (λ l. x ∷ l) (shorter places more path parts.1)

-- items are read, and what follows them is read on from there
record ItemsRead (number : ℕ) (read : LinesRead) (made : Made) (places : List Opened) (items : Items) (rest : List Line) : Type 0 where
  pub next : ℕ
  pub got : LinesRead
  pub goes_on : goes number read (lines_of_items (length places) items ++ rest) ≡ goes next got rest
  pub made_is : made_of got ≡ with_items made places items
  pub limit_is : got.limit ≡ read.limit
  pub still : AreOpen places got.path

module _ (final : Nodes) (tree : IsTree final) (short : AllByRecursion (λ (node : Node). IsShortId node.id) final.nodes) where
  items_back : (items : Items) (number : ℕ) (read : LinesRead) (made : Made) (places : List Opened) (rest : List Line) → made_of read ≡ made → size final ≤ read.limit + 1 → AreOpen places read.path
      → IsCounted made → Extends (with_items made places items).tree final → AreItems made places items → ItemsRead number read made places items rest
  items_back NoMore number read made places rest same few fronts counted more are = record {
    next = number;
    got = read;
    goes_on = refl;
    made_is = same;
    limit_is = refl;
    still = fronts;
  }
  items_back (Item before line end inside after) number read made places rest same few fronts counted more are =
      let level = length places in
      let place = innermost places in
      let at : above read.path level ≡ place = open_above places read.path level fronts (omega arith) in
      let own : Line = record { text = node_text level line; end = end } in
      let within = lines_of_items (suc level) inside in
      let behind = lines_of_items level after in
      let shape : (before ++ (own ∷ (within ++ behind))) ++ rest ≡ before ++ (own ∷ (within ++ (behind ++ rest))) =
      append_assoc before (own ∷ (within ++ behind)) rest ∙ ap (λ l. before ++ (own ∷ l)) (append_assoc within behind rest) in
      let front = passed number read before (own ∷ (within ++ (behind ++ rest))) are.0 in
      let with_own = grown read level (declares line) in
      let made_own = with_item made place line in
      let inner = in_item made places line in
      let made_within = with_items made_own inner inside in
      let more_within : Extends made_within.tree final = extends_then made_within.tree _ final (extends_items after made_within places are.3) more in
      let more_own : Extends made_own.tree final = extends_then made_own.tree made_within.tree final (extends_items inside made_own inner are.2) more_within in
      let is : IsNodeLine (word_of_opened (above read.path level)) line = subst (λ (p : Option Opened). IsNodeLine (word_of_opened p) line) (sym at) are.1 in
      let taken : IsTaken read.limit (made_of read) (above read.path level) line =
      subst (λ (p : Option Opened). IsTaken read.limit (made_of read) p line) (sym at)
      (subst (λ (q : Made). IsTaken read.limit q place line) (sym same) (taken_item read.limit made place line final counted are.1.name more_own tree short few)) in
      let step : goes front.0 read (own ∷ (within ++ (behind ++ rest))) ≡ goes (front.0 + 1) with_own (within ++ (behind ++ rest)) =
      ap (λ r. r >>= (λ x. goes (front.0 + 1) x (within ++ (behind ++ rest)))) (line_taken front.0 level read line fronts.fits is taken) in
      let made_now : made_of with_own ≡ made_own = ap (λ q. with_item q (above read.path level) line) same ∙ ap (λ p. with_item made p line) at in
      let path_now : with_own.path ≡ inner = ap (λ p. p ++ record { node = size read.tree; word = line.word } ∷ []) fronts.front ∙ ap (λ q. in_item q places line) same in
      let opened : Opened = record { node = size made.tree; word = line.word } in
      let open_now : AreOpen inner with_own.path = subst (λ (p : List Opened). AreOpen inner p) (sym path_now) (open_next places opened) in
      let deeper : suc level ≡ length inner = let all = length-append places (opened ∷ []) in omega (arith, all) in
      let first = items_back inside (front.0 + 1) with_own made_own inner (behind ++ rest) made_now few open_now (counted_item made place line counted) more_within are.2 in
      let still_few : size final ≤ first.got.limit + 1 = subst (λ (n : ℕ). size final ≤ n + 1) (sym first.limit_is) few in
      let second = items_back after first.next first.got made_within places rest first.made_is still_few (open_before places (opened ∷ []) first.got.path first.still)
      (counted_items inside made_own inner (counted_item made place line counted)) more are.3 in
      record {
        next = second.next;
        got = second.got;
        goes_on = ap (goes number read) shape ∙ front.1 ∙ step
            ∙ ap (λ l. goes (front.0 + 1) with_own (lines_of_items l inside ++ (behind ++ rest))) deeper ∙ first.goes_on ∙ second.goes_on;
        made_is = second.made_is;
        limit_is = second.limit_is ∙ first.limit_is;
        still = second.still;
      }
  items_back (AfterItem before level line end after) number read made places rest same few fronts counted more are =
      let n = node_of_opened (above places level) in
      let at : above read.path level ≡ above places level = open_above places read.path level fronts are.1 in
      let own : Line = record { text = after_text level line; end = end } in
      let behind = lines_of_items (length places) after in
      let front = passed number read before (own ∷ (behind ++ rest)) are.0 in
      let given = with_after_item made n line in
      let more_given : Extends given.tree final = extends_then given.tree _ final (extends_items after given places are.4) more in
      let taken : after_refusal made.tree n (after_body n) ≡ None = taken_given made.tree final n (after_body n) (may_get made.tree (above places level) are.2) more_given tree in
      let fits : level ≤ length read.path = let inside = are.1 in omega (arith, inside, fronts.fits) in
      let takes : TakesAfter read.tree (above read.path level) =
      subst (λ (o : Option Opened). TakesAfter read.tree o) (sym at) (subst (λ (q : Made). TakesAfter q.tree (above places level)) (sym same) are.2) in
      let refuses_not : after_refusal read.tree (node_of_opened (above read.path level)) (after_body (node_of_opened (above read.path level))) ≡ None =
      ap (λ o. after_refusal read.tree (node_of_opened o) (after_body (node_of_opened o))) at ∙ ap (λ (q : Made). after_refusal q.tree n (after_body n)) same ∙ taken in
      let with_own = with_after_body read (node_of_opened (above read.path level)) (are.3.status, line.ending.text) in
      let step : goes front.0 read (own ∷ (behind ++ rest)) ≡ goes (front.0 + 1) with_own (behind ++ rest) =
      ap (λ r. r >>= (λ x. goes (front.0 + 1) x (behind ++ rest))) (after_taken front.0 level read line fits are.3 takes refuses_not) in
      let made_now : made_of with_own ≡ given =
      after_made front.0 level read line fits are.3 takes ∙ ap (λ o. with_after_item (made_of read) (node_of_opened o) line) at ∙ ap (λ q. with_after_item q n line) same in
      let second = items_back after (front.0 + 1) with_own given places rest made_now few fronts (counted_after made n line counted) more are.4 in
      record {
        next = second.next;
        got = second.got;
        goes_on = ap (goes number read) (append_assoc before (own ∷ behind) rest) ∙ front.1 ∙ step ∙ second.goes_on;
        made_is = second.made_is;
        limit_is = second.limit_is;
        still = second.still;
      }

-- the lines of properties, before the first engine
abbrev before_engines : ℕ → Parameters → LinesRead
before_engines limit params = with_properties (no_lines limit) params

property_read : (limit number : ℕ) (params : Parameters) (line : PropertyLine) → IsProperty line.property
    → with_line number (before_engines limit params) (property_text line.property) ≡ Ok (before_engines limit (said_to params line.property))
property_read limit number params line is =
    let text = property_text line.property in
    let read = before_engines limit params in
    ap (λ b. if b then Ok read else with_words number read text) (property_says line.property)
    ∙ ap (λ r. r >>= (λ l. with_words_on number read l text)) (property_level line.property number)
    ∙ ap (λ b. if b then with_pair number read text else with_declaration number read 0 text) (property_is line.property)
    ∙ ap (λ r. r >>= (λ p. Ok (before_engines limit p))) (property_back line.property number params is)

properties_back : (limit number : ℕ) (params : Parameters) (properties : List PropertyLine) (rest : List Line) → AllByRecursion (λ (line : PropertyLine). AllByRecursion SaysNothing line.before × IsProperty line.property) properties
    → (n : ℕ) × (goes number (before_engines limit params) (lines_of_properties properties ++ rest) ≡ goes n (before_engines limit (all_said_to params properties)) rest)
properties_back limit number params [] rest h = (number, refl)
properties_back limit number params (line ∷ more) rest h =
    let own : Line = record { text = property_text line.property; end = line.end } in
    let behind = lines_of_properties more ++ rest in
    let front = passed number (before_engines limit params) line.before (own ∷ behind) h.0.0 in
    let next = properties_back limit (front.0 + 1) (said_to params line.property) more rest h.1 in (
      next.0,
      ap (goes number (before_engines limit params)) (append_assoc line.before (own ∷ lines_of_properties more) rest) ∙ front.1
          ∙ ap (λ r. r >>= (λ x. goes (front.0 + 1) x behind)) (property_read limit front.0 params line h.0.1) ∙ next.1,
    )

suite_back : (most : Option ℕ) (written : Written) → IsWritten most written → suite_of most (text_of_written written) ≡ Ok (meant written)
suite_back most written is =
    let limit = node_limit most in
    let params = all_said_to parameters.nothing_said written.properties in
    let front = properties_back limit 1 parameters.nothing_said written.properties (lines_of_items 0 written.engines ++ written.after) is.properties in
    let made = with_items (nothing_made params) [] written.engines in
    let items = items_back made.tree is.tree is.ids written.engines front.0 (before_engines limit params) (nothing_made params) [] written.after refl is.few (record { fits = omega arith; front = refl }) refl (extends_self made.tree) is.items in
    let end = passed items.next items.got written.after [] is.after in
    suite_small most (text_of_written written) is.short
    ∙ ap (λ ls. suite_from 1 (no_lines limit) ls >>= (λ read. Ok (parts_of read))) (lines_back (lines_of_written written) is.lines)
    ∙ ap (λ r. r >>= (λ read. Ok (parts_of read))) (front.1 ∙ items.goes_on ∙ ap (goes items.next items.got) (sym (append-nil written.after)) ∙ end.1)
    ∙ ap (λ m. Ok (suite_made m)) items.made_is

-- what gives the suite of a text gives the one that the text is written for
pub reads_back : (most : Option ℕ) (result : Result Suite SuiteFault) (text : List ℕ) → Gives suite_parts result (suite_of most text) → (parts : SuiteParts) → IsSuite most text parts → Gives suite_parts result (Ok parts)
reads_back most result text gives parts is =
    subst (Gives suite_parts result) (ap (suite_of most) is.text_is ∙ suite_back most is.written is.is_written ∙ ap Ok (sym is.parts_are)) gives

-- and so for bytes that are a text, behind a byte order mark or none
pub reads_bytes_back : (most : Option ℕ) (result : Result Suite SuiteFault) (bytes : List ℕ) → Gives suite_parts result (suite_read most bytes) → IsUtf8 bytes → length bytes ≤ byte_limit most → (parts : SuiteParts)
    → IsSuite most (without_mark bytes) parts → Gives suite_parts result (Ok parts)
reads_bytes_back most result bytes gives text few parts is =
    let small : nat_lt (byte_limit most) (length bytes) ≡ false = le-ltb (byte_limit most) (length bytes) few in
    reads_back most result (without_mark bytes) (subst (Gives suite_parts result) (read_text most bytes small text) gives) parts is
