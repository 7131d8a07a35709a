-- Lines that are read are those of items that may be written.
use borrow.Author.Tests.{tests}
use Rattle.std.proofs.Common.{rules, ◌≡◌, ℕ, zero, suc, ◌+◌, ◌-◌, ◌<◌, ◌≤◌, ◌||◌, ◌&&◌, ◌⊎◌, inl, inr, List, [], ◌∷◌, ◌++◌, length, take, Bool, true, false, cond, nat_lt, Option, Some, None, option_map, option_to_list, Ok, Err, refl, ap, ap₂, sym, subst, ◌∙◌, arith, length-append, append-nil}
use Rattle.std.specs.Prelude.{◌==◌, if◌then◌else◌}
use Rattle.std.specs.List.{AllByRecursion}
use Rattle.std.specs.Option.{is_some, is_none}
use Rattle.std.proofs.lemmas.Bool.{and_parts, false≢true}
use Rattle.std.proofs.lemmas.Bool.Decides.{Decides-eqb}
use Rattle.std.proofs.lemmas.List.{append_assoc}
use Rattle.config_params.specs.Parameters.{Parameters}
use Rattle.descriptor.specs.declared.fault.TreeFault.{TreeFault}
use Rattle.descriptor.specs.declared.fault.TreeFault.TheVariants.{OverLimit}
use Rattle.descriptor.specs.declared.node.Node.{Node}
use Rattle.descriptor.specs.Bodies.{given_after_at, with_after, may_get_after_at}
use Rattle.descriptor.specs.Nodes.{Nodes, size, after_of}
use Rattle.descriptor.specs.Refusals as trees
use Rattle.descriptor.specs.Refusals.{after_refusal}
use Rattle.descriptor.proofs.AfterBodies.{taken_after}
use Rattle.unique_id.specs.Answers.{◌>>=◌}
use Rattle.unique_id.specs.Spelling.{spelling}
use Rattle.unique_id.specs.declared.fault.UidFault.TheVariants.{EmptyPart, TooLong}
use Rattle.unique_id.specs.declared.unique_id.Segment.{Segment}
use Rattle.suite_words.specs.declared.script.Script.{Script}
use Rattle.suite_text.specs.declared.suite.builder.Opened.{Opened}
use Rattle.suite_words.specs.declared.suite.fault.SuiteFault.TheVariants.{BadLine}
use Rattle.suite_words.specs.declared.suite.words.Word.{Word}
use Rattle.suite_words.specs.declared.suite.words.Word.TheVariants.{Engine, Class, Test, Factory, Dyn}
use Rattle.suite_words.specs.Reading.After.{is_after, after_said, after_body}
use Rattle.suite_text.specs.Reading.After.{is_class, class_of, with_after_body, given_after_body, with_after_line}
use Rattle.suite_words.specs.Reading.Lines.{says_nothing, begins_with_sign, without_front, first_word, after_word, level_of}
use Rattle.suite_words.specs.Reading.Nodes.{segment_kind, value_declared, id_at}
use Rattle.suite_text.specs.Reading.Nodes.{place_on, parent_on, word_on, node_on, is_over_limit_on, refusal_on, grown, unless_refused}
use Rattle.suite_text.specs.Reading.Parts.{Made, LinesRead, no_lines, made_of, above, word_of_opened, node_of_opened}
use Rattle.suite_words.specs.Reading.Properties.{is_property, with_property}
use Rattle.suite_words.specs.Reading.Scripts.{ending}
use Rattle.suite_words.specs.Reading.Words.{Declaration, declared_as}
use Rattle.suite_text.specs.Suites.{with_declared, with_declaration, with_words, with_words_on, is_property_in, with_pair, with_properties, with_line, suite_from}
use Rattle.suite_words.specs.Words.{is_space}
use Rattle.suite_text.specs.Writing.AfterLines.{AfterLine, after_text, IsAfterLine, with_after_item, TakesAfter}
use Rattle.suite_text.specs.Writing.Lines.{spaces, NodeLine, node_text, declares, IsNodeLine}
use Rattle.suite_text.specs.Writing.Properties.{Property, property_text, IsProperty, said_to}
use Rattle.suite_text.specs.Writing.Suites.{Line, LineEnd, SaysNothing, Items, NoMore, Item, AfterItem, innermost, lines_of_items, with_item, in_item, with_items, nothing_made, PropertyLine, lines_of_properties, all_said_to, AreItems, IsShortId}
use Rattle.suite_text.proofs.Writing.Cuts.{indent, front_of}
use Rattle.suite_text.proofs.Writing.NodeLines.{level_so, node_so, after_so}
use Rattle.suite_text.proofs.Writing.Said.{ok_then, ok_same, zero_empty}
use Rattle.suite_text.proofs.Writing.Sets.{property_so}
use Rattle.suite_text.proofs.Writing.Suites.{above_front}
use Rattle.suite_text.proofs.Writing.Texts.{texts_of}
use Rattle.suite_text.proofs.Writing.Words.{are_spaces}

-- A line that says nothing.
abbrev SaysSo : List ℕ → Type 0
SaysSo text = ((rest : List ℕ) × (text ≡ 35 ∷ rest)) ⊎ AllByRecursion (λ byte. is_space byte ≡ true) text

sign_so : (text : List ℕ) → begins_with_sign text ≡ true → (rest : List ℕ) × (text ≡ 35 ∷ rest)
sign_so [] e = absurd (cc)
sign_so (b ∷ bs) e = (bs, ap (λ x. x ∷ bs) ((Decides-eqb b 35).0 e))

blank_so : (text : List ℕ) → (length (without_front text) == 0) ≡ true → AllByRecursion (λ byte. is_space byte ≡ true) text
blank_so text e =
    let none : without_front text ≡ [] = zero_empty (without_front text) e in
    subst (λ (l : List ℕ). AllByRecursion (λ byte. is_space byte ≡ true) l) (sym (front_of text ∙ ap (λ l. spaces (indent text) ++ l) none ∙ append-nil (spaces (indent text)))) (are_spaces (indent text))

says_so : (text : List ℕ) → says_nothing text ≡ true → SaysSo text
says_so text e = by (begins_with_sign text) refl e
  where
    by : (b : Bool) → begins_with_sign text ≡ b → (b || (length (without_front text) == 0)) ≡ true → SaysSo text
    by true sign e = inl (sign_so text sign)
    by false sign e = inr (blank_so text e)

-- What a line that is read has made.
data Outcome (read next : LinesRead) (text : List ℕ) : Type 0 where
  Passed : SaysSo text → next ≡ read → Outcome read next text
  PropertyRead : length read.path ≡ 0 → (p : Property) → IsProperty p → text ≡ property_text p → next ≡ with_properties read (said_to read.properties p) → Outcome read next text
  AfterRead : (level : ℕ) → level ≤ length read.path → (l : AfterLine) → text ≡ after_text level l → (is : IsAfterLine l) → TakesAfter read.tree (above read.path level)
      → next ≡ with_after_body read (node_of_opened (above read.path level)) (is.status, l.ending.text) → Outcome read next text
  NodeRead : (level : ℕ) → level ≤ length read.path → (l : NodeLine) → text ≡ node_text level l → IsNodeLine (word_of_opened (above read.path level)) l → refusal_on read level (declares l) ≡ None
      → next ≡ grown read level (declares l) → Outcome read next text

unrefused : (number : ℕ) (why : Option TreeFault) (made next : LinesRead) → unless_refused number why made ≡ Ok next → (why ≡ None) × (next ≡ made)
unrefused number None made next e = (refl, cc)
unrefused number (Some why) made next e = absurd (cc)

class_word : (word : Word) → is_class word ≡ true → word ≡ Class
class_word Class e = refl
class_word Engine e = absurd (false≢true e)
class_word Test e = absurd (false≢true e)
class_word Factory e = absurd (false≢true e)
class_word Dyn e = absurd (false≢true e)

class_is : (number : ℕ) (t : Nodes) (o : Option Opened) (n : ℕ) → class_of number t o ≡ Ok n → (x : Opened) × (o ≡ Some x) × (x.word ≡ Class) × (n ≡ x.node)
class_is number t None n e = absurd (cc)
class_is number t (Some x) n e = by (is_class x.word && is_none (after_of t x.node)) refl e
  where
    by : (b : Bool) → (is_class x.word && is_none (after_of t x.node)) ≡ b → (if b then Ok x.node else Err (BadLine number)) ≡ Ok n → (y : Opened) × (Some x ≡ Some y) × (y.word ≡ Class) × (n ≡ y.node)
    by true both e = (x, refl, class_word x.word (and_parts (is_class x.word) (is_none (after_of t x.node)) both).0, cc)
    by false both e = absurd (cc)

after_outcome : (number : ℕ) (read next : LinesRead) (text : List ℕ) (level : ℕ) → indent text ≡ level + level → level ≤ length read.path → is_after text ≡ true → with_after_line number read level (after_word text) ≡ Ok next → Outcome read next text
after_outcome number read next text level at fits is e =
    let class = ok_then (class_of number read.tree (above read.path level)) (λ n. after_said number (after_word text) >>= (λ said. given_after_body number read n said)) next e in
    let n = class.0 in
    let said = ok_then (after_said number (after_word text)) (λ s. given_after_body number read n s) next class.2 in
    let taken = unrefused number (after_refusal read.tree n (after_body n)) (with_after_body read n said.0) next said.2 in
    let line = after_so number level text said.0 at is said.1 in
    let own = class_is number read.tree (above read.path level) n class.1 in
    let same : n ≡ node_of_opened (above read.path level) = own.3 ∙ sym (ap node_of_opened own.1) in
    let may : may_get_after_at read.tree own.0.node ≡ true = ap (may_get_after_at read.tree) (sym own.3) ∙ (taken_after read.tree n (after_body n) taken.0).1 in
    AfterRead level fits line.after line.text_is line.is (subst (TakesAfter read.tree) (sym own.1) (own.2, may)) (taken.1 ∙ ap₂ (λ m s. with_after_body read m s) same line.said_is)

node_outcome : (number : ℕ) (read next : LinesRead) (text : List ℕ) (level : ℕ) → indent text ≡ level + level → level ≤ length read.path
    → (declared_as number (word_on read level) (first_word text) (after_word text) >>= (λ d. with_declared number read level d)) ≡ Ok next → Outcome read next text
node_outcome number read next text level at fits e =
    let declared = ok_then (declared_as number (word_on read level) (first_word text) (after_word text)) (λ d. with_declared number read level d) next e in
    let line = node_so number level (word_on read level) text declared.0 at declared.1 in
    let taken = unrefused number (refusal_on read level declared.0) (grown read level declared.0) next declared.2 in
    NodeRead level fits line.node line.text_is line.is (ap (refusal_on read level) (sym line.declares_is) ∙ taken.0) (taken.1 ∙ ap (grown read level) line.declares_is)

none_deep : (n level : ℕ) → n ≡ 0 → level ≤ n → level + level ≡ 0
none_deep n level none h = omega (arith, none, h)

property_outcome : (number : ℕ) (read next : LinesRead) (text : List ℕ) (level : ℕ) → indent text ≡ level + level → level ≤ length read.path → is_property_in read text ≡ true → with_pair number read text ≡ Ok next → Outcome read next text
property_outcome number read next text level at fits is e =
    let both = and_parts (length read.path == 0) (is_property text) is in
    let none : length read.path ≡ 0 = (Decides-eqb (length read.path) 0).0 both.0 in
    let set = ok_then (with_property number read.properties text) (λ properties. Ok (with_properties read properties)) next e in
    let line = property_so number read.properties set.0 text (at ∙ none_deep (length read.path) level none fits) both.1 set.1 in
    PropertyRead none line.property line.is line.text_is (ok_same _ (with_properties read set.0) next refl set.2 ∙ ap (with_properties read) line.next_is)

declaration_by : (number : ℕ) (read next : LinesRead) (text : List ℕ) (level : ℕ) → indent text ≡ level + level → level ≤ length read.path → (b : Bool) → is_after text ≡ b
    → (if b then with_after_line number read level (after_word text) else (declared_as number (word_on read level) (first_word text) (after_word text) >>= (λ d. with_declared number read level d))) ≡ Ok next → Outcome read next text
declaration_by number read next text level at fits true is e = after_outcome number read next text level at fits is e
declaration_by number read next text level at fits false is e = node_outcome number read next text level at fits e

words_by : (number : ℕ) (read next : LinesRead) (text : List ℕ) (level : ℕ) → indent text ≡ level + level → level ≤ length read.path → (b : Bool) → is_property_in read text ≡ b
    → (if b then with_pair number read text else with_declaration number read level text) ≡ Ok next → Outcome read next text
words_by number read next text level at fits true is e = property_outcome number read next text level at fits is e
words_by number read next text level at fits false is e = declaration_by number read next text level at fits (is_after text) refl e

line_by : (number : ℕ) (read next : LinesRead) (text : List ℕ) (b : Bool) → says_nothing text ≡ b → (if b then Ok read else with_words number read text) ≡ Ok next → Outcome read next text
line_by number read next text true says e = Passed (says_so text says) (ok_same _ read next refl e)
line_by number read next text false says e =
    let level = ok_then (level_of number (length read.path) text) (λ l. with_words_on number read l text) next e in
    let at = level_so number (length read.path) level.0 text level.1 in
    words_by number read next text level.0 at.0 at.1 (is_property_in read text) refl level.2

outcome : (number : ℕ) (read next : LinesRead) (text : List ℕ) → with_line number read text ≡ Ok next → Outcome read next text
outcome number read next text e = line_by number read next text (says_nothing text) refl e

-- How many nodes there may be stays as it is.
limit_kept : (read next : LinesRead) (text : List ℕ) → Outcome read next text → next.limit ≡ read.limit
limit_kept read next text (Passed says same) = ap (λ (r : LinesRead). r.limit) same
limit_kept read next text (PropertyRead none p is text_is same) = ap (λ (r : LinesRead). r.limit) same
limit_kept read next text (AfterRead level fits l text_is is takes same) = ap (λ (r : LinesRead). r.limit) same
limit_kept read next text (NodeRead level fits l text_is is unrefused same) = ap (λ (r : LinesRead). r.limit) same

pub limit_same : (ls : List (List ℕ)) (number : ℕ) (read got : LinesRead) → suite_from number read ls ≡ Ok got → got.limit ≡ read.limit
limit_same [] number read got e = ap (λ (r : LinesRead). r.limit) (ok_same _ read got refl e)
limit_same (line ∷ more) number read got e =
    let one = ok_then (with_line number read line) (λ next. suite_from (number + 1) next more) got e in
    limit_same more (number + 1) one.0 got one.2 ∙ limit_kept read one.0 line (outcome number read one.0 line one.1)

-- Unique ids within their limits.
abbrev pub AreShort : List Node → Type 0
AreShort nodes = AllByRecursion (λ node. IsShortId node.id) nodes

short_more : (nodes : List Node) (node : Node) → AreShort nodes → IsShortId node.id → AreShort (nodes ++ node ∷ [])
short_more [] node all own = (own, tt)
short_more (x ∷ nodes) node all own = (all.0, short_more nodes node all.1 own)

short_given : (b i : ℕ) (nodes : List Node) → AreShort nodes → AreShort (given_after_at b i nodes)
short_given b i [] all = tt
short_given b zero (x ∷ nodes) all = all
short_given b (suc i) (x ∷ nodes) all = (all.0, short_given b i nodes all.1)

short_after : (t : Nodes) (n b : ℕ) → AreShort t.nodes → AreShort (with_after t n b).nodes
short_after t zero b all = all
short_after t (suc i) b all = short_given b i t.nodes all

not_less : (a b : ℕ) → nat_lt a b ≡ false → b ≤ a
not_less a b e = search (rules, tests)

within_by : (segments : List Segment) (last : Segment) (a b c d : Bool) → nat_lt 64 (length segments + 1) ≡ c → nat_lt 1024 (length (spelling (segments ++ last ∷ []))) ≡ d
    → is_some (cond a (Some (EmptyPart 0)) (cond b (Some (EmptyPart 1)) (cond (c || d) (Some TooLong) None))) ≡ false → IsShortId (segments ++ last ∷ [])
within_by segments last true b c d one two e = absurd (cc)
within_by segments last false true c d one two e = absurd (cc)
within_by segments last false false true d one two e = absurd (cc)
within_by segments last false false false true one two e = absurd (cc)
within_by segments last false false false false one two e =
    let all = length-append segments (last ∷ []) in
    let many = not_less 64 (length segments + 1) one in
    (omega (arith, all, many), not_less 1024 (length (spelling (segments ++ last ∷ []))) two)

-- of a node that is not refused
not_over : (over : Bool) (fault : TreeFault) (rest : Option TreeFault) → cond over (Some fault) rest ≡ None → over ≡ false
not_over true fault rest e = absurd (cc)
not_over false fault rest e = refl

short_node : (read : LinesRead) (level : ℕ) (d : Declaration) → refusal_on read level d ≡ None → IsShortId (node_on read level d).id
short_node read level d none =
    let kind = segment_kind (word_on read level) d.word in
    let value = value_declared d (place_on read level) in
    within_by (id_at read.tree (parent_on read level)) (record { kind = kind; value = value }) (length kind == 0) (length value == 0) _ _ refl refl
    (not_over (is_over_limit_on read level d) OverLimit (trees.refusal read.limit read.tree (parent_on read level) (node_on read level d)) none)

-- Items on each level of a path, the deepest first.
abbrev Stack : ℕ → Type 0
Stack zero = Items
Stack (suc d) = Items × Stack d

abbrev lines_of_stack : (d : ℕ) → Stack d → List Line
lines_of_stack zero items = lines_of_items 0 items
lines_of_stack (suc d) stack = lines_of_items (suc d) stack.0 ++ lines_of_stack d stack.1

abbrev with_stack : Made → List Opened → (d : ℕ) → Stack d → Made
with_stack made path zero items = with_items made [] items
with_stack made path (suc d) stack = with_stack (with_items made (take (suc d) path) stack.0) path d stack.1

abbrev AreStack : Made → List Opened → (d : ℕ) → Stack d → Type 0
AreStack made path zero items = AreItems made [] items
AreStack made path (suc d) stack = AreItems made (take (suc d) path) stack.0 × AreStack (with_items made (take (suc d) path) stack.0) path d stack.1

-- no more of a path is looked at than so many levels
take_less : (d : ℕ) (p q : List Opened) → take (suc d) p ≡ take (suc d) q → take d p ≡ take d q
take_less zero p q e = refl
take_less (suc d) [] [] e = refl
take_less (suc d) [] (y ∷ q) e = absurd (cc)
take_less (suc d) (x ∷ p) [] e = absurd (cc)
take_less (suc d) (x ∷ p) (y ∷ q) e =
    let parts : (x ≡ y) × (take (suc d) p ≡ take (suc d) q) = (cc, cc) in
    ap₂ (λ z l. z ∷ l) parts.0 (take_less d p q parts.1)

with_same : (made : Made) (p q : List Opened) (d : ℕ) (stack : Stack d) → take d p ≡ take d q → with_stack made p d stack ≡ with_stack made q d stack
with_same made p q zero stack e = refl
with_same made p q (suc d) stack e =
    ap (λ places. with_stack (with_items made places stack.0) p d stack.1) e ∙ with_same (with_items made (take (suc d) q) stack.0) p q d stack.1 (take_less d p q e)

are_same : (made : Made) (p q : List Opened) (d : ℕ) (stack : Stack d) → take d p ≡ take d q → AreStack made p d stack → AreStack made q d stack
are_same made p q zero stack e are = are
are_same made p q (suc d) stack e are = (
  subst (λ (places : List Opened). AreItems made places stack.0) e are.0,
  are_same (with_items made (take (suc d) q) stack.0) p q d stack.1 (take_less d p q e) (subst (λ (places : List Opened). AreStack (with_items made places stack.0) p d stack.1) e are.1),
)

-- nothing on any level
no_stack : (d : ℕ) → Stack d
no_stack zero = NoMore
no_stack (suc d) = (NoMore, no_stack d)

no_lines_in : (d : ℕ) → lines_of_stack d (no_stack d) ≡ []
unfolding no_stack
no_lines_in zero = refl
no_lines_in (suc d) = no_lines_in d

no_with : (made : Made) (path : List Opened) (d : ℕ) → with_stack made path d (no_stack d) ≡ made
unfolding no_stack
no_with made path zero = refl
no_with made path (suc d) = no_with made path d

no_are : (made : Made) (path : List Opened) (d : ℕ) → AreStack made path d (no_stack d)
unfolding no_stack
no_are made path zero = tt
no_are made path (suc d) = (tt, no_are made path d)

-- an after-body's line on the deepest level
module _ (made : Made) (path : List Opened) (before : List Line) (level : ℕ) (line : AfterLine) (end : LineEnd) where
  with_line_after : (d : ℕ) → Stack d → Stack d
  with_line_after zero stack = AfterItem before level line end stack
  with_line_after (suc d) stack = (AfterItem before level line end stack.0, stack.1)

  abbrev own_after : Line
  own_after = record { text = after_text level line; end = end }

  after_lines : (d : ℕ) (stack : Stack d) → lines_of_stack d (with_line_after d stack) ≡ before ++ (own_after ∷ lines_of_stack d stack)
  unfolding with_line_after
  after_lines zero stack = refl
  after_lines (suc d) stack = append_assoc before (own_after ∷ lines_of_items (suc d) stack.0) (lines_of_stack d stack.1)

  after_with : (d : ℕ) (stack : Stack d) → with_stack made path d (with_line_after d stack) ≡ with_stack (with_after_item made (node_of_opened (above (take d path) level)) line) path d stack
  unfolding with_line_after
  after_with zero stack = refl
  after_with (suc d) stack = refl

  after_are : (d : ℕ) (stack : Stack d) → AllByRecursion SaysNothing before → level ≤ length (take d path) → TakesAfter made.tree (above (take d path) level) → IsAfterLine line
      → AreStack (with_after_item made (node_of_opened (above (take d path) level)) line) path d stack → AreStack made path d (with_line_after d stack)
  unfolding with_line_after
  after_are zero stack nothing fits takes is are = (nothing, fits, takes, is, are)
  after_are (suc d) stack nothing fits takes is are = ((nothing, fits, takes, is, are.0), are.1)

-- a node's line on the deepest of these levels
module _ (made : Made) (path : List Opened) (before : List Line) (line : NodeLine) (end : LineEnd) (inside : Items) where
  with_line_node : (d : ℕ) → Stack d → Stack d
  with_line_node zero stack = Item before line end inside stack
  with_line_node (suc d) stack = (Item before line end inside stack.0, stack.1)

  abbrev own_node : ℕ → Line
  own_node d = record { text = node_text d line; end = end }

  node_lines : (d : ℕ) (stack : Stack d) → lines_of_stack d (with_line_node d stack) ≡ before ++ (own_node d ∷ (lines_of_items (suc d) inside ++ lines_of_stack d stack))
  unfolding with_line_node
  node_lines zero stack = refl
  node_lines (suc d) stack =
      append_assoc before (own_node (suc d) ∷ (lines_of_items (suc (suc d)) inside ++ lines_of_items (suc d) stack.0)) (lines_of_stack d stack.1)
      ∙ ap (λ l. before ++ (own_node (suc d) ∷ l)) (append_assoc (lines_of_items (suc (suc d)) inside) (lines_of_items (suc d) stack.0) (lines_of_stack d stack.1))

  abbrev made_inside : ℕ → Made
  made_inside d = with_items (with_item made (innermost (take d path)) line) (in_item made (take d path) line) inside

  node_with : (d : ℕ) (stack : Stack d) → with_stack made path d (with_line_node d stack) ≡ with_stack (made_inside d) path d stack
  unfolding with_line_node
  node_with zero stack = refl
  node_with (suc d) stack = refl

  node_are : (d : ℕ) (stack : Stack d) → AllByRecursion SaysNothing before → IsNodeLine (word_of_opened (innermost (take d path))) line
      → AreItems (with_item made (innermost (take d path)) line) (in_item made (take d path) line) inside → AreStack (made_inside d) path d stack → AreStack made path d (with_line_node d stack)
  unfolding with_line_node
  node_are zero stack nothing is within are = (nothing, is, within, are)
  node_are (suc d) stack nothing is within are = ((nothing, is, within, are.0), are.1)

-- so many levels below one
abbrev raised : ℕ → ℕ → ℕ
raised zero d = d
raised (suc k) d = suc (raised k d)

raised_is : (k d : ℕ) → raised k d ≡ k + d
raised_is zero d = omega arith
raised_is (suc k) d = let one = raised_is k d in omega (arith, one)

-- with nothing on so many deeper levels
deeper : (k d : ℕ) → Stack d → Stack (raised k d)
deeper zero d stack = stack
deeper (suc k) d stack = (NoMore, deeper k d stack)

deeper_lines : (k d : ℕ) (stack : Stack d) → lines_of_stack (raised k d) (deeper k d stack) ≡ lines_of_stack d stack
unfolding deeper
deeper_lines zero d stack = refl
deeper_lines (suc k) d stack = deeper_lines k d stack

deeper_with : (made : Made) (path : List Opened) (k d : ℕ) (stack : Stack d) → with_stack made path (raised k d) (deeper k d stack) ≡ with_stack made path d stack
unfolding deeper
deeper_with made path zero d stack = refl
deeper_with made path (suc k) d stack = deeper_with made path k d stack

deeper_are : (made : Made) (path : List Opened) (k d : ℕ) (stack : Stack d) → AreStack made path d stack → AreStack made path (raised k d) (deeper k d stack)
unfolding deeper
deeper_are made path zero d stack are = are
deeper_are made path (suc k) d stack are = (tt, deeper_are made path k d stack are)

-- Lines, behind such as say nothing, are those of such items, and of lines at the end that say nothing.
pub record Stacked (read got : LinesRead) (d : ℕ) (before ls : List Line) : Type 0 where
  pub stack : Stack d
  pub end : List Line
  pub lines_are : before ++ ls ≡ lines_of_stack d stack ++ end
  pub nothing : AllByRecursion SaysNothing end
  pub are : AreStack (made_of read) read.path d stack
  pub made_is : made_of got ≡ with_stack (made_of read) read.path d stack
  pub short : AreShort read.tree.nodes → AreShort got.tree.nodes

take_all : (path : List Opened) (n : ℕ) → length path ≤ n → take n path ≡ path
take_all [] zero h = refl
take_all [] (suc n) h = refl
take_all (x ∷ path) zero h = absurd (omega (arith, h))
take_all (x ∷ path) (suc n) h = ap (λ l. x ∷ l) (take_all path n (omega (arith, h)))

take_taken : (n : ℕ) (path : List Opened) (o : Opened) → n ≤ length path → take n (take n path ++ o ∷ []) ≡ take n path
take_taken zero path o h = refl
take_taken (suc n) [] o h = absurd (omega (arith, h))
take_taken (suc n) (x ∷ path) o h = ap (λ l. x ∷ l) (take_taken n path o (omega (arith, h)))

length_taken : (n : ℕ) (path : List Opened) → n ≤ length path → length (take n path) ≡ n
length_taken zero path h = refl
length_taken (suc n) [] h = absurd (omega (arith, h))
length_taken (suc n) (x ∷ path) h = ap suc (length_taken n path (omega (arith, h)))

-- where a line stands on the path is where it stands in the levels up to its own
above_taken : (level : ℕ) (path : List Opened) → level ≤ length path → above path level ≡ innermost (take level path)
above_taken level path h = sym (ap (above (take level path)) (length_taken level path h) ∙ above_front level level path (omega arith))

-- after a line that says nothing
nothing_stacked : (read next got : LinesRead) (d : ℕ) (before more : List Line) (line : Line) → next ≡ read → Stacked next got d (before ++ line ∷ []) more → Stacked read got d before (line ∷ more)
nothing_stacked read next got d before more line same s =
    let shape : before ++ (line ∷ more) ≡ (before ++ line ∷ []) ++ more = sym (append_assoc before (line ∷ []) more) in
    record {
      stack = s.stack;
      end = s.end;
      lines_are = shape ∙ s.lines_are;
      nothing = s.nothing;
      are = subst (λ (r : LinesRead). AreStack (made_of r) r.path d s.stack) same s.are;
      made_is = s.made_is ∙ ap (λ (r : LinesRead). with_stack (made_of r) r.path d s.stack) same;
      short = λ h. s.short (subst (λ (r : LinesRead). AreShort r.tree.nodes) (sym same) h);
    }

-- after an after-body's line
with_script : (read : LinesRead) (n : ℕ) (l : AfterLine) (is : IsAfterLine l) → made_of (with_after_body read n (is.status, l.ending.text)) ≡ with_after_item (made_of read) n l
with_script read n l is = ap (λ s. with_afters (read.afters ++ option_to_list (option_map (λ status. ending (after_body n) 0 None 0 status l.ending.text) s))) (sym is.ends) where
  with_afters : List Script → Made
  with_afters scripts = record { tree = with_after read.tree n (after_body n); scripts = read.scripts; afters = scripts; properties = read.properties }

after_stacked : (read next got : LinesRead) (d : ℕ) (before more : List Line) (level : ℕ) (l : AfterLine) (end : LineEnd) (line : Line) → line ≡ record { text = after_text level l; end = end } → AllByRecursion SaysNothing before
    → d ≡ length read.path → level ≤ length read.path → (is : IsAfterLine l) → TakesAfter read.tree (above read.path level)
    → next ≡ with_after_body read (node_of_opened (above read.path level)) (is.status, l.ending.text) → Stacked next got d [] more → Stacked read got d before (line ∷ more)
after_stacked read next got d before more level l end line text nothing deep fits is takes same s =
    let n = node_of_opened (above read.path level) in
    let whole : take d read.path ≡ read.path = take_all read.path d (omega (arith, deep)) in
    let made : made_of next ≡ with_after_item (made_of read) n l = ap made_of same ∙ with_script read n l is in
    let path : next.path ≡ read.path = ap (λ (r : LinesRead). r.path) same in
    let stack = with_line_after (made_of read) read.path before level l end d s.stack in
    let given : with_after_item (made_of read) n l ≡ with_after_item (made_of read) (node_of_opened (above (take d read.path) level)) l =
    ap (λ p. with_after_item (made_of read) (node_of_opened (above p level)) l) (sym whole) in
    let inner : AreStack (with_after_item (made_of read) (node_of_opened (above (take d read.path) level)) l) read.path d s.stack =
    subst (λ (m : Made). AreStack m read.path d s.stack) (made ∙ given) (subst (λ (p : List Opened). AreStack (made_of next) p d s.stack) path s.are) in
    record {
      stack = stack;
      end = s.end;
      lines_are = ap₂ (λ x l. before ++ (x ∷ l)) text s.lines_are
          ∙ sym (append_assoc before (own_after (made_of read) read.path before level l end ∷ lines_of_stack d s.stack) s.end)
          ∙ ap (λ l. l ++ s.end) (sym (after_lines (made_of read) read.path before level l end d s.stack));
      nothing = s.nothing;
      are = after_are (made_of read) read.path before level l end d s.stack nothing (subst (λ (p : List Opened). level ≤ length p) (sym whole) fits)
          (subst (λ (p : List Opened). TakesAfter read.tree (above p level)) (sym whole) takes) is inner;
      made_is = s.made_is ∙ ap₂ (λ m p. with_stack m p d s.stack) (made ∙ given) path ∙ sym (after_with (made_of read) read.path before level l end d s.stack);
      short = λ h. s.short (subst (λ (r : LinesRead). AreShort r.tree.nodes) (sym same) (short_after read.tree n (after_body n) h));
    }

-- after a node's line
node_stacked : (read next got : LinesRead) (k level : ℕ) (before more : List Line) (l : NodeLine) (end : LineEnd) (line : Line) → line ≡ record { text = node_text level l; end = end } → AllByRecursion SaysNothing before
    → level ≤ length read.path → IsNodeLine (word_of_opened (above read.path level)) l → refusal_on read level (declares l) ≡ None → next ≡ grown read level (declares l) → Stacked next got (suc level) [] more
    → Stacked read got (raised k level) before (line ∷ more)
node_stacked read next got k level before more l end line text nothing fits is unrefused same s =
    let made = made_of read in
    let path = read.path in
    let place : above path level ≡ innermost (take level path) = above_taken level path fits in
    let here : Opened = record { node = size read.tree; word = l.word } in
    let inside = s.stack.0 in
    let rest = s.stack.1 in
    let made_now : made_of next ≡ with_item made (innermost (take level path)) l = ap made_of same ∙ ap (λ p. with_item made p l) place in
    let path_now : next.path ≡ take level path ++ here ∷ [] = ap (λ (r : LinesRead). r.path) same in
    let long : length (take level path ++ here ∷ []) ≤ suc level = let all = length-append (take level path) (here ∷ []) in let own = length_taken level path fits in omega (arith, all, own) in
    let places : take (suc level) next.path ≡ in_item made (take level path) l = ap (take (suc level)) path_now ∙ take_all (take level path ++ here ∷ []) (suc level) long in
    let outer : take level next.path ≡ take level path = ap (take level) path_now ∙ take_taken level path here fits in
    let own = own_node made path before l end inside level in
    let within : AreItems (with_item made (innermost (take level path)) l) (in_item made (take level path) l) inside =
    subst (λ (m : Made). AreItems m (in_item made (take level path) l) inside) made_now (subst (λ (p : List Opened). AreItems (made_of next) p inside) places s.are.0) in
    let both : with_items (made_of next) (take (suc level) next.path) inside ≡ made_inside made path before l end inside level = ap₂ (λ m p. with_items m p inside) made_now places in
    let further : AreStack (made_inside made path before l end inside level) path level rest =
    subst (λ (m : Made). AreStack m path level rest) both (are_same (with_items (made_of next) (take (suc level) next.path) inside) next.path path level rest outer s.are.1) in
    let top = with_line_node made path before l end inside level rest in
    let all = lines_of_items (suc level) inside in
    record {
      stack = deeper k level top;
      end = s.end;
      lines_are = ap₂ (λ x l. before ++ (x ∷ l)) text s.lines_are
          ∙ sym (append_assoc before (own ∷ (all ++ lines_of_stack level rest)) s.end)
          ∙ ap (λ l. l ++ s.end) (sym (deeper_lines k level top ∙ node_lines made path before l end inside level rest));
      nothing = s.nothing;
      are = deeper_are made path k level top
          (node_are made path before l end inside level rest nothing (subst (λ (p : Option Opened). IsNodeLine (word_of_opened p) l) place is) within further);
      made_is = s.made_is
          ∙ with_same (with_items (made_of next) (take (suc level) next.path) inside) next.path path level rest outer
          ∙ ap (λ m. with_stack m path level rest) both
          ∙ sym (deeper_with made path k level top ∙ node_with made path before l end inside level rest);
      short = λ h. s.short (subst (λ (r : LinesRead). AreShort r.tree.nodes) (sym same) (short_more read.tree.nodes (node_on read level (declares l)) h (short_node read level (declares l) unrefused)));
    }

-- the levels between
record Between (level d : ℕ) : Type 0 where
  pub k : ℕ
  pub is : raised k level ≡ d

between : (level d : ℕ) → level ≤ d → Between level d
between level d h = let at = raised_is (d - level) level in record { k = d - level; is = omega (arith, h, at) }

says_nothing_more : (before : List Line) (line : Line) → AllByRecursion SaysNothing before → SaysNothing line → AllByRecursion SaysNothing (before ++ line ∷ [])
says_nothing_more [] line all own = (own, tt)
says_nothing_more (x ∷ before) line all own = (all.0, says_nothing_more before line all.1 own)

grown_long : (read : LinesRead) (level : ℕ) (d : Declaration) → level ≤ length read.path → suc level ≡ length (grown read level d).path
grown_long read level d h =
    let all = length-append (take level read.path) (record { node = size read.tree; word = d.word } ∷ []) in
    let own = length_taken level read.path h in
    omega (arith, all, own)

abbrev GoesOn : ℕ → List Line → LinesRead → Type 0
GoesOn number more got = (next : LinesRead) (d : ℕ) (before : List Line) → AllByRecursion SaysNothing before → d ≡ length next.path → 0 < d → suite_from (number + 1) next (texts_of more) ≡ Ok got → Stacked next got d before more

pub node_step : (number : ℕ) (read next got : LinesRead) (d level : ℕ) (before more : List Line) (line : Line) (l : NodeLine) → AllByRecursion SaysNothing before → d ≡ length read.path → level ≤ length read.path
    → line.text ≡ node_text level l → IsNodeLine (word_of_opened (above read.path level)) l → refusal_on read level (declares l) ≡ None → next ≡ grown read level (declares l)
    → suite_from (number + 1) next (texts_of more) ≡ Ok got → GoesOn number more got → Stacked read got d before (line ∷ more)
node_step number read next got d level before more line l nothing deep fits text is unrefused same e go =
    let gap = between level d (omega (arith, fits, deep)) in
    let long : suc level ≡ length next.path = grown_long read level (declares l) fits ∙ sym (ap (λ (r : LinesRead). length r.path) same) in
    subst (λ (n : ℕ). Stacked read got n before (line ∷ more)) gap.is
    (node_stacked read next got gap.k level before more l line.end line (ap (λ t. record { text = t; end = line.end }) text) nothing fits is unrefused same (go next (suc level) [] tt long (omega arith) e))

step_stacked : (number : ℕ) (read next got : LinesRead) (d : ℕ) (before more : List Line) (line : Line) → AllByRecursion SaysNothing before → d ≡ length read.path → 0 < d → Outcome read next line.text
    → suite_from (number + 1) next (texts_of more) ≡ Ok got → GoesOn number more got → Stacked read got d before (line ∷ more)
step_stacked number read next got d before more line all deep some (Passed says same) e go =
    nothing_stacked read next got d before more line same (go next d (before ++ line ∷ []) (says_nothing_more before line all says) (deep ∙ sym (ap (λ (r : LinesRead). length r.path) same)) some e)
step_stacked number read next got d before more line all deep some (PropertyRead none p is text same) e go = absurd (omega (arith, none, deep, some))
step_stacked number read next got d before more line all deep some (AfterRead level fits l text is takes same) e go =
    after_stacked read next got d before more level l line.end line (ap (λ t. record { text = t; end = line.end }) text) all deep fits is takes same
    (go next d [] tt (deep ∙ sym (ap (λ (r : LinesRead). length r.path) same)) some e)
step_stacked number read next got d before more line all deep some (NodeRead level fits l text is unrefused same) e go = node_step number read next got d level before more line l all deep fits text is unrefused same e go

stacked : (ls : List Line) (number : ℕ) (read got : LinesRead) (d : ℕ) (before : List Line) → AllByRecursion SaysNothing before → d ≡ length read.path → 0 < d → suite_from number read (texts_of ls) ≡ Ok got → Stacked read got d before ls
stacked [] number read got d before all deep some e =
    let same : got ≡ read = ok_same _ read got refl e in
    record {
      stack = no_stack d;
      end = before;
      lines_are = append-nil before ∙ ap (λ l. l ++ before) (sym (no_lines_in d));
      nothing = all;
      are = no_are (made_of read) read.path d;
      made_is = ap made_of same ∙ sym (no_with (made_of read) read.path d);
      short = λ h. subst (λ (r : LinesRead). AreShort r.tree.nodes) (sym same) h;
    }
stacked (line ∷ more) number read got d before all deep some e =
    let read_one = ok_then (with_line number read line.text) (λ next. suite_from (number + 1) next (texts_of more)) got e in
    step_stacked number read read_one.0 got d before more line all deep some (outcome number read read_one.0 line.text read_one.1) read_one.2
    (λ next n front nothing long more_than k. stacked more (number + 1) next got n front nothing long more_than k)

-- From the first line on: properties, then engines.
pub record Opening (limit : ℕ) (params : Parameters) (got : LinesRead) (before ls : List Line) : Type 0 where
  pub properties : List PropertyLine
  pub engines : Items
  pub end : List Line
  pub lines_are : before ++ ls ≡ lines_of_properties properties ++ (lines_of_items 0 engines ++ end)
  pub nothing : AllByRecursion SaysNothing end
  pub may : AllByRecursion (λ (line : PropertyLine). AllByRecursion SaysNothing line.before × IsProperty line.property) properties
  pub are : AreItems (nothing_made (all_said_to params properties)) [] engines
  pub made_is : made_of got ≡ with_items (nothing_made (all_said_to params properties)) [] engines
  pub short : AreShort got.tree.nodes

abbrev at_start : ℕ → Parameters → LinesRead
at_start limit params = with_properties (no_lines limit) params

from_stack : (limit : ℕ) (params : Parameters) (got : LinesRead) (before ls : List Line) → Stacked (at_start limit params) got 0 before ls → Opening limit params got before ls
from_stack limit params got before ls s = record {
  properties = [];
  engines = s.stack;
  end = s.end;
  lines_are = s.lines_are;
  nothing = s.nothing;
  may = tt;
  are = s.are;
  made_is = s.made_is;
  short = s.short tt;
}

nothing_opened : (limit : ℕ) (params : Parameters) (got : LinesRead) (before more : List Line) (line : Line) → Opening limit params got (before ++ line ∷ []) more → Opening limit params got before (line ∷ more)
nothing_opened limit params got before more line o = record {
  properties = o.properties;
  engines = o.engines;
  end = o.end;
  lines_are = sym (append_assoc before (line ∷ []) more) ∙ o.lines_are;
  nothing = o.nothing;
  may = o.may;
  are = o.are;
  made_is = o.made_is;
  short = o.short;
}

property_opened : (limit : ℕ) (params : Parameters) (got : LinesRead) (before more : List Line) (line : Line) (p : Property) → AllByRecursion SaysNothing before → IsProperty p → line.text ≡ property_text p → Opening limit (said_to params p) got [] more
    → Opening limit params got before (line ∷ more)
property_opened limit params got before more line p nothing is text o =
    let own : PropertyLine = record { before = before; property = p; end = line.end } in
    let written : Line = record { text = property_text p; end = line.end } in
    let same : line ≡ written = ap (λ t. record { text = t; end = line.end }) text in
    record {
      properties = own ∷ o.properties;
      engines = o.engines;
      end = o.end;
      lines_are = ap₂ (λ x l. before ++ (x ∷ l)) same o.lines_are ∙ sym (append_assoc before (written ∷ lines_of_properties o.properties) (lines_of_items 0 o.engines ++ o.end));
      nothing = o.nothing;
      may = ((nothing, is), o.may);
      are = o.are;
      made_is = o.made_is;
      short = o.short;
    }

abbrev OpensOn : ℕ → ℕ → List Line → LinesRead → Type 0
OpensOn limit number more got = (params : Parameters) (before : List Line) → AllByRecursion SaysNothing before → suite_from (number + 1) (at_start limit params) (texts_of more) ≡ Ok got → Opening limit params got before more

no_level : (level : ℕ) → level ≤ 0 → level ≡ 0
no_level level h = omega (arith, h)

step_opened : (limit number : ℕ) (params : Parameters) (next got : LinesRead) (before more : List Line) (line : Line) → AllByRecursion SaysNothing before → Outcome (at_start limit params) next line.text
    → suite_from (number + 1) next (texts_of more) ≡ Ok got → OpensOn limit number more got → GoesOn number more got → Opening limit params got before (line ∷ more)
step_opened limit number params next got before more line all (Passed says same) e go on =
    nothing_opened limit params got before more line (go params (before ++ line ∷ []) (says_nothing_more before line all says) (sym (ap (λ r. suite_from (number + 1) r (texts_of more)) same) ∙ e))
step_opened limit number params next got before more line all (PropertyRead none p is text same) e go on =
    property_opened limit params got before more line p all is text (go (said_to params p) [] tt (sym (ap (λ r. suite_from (number + 1) r (texts_of more)) same) ∙ e))
step_opened limit number params next got before more line all (AfterRead level fits l text is takes same) e go on =
    absurd (let at = no_level level fits in subst (λ (n : ℕ). TakesAfter (at_start limit params).tree (above [] n)) at takes)
step_opened limit number params next got before more line all (NodeRead level fits l text is unrefused same) e go on =
    from_stack limit params got before (line ∷ more) (node_step number (at_start limit params) next got 0 level before more line l all refl fits text is unrefused same e on)

pub opened : (ls : List Line) (limit number : ℕ) (params : Parameters) (got : LinesRead) (before : List Line) → AllByRecursion SaysNothing before → suite_from number (at_start limit params) (texts_of ls) ≡ Ok got → Opening limit params got before ls
opened [] limit number params got before all e =
    let same : got ≡ at_start limit params = ok_same _ (at_start limit params) got refl e in
    record {
      properties = [];
      engines = NoMore;
      end = before;
      lines_are = append-nil before;
      nothing = all;
      may = tt;
      are = tt;
      made_is = ap made_of same;
      short = subst (λ (r : LinesRead). AreShort r.tree.nodes) (sym same) tt;
    }
opened (line ∷ more) limit number params got before all e =
    let read_one = ok_then (with_line number (at_start limit params) line.text) (λ next. suite_from (number + 1) next (texts_of more)) got e in
    step_opened limit number params read_one.0 got before more line all (outcome number (at_start limit params) read_one.0 line.text read_one.1) read_one.2
    (λ p front nothing k. opened more limit (number + 1) p got front nothing k)
    (λ next n front nothing long some k. stacked more (number + 1) next got n front nothing long some k)
