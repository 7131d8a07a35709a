-- No text makes the definition answer want of memory.
use Rattle.std.proofs.Common.{◌≢◌, ℕ, ◌+◌, List, ◌∷◌, [], Option, Some, None, Result, Ok, Err, Bool, true, false}
use Rattle.std.specs.Prelude.{nat_lt, ◌||◌, ◌&&◌, not, ◌==◌, ◌%◌, ◌/◌, if◌then◌else◌, length}
use Rattle.std.specs.Option.{is_some, is_none, option_map_or}
use Rattle.descriptor.specs.Nodes.{Nodes, after_of}
use Rattle.descriptor.specs.Refusals.{after_refusal}
use Rattle.plan_events.specs.declared.status.Status.{Status}
use Rattle.suite_text.specs.declared.suite.builder.Opened.{Opened}
use Rattle.std.specs.Str.Lines.{lines}
use Rattle.tag_expr.specs.Tags.{tag_refusal}
use Rattle.suite_words.specs.Words.{words_in}
use Rattle.descriptor.specs.declared.fault.TreeFault.{TreeFault}
use Rattle.suite_words.specs.declared.suite.words.Word.{Word}
use Rattle.suite_words.specs.declared.suite.words.Word.TheVariants.{Engine, Class, Test, Factory, Dyn}
use Rattle.suite_words.specs.declared.suite.attributes.Attribute.{Attribute}
use Rattle.suite_words.specs.declared.suite.attributes.Attribute.TheVariants.{Tag, Spin, Slow, Pulls, Runs, Lock, Isolated}
use Rattle.suite_words.specs.declared.suite.attributes.Attributes.{Attributes}
use Rattle.suite_words.specs.declared.suite.verdicts.Verdict.{Verdict}
use Rattle.suite_words.specs.declared.suite.verdicts.Verdict.TheVariants.{Pass, Fail, Abort, Disabled}
use Rattle.suite_words.specs.declared.suite.fault.SuiteFault.{SuiteFault}
use Rattle.suite_words.specs.declared.suite.fault.SuiteFault.TheVariants.{NoMemory, BadLine}
use Rattle.suite_words.specs.Reading.Attributes.{after_sign, attribute_of, no_attributes, with_tag_of, with_spin_of, with_slow_of, with_pulls_of, with_attribute, attributes_from, attributes_of}
use Rattle.unique_id.specs.Answers.{◌>>=◌}
use Rattle.suite_words.specs.Limits.{node_limit, byte_limit}
use Rattle.suite_words.specs.Reading.Lines.{says_nothing, first_word, after_word, text_after_word, level_of, indentation_of}
use Rattle.suite_text.specs.Reading.Nodes.{word_on, refusal_on, grown, unless_refused}
use Rattle.suite_words.specs.Reading.After.{is_after, ended, after_said, after_body}
use Rattle.suite_text.specs.Reading.After.{is_class, class_of, with_after_body, given_after_body, with_after_line}
use Rattle.suite_text.specs.Reading.Parts.{LinesRead, no_lines, above}
use Rattle.suite_words.specs.Numbers.{number_up_to}
use Rattle.suite_words.specs.Reading.Locks.{lock_of, with_lock_of}
use Rattle.suite_words.specs.Reading.Slow.{some_or_bad_line, limit_of}
use Rattle.suite_words.specs.Reading.Spins.{value_of, or_bad_line, count_of}
use Rattle.suite_words.specs.Reading.Verdicts.{verdict_spelled, no_verdict, verdict_with, verdict_of, status_declared}
use Rattle.suite_words.specs.Reading.Words.{word_of, may_stand, placed, with_verdict, with_attributes, with_name, declared_by}
use Rattle.std.specs.List.{list_any}
use Rattle.config_params.specs.declared.fault.ParamsFault.TheVariants.{NoEquals, EmptyKey}
use Rattle.config_params.specs.Pairs as pairs
use Rattle.config_params.specs.Pairs.{Pair, is_equals_sign, said}
use Rattle.config_params.specs.Parameters.{Parameters}
use Rattle.suite_words.specs.Reading.Properties.{with_said, with_property}
use Rattle.suite_text.specs.Suites.{with_declared, with_declaration, with_words_on, is_property_in, with_pair, with_properties, with_line, suite_from, suite_of_lines, suite_of}

abbrev Never : {A : Type 0} → Result A SuiteFault → Type 0
Never r = r ≢ Err NoMemory

then_never : {A B : Type 0} (r : Result A SuiteFault) (f : A → Result B SuiteFault) → Never r → ((x : A) → Never (f x)) → Never (r >>= f)
then_never (Ok x) f h g = g x
then_never (Err fault) f h g = λ e. h (cc)

if_never : {A : Type 0} (b : Bool) (r s : Result A SuiteFault) → Never r → Never s → Never (if b then r else s)
if_never true r s h k = h
if_never false r s h k = k

ok_never : {A : Type 0} (x : A) → Never (Ok x)
ok_never x = λ e. cc

level_never : (number deepest : ℕ) (line : List ℕ) → Never (level_of number deepest line)
level_never number deepest line = if_never (not (indentation_of line % 2 == 0) || nat_lt deepest (indentation_of line / 2)) _ _ (λ e. cc) (λ e. cc)

count_never : (number : ℕ) (n : Option ℕ) → Never (or_bad_line number n)
count_never number None = λ e. cc
count_never number (Some n) = λ e. cc

none_never : (number : ℕ) (word : Word) → Never (no_verdict number word)
none_never number Engine = λ e. cc
none_never number Class = λ e. cc
none_never number Test = λ e. cc
none_never number Factory = λ e. cc
none_never number Dyn = λ e. cc

some_never : (number : ℕ) (word : Word) (verdict : Option Verdict) (text : List ℕ) → Never (verdict_with number word verdict text)
some_never number Engine verdict text = λ e. cc
some_never number Class None text = λ e. cc
some_never number Test None text = λ e. cc
some_never number Factory None text = λ e. cc
some_never number Dyn None text = λ e. cc
some_never number Class (Some Pass) text = if_never (length text == 0) _ _ (λ e. cc) (λ e. cc)
some_never number Test (Some Pass) text = if_never (length text == 0) _ _ (λ e. cc) (λ e. cc)
some_never number Factory (Some Pass) text = if_never (length text == 0) _ _ (λ e. cc) (λ e. cc)
some_never number Dyn (Some Pass) text = if_never (length text == 0) _ _ (λ e. cc) (λ e. cc)
some_never number Class (Some Fail) text = λ e. cc
some_never number Test (Some Fail) text = λ e. cc
some_never number Factory (Some Fail) text = λ e. cc
some_never number Dyn (Some Fail) text = λ e. cc
some_never number Class (Some Abort) text = λ e. cc
some_never number Test (Some Abort) text = λ e. cc
some_never number Factory (Some Abort) text = λ e. cc
some_never number Dyn (Some Abort) text = λ e. cc
some_never number Class (Some Disabled) text = λ e. cc
some_never number Test (Some Disabled) text = λ e. cc
some_never number Factory (Some Disabled) text = λ e. cc
some_never number Dyn (Some Disabled) text = λ e. cc

verdict_never : (number : ℕ) (word : Word) (first text : List ℕ) → Never (verdict_of number word first text)
verdict_never number word first text = if_never (length first == 0) _ _ (none_never number word) (some_never number word (verdict_spelled first) text)

placed_never : (number : ℕ) (above word : Option Word) → Never (placed number above word)
placed_never number above None = λ e. cc
placed_never number above (Some word) = if_never (may_stand above word) _ _ (λ e. cc) (λ e. cc)

tag_never : (number : ℕ) (said : Attributes) (text : List ℕ) → Never (with_tag_of number said text)
tag_never number said text = if_never (is_some (tag_refusal text)) _ _ (λ e. cc) (λ e. cc)

spin_set_never : (number : ℕ) (said : Attributes) (value : List ℕ) → Never (with_spin_of number said value)
spin_set_never number said value =
    if_never (is_some said.spin) _ _ (λ e. cc) (then_never (count_of number 1000000 value) _ (count_never number (number_up_to 1000000 value)) (λ spin. λ e. cc))

limit_never : (number : ℕ) (value : List ℕ) → Never (limit_of number value)
limit_never number value =
    then_never (count_of number 86400000 value) (some_or_bad_line number) (count_never number (number_up_to 86400000 value)) (λ n. if_never (n == 0) (Err (BadLine number)) (Ok n) (λ e. cc) (λ e. cc))

slow_set_never : (number : ℕ) (said : Attributes) (value : List ℕ) → Never (with_slow_of number said value)
slow_set_never number said value = if_never (is_some said.slow) _ _ (λ e. cc) (then_never (limit_of number value) _ (limit_never number value) (λ limit. λ e. cc))

pulls_set_never : (number : ℕ) (said : Attributes) (value : List ℕ) → Never (with_pulls_of number said value)
pulls_set_never number said value =
    if_never (is_some said.pulls) _ _ (λ e. cc) (then_never (count_of number 4096 value) _ (count_never number (number_up_to 4096 value)) (λ pulls. λ e. cc))

attribute_never : (number : ℕ) (said : Attributes) (text : List ℕ) (attribute : Attribute) → Never (with_attribute number said text attribute)
attribute_never number said text Tag = tag_never number said (after_sign text)
attribute_never number said text Spin = spin_set_never number said (value_of text)
attribute_never number said text Slow = slow_set_never number said (value_of text)
attribute_never number said text Pulls = pulls_set_never number said (value_of text)
attribute_never number said text (Runs mode) = if_never (is_some said.mode) _ _ (λ e. cc) (λ e. cc)
attribute_never number said text Lock = then_never (with_lock_of number said.locks (value_of text)) _ (if_never (length (lock_of (value_of text)).key == 0) _ _ (λ e. cc) (λ e. cc)) (λ locks. λ e. cc)
attribute_never number said text Isolated = λ e. cc

found_never : {A : Type 0} (found : Option Attribute) (f : Attribute → Result A SuiteFault) (r : Result A SuiteFault) → ((a : Attribute) → Never (f a)) → Never r → Never (option_map_or f found r)
found_never None f r h k = k
found_never (Some a) f r h k = h a

attributes_never : (number : ℕ) (word : Word) (said : Attributes) (words : List (List ℕ)) (left : List ℕ) → Never (attributes_from number word said words left)
attributes_never number word said [] left = λ e. cc
attributes_never number word said (text ∷ more) left =
    found_never (attribute_of word text) _ _
    (λ attribute. then_never (with_attribute number said text attribute) (λ next. attributes_from number word next more (after_word left)) (attribute_never number said text attribute)
    (λ next. attributes_never number word next more (after_word left)))
    (λ e. cc)

with_verdict_never : (number : ℕ) (word : Word) (name : List ℕ) (attributes : Attributes) (rest : List ℕ) → Never (with_verdict number word name attributes rest)
with_verdict_never number word name attributes rest =
    then_never (verdict_of number word (first_word rest) (text_after_word rest)) _ (verdict_never number word (first_word rest) (text_after_word rest)) (λ verdict. λ e. cc)

with_attributes_never : (number : ℕ) (word : Word) (name rest : List ℕ) → Never (with_attributes number word name rest)
with_attributes_never number word name rest =
    then_never (attributes_of number word rest) (λ read. with_verdict number word name read.0 read.1) (attributes_never number word no_attributes (words_in rest) rest)
    (λ read. with_verdict_never number word name read.0 read.1)

with_name_never : (number : ℕ) (word : Word) (rest : List ℕ) → Never (with_name number word rest)
with_name_never number word rest = if_never (length (first_word rest) == 0) _ _ (λ e. cc) (with_attributes_never number word (first_word rest) (after_word rest))

by_never : (number : ℕ) (above : Option Word) (line : List ℕ) → Never (declared_by number above line)
by_never number above line =
    then_never (placed number above (word_of (first_word line))) (λ word. with_name number word (after_word line)) (placed_never number above (word_of (first_word line)))
    (λ word. with_name_never number word (after_word line))

class_never : (number : ℕ) (t : Nodes) (o : Option Opened) → Never (class_of number t o)
class_never number t None = λ e. cc
class_never number t (Some o) = if_never (is_class o.word && is_none (after_of t o.node)) _ _ (λ e. cc) (λ e. cc)

ended_never : (number : ℕ) (status : Option Status) (text : List ℕ) → Never (ended number status text)
ended_never number None text = λ e. cc
ended_never number (Some status) text = λ e. cc

said_never : (number : ℕ) (rest : List ℕ) → Never (after_said number rest)
said_never number rest =
    then_never (verdict_of number Test (first_word rest) (text_after_word rest)) (λ verdict. ended number (status_declared verdict) (text_after_word rest)) (verdict_never number Test (first_word rest) (text_after_word rest))
    (λ verdict. ended_never number (status_declared verdict) (text_after_word rest))

refused_never : (number : ℕ) (why : Option TreeFault) (read : LinesRead) → Never (unless_refused number why read)
refused_never number None read = λ e. cc
refused_never number (Some why) read = λ e. cc

property_never : (number : ℕ) (params : Parameters) (pair : Pair) (nothing none empty : Bool)
    → Never (with_said params (if nothing then Ok None else said (if none then Err (NoEquals number) else (if empty then Err (EmptyKey number) else Ok pair))))
property_never number params pair true none empty = λ e. cc
property_never number params pair false true empty = λ e. cc
property_never number params pair false false true = λ e. cc
property_never number params pair false false false = λ e. cc

pair_never : (number : ℕ) (read : LinesRead) (line : List ℕ) → Never (with_pair number read line)
pair_never number read line =
    let rest = after_word line in
    then_never (with_property number read.properties line) (λ properties. Ok (with_properties read properties))
    (property_never number read.properties (pairs.key_of rest, pairs.value_of rest) (pairs.says_nothing rest) (not (list_any is_equals_sign rest)) (length (pairs.key_of rest) == 0)) (λ properties. λ e. cc)

after_never : (number : ℕ) (read : LinesRead) (level : ℕ) (rest : List ℕ) → Never (with_after_line number read level rest)
after_never number read level rest =
    then_never (class_of number read.tree (above read.path level)) (λ n. after_said number rest >>= (λ said. given_after_body number read n said)) (class_never number read.tree (above read.path level))
    (λ n. then_never (after_said number rest) (λ said. given_after_body number read n said) (said_never number rest)
    (λ said. refused_never number (after_refusal read.tree n (after_body n)) (with_after_body read n said)))

declaration_never : (number : ℕ) (read : LinesRead) (level : ℕ) (line : List ℕ) → Never (with_declaration number read level line)
declaration_never number read level line = if_never (is_after line) _ _ (after_never number read level (after_word line))
    (then_never (declared_by number (word_on read level) line) (λ d. with_declared number read level d) (by_never number (word_on read level) line)
    (λ d. refused_never number (refusal_on read level d) (grown read level d)))

line_never : (number : ℕ) (read : LinesRead) (line : List ℕ) → Never (with_line number read line)
line_never number read line = if_never (says_nothing line) _ _ (λ e. cc)
    (then_never (level_of number (length read.path) line) (λ level. with_words_on number read level line) (level_never number (length read.path) line)
    (λ level. if_never (is_property_in read line) _ _ (pair_never number read line) (declaration_never number read level line)))

from_never : (number : ℕ) (read : LinesRead) (ls : List (List ℕ)) → Never (suite_from number read ls)
from_never number read [] = λ e. cc
from_never number read (line ∷ more) = then_never (with_line number read line) (λ next. suite_from (number + 1) next more) (line_never number read line) (λ next. from_never (number + 1) next more)

pub lines_never : (limit : ℕ) (ls : List (List ℕ)) → suite_of_lines limit ls ≢ Err NoMemory
lines_never limit ls = then_never (suite_from 1 (no_lines limit) ls) _ (from_never 1 (no_lines limit) ls) (λ read. λ e. cc)

pub never_no_memory : (most : Option ℕ) (text : List ℕ) → suite_of most text ≢ Err NoMemory
never_no_memory most text = if_never (nat_lt (byte_limit most) (length text)) _ _ (λ e. cc) (lines_never (node_limit most) (lines text))
