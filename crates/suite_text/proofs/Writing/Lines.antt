-- A line that declares a node is read as it is written.
use borrow.Author.Tests.{tests}
use Rattle.std.proofs.Common.{rules, ◌≡◌, ℕ, zero, suc, ◌+◌, ◌<◌, ◌≤◌, ◌%◌, ◌/◌, ◌||◌, ◌&&◌, Bool, List, [], ◌∷◌, ◌++◌, length, drop, true, false, not, nat_lt, if◌then◌else◌, ◌==◌, Option, Some, None, Result, Ok, Err, codes, refl, ap, sym, ◌∙◌, arith}
use Rattle.std.proofs.lemmas.Bool.{ne_eqb, and_parts, and_from, le-leb}
use Rattle.std.proofs.lemmas.List.{append_assoc}
use Rattle.std.specs.Char.{is_ascii_digit}
use Rattle.std.specs.List.{list_all, prefix_len}
use Rattle.std.specs.Option.{is_some}
use Rattle.std.specs.Str.{bytes_eq}
use Rattle.std.specs.Str.Parse.{digits_value}
use Rattle.suite_words.specs.declared.suite.words.Word.{Word}
use Rattle.suite_words.specs.declared.suite.words.Word.TheVariants.{Engine, Class, Test, Factory, Dyn}
use Rattle.suite_words.specs.declared.suite.verdicts.Verdict.{Verdict}
use Rattle.suite_words.specs.declared.suite.verdicts.Verdict.TheVariants.{Pass, Fail, Abort, Disabled}
use Rattle.descriptor.specs.declared.mode.Mode.TheVariants.{SameThread, Concurrent}
use Rattle.suite_words.specs.declared.suite.attributes.Attribute as kinds
use Rattle.suite_words.specs.declared.suite.attributes.Attribute.TheVariants as found
use Rattle.suite_words.specs.declared.suite.attributes.Attribute.TheVariants.{Tag, Spin, Slow, Pulls, Lock, Isolated}
use Rattle.suite_words.specs.declared.suite.attributes.Attributes.{Attributes}
use Rattle.suite_words.specs.declared.suite.fault.SuiteFault.{SuiteFault}
use Rattle.suite_words.specs.declared.suite.fault.SuiteFault.TheVariants.{BadLine, BadIndent}
use Rattle.suite_words.specs.Reading.Attributes.{takes_tags, attribute_of, no_attributes, with_attribute, attributes_from, may_declare, declaration_in}
use Rattle.unique_id.specs.Answers.{◌>>=◌}
use Rattle.suite_words.specs.Reading.Lines.{without_front, without_end, first_word, after_word, text_after_word, indentation_of, level_of, says_nothing, begins_with_sign}
use Rattle.suite_words.specs.Numbers.{is_number}
use Rattle.suite_words.specs.Reading.Pulls.{is_pulls}
use Rattle.suite_words.specs.Reading.After.{is_after}
use Rattle.suite_words.specs.Reading.Slow.{is_slow, some_or_bad_line, limit_of}
use Rattle.suite_words.specs.Reading.Spins.{or_bad_line, key_of, is_spin, count_of}
use Rattle.suite_words.specs.Reading.Verdicts.{verdict_spelled, no_verdict, verdict_with, verdict_of}
use Rattle.suite_words.specs.Reading.Words.{Declaration, word_of, placed, with_verdict, with_attributes, with_name, declared_by}
use Rattle.suite_words.specs.Reading.Properties.{is_property}
use Rattle.suite_words.specs.Words.{is_space, words_in}
use Rattle.suite_text.specs.Writing.Lines.{spaces, indentation, IsWord, Said, Tagged, Counts, Slows, Registers, Runs, Locks, Alone, LockSign, Plain, Reads, Writes, sign_text, said_text, said_also, IsTestWord, MaySay, Attribute, attributes_text, all_said, MaySayAll, Ending, ending_text, MayExplain, IsEnding, MayEnd, NodeLine, node_text, verdict_said, text_said, declares, IsNodeLine}
use Rattle.suite_words.specs.Grammar.{word_text, verdict_text}
use Rattle.suite_words.proofs.Numbers.{number_parts}
use Rattle.suite_text.proofs.Writing.Locks.{lock_back}
use Rattle.suite_words.proofs.Reading.Attributes.{of_nothing, at_end, next_read}
use Rattle.suite_text.proofs.Writing.Words.{Unspaced, Follows, first_is, after_is, first_none, after_none, text_is, follows_spaces, follows_text, front_is, prefix_spaces}

-- the keywords and attributes that the format knows are tokens
is_word : (w : Word) → IsWord (word_text w)
is_word Engine = (omega arith, search rules)
is_word Class = (omega arith, search rules)
is_word Test = (omega arith, search rules)
is_word Factory = (omega arith, search rules)
is_word Dyn = (omega arith, search rules)

is_verdict : (v : Verdict) → IsWord (verdict_text v)
is_verdict Pass = (omega arith, search rules)
is_verdict Fail = (omega arith, search rules)
is_verdict Abort = (omega arith, search rules)
is_verdict Disabled = (omega arith, search rules)

word_back : (w : Word) → word_of (word_text w) ≡ Some w
word_back Engine = refl
word_back Class = refl
word_back Test = refl
word_back Factory = refl
word_back Dyn = refl

verdict_back : (v : Verdict) → verdict_spelled (verdict_text v) ≡ Some v
verdict_back Pass = refl
verdict_back Fail = refl
verdict_back Abort = refl
verdict_back Disabled = refl

-- and none is the keyword of a property
no_property : (w : Word) → bytes_eq (word_text w) (codes "property") ≡ false
no_property Engine = refl
no_property Class = refl
no_property Test = refl
no_property Factory = refl
no_property Dyn = refl

-- no verdict is an attribute
no_attribute : (w : Word) (v : Verdict) → attribute_of w (verdict_text v) ≡ None
no_attribute Engine Pass = refl
no_attribute Engine Fail = refl
no_attribute Engine Abort = refl
no_attribute Engine Disabled = refl
no_attribute Class Pass = refl
no_attribute Class Fail = refl
no_attribute Class Abort = refl
no_attribute Class Disabled = refl
no_attribute Test Pass = refl
no_attribute Test Fail = refl
no_attribute Test Abort = refl
no_attribute Test Disabled = refl
no_attribute Factory Pass = refl
no_attribute Factory Fail = refl
no_attribute Factory Abort = refl
no_attribute Factory Disabled = refl
no_attribute Dyn Pass = refl
no_attribute Dyn Fail = refl
no_attribute Dyn Abort = refl
no_attribute Dyn Disabled = refl

-- attributes
digit_unspaced : (d : ℕ) → is_ascii_digit d ≡ true → is_space d ≡ false
digit_unspaced d h = ne_eqb d 32 (λ e. grind arith)

digits_unspaced : (ds : List ℕ) → list_all is_ascii_digit ds ≡ true → Unspaced ds
digits_unspaced [] h = tt
digits_unspaced (d ∷ ds) h = let p = and_parts (is_ascii_digit d) (list_all is_ascii_digit ds) h in (digit_unspaced d p.0, digits_unspaced ds p.1)

unspaced_sign : (key : List ℕ) (sign : LockSign) → Unspaced key → Unspaced (key ++ sign_text sign)
unspaced_sign [] Plain h = tt
unspaced_sign [] Reads h = search rules
unspaced_sign [] Writes h = search rules
unspaced_sign (b ∷ key) sign h = (h.0, unspaced_sign key sign h.1)

said_word : (w : Word) (before : Attributes) (s : Said) → MaySay w before s → IsWord (said_text s)
said_word w before (Tagged tag) h = (omega arith, (refl, h.0))
said_word w before (Counts digits) h = (omega arith, (refl, (refl, (refl, (refl, (refl, digits_unspaced digits (number_parts digits h.2).1))))))
said_word w before (Slows digits) h = (omega arith, (refl, (refl, (refl, (refl, (refl, (refl, digits_unspaced digits (number_parts digits h.2).1)))))))
said_word w before (Registers digits) h = (omega arith, (refl, (refl, (refl, (refl, (refl, (refl, digits_unspaced digits (number_parts digits h.2).1)))))))
said_word w before (Runs SameThread) h = (omega arith, search rules)
said_word w before (Runs Concurrent) h = (omega arith, search rules)
said_word w before (Locks key sign) h = (omega arith, (refl, (refl, (refl, (refl, (refl, unspaced_sign key sign h.1.1))))))
said_word w before Alone h = (omega arith, search rules)

abbrev kind_of : Said → kinds.Attribute
kind_of (Tagged tag) = Tag
kind_of (Counts digits) = Spin
kind_of (Slows digits) = Slow
kind_of (Registers digits) = Pulls
kind_of (Runs mode) = found.Runs mode
kind_of (Locks key sign) = Lock
kind_of Alone = Isolated

spin_kind : (w : Word) (digits : List ℕ) → IsTestWord w → attribute_of w (codes "spin=" ++ digits) ≡ Some Spin
spin_kind Engine digits h = absurd h
spin_kind Class digits h = absurd h
spin_kind Test digits h = refl
spin_kind Factory digits h = absurd h
spin_kind Dyn digits h = refl

slow_kind : (w : Word) (digits : List ℕ) → IsTestWord w → attribute_of w (codes "@slow=" ++ digits) ≡ Some Slow
slow_kind Engine digits h = absurd h
slow_kind Class digits h = absurd h
slow_kind Test digits h = refl
slow_kind Factory digits h = absurd h
slow_kind Dyn digits h = refl

tag_kind : (w : Word) (text : List ℕ) (tags : Bool) → begins_with_sign text ≡ true → tags ≡ true
    → (if tags && begins_with_sign text then Some Tag else (if is_spin w (key_of text) then Some Spin else (if is_slow w (key_of text) then Some Slow else (if is_pulls w (key_of text) then Some Pulls else (if may_declare w then declaration_in text (key_of text) else None))))) ≡ Some Tag
tag_kind w text true sign h = ap (λ b. if b then Some Tag else (if is_spin w (key_of text) then Some Spin else (if is_slow w (key_of text) then Some Slow else (if is_pulls w (key_of text) then Some Pulls else (if may_declare w then declaration_in text (key_of text) else None))))) sign
tag_kind w text false sign h = absurd (cc)

said_kind : (w : Word) (before : Attributes) (s : Said) → MaySay w before s → attribute_of w (said_text s) ≡ Some (kind_of s)
said_kind w before (Tagged tag) h = tag_kind w (35 ∷ tag) (takes_tags w) refl h.2
said_kind w before (Counts digits) h = spin_kind w digits h.0
said_kind w before (Slows digits) h = slow_kind w digits h.0
said_kind w before (Registers digits) h = ap (λ v. attribute_of v (codes "pulls=" ++ digits)) h.0
said_kind Engine before (Runs mode) h = absurd (let off : false ≡ true = h.0 in cc)
said_kind Dyn before (Runs mode) h = absurd (let off : false ≡ true = h.0 in cc)
said_kind Class before (Runs SameThread) h = refl
said_kind Class before (Runs Concurrent) h = refl
said_kind Test before (Runs SameThread) h = refl
said_kind Test before (Runs Concurrent) h = refl
said_kind Factory before (Runs SameThread) h = refl
said_kind Factory before (Runs Concurrent) h = refl
said_kind Engine before (Locks key sign) h = absurd (let off : false ≡ true = h.0 in cc)
said_kind Dyn before (Locks key sign) h = absurd (let off : false ≡ true = h.0 in cc)
said_kind Class before (Locks key sign) h = refl
said_kind Test before (Locks key sign) h = refl
said_kind Factory before (Locks key sign) h = refl
said_kind Engine before Alone h = absurd (cc)
said_kind Dyn before Alone h = absurd (cc)
said_kind Class before Alone h = refl
said_kind Test before Alone h = refl
said_kind Factory before Alone h = refl

count_back : (number most : ℕ) (digits : List ℕ) → is_number digits ≡ true → digits_value 10 digits ≤ most → count_of number most digits ≡ Ok (digits_value 10 digits)
count_back number most digits h small =
    ap (λ b. or_bad_line number (if b then Some (digits_value 10 digits) else None)) (and_from _ _ h (le-leb (digits_value 10 digits) most small))

limit_back : (number : ℕ) (digits : List ℕ) → is_number digits ≡ true → digits_value 10 digits ≤ 86400000 → 0 < digits_value 10 digits → limit_of number digits ≡ Ok (digits_value 10 digits)
limit_back number digits h small some =
    ap (λ r. r >>= (λ limit. some_or_bad_line number limit)) (count_back number 86400000 digits h small)
    ∙ ap (λ b. if b then Err (BadLine number) else Ok (digits_value 10 digits)) (ne_eqb (digits_value 10 digits) 0 (λ e. omega (arith, some, e)))

said_read : (number : ℕ) (w : Word) (before : Attributes) (s : Said) → MaySay w before s → with_attribute number before (said_text s) (kind_of s) ≡ Ok (said_also before s)
said_read number w before (Tagged tag) h = ap (λ r. if is_some r then Err (BadLine number) else Ok (said_also before (Tagged tag))) h.1
said_read number w before (Counts digits) h =
    ap (λ o. if is_some o then Err (BadLine number) else (count_of number 1000000 digits >>= (λ spin. Ok (record before { spin = Some spin })))) h.1
    ∙ ap (λ r. r >>= (λ spin. Ok (record before { spin = Some spin }))) (count_back number 1000000 digits h.2 h.3)
said_read number w before (Slows digits) h =
    ap (λ o. if is_some o then Err (BadLine number) else (limit_of number digits >>= (λ limit. Ok (record before { slow = Some limit })))) h.1
    ∙ ap (λ r. r >>= (λ limit. Ok (record before { slow = Some limit }))) (limit_back number digits h.2 h.3 h.4)
said_read number w before (Registers digits) h =
    ap (λ o. if is_some o then Err (BadLine number) else (count_of number 4096 digits >>= (λ pulls. Ok (record before { pulls = Some pulls })))) h.1
    ∙ ap (λ r. r >>= (λ pulls. Ok (record before { pulls = Some pulls }))) (count_back number 4096 digits h.2 h.3)
said_read number w before (Runs mode) h = ap (λ o. if is_some o then Err (BadLine number) else Ok (record before { mode = Some mode })) h.1
said_read number w before (Locks key sign) h = ap (λ r. r >>= (λ locks. Ok (record before { locks = locks }))) (lock_back number before.locks key sign h.1.0 h.2)
said_read number w before Alone h = refl

follows_more : (attributes : List Attribute) (rest : List ℕ) → Follows rest → Follows (attributes_text attributes ++ rest)
follows_more [] rest f = f
follows_more (attribute ∷ more) rest f = refl

-- the attributes of a line, before its verdict
module _ (number : ℕ) (w : Word) (rest : List ℕ) (f : Follows rest) (ends : attribute_of w (first_word (drop 1 rest)) ≡ None) where
  abbrev read_from : Attributes → List ℕ → Result (Attributes × List ℕ) SuiteFault
  read_from before text = attributes_from number w before (words_in text) text

  attributes_back : (before : Attributes) (attributes : List Attribute) → MaySayAll w before attributes → read_from before (drop 1 (attributes_text attributes ++ rest)) ≡ Ok (all_said before attributes, drop 1 rest)
  attributes_back before [] h = at_end number w before (drop 1 rest) ends
  attributes_back before (attribute ∷ more) h =
      let said = attribute.said in
      let behind = attributes_text more ++ rest in
      let text = spaces attribute.gap ++ (said_text said ++ behind) in
      let shape : (spaces attribute.gap ++ (said_text said ++ attributes_text more)) ++ rest ≡ text =
      append_assoc (spaces attribute.gap) (said_text said ++ attributes_text more) rest ∙ ap (λ l. spaces attribute.gap ++ l) (append_assoc (said_text said) (attributes_text more) rest) in
      let word = said_word w before said h.0 in
      let first = first_is attribute.gap (said_text said) behind word (follows_more more rest f) in
      let after = after_is attribute.gap (said_text said) behind word (follows_more more rest f) in
      let is : attribute_of w (first_word text) ≡ Some (kind_of said) = ap (attribute_of w) first ∙ said_kind w before said h.0 in
      let added : with_attribute number before (first_word text) (kind_of said) ≡ Ok (said_also before said) = ap (λ t. with_attribute number before t (kind_of said)) first ∙ said_read number w before said h.0 in
      ap (read_from before) shape
      ∙ sym (next_read number w before text (kind_of said) is (said_also before said) added)
      ∙ ap (read_from (said_also before said)) after
      ∙ attributes_back (said_also before said) more h.1

-- the verdict of a line
ending_of : (w : Word) (end : Ending) → MayEnd w (Some end) → IsEnding end
ending_of Engine end h = absurd h
ending_of Class end h = h
ending_of Test end h = h
ending_of Factory end h = h
ending_of Dyn end h = h

pub follows_end : (end : Option Ending) (trailing : ℕ) → Follows (ending_text end trailing)
follows_end None trailing = follows_spaces trailing
follows_end (Some end) trailing = refl

spelled_back : (number : ℕ) (w : Word) (v : Verdict) (text : List ℕ) → verdict_of number w (verdict_text v) text ≡ verdict_with number w (Some v) text
spelled_back number w Pass text = refl
spelled_back number w Fail text = refl
spelled_back number w Abort text = refl
spelled_back number w Disabled text = refl

explained : (number : ℕ) (w : Word) (end : Ending) → MayEnd w (Some end) → verdict_with number w (Some end.verdict) end.text ≡ Ok (Some end.verdict)
explained number w end h = by_cases w end.verdict end.text h (ending_of w end h).explains where
  by_cases : (w : Word) (v : Verdict) (text : List ℕ) → MayEnd w (Some end) → MayExplain v text → verdict_with number w (Some v) text ≡ Ok (Some v)
  by_cases Engine v text may e = absurd may
  by_cases Class Pass text may e = ap (λ t. if length t == 0 then Ok (Some Pass) else Err (BadLine number)) e
  by_cases Test Pass text may e = ap (λ t. if length t == 0 then Ok (Some Pass) else Err (BadLine number)) e
  by_cases Class Fail text may e = refl
  by_cases Test Fail text may e = refl
  by_cases Class Abort text may e = refl
  by_cases Test Abort text may e = refl
  by_cases Class Disabled text may e = refl
  by_cases Test Disabled text may e = refl
  by_cases Factory Pass text may e = ap (λ t. if length t == 0 then Ok (Some Pass) else Err (BadLine number)) e
  by_cases Factory Fail text may e = refl
  by_cases Factory Abort text may e = refl
  by_cases Factory Disabled text may e = refl
  by_cases Dyn Pass text may e = ap (λ t. if length t == 0 then Ok (Some Pass) else Err (BadLine number)) e
  by_cases Dyn Fail text may e = refl
  by_cases Dyn Abort text may e = refl
  by_cases Dyn Disabled text may e = refl

missing : (number : ℕ) (w : Word) → MayEnd w None → no_verdict number w ≡ Ok None
missing number Engine h = refl
missing number Class h = refl
missing number Test h = absurd h
missing number Factory h = absurd h
missing number Dyn h = absurd h

module _ (number : ℕ) (w : Word) (trailing : ℕ) where
  abbrev left : Option Ending → List ℕ
  left end = drop 1 (ending_text end trailing)

  pub text_back : (end : Option Ending) → MayEnd w end → text_after_word (left end) ≡ text_said end
  text_back None h = ap (λ t. without_end (without_front t)) (after_none trailing)
  text_back (Some end) h =
      let is = ending_of w end h in
      ap (λ t. without_end (without_front t)) (after_is end.gap (verdict_text end.verdict) (spaces end.behind ++ (end.text ++ spaces trailing)) (is_verdict end.verdict) (follows_text end.behind end.text trailing is.apart))
      ∙ text_is end.behind end.text trailing is.apart is.front is.back

  first_back : (end : Ending) → MayEnd w (Some end) → first_word (left (Some end)) ≡ verdict_text end.verdict
  first_back end h = first_is end.gap (verdict_text end.verdict) (spaces end.behind ++ (end.text ++ spaces trailing)) (is_verdict end.verdict) (follows_text end.behind end.text trailing (ending_of w end h).apart)

  no_more : (end : Option Ending) → MayEnd w end → attribute_of w (first_word (left end)) ≡ None
  no_more None h = ap (attribute_of w) (first_none trailing) ∙ of_nothing w
  no_more (Some end) h = ap (attribute_of w) (first_back end h) ∙ no_attribute w end.verdict

  pub verdict_read : (end : Option Ending) → MayEnd w end → verdict_of number w (first_word (left end)) (text_said end) ≡ Ok (verdict_said end)
  verdict_read None h = ap (λ t. verdict_of number w t []) (first_none trailing) ∙ missing number w h
  verdict_read (Some end) h = ap (λ t. verdict_of number w t end.text) (first_back end h) ∙ spelled_back number w end.verdict end.text ∙ explained number w end h

  abbrev declared : List ℕ → Attributes → Option Verdict → List ℕ → Declaration
  declared name attributes verdict text = record { word = w; name = name; attributes = attributes; verdict = verdict; text = text }

  end_back : (name : List ℕ) (attributes : Attributes) (end : Option Ending) → MayEnd w end → with_verdict number w name attributes (left end) ≡ Ok (declared name attributes (verdict_said end) (text_said end))
  end_back name attributes end h =
      ap (λ t. verdict_of number w (first_word (left end)) t >>= (λ verdict. Ok (declared name attributes verdict t))) (text_back end h)
      ∙ ap (λ r. r >>= (λ verdict. Ok (declared name attributes verdict (text_said end)))) (verdict_read end h)

-- a line of tokens
module _ (number : ℕ) (l : NodeLine) where
  abbrev behind_name : List ℕ
  behind_name = attributes_text l.attributes ++ ending_text l.ending l.trailing

  abbrev behind_word : List ℕ
  behind_word = spaces (suc l.gap) ++ (l.name ++ behind_name)

  name_follows : Follows behind_name
  name_follows = follows_more l.attributes (ending_text l.ending l.trailing) (follows_end l.ending l.trailing)

  attributes_read : MaySayAll l.word no_attributes l.attributes → MayEnd l.word l.ending → with_attributes number l.word l.name (drop 1 behind_name) ≡ Ok (declares l)
  attributes_read may ends =
      ap (λ r. r >>= (λ read. with_verdict number l.word l.name read.0 read.1))
      (attributes_back number l.word (ending_text l.ending l.trailing) (follows_end l.ending l.trailing) (no_more number l.word l.trailing l.ending ends) no_attributes l.attributes may)
      ∙ end_back number l.word l.trailing l.name (all_said no_attributes l.attributes) l.ending ends

  name_read : IsWord l.name → MaySayAll l.word no_attributes l.attributes → MayEnd l.word l.ending → with_name number l.word (drop 1 behind_word) ≡ Ok (declares l)
  name_read word may ends =
      let first = first_is l.gap l.name behind_name word name_follows in
      let after = after_is l.gap l.name behind_name word name_follows in
      ap (λ name. if length name == 0 then Err (BadLine number) else with_attributes number l.word name (after_word (drop 1 behind_word))) first
      ∙ ap (λ b. if b then Err (BadLine number) else with_attributes number l.word l.name (after_word (drop 1 behind_word))) (ne_eqb (length l.name) 0 (λ e. omega (arith, e, word.0)))
      ∙ ap (with_attributes number l.word l.name) after
      ∙ attributes_read may ends

  abbrev words : List ℕ
  words = word_text l.word ++ behind_word

  words_read : (n : ℕ) (above : Option Word) → IsNodeLine above l → declared_by number above (spaces n ++ words) ≡ Ok (declares l)
  words_read n above is =
      let first = first_is n (word_text l.word) behind_word (is_word l.word) refl in
      let after = after_is n (word_text l.word) behind_word (is_word l.word) refl in
      ap (λ t. placed number above (word_of t) >>= (λ word. with_name number word (after_word (spaces n ++ words)))) first
      ∙ ap (λ o. placed number above o >>= (λ word. with_name number word (after_word (spaces n ++ words)))) (word_back l.word)
      ∙ ap (λ b. (if b then Ok l.word else Err (BadLine number)) >>= (λ word. with_name number word (after_word (spaces n ++ words)))) is.stands
      ∙ ap (with_name number l.word) after
      ∙ name_read is.name is.attributes is.ending

-- its level
word_indents : (w : Word) (rest : List ℕ) → prefix_len is_space (word_text w ++ rest) ≡ 0
word_indents Engine rest = refl
word_indents Class rest = refl
word_indents Test rest = refl
word_indents Factory rest = refl
word_indents Dyn rest = refl

pub level_by : (number deepest level : ℕ) (n : ℕ) → n ≡ level + level → level ≤ deepest → (if not (n % 2 == 0) || nat_lt deepest (n / 2) then Err (BadIndent number) else Ok (n / 2)) ≡ Ok level
level_by number deepest level n e h =
    let even : n % 2 ≡ 0 = omega (arith, e) in
    let half : n / 2 ≡ level = omega (arith, e) in
    let may : nat_lt deepest level ≡ false = search (rules, tests) in
    ap (λ k. if not (k == 0) || nat_lt deepest (n / 2) then Err (BadIndent number) else Ok (n / 2)) even
    ∙ ap (λ k. if nat_lt deepest k then Err (BadIndent number) else Ok k) half
    ∙ ap (λ b. if b then Err (BadIndent number) else Ok level) may

pub indents : (level : ℕ) → indentation level ≡ spaces (level + level)
indents zero = refl
indents (suc level) = let more : suc level + suc level ≡ suc (suc (level + level)) = omega arith in ap (λ l. 32 ∷ 32 ∷ l) (indents level) ∙ ap spaces (sym more)

-- it says something
no_sign : (n : ℕ) (w : Word) (rest : List ℕ) → begins_with_sign (spaces n ++ (word_text w ++ rest)) ≡ false
no_sign zero Engine rest = refl
no_sign zero Class rest = refl
no_sign zero Test rest = refl
no_sign zero Factory rest = refl
no_sign zero Dyn rest = refl
no_sign (suc n) w rest = refl

some_word : (w : Word) (rest : List ℕ) → (length (word_text w ++ rest) == 0) ≡ false
some_word Engine rest = ne_eqb (length (word_text Engine ++ rest)) 0 (λ e. omega (arith, e))
some_word Class rest = ne_eqb (length (word_text Class ++ rest)) 0 (λ e. omega (arith, e))
some_word Test rest = ne_eqb (length (word_text Test ++ rest)) 0 (λ e. omega (arith, e))
some_word Factory rest = ne_eqb (length (word_text Factory ++ rest)) 0 (λ e. omega (arith, e))
some_word Dyn rest = ne_eqb (length (word_text Dyn ++ rest)) 0 (λ e. omega (arith, e))

-- no keyword of a node is that of an after-body
no_after : (w : Word) → bytes_eq (word_text w) (codes "after") ≡ false
no_after Engine = refl
no_after Class = refl
no_after Test = refl
no_after Factory = refl
no_after Dyn = refl

module _ (number level : ℕ) (l : NodeLine) where
  shape : node_text level l ≡ spaces (level + level) ++ words number l
  shape = ap (λ t. t ++ words number l) (indents level)

  pub line_says : says_nothing (node_text level l) ≡ false
  line_says =
      ap says_nothing shape
      ∙ ap (λ b. b || (length (without_front (spaces (level + level) ++ words number l)) == 0)) (no_sign (level + level) l.word (behind_word number l))
      ∙ ap (λ t. length t == 0) (front_is (level + level) (word_text l.word) (behind_word number l) (is_word l.word) refl)
      ∙ some_word l.word (behind_word number l)

  pub line_level : (deepest : ℕ) → level ≤ deepest → level_of number deepest (node_text level l) ≡ Ok level
  line_level deepest h =
      let found = prefix_spaces (level + level) (words number l) in
      let none = word_indents l.word (behind_word number l) in
      ap (level_of number deepest) shape ∙ level_by number deepest level (indentation_of (spaces (level + level) ++ words number l)) (omega (arith, found, none)) h

  pub line_no_property : is_property (node_text level l) ≡ false
  line_no_property = ap is_property shape ∙ ap (λ t. bytes_eq t (codes "property")) (first_is (level + level) (word_text l.word) (behind_word number l) (is_word l.word) refl) ∙ no_property l.word

  pub line_declares : (above : Option Word) → IsNodeLine above l → declared_by number above (node_text level l) ≡ Ok (declares l)
  line_declares above is = ap (declared_by number above) shape ∙ words_read number l (level + level) above is

  pub line_is_node : is_after (node_text level l) ≡ false
  line_is_node =
      ap is_after shape
      ∙ ap (λ t. bytes_eq t (codes "after")) (first_is (level + level) (word_text l.word) (behind_word number l) (is_word l.word) refl)
      ∙ no_after l.word
