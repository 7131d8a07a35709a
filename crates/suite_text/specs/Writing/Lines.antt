-- How a line of a suite may be written, piece by piece, and what it says.
use Rattle.std.specs.Prelude.{◌≡◌, ◌≢◌, ◌<◌, ◌≤◌, ◌⊎◌, ℕ, zero, suc, true, false, List, [], ◌∷◌, ◌++◌, length, codes, Option, Some, None}
use Rattle.std.specs.List.{AllByRecursion, prefix_len, suffix_len}
use Rattle.std.specs.Str.{trim}
use Rattle.std.specs.Str.Parse.{digits_value}
use Rattle.tag_expr.specs.Tags.{tag_refusal}
use Rattle.tag_expr.specs.TagSets.{with_tag}
use Rattle.descriptor.specs.declared.lock_mode.LockMode.{LockMode}
use Rattle.descriptor.specs.declared.lock_mode.LockMode.TheVariants.{Read, ReadWrite}
use Rattle.descriptor.specs.declared.mode.Mode.{Mode}
use Rattle.resource_locks.specs.LockSets.{put}
use Rattle.suite_words.specs.declared.suite.words.Word.{Word}
use Rattle.suite_words.specs.declared.suite.words.Word.TheVariants.{Engine, Test, Factory, Dyn}
use Rattle.suite_words.specs.declared.suite.verdicts.Verdict.{Verdict}
use Rattle.suite_words.specs.declared.suite.verdicts.Verdict.TheVariants.{Pass}
use Rattle.suite_words.specs.declared.suite.attributes.Attributes.{Attributes}
use Rattle.suite_words.specs.Reading.Attributes.{no_attributes, takes_tags, may_declare}
use Rattle.suite_words.specs.Numbers.{is_number}
use Rattle.suite_words.specs.Reading.Words.{Declaration, may_stand}
use Rattle.suite_words.specs.Words.{is_space}
use Rattle.suite_words.specs.Grammar.{word_text, mode_text, verdict_text}

-- so many spaces
abbrev pub spaces : ℕ → List ℕ
spaces zero = []
spaces (suc n) = 32 ∷ spaces n

-- two spaces a level
abbrev pub indentation : ℕ → List ℕ
indentation zero = []
indentation (suc level) = 32 ∷ 32 ∷ indentation level

-- one byte or more, none of them a space
abbrev pub IsWord : List ℕ → Type 0
IsWord text = (0 < length text) × AllByRecursion (λ byte. is_space byte ≡ false) text

-- how a lock's mode is written: not at all, `:r` or `:rw`
pub data LockSign : Type 0 where
  Plain : LockSign
  Reads : LockSign
  Writes : LockSign

abbrev pub sign_text : LockSign → List ℕ
sign_text Plain = []
sign_text Reads = codes ":r"
sign_text Writes = codes ":rw"

abbrev pub sign_mode : LockSign → LockMode
sign_mode Plain = ReadWrite
sign_mode Reads = Read
sign_mode Writes = ReadWrite

-- a key without a sign does not end as one with a sign
abbrev pub MaySign : List ℕ → LockSign → Type 0
MaySign key Plain = ((front : List ℕ) → key ≢ front ++ codes ":r") × ((front : List ℕ) → key ≢ front ++ codes ":rw")
MaySign key sign = Unit {0}

-- an attribute: a tag, the digits of `spin`, of `@slow` or of `pulls`, a mode, a lock's key, or that the node is isolated
pub data Said : Type 0 where
  Tagged : (tag : List ℕ) → Said
  Counts : (digits : List ℕ) → Said
  Slows : (digits : List ℕ) → Said
  Registers : (digits : List ℕ) → Said
  Runs : (mode : Mode) → Said
  Locks : (key : List ℕ) → (sign : LockSign) → Said
  Alone : Said

abbrev pub said_text : Said → List ℕ
said_text (Tagged tag) = 35 ∷ tag
said_text (Counts digits) = codes "spin=" ++ digits
said_text (Slows digits) = codes "@slow=" ++ digits
said_text (Registers digits) = codes "pulls=" ++ digits
said_text (Runs mode) = mode_text mode
said_text (Locks key sign) = codes "lock=" ++ (key ++ sign_text sign)
said_text Alone = codes "isolated"

-- what it adds to what was said before it
abbrev pub said_also : Attributes → Said → Attributes
said_also before (Tagged tag) = record before { tags = with_tag before.tags (trim tag) }
said_also before (Counts digits) = record before { spin = Some (digits_value 10 digits) }
said_also before (Slows digits) = record before { slow = Some (digits_value 10 digits) }
said_also before (Runs mode) = record before { mode = Some mode }
said_also before (Locks key sign) = record before { locks = put (record { key = key; mode = sign_mode sign }) before.locks }
said_also before Alone = record before { isolated = true }
said_also before (Registers digits) = record before { pulls = Some (digits_value 10 digits) }

-- a test, or a dynamic one
abbrev pub IsTestWord : Word → Type 0
IsTestWord Test = Unit {0}
IsTestWord Dyn = Unit {0}
IsTestWord word = ⊥

-- whether a line of this keyword may say it after these: a tag, but not of a dynamic test; how far the body counts, of a test, once, and at
-- most 1,000,000; from how many milliseconds on it is slow, of a test, once, one at least and at most 86,400,000; how many tests it
-- registers, of a factory, once, and at most 4,096; a mode, once, locks and isolation, of any node but an engine and a dynamic test
abbrev pub MaySay : Word → Attributes → Said → Type 0
MaySay word before (Tagged tag) = AllByRecursion (λ byte. is_space byte ≡ false) tag × (tag_refusal tag ≡ None) × (takes_tags word ≡ true)
MaySay word before (Counts digits) = IsTestWord word × (before.spin ≡ None) × (is_number digits ≡ true) × (digits_value 10 digits ≤ 1000000)
MaySay word before (Slows digits) = IsTestWord word × (before.slow ≡ None) × (is_number digits ≡ true) × (digits_value 10 digits ≤ 86400000) × (0 < digits_value 10 digits)
MaySay word before (Registers digits) = (word ≡ Factory) × (before.pulls ≡ None) × (is_number digits ≡ true) × (digits_value 10 digits ≤ 4096)
MaySay word before (Runs mode) = (may_declare word ≡ true) × (before.mode ≡ None)
MaySay word before (Locks key sign) = (may_declare word ≡ true) × IsWord key × MaySign key sign
MaySay word before Alone = may_declare word ≡ true

-- an attribute in a line, with one space and so many more before it
pub record Attribute : Type 0 where
  pub gap : ℕ
  pub said : Said

abbrev pub attributes_text : List Attribute → List ℕ
attributes_text [] = []
attributes_text (attribute ∷ more) = spaces (suc attribute.gap) ++ (said_text attribute.said ++ attributes_text more)

-- what attributes say, after what was said before them
abbrev pub all_said : Attributes → List Attribute → Attributes
all_said before [] = before
all_said before (attribute ∷ more) = all_said (said_also before attribute.said) more

-- a line of this keyword may have them in this order
abbrev pub MaySayAll : Word → Attributes → List Attribute → Type 0
MaySayAll word before [] = Unit {0}
MaySayAll word before (attribute ∷ more) = MaySay word before attribute.said × MaySayAll word (said_also before attribute.said) more

-- a verdict and its text in a line: one space and so many more before the verdict, and so many before the text
pub record Ending : Type 0 where
  pub gap : ℕ
  pub verdict : Verdict
  pub behind : ℕ
  pub text : List ℕ

-- how a line ends: with a verdict or without, and so many spaces
abbrev pub ending_text : Option Ending → ℕ → List ℕ
ending_text None trailing = spaces trailing
ending_text (Some end) trailing = spaces (suc end.gap) ++ (verdict_text end.verdict ++ (spaces end.behind ++ (end.text ++ spaces trailing)))

-- nothing stands behind `pass`
abbrev pub MayExplain : Verdict → List ℕ → Type 0
MayExplain Pass text = text ≡ []
MayExplain verdict text = Unit {0}

-- the text begins and ends with no space, and a space is before it
pub record IsEnding (end : Ending) : Type 0 where
  pub explains : MayExplain end.verdict end.text
  pub front : prefix_len is_space end.text ≡ 0
  pub back : suffix_len is_space end.text ≡ 0
  pub apart : (end.text ≡ []) ⊎ (0 < end.behind)

-- an engine has no verdict, a class may have one, all others have one
abbrev pub MayEnd : Word → Option Ending → Type 0
MayEnd Engine (Some end) = ⊥
MayEnd Test None = ⊥
MayEnd Factory None = ⊥
MayEnd Dyn None = ⊥
MayEnd word None = Unit {0}
MayEnd word (Some end) = IsEnding end

-- a line that declares a node: its keyword, its name behind one space and so many more, its attributes, its verdict, and so many spaces
pub record NodeLine : Type 0 where
  pub word : Word
  pub gap : ℕ
  pub name : List ℕ
  pub attributes : List Attribute
  pub ending : Option Ending
  pub trailing : ℕ

-- its text on a level
abbrev pub node_text : ℕ → NodeLine → List ℕ
node_text level l = indentation level ++ (word_text l.word ++ (spaces (suc l.gap) ++ (l.name ++ (attributes_text l.attributes ++ ending_text l.ending l.trailing))))

abbrev pub verdict_said : Option Ending → Option Verdict
verdict_said None = None
verdict_said (Some end) = Some end.verdict

abbrev pub text_said : Option Ending → List ℕ
text_said None = []
text_said (Some end) = end.text

-- what it declares
abbrev pub declares : NodeLine → Declaration
declares l = record { word = l.word; name = l.name; attributes = all_said no_attributes l.attributes; verdict = verdict_said l.ending; text = text_said l.ending }

-- it may be written right below a node of this keyword, or at level 0 where there is none
pub record IsNodeLine (above : Option Word) (l : NodeLine) : Type 0 where
  pub stands : may_stand above l.word ≡ true
  pub name : IsWord l.name
  pub attributes : MaySayAll l.word no_attributes l.attributes
  pub ending : MayEnd l.word l.ending
