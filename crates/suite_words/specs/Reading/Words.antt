-- What the tokens of a line declare.
use Rattle.std.specs.Prelude.{ℕ, List, length, ◌==◌, codes, Bool, true, false, if◌then◌else◌, Option, Some, None, Result, Ok, Err}
use Rattle.std.specs.Str.{bytes_eq}
use Rattle.suite_words.specs.declared.suite.words.Word.{Word}
use Rattle.suite_words.specs.declared.suite.words.Word.TheVariants.{Engine, Class, Test, Factory, Dyn}
use Rattle.suite_words.specs.declared.suite.words.Declared.{Declared}
use Rattle.suite_words.specs.declared.suite.attributes.Attributes.{Attributes}
use Rattle.suite_words.specs.declared.suite.verdicts.Verdict.{Verdict}
use Rattle.suite_words.specs.declared.suite.fault.SuiteFault.{SuiteFault}
use Rattle.suite_words.specs.declared.suite.fault.SuiteFault.TheVariants.{BadLine}
use Rattle.unique_id.specs.Answers.{◌>>=◌}
use Rattle.suite_words.specs.Reading.Attributes.{attributes_of}
use Rattle.suite_words.specs.Reading.Lines.{first_word, after_word, text_after_word}
use Rattle.suite_words.specs.Reading.Verdicts.{verdict_of}

-- the node that a line declares; `text` is what follows its verdict
pub record Declaration : Type 0 where
  pub word : Word
  pub name : List ℕ
  pub attributes : Attributes
  pub verdict : Option Verdict
  pub text : List ℕ

-- what a line declares, without where its texts lie in memory
abbrev pub declaration_of : Declared → Declaration
declaration_of d = record { word = d.word; name = d.name.now; attributes = d.attributes; verdict = d.verdict; text = d.text.now }

-- the keyword with this spelling
abbrev pub word_of : List ℕ → Option Word
word_of text =
    if bytes_eq text (codes "engine") then Some Engine
    else (if bytes_eq text (codes "class") then Some Class
    else (if bytes_eq text (codes "test") then Some Test
    else (if bytes_eq text (codes "factory") then Some Factory else (if bytes_eq text (codes "dyn") then Some Dyn else None))))

-- whether a keyword may stand right below a node of the first keyword, or at level 0 where there is none
abbrev pub may_stand : Option Word → Word → Bool
may_stand None Engine = true
may_stand (Some Engine) Class = true
may_stand (Some Class) Class = true
may_stand (Some Class) Test = true
may_stand (Some Class) Factory = true
may_stand (Some Factory) Dyn = true
may_stand above word = false

-- a keyword that may stand right below a node of the first keyword
abbrev pub placed : ℕ → Option Word → Option Word → Result Word SuiteFault
placed number above None = Err (BadLine number)
placed number above (Some word) = if may_stand above word then Ok word else Err (BadLine number)

-- what a node of this keyword, name and attributes is declared as by what is left of its line
abbrev pub with_verdict : ℕ → Word → List ℕ → Attributes → List ℕ → Result Declaration SuiteFault
with_verdict number word name attributes rest =
    verdict_of number word (first_word rest) (text_after_word rest)
    >>= (λ verdict. Ok (record { word = word; name = name; attributes = attributes; verdict = verdict; text = text_after_word rest }))

-- what a node of this keyword and name is declared as by what is left of its line, from its attributes on
abbrev pub with_attributes : ℕ → Word → List ℕ → List ℕ → Result Declaration SuiteFault
with_attributes number word name rest = attributes_of number word rest >>= (λ read. with_verdict number word name read.0 read.1)

-- what a node of this keyword is declared as by what is left of its line, from its name on
abbrev pub with_name : ℕ → Word → List ℕ → Result Declaration SuiteFault
with_name number word rest = if length (first_word rest) == 0 then Err (BadLine number) else with_attributes number word (first_word rest) (after_word rest)

-- what a keyword declares right below a node of the keyword above, with what follows it on its line
abbrev pub declared_as : ℕ → Option Word → List ℕ → List ℕ → Result Declaration SuiteFault
declared_as number above first rest = placed number above (word_of first) >>= (λ word. with_name number word rest)

-- what a line declares right below a node of this keyword
abbrev pub declared_by : ℕ → Option Word → List ℕ → Result Declaration SuiteFault
declared_by number above line = declared_as number above (first_word line) (after_word line)
