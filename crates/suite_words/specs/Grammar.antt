-- The keywords and attributes of the grammar, each kind in one list, and how they are spelled.
use Rattle.std.specs.Prelude.{ℕ, Bool, List, [], ◌∷◌, ◌++◌, map, codes, if◌then◌else◌, Option, Some, option_map}
use Rattle.std.specs.Option.{is_some}
use Rattle.std.specs.Str.{bytes_eq}
use Rattle.descriptor.specs.declared.mode.Mode.TheVariants.{SameThread, Concurrent}
use Rattle.suite_words.specs.declared.suite.attributes.Attribute.{Attribute}
use Rattle.suite_words.specs.declared.suite.attributes.Attribute.TheVariants.{Tag, Spin, Slow, Pulls, Runs, Lock, Isolated}
use Rattle.suite_words.specs.declared.suite.line_word.LineWord.{LineWord}
use Rattle.suite_words.specs.declared.suite.line_word.LineWord.TheVariants.{Node, After, Property}
use Rattle.suite_words.specs.declared.suite.verdicts.Verdict.{Verdict}
use Rattle.suite_words.specs.declared.suite.verdicts.Verdict.TheVariants.{Pass, Fail, Abort, Disabled}
use Rattle.suite_words.specs.declared.suite.words.Word.{Word}
use Rattle.suite_words.specs.declared.suite.words.Word.TheVariants.{Engine, Class, Test, Factory, Dyn}
use Rattle.suite_words.specs.Reading.Verdicts.{status_declared}
use Rattle.suite_words.specs.Reading.Words.{word_of}
use Rattle.descriptor.specs.declared.mode.Mode.{Mode}

-- the keywords of lines that declare nodes
abbrev pub words : List Word
words = Engine ∷ Class ∷ Test ∷ Factory ∷ Dyn ∷ []

-- how one is spelled
abbrev pub word_text : Word → List ℕ
word_text Engine = codes "engine"
word_text Class = codes "class"
word_text Test = codes "test"
word_text Factory = codes "factory"
word_text Dyn = codes "dyn"

-- the keywords that a line may begin with
abbrev pub line_words : List LineWord
line_words = map Node words ++ After ∷ Property ∷ []

-- how such a keyword is spelled
abbrev pub line_word_text : LineWord → List ℕ
line_word_text (Node word) = word_text word
line_word_text After = codes "after"
line_word_text Property = codes "property"

-- the keyword that a line begins with, if it may
abbrev pub line_word_of : List ℕ → Option LineWord
line_word_of text =
    if bytes_eq text (codes "after") then Some After
    else (if bytes_eq text (codes "property") then Some Property else option_map Node (word_of text))

-- the verdicts
abbrev pub verdicts : List Verdict
verdicts = Pass ∷ Fail ∷ Abort ∷ Disabled ∷ []

-- how one is spelled
abbrev pub verdict_text : Verdict → List ℕ
verdict_text Pass = codes "pass"
verdict_text Fail = codes "fail"
verdict_text Abort = codes "abort"
verdict_text Disabled = codes "disabled"

-- whether a body ends with a verdict
abbrev pub ends_body : Verdict → Bool
ends_body verdict = is_some (status_declared (Some verdict))

-- the attributes
abbrev pub attributes : List Attribute
attributes = Tag ∷ Runs Concurrent ∷ Runs SameThread ∷ Isolated ∷ Lock ∷ Spin ∷ Pulls ∷ Slow ∷ []

-- how the attribute of a mode is spelled
abbrev pub mode_text : Mode → List ℕ
mode_text SameThread = codes "@same_thread"
mode_text Concurrent = codes "@concurrent"

-- the token that an attribute is, or what stands before its equals sign; of a tag, its sign
abbrev pub attribute_text : Attribute → List ℕ
attribute_text Tag = codes "#"
attribute_text Spin = codes "spin"
attribute_text Pulls = codes "pulls"
attribute_text Slow = codes "@slow"
attribute_text (Runs mode) = mode_text mode
attribute_text Lock = codes "lock"
attribute_text Isolated = codes "isolated"

-- the keyword of a line that may have the attribute
abbrev pub bearer : Attribute → Word
bearer Tag = Class
bearer Spin = Test
bearer Pulls = Factory
bearer Slow = Test
bearer (Runs mode) = Class
bearer Lock = Class
bearer Isolated = Class
