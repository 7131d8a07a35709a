-- Each keyword and attribute of the grammar is listed, and is read as it is spelled.
use Rattle.std.proofs.Common.{◌≡◌, Some, refl, arith}
use Rattle.std.specs.List.{Contains}
use Rattle.descriptor.specs.declared.mode.Mode.TheVariants.{SameThread, Concurrent}
use Rattle.suite_words.specs.declared.suite.attributes.Attribute.{Attribute}
use Rattle.suite_words.specs.declared.suite.attributes.Attribute.TheVariants.{Tag, Spin, Slow, Pulls, Runs, Lock, Isolated}
use Rattle.suite_words.specs.declared.suite.line_word.LineWord.{LineWord}
use Rattle.suite_words.specs.declared.suite.line_word.LineWord.TheVariants.{Node, After, Property}
use Rattle.suite_words.specs.declared.suite.verdicts.Verdict.{Verdict}
use Rattle.suite_words.specs.declared.suite.verdicts.Verdict.TheVariants.{Pass, Fail, Abort, Disabled}
use Rattle.suite_words.specs.declared.suite.words.Word.{Word}
use Rattle.suite_words.specs.declared.suite.words.Word.TheVariants.{Engine, Class, Test, Factory, Dyn}
use Rattle.suite_words.specs.Grammar.{words, line_words, line_word_text, line_word_of, verdicts, attributes}

pub each_word : (word : Word) → Contains words word
each_word Engine = (0, omega arith, refl)
each_word Class = (1, omega arith, refl)
each_word Test = (2, omega arith, refl)
each_word Factory = (3, omega arith, refl)
each_word Dyn = (4, omega arith, refl)

pub each_line_word : (word : LineWord) → Contains line_words word
each_line_word (Node Engine) = (0, omega arith, refl)
each_line_word (Node Class) = (1, omega arith, refl)
each_line_word (Node Test) = (2, omega arith, refl)
each_line_word (Node Factory) = (3, omega arith, refl)
each_line_word (Node Dyn) = (4, omega arith, refl)
each_line_word After = (5, omega arith, refl)
each_line_word Property = (6, omega arith, refl)

pub each_verdict : (verdict : Verdict) → Contains verdicts verdict
each_verdict Pass = (0, omega arith, refl)
each_verdict Fail = (1, omega arith, refl)
each_verdict Abort = (2, omega arith, refl)
each_verdict Disabled = (3, omega arith, refl)

pub each_attribute : (attribute : Attribute) → Contains attributes attribute
each_attribute Tag = (0, omega arith, refl)
each_attribute (Runs Concurrent) = (1, omega arith, refl)
each_attribute (Runs SameThread) = (2, omega arith, refl)
each_attribute Isolated = (3, omega arith, refl)
each_attribute Lock = (4, omega arith, refl)
each_attribute Spin = (5, omega arith, refl)
each_attribute Pulls = (6, omega arith, refl)
each_attribute Slow = (7, omega arith, refl)

pub line_word_back : (word : LineWord) → line_word_of (line_word_text word) ≡ Some word
line_word_back (Node Engine) = refl
line_word_back (Node Class) = refl
line_word_back (Node Test) = refl
line_word_back (Node Factory) = refl
line_word_back (Node Dyn) = refl
line_word_back After = refl
line_word_back Property = refl
