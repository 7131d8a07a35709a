-- What of a line is judged before memory is taken for it.
use Rattle.std.specs.Prelude.{ℕ, ◌==◌, List, length, if◌then◌else◌, Option, Result, Ok, Err}
use Rattle.config_params.specs.declared.fault.ParamsFault.{ParamsFault}
use Rattle.config_params.specs.Pairs.{Pair, property_of}
use Rattle.suite_words.specs.declared.suite.fault.SuiteFault.{SuiteFault}
use Rattle.suite_words.specs.declared.suite.fault.SuiteFault.TheVariants.{BadLine}
use Rattle.suite_words.specs.declared.suite.words.Word.{Word}
use Rattle.unique_id.specs.Answers.{◌>>=◌}
use Rattle.suite_words.specs.Reading.Faults.{of_property}
use Rattle.suite_words.specs.Reading.Lines.{first_word, after_word}
use Rattle.suite_words.specs.Reading.Words.{word_of, placed}

-- no fault, or the first one
abbrev pub Judged : Type 0
Judged = Result (Unit {0}) SuiteFault

-- of a property's line all: its key and its value
abbrev pub judged_pair : Result (Option Pair) ParamsFault → Judged
judged_pair (Ok pair) = Ok tt
judged_pair (Err fault) = Err (of_property fault)

abbrev pub judged_property : ℕ → List ℕ → Judged
judged_property number line = judged_pair (property_of number (after_word line))

-- of a node's line that its keyword may stand there, and that it has a name
abbrev pub judged_name : ℕ → List ℕ → Judged
judged_name number rest = if length (first_word rest) == 0 then Err (BadLine number) else Ok tt

abbrev pub judged_node : ℕ → Option Word → List ℕ → List ℕ → Judged
judged_node number above first rest = placed number above (word_of first) >>= (λ word. judged_name number rest)
