-- The line `after`: how the after-body of a class ends.
use Rattle.std.specs.Prelude.{ℕ, List, codes, Bool, Option, Some, None, Result, Ok, Err}
use Rattle.std.specs.Str.{bytes_eq}
pub use Rattle.descriptor.specs.Bodies.{after_body}
use Rattle.plan_events.specs.declared.status.Status.{Status}
use Rattle.suite_words.specs.declared.suite.fault.SuiteFault.{SuiteFault}
use Rattle.suite_words.specs.declared.suite.fault.SuiteFault.TheVariants.{BadLine}
use Rattle.suite_words.specs.declared.suite.words.Word.TheVariants.{Test}
use Rattle.unique_id.specs.Answers.{◌>>=◌}
use Rattle.suite_words.specs.Reading.Lines.{first_word, text_after_word}
use Rattle.suite_words.specs.Reading.Verdicts.{verdict_of, status_declared}

-- whether a line is an after-body's
abbrev pub is_after : List ℕ → Bool
is_after line = bytes_eq (first_word line) (codes "after")

-- how a body ends, which has to have a status
abbrev pub ended : ℕ → Option Status → List ℕ → Result (Status × List ℕ) SuiteFault
ended number None text = Err (BadLine number)
ended number (Some status) text = Ok (status, text)

-- how the body ends, by what follows the keyword `after`: a verdict as that of a test, but not `disabled`
abbrev pub after_said : ℕ → List ℕ → Result (Status × List ℕ) SuiteFault
after_said number rest = verdict_of number Test (first_word rest) (text_after_word rest) >>= (λ verdict. ended number (status_declared verdict) (text_after_word rest))
