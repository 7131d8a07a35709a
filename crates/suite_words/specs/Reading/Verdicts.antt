-- The verdict of a line, and what it has the node's body end with.
use Rattle.std.specs.Prelude.{ℕ, List, length, ◌==◌, codes, if◌then◌else◌, Option, Some, None, Result, Ok, Err}
use Rattle.std.specs.Str.{bytes_eq}
use Rattle.plan_events.specs.declared.status.Status.{Status}
use Rattle.plan_events.specs.declared.status.Status.TheVariants.{Successful, Failed, Aborted}
use Rattle.suite_words.specs.declared.suite.words.Word.{Word}
use Rattle.suite_words.specs.declared.suite.words.Word.TheVariants.{Engine, Class, Test, Factory, Dyn}
use Rattle.suite_words.specs.declared.suite.verdicts.Verdict.{Verdict}
use Rattle.suite_words.specs.declared.suite.verdicts.Verdict.TheVariants.{Pass, Fail, Abort, Disabled}
use Rattle.suite_words.specs.declared.suite.fault.SuiteFault.{SuiteFault}
use Rattle.suite_words.specs.declared.suite.fault.SuiteFault.TheVariants.{BadLine, MissingVerdict}

-- the verdict with this spelling
abbrev pub verdict_spelled : List ℕ → Option Verdict
verdict_spelled text =
    if bytes_eq text (codes "pass") then Some Pass
    else (if bytes_eq text (codes "fail") then Some Fail
    else (if bytes_eq text (codes "abort") then Some Abort else (if bytes_eq text (codes "disabled") then Some Disabled else None)))

-- where a line ends without one: tests, factories and dynamic tests need a verdict
abbrev pub no_verdict : ℕ → Word → Result (Option Verdict) SuiteFault
no_verdict number Engine = Ok None
no_verdict number Class = Ok None
no_verdict number Test = Err (MissingVerdict number)
no_verdict number Factory = Err (MissingVerdict number)
no_verdict number Dyn = Err (MissingVerdict number)

-- a verdict that is followed by this text: not of an engine, and with nothing after `pass`
abbrev pub verdict_with : ℕ → Word → Option Verdict → List ℕ → Result (Option Verdict) SuiteFault
verdict_with number Engine verdict text = Err (BadLine number)
verdict_with number word None text = Err (BadLine number)
verdict_with number word (Some Pass) text = if length text == 0 then Ok (Some Pass) else Err (BadLine number)
verdict_with number word (Some verdict) text = Ok (Some verdict)

-- the verdict that a token, which may be missing, and the text after it are
abbrev pub verdict_of : ℕ → Word → List ℕ → List ℕ → Result (Option Verdict) SuiteFault
verdict_of number word first text = if length first == 0 then no_verdict number word else verdict_with number word (verdict_spelled first) text

-- the status that the node's body ends with; without a verdict, and where it is disabled, the node has no body
abbrev pub status_declared : Option Verdict → Option Status
status_declared None = None
status_declared (Some Pass) = Some Successful
status_declared (Some Fail) = Some Failed
status_declared (Some Abort) = Some Aborted
status_declared (Some Disabled) = None

-- why the node is disabled, where it is
abbrev pub reason_declared : Option Verdict → List ℕ → Option (List ℕ)
reason_declared None text = None
reason_declared (Some Pass) text = None
reason_declared (Some Fail) text = None
reason_declared (Some Abort) text = None
reason_declared (Some Disabled) text = Some text
