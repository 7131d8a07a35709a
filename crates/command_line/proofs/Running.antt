-- What the arguments gave is run, or refused.
use Rattle.std.proofs.Common.{◌≡◌, ℕ, Bool, true, false, List, Option, None, Some, Result, Ok, Err, ap, refl, sym}
use Rattle.std.specs.Result.{IsErrAnd}
use Rattle.command_words.specs.Words.{ReadsWords}
use Rattle.launch_options.specs.Given.{Text}
use Rattle.launch_options.specs.declared.asked.Options.{Options}
use Rattle.launch_options.specs.declared.fault.LaunchFault.{LaunchFault}
use Rattle.launch_options.specs.declared.fault.LaunchFault.TheVariants.{BadWords}
use Rattle.run_outputs.specs.declared.exit_status.ExitStatus.{ExitStatus}
use Rattle.command_line.specs.Consoles.{IsConsoleRun}
use Rattle.command_line.specs.Runs.{waiting_said}

-- arguments that are refused
pub words_refused : {R W : Type 0} (remaining : R → Option (List ℕ)) (contents : W → Option (List ℕ)) (words : List Text) (cause : LaunchFault) (result : Result ExitStatus LaunchFault) (before : R) (left : Option (List ℕ)) (old : W) → IsErrAnd result (λ e. e ≡ cause) → ReadsWords words (Err cause)
    → IsConsoleRun remaining contents words before before left old old result
words_refused remaining contents words cause (Ok status) before left old same reads = absurd same
words_refused remaining contents words cause (Err fault) before left old same reads = record { options = Err cause; reads = reads; runs = (ap Err same, refl, refl) }

-- which reason a refusal has
pub cause_is : (result : Result Options LaunchFault) (cause : LaunchFault) → result ≡ Err cause → result ≡ Err BadWords → cause ≡ BadWords
cause_is result cause is same = cc

-- what asks for something is not refused
pub not_refused : (result : Result Options LaunchFault) (options : Options) → result ≡ Ok options → result ≡ Err BadWords → ⊥
not_refused result options is same = cc

-- nothing is said of what is waited for, where a file is named
pub named_waits : (is_typed : Bool) (suite : Option Text) (name : Text) → suite ≡ Some name → None ≡ waiting_said is_typed suite
named_waits true suite name is = ap (waiting_said true) (sym is)
named_waits false suite name is = ap (waiting_said false) (sym is)
