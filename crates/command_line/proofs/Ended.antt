-- What is said of an answer.
use Rattle.std.proofs.Common.{◌≡◌, ℕ, Bool, List, length, take, string_bytes, Option, Some, None, IfOk, Result, Ok, Err, inl, inr, refl, sym, subst}
use Rattle.std.specs.Prelude.{option_map}
use Rattle.std.specs.Io.KnownBytes.{Appends}
use Rattle.std.specs.Result.{result_ok}
use Rattle.std.proofs.Math.Seq.{take-length}
use Rattle.run_results.specs.Sending.{SendsExactly}
use Rattle.run_results.specs.declared.to_writer.WriteFault.{WriteFault}
use Rattle.run_outputs.specs.declared.exit_status.ExitStatus.{ExitStatus}
use Rattle.launch_options.specs.declared.fault.LaunchFault.{LaunchFault}
use Rattle.messages.specs.Messages.{message_text}
use Rattle.messages.specs.Sentences.{Sentences}
use Rattle.messages.specs.declared.message.Message.{Message}
use Rattle.command_line.specs.Runs.{Closes, ClosesRun, HasMessage, PrintsMessage, SaysAll, SaysIfRun, SaysOfRun, SaysSome, SaysText, SaysWhy, WentOut, steps_said}
use Rattle.command_line.specs.declared.closing.Ending.{Ending}

module _ {E : Type 0} (sentence : Sentences) (said : E → Option (List ℕ)) (quiet told : E) (all : Bool) where
  -- the message that is printed is the answer's
  pub says_why : (answer : Result ExitStatus LaunchFault) (message : Option Message) → HasMessage sentence answer message → PrintsMessage said message quiet told all → SaysWhy said sentence answer quiet told all
  says_why (Ok status) message none prints = (quiet, quiet, inl refl, inl refl, inl (subst (λ (m : Option Message). PrintsMessage said m quiet told all) none prints))
  says_why (Err fault) None has prints = absurd has
  says_why (Err fault) (Some m) has prints =
      (string_bytes m.details, subst (λ (text : List ℕ). WentOut all (said quiet) (said told) (message_text text (string_bytes m.details))) has prints)

  -- and where nothing was refused there is none, so nothing is said
  pub says_nothing : (answer : Result ExitStatus LaunchFault) (message : Option Message) → HasMessage sentence answer message → PrintsMessage said message quiet told all → IfOk answer (λ status. told ≡ quiet)
  says_nothing (Ok status) message none prints = subst (λ (m : Option Message). PrintsMessage said m quiet told all) none prints
  says_nothing (Err fault) message has prints = tt

module _ {E : Type 0} (said : E → Option (List ℕ)) (old new : E) where
  -- a text that was handed to the writer stands there as far as this took it
  pub so_far : (text bytes : List ℕ) (result : Result (Unit {0}) WriteFault) → bytes ≡ text → SendsExactly (said old) (said new) bytes result → SaysText said (Some text) old new
  so_far text bytes (Ok done) is sent =
      (length bytes, subst (λ (l : List ℕ). Appends (said old) (said new) (take (length bytes) l)) is (subst (Appends (said old) (said new)) (sym (take-length bytes)) sent))
  so_far text bytes (Err fault) is sent = (fault.sent, subst (λ (l : List ℕ). Appends (said old) (said new) (take fault.sent l)) is sent.1)

  -- a text that says this of a value, if there was memory for it
  pub says_some : {T X Fault : Type 0} (bytes : T → List ℕ) (text : X → List ℕ) (x : X) (made : Result T Fault) (handed : Option T) → handed ≡ result_ok made → IfOk made (λ t. bytes t ≡ text x)
      → SaysText said (option_map bytes handed) old new → SaysSome said text old new
  says_some {T = T} {Fault = Fault} bytes text x made handed same is says = by_made made is (subst (λ (h : Option T). SaysText said (option_map bytes h) old new) same says)
    where
      by_made : (made : Result T Fault) → IfOk made (λ t. bytes t ≡ text x) → SaysText said (option_map bytes (result_ok made)) old new → SaysSome said text old new
      by_made (Ok t) is says = inr (x, says.0, subst (λ (l : List ℕ). Appends (said old) (said new) (take says.0 l)) is says.1)
      by_made (Err fault) is says = inl says

-- what is said of a run stands behind what is said of its answer, which is nothing
pub closes_run : {W E : Type 0} (sentence : Sentences) (contents : W → Option (List ℕ)) (said : E → Option (List ℕ)) (answer : Result ExitStatus LaunchFault) (slowest : Option (List ℕ)) (old new : W) (quiet told last : E) (ending : Ending)
    → Closes sentence contents said answer old new quiet told ending → IfOk answer (λ status. told ≡ quiet) → SaysIfRun (λ status. SaysAll said (steps_said status) slowest) answer told last → ClosesRun sentence contents said answer slowest old new quiet last ending
closes_run {E = E} sentence contents said (Ok status) slowest old new quiet told last ending closes same all = record {
  before = all.0;
  warned = all.1;
  closes = record {
    line = closes.line;
    message = subst (λ (e : E). SaysOfRun said e all.0) same all.2;
    status = closes.status;
  };
  passed_over = all.3;
  listed = all.4;
}
closes_run sentence contents said (Err fault) slowest old new quiet told last ending closes same all = record {
  before = told;
  warned = told;
  closes = closes;
  passed_over = refl;
  listed = all;
}
