-- A number of workers that is refused, and the arguments that one stands for.
use Rattle.std.proofs.Common.{◌≡◌, ℕ, Option, Some, None, IfErr, Result, Ok, Err, refl, ap, sym, ◌∙◌}
use Rattle.std.specs.Prelude.{option_map}
use Rattle.std.specs.Result.{IsErrAnd}
use Rattle.launch_options.specs.Asked.{unless_named}
use Rattle.launch_options.specs.declared.fault.LaunchFault.{LaunchFault}

same_refusal : (named : Option ℕ) → unless_named named ≡ unless_named (option_map (λ (n : ℕ). Some n) named)
same_refusal None = refl
same_refusal (Some number) = refl

-- a text that is no number of workers
pub no_crew : {X : Type 0} (named : Option ℕ) (cause : LaunchFault) (result : Result X LaunchFault) → IsErrAnd result (λ e. e ≡ cause) → unless_named named ≡ Some cause
    → IfErr result (λ fault. unless_named (option_map (λ (n : ℕ). Some n) named) ≡ Some fault)
no_crew named cause (Ok x) same is = absurd same
no_crew named cause (Err e) same is = sym (same_refusal named) ∙ is ∙ ap Some (sym same)
