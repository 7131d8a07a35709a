-- What the cut arguments ask for, or why they are refused.
use Rattle.std.proofs.Common.{◌≡◌, ◌≢◌, ◌∙◌, map, IfErr, IfOk, List, Result, Ok, Err, ap, ap₂, subst, sym}
use Rattle.std.specs.Prelude.{None, Some}
use Rattle.std.specs.List.{filter_map}
use Rattle.std.specs.Result.{IsErrAnd}
use Rattle.clap.specs.Words.{Text}
use Rattle.launch_options.specs.Asked.{AreAsked, asked_by, refusal_of}
use Rattle.launch_options.specs.Given.{Values, maybe_behind}
use Rattle.launch_options.specs.ReportTexts.{parts_of, report_in}
use Rattle.launch_options.specs.declared.asked.Options.{Options}
use Rattle.launch_options.specs.declared.fault.LaunchFault.{LaunchFault}
use Rattle.launch_options.specs.declared.fault.LaunchFault.TheVariants.{NoMemory}
use Rattle.command_words.specs.Launches.{options_in}
use Rattle.command_words.specs.Words.{AsksCut, CutsWords, ReadsWords, reports_wanted, suite_wanted, values_given, where_faultless, words_refusal}
use Rattle.command_words.specs.declared.launch.Launch.{Launch}

-- what is asked for by values that clap cut
asks_cut : (values : Values) (result : Result Options LaunchFault) → IfOk result (λ options. AreAsked values (asked_by options)) → IfOk result (λ options. refusal_of values ≡ None)
    → IfErr result (λ fault. fault ≢ NoMemory → refusal_of values ≡ Some fault) → IfErr result (λ fault. fault ≡ NoMemory → refusal_of values ≡ None) → AsksCut (Ok values) result
asks_cut values (Ok options) asked accepted refused no_memory = record { accepted = accepted; asked = asked }
asks_cut values (Err fault) asked accepted refused no_memory = record { refused = refused; no_memory = no_memory }

module _ (words : List Text) where
  pub reads_cut : (values : Values) (result : Result Options LaunchFault) → CutsWords words (Ok values) → IfOk result (λ options. AreAsked values (asked_by options)) → IfOk result (λ options. refusal_of values ≡ None)
      → IfErr result (λ fault. fault ≢ NoMemory → refusal_of values ≡ Some fault) → IfErr result (λ fault. fault ≡ NoMemory → refusal_of values ≡ None) → ReadsWords words result
  reads_cut values result cuts asked accepted refused no_memory = record { cut = Ok values; cuts = cuts; asks = asks_cut values result asked accepted refused no_memory }

  -- arguments that clap takes are judged as the values are that it found
  judged : (values : Values) → CutsWords words (Ok values) → words_refusal words ≡ refusal_of values
  judged values cuts = ap₂ where_faultless cuts.1 (ap refusal_of (sym cuts.0))

  pub asked_of : (values : Values) (result : Result Options LaunchFault) → CutsWords words (Ok values) → IfOk result (λ options. AreAsked values (asked_by options))
      → IfOk result (λ options. AreAsked (values_given words) (asked_by options))
  asked_of values (Ok options) cuts asked = subst (λ (v : Values). AreAsked v (asked_by options)) cuts.0 asked
  asked_of values (Err fault) cuts asked = tt

  pub accepted_of : (values : Values) (result : Result Options LaunchFault) → CutsWords words (Ok values) → IfOk result (λ options. refusal_of values ≡ None)
      → IfOk result (λ options. words_refusal words ≡ None)
  accepted_of values (Ok options) cuts accepted = judged values cuts ∙ accepted
  accepted_of values (Err fault) cuts accepted = tt

  pub refused_of : (values : Values) (result : Result Options LaunchFault) → CutsWords words (Ok values)
      → IfErr result (λ fault. fault ≢ NoMemory → refusal_of values ≡ Some fault) → IfErr result (λ fault. fault ≢ NoMemory → words_refusal words ≡ Some fault)
  refused_of values (Ok options) cuts refused = tt
  refused_of values (Err fault) cuts refused = λ other. judged values cuts ∙ refused other

  -- what clap refuses is refused
  pub reads_uncut : (cause : LaunchFault) (result : Result Options LaunchFault) → IsErrAnd result (λ e. e ≡ cause) → CutsWords words (Err cause) → ReadsWords words result
  reads_uncut cause (Ok options) same cuts = absurd same
  reads_uncut cause (Err fault) same cuts = record { cut = Err cause; cuts = cuts; asks = ap Err same }

  -- options with reports are judged as the values are that were cut
  pub launch_cut : (values : Values) (result : Result Launch LaunchFault) → CutsWords words (Ok values) → IfOk result (λ launch. AreAsked values (asked_by launch.options)) → IfOk result (λ launch. refusal_of values ≡ None)
      → IfErr result (λ fault. fault ≢ NoMemory → refusal_of values ≡ Some fault) → IfErr result (λ fault. fault ≡ NoMemory → refusal_of values ≡ None) → ReadsWords words (options_in result)
  launch_cut values (Ok launch) cuts asked accepted refused no_memory = reads_cut values (Ok launch.options) cuts asked accepted refused no_memory
  launch_cut values (Err fault) cuts asked accepted refused no_memory = reads_cut values (Err fault) cuts asked accepted refused no_memory

  pub launch_uncut : (cause : LaunchFault) (result : Result Launch LaunchFault) → IsErrAnd result (λ e. e ≡ cause) → CutsWords words (Err cause) → ReadsWords words (options_in result)
  launch_uncut cause (Ok launch) same cuts = absurd same
  launch_uncut cause (Err fault) same cuts = reads_uncut cause (Err fault) same cuts

  pub reports_of : (values : Values) (result : Result Launch LaunchFault) → values ≡ values_given words → IfOk result (λ launch. map parts_of launch.reports.items ≡ filter_map report_in values.reports) → IfOk result (λ launch. map parts_of launch.reports.items ≡ reports_wanted words)
  reports_of values (Ok launch) same is = is ∙ ap (λ (v : Values). filter_map report_in v.reports) same
  reports_of values (Err fault) same is = tt

  pub suite_of : (values : Values) (result : Result Launch LaunchFault) → values ≡ values_given words → IfOk result (λ launch. maybe_behind launch.suite ≡ values.suite) → IfOk result (λ launch. maybe_behind launch.suite ≡ suite_wanted words)
  suite_of values (Ok launch) same is = is ∙ ap (λ (v : Values). v.suite) same
  suite_of values (Err fault) same is = tt
