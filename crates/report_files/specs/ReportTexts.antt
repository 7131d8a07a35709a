-- What a report holds.
use Rattle.std.specs.Prelude.{ℕ, List, ◌++◌}
use Rattle.job_times.specs.Timings.{Times}
use Rattle.launch_options.specs.declared.details.Details.{Details}
use Rattle.run_outputs.specs.Outputs.{details_of}
use Rattle.run_outputs.specs.WarningTexts.{beginning}
use Rattle.run_results.specs.declared.theme.Theme.{Theme}
use Rattle.report_files.specs.Told.{ToldParts}

-- what an output of this form begins with, as a document of XML with its declaration, and the run in this form, with these times; no
-- warning, and no schedule
abbrev pub report_of : Details → Theme → ToldParts → Times → List ℕ
report_of form theme told times = beginning form ++ details_of form theme told.plan told.texts times told.events
