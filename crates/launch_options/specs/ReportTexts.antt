-- What `--report` asks for, which says `FORM=FILE`, and why it asks for nothing.
use Rattle.std.specs.Prelude.{ℕ, ◌==◌, ◌||◌, not, Bool, true, false, if◌then◌else◌, List, [], ◌∷◌, length, Option, Some, None}
use Rattle.std.specs.List.{list_any, before_first, after_first}
use Rattle.std.specs.Option.{is_some}
use Rattle.std.specs.Str.{bytes_eq}
use Rattle.launch_options.specs.DetailsTexts.{details_named}
use Rattle.launch_options.specs.Given.{Text}
use Rattle.launch_options.specs.declared.details.Details.{Details}
use Rattle.launch_options.specs.declared.details.Details.TheVariants as details
use Rattle.launch_options.specs.declared.fault.LaunchFault.{LaunchFault}
use Rattle.launch_options.specs.declared.fault.LaunchFault.TheVariants.{BadWords}
use Rattle.launch_options.specs.declared.reports.ReportAsked.{ReportAsked}

-- a report may have the forms of `--details` in which something of the run is told
abbrev pub is_form : Details → Bool
is_form details.None = false
is_form details.Summary = true
is_form details.Tree = true
is_form details.Testfeed = true
is_form details.Json = true
is_form details.Xml = true
is_form details.List = true
is_form details.Plan = false

abbrev pub if_form : Option Details → Option Details
if_form None = None
if_form (Some form) = if is_form form then Some form else None

-- the form of this name
abbrev pub form_named : Text → Option Details
form_named name = if_form (details_named (Some name))

abbrev pub is_equals : ℕ → Bool
is_equals byte = byte == 61

-- a form with its file, which has a name
abbrev pub with_file : Option Details → Text → Option (Details × Text)
with_file None file = None
with_file (Some form) file = if length file == 0 then None else Some (form, file)

-- the form, and the file, that a text asks for: they stand before the first equals sign and behind it
abbrev pub report_in : Text → Option (Details × Text)
report_in text =
    if list_any is_equals text
    then with_file (form_named (before_first is_equals text)) (after_first is_equals text)
    else None

-- form and file of a report that is asked for
abbrev pub parts_of : ReportAsked → Details × Text
parts_of asked = (asked.form, asked.file.now)

-- whether a text asks for no report
abbrev pub asks_for_none : Text → Bool
asks_for_none text = not (is_some (report_in text))

-- the file that a text names: what stands behind its first equals sign
abbrev pub file_of : Text → Text
file_of text = if list_any is_equals text then after_first is_equals text else []

-- whether one of these texts names this file
abbrev pub names_file : List Text → Text → Bool
names_file texts file = list_any (λ text. bytes_eq (file_of text) file) texts

-- whether two of these texts name one file
abbrev pub names_one_twice : List Text → Bool
names_one_twice [] = false
names_one_twice (text ∷ texts) = names_file texts (file_of text) || names_one_twice texts

-- whether a plan is run for these details
abbrev pub runs_plan : Details → Bool
runs_plan details.None = true
runs_plan details.Summary = true
runs_plan details.Tree = true
runs_plan details.Testfeed = true
runs_plan details.Json = true
runs_plan details.Xml = true
runs_plan details.List = false
runs_plan details.Plan = false

-- whether nothing is run of which a report could tell
abbrev pub runs_nothing : Option Text → Option Details → Bool
runs_nothing (Some steps) asked = true
runs_nothing None None = true
runs_nothing None (Some asked) = not (runs_plan asked)

-- why `--report` is refused, where such a text of a replay and such details are given too: for a text that asks for no report, a file
-- that is named twice, and where nothing is run
abbrev pub reports_refusal : List Text → Option Text → Option Details → Option LaunchFault
reports_refusal texts replay asked =
    if length texts == 0 then None
    else (if list_any asks_for_none texts || (names_one_twice texts || runs_nothing replay asked) then Some BadWords else None)
