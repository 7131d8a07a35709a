-- The line behind a run of which a schedule is asked for.
use Rattle.std.specs.Prelude.{ℕ, List, ◌++◌, codes, Option, Some, None}
use Rattle.scheduling.specs.declared.step.Step.{Step}
use Rattle.step_text.specs.StepSpelling.{steps_text}
use Rattle.reports.specs.Json.{note_line}
use Rattle.junit_report.specs.XmlStrings.{comment_line}
use Rattle.launch_options.specs.declared.details.Details.{Details}
use Rattle.launch_options.specs.declared.details.Details.TheVariants as details

-- the text of steps, or that none were found
abbrev pub schedule_text : Option (List Step) → List ℕ
schedule_text None = codes "no schedule was found"
schedule_text (Some steps) = steps_text steps

-- the member of an object of JSON that has it
abbrev pub schedule_member : Option (List Step) → List ℕ
schedule_member None = codes "text"
schedule_member (Some steps) = codes "steps"

-- this text as a line, in the form of the details: an object of JSON with this member, a comment of XML, or a line of its own
abbrev pub line_by : Details → List ℕ → List ℕ → List ℕ
line_by details.None name text = text ++ codes "\n"
line_by details.Summary name text = text ++ codes "\n"
line_by details.Tree name text = text ++ codes "\n"
line_by details.Testfeed name text = text ++ codes "\n"
line_by details.Json name text = note_line (codes "schedule") name text
line_by details.Xml name text = comment_line text
line_by details.List name text = text ++ codes "\n"
line_by details.Plan name text = note_line (codes "schedule") name text

-- the line of a schedule
abbrev pub schedule_line : Details → Option (List Step) → List ℕ
schedule_line kind found = line_by kind (schedule_member found) (schedule_text found)
