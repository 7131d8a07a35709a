-- What stands before the details of a run: its warnings.
use Rattle.std.specs.Prelude.{ℕ, List, [], ◌++◌, codes}
use Rattle.std.specs.List.{flat_map}
use Rattle.config_params.specs.Settings.{keys_of}
use Rattle.config_params.specs.declared.warnings.Warnings.{Warnings}
use Rattle.reports.specs.Json.{note_line}
use Rattle.junit_report.specs.XmlStrings.{comment_line, declaration}
use Rattle.launch_options.specs.declared.details.Details.{Details}
use Rattle.launch_options.specs.declared.details.Details.TheVariants as details

-- the line of a key that is warned of, in the form of the details: an object of JSON, a comment of XML, or a line of its own
abbrev pub warning_line : Details → List ℕ → List ℕ
warning_line details.None key = codes "WARNING " ++ (key ++ codes "\n")
warning_line details.Summary key = codes "WARNING " ++ (key ++ codes "\n")
warning_line details.Tree key = codes "WARNING " ++ (key ++ codes "\n")
warning_line details.Testfeed key = codes "WARNING " ++ (key ++ codes "\n")
warning_line details.Json key = note_line (codes "warning") (codes "key") key
warning_line details.Xml key = comment_line (codes "WARNING " ++ key)
warning_line details.List key = codes "WARNING " ++ (key ++ codes "\n")
warning_line details.Plan key = note_line (codes "warning") (codes "key") key

-- what an output begins with, whatever is warned of: a document of XML with its declaration
abbrev pub beginning : Details → List ℕ
beginning details.None = []
beginning details.Summary = []
beginning details.Tree = []
beginning details.Testfeed = []
beginning details.Json = []
beginning details.Xml = declaration
beginning details.List = []
beginning details.Plan = []

-- that, and a line for each key whose value is no mode
abbrev pub head_of : Details → Warnings → List ℕ
head_of kind warnings = beginning kind ++ flat_map (warning_line kind) (keys_of warnings)
