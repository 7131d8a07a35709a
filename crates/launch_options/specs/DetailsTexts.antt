-- What `--details` may ask for, and by which names.
use Rattle.std.specs.Prelude.{Bool, true, false, List, [], ◌∷◌, codes, if◌then◌else◌, Option, Some, None}
use Rattle.std.specs.Str.{bytes_eq}
use Rattle.launch_options.specs.Given.{Text}
use Rattle.launch_options.specs.declared.details.Details.{Details}
use Rattle.launch_options.specs.declared.details.Details.TheVariants as details

-- what `--details` asks for: there are eight, and it is the tree where it is not given
abbrev pub details_named : Option Text → Option Details
details_named None = Some details.Tree
details_named (Some name) =
    if bytes_eq name (codes "none") then Some details.None
    else (if bytes_eq name (codes "summary") then Some details.Summary
    else (if bytes_eq name (codes "tree") then Some details.Tree
    else (if bytes_eq name (codes "testfeed") then Some details.Testfeed
    else (if bytes_eq name (codes "json") then Some details.Json
    else (if bytes_eq name (codes "xml") then Some details.Xml
    else (if bytes_eq name (codes "list") then Some details.List
    else (if bytes_eq name (codes "plan") then Some details.Plan else None)))))))

-- what `--details` and `--quiet` ask for: the summary alone with the latter, beside which the former may not be given
abbrev pub details_asked : (quiet : Bool) → Option Text → Option Details
details_asked false name = details_named name
details_asked true None = Some details.Summary
details_asked true (Some name) = None

-- the name of what is printed
abbrev pub details_text : Details → Text
details_text details.None = codes "none"
details_text details.Summary = codes "summary"
details_text details.Tree = codes "tree"
details_text details.Testfeed = codes "testfeed"
details_text details.Json = codes "json"
details_text details.Xml = codes "xml"
details_text details.List = codes "list"
details_text details.Plan = codes "plan"

-- all that may be printed
abbrev pub all_details : List Details
all_details =
    details.None ∷ details.Summary ∷ details.Tree ∷ details.Testfeed ∷ details.Json ∷ details.Xml ∷ details.List ∷ details.Plan ∷ []

-- whether they are lines of events, so that each can be printed when its event is told
abbrev pub prints_live : Details → Bool
prints_live details.None = false
prints_live details.Summary = false
prints_live details.Tree = false
prints_live details.Testfeed = true
prints_live details.Json = true
prints_live details.Xml = false
prints_live details.List = false
prints_live details.Plan = false
