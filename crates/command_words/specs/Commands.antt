-- The program's options, as clap is told of them.
use Rattle.std.specs.Prelude.{ℕ, List, [], ◌∷◌, codes, fold, true, Option, Some, None}
use Rattle.clap.specs.Simple.{new_shape}
use Rattle.clap.specs.Words.{App, Rule, new_rule, with_rule}
use Rattle.clap.specs.declared.builder.action.ArgAction.TheVariants.{Append, SetTrue}
use Rattle.command_words.specs.declared.option_names.OptionForm.{OptionForm}
use Rattle.command_words.specs.declared.option_names.OptionForm.TheVariants.{Flag, Single, Repeated}
use Rattle.command_words.specs.declared.option_names.ProgramOption.{ProgramOption}

-- an option with one value, for which help has a name, that is given once
abbrev pub single : List ℕ → Rule
single name = record (new_rule name) { long = Some name; value_names = 1 }

-- an option with one value, in the same way, that may be given again
abbrev pub repeated : List ℕ → Rule
repeated name = record (new_rule name) { long = Some name; action = Some Append; value_names = 1 }

-- an option without a value, that is given once
abbrev pub flag : List ℕ → Rule
flag name = record (new_rule name) { long = Some name; action = Some SetTrue }

-- an option of this name and form
abbrev pub rule_by : List ℕ → OptionForm → Rule
rule_by name Flag = flag name
rule_by name (Single value) = single name
rule_by name (Repeated value) = repeated name

-- an option for which this letter stands behind one dash
abbrev pub with_letter : (letter : ℕ) → Rule → Rule
with_letter letter rule = record rule { short = Some letter }

-- an option for which this letter stands behind one dash, if there is such a letter
abbrev pub maybe_lettered : (letter : Option ℕ) → Rule → Rule
maybe_lettered None rule = rule
maybe_lettered (Some letter) rule = with_letter letter rule

-- an option as the program tells it
abbrev pub rule_told : ProgramOption → Rule
rule_told told = maybe_lettered told.letter (rule_by told.name.now told.form)

-- the options that say which nodes run, and those that look at the names of tests
abbrev pub selecting : List Rule
selecting = repeated (codes "select-unique-id")
    ∷ repeated (codes "select-class")
    ∷ repeated (codes "select-method")
    ∷ repeated (codes "select-package")
    ∷ with_letter 107 (repeated (codes "include-name"))
    ∷ repeated (codes "exclude-name")
    ∷ []

-- those that leave nodes out, and all but what is to be run again
abbrev pub excluding : List Rule
excluding = repeated (codes "exclude-unique-id")
    ∷ repeated (codes "exclude-class")
    ∷ repeated (codes "exclude-method")
    ∷ repeated (codes "exclude-package")
    ∷ repeated (codes "rerun")
    ∷ []

-- those that say which tags run, which shard, and in which order
abbrev pub filtering : List Rule
filtering = repeated (codes "include-tag")
    ∷ repeated (codes "exclude-tag")
    ∷ single (codes "shard")
    ∷ single (codes "seed")
    ∷ []

-- those that say which suite, and with which settings
abbrev pub configuring : List Rule
configuring = single (codes "suite")
    ∷ single (codes "most-nodes")
    ∷ repeated (codes "config")
    ∷ repeated (codes "system")
    ∷ []

-- those that say how much runs side by side
abbrev pub running : List Rule
running = single (codes "processors")
    ∷ with_letter 106 (single (codes "workers"))
    ∷ single (codes "ring")
    ∷ []

-- those that say what is printed of what happened
abbrev pub printing : List Rule
printing = single (codes "details")
    ∷ with_letter 113 (flag (codes "quiet"))
    ∷ single (codes "details-theme")
    ∷ repeated (codes "report")
    ∷ flag (codes "times")
    ∷ []

-- those that say how a run ends
abbrev pub ending : List Rule
ending = flag (codes "fail-if-no-tests")
    ∷ with_letter 120 (flag (codes "fail-fast"))
    ∷ single (codes "max-fail")
    ∷ []

-- those that say which steps are told, and which are taken
abbrev pub replaying : List Rule
replaying = flag (codes "schedule")
    ∷ single (codes "replay")
    ∷ flag (codes "fail-if-passed-over")
    ∷ single (codes "drive")
    ∷ []

-- the command with some more options
abbrev pub with_rules : App → List Rule → App
with_rules app rules = fold with_rule app rules

-- the program without its options; it has a version
abbrev pub bare_program : App
bare_program = record { top = record (new_shape (codes "console")) { has_version = true }; subs = [] }

-- the program and all of its options, of which some have a letter: j (106), k (107), q (113) and x (120)
abbrev pub program : App
program = fold with_rules bare_program (selecting ∷ excluding ∷ filtering ∷ configuring ∷ running ∷ printing ∷ ending ∷ replaying ∷ [])
