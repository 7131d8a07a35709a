-- What is said of a configuration, or of a suite, that has another effect than it seems to have.
use Rattle.std.specs.Prelude.{◌≡◌, ℕ, ◌+◌, ◌==◌, ◌||◌, Bool, true, cond, List, [], ◌++◌, codes, length, if◌then◌else◌, Option, Some, None, is_some, option_map}
use Rattle.std.specs.Fmt.{decimal}
use Rattle.std.specs.List.{flat_map}
use Rattle.std.specs.Str.{bytes_eq}
use Rattle.config_params.specs.LockKeys.{lock_limited}
use Rattle.config_params.specs.LockLimits.{limited_as_said}
use Rattle.config_params.specs.Settings.{Answers, classes_mode_key, enabled_key, factor_key, mode_key, parallelism_key, settings_of, slow_key, strategy_key}
use Rattle.messages.specs.declared.hint.Cause.{Cause}
use Rattle.messages.specs.declared.hint.Cause.TheVariants.{UnreadKey, IdleSetting, LockKey, InnerReturn, NoNode}
use Rattle.messages.specs.declared.hint.Hint.{Hint}
use Rattle.messages.specs.declared.hint.Hints.{Hints}
use Rattle.messages.specs.declared.hint.Place.{Place}
use Rattle.messages.specs.declared.hint.Place.TheVariants.{Config, System, Line, Suite}
use Rattle.resource_locks.specs.Plans.{PlanParts}
use Rattle.suite_messages.specs.Marks.{shown}

-- the keys that say how nodes run in parallel, where that is enabled
abbrev pub is_setting : List ℕ → Bool
is_setting key = bytes_eq key mode_key || (bytes_eq key classes_mode_key || (bytes_eq key strategy_key || (bytes_eq key parallelism_key || (bytes_eq key factor_key || is_some (lock_limited key)))))

-- the keys that are read
abbrev pub is_read : List ℕ → Bool
is_read key = bytes_eq key enabled_key || (bytes_eq key slow_key || is_setting key)

-- whatever other keys have for values, the settings of a run are the same, and so is each plan with the limits of its locks
abbrev pub ReadsNoOther : Type 0
ReadsNoOther = (answers others : Answers) (processors : ℕ) → ((key : List ℕ) → is_read key ≡ true → answers key ≡ others key)
    → (settings_of answers processors ≡ settings_of others processors) × ((p : PlanParts) → limited_as_said answers p ≡ limited_as_said others p)

-- why a key is worth a hint: nobody reads it; or it is one of those that change nothing but where parallel execution is enabled, and that is off
abbrev pub cause_of_key : (is_off : Bool) → List ℕ → Option Cause
cause_of_key is_off key = if is_read key then cond is_off (cond (is_setting key) (Some IdleSetting) None) None else Some UnreadKey

-- where it stands
abbrev pub place_text : Place → List ℕ
place_text Config = codes "--config"
place_text System = codes "--system"
place_text (Line number) = codes "line " ++ decimal number
place_text Suite = codes "the suite"

-- a text between quotes
abbrev pub quoted : List ℕ → List ℕ
quoted text = codes "'" ++ (shown text ++ codes "'")

-- the key that may have been meant
abbrev pub meant_text : Option (List ℕ) → List ℕ
meant_text None = []
meant_text (Some key) = codes "; did you mean '" ++ (key ++ codes "'?")

-- what is said of it
abbrev pub said_text : Cause → List ℕ → Option (List ℕ) → List ℕ
said_text UnreadKey text meant = codes "nobody reads the key " ++ (quoted text ++ meant_text meant)
said_text IdleSetting text meant = quoted text ++ codes " changes nothing, since parallel execution is off: it is on with --workers N, or with junit.jupiter.execution.parallel.enabled=true"
said_text LockKey text meant = codes "the key of this lock is " ++ (quoted text ++ codes ", since no mode stands behind it: a lock is lock=KEY, lock=KEY:r or lock=KEY:rw")
said_text InnerReturn text meant = codes "a carriage return stands inside the line, and does not end it: a line ends in LF or CR LF"
said_text NoNode text meant = codes "it is empty, so nothing was run: a suite begins with a line as 'engine NAME', and --suite FILE reads one from a file"

-- its line
abbrev pub hint_line : Hint → List ℕ
hint_line h = codes "  " ++ (place_text h.place ++ (codes ": " ++ (said_text h.cause h.text.now (option_map (λ key. key.now) h.meant) ++ codes "\n")))

-- the line that says how many others there are, if there are some
abbrev pub more_line : ℕ → List ℕ
more_line more = cond (more == 0) [] (codes "  and " ++ (decimal more ++ codes " more\n"))

-- the lines of those that are kept, below how many there are
abbrev pub hints_text : Hints → List ℕ
hints_text hints = codes "Hints (" ++ (decimal (length hints.kept.items + hints.more) ++ (codes "):\n" ++ (flat_map hint_line hints.kept.items ++ more_line hints.more)))
