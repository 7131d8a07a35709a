-- From the arguments that the system gave to what is done.
use Rattle.std.proofs.Common.{◌≡◌, List, map, IfErr, Result, Ok, Err, subst, sym}
use Rattle.launch_options.specs.Given.{Text}
use Rattle.command_words.specs.Expansions.{IsWhole, StandsFor}
use Rattle.word_files.specs.declared.facts.Facts.{Facts}

-- the arguments that are listed are those that others stand for
pub listed_expanded : {X : Type 0} (text : X → Text) (facts : Facts) (words : List Text) (all listed : List X) → listed ≡ all → IsWhole facts words (map text all) → StandsFor facts words (Ok (map text listed))
listed_expanded {X = X} text facts words all listed value is = subst (λ (items : List X). IsWhole facts words (map text items)) (sym value) is

-- where the system gave no arguments
pub if_err : {G F : Type 0} {P Q : F → Type 0} (words : Result G F) → IfErr words P → ((error : F) → P error → Q error) → IfErr words Q
if_err (Ok some) is gives = tt
if_err (Err error) is gives = gives error is
