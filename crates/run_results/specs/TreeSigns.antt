-- The signs of the tree in each theme.
use Rattle.std.specs.Prelude.{ℕ, Bool, true, false, List, [], ◌∷◌, codes}
use Rattle.plan_events.specs.declared.status.Status.{Status}
use Rattle.plan_events.specs.declared.status.Status.TheVariants.{Successful, Aborted, Failed}
use Rattle.run_results.specs.declared.theme.Theme.{Theme}
use Rattle.run_results.specs.declared.theme.Theme.TheVariants.{Unicode, Ascii}

-- what stands before a name: a branch, another one for the last sibling; in Unicode `├─ ` and `└─ `
abbrev pub branch : Theme → Bool → List ℕ
branch Unicode false = 226 ∷ 148 ∷ 156 ∷ 226 ∷ 148 ∷ 128 ∷ 32 ∷ []
branch Unicode true = 226 ∷ 148 ∷ 148 ∷ 226 ∷ 148 ∷ 128 ∷ 32 ∷ []
branch Ascii false = codes "+-- "
branch Ascii true = codes "'-- "

-- what stands for an ancestor: a bar, and blanks where the ancestor is the last sibling; in Unicode `│  ` and three spaces
abbrev pub item : Theme → Bool → List ℕ
item Unicode false = 226 ∷ 148 ∷ 130 ∷ 32 ∷ 32 ∷ []
item Unicode true = codes "   "
item Ascii false = codes "|   "
item Ascii true = codes "    "

-- how a node ended; in Unicode `✔`, `■` and `✘`
abbrev pub mark : Theme → Status → List ℕ
mark Unicode Successful = 226 ∷ 156 ∷ 148 ∷ []
mark Unicode Aborted = 226 ∷ 150 ∷ 160 ∷ []
mark Unicode Failed = 226 ∷ 156 ∷ 152 ∷ []
mark Ascii Successful = codes "[OK]"
mark Ascii Aborted = codes "[A]"
mark Ascii Failed = codes "[X]"

-- that a node was skipped; in Unicode `↷`
abbrev pub skip_mark : Theme → List ℕ
skip_mark Unicode = 226 ∷ 134 ∷ 183 ∷ []
skip_mark Ascii = codes "[S]"
