-- How steps are written.
use Rattle.std.specs.Prelude.{ℕ, ◌≤◌, List, [], ◌∷◌, ◌++◌, codes}
use Rattle.std.specs.Fmt.{decimal}
use Rattle.std.specs.List.{join_by}
use Rattle.scheduling.specs.declared.step.Action.{Action}
use Rattle.scheduling.specs.declared.step.Action.TheVariants.{Claim, Own, Draw, Show, Admit, Done, Settle, Look, Weigh, Take, Give, GiveUp, AddChild, Notice, Raise}
use Rattle.scheduling.specs.declared.step.Step.{Step}
use Rattle.scheduling.specs.declared.step.Step.TheVariants.{Worker, Read}

-- what a worker does
abbrev pub spelled_action : Action → List ℕ
spelled_action (Claim n) = codes "claim:" ++ decimal n
spelled_action (Own n) = codes "own:" ++ decimal n
spelled_action Draw = codes "draw"
spelled_action Show = codes "show"
spelled_action Admit = codes "admit"
spelled_action Done = codes "done"
spelled_action Settle = codes "settle"
spelled_action Look = codes "look"
spelled_action Weigh = codes "weigh"
spelled_action Take = codes "take"
spelled_action Give = codes "give"
spelled_action GiveUp = codes "give_up"
spelled_action AddChild = codes "add_child"
spelled_action Notice = codes "notice"
spelled_action Raise = codes "raise"

-- a step: the dispatcher's reading, or a worker's number and what it does
abbrev pub spelled_step : Step → List ℕ
spelled_step Read = codes "d:read"
spelled_step (Worker k a) = codes "w" ++ (decimal k ++ (codes ":" ++ spelled_action a))

-- the text of steps: their tokens, with a blank between each two
abbrev pub steps_text : List Step → List ℕ
steps_text steps = join_by spelled_step (codes " ") steps

-- the node that a step names, if any, is one that a text can name
abbrev pub NamesNode : Action → Type 0
NamesNode (Claim n) = n ≤ 65535
NamesNode (Own n) = n ≤ 65535
NamesNode _ = Unit {0}

-- a step that a text can name: the worker's number is from 1 to 64
abbrev pub IsNamable : Step → Type 0
IsNamable Read = Unit {0}
IsNamable (Worker k a) = (1 ≤ k) × (k ≤ 64) × NamesNode a

-- all of these steps
abbrev pub AreNamable : List Step → Type 0
AreNamable [] = Unit {0}
AreNamable (s ∷ more) = IsNamable s × AreNamable more
