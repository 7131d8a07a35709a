-- How the steps of a worker are told in general: an `N` stands in place of a node's number.
use Rattle.std.specs.Prelude.{ℕ, List, [], ◌∷◌, ◌++◌, map, codes}
use Rattle.std.specs.List.{before_first}
use Rattle.scheduling.specs.declared.step.Action.{Action}
use Rattle.scheduling.specs.declared.step.Action.TheVariants.{Claim, Own, Draw, Show, Admit, Done, Settle, Look, Weigh, Take, Give, GiveUp, AddChild, Notice, Raise}
use Rattle.step_text.specs.StepSpelling.{spelled_action}
use Rattle.step_text.specs.StepTexts.{is_colon}

-- the name of what a worker does: what stands before the number of a node, if it names one
abbrev pub name_text : Action → List ℕ
name_text action = before_first is_colon (spelled_action action)

-- how it is told
abbrev pub form_text : Action → List ℕ
form_text (Claim n) = name_text (Claim n) ++ codes ":N"
form_text (Own n) = name_text (Own n) ++ codes ":N"
form_text action = name_text action

-- how all that a worker does is told, one after the other
abbrev pub forms : List (List ℕ)
forms =
    map form_text
    (Claim 0 ∷ Own 0 ∷ Draw ∷ Show ∷ Admit ∷ Done ∷ Settle ∷ Look ∷ Weigh ∷ Take ∷ Give ∷ GiveUp ∷ AddChild ∷ Notice ∷ Raise ∷ [])
