-- The tokens of the steps so far.
use Rattle.std.proofs.Common.{◌≡◌, ◌++◌, codes, take, string_bytes}
use Rattle.std.specs.List.{flat_map}
use Rattle.step_text.specs.StepSpelling.{spelled_step}
use Rattle.step_text.proofs.writing.push_others.Given as goal

abbrev pub invariant-loop-step : goal.invariant-loop-step
invariant-loop-step l = string_bytes l.text ≡ string_bytes l.initial.text ++ flat_map (λ step. codes " " ++ spelled_step step) (take l.step-index l.steps)
