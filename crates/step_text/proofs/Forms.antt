-- Each step of a worker is told by one of the forms.
use Rattle.std.proofs.Common.{refl, arith}
use Rattle.std.specs.List.{Contains}
use Rattle.scheduling.specs.declared.step.Action.{Action}
use Rattle.scheduling.specs.declared.step.Action.TheVariants.{Claim, Own, Draw, Show, Admit, Done, Settle, Look, Weigh, Take, Give, GiveUp, AddChild, Notice, Raise}
use Rattle.step_text.specs.StepForms.{forms, form_text}

pub each_form : (action : Action) → Contains forms (form_text action)
each_form (Claim n) = (0, omega arith, refl)
each_form (Own n) = (1, omega arith, refl)
each_form Draw = (2, omega arith, refl)
each_form Show = (3, omega arith, refl)
each_form Admit = (4, omega arith, refl)
each_form Done = (5, omega arith, refl)
each_form Settle = (6, omega arith, refl)
each_form Look = (7, omega arith, refl)
each_form Weigh = (8, omega arith, refl)
each_form Take = (9, omega arith, refl)
each_form Give = (10, omega arith, refl)
each_form GiveUp = (11, omega arith, refl)
each_form AddChild = (12, omega arith, refl)
each_form Notice = (13, omega arith, refl)
each_form Raise = (14, omega arith, refl)
