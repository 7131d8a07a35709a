-- Each step is told by one of the forms.
use Rattle.step_text.proofs.Forms.{each_form}
use Rattle.step_text.proofs.step_names.step_forms.Goals as goal

pub returns-clause-every : goal.returns-clause-every
returns-clause-every c = each_form
