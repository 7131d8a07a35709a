-- A list can be named where each of its steps can, and then its text is read as it.
use Rattle.step_text.proofs.Written.{each_namable, namable_by_each, text_back}
use Rattle.step_text.proofs.writing.are_namable.Goals as goal

pub returns-clause-exact : goal.returns-clause-exact
returns-clause-exact c =
    (λ is. namable_by_each c.args.steps.now (c.each_is_namable.ensures.0 is), λ namable. c.each_is_namable.ensures.1 (each_namable c.args.steps.now namable))

pub returns-clause-read_back : goal.returns-clause-read_back
returns-clause-read_back c = λ is. text_back c.args.steps.now (namable_by_each c.args.steps.now (c.each_is_namable.ensures.0 is))
