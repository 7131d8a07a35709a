-- One line more, and the first that tells nothing.
use Rattle.std.proofs.Common.{◌≡◌, ◌∙◌, ◌+◌, ℕ, List, take, sym, ap, subst}
use Rattle.saved_runs.specs.Lines.{Tell}
use Rattle.saved_runs.specs.declared.fault.SavedFault.TheVariants.{BadLine}
use Rattle.saved_runs.specs.declared.told.Told.{Told}
use Rattle.unique_id.specs.Answers.{texts}
use Rattle.saved_runs.proofs.LinesTold.{one_more, first_bad}
use Rattle.saved_runs.proofs.saved_run.all_told.Goals as goal

-- the number that a fault names
number_in : (a b : ℕ) → (BadLine a) ≡ BadLine b → a ≡ b
number_in a b e = cc

pub returns-in_default-clause-bad : goal.returns-in_default-clause-bad
returns-in_default-clause-bad c = λ number same.
    first_bad c.args.lines.now c.loop-line.line-index _ c.loop-line.told.items number c.loop-line-test.true c.loop-line.invariant.0 (sym c.in_default.is ∙ c.in_ok-one.ensures)
    (sym (number_in c.loop-line.number number same) ∙ c.loop-line.invariant.1)

pub loop-line-preserved : goal.loop-line-preserved
loop-line-preserved c = (
  subst (λ (ts : List Told). Tell (take (c.loop-line.line-index + 1) (texts c.args.lines.now)) ts) (sym c.in_ok-push.ensures.items)
      (one_more c.args.lines.now c.loop-line.line-index _ c.loop-line.told.items c.in-Some.one c.loop-line-test.true c.loop-line.invariant.0 (sym c.in-Some.is ∙ c.in_ok-one.ensures)),
  ap (λ (n : ℕ). n + 1) c.loop-line.invariant.1,
)
