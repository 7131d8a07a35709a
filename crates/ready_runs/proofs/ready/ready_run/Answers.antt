-- Settings, plan and workers are judged in this order, and memory runs out only behind the first two.
use Rattle.std.proofs.Common.{◌∙◌}
use Rattle.suite_text.specs.Suites.{suite_parts}
use Rattle.launch_options.specs.Asked.{asked_by}
use Rattle.ready_runs.specs.Ready.{answers_of}
use Rattle.ready_runs.proofs.Planning.{made_ready, memory_fails, plan_fails, still_ready}
use Rattle.ready_runs.proofs.ready.ready_run.Goals as goal

pub returns-in_err-selected-clause-refused : goal.returns-in_err-selected-clause-refused
returns-in_err-selected-clause-refused g c =
    plan_fails (asked_by c.args.options.now) (suite_parts c.args.suite) c.in_ok-settings.settings c.in_ok-settings.ensures.exact c.in_err-selected.field-0.0 c.from_residual-in_err-selected.result c.from_residual-in_err-selected.ensures.1 c.in_err-selected.ensures.refused
    c.in_err-selected.ensures.no_memory

pub returns-in_err-head-clause-refused : goal.returns-in_err-head-clause-refused
returns-in_err-head-clause-refused g c =
    memory_fails (asked_by c.args.options.now) (suite_parts c.args.suite) c.in_ok-settings.settings c.in_ok-settings.ensures.exact c.in_ok-selected.ensures.accepted c.from_residual-in_err-head.result c.from_residual-in_err-head.ensures.1

pub returns-in_err-with_scripts-clause-refused : goal.returns-in_err-with_scripts-clause-refused
returns-in_err-with_scripts-clause-refused g c =
    memory_fails (asked_by c.args.options.now) (suite_parts c.args.suite) c.in_ok-settings.settings c.in_ok-settings.ensures.exact c.in_ok-selected.ensures.accepted c.from_residual-in_err-with_scripts.result c.from_residual-in_err-with_scripts.ensures.1

pub returns-clause-ready : goal.returns-clause-ready
returns-clause-ready g c =
    let suite = suite_parts c.args.suite in
    let ready = c.in_ok-with_scripts.field-0 in
    still_ready (asked_by c.args.options.now) suite c.in_ok-settings.settings ready.settings c.in_ok-selected.selected.plan ready.plan (answers_of suite.scripts) ready.answers c.in_ok-with_scripts.ensures.settings c.in_ok-with_scripts.ensures.plan c.in_ok-with_scripts.ensures.answers
    (made_ready (asked_by c.args.options.now) suite c.in_ok-settings.settings c.in_ok-settings.ensures.exact c.in_ok-selected.ensures.accepted c.in_ok-selected.selected.plan c.in_ok-selected.ensures.count c.in_ok-selected.ensures.plan c.in_ok-settings.ensures.some
    c.in_ok-selected.ensures.few c.in_ok-selected.ensures.guarded c.in_ok-selected.ensures.never_stuck)

pub returns-clause-missing : goal.returns-clause-missing
returns-clause-missing g c = c.in_ok-with_scripts.ensures.missing ∙ c.in_ok-selected.ensures.missing
