-- What is for suites alone, settings, plan and workers are judged in this order, and memory runs out only behind the first three.
use Rattle.launch_options.specs.Asked.{asked_by}
use Rattle.ready_runs.specs.ReadyPrograms.{program_parts}
use Rattle.ready_runs.proofs.Planning.{made_ready, memory_fails, plan_fails}
use Rattle.ready_runs.proofs.ProgramRefusals.{fails_so, settings_fail, options_fail}
use Rattle.ready_runs.proofs.program.planned_program.Goals as goal

pub returns-in_err-refuse_suite_options-clause-refused : goal.returns-in_err-refuse_suite_options-clause-refused
returns-in_err-refuse_suite_options-clause-refused g c =
    options_fail (asked_by c.args.options.now) (program_parts c.args.tree c.args.properties) c.in_err-refuse_suite_options.field-0.0 c.from_residual.result c.from_residual.ensures.1 c.in_err-refuse_suite_options.ensures.refused.0 c.in_err-refuse_suite_options.ensures.refused.1

pub returns-in_err-settings-clause-refused : goal.returns-in_err-settings-clause-refused
returns-in_err-settings-clause-refused g c =
    settings_fail (asked_by c.args.options.now) (program_parts c.args.tree c.args.properties) c.in_ok-refuse_suite_options.ensures.accepted c.in_err-settings.field-0.0 c.from_residual-in_err-settings.result c.from_residual-in_err-settings.ensures.1 c.in_err-settings.ensures.exact

pub returns-in_err-selected-clause-refused : goal.returns-in_err-selected-clause-refused
returns-in_err-selected-clause-refused g c =
    let asked = asked_by c.args.options.now in
    let parts = program_parts c.args.tree c.args.properties in
    fails_so asked parts c.in_ok-refuse_suite_options.ensures.accepted c.from_residual-in_err-selected.result
    (plan_fails asked parts c.in_ok-settings.settings c.in_ok-settings.ensures.exact c.in_err-selected.field-0.0 c.from_residual-in_err-selected.result c.from_residual-in_err-selected.ensures.1 c.in_err-selected.ensures.refused c.in_err-selected.ensures.no_memory)

pub returns-in_err-head-clause-refused : goal.returns-in_err-head-clause-refused
returns-in_err-head-clause-refused g c =
    let asked = asked_by c.args.options.now in
    let parts = program_parts c.args.tree c.args.properties in
    fails_so asked parts c.in_ok-refuse_suite_options.ensures.accepted c.from_residual-in_err-head.result
    (memory_fails asked parts c.in_ok-settings.settings c.in_ok-settings.ensures.exact c.in_ok-selected.ensures.accepted c.from_residual-in_err-head.result c.from_residual-in_err-head.ensures.1)

pub returns-clause-ready : goal.returns-clause-ready
returns-clause-ready g c =
    made_ready (asked_by c.args.options.now) (program_parts c.args.tree c.args.properties) c.in_ok-settings.settings c.in_ok-settings.ensures.exact c.in_ok-selected.ensures.accepted c.in_ok-selected.selected.plan c.in_ok-selected.ensures.count c.in_ok-selected.ensures.plan
    c.in_ok-settings.ensures.some c.in_ok-selected.ensures.few c.in_ok-selected.ensures.guarded c.in_ok-selected.ensures.never_stuck
