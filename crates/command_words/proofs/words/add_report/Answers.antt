-- The report comes last, if there is one.
use Rattle.command_words.proofs.Wanting.{added, none_added}
use Rattle.command_words.proofs.words.add_report.Goals as goal

pub returns-in_ok-push-in-Some : goal.returns-in_ok-push-in-Some
returns-in_ok-push-in-Some c = added c.args.reports.now.items _ c.in-Some.asked c.args.text.now c.in_ok-push-in-Some.ensures.items c.in-Some.ensures

pub returns-in-None : goal.returns-in-None
returns-in-None c = none_added c.args.reports.now.items c.args.text.now c.in-None.ensures
