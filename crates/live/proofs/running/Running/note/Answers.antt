-- A test that finished is noted no more.
use Rattle.std.proofs.Common.{◌≡◌, ◌∙◌, ◌==◌, true, not, subst, sym, ap}
use Rattle.std.specs.Prelude.{All}
use Rattle.std.proofs.lemmas.List.Elements.{All-filter}
use Rattle.live.proofs.RunningTests.{nodes_but}
use Rattle.live.specs.RunningTests.{IsNamed, nodes_of, running_by}
use Rattle.live.proofs.running.Running.note.Goals as goal

pub returns-in-Finished : goal.returns-in-Finished
returns-in-Finished c =
    let tree = c.args.plan.now.tree in
    let old = c.args.self.now.tests.items in
    let n = c.args.event.node in
    record {
      all = λ all. sym c.end.ensures.all ∙ all;
      nodes = λ all. ap nodes_of c.end.ensures.tests ∙ nodes_but n old ∙ sym (ap (λ kind. running_by kind tree n (nodes_of old)) c.in-Finished.is);
      named = λ named. subst (All (IsNamed tree)) (sym c.end.ensures.tests) (All-filter (λ t. not (n == t.node)) (IsNamed tree) old named);
    }
