-- The line of the plan's event, and that of a node's.
use Rattle.std.proofs.Common.{◌≡◌, ◌==◌, ◌++◌, ◌∙◌, Bool, true, false, cond, codes, sym, ap, string_bytes}
use Rattle.std.proofs.lemmas.Result.{on_ok_weaker}
use Rattle.run_results.specs.Feed.{ending, plan_line, node_front, node_line}
use Rattle.run_results.proofs.Pushing.{pushed, two_pieces}
use Rattle.run_results.proofs.feed.push_line.Goals as goal

pub returns-then-eq : goal.returns-then-eq
returns-then-eq c =
    let e = c.args.event in
    let at_root : true ≡ (e.node == 0) = sym c.if-eq.true ∙ c.eq.ensures in
    on_ok_weaker c.push_plan_line.result (λ last. last ∙ ap (λ (b : Bool). string_bytes c.args.feed.now ++ cond b (plan_line e) (node_line e c.args.id.now c.args.text.now)) at_root) c.push_plan_line.ensures

pub returns : goal.returns
returns c =
    let e = c.args.event in
    let old = string_bytes c.args.feed.now in
    let front = node_front e c.args.id.now in
    let end = ending e.kind e.status c.args.text.now in
    let below : false ≡ (e.node == 0) = sym c.if-eq.false ∙ c.eq.ensures in
    let written = two_pieces old front end c.in_ok-push_node_front.ensures c.in_ok-push_ending.ensures in
    on_ok_weaker c.push_str.result
    (λ last. two_pieces old (front ++ end) (codes "\n") written last ∙ ap (λ (b : Bool). old ++ cond b (plan_line e) (node_line e c.args.id.now c.args.text.now)) below)
    (pushed c.push_str.result (string_bytes c.push_str.new.self) (string_bytes c.push_ending.new.feed) (codes "\n") c.push_str.ensures.bytes)
