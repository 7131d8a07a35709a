-- What comes back is what was lent: a search finds that for each, but not below a λ.
use Rattle.std.proofs.Common.{◌≡◌, rules, IfOk, sym, subst}
use Rattle.thread_pool.specs.Runs.{HasRun}
use Rattle.thread_pool.proofs.running.run_in.Goals as goal

both_carried : {A B : Type 0} {a a2 : A} {b b2 : B} → a2 ≡ a → b2 ≡ b → (P : A → B → Type 0) → P a b → P a2 b2
both_carried {A} {B} same_a same_b P p = subst (λ (z : A × B). P z.0 z.1) (λ k. (sym same_a k, sym same_b k)) p

pub returns-in-Ok-clause-run : goal.returns-in-Ok-clause-run
returns-in-Ok-clause-run g c =
    let lent = c.run_scoped-ran.result in
    let there = subst (λ r. IfOk r (λ _. HasRun g.B.Job.answers g.O.Observer.saw c.args.state lent.state.now c.args.observer.now lent.observer.now)) c.in-Ok.is c.run_scoped-ran.ensures.run in
    both_carried {a = lent.state.now} {b = lent.observer.now} (search rules) (search rules)
    (λ d o. HasRun g.B.Job.answers g.O.Observer.saw c.args.state d c.args.observer.now o) there
