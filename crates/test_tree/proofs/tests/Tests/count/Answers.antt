-- With one dynamic test more to be registered.
use Rattle.std.proofs.Common.{◌≡◌, true, refl, sym, ap, rules}
use Rattle.test_bodies.specs.Bodies.{is_spent, with_test}
use Rattle.test_tree.specs.Growing.{built, changed}
use Rattle.test_tree.specs.Jobs.{HasJobs, are_fresh}
use Rattle.test_tree.proofs.Grown.{carried}
use Rattle.test_tree.proofs.Having.{fresh_changed, has_changed}
use Rattle.test_tree.proofs.tests.Tests.count.Goals as goal

pub invariant_of-self : goal.invariant_of-self
invariant_of-self g c = record {
  has = carried (sym c.count_test.ensures) (λ jobs. HasJobs c.args.self.now.tree jobs) (has_changed with_test c.new.result c.args.self.now.tree c.args.self.now.jobs.items c.args.self.now.has);
  fresh = carried (sym c.count_test.ensures) (λ jobs. are_fresh is_spent jobs ≡ true) (fresh_changed is_spent with_test (λ job. refl) c.new.result c.args.self.now.jobs.items c.args.self.now.fresh);
  unspent = c.args.self.now.unspent;
  bare = c.args.self.now.bare;
}

pub returns-clause-counted : goal.returns-clause-counted
returns-clause-counted g c =
    let same : c.new.result ≡ c.args.factory = search rules in
    ap (λ jobs. built c.args.self.now.node_limit c.args.self.now.tree jobs c.args.self.now.marks c.args.self.now.body) (carried same (λ n. c.count_test.new.jobs.items ≡ changed with_test n c.args.self.now.jobs.items) c.count_test.ensures)
