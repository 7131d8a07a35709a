-- With one more after-body each node has its bodies, and none was run.
use Rattle.std.proofs.Common.{◌≡◌, true}
use Rattle.resource_locks.specs.Spares.{HasBareSpares}
use Rattle.suite_words.specs.Reading.After.{after_body}
use Rattle.test_bodies.specs.Bodies.{is_spent}
use Rattle.test_tree.specs.Building.{held}
use Rattle.test_tree.specs.Growing.{built, with_after_body}
use Rattle.test_tree.specs.Jobs.{HasJobs, are_fresh}
use Rattle.test_tree.proofs.Grown.{always, either_way, given_both, kept_both}
use Rattle.test_tree.proofs.Having.{bare_after, fresh_more, has_after}
use Rattle.test_tree.proofs.tests.Tests.add_after.Goals as goal

pub invariant_of-self : goal.invariant_of-self
invariant_of-self g c =
    let b = held c.args.self.now in
    let next = with_after_body b c.args.class c.args.body in
    let now = built b.node_limit c.put_after.new.tree c.put_after.new.jobs.items b.marks b.body in
    let ok = given_both c.put_after.result b c.args.class c.args.body c.put_after.new.tree c.put_after.new.jobs.items c.put_after.ensures.tree c.put_after.ensures.jobs in
    let err = kept_both c.put_after.result b c.put_after.new.tree c.put_after.new.jobs.items c.put_after.ensures.tree_kept c.put_after.ensures.jobs_kept in
    record {
      has = either_way c.put_after.result b next now ok err (λ x. HasJobs x.tree x.jobs) c.args.self.now.has (always c.put_after.result _ (has_after b.tree c.args.class (after_body c.args.class) b.jobs c.args.body c.args.self.now.has));
      fresh = either_way c.put_after.result b next now ok err (λ x. are_fresh is_spent x.jobs ≡ true) c.args.self.now.fresh (always c.put_after.result _ (fresh_more is_spent b.jobs (after_body c.args.class) c.args.body c.args.self.now.fresh c.requires));
      unspent = c.args.self.now.unspent;
      bare = either_way c.put_after.result b next now ok err (λ x. HasBareSpares x.tree) c.args.self.now.bare (always c.put_after.result _ (bare_after b.tree c.args.class (after_body c.args.class) c.args.self.now.bare));
    }

pub returns-clause-given : goal.returns-clause-given
returns-clause-given g c = given_both c.put_after.result (held c.args.self.now) c.args.class c.args.body c.put_after.new.tree c.put_after.new.jobs.items c.put_after.ensures.tree c.put_after.ensures.jobs

pub returns-clause-err : goal.returns-clause-err
returns-clause-err g c = kept_both c.put_after.result (held c.args.self.now) c.put_after.new.tree c.put_after.new.jobs.items c.put_after.ensures.tree_kept c.put_after.ensures.jobs_kept
