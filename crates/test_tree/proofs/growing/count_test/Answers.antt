-- One job more is changed, if it has the number.
use Rattle.std.proofs.Common.{◌<◌, ◌==◌, cond, length, refl, rules}
use Rattle.test_bodies.specs.Bodies.{is_spent, with_test}
use Rattle.test_tree.proofs.Having.{fresh_next, map_further}
use Rattle.test_tree.proofs.growing.count_test.Goals as goal

pub loop-place-preserved : goal.loop-place-preserved
loop-place-preserved g c =
    let inside : c.loop-place.place < length c.args.jobs.now.items = search rules in
    let within : c.loop-place.place < length c.loop-place.jobs.items = search rules in
    map_further (λ job. cond (job.0 == c.args.number) (job.0, with_test job.1) job) c.args.jobs.now.items c.loop-place.jobs.items c.loop-place.place c.index_mut.result.now _ c.count_in.new.job inside within c.loop-place.invariant
    c.index_mut.ensures.value c.count_in.ensures

pub count_in-requires : goal.count_in-requires
count_in-requires g c =
    let within : c.loop-place.place < length c.loop-place.jobs.items = search rules in
    fresh_next is_spent with_test (λ job. refl) c.args.number c.args.jobs.now.items c.loop-place.jobs.items c.loop-place.place c.index_mut.result.now _ c.loop-place.invariant c.requires within c.index_mut.ensures.value
