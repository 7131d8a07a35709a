-- What holds of the program holds of the tests that gave it.
use Rattle.std.proofs.Common.{IfErr, IfOk, Result, Ok, Err}
use Rattle.harness.proofs.run.run_tests.Goals as goal

if_ok : {G F : Type 0} {P Q : G → Type 0} (words : Result G F) → ((given : G) → P given → Q given) → IfOk words P → IfOk words Q
if_ok (Ok given) gives is = gives given is
if_ok (Err error) gives is = tt

if_err : {G F : Type 0} {P Q : F → Type 0} (words : Result G F) → ((error : F) → P error → Q error) → IfErr words P → IfErr words Q
if_err (Ok given) gives is = tt
if_err (Err error) gives is = gives error is

pub run_main-requires-clause-may : goal.run_main-requires-clause-may
run_main-requires-clause-may g c κs within = record {
  all = c.in_ok-jobs.ensures.has c.in_ok-tree.tree c.in_ok-tree.ensures.has;
  may_answer = λ plan workers ring. c.in_ok-jobs.ensures.may_answer plan workers ring (c.in_ok-tree.ensures.may_answer plan workers ring);
}

pub returns-clause-run : goal.returns-clause-run
returns-clause-run g c =
    rw (← c.into_inner.ensures, ← c.in_ok-tree.ensures.tree, ← c.in_ok-tree.ensures.properties, ← c.in_ok-tree.ensures.jobs, ← c.in_ok-jobs.ensures.items) (if_ok c.args.words (λ given is. record { before = _; after = _; runs = is }) c.run_main.ensures.run)

pub returns-clause-refused : goal.returns-clause-refused
returns-clause-refused g c =
    rw (← c.into_inner.ensures, ← c.in_ok-tree.ensures.tree, ← c.in_ok-tree.ensures.properties, ← c.in_ok-tree.ensures.jobs, ← c.in_ok-jobs.ensures.items) (if_err c.args.words (λ error is. (is.0, is.1, record { before = _; after = _; refuses = is.2 })) c.run_main.ensures.refused)
