-- The lesser of the first keys stands in one of the sets alone.
use Rattle.std.proofs.Common.{◌≡◌, ◌∷◌, ◌||◌, true, false, refl, arith}
use Rattle.std.proofs.lemmas.Grind.{common_steps}
use Rattle.std.specs.declared.cmp.Ordering.TheVariants.{Less, Equal, Greater}
use Rattle.resource_locks.specs.Wants.{is_write}
use Rattle.resource_locks.specs.LockSets.{key_cmp}
use Rattle.resource_locks.proofs.Conflicts.{less_remains, greater_remains, both_remain, conflict_met}
use Rattle.resource_locks.proofs.lock_set.are_in_conflict.Goals as goal

pub loop-lock-preserved-in-Less : goal.loop-lock-preserved-in-Less
loop-lock-preserved-in-Less c =
    let mine : c.loop-lock.mine.now ≡ c.in-Some-Some.lock.now ∷ c.in-Some-Some.later.now = grind (arith, common_steps) in
    let theirs : c.loop-lock.theirs.now ≡ c.in-Some-Some.rival.now ∷ c.in-Some-Some.rivals.now = grind (arith, common_steps) in
    let less : key_cmp c.in-Some-Some.lock.now.key c.in-Some-Some.rival.now.key ≡ Less = grind (arith, common_steps) in
    less_remains c.args.one.now c.args.other.now _ _ c.in-Some-Some.lock.now c.in-Some-Some.rival.now c.in-Some-Some.later.now c.in-Some-Some.rivals.now c.loop-lock.invariant mine theirs less

pub loop-lock-preserved-in-Greater : goal.loop-lock-preserved-in-Greater
loop-lock-preserved-in-Greater c =
    let mine : c.loop-lock.mine.now ≡ c.in-Some-Some.lock.now ∷ c.in-Some-Some.later.now = grind (arith, common_steps) in
    let theirs : c.loop-lock.theirs.now ≡ c.in-Some-Some.rival.now ∷ c.in-Some-Some.rivals.now = grind (arith, common_steps) in
    let greater : key_cmp c.in-Some-Some.lock.now.key c.in-Some-Some.rival.now.key ≡ Greater = grind (arith, common_steps) in
    greater_remains c.args.one.now c.args.other.now _ _ c.in-Some-Some.lock.now c.in-Some-Some.rival.now c.in-Some-Some.later.now c.in-Some-Some.rivals.now c.loop-lock.invariant mine theirs greater

pub loop-lock-preserved : goal.loop-lock-preserved
loop-lock-preserved c =
    let mine : c.loop-lock.mine.now ≡ c.in-Some-Some.lock.now ∷ c.in-Some-Some.later.now = grind (arith, common_steps) in
    let theirs : c.loop-lock.theirs.now ≡ c.in-Some-Some.rival.now ∷ c.in-Some-Some.rivals.now = grind (arith, common_steps) in
    let same : key_cmp c.in-Some-Some.lock.now.key c.in-Some-Some.rival.now.key ≡ Equal = grind (arith, common_steps) in
    let peace : (is_write c.in-Some-Some.lock.now.mode || is_write c.in-Some-Some.rival.now.mode) ≡ false = grind (arith, common_steps) in
    both_remain c.args.one.now c.args.other.now _ _ c.in-Some-Some.lock.now c.in-Some-Some.rival.now c.in-Some-Some.later.now c.in-Some-Some.rivals.now c.loop-lock.invariant mine theirs same peace

pub returns-then-one_writes : goal.returns-then-one_writes
returns-then-one_writes c =
    let mine : c.loop-lock.mine.now ≡ c.in-Some-Some.lock.now ∷ c.in-Some-Some.later.now = grind (arith, common_steps) in
    let theirs : c.loop-lock.theirs.now ≡ c.in-Some-Some.rival.now ∷ c.in-Some-Some.rivals.now = grind (arith, common_steps) in
    let same : key_cmp c.in-Some-Some.lock.now.key c.in-Some-Some.rival.now.key ≡ Equal = grind (arith, common_steps) in
    let writes : (is_write c.in-Some-Some.lock.now.mode || is_write c.in-Some-Some.rival.now.mode) ≡ true = grind (arith, common_steps) in
    (λ t. conflict_met c.args.one.now c.args.other.now _ _ c.in-Some-Some.lock.now c.in-Some-Some.rival.now c.in-Some-Some.later.now c.in-Some-Some.rivals.now c.loop-lock.invariant mine theirs same writes, λ t. refl)
