-- Each key has a number.
use Rattle.std.proofs.Common.{length, refl, ap, arith}
use Rattle.std.proofs.lemmas.Option.{slice_get_read}
use Rattle.resource_locks.specs.Plans.{number_of}
use Rattle.resource_locks.proofs.keys.Keys.numbers.Goals as goal

pub unreachable-requires : goal.unreachable-requires
unreachable-requires c =
    let lock = c.lock-item.result in
    let at = slice_get_read c.args.locks.now (length c.args.locks.now) c.loop-lock.lock-index lock refl (omega arith) c.lock-item.is in
    let less = c.requires lock.key lock.mode (c.loop-lock.lock-index, at) in
    let past = c.in_default.ensures.none refl in
    let same = ap (number_of c.args.self.now) c.as_str.ensures in
    omega (arith, less, past, same)
