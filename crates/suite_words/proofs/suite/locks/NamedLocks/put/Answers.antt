-- The set of the locks so far and of one more.
use Rattle.std.proofs.Common.{◌≡◌, [], ◌∷◌, ◌++◌, ap, ◌∙◌, arith}
use Rattle.std.proofs.lemmas.Grind.{common_steps}
use Rattle.descriptor.specs.declared.lock.Lock.{Lock}
use Rattle.resource_locks.specs.LockSets.{put, of}
use Rattle.resource_locks.proofs.Puts.{join_more}
use Rattle.suite_words.proofs.suite.locks.NamedLocks.put.Goals as goal

pub returns : goal.returns
returns c =
    let lock : Lock = record { key = c.args.key.now; mode = c.args.mode } in
    let more : c.push.new.self.items ≡ c.self.inside.named.items ++ lock ∷ [] = grind (arith, common_steps) in
    ap of more ∙ join_more [] c.self.inside.named.items lock ∙ ap (put lock) c.self.view_is
