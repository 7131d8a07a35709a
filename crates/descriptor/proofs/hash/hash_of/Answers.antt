-- A hasher that was made anew begins as each of them.
use Rattle.std.proofs.Common.{ap, ◌∙◌}
use Rattle.std.specs.List.{fold}
use Rattle.std.specs.Hash.{str}
use Rattle.std.specs.Hash.FoldHasher.{write, finish}
use Rattle.descriptor.specs.Inside.Hashes.{hash_of}
use Rattle.descriptor.proofs.hash.hash_of.Goals as goal

pub returns : goal.returns
unfolding hash_of
returns c = c.hash_one.ensures ∙ ap (λ h. finish (fold write h (str c.args.text.now))) c.new.ensures
