-- All of the arguments are in the list.
use Rattle.std.proofs.Common.{refl, rules}
use Rattle.std.proofs.lemmas.Iterator.Adapters.{YieldsList-from_vec}
use Rattle.std.proofs.lemmas.Iterator.Consumers.{map_from_collect}
use Rattle.std.specs.Vec.Iter.{into_iter_items}
use Rattle.command_words.proofs.Listing.{items_are}
use Rattle.command_words.proofs.system_words.listed.Goals as goal

pub returns : goal.returns
returns c = items_are c.collect.result (into_iter_items c.args.words) (map_from_collect c.collect.result c.collect.ensures.ran (YieldsList-from_vec (into_iter_items c.args.words) refl (search rules)))
