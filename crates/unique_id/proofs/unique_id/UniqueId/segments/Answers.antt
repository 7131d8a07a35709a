-- The segments' parts are text, as the id keeps it.
use Rattle.std.proofs.Common.{◌≡◌}
use Rattle.std.proofs.lemmas.List.Elements.{All-same}
use Rattle.unique_id.specs.Segments.{IsText}
use Rattle.unique_id.proofs.unique_id.UniqueId.segments.Goals as goal

pub returns-clause-texts : goal.returns-clause-texts
returns-clause-texts c =
    let same : c.args.self.now ≡ c.self.inside.path = cc in
    All-same IsText c.args.self.now c.self.inside.path same c.self.invariant.texts
