-- The units of the first of two shards.
use Rattle.std.proofs.Common.{◌≡◌, ℕ, ◌%◌, ◌==◌, Option, Some, Result, Ok, Err, IfOk, ap, ◌∙◌}
use Rattle.std.specs.Prelude.{unwrap_or}
use Rattle.descriptor.specs.Nodes.{Nodes}
use Rattle.descriptor.specs.declared.node.Node.{Node}
use Rattle.selectors.specs.declared.dealing.Dealing.TheVariants.{InTurn}
use Rattle.selectors.specs.Shards.{Part, gets, part_of, picked, shard, AreApart}
use Rattle.selectors.specs.Units.{units}

pub half : {E : Type 0} (t : Nodes) (part : Part) (result : Result Nodes E) → Some part ≡ part_of 1 2 InTurn → IfOk result (λ found. found ≡ shard t part)
    → (AreApart t → units (shard t part) ≡ picked (gets part) 0 (units t)) → IfOk result (λ found. AreApart t → units found ≡ picked (λ (place : ℕ) (_ : Node). place % 2 == 0) 0 (units t))
half t part (Ok found) given same law = λ apart. ap units same ∙ law apart ∙ ap (λ (p : Part). picked (gets p) 0 (units t)) (ap (λ (o : Option Part). unwrap_or o part) given)
half t part (Err e) given same law = same
