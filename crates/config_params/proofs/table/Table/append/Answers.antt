-- The places stay those of the pairs.
use Rattle.std.proofs.Common.{◌≡◌, ◌++◌, ◌∷◌, [], length, map, ap, ◌∙◌, arith, string_bytes}
use Rattle.std.proofs.lemmas.Grind.{common_steps}
use Rattle.config_params.specs.Places.{bytes_of, place_in}
use Rattle.config_params.proofs.Places.{grown}
use Rattle.config_params.proofs.table.Table.append.Goals as goal

pub invariant_of-self-in-Ok : goal.invariant_of-self-in-Ok
invariant_of-self-in-Ok c =
    let more : map bytes_of c.push.new.self.items ≡ map bytes_of c.self.inside.pairs.items ++ (c.args.key.now, string_bytes c.args.value) ∷ [] = grind (arith, common_steps) in
    let name : string_bytes c.in_ok-name.name ≡ c.args.key.now = grind (arith, common_steps) in
    let last : c.len-place.result ≡ length (map bytes_of c.self.inside.pairs.items) = grind (arith, common_steps) in
    grown (map bytes_of c.self.inside.pairs.items) _ _ c.args.key.now (string_bytes c.args.value) _ c.self.inside.places c.insert.new.self more name last (ap (λ l. place_in l c.args.key.now) c.self.view_is ∙ c.requires) c.self.invariant c.in-Ok.ensures.updates
