-- The places stay those of the names.
use Rattle.std.proofs.Common.{◌≡◌, ◌++◌, ◌∷◌, [], length, ap, ◌∙◌, arith, string_bytes, false}
use Rattle.std.specs.List.{list_any}
use Rattle.std.specs.Str.{bytes_eq}
use Rattle.std.proofs.lemmas.Grind.{common_steps}
use Rattle.resource_locks.proofs.NamePlaces.{grown, nowhere}
use Rattle.resource_locks.proofs.lock_names.LockNames.append.Goals as goal

pub invariant_of-self-in-Ok : goal.invariant_of-self-in-Ok
invariant_of-self-in-Ok c =
    let more : c.push.new.self.items ≡ c.self.inside.names.items ++ c.args.name.now ∷ [] = grind (arith, common_steps) in
    let key : string_bytes c.in_ok-key.key ≡ c.args.name.now = grind (arith, common_steps) in
    let last : c.len-place.result ≡ length c.self.inside.names.items = grind (arith, common_steps) in
    let new : list_any (bytes_eq c.args.name.now) c.self.inside.names.items ≡ false = ap (λ l. list_any (bytes_eq c.args.name.now) l) c.self.view_is ∙ c.requires in
    grown c.self.inside.names.items _ _ c.args.name.now _ c.self.inside.places c.insert.new.self more key last (nowhere c.self.inside.names.items c.args.name.now new) c.self.invariant c.in-Ok.ensures.updates
