-- The value at the place of the key.
use Rattle.std.proofs.Common.{◌∙◌, sym}
use Rattle.config_params.proofs.Places.{valued, unvalued}
use Rattle.config_params.proofs.table.Table.value_of.Goals as goal

pub returns-in-Some : goal.returns-in-Some
returns-in-Some c = c.value_at.ensures ∙ sym (valued c.args.self.now c.args.key.now c.in-Some.place (sym c.place_of.ensures ∙ c.in-Some.is))

pub returns-in-None : goal.returns-in-None
returns-in-None c = sym (unvalued c.args.self.now c.args.key.now (sym c.place_of.ensures ∙ c.in-None.is))
