-- A key that is there has another value, one that is not comes last.
use Rattle.std.proofs.Common.{◌∙◌, ap, sym}
use Rattle.config_params.specs.Tables.{with_pair}
use Rattle.config_params.proofs.Places.{set_is, append_is}
use Rattle.config_params.proofs.table.Table.put.Goals as goal

pub returns-in-Some-clause-ok : goal.returns-in-Some-clause-ok
returns-in-Some-clause-ok c =
    c.set.ensures ∙ set_is c.args.self.now c.args.key.now _ c.in-Some.place (sym c.place_of.ensures ∙ c.in-Some.is) ∙ ap (λ v. with_pair c.args.self.now (c.args.key.now, v)) c.in_ok-value.ensures.ok

pub returns-in_ok-append-in-None-clause-ok : goal.returns-in_ok-append-in-None-clause-ok
returns-in_ok-append-in-None-clause-ok c =
    c.in_ok-append-in-None.ensures.ok ∙ append_is c.args.self.now c.args.key.now _ (sym c.place_of.ensures ∙ c.in-None.is) ∙ ap (λ v. with_pair c.args.self.now (c.args.key.now, v)) c.in_ok-value.ensures.ok
