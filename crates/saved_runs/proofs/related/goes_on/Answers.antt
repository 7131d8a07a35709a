-- What follows the front begins with a slash.
use Rattle.std.proofs.Common.{◌∙◌, Some, None, ap, sym, eqb}
use Rattle.std.proofs.lemmas.Bool.Decides.{Decides-eqb}
use Rattle.std.proofs.lemmas.Slice.Eq.{strip_prefix_is}
use Rattle.std.specs.List.{starts_with}
use Rattle.saved_runs.proofs.Slashed.{slashed, unslashed}
use Rattle.saved_runs.proofs.related.goes_on.Goals as goal

pub returns-in-Some : goal.returns-in-Some
returns-in-Some c =
    c.starts_with.ensures.value ∙ ap (starts_with eqb c.in-Some.rest.now) c.as_slice.ensures
    ∙ slashed c.args.text.now c.args.front.now c.in-Some.rest.now (strip_prefix_is Decides-eqb c.args.text.now c.args.front.now (Some c.in-Some.rest) c.in-Some.ensures.cases)

pub returns-in-None : goal.returns-in-None
returns-in-None c = sym (unslashed c.args.text.now c.args.front.now (strip_prefix_is Decides-eqb c.args.text.now c.args.front.now None c.in-None.ensures.cases))
