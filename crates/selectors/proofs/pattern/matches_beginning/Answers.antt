-- A piece that stands before a star is put where it may stand first.
use Rattle.std.proofs.Common.{◌∷◌, ◌++◌, reverse, sym, ap, ◌∙◌}
use Rattle.selectors.specs.NameEnds.{left_of}
use Rattle.selectors.specs.Patterns.{fits, some_end}
use Rattle.selectors.proofs.Patterns.{end_here}
use Rattle.selectors.proofs.Reading.{earliest, smaller}
use Rattle.selectors.proofs.pattern.matches_beginning.Goals as goal

pub returns-in-Ends-true : goal.returns-in-Ends-true
returns-in-Ends-true c =
    sym (c.loop-name.invariant.1 ∙ end_here (fits (reverse c.loop-name.pattern.now)) (left_of c.args.tree.now c.loop-name.name) (sym c.in-Ends-true.ensures ∙ c.in-Ends-true.field-0-test))

pub loop-name-smaller : goal.loop-name-smaller
loop-name-smaller c =
    let star = c.in-Star.ensures.1 in
    smaller c.loop-name.pattern.now c.in-Star.more.now star.0 (left_of c.args.tree.now c.loop-name.name) (left_of c.args.tree.now c.in-Star.rest) star.2 star.3

pub loop-name-preserved : goal.loop-name-preserved
loop-name-preserved c =
    let star = c.in-Star.ensures.1 in (
      c.in-Star.ensures.0,
      c.loop-name.invariant.1
          ∙ ap (λ p. some_end (fits p) (left_of c.args.tree.now c.loop-name.name)) star.2
          ∙ ap (some_end (fits (star.0 ++ 42 ∷ reverse c.in-Star.more.now))) star.3
          ∙ earliest star.0 (reverse c.in-Star.more.now) (left_of c.args.tree.now c.in-Star.rest) star.1,
    )
