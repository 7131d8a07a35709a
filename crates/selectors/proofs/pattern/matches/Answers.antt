-- The last piece stands at the end of the name.
use Rattle.std.proofs.Common.{◌∷◌, ◌++◌, reverse, sym, ap, ◌∙◌}
use Rattle.selectors.specs.NameEnds.{left_of}
use Rattle.selectors.specs.Patterns.{fits}
use Rattle.selectors.proofs.Reading.{same_front}
use Rattle.selectors.proofs.pattern.matches.Goals as goal

pub returns-in-Star : goal.returns-in-Star
returns-in-Star c =
    let star = c.in-Star.ensures.1 in
    c.matches_beginning.ensures
    ∙ sym (
    ap (λ p. fits p (left_of c.args.tree.now c.args.name)) star.2
    ∙ ap (fits (star.0 ++ 42 ∷ reverse c.in-Star.more.now)) star.3
    ∙ same_front star.0 (42 ∷ reverse c.in-Star.more.now) (left_of c.args.tree.now c.in-Star.rest) star.1
    )
