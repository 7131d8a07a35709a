use Rattle.std.proofs.Common.{◌∙◌, ap, sym, fold}
use Rattle.std.specs.Str.Iter.{lines_rest}
use Rattle.std.specs.Str.Lines.{lines}
use Rattle.config_params.specs.Properties.{pairs_of_lines}
use Rattle.config_params.specs.Tables.{with_pair}
use Rattle.config_params.proofs.Lines.{all_left, one_given, none_left, folded}
use Rattle.config_params.proofs.properties.table_of.Goals as goal

pub loop-line-init : goal.loop-line-init
loop-line-init c = (
  tt,
  tt,
  (
    lines c.args.text.now,
    all_left _ c.args.text.now (ap lines_rest c.into_iter-line-iterator.ensures.into_iter_gives ∙ c.lines-line-items.ensures.rest),
    ap (λ t. fold with_pair t (pairs_of_lines (lines c.args.text.now))) c.new-table.ensures,
  ),
)

pub loop-line-preserved : goal.loop-line-preserved
loop-line-preserved c =
    let i = c.loop-line.invariant.2 in
    let g = one_given c.loop-line.line-iterator c.next.new.self c.in-Some.line i.0 i.1 c.in-Some.ensures.steps in (
      tt,
      tt,
      (
        g.0,
        g.2,
        ap (λ t. fold with_pair t (pairs_of_lines g.0)) c.in_ok-put_line.ensures ∙ sym (folded c.loop-line.table c.in-Some.line.now g.0)
            ∙ ap (λ l. fold with_pair c.loop-line.table (pairs_of_lines l)) (sym g.1) ∙ i.2,
      ),
    )

pub returns : goal.returns
returns c =
    let i = c.loop-line.invariant.2 in
    ap (λ l. fold with_pair c.loop-line.table (pairs_of_lines l)) (sym (none_left c.loop-line.line-iterator c.next.new.self i.0 i.1 c.in-None.ensures.steps)) ∙ i.2
