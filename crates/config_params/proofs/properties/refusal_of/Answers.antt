use Rattle.std.proofs.Common.{◌≡◌, ◌∙◌, ◌+◌, length, ap, sym, refl, arith}
use Rattle.std.specs.Str.Iter.{lines_rest}
use Rattle.std.specs.Str.Lines.{lines}
use Rattle.config_params.specs.Properties.{fault_from}
use Rattle.config_params.proofs.Lines.{all_left, one_given, none_left, one_fewer, lines_few, faulty, passed}
use Rattle.config_params.proofs.properties.refusal_of.Goals as goal

pub loop-line-init : goal.loop-line-init
loop-line-init c = (tt, tt, (lines c.args.text.now, all_left _ c.args.text.now (ap lines_rest c.into_iter-line-iterator.ensures.into_iter_gives ∙ c.lines-line-items.ensures.rest), refl, refl))

pub returns-in-Err : goal.returns-in-Err
returns-in-Err c =
    let i = c.loop-line.invariant.2 in
    let g = one_given c.loop-line.line-iterator c.next.new.self c.in-Some.line i.0 i.1 c.in-Some.ensures.steps in
    faulty c.loop-line.number c.in-Some.line.now g.0 c.in-Err.fault _ c.in-Err.ensures (ap (fault_from c.loop-line.number) (sym g.1) ∙ i.2)

pub overflow_add-number : goal.overflow_add-number
overflow_add-number c =
    let i = c.loop-line.invariant.2 in
    let g = one_given c.loop-line.line-iterator c.next.new.self c.in-Some.line i.0 i.1 c.in-Some.ensures.steps in
    let few = lines_few c.args.text.now in
    let left : length i.0 ≡ 1 + length g.0 = one_fewer c.in-Some.line.now i.0 g.0 g.1 in
    let count : c.loop-line.number + length i.0 ≡ 1 + length (lines c.args.text.now) = i.3 in
    omega (arith, few, left, count)

pub loop-line-preserved : goal.loop-line-preserved
loop-line-preserved c =
    let i = c.loop-line.invariant.2 in
    let g = one_given c.loop-line.line-iterator c.next.new.self c.in-Some.line i.0 i.1 c.in-Some.ensures.steps in
    let left : length i.0 ≡ 1 + length g.0 = one_fewer c.in-Some.line.now i.0 g.0 g.1 in
    let count : c.loop-line.number + length i.0 ≡ 1 + length (lines c.args.text.now) = i.3 in
    (tt, tt, (g.0, g.2, passed c.loop-line.number c.in-Some.line.now g.0 _ _ c.in_default.ensures (ap (fault_from c.loop-line.number) (sym g.1) ∙ i.2), omega (arith, left, count)))

pub returns : goal.returns
returns c =
    let i = c.loop-line.invariant.2 in
    ap (fault_from c.loop-line.number) (sym (none_left c.loop-line.line-iterator c.next.new.self i.0 i.1 c.in-None.ensures.steps)) ∙ i.2
